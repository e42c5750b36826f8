-- The first overlaps of a lexicon, whether one is left after them, and how they are printed (own).
use Rattle.std.specs.Prelude.{◌≡◌, ℕ, ◌≤◌, Bool, true, List, [], ◌∷◌, ◌++◌, length, codes}
use Rattle.std.specs.Fmt.{decimal}
use Rattle.list_laws.specs.Firsts.{AreFirst}
use Rattle.text_definitions.specs.Slp1.{slp1_of_word}
use Rattle.lexicon_definitions.specs.Rules.{printed_rule}
use Rattle.lexicon_definitions.specs.Lexicons.{Lexicon, RuleSet, rule_of}
use Rattle.lexicon_definitions.specs.Limits.{count_lines}
use Rattle.segmentation_definitions.specs.Overlaps.{Overlap, IsOverlap, compare_overlaps}
use Rattle.segmentation_definitions.specs.PrintedAnswers.{name_of, output_line, printed_rest}

-- these are the first overlaps of the lexicon, at most so many, and where more is true others are left after that many
pub record AreFirstOverlaps (lexicon : Lexicon) (most : ℕ) (overlaps : List Overlap) (more : Bool) : Type 0 where
  pub first : AreFirst compare_overlaps (IsOverlap lexicon) overlaps more
  pub at_most : length overlaps ≤ most
  pub full : more ≡ true → length overlaps ≡ most

-- `overlap PHASE FORM RULE RULE`: the name of the phase, the form in SLP1, the rule before it and the rule after it
abbrev pub printed_overlap : RuleSet → Overlap → List ℕ
printed_overlap rules overlap =
    codes "overlap " ++ name_of rules overlap.phase ++ codes " " ++ slp1_of_word overlap.form ++ codes " "
    ++ printed_rule (rule_of rules overlap.before) ++ codes " " ++ printed_rule (rule_of rules overlap.after)

-- the overlaps, a line each
abbrev pub printed_overlaps : RuleSet → List Overlap → List ℕ
printed_overlaps rules [] = []
printed_overlaps rules (overlap ∷ overlaps) = output_line (printed_overlap rules overlap) ++ printed_overlaps rules overlaps

-- how many phases, rules and form lines the lexicon has, a line each
abbrev pub printed_counts : Lexicon → List ℕ
printed_counts lexicon =
    output_line (codes "phases " ++ decimal (length lexicon.rules.names))
    ++ output_line (codes "rules " ++ decimal (length lexicon.rules.rules))
    ++ output_line (codes "forms " ++ decimal (count_lines lexicon.phases))

-- the counts of the lexicon, the overlaps, and `more` or `end`
abbrev pub printed_check : Lexicon → List Overlap → Bool → List ℕ
printed_check lexicon overlaps more =
    printed_counts lexicon ++ printed_overlaps lexicon.rules overlaps ++ printed_rest more
