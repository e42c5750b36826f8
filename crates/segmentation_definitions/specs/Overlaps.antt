-- Where two rules of a lexicon overlap in a form (after Huet 2005; limits by phases are own), and the order of overlaps (own).
use Rattle.std.specs.Prelude.{◌≡◌, ℕ, ◌<◌, List, ◌++◌, length}
use Rattle.std.specs.declared.cmp.Ordering.{Ordering}
use Rattle.std.specs.Ordering.{nat_cmp, ordering_then}
use Rattle.text_definitions.specs.Words.{compare_words}
use Rattle.lexicon_definitions.specs.Rules.{IsInner, HasPhase}
use Rattle.lexicon_definitions.specs.Lexicons.{Lexicon, rule_of, IsForm}
use Rattle.segmentation_definitions.specs.Derivations.{IsRuleNumber}

-- a form of a phase, and the numbers of the rules before and after it
pub record Overlap : Type 0 where
  pub phase : ℕ
  pub form : List ℕ
  pub before : ℕ
  pub after : ℕ

-- it is an overlap of the lexicon: a form of a phase, an inner rule with the phase in its after whose v begins the form, and a
-- rule with the phase in its before whose u ends it, where v and u together are longer than the form
pub record IsOverlap (lexicon : Lexicon) (overlap : Overlap) : Type 0 where
  pub of_phase : IsForm lexicon overlap.phase overlap.form
  pub inner : IsRuleNumber lexicon.rules overlap.before × IsInner (rule_of lexicon.rules overlap.before)
  pub rule : IsRuleNumber lexicon.rules overlap.after
  pub precedes : HasPhase (rule_of lexicon.rules overlap.before).after overlap.phase
  pub follows : HasPhase (rule_of lexicon.rules overlap.after).before overlap.phase
  pub begins : (rest : List ℕ) × (overlap.form ≡ (rule_of lexicon.rules overlap.before).v ++ rest)
  pub ends : (front : List ℕ) × (overlap.form ≡ front ++ (rule_of lexicon.rules overlap.after).u)
  pub longer : length overlap.form < length ((rule_of lexicon.rules overlap.before).v ++ (rule_of lexicon.rules overlap.after).u)

-- overlaps are ordered by phase, then by form, then by the rule before, then by the rule after
abbrev pub compare_overlaps : Overlap → Overlap → Ordering
compare_overlaps left right =
    ordering_then (nat_cmp left.phase right.phase)
    (ordering_then (compare_words left.form right.form)
    (ordering_then (nat_cmp left.before right.before) (nat_cmp left.after right.after)))
