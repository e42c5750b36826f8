-- What a key that takes a letter of the line does is what its change does after its letters, wherever its form begins.
use Rattle.std.proofs.Common.{◌≡◌, ℕ, ◌+◌, ◌-◌, ◌==◌, ◌<◌, ◌≤◌, ◌↔◌, Bool, true, false, IsTrue, List, ◌++◌, All, length, take, drop, refl, sym, ap, ◌∙◌, arith, length-drop, length-append}
use Rattle.std.specs.Prelude.{if◌then◌else◌, slice_index}
use Rattle.std.proofs.lemmas.Bool.{eqb-true}
use Rattle.std.proofs.lemmas.List.{append_assoc, get_or_append_left, get_or-append-add, get_or-take, get_or-drop, length-take-le}
use Rattle.text_definitions.specs.Lines.{Line}
use Rattle.lexicon_definitions.specs.Lexicons.{RuleSet, rule_of}
use Rattle.list_laws.proofs.Elements.{written_within}
use Rattle.segmentation_definitions.specs.Configurations.{Entrance, Plain, Lead, entrance_after_step, last_letter}
use Rattle.segmentation_definitions.specs.Items.{Choice}
use Rattle.segmentation_definitions.specs.Listings.{Key}
use Rattle.segmentation_definitions.proofs.Coverings.{unchanged_at_zero}
use Rattle.derivation.specs.declared.entrance.Entrance.{Entrance as ProgramEntrance}
use Rattle.annotated_trie.specs.AlikePhases.{IsAlike}
use Rattle.annotated_trie.specs.Searched.{SearchedLexicon}
use Rattle.answer_paths.specs.Following.{MayStand, step_at}
use Rattle.answer_paths.specs.Fronts.{supplied}
use Rattle.search_frames.specs.Ahead.{FitsPlace}
use Rattle.search_frames.specs.Configurations.{NumberedConfiguration, rules_in}
use Rattle.search_frames.specs.LetterTests.{MayEndLine, MayLeadTo}
use Rattle.summary_chart.specs.Walked.{ChangeStands, ChangeLeadsTo, ChangeEnds, entrance_by}
use Rattle.summary_chart.proofs.AlikeKeys.{follows_alike}

-- where two tests choose the same, they choose the same of what they share
chosen_same : (test : Bool) (one other rest : Entrance) → (test ≡ true → one ≡ other) → (if test then one else rest) ≡ (if test then other else rest)
chosen_same true one other rest same = same refl
chosen_same false one other rest same = refl

-- the last letter of some letters of a line, after which nothing stands, is the one before their end
last_of_taken : (lead letters rest : List ℕ) (at taken : ℕ) → 0 < taken → at + taken ≤ length letters → length rest ≡ 0
    → last_letter (lead ++ take taken (drop at letters) ++ rest) ≡ slice_index letters (at + taken - 1)
last_of_taken lead letters rest at taken some within none =
    let left = length-drop at letters in
    let middle = take taken (drop at letters) in
    let count : length middle ≡ taken = length-take-le taken (drop at letters) (omega (arith, left, within)) in
    let whole = length-append lead (middle ++ rest) in
    let part = length-append middle rest in
    let place : length (lead ++ (middle ++ rest)) - 1 ≡ length lead + (taken - 1) = omega (arith, whole, part, count, none, some) in
    ap last_letter (append_assoc lead middle rest)
    ∙ ap (λ (n : ℕ). slice_index (lead ++ (middle ++ rest)) n) place
    ∙ get_or-append-add lead (middle ++ rest) (taken - 1) 0
    ∙ get_or_append_left middle rest 0 (taken - 1) (omega (arith, count, some))
    ∙ get_or-take taken (drop at letters) (taken - 1) 0 (omega (arith, some))
    ∙ get_or-drop at letters (taken - 1) 0
    ∙ ap (λ (n : ℕ). slice_index letters n) (omega (arith, some))

module _ (searched : SearchedLexicon) (line : Line) (choices : List Choice) (here : NumberedConfiguration) (key : Key) (some : 0 < key.taken) where
  -- the form after it is entered as after its change
  pub entered_same : here.at + key.taken ≤ length line.letters
      → entrance_after_step (rules_in searched) (step_at (rules_in searched) line here.at here.entrance key) ≡ entrance_by (rules_in searched) line (here.at + key.taken) key.rule
  entered_same within =
      let rule = rule_of (rules_in searched) key.rule in
      let lead = supplied here.entrance in
      chosen_same (key.rule == 0) (Plain (last_letter (lead ++ take key.taken (drop here.at line.letters) ++ rule.u))) (Plain (slice_index line.letters (here.at + key.taken - 1)))
      (Lead rule.v rule.after)
      (λ none. ap Plain (last_of_taken lead line.letters rule.u here.at key.taken some within (unchanged_at_zero (rules_in searched) key.rule (eqb-true key.rule 0 none)).u_empty))

  -- a key that may stand has a change that stands after its letters
  change_stands : MayStand searched.lexicon line choices here.at here.entrance key → ChangeStands (rules_in searched) line (here.at + key.taken) key.phase key.rule
  change_stands stands = record { follows = stands.follows; written = stands.written }

  -- and the other way, if it fits the place
  stands_by : FitsPlace searched line choices here key → ChangeStands (rules_in searched) line (here.at + key.taken) key.phase key.rule
      → MayStand searched.lexicon line choices here.at here.entrance key
  stands_by fits stands = record {
    number = fits.number;
    within = fits.within;
    form = fits.form;
    follows = stands.follows;
    written = stands.written;
    enters = fits.enters;
    blanks = fits.blanks;
    allowed = fits.allowed;
  }

  -- where it leads on to, its change leads on to
  pub change_leads : (at : ℕ) (entrance : ProgramEntrance) → MayLeadTo searched line choices here key at entrance
      → ChangeLeadsTo (rules_in searched) line (here.at + key.taken) key.phase key.rule at entrance
  change_leads at entrance may = record {
    stands = change_stands may.may.stands;
    inner = may.may.inner;
    left = may.may.left;
    at_is = may.at_is;
    entrance_is = may.entrance_is ∙ entered_same may.may.stands.within;
    over = may.over;
  }

  -- and the other way, if it fits the place
  pub leads_by_change : (at : ℕ) (entrance : ProgramEntrance) → FitsPlace searched line choices here key
      → ChangeLeadsTo (rules_in searched) line (here.at + key.taken) key.phase key.rule at entrance → MayLeadTo searched line choices here key at entrance
  leads_by_change at entrance fits leads = record {
    may = record { stands = stands_by fits leads.stands; inner = leads.inner; left = leads.left };
    at_is = leads.at_is;
    entrance_is = leads.entrance_is ∙ sym (entered_same fits.within);
    within = omega (arith, leads.at_is, written_within line.letters (rule_of (rules_in searched) key.rule).w (here.at + key.taken) fits.within leads.stands.written);
    over = leads.over;
  }

  module _ (may_end : Bool) (says : IsTrue may_end ↔ All (λ blank. blank ≤ here.at) line.blanks) where
    -- where it ends the line, its change does
    pub change_ends : MayEndLine searched line choices here key → ChangeEnds (rules_in searched) line (here.at + key.taken) may_end key.phase key.rule
    change_ends may = record { stands = change_stands may.stands; final_rule = may.final_rule; all = may.all; may = says.1 may.blanks_before }

    -- and the other way, if it fits the place
    pub ends_by_change : FitsPlace searched line choices here key → ChangeEnds (rules_in searched) line (here.at + key.taken) may_end key.phase key.rule
        → MayEndLine searched line choices here key
    ends_by_change fits ends = record { stands = stands_by fits ends.stands; final_rule = ends.final_rule; all = ends.all; blanks_before = says.0 ends.may }

-- ---- phases that no rule tells apart

module _ (rules : RuleSet) (line : Line) (one other : ℕ) (alike : IsAlike rules one other) (end rule : ℕ) (within : rule ≤ length rules.rules) where
  stands_alike : ChangeStands rules line end one rule → ChangeStands rules line end other rule
  stands_alike stands = record { follows = λ some. follows_alike rules one other alike rule some within (stands.follows some); written = stands.written }

  -- what a change does after a form of the one phase it does after one of the other
  pub leads_alike : (at : ℕ) (entrance : ProgramEntrance) → ChangeLeadsTo rules line end one rule at entrance → ChangeLeadsTo rules line end other rule at entrance
  leads_alike at entrance leads = record {
    stands = stands_alike leads.stands;
    inner = leads.inner;
    left = leads.left;
    at_is = leads.at_is;
    entrance_is = leads.entrance_is;
    over = leads.over;
  }

  pub ends_alike : (may_end : Bool) → ChangeEnds rules line end may_end one rule → ChangeEnds rules line end may_end other rule
  ends_alike may_end ends = record { stands = stands_alike ends.stands; final_rule = ends.final_rule; all = ends.all; may = ends.may }
