-- The ways are orderly: keys that compare as equal are the same; steps over one word with the same keys are the same; and
-- steps after which a form has room do not cover the whole word where the last of them ends well. Ranks rise, since a form
-- is not empty and neither is a rule's w.
use Rattle.std.proofs.Common.{◌≡◌, ℕ, ◌*◌, ◌<◌, ◌≤◌, ◌⊎◌, inl, inr, List, [], ◌∷◌, ◌++◌, length, refl, sym, ap, subst, ◌∙◌, arith}
use Rattle.text_definitions.specs.Lines.{Line}
use Rattle.lexicon_definitions.specs.Lexicons.{Lexicon, RuleSet, IsLexicon, IsForm}
use Rattle.lexicon_definitions.proofs.GrammarLists.{all_right}
use Rattle.segmentation_definitions.specs.Derivations.{Step, rule_after, IsRuleNumber, EndsWell, Covers}
use Rattle.segmentation_definitions.specs.Items.{Choice}
use Rattle.segmentation_definitions.specs.Answers.{IsAnswer}
use Rattle.segmentation_definitions.specs.Listings.{Key}
use Rattle.segmentation_definitions.specs.Configurations.{Start, entrance_after, GoesOn, IsFront}
use Rattle.segmentation_definitions.proofs.Coverings.{form_not_empty, covered_length, takes_first, unchanged_at_zero, Unchanged, Changed, rule_after_of_number}
use Rattle.segmentation_definitions.proofs.Fronts.{lead_after, covers_split, ends_right}
use Rattle.segmentation_definitions.proofs.KeyLists.{compare_keys_total, compare_keys_exact, same_steps}
use Rattle.segmentation_definitions.proofs.RisingRanks.{after_lead_cases}
use Rattle.listing_laws.specs.Ways.{AreOrderly, AreRanked}
use Rattle.answer_paths.specs.Fronts.{supplied, HasRoom, AddsStep, ways_of, rank}
use Rattle.answer_paths.proofs.FrontParts.{covered-append, lead-append, supplied_after, left_after, goes_on_last}

-- where one key was added to the same front, the same steps are made
same_more : (rules : RuleSet) (front : List Step) (key : Key) (left right : List Step) (word rest other : List ℕ)
    → AddsStep rules front key left → AddsStep rules front key right → Covers rules [] left word rest → Covers rules [] right word other
    → left ≡ right
same_more rules front key left right word rest other p q h k =
    same_steps rules left right 0 0 [] [] word word rest other refl refl h k (p.keys ∙ sym q.keys)

-- the lead after a front with one step more is the v after that step
pub lead_of_last : (rules : RuleSet) (front : List Step) (step : Step)
    → length (supplied (entrance_after rules Start (front ++ step ∷ []))) ≡ length (rule_after rules step).v
lead_of_last rules front step =
    ap length (sym (supplied_after rules (front ++ step ∷ []))) ∙ ap length (lead-append rules [] front step)

-- after a step that ends well no lead is supplied
no_lead_at_end : (rules : RuleSet) (step : Step) → EndsWell rules (step ∷ []) → length (rule_after rules step).v ≡ 0
no_lead_at_end rules step (inl none) = (unchanged_at_zero rules step.rule none).v_empty
no_lead_at_end rules step (inr final) = ap length final.1

-- what has room is no answer
room_is_no_answer : (lexicon : Lexicon) (line : Line) (choices : List Choice) (front : List Step) (step : Step)
    → HasRoom lexicon.rules (length line.letters) (front ++ step ∷ []) → IsAnswer lexicon line choices (front ++ step ∷ []) → ⊥
room_is_no_answer lexicon line choices front step room answer =
    let none = no_lead_at_end lexicon.rules step (ends_right lexicon.rules front step [] answer.derives.ends) in
    let lead = lead_of_last lexicon.rules front step in
    let all = covered_length lexicon.rules 0 [] (front ++ step ∷ []) line.letters [] answer.derives.covers in
    elim room [ inl some ↦ omega (arith, none, lead, some) | inr below ↦ omega (arith, all, below) ]

not_both : (lexicon : Lexicon) (line : Line) (choices : List Choice) (front : List Step) (key : Key) (next : List Step)
    → (ways_of lexicon line choices).ends front key → (ways_of lexicon line choices).leads front key next → ⊥
not_both lexicon line choices front key next (steps, adds, answer) (other, goes) =
    let same = same_more lexicon.rules front key steps next line.letters [] goes.lawful.rest adds other answer.derives.covers goes.lawful.covers in
    let next_is = other.is in
    room_is_no_answer lexicon line choices front other.step
    (subst (HasRoom lexicon.rules (length line.letters)) next_is goes.room)
    (subst (IsAnswer lexicon line choices) (same ∙ next_is) answer)

pub ways_orderly : (lexicon : Lexicon) (line : Line) (choices : List Choice) → AreOrderly (ways_of lexicon line choices)
ways_orderly lexicon line choices = record {
  total = compare_keys_total;
  same = λ at left right p q e. compare_keys_exact left right e;
  one_way = λ at key next other p q.
      same_more lexicon.rules at key next other line.letters p.1.lawful.rest q.1.lawful.rest p.0 q.0 p.1.lawful.covers q.1.lawful.covers;
  not_both = λ at key next ends leads. not_both lexicon line choices at key next ends leads;
}

-- ---- ranks

number_of_last : (rules : RuleSet) (step : Step) → GoesOn rules (step ∷ []) → (step.rule ≡ 0) ⊎ IsRuleNumber rules step.rule
number_of_last rules step (inl none) = inl none
number_of_last rules step (inr inner) = inr inner.0

rises : (lexicon : Lexicon) (line : Line) (front : List Step) (step : Step) → IsLexicon lexicon
    → IsFront lexicon (front ++ step ∷ []) line.letters → rank lexicon.rules front < rank lexicon.rules (front ++ step ∷ [])
rises lexicon line front step is lawful =
    let rules = lexicon.rules in
    let both = covers_split rules [] front (step ∷ []) line.letters lawful.rest lawful.covers in
    let second = both.second in
    let lead = lead_after rules [] front in
    let first = takes_first rules lead step both.between second.0 second.1 second.2 second.3 in
    let forms = all_right (λ (step : Step). IsForm lexicon step.phase step.form) front (step ∷ []) lawful.forms in
    let some = form_not_empty lexicon step.phase step.form is forms.0 in
    let goes = goes_on_last rules front step lawful.goes_on in
    let rule = rule_after_of_number rules step is.rules (number_of_last rules step goes) in
    let covered = covered-append rules 0 [] front (step ∷ []) in
    let here = after_lead_cases (length (supplied (entrance_after rules Start front))) in
    let there = after_lead_cases (length (supplied (entrance_after rules Start (front ++ step ∷ [])))) in
    let same = ap length (supplied_after rules front) in
    let last = lead_of_last rules front step in
    elim rule [
      | Unchanged none empty ↦ omega (arith, first.parts, some, covered, here, there, same, last, empty.u_empty, empty.v_empty, empty.w_empty)
      | Changed number u w ↦ omega (arith, covered, here, there, w)
    ]

within : (rules : RuleSet) (letters : ℕ) (front : List Step) (word rest : List ℕ) → letters ≡ length word → Covers rules [] front word rest
    → HasRoom rules letters front → rank rules front ≤ 2 * letters
within rules letters front word rest e covers room =
    let left = left_after rules front word rest covers in
    let here = after_lead_cases (length (supplied (entrance_after rules Start front))) in
    elim room [ inl some ↦ omega (arith, left.all, here, some, e) | inr below ↦ omega (arith, here, below) ]

pub ways_ranked : (lexicon : Lexicon) (line : Line) (choices : List Choice) → IsLexicon lexicon
    → AreRanked (ways_of lexicon line choices) (rank lexicon.rules) (2 * length line.letters)
ways_ranked lexicon line choices is = record {
  rises = λ at key next leads.
      let e = leads.0.is in
      subst (λ next. rank lexicon.rules at < rank lexicon.rules next) (sym e)
      (rises lexicon line at leads.0.step is (subst (λ next. IsFront lexicon next line.letters) e leads.1.lawful));
  within = λ at key next leads.
      within lexicon.rules (length line.letters) next line.letters leads.1.lawful.rest refl leads.1.lawful.covers leads.1.room;
}
