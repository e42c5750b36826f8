-- An answer has at most twice as many steps as the line has letters, each of them one of finitely many, and it is decided which
-- lists of these are answers: so the listing above a cursor is there, with it each page, and of its items the summary.
use Rattle.std.proofs.Common.{◌≡◌, ◌≢◌, inl, inr, ℕ, ◌+◌, ◌*◌, ◌≤◌, ◌↔◌, Bool, true, false, IsTrue, List, [], ◌∷◌, length, map, take, drop, refl, arith, Ordering}
use Rattle.std.specs.List.{AllByRecursion, Contains, flat_map}
use Rattle.std.specs.Ordering.{nat_cmp}
use Rattle.std.specs.declared.cmp.Ordering.TheVariants.{Less, Equal, Greater}
use Rattle.std.proofs.lemmas.Map.Lookups.{exact_unsigned, exact_bytes}
use Rattle.list_laws.proofs.FirstOnes.{Contains-map}
use Rattle.list_laws.proofs.Orderings.{equal_then_both}
use Rattle.text_definitions.specs.Words.{compare_words}
use Rattle.text_definitions.specs.Lines.{Line}
use Rattle.lexicon_definitions.specs.Lexicons.{Lexicon, RuleSet, Form, forms_of, IsForm, IsLexicon}
use Rattle.segmentation_definitions.specs.Derivations.{Step, AreForms, AreJoined, EndsWell, Meets}
use Rattle.segmentation_definitions.specs.Items.{Item, items_of, after_lead, Choice}
use Rattle.segmentation_definitions.specs.Answers.{IsAnswer}
use Rattle.segmentation_definitions.specs.Listings.{compare_answers, compare_items, Cursor, BeforeFirst, AtAnswer, PastLast, IsAbove, IsListingAbove, IsPage, IsItemOfAnswer, IsSummary}
use Rattle.segmentation_definitions.proofs.Coverings.{phase_within}
use Rattle.segmentation_definitions.proofs.ItemOrder.{compare_items_total}
use Rattle.segmentation_definitions.proofs.KeyLists.{compare_answers_total, compare_key_lists_exact, same_steps}
use Rattle.segmentation_definitions.proofs.Listings.{same_as_front}
use Rattle.segmentation_definitions.proofs.RisingRanks.{steps_bounded}
use Rattle.existence_laws.proofs.Decisions.{Decided, both}
use Rattle.existence_laws.proofs.FiniteLists.{numbers_below, Contains-numbers_below, Contains-flat_map, Contains-flat_map_cases, lists_up_to, Contains-lists_up_to, all_that_have}
use Rattle.existence_laws.proofs.AnswerDecisions.{is_answer}

-- ---- the steps that an answer may have

abbrev steps_with : ℕ → ℕ → List ℕ → List Step
steps_with most phase form = map (λ number. record { phase = phase; form = form; rule = number }) (numbers_below (most + 1))

abbrev steps_in : Lexicon → ℕ → List Step
steps_in lexicon phase =
    flat_map (steps_with (length lexicon.rules.rules) phase) (map (λ (form : Form). form.letters) (forms_of lexicon phase))

-- each phase, each of its forms, and each number of a rule and 0
abbrev all_steps : Lexicon → List Step
all_steps lexicon = flat_map (steps_in lexicon) (numbers_below (length lexicon.phases))

step_is_one : (lexicon : Lexicon) (step : Step) → IsForm lexicon step.phase step.form → step.rule ≤ length lexicon.rules.rules
    → Contains (all_steps lexicon) step
step_is_one lexicon step form rule =
    let most = length lexicon.rules.rules in
    Contains-flat_map (steps_in lexicon) (numbers_below (length lexicon.phases)) step.phase step
    (Contains-numbers_below (length lexicon.phases) step.phase (phase_within lexicon step.phase step.form form))
    (Contains-flat_map (steps_with most step.phase) (map (λ (f : Form). f.letters) (forms_of lexicon step.phase)) step.form step form
    (Contains-map (λ (number : ℕ). record { phase = step.phase; form = step.form; rule = number }) (numbers_below (most + 1)) step.rule
    (Contains-numbers_below (most + 1) step.rule (omega arith))))

within_if_met : (rules : RuleSet) (step next : Step) → Meets rules step next → step.rule ≤ length rules.rules
within_if_met rules step next meets = elim meets [ inl plain ↦ omega (arith, plain.0) | inr inner ↦ inner.0.0.1 ]

within_if_last : (rules : RuleSet) (step : Step) → EndsWell rules (step ∷ []) → step.rule ≤ length rules.rules
within_if_last rules step ends = elim ends [ inl none ↦ omega (arith, none) | inr final ↦ final.0.1 ]

steps_are_some : (lexicon : Lexicon) (steps : List Step) → AreForms lexicon steps → AreJoined lexicon.rules steps → EndsWell lexicon.rules steps
    → AllByRecursion (Contains (all_steps lexicon)) steps
steps_are_some lexicon [] forms joined ends = tt
steps_are_some lexicon (step ∷ []) forms joined ends =
    (step_is_one lexicon step forms.0 (within_if_last lexicon.rules step ends), tt)
steps_are_some lexicon (step ∷ next ∷ steps) forms joined ends = (
  step_is_one lexicon step forms.0 (within_if_met lexicon.rules step next joined.0),
  steps_are_some lexicon (next ∷ steps) forms.1 joined.1 ends,
)

-- ---- the listing above a cursor

is_less : (order : Ordering) → Decided (order ≡ Less)
is_less Less = inl refl
is_less Equal = inr (λ e. cc)
is_less Greater = inr (λ e. cc)

is_above : (rules : RuleSet) (cursor : Cursor) (steps : List Step) → Decided (IsAbove rules cursor steps)
is_above rules BeforeFirst steps = inl tt
is_above rules (AtAnswer at) steps = is_less (compare_answers rules at steps)
is_above rules PastLast steps = inr (λ h. absurd h)

module _ (lexicon : Lexicon) (line : Line) (choices : List Choice) (is : IsLexicon lexicon) where
  -- answers that compare as equal are the same
  answers_exact : (left right : List Step) → IsAnswer lexicon line choices left → IsAnswer lexicon line choices right
      → compare_answers lexicon.rules left right ≡ Equal → left ≡ right
  answers_exact left right a b e =
      same_steps lexicon.rules left right 0 0 [] [] line.letters line.letters [] [] refl refl a.derives.covers b.derives.covers
      (compare_key_lists_exact _ _ e)

  -- an answer above the cursor
  IsOneAbove : Cursor → List Step → Type 0
  IsOneAbove cursor steps = IsAnswer lexicon line choices steps × IsAbove lexicon.rules cursor steps

  candidates : List (List Step)
  candidates = lists_up_to (2 * length line.letters) (all_steps lexicon)

  answer_is_candidate : (steps : List Step) → IsAnswer lexicon line choices steps → Contains candidates steps
  unfolding candidates
  answer_is_candidate steps a =
      Contains-lists_up_to (2 * length line.letters) (all_steps lexicon) steps (steps_bounded lexicon line.letters steps is a.derives)
      (steps_are_some lexicon steps a.derives.forms a.derives.joined a.derives.ends)

  pub listing_above : (cursor : Cursor) → (answers : List (List Step)) × IsListingAbove lexicon line choices cursor answers
  unfolding IsOneAbove
  listing_above cursor =
      let all = all_that_have (compare_answers_total lexicon.rules) (IsOneAbove cursor) (λ x y p q e. answers_exact x y p.0 q.0 e) candidates
      (λ steps m. both (is_answer lexicon line choices steps) (is_above lexicon.rules cursor steps))
      (λ steps h. answer_is_candidate steps h.0) in (
        all.0,
        record {
          rising = all.1.rising;
          only_answers = λ steps m. (all.1.only steps m).0;
          only_above = λ steps m. (all.1.only steps m).1;
          complete = λ steps a above. all.1.complete steps (a, above);
        },
      )

  -- ---- pages

  is_some : {X : Type 0} (xs : List X) → (more : Bool) × (IsTrue more ↔ (xs ≢ []))
  is_some [] = (false, ((λ e. cc), λ n. absurd (n refl)))
  is_some (x ∷ xs) = (true, ((λ e n. cc), λ n. refl))

  pub page_there : (cursor : Cursor) (count : ℕ) → (answers : List (List Step)) × (more : Bool) × IsPage lexicon line choices cursor count answers more
  page_there cursor count =
      let listing = listing_above cursor in
      let more = is_some (drop count listing.0) in (
        take count listing.0,
        more.0,
        (same_as_front lexicon line choices cursor listing.0 count (take count listing.0) more.0 listing.1).1 (refl, more.1),
      )

  -- ---- the summary

  items_exact : (left right : Item) → compare_items left right ≡ Equal → left ≡ right
  items_exact left right e =
      let f = equal_then_both (nat_cmp left.at right.at) _ e in
      let g = equal_then_both (nat_cmp (after_lead left.lead) (after_lead right.lead)) _ f.1 in
      let h = equal_then_both (nat_cmp left.phase right.phase) _ g.1 in
      let k = equal_then_both (compare_words left.form right.form) _ h.1 in
      let at = exact_unsigned left.at right.at f.0 in
      let lead = exact_unsigned left.lead right.lead k.1 in
      let phase = exact_unsigned left.phase right.phase h.0 in
      let form = exact_bytes left.form right.form k.0 in
      λ i. record { at = at i; lead = lead i; phase = phase i; form = form i }

  pub summary_there : (items : List Item) × IsSummary lexicon line choices items
  summary_there =
      let listing = listing_above BeforeFirst in
      let items = flat_map (items_of lexicon.rules) listing.0 in
      let of_answer : (item : Item) → Contains items item → IsItemOfAnswer lexicon line choices item =
      λ item m. let h = Contains-flat_map_cases (items_of lexicon.rules) listing.0 item m in (h.0, listing.1.only_answers h.0 h.1, h.2) in
      let among : (item : Item) → IsItemOfAnswer lexicon line choices item → Contains items item =
      λ item h. Contains-flat_map (items_of lexicon.rules) listing.0 h.0 item (listing.1.complete h.0 h.1 tt) h.2 in
      let all = all_that_have compare_items_total (IsItemOfAnswer lexicon line choices) (λ x y p q e. items_exact x y e) items
      (λ item m. inl (of_answer item m)) among in
      (all.0, record { rising = all.1.rising; members = λ item. (all.1.only item, all.1.complete item) })
