-- Every list of steps that derives a word is found by trying each form of each phase with each rule at each place, as often
-- as the word can have steps: by recursion on how often.
use Rattle.std.proofs.Common.{◌≡◌, inl, inr, ℕ, zero, suc, ◌+◌, ◌-◌, ◌*◌, ◌<◌, ◌≤◌, Option, None, Some, if◌then◌else◌, ◌==◌, List, [], ◌∷◌, ◌++◌, length, map, take, drop, slice_index_or, refl, sym, ap, subst, ◌∙◌, append_assoc, append-nil, length-append, zero-add, arith}
use Rattle.std.specs.List.{AllByRecursion, Contains, flat_map}
use Rattle.std.specs.List.Sorted.{IsStrictlySortedBy}
use Rattle.std.proofs.lemmas.Bool.{eq-eqb, cases_eq}
use Rattle.std.proofs.lemmas.List.{take_at, drop_at}
use Rattle.std.proofs.lemmas.List.Elements.{All-from_recursion, All-contains, Contains-get_or}
use Rattle.text_definitions.specs.Lines.{Line}
use Rattle.lexicon_definitions.specs.Rules.{Rule}
use Rattle.lexicon_definitions.specs.Lexicons.{Lexicon, RuleSet, Form, IsLexicon}
use Rattle.lexicon_definitions.proofs.GrammarLists.{all_left, all_right}
use Rattle.segmentation_definitions.specs.Derivations.{Step, rule_after, Meets, AreForms, AreJoined, EndsWell, Covers}
use Rattle.segmentation_definitions.specs.Items.{Item, Choice, items_of}
use Rattle.segmentation_definitions.specs.Answers.{IsAnswer}
use Rattle.segmentation_definitions.specs.Listings.{compare_answers, IsListing, compare_items, IsSummary}
use Rattle.segmentation_definitions.proofs.RisingRanks.{steps_bounded}
use Rattle.list_laws.proofs.Elements.{all_of_map}

-- what is left of the second list after the first
abbrev pub following_front : List ℕ → List ℕ → Option (List ℕ)
following_front [] ys = Some ys
following_front (x ∷ xs) [] = None
following_front (x ∷ xs) (y ∷ ys) = if x == y then following_front xs ys else None

following_front-append : (xs ys : List ℕ) → following_front xs (xs ++ ys) ≡ Some ys
following_front-append [] ys = refl
following_front-append (x ∷ xs) ys = rw (eq-eqb x x refl) (following_front-append xs ys)

abbrev pub and_then : Option (List ℕ) → (List ℕ → Option (List ℕ)) → Option (List ℕ)
and_then None f = None
and_then (Some x) f = f x

-- what is left of the second list before the first, which ends it
abbrev pub before_end : List ℕ → List ℕ → Option (List ℕ)
before_end xs whole =
    and_then (following_front xs (drop (length whole - length xs) whole)) (λ rest. Some (take (length whole - length xs) whole))

before_end-append : (taken xs : List ℕ) → before_end xs (taken ++ xs) ≡ Some taken
before_end-append taken xs =
    let n : length taken ≡ length (taken ++ xs) - length xs = omega (arith, length-append taken xs) in
    let tail = drop_at taken xs (length (taken ++ xs) - length xs) n in
    let head = take_at taken xs (length (taken ++ xs) - length xs) n in
    let found = ap (λ ys. following_front xs ys) (sym (append-nil xs)) ∙ following_front-append xs [] in
    ap (λ ys. and_then (following_front xs ys) (λ rest. Some (take (length (taken ++ xs) - length xs) (taken ++ xs)))) tail
    ∙ (ap (λ o. and_then o (λ rest. Some (take (length (taken ++ xs) - length xs) (taken ++ xs)))) found
    ∙ ap Some head)

-- what is left of the word after a step of this form, with the rule after it and the lead before it
abbrev pub following_step : List ℕ → Rule → List ℕ → List ℕ → Option (List ℕ)
following_step lead rule form word =
    and_then (following_front lead form)
    (λ rest. and_then (before_end rule.u rest) (λ taken. and_then (following_front taken word) (λ seam. following_front rule.w seam)))

step_leaves : (lead taken following form word : List ℕ) (rule : Rule) → form ≡ lead ++ taken ++ rule.u
    → word ≡ taken ++ rule.w ++ following → following_step lead rule form word ≡ Some following
step_leaves lead taken following form word rule e h =
    let form_is : form ≡ lead ++ (taken ++ rule.u) = e ∙ append_assoc lead taken rule.u in
    let word_is : word ≡ taken ++ (rule.w ++ following) = h ∙ append_assoc taken rule.w following in
    rw (form_is, following_front-append lead (taken ++ rule.u), before_end-append taken rule.u, word_is, following_front-append taken (rule.w ++ following))
    (following_front-append rule.w following)

-- the numbers up to this one
abbrev pub numbers_to : ℕ → List ℕ
numbers_to zero = 0 ∷ []
numbers_to (suc n) = suc n ∷ numbers_to n

at_number : (Q : ℕ → Type 0) (n k : ℕ) → k ≤ n → AllByRecursion Q (numbers_to n) → Q k
at_number Q zero k l h = let e : 0 ≡ k = omega arith in subst Q e h.0
at_number Q (suc n) k l h = elim (cases_eq k (suc n)) [
  | inl e ↦ subst Q (sym e) h.0
  | inr apart ↦ at_number Q n k (omega arith) h.1
]

all_of_flat_map : {A B : Type 0} (P : B → Type 0) (f : A → List B) (xs : List A) → AllByRecursion P (flat_map f xs)
    → AllByRecursion (λ x. AllByRecursion P (f x)) xs
all_of_flat_map P f [] h = tt
all_of_flat_map P f (x ∷ xs) h =
    (all_left P (f x) (flat_map f xs) h, all_of_flat_map P f xs (all_right P (f x) (flat_map f xs) h))

-- each of the forms with each rule number up to count
abbrev pub steps_of_forms : ℕ → ℕ → List Form → List Step
steps_of_forms count phase [] = []
steps_of_forms count phase (form ∷ forms) =
    map (λ rule. record { phase = phase; form = form.letters; rule = rule }) (numbers_to count) ++ steps_of_forms count phase forms

-- each form of each phase, the first of which has this number, with each rule number up to count
abbrev pub steps_of_phases : ℕ → ℕ → List (List Form) → List Step
steps_of_phases count phase [] = []
steps_of_phases count phase (forms ∷ phases) = steps_of_forms count phase forms ++ steps_of_phases count (phase + 1) phases

module _ (Q : Step → Type 0) (count : ℕ) where
  at_form : (phase : ℕ) (forms : List Form) (word : List ℕ) (rule : ℕ) → AllByRecursion Q (steps_of_forms count phase forms)
      → Contains (map (λ (form : Form). form.letters) forms) word → rule ≤ count
      → Q (record { phase = phase; form = word; rule = rule })
  at_form phase [] word rule h (k, l, e) within = absurd (omega arith)
  at_form phase (form ∷ forms) word rule h (zero, l, e) within =
      let step : List ℕ → ℕ → Step = λ letters number. record { phase = phase; form = letters; rule = number } in
      let first = all_of_map Q (step form.letters) (numbers_to count)
      (all_left Q (map (step form.letters) (numbers_to count)) (steps_of_forms count phase forms) h) in
      subst (λ letters. Q (step letters rule)) e (at_number (λ number. Q (step form.letters number)) count rule within first)
  at_form phase (form ∷ forms) word rule h (suc k, l, e) within =
      let step : ℕ → Step = λ number. record { phase = phase; form = form.letters; rule = number } in
      at_form phase forms word rule (all_right Q (map step (numbers_to count)) (steps_of_forms count phase forms) h)
      (k, omega arith, e) within

  at_phase : (phases : List (List Form)) (first k : ℕ) (word : List ℕ) (rule : ℕ)
      → AllByRecursion Q (steps_of_phases count first phases)
      → Contains (map (λ (form : Form). form.letters) (slice_index_or phases k [])) word → rule ≤ count
      → Q (record { phase = first + k; form = word; rule = rule })
  at_phase [] first k word rule h (n, l, e) within = absurd (omega arith)
  at_phase (forms ∷ phases) first zero word rule h is within =
      let same : first ≡ first + 0 = omega arith in
      subst (λ phase. Q (record { phase = phase; form = word; rule = rule })) same
      (at_form first forms word rule (all_left Q (steps_of_forms count first forms) (steps_of_phases count (first + 1) phases) h) is within)
  at_phase (forms ∷ phases) first (suc k) word rule h is within =
      let same : (first + 1) + k ≡ first + suc k = omega arith in
      subst (λ phase. Q (record { phase = phase; form = word; rule = rule })) same
      (at_phase phases (first + 1) k word rule
      (all_right Q (steps_of_forms count first forms) (steps_of_phases count (first + 1) phases) h) is within)

-- the empty list, where nothing is left of the word
abbrev pub ends_here : List ℕ → List (List Step)
ends_here [] = [] ∷ []
ends_here (letter ∷ word) = []

abbrev pub go_on : Option (List ℕ) → (List ℕ → List (List Step)) → List (List Step)
go_on None f = []
go_on (Some following) f = f following

-- the lists of at most so many steps that cover the word from this lead
unfoldable pub candidates : ℕ → Lexicon → List ℕ → List ℕ → List (List Step)
candidates zero lexicon lead word = ends_here word
candidates (suc n) lexicon lead word =
    ends_here word
    ++ flat_map (λ step. go_on (following_step lead (rule_after lexicon.rules step) step.form word)
    (λ following. map (λ steps. step ∷ steps) (candidates n lexicon (rule_after lexicon.rules step).v following)))
    (steps_of_phases (length lexicon.rules.rules) 0 lexicon.phases)

-- what is after each step of a derivation is a rule, or no change
rules_within : (rules : RuleSet) (steps : List Step) → AreJoined rules steps → EndsWell rules steps
    → AllByRecursion (λ (step : Step). step.rule ≤ length rules.rules) steps
rules_within rules [] joined ends = tt
rules_within rules (step ∷ []) joined (inl none) = (omega arith, tt)
rules_within rules (step ∷ []) joined (inr rule) = (omega arith, tt)
rules_within rules (step ∷ next ∷ steps) joined ends = (within joined.0, rules_within rules (next ∷ steps) joined.1 ends)
  where
    within : Meets rules step next → step.rule ≤ length rules.rules
    within (inl none) = omega arith
    within (inr rule) = omega arith

found : (lexicon : Lexicon) (P : List Step → Type 0) (n : ℕ) (lead word : List ℕ) (steps : List Step) → length steps ≤ n
    → AreForms lexicon steps → AllByRecursion (λ (step : Step). step.rule ≤ length lexicon.rules.rules) steps
    → Covers lexicon.rules lead steps word [] → AllByRecursion P (candidates n lexicon lead word) → P steps
unfolding candidates
found lexicon P zero lead word [] l forms within covers h =
    (subst (λ w. AllByRecursion P (ends_here w)) covers h).0
found lexicon P (suc n) lead word [] l forms within covers h =
    (subst (λ w. AllByRecursion P (ends_here w)) covers (all_left P (ends_here word) _ h)).0
found lexicon P zero lead word (step ∷ steps) l forms within covers h = absurd (omega arith)
found lexicon P (suc n) lead word (step ∷ steps) l forms within covers h =
    let rules = lexicon.rules in
    let tries : Step → List (List Step) = λ s. go_on (following_step lead (rule_after rules s) s.form word)
    (λ following. map (λ more. s ∷ more) (candidates n lexicon (rule_after rules s).v following)) in
    let all = steps_of_phases (length rules.rules) 0 lexicon.phases in
    let each = all_of_flat_map P tries all (all_right P (ends_here word) (flat_map tries all) h) in
    let here = at_phase (λ s. AllByRecursion P (tries s)) (length rules.rules) lexicon.phases 0 step.phase step.form step.rule each forms.0 within.0 in
    let mine = subst (λ phase. AllByRecursion P (tries (record { phase = phase; form = step.form; rule = step.rule }))) (zero-add step.phase) here in
    let leaves = step_leaves lead covers.0 covers.1 step.form word (rule_after rules step) covers.2 covers.3 in
    let left = subst (λ o. AllByRecursion P (go_on o
    (λ following. map (λ more. step ∷ more) (candidates n lexicon (rule_after rules step).v following)))) leaves mine in
    found lexicon (λ more. P (step ∷ more)) n (rule_after rules step).v covers.1 steps (omega arith) forms.1 within.1 covers.4
    (all_of_map P (λ more. step ∷ more) (candidates n lexicon (rule_after rules step).v covers.1) left)

-- the listing is a rising list of answers that has each answer among the candidates
pub listing_is : (lexicon : Lexicon) (line : Line) (choices : List Choice) (answers : List (List Step)) → IsLexicon lexicon
    → IsStrictlySortedBy (compare_answers lexicon.rules) answers → AllByRecursion (IsAnswer lexicon line choices) answers
    → AllByRecursion (λ steps. IsAnswer lexicon line choices steps → Contains answers steps)
    (candidates (2 * length line.letters) lexicon [] line.letters)
    → IsListing lexicon line choices answers
listing_is lexicon line choices answers is rising each complete = record {
  rising = rising;
  only_answers = λ steps c. All-contains (IsAnswer lexicon line choices) answers steps (All-from_recursion (IsAnswer lexicon line choices) answers each) c;
  only_above = λ steps c. tt;
  complete = λ steps a above.
      found lexicon (λ steps. IsAnswer lexicon line choices steps → Contains answers steps) (2 * length line.letters) [] line.letters steps
      (steps_bounded lexicon line.letters steps is a.derives) a.derives.forms
      (rules_within lexicon.rules steps a.derives.joined a.derives.ends) a.derives.covers complete a;
}

-- the summary is a rising list of items that has each item of each answer of the listing, and no other
pub summary_is : (lexicon : Lexicon) (line : Line) (choices : List Choice) (answers : List (List Step)) (items : List Item)
    → IsListing lexicon line choices answers → IsStrictlySortedBy compare_items items
    → AllByRecursion (λ steps. AllByRecursion (Contains items) (items_of lexicon.rules steps)) answers
    → AllByRecursion (λ item. (k : ℕ) × (k < length answers) × Contains (items_of lexicon.rules (slice_index_or answers k [])) item) items
    → IsSummary lexicon line choices items
summary_is lexicon line choices answers items listing rising each all =
    let Listed : Item → Type 0 = λ item. (k : ℕ) × (k < length answers) × Contains (items_of lexicon.rules (slice_index_or answers k [])) item in
    let Covered : List Step → Type 0 = λ steps. AllByRecursion (Contains items) (items_of lexicon.rules steps) in
    record {
      rising = rising;
      members = λ item. (
        (λ c. let listed = All-contains Listed items item (All-from_recursion Listed items all) c in (
          slice_index_or answers listed.0 [],
          listing.only_answers _ (Contains-get_or answers listed.0 [] listed.1),
          listed.2,
        )),
        (λ h. let c = listing.complete h.0 h.1 tt in
            let covered = All-contains Covered answers h.0 (All-from_recursion Covered answers each) c in
            All-contains (Contains items) (items_of lexicon.rules h.0) item (All-from_recursion (Contains items) (items_of lexicon.rules h.0) covered) h.2),
      );
    }
