-- Any text is read over a lexicon as a chain or has a first fault, since it is decided step by step whether a step meets the next; and
-- a chain, which has a first overlap or derives a word, is joined to that.
use Rattle.std.proofs.Common.{◌≡◌, ◌⊎◌, inl, inr, ℕ, ◌+◌, Bool, true, false, Option, Some, None, Result, Ok, Err, List, [], ◌∷◌, ◌++◌, length, refl, ap}
use Rattle.std.specs.Prelude.{◌↔◌, IsTrue}
use Rattle.std.proofs.lemmas.Bool.{cases_eq}
use Rattle.text_definitions.specs.declared.limits.TheConstants.{MOST_LINE_LETTERS}
use Rattle.lexicon_definitions.specs.Lexicons.{Lexicon, RuleSet, tree_of}
use Rattle.segmentation_definitions.specs.Derivations.{Step, rule_after, phases_of}
use Rattle.chain_definitions.specs.Chains.{BeginsWith, EndsWith, FitsBefore, IsChain}
use Rattle.chain_definitions.specs.ChainFaults.{Fault, Shape, Barred, Meet}
use Rattle.chain_definitions.specs.ChainTexts.{WrittenStep, steps_of_text}
use Rattle.chain_definitions.specs.ChainReadings.{AllowsPhases, MeetsNext, AreMeeting, IsFirstNotMeeting, IsReadAfterNames, IsReadAfterShape, IsChainRead, steps_named}
use Rattle.chain_definitions.specs.JoinedChains.{Joined, Text, Overlap, IsFirstOverlap, MakesAnswer, IsJoinedTo}
use Rattle.chain_definitions.proofs.JoinedOnce.{overlap_or_word}
use Rattle.existence_laws.proofs.Decisions.{Decided, told_by, both, either, follows, refuted, is_at_most, is_same_word}
use Rattle.existence_laws.proofs.GrammarDecisions.{is_word}
use Rattle.existence_laws.proofs.AnswerDecisions.{has_phase, is_plain_seam}

-- ---- how a form begins and ends

begins_with : (form word : List ℕ) → Decided (BeginsWith form word)
begins_with form [] = inl (form, refl)
begins_with [] (letter ∷ word) = inr (λ h. let e = h.1 in cc)
begins_with (first ∷ form) (letter ∷ word) =
    told_by (λ h. (h.1.0, same_cons first letter form (word ++ h.1.0) h.0 h.1.1)) back (both (cases_eq first letter) (begins_with form word))
  where
    same_cons : (x y : ℕ) (xs ys : List ℕ) → x ≡ y → xs ≡ ys → x ∷ xs ≡ y ∷ ys
    same_cons x y xs ys e f = cc

    back : BeginsWith (first ∷ form) (letter ∷ word) → (first ≡ letter) × BeginsWith form word
    back h =
        let e : first ∷ form ≡ letter ∷ (word ++ h.0) = h.1 in
        let same : first ≡ letter = cc in
        let rest : form ≡ word ++ h.0 = cc in
        (same, (h.0, rest))

ends_with : (form word : List ℕ) → Decided (EndsWith form word)
ends_with [] word = told_by (λ e. ([], e)) (λ h. whole h.0 h.1) (is_same_word [] word)
  where
    whole : (front : List ℕ) → [] ≡ front ++ word → [] ≡ word
    whole [] e = e
    whole (letter ∷ front) e = absurd (cc)
ends_with (first ∷ form) word =
    told_by (λ h. elim h [ inl e ↦ ([], e) | inr m ↦ (first ∷ m.0, ap (λ rest. first ∷ rest) m.1) ]) (λ h. back h.0 h.1)
    (either (is_same_word (first ∷ form) word) (ends_with form word))
  where
    back : (front : List ℕ) → first ∷ form ≡ front ++ word → (first ∷ form ≡ word) ⊎ EndsWith form word
    back [] e = inl e
    back (letter ∷ front) e = let rest : form ≡ front ++ word = cc in inr (front, rest)

-- ---- how a step meets the next

allows_phases : (rules : RuleSet) (step : Step) (steps : List Step) → Decided (AllowsPhases rules step steps)
allows_phases rules step [] = follows (refuted (cases_eq step.rule 0)) (has_phase (rule_after rules step).before step.phase)
allows_phases rules step (next ∷ steps) =
    follows (refuted (cases_eq step.rule 0))
    (both (has_phase (rule_after rules step).before step.phase) (has_phase (rule_after rules step).after next.phase))

fits_before : (rules : RuleSet) (step : Step) (steps : List Step) → Decided (FitsBefore rules step steps)
fits_before rules step [] = ends_with step.form (rule_after rules step).u
fits_before rules step (next ∷ steps) =
    both (ends_with step.form (rule_after rules step).u) (begins_with next.form (rule_after rules step).v)

meets_next : (rules : RuleSet) (step : Step) (steps : List Step) → Decided (MeetsNext rules step steps)
meets_next rules step [] = fits_before rules step []
meets_next rules step (next ∷ steps) =
    both (fits_before rules step (next ∷ steps)) (follows (cases_eq step.rule 0) (is_plain_seam rules step.form next.form))

-- ---- what a text is read as

-- all of the steps meet, or there is a first that does not
meeting_or_fault : (rules : RuleSet) (number : ℕ) (steps : List Step)
    → AreMeeting rules steps ⊎ ((fault : Fault) × IsFirstNotMeeting rules number steps fault)
meeting_or_fault rules number [] = inl tt
meeting_or_fault rules number (step ∷ steps) = elim (allows_phases rules step steps) [
  | inr barred ↦ inr (record { step = number; why = Barred }, inl (refl, inl (refl, barred)))
  | inl allows ↦ elim (meets_next rules step steps) [
    | inr unmet ↦ inr (record { step = number; why = Meet }, inl (refl, inr (refl, allows, unmet)))
    | inl meets ↦ elim (meeting_or_fault rules (number + 1) steps) [
      | inl all ↦ inl (allows, meets, all)
      | inr first ↦ inr (first.0, inr (allows, meets, first.1))
    ]
  ]
]

after_names : (rules : RuleSet) (told : Result (List Step) Fault) → (result : Result (List Step) Fault) × IsReadAfterNames rules told result
after_names rules (Err fault) = (Err fault, refl)
after_names rules (Ok steps) = elim (meeting_or_fault rules 1 steps) [
  | inl all ↦ (Ok steps, (refl, all))
  | inr first ↦ (Err first.0, first.1)
]

after_shape : (lexicon : Lexicon) (told : Option (List WrittenStep)) → (result : Result (List Step) Fault) × IsReadAfterShape lexicon told result
after_shape lexicon None = (Err (record { step = 0; why = Shape }), refl)
after_shape lexicon (Some steps) = after_names lexicon.rules (steps_named lexicon 1 steps)

-- a text is read as a chain, or has a first fault
pub chain_read_there : (lexicon : Lexicon) (text : List ℕ) → (result : Result (List Step) Fault) × IsChainRead lexicon text result
chain_read_there lexicon text = after_shape lexicon (steps_of_text text)

-- ---- what a chain is joined to

overlap_joined : (lexicon : Lexicon) (steps : List Step) (joined : Joined) → IsFirstOverlap lexicon 0 steps joined → IsJoinedTo lexicon steps joined
overlap_joined lexicon steps (Overlap phase form before after) first = first
overlap_joined lexicon steps (Text word answer) first = absurd (no_text 0 steps first)
  where
    no_text : (before : ℕ) (steps : List Step) → IsFirstOverlap lexicon before steps (Text word answer) → ⊥
    no_text before [] first = first
    no_text before (step ∷ steps) first = elim first [
      | inl here ↦ let e = here.1 in cc
      | inr later ↦ no_text step.rule steps later.1
    ]

-- whether it holds, as a truth value
truth_of : {P : Type 0} → Decided P → (answer : Bool) × (IsTrue answer ↔ P)
truth_of (inl h) = (true, (λ e. h, λ h. refl))
truth_of (inr n) = (false, (λ e. absurd (cc (e)), λ h. absurd (n h)))

-- a chain is joined to a word or to its first overlap
pub joined_there : (lexicon : Lexicon) (steps : List Step) → IsChain lexicon steps → (joined : Joined) × IsJoinedTo lexicon steps joined
joined_there lexicon steps chain = elim (overlap_or_word lexicon steps chain) [
  | inl overlap ↦ (overlap.0, overlap_joined lexicon steps overlap.0 overlap.1)
  | inr word ↦
      let makes : Decided (MakesAnswer lexicon steps word.0) =
      both (is_at_most (length word.0) MOST_LINE_LETTERS) (is_word (tree_of lexicon.rules) (phases_of steps)) in
      let answer = truth_of makes in
      (Text word.0 answer.0, (word.1, answer.1))
]
