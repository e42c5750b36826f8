-- The links' numbers, and what one link more covers: by cases of how steps meet, and by taking the list apart at the link.
use Rattle.std.proofs.Common.{◌≡◌, ℕ, ◌+◌, ◌<◌, List, [], ◌∷◌, ◌++◌, length, drop, get_or, All, refl, sym, ◌∙◌, ap, subst, arith, append_assoc, inl, inr}
use Rattle.std.specs.List.{AllByRecursion}
use Rattle.std.proofs.lemmas.List.{drop_more}
use Rattle.std.proofs.lemmas.List.Elements.{All-from_recursion}
use Rattle.lexicon_definitions.specs.Lexicons.{Lexicon, RuleSet, rule_of}
use Rattle.segmentation_definitions.specs.Derivations.{Step, rule_after, Meets, AreForms, AreJoined, EndsWell, Covers}
use Rattle.segmentation_definitions.proofs.Coverings.{phase_within}
use Rattle.annotated_trie.specs.Searched.{SearchedLexicon, IsSearchedLexicon}
use Rattle.chain_definitions.specs.Chains.{IsChain}
use Rattle.joiner.specs.Joining.{HasNumber, HasNumberedPhase, Takes}

-- ---- numbers

number_if_met : (rules : RuleSet) (step next : Step) → Meets rules step next → HasNumber rules step
number_if_met rules step next meets = elim meets [ inl plain ↦ (let none = plain.0 in omega (arith, none)) | inr inner ↦ inner.0.0.1 ]

number_if_last : (rules : RuleSet) (step : Step) → EndsWell rules (step ∷ []) → HasNumber rules step
number_if_last rules step ends = elim ends [ inl none ↦ omega (arith, none) | inr final ↦ final.0.1 ]

numbers_of : (rules : RuleSet) (steps : List Step) → AreJoined rules steps → EndsWell rules steps → AllByRecursion (HasNumber rules) steps
numbers_of rules [] joined ends = tt
numbers_of rules (step ∷ []) joined ends = (number_if_last rules step ends, tt)
numbers_of rules (step ∷ next ∷ steps) joined ends =
    (number_if_met rules step next joined.0, numbers_of rules (next ∷ steps) joined.1 ends)

-- each number in a chain is that of a rule or 0
pub have_numbers : (lexicon : Lexicon) (steps : List Step) → IsChain lexicon steps → All (HasNumber lexicon.rules) steps
have_numbers lexicon steps chain = All-from_recursion (HasNumber lexicon.rules) steps (numbers_of lexicon.rules steps chain.joined chain.ends)

phases_within : (lexicon : Lexicon) (count : ℕ) (steps : List Step) → length lexicon.phases ≡ count → AreForms lexicon steps
    → AllByRecursion (HasNumberedPhase count) steps
phases_within lexicon count [] same forms = tt
phases_within lexicon count (step ∷ steps) same forms =
    let within = phase_within lexicon step.phase step.form forms.0 in
    (omega (arith, within, same), phases_within lexicon count steps same forms.1)

-- each phase of forms is one of the automaton's
pub have_phases : (searched : SearchedLexicon) (steps : List Step) → IsSearchedLexicon searched → AreForms searched.lexicon steps
    → All (HasNumberedPhase searched.machine.phases) steps
have_phases searched steps is forms =
    All-from_recursion (HasNumberedPhase searched.machine.phases) steps
    (phases_within searched.lexicon searched.machine.phases steps (is.lexicon.count ∙ sym is.phases) forms)

-- ---- one link more

-- what is left at a link is this link and what is left after it
pub left_at : (steps : List Step) (i : ℕ) (step : Step) → i < length steps → step ≡ get_or steps i step
    → drop i steps ≡ step ∷ drop (i + 1) steps
left_at steps i step below is = drop_more steps i step below ∙ ap (λ s. s ∷ drop (i + 1) steps) (sym is)

-- the links after this one cover a word
pub covered_next : (rules : RuleSet) (before : ℕ) (step : Step) (left rest : List Step) → left ≡ step ∷ rest
    → ((word : List ℕ) × Covers rules (rule_of rules before).v left word [])
    → (word : List ℕ) × Covers rules (rule_after rules step).v rest word []
covered_next rules before step left rest left_is covered =
    let here = subst (λ (steps : List Step). Covers rules (rule_of rules before).v steps covered.0 []) left_is covered.1 in
    (here.1, here.4)

-- whatever the links after this one cover is covered by all, after the letters that this one takes and its w
pub whole_next : (rules : RuleSet) (before : ℕ) (step : Step) (all left rest : List Step) (word taken new : List ℕ) → left ≡ step ∷ rest
    → ((following : List ℕ) → Covers rules (rule_of rules before).v left following [] → Covers rules [] all (word ++ following) [])
    → Takes rules before step taken → new ≡ word ++ taken ++ (rule_after rules step).w
    → (following : List ℕ) → Covers rules (rule_after rules step).v rest following [] → Covers rules [] all (new ++ following) []
whole_next rules before step all left rest word taken new left_is told takes new_is following covers =
    let w = (rule_after rules step).w in
    let here : Covers rules (rule_of rules before).v (step ∷ rest) (taken ++ w ++ following) [] = (taken, following, takes, refl, covers) in
    let whole = told (taken ++ w ++ following)
    (subst (λ (steps : List Step). Covers rules (rule_of rules before).v steps (taken ++ w ++ following) []) (sym left_is) here) in
    let same : word ++ (taken ++ w ++ following) ≡ new ++ following =
    sym (append_assoc word (taken ++ w) following) ∙ ap (λ text. text ++ following) (sym (append_assoc word taken w) ∙ sym new_is) in
    subst (λ text. Covers rules [] all text []) same whole
