-- The grammar of the rule file has few states: each is a rising list of the positions 1 and 2, or that of the empty list.
use Rattle.std.proofs.Common.{◌≡◌, ℕ, zero, suc, ◌<◌, ◌≤◌, ◌⊎◌, inl, inr, List, [], ◌∷◌, ◌++◌, None, refl, sym, ap, subst, arith}
use Rattle.std.specs.List.Sorted.{IsStrictlyIncreasing}
use Rattle.std.proofs.lemmas.List.Elements.{All-contains}
use Rattle.lexicon_definitions.specs.Grammars.{Grammar, Name, Either, OnceOrMore, State, Opening, After, IsPositionAfter}
use Rattle.lexicon_definitions.specs.GrammarTexts.{grammar_of}
use Rattle.lexicon_definitions.specs.GrammarFaults.{Long, Syntax, UnknownPhase, Places, States, IsGrammarTextWithinLimits, IsStateOf, HasMoreStates, fault_before_states}
use Rattle.lexicon_definitions.proofs.GrammarPositions.{IsPositionOf, positions_within}
use Rattle.lexicon_definitions.proofs.GrammarLists.{all_right}
use Rattle.demo_definitions.specs.SourceContents.{demo_rule_set}
use Rattle.demo_definitions.proofs.DifferentElements.{In, contains_from_in, different_from_pairs, different_are_few}

-- the syntax tree of the grammar
abbrev demo_tree : Grammar
demo_tree = OnceOrMore (Either (Name 1) (Name 0))

tree_is : grammar_of demo_rule_set.names demo_rule_set.grammar ≡ demo_tree
unfolding grammar_of demo_rule_set
tree_is = refl

-- a position is 1 or 2
positions : (phases : List ℕ) (position : ℕ) → IsPositionAfter demo_tree phases position → (1 ≤ position) × (position ≤ 2)
positions phases position h =
    let all = positions_within demo_tree 1 (h.0 ++ h.1 ∷ h.2) h.3 in
    let last = all_right (IsPositionOf demo_tree 1) h.0 (h.1 ∷ h.2) all in
    let here = last.0 in
    let same = h.5 in
    (omega (arith, here.0, same), omega (arith, here.1, same))

-- the states that there can be
abbrev few_states : List State
few_states = Opening ∷ After [] ∷ After (1 ∷ []) ∷ After (2 ∷ []) ∷ After (1 ∷ 2 ∷ []) ∷ []

one_or_two : (x : ℕ) → 1 ≤ x → x ≤ 2 → (x ≡ 1) ⊎ (x ≡ 2)
one_or_two zero low high = absurd (omega arith)
one_or_two (suc zero) low high = inl refl
one_or_two (suc (suc zero)) low high = inr refl
one_or_two (suc (suc (suc x))) low high = absurd (omega arith)

rising_positions : (xs : List ℕ) → IsStrictlyIncreasing xs → ((x : ℕ) → In x xs → (1 ≤ x) × (x ≤ 2)) → In (After xs) few_states
rising_positions [] rising within = inr (inl refl)
rising_positions (x ∷ []) rising within =
    let bounds = within x (inl refl) in
    elim (one_or_two x bounds.0 bounds.1) [
      | inl e ↦ inr (inr (inl (ap (λ (y : ℕ). After (y ∷ [])) (sym e))))
      | inr e ↦ inr (inr (inr (inl (ap (λ (y : ℕ). After (y ∷ [])) (sym e)))))
    ]
rising_positions (x ∷ y ∷ []) rising within =
    let bounds = within x (inl refl) in
    let more = within y (inr (inl refl)) in
    let below : x < y = rising 0 (omega arith) in
    let first : x ≡ 1 = omega arith in
    let second : y ≡ 2 = omega arith in
    inr (inr (inr (inr (inl (λ i. After (sym first i ∷ sym second i ∷ []))))))
rising_positions (x ∷ y ∷ z ∷ xs) rising within =
    let bounds = within x (inl refl) in
    let last = within z (inr (inr (inl refl))) in
    let below : x < y = rising 0 (omega arith) in
    let above : y < z = rising 1 (omega arith) in
    absurd (omega arith)

few : (state : State) → IsStateOf demo_tree state → In state few_states
few Opening h = inl refl
few (After xs) ([], is, live) = absurd (let e = is in cc)
few (After xs) (phase ∷ phases, is, live) =
    rising_positions xs is.0 (λ x m. positions (phase ∷ phases) x ((is.1 x).0 (contains_from_in x xs m)))

no_more : HasMoreStates demo_tree 32 → ⊥
no_more (states, more, pairs, each) =
    let bound = different_are_few states few_states (different_from_pairs states pairs) (λ state m.
    few state (All-contains (IsStateOf demo_tree) states state each (contains_from_in state states m))) in
    omega arith

no_fault_before : fault_before_states demo_rule_set.names demo_rule_set.grammar ≡ None
unfolding demo_rule_set
no_fault_before = refl

-- the grammar has no fault
pub grammar_within : IsGrammarTextWithinLimits demo_rule_set.names demo_rule_set.grammar
grammar_within Long h = let e = no_fault_before in cc
grammar_within (Syntax at) h = let e = no_fault_before in cc
grammar_within (UnknownPhase at) h = let e = no_fault_before in cc
grammar_within Places h = let e = no_fault_before in cc
grammar_within States h = no_more (subst (λ (g : Grammar). HasMoreStates g 32) tree_is h.1)
