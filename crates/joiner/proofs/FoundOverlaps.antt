-- In a chain the first form that has fewer letters than the v before it and the u after it is the first overlap, and where there is
-- none the chain covers a word: by induction along the steps.
use Rattle.std.proofs.Common.{◌≡◌, ℕ, inl, inr, List, [], ◌∷◌, refl, ap, subst, arith, length-append}
use Rattle.std.specs.Prelude.{Some, None}
use Rattle.lexicon_definitions.specs.Lexicons.{Lexicon, rule_of, IsForm}
use Rattle.segmentation_definitions.specs.Derivations.{Step, rule_after, AreForms, AreJoined, EndsWell, Covers}
use Rattle.segmentation_definitions.specs.Overlaps as rules
use Rattle.chain_definitions.specs.Chains.{AreFitting, IsChain}
use Rattle.chain_definitions.specs.JoinedChains.{Joined, Overlap, IsFirstOverlap}
use Rattle.chain_definitions.proofs.JoinedOnce.{Enters, Leaves, leaves_to_next, leaves_last, enters_next, enters_first, overlap_if_short, overlap_or_word}
use Rattle.joiner.specs.Joining.{pair_at, IsFirstFound}

-- the overlap as what a chain is joined to
abbrev overlapping : rules.Overlap → Joined
overlapping overlap = Overlap overlap.phase overlap.form overlap.before overlap.after

same_pair : (left right : rules.Overlap) → Some left ≡ Some right → overlapping left ≡ overlapping right
same_pair left right e = let same : left ≡ right = cc in ap overlapping same

-- what is found at a step or after it
found_from : (lexicon : Lexicon) (before : ℕ) (step : Step) (steps : List Step) (overlap : rules.Overlap)
    → IsForm lexicon step.phase step.form → Enters lexicon before step → Leaves lexicon step
    → (IsFirstFound lexicon.rules step.rule steps (Some overlap) → IsFirstOverlap lexicon step.rule steps (overlapping overlap))
    → IsFirstFound lexicon.rules before (step ∷ steps) (Some overlap) → IsFirstOverlap lexicon before (step ∷ steps) (overlapping overlap)
found_from lexicon before step steps overlap form enters leaves rest found = elim found [
  | inl here ↦
      let both = length-append (rule_of lexicon.rules before).v (rule_after lexicon.rules step).u in
      let longer = here.0 in
      inl (overlap_if_short lexicon before step form enters leaves (omega (arith, longer, both)), same_pair overlap (pair_at before step) here.1)
  | inr later ↦ inr ((λ is. later.0 is.longer), rest later.1)
]

found_along : (lexicon : Lexicon) (before : ℕ) (steps : List Step) (overlap : rules.Overlap) → AreForms lexicon steps
    → AreJoined lexicon.rules steps → EndsWell lexicon.rules steps → AreFitting lexicon.rules steps
    → ((first : Step) (rest : List Step) → steps ≡ first ∷ rest → Enters lexicon before first)
    → IsFirstFound lexicon.rules before steps (Some overlap) → IsFirstOverlap lexicon before steps (overlapping overlap)
found_along lexicon before [] overlap forms joined ends fitting enters found = absurd ends
found_along lexicon before (step ∷ []) overlap forms joined ends fitting enters found =
    found_from lexicon before step [] overlap forms.0 (enters step [] refl) (leaves_last lexicon step fitting.0 ends) (λ none. absurd (cc)) found
found_along lexicon before (step ∷ next ∷ steps) overlap forms joined ends fitting enters found =
    found_from lexicon before step (next ∷ steps) overlap forms.0 (enters step (next ∷ steps) refl)
    (leaves_to_next lexicon step next steps fitting.0 joined.0)
    (found_along lexicon step.rule (next ∷ steps) overlap forms.1 joined.1 ends fitting.1
    (λ first rest same. let first_is : next ≡ first = cc in subst (Enters lexicon step.rule) first_is (enters_next lexicon step next steps fitting.0 joined.0)))
    found

-- what is found in a chain is its first overlap
pub found_in_chain : (lexicon : Lexicon) (steps : List Step) (overlap : rules.Overlap) → IsChain lexicon steps
    → IsFirstFound lexicon.rules 0 steps (Some overlap)
    → IsFirstOverlap lexicon 0 steps (Overlap overlap.phase overlap.form overlap.before overlap.after)
found_in_chain lexicon steps overlap chain found =
    found_along lexicon 0 steps overlap chain.forms chain.joined chain.ends chain.fitting (λ first rest same. enters_first lexicon first) found

none_overlaps : (lexicon : Lexicon) (before : ℕ) (steps : List Step) (joined : Joined) → IsFirstFound lexicon.rules before steps None
    → IsFirstOverlap lexicon before steps joined → ⊥
none_overlaps lexicon before [] joined found first = first
none_overlaps lexicon before (step ∷ steps) joined found first = elim found [
  | inl here ↦ (let some = here.1 in absurd (cc))
  | inr later ↦ elim first [
    | inl overlap ↦ later.0 overlap.0.longer
    | inr rest ↦ none_overlaps lexicon step.rule steps joined later.1 rest.1
  ]
]

-- a chain in which none is found covers a word
pub covered_if_none : (lexicon : Lexicon) (steps : List Step) → IsChain lexicon steps → IsFirstFound lexicon.rules 0 steps None
    → (word : List ℕ) × Covers lexicon.rules [] steps word []
covered_if_none lexicon steps chain none = elim (overlap_or_word lexicon steps chain) [
  | inl overlap ↦ absurd (none_overlaps lexicon 0 steps overlap.0 none overlap.1)
  | inr word ↦ (word.0, word.1.covers)
]
