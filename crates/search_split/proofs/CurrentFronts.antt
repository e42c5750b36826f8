-- The program's steps of the answer at which a search stands have its keys.
use Rattle.std.proofs.Common.{◌≡◌, ◌↔◌, ℕ, ◌<◌, Bool, true, false, IsTrue, Some, List, length, take, refl, sym, ap, ◌∙◌, subst, arith}
use Rattle.std.specs.Bool.{OnTrue, OnFalse}
use Rattle.std.proofs.lemmas.Bool.{false≢true}
use Rattle.std.proofs.lemmas.List.{length-map}
use Rattle.segmentation_definitions.specs.Derivations.{Step}
use Rattle.segmentation_definitions.specs.Listings.{Key, keys_of, AtAnswer, IsAbove}
use Rattle.front_definitions.specs.Fronts.{front_of}
use Rattle.derivation.specs.declared.step.Key.{Key as ProgramKey}
use Rattle.derivation.specs.declared.step.Step.{Step as ProgramStep}
use Rattle.derivation.specs.Steps.{key_meant, keys_meant, key_of, steps_of}
use Rattle.derivation.specs.Steps.{keys_of as program_keys}
use Rattle.derivation.proofs.PlacedSteps.{same_keys}
use Rattle.front_definitions.proofs.KeyListFronts.{together}
use Rattle.segmenter.specs.Searches.{SearchValue, IsCurrent, MovedOn}
use Rattle.search_split.specs.Listing.{HasGoneOn, HasNoneLeft}
use Rattle.search_split.proofs.FrontsReached.{same_answer}

pub front_of_current : (now : SearchValue) (depth : ℕ) (steps : List ProgramStep) (front : List ProgramKey) → IsCurrent now (Some steps)
    → keys_meant front ≡ take depth (program_keys steps) → (answer : List Step) → now.cursor ≡ AtAnswer answer
    → keys_meant front ≡ front_of now.searched.lexicon.rules depth answer
front_of_current now depth steps front current taken answer at =
    let rules = now.searched.lexicon.rules in
    let letters = now.line.letters in
    taken ∙ ap (take depth) (same_keys rules letters steps current.1)
    ∙ ap (λ answer. take depth (keys_of rules answer)) (same_answer (steps_of rules letters steps) answer (sym current.0 ∙ at))

-- all of them
pub keys_of_current : (now : SearchValue) (steps : List ProgramStep) (keys : List ProgramKey) → IsCurrent now (Some steps)
    → keys_meant keys ≡ program_keys steps → (answer : List Step) → now.cursor ≡ AtAnswer answer
    → (0 < length keys) × (keys_of now.searched.lexicon.rules answer ≡ keys_meant keys)
keys_of_current now steps keys current are answer at =
    let rules = now.searched.lexicon.rules in
    let letters = now.line.letters in
    let some = current.2 in
    let count = ap length are in
    let left = length-map keys key_meant in
    let right = length-map steps key_of in (
      omega (arith, some, count, left, right),
      sym (are ∙ same_keys rules letters steps current.1 ∙ ap (keys_of rules) (same_answer (steps_of rules letters steps) answer (sym current.0 ∙ at))),
    )

-- and so with keys that are given
pub is_front_of_current : (now : SearchValue) (depth : ℕ) (steps : List ProgramStep) (front : List ProgramKey) (is : Bool) → IsCurrent now (Some steps)
    → IsTrue is ↔ (take depth (program_keys steps) ≡ keys_meant front) → (answer : List Step) → now.cursor ≡ AtAnswer answer
    → IsTrue is ↔ (front_of now.searched.lexicon.rules depth answer ≡ keys_meant front)
is_front_of_current now depth steps front is current tells answer at =
    let rules = now.searched.lexicon.rules in
    let letters = now.line.letters in
    let same : take depth (program_keys steps) ≡ front_of rules depth answer =
    ap (take depth) (same_keys rules letters steps current.1)
    ∙ ap (λ answer. take depth (keys_of rules answer)) (same_answer (steps_of rules letters steps) answer (sym current.0 ∙ at)) in
    subst (λ keys. IsTrue is ↔ (keys ≡ keys_meant front)) same tells

-- the search has moved on to an answer, of the front or not
module _ (depth : ℕ) (front : List Key) (old new : SearchValue) (moved : MovedOn old new) where
  new_at : new.cursor ≡ AtAnswer moved.answer
  new_at = ap (λ (value : SearchValue). value.cursor) moved.is

  same_rules : new.searched.lexicon.rules ≡ old.searched.lexicon.rules
  same_rules = ap (λ (value : SearchValue). value.searched.lexicon.rules) moved.is

  abbrev Tells : Bool → Type 0
  Tells is = (answer : List Step) → new.cursor ≡ AtAnswer answer → IsTrue is ↔ (front_of new.searched.lexicon.rules depth answer ≡ front)

  pub gone_on : (is : Bool) → Tells is → OnTrue is (HasGoneOn depth front old new)
  gone_on true tells = record {
    moved = moved;
    has = ap (λ rules. front_of rules depth moved.answer) (sym same_rules) ∙ (tells moved.answer new_at).0 refl;
  }
  gone_on false tells = tt

  -- what comes after an answer of another front does not have the front, since its answers stand together
  none_after_other : (front_of old.searched.lexicon.rules depth moved.answer ≡ front → ⊥) → HasNoneLeft depth front old
  none_after_other others answer other at has of less =
      let rules = old.searched.lexicon.rules in
      let next = moved.next in
      let above : IsAbove rules (AtAnswer answer) moved.answer = subst (λ cursor. IsAbove rules cursor moved.answer) at next.above in
      let later = next.least other of.0 (subst (λ cursor. IsAbove rules cursor other) (sym at) less) in
      others (together rules depth answer moved.answer other (λ greater. cc) later (has ∙ sym of.1) ∙ has)

  pub none_left_of_front : (is : Bool) → Tells is → OnFalse is (HasNoneLeft depth front old)
  none_left_of_front true tells = tt
  none_left_of_front false tells = none_after_other
      (λ has. absurd (false≢true ((tells moved.answer new_at).1 (ap (λ rules. front_of rules depth moved.answer) same_rules ∙ has))))
