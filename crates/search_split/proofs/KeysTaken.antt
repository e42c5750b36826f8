-- The keys of first steps, step by step.
use Rattle.std.proofs.Common.{◌≡◌, ◌↔◌, ℕ, zero, suc, ◌+◌, ◌<◌, min, true, false, IsTrue, List, [], ◌∷◌, ◌++◌, length, take, get_or, refl, sym, ap, ◌∙◌, subst, arith, add-one}
use Rattle.std.proofs.Math.Seq.{take-suc}
use Rattle.std.proofs.lemmas.List.{map-append, length-map, length-take}
use Rattle.segmentation_definitions.proofs.KeyLists.{same_cons}
use Rattle.derivation.specs.Steps.{key_meant, keys_meant, key_of, keys_of}
use Rattle.derivation.specs.declared.step.Key.{Key as ProgramKey}
use Rattle.derivation.specs.declared.step.Step.{Step}

pub keys_taken : (steps : List Step) (depth count : ℕ) → count ≡ min (length steps) depth → keys_of (take count steps) ≡ take depth (keys_of steps)
keys_taken [] zero zero is = refl
keys_taken [] (suc depth) zero is = refl
keys_taken [] zero (suc count) is = absurd (omega (arith, is))
keys_taken [] (suc depth) (suc count) is = absurd (omega (arith, is))
keys_taken (step ∷ steps) zero zero is = refl
keys_taken (step ∷ steps) (suc depth) zero is = absurd (omega (arith, is))
keys_taken (step ∷ steps) zero (suc count) is = absurd (omega (arith, is))
keys_taken (step ∷ steps) (suc depth) (suc count) is = ap (λ keys. key_of step ∷ keys) (keys_taken steps depth count (omega (arith, is)))

-- the key of one step more
pub keys_with_next : (steps : List Step) (index : ℕ) (step : Step) (front : List ProgramKey) (key : ProgramKey) → index < length steps
    → step ≡ get_or steps index step → key ≡ record { phase = step.phase; taken = step.taken; rule = step.rule }
    → keys_meant front ≡ keys_of (take index steps) → keys_meant (front ++ key ∷ []) ≡ keys_of (take (index + 1) steps)
keys_with_next steps index step front key within same key_is so_far =
    let longer = take-suc steps index step within in
    map-append key_meant front (key ∷ [])
    ∙ ap (λ keys. keys ++ key_meant key ∷ []) so_far
    ∙ ap (λ (k : ProgramKey). keys_of (take index steps) ++ key_meant k ∷ []) key_is
    ∙ sym (map-append key_of (take index steps) (step ∷ []))
    ∙ ap (λ (last : Step). keys_of (take index steps ++ last ∷ [])) same
    ∙ ap keys_of (sym longer ∙ ap (λ (n : ℕ). take n steps) (sym (add-one index)))

take_all : {A : Type 0} (xs : List A) (count : ℕ) → count ≡ length xs → take count xs ≡ xs
take_all [] zero is = refl
take_all [] (suc count) is = absurd (omega (arith, is))
take_all (x ∷ xs) zero is = absurd (omega (arith, is))
take_all (x ∷ xs) (suc count) is = ap (λ ys. x ∷ ys) (take_all xs count (omega (arith, is)))

-- the first ones of keys are meant by the first ones
pub meant_taken : (keys : List ProgramKey) (depth count : ℕ) → count ≡ min (length keys) depth → keys_meant (take count keys) ≡ take depth (keys_meant keys)
meant_taken [] zero zero is = refl
meant_taken [] (suc depth) zero is = refl
meant_taken [] zero (suc count) is = absurd (omega (arith, is))
meant_taken [] (suc depth) (suc count) is = absurd (omega (arith, is))
meant_taken (key ∷ keys) zero zero is = refl
meant_taken (key ∷ keys) (suc depth) zero is = absurd (omega (arith, is))
meant_taken (key ∷ keys) zero (suc count) is = absurd (omega (arith, is))
meant_taken (key ∷ keys) (suc depth) (suc count) is = ap (λ rest. key_meant key ∷ rest) (meant_taken keys depth count (omega (arith, is)))

-- two lists with the same keys so far
both_longer : (steps : List Step) (front : List ProgramKey) (place : ℕ) (step : Step) (key : ProgramKey) → place < length steps → place < length front
    → key_of (get_or steps place step) ≡ key_meant (get_or front place key) → keys_of (take place steps) ≡ keys_meant (take place front)
    → keys_of (take (suc place) steps) ≡ keys_meant (take (suc place) front)
both_longer [] front place step key low within here so_far = absurd (omega (arith, low))
both_longer (first ∷ steps) [] place step key low within here so_far = absurd (omega (arith, within))
both_longer (first ∷ steps) (own ∷ front) zero step key low within here so_far = ap (λ k. k ∷ []) here
both_longer (first ∷ steps) (own ∷ front) (suc place) step key low within here so_far =
    let parts = same_cons (key_of first) (key_meant own) (keys_of (take place steps)) (keys_meant (take place front)) so_far in
    ap (λ keys. key_of first ∷ keys) (both_longer steps front place step key (omega (arith, low)) (omega (arith, within)) here parts.1)
    ∙ ap (λ k. k ∷ keys_meant (take (suc place) front)) parts.0

pub both_with_next : (steps : List Step) (front : List ProgramKey) (place : ℕ) (step : Step) (key : ProgramKey) → place < length steps → place < length front
    → key_of (get_or steps place step) ≡ key_meant (get_or front place key) → keys_of (take place steps) ≡ keys_meant (take place front)
    → keys_of (take (place + 1) steps) ≡ keys_meant (take (place + 1) front)
both_with_next steps front place step key low within here so_far =
    subst (λ (n : ℕ). keys_of (take n steps) ≡ keys_meant (take n front)) (sym (add-one place)) (both_longer steps front place step key low within here so_far)

pub front_same : (steps : List Step) (front : List ProgramKey) (depth count : ℕ) → count ≡ min (length steps) depth → count ≡ length front
    → keys_of (take count steps) ≡ keys_meant (take count front) → IsTrue true ↔ (take depth (keys_of steps) ≡ keys_meant front)
front_same steps front depth count is full same = (
  λ yes_. sym (keys_taken steps depth count is) ∙ same ∙ ap keys_meant (take_all front count full),
  λ equal. refl,
)

pub front_shorter : (steps : List Step) (front : List ProgramKey) (depth count : ℕ) → count ≡ min (length steps) depth → (count ≡ length front → ⊥)
    → IsTrue false ↔ (take depth (keys_of steps) ≡ keys_meant front)
front_shorter steps front depth count is other = (
  λ never. absurd (cc (never)),
  λ equal.
      let same = ap length equal in
      let taken = length-take depth (keys_of steps) in
      let left = length-map steps key_of in
      let right = length-map front key_meant in
      absurd (other (omega (arith, same, taken, left, right, is))),
)

differs : (steps : List Step) (front : List ProgramKey) (depth place : ℕ) (step : Step) (key : ProgramKey) → place < length steps → place < depth → place < length front
    → (key_of (get_or steps place step) ≡ key_meant (get_or front place key) → ⊥) → take depth (keys_of steps) ≡ keys_meant front → ⊥
differs [] front depth place step key low deep within other equal = absurd (omega (arith, low))
differs (first ∷ steps) [] depth place step key low deep within other equal = absurd (omega (arith, within))
differs (first ∷ steps) (own ∷ front) zero place step key low deep within other equal = absurd (omega (arith, deep))
differs (first ∷ steps) (own ∷ front) (suc depth) zero step key low deep within other equal =
    other (same_cons (key_of first) (key_meant own) (take depth (keys_of steps)) (keys_meant front) equal).0
differs (first ∷ steps) (own ∷ front) (suc depth) (suc place) step key low deep within other equal =
    differs steps front depth place step key (omega (arith, low)) (omega (arith, deep)) (omega (arith, within)) other
    (same_cons (key_of first) (key_meant own) (take depth (keys_of steps)) (keys_meant front) equal).1

pub front_differs : (steps : List Step) (front : List ProgramKey) (depth place : ℕ) (step : Step) (key : ProgramKey) → place < length steps → place < depth
    → place < length front → (key_of (get_or steps place step) ≡ key_meant (get_or front place key) → ⊥)
    → IsTrue false ↔ (take depth (keys_of steps) ≡ keys_meant front)
front_differs steps front depth place step key low deep within other = (
  λ never. absurd (cc (never)),
  λ equal. absurd (differs steps front depth place step key low deep within other equal),
)
