-- Words that begin with one front stand in the order of what follows it: the front drops out of the comparison.
use Rattle.std.proofs.Common.{◌≡◌, ℕ, ◌≤◌, inl, inr, List, [], ◌∷◌, ◌++◌, refl, sym, ◌∙◌, ap}
use Rattle.std.specs.declared.cmp.Ordering.{Ordering}
use Rattle.std.specs.declared.cmp.Ordering.TheVariants.{Less, Equal, Greater}
use Rattle.std.specs.Ordering.{nat_cmp, ordering_then}
use Rattle.std.specs.Cmp.{nat_cmp_is}
use Rattle.std.proofs.lemmas.Bool.{cases_lt}
use Rattle.text_definitions.specs.Words.{compare_words}

-- a number is equal to itself
equal_itself : (n : ℕ) → nat_cmp n n ≡ Equal
equal_itself n = sym (nat_cmp_is n n Equal refl)

-- the front drops out
pub compare_words-front : (front left right : List ℕ) → compare_words (front ++ left) (front ++ right) ≡ compare_words left right
compare_words-front [] left right = refl
compare_words-front (letter ∷ front) left right =
    ap (λ (o : Ordering). ordering_then o (compare_words (front ++ left) (front ++ right))) (equal_itself letter) ∙ compare_words-front front left right

-- no word is below the empty word
pub not_below_empty : (word : List ℕ) → compare_words word [] ≡ Less → ⊥
not_below_empty [] e = absurd cc
not_below_empty (letter ∷ word) e = absurd cc

-- a greater letter is not below
pub not_below_smaller : (a b : ℕ) (left right : List ℕ) → compare_words (a ∷ left) (b ∷ right) ≡ Less → a ≤ b
not_below_smaller a b left right e =
    elim (cases_lt b a) [
      | inl l ↦
          let greater : Greater ≡ nat_cmp a b = nat_cmp_is a b Greater l in
          let other : compare_words (a ∷ left) (b ∷ right) ≡ Greater = ap (λ (o : Ordering). ordering_then o (compare_words left right)) (sym greater) in
          absurd cc
      | inr g ↦ g
    ]
