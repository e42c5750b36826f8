-- Comparisons one after another, by cases of the first, and comparisons of numbers.
use Rattle.std.proofs.Common.{◌≡◌, ◌⊎◌, inl, inr, ℕ, suc, ◌<◌, ◌≤◌, List, ◌∷◌, Ordering, Contains, refl, sym, arith}
use Rattle.std.specs.declared.cmp.Ordering.TheVariants.{Less, Equal, Greater}
use Rattle.std.specs.Ordering.{nat_cmp, ordering_then}
use Rattle.std.specs.List.Sorted.{IsStrictlySortedBy}
use Rattle.std.specs.Cmp.{ranked, nat_cmp_is}
use Rattle.std.proofs.lemmas.Map.Keys.{below_from_sorted}

-- one comparison after another gives Less where the first does, or the second where the first is Equal
pub less_then_cases : (a b : Ordering) → ordering_then a b ≡ Less → (a ≡ Less) ⊎ ((a ≡ Equal) × (b ≡ Less))
less_then_cases Less b e = inl refl
less_then_cases Equal b e = inr (refl, e)
less_then_cases Greater b e = cc

-- and Equal only where both do
pub equal_then_both : (a b : Ordering) → ordering_then a b ≡ Equal → (a ≡ Equal) × (b ≡ Equal)
equal_then_both Less b e = cc
equal_then_both Equal b e = (refl, e)
equal_then_both Greater b e = cc

-- a smaller number comes before
pub nat_cmp-Less : (m n : ℕ) → m < n → nat_cmp m n ≡ Less
nat_cmp-Less m n l = sym (nat_cmp_is m n Less l)

-- equal numbers are tied
pub nat_cmp-Equal : (m n : ℕ) → m ≡ n → nat_cmp m n ≡ Equal
nat_cmp-Equal m n e = sym (nat_cmp_is m n Equal e)

-- what comes before by a number first has no greater one
pub le_from_then : (m n : ℕ) (order : Ordering) → order ≡ nat_cmp m n → (rest : Ordering) → ordering_then order rest ≡ Less → m ≤ n
le_from_then m n Less e rest h = let below = ranked m n Less e in omega arith
le_from_then m n Equal e rest h = let same = ranked m n Equal e in omega arith
le_from_then m n Greater e rest h = absurd (cc)

-- the head of a rising list of numbers is below what stands after it
pub head_below : (x : ℕ) (xs : List ℕ) (y : ℕ) → IsStrictlySortedBy nat_cmp (x ∷ xs) → Contains xs y → x < y
head_below x xs y s h =
    let below = below_from_sorted (x ∷ xs) 0 (suc h.0) y s (omega arith) (omega (arith, h.1)) in
    omega (arith, below, h.2)
