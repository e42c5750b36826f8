-- Greatest and least numbers of a list, told by the numbers that are not below or not above any; and elements that have a property.
use Rattle.std.specs.Prelude.{ℕ, ◌<◌, ◌≤◌, ◌^◌, ◌↔◌, List, All, Contains}

-- the greatest of the numbers that the elements have, and 0 where there are none: just from it on no element has more
abbrev pub IsGreatest : {X : Type 0} → (X → ℕ) → List X → ℕ → Type 0
IsGreatest number xs greatest = (n : ℕ) → (greatest ≤ n) ↔ All (λ x. number x ≤ n) xs

-- the least of the numbers that the elements have, as far as numbers below 2^32 tell it: just these below it are below each
abbrev pub IsLeastEnd : {X : Type 0} → (X → ℕ) → List X → ℕ → Type 0
IsLeastEnd number xs least = (n : ℕ) → n < 2 ^ 32 → (n < least) ↔ All (λ x. n < number x) xs

-- one of the elements has the property
abbrev pub HasOne : {X : Type 0} → (X → Type 0) → List X → Type 0
HasOne {X} P xs = (x : X) × Contains xs x × P x
