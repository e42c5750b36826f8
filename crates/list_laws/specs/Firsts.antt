-- The first of those things that have a property, in an order.
use Rattle.std.specs.Prelude.{◌≡◌, ◌⊎◌, Bool, true, List, ◌++◌, All, Contains}
use Rattle.std.specs.declared.cmp.Ordering.{Ordering}
use Rattle.std.specs.declared.cmp.Ordering.TheVariants.{Less}
use Rattle.std.specs.List.Sorted.{IsStrictlySortedBy}

-- it comes after each of these
abbrev pub ComesAfter : {X : Type 0} → (X → X → Ordering) → List X → X → Type 0
ComesAfter compare earlier x = All (λ before. compare before x ≡ Less) earlier

-- these are the first that have the property, rising; where more is true others are left after them, else there is no
-- other
pub record AreFirst {X : Type 0} (compare : X → X → Ordering) (P : X → Type 0) (firsts : List X) (more : Bool) : Type 0 where
  pub rising : IsStrictlySortedBy compare firsts
  pub only : (x : X) → Contains firsts x → P x
  pub complete : (x : X) → P x → Contains firsts x ⊎ ((more ≡ true) × ComesAfter compare firsts x)
  pub left : more ≡ true → (x : X) × P x × ComesAfter compare firsts x

-- these are all that have the property, rising
pub record AreAll {X : Type 0} (compare : X → X → Ordering) (P : X → Type 0) (all : List X) : Type 0 where
  pub rising : IsStrictlySortedBy compare all
  pub only : (x : X) → Contains all x → P x
  pub complete : (x : X) → P x → Contains all x

-- all that have the property are appended, rising
pub record AppendsAll {X : Type 0} (compare : X → X → Ordering) (P : X → Type 0) (before after : List X) : Type 0 where
  pub added : List X
  pub is : after ≡ before ++ added
  pub all : AreAll compare P added
