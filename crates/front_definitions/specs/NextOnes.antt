-- The first ones of those that have a property, so many at most (own).
use Rattle.std.specs.Prelude.{◌≡◌, ℕ, ◌≤◌, Bool, true, List, length}
use Rattle.std.specs.declared.cmp.Ordering.{Ordering}
use Rattle.list_laws.specs.Firsts.{AreFirst}

-- the first ones that have the property, as many as most, or all of them where they are fewer; more says whether one is left
pub record AreNext {X : Type 0} (compare : X → X → Ordering) (P : X → Type 0) (most : ℕ) (firsts : List X) (more : Bool) : Type 0 where
  pub first : AreFirst compare P firsts more
  pub at_most : length firsts ≤ most
  pub full : more ≡ true → length firsts ≡ most
