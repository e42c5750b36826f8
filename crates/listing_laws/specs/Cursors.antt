-- Cursors among the paths from a configuration, and what is above them.
use Rattle.std.specs.Prelude.{◌≡◌, ◌≢◌, ℕ, List, take}
use Rattle.std.specs.declared.cmp.Ordering.{Ordering}
use Rattle.std.specs.declared.cmp.Ordering.TheVariants.{Less, Greater}
use Rattle.std.specs.Cmp.Lexicographic.{slice_cmp}
use Rattle.list_laws.specs.Firsts.{AreAll}
use Rattle.listing_laws.specs.Ways.{Ways, IsPath}

-- before the first path, at a path, or past the last
pub data Cursor (Branch : Type 0) : Type 0 where
  BeforeFirst : Cursor Branch
  AtPath : (path : List Branch) → Cursor Branch
  PastLast : Cursor Branch

-- the path comes after the cursor; paths are compared at the first branch where they differ
abbrev pub IsAbove : {Branch : Type 0} → (Branch → Branch → Ordering) → Cursor Branch → List Branch → Type 0
IsAbove compare BeforeFirst path = Unit {0}
IsAbove compare (AtPath here) path = slice_cmp compare here path ≡ Less
IsAbove compare PastLast path = ⊥

-- the path comes after another one and has other first branches, as many as depth (all, where it has fewer)
abbrev pub IsPast : {Branch : Type 0} → (Branch → Branch → Ordering) → ℕ → List Branch → List Branch → Type 0
IsPast compare depth here path = (slice_cmp compare here path ≡ Less) × (take depth path ≢ take depth here)

-- the strictly rising list that has every path above the cursor and nothing else
abbrev pub IsListingAbove : {Configuration Branch : Type 0} → Ways Configuration Branch → Configuration → Cursor Branch
    → List (List Branch) → Type 0
IsListingAbove ways start cursor paths =
    AreAll (slice_cmp ways.compare) (λ path. IsPath ways start path × IsAbove ways.compare cursor path) paths

-- the first of the paths that are wanted
pub record IsFirst {Configuration Branch : Type 0} (ways : Ways Configuration Branch) (start : Configuration) (IsWanted : List Branch → Type 0)
    (first : List Branch) : Type 0 where
  pub path : IsPath ways start first
  pub wanted : IsWanted first
  pub least : (other : List Branch) → IsPath ways start other → IsWanted other → slice_cmp ways.compare first other ≢ Greater
