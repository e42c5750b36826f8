-- The depth-first listing, where the branches of each configuration are written out.
use Rattle.std.specs.Prelude.{◌↔◌, ℕ, zero, suc, List, [], ◌∷◌, map, Option, Some, None, MatchOption, Contains}
use Rattle.std.specs.List.{flat_map}
use Rattle.std.specs.List.Sorted.{IsStrictlySortedBy}
use Rattle.std.specs.Option.{option_map}
use Rattle.std.specs.Ordering.{on}
use Rattle.listing_laws.specs.Ways.{Ways}

-- a branch, and where it leads; None where it ends
pub record Edge (Configuration Branch : Type 0) : Type 0 where
  pub branch : Branch
  pub next : Option Configuration

-- the edge may be made at the configuration
abbrev pub IsEdge : {Configuration Branch : Type 0} → Ways Configuration Branch → Configuration → Edge Configuration Branch → Type 0
IsEdge ways at edge = MatchOption edge.next (ways.ends at edge.branch) (λ next. ways.leads at edge.branch next)

-- the edges of each configuration, with their branches rising
pub record AreEdges {Configuration Branch : Type 0} (ways : Ways Configuration Branch) (edges : Configuration → List (Edge Configuration Branch)) : Type 0 where
  pub rising : (at : Configuration) → IsStrictlySortedBy (on (λ edge. edge.branch) ways.compare) (edges at)
  pub members : (at : Configuration) (edge : Edge Configuration Branch) → Contains (edges at) edge ↔ IsEdge ways at edge

-- the paths that begin with a branch: it alone where it ends, else it before each path from where it leads
abbrev pub paths_with : {Branch : Type 0} → Branch → Option (List (List Branch)) → List (List Branch)
paths_with branch None = (branch ∷ []) ∷ []
paths_with branch (Some paths) = map (λ path. branch ∷ path) paths

-- the listing from a configuration, this many branches deep: edge by edge, the paths that begin with it
abbrev pub listing : {Configuration Branch : Type 0} → (Configuration → List (Edge Configuration Branch)) → ℕ → Configuration → List (List Branch)
listing edges zero at = []
listing edges (suc deep) at = flat_map (λ edge. paths_with edge.branch (option_map (listing edges deep) edge.next)) (edges at)
