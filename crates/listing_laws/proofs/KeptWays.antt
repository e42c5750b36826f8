-- A path of the kept branches is a path; and where each branch that begins a path is kept, a path has kept branches alone, by
-- induction on it.
use Rattle.std.proofs.Common.{◌↔◌, List, [], ◌∷◌}
use Rattle.listing_laws.specs.Ways.{Ways, AreOrderly, IsPath, HasPath, kept}
use Rattle.listing_laws.proofs.Paths.{path_from_next}

module _ {Configuration Branch : Type 0} (ways : Ways Configuration Branch) (IsKept : Configuration → Branch → Type 0) where
  path_of_kept : (at : Configuration) (path : List Branch) → IsPath (kept ways IsKept) at path → IsPath ways at path
  path_of_kept at [] none = none
  path_of_kept at (branch ∷ []) (ends, is_kept) = ends
  path_of_kept at (branch ∷ later ∷ path) (next, (leads, is_kept), is) = (next, leads, path_of_kept next (later ∷ path) is)

  path_is_kept : ((at : Configuration) (branch : Branch) (rest : List Branch) → IsPath ways at (branch ∷ rest) → IsKept at branch)
      → (at : Configuration) (path : List Branch) → IsPath ways at path → IsPath (kept ways IsKept) at path
  path_is_kept keeps at [] none = none
  path_is_kept keeps at (branch ∷ []) ends = (ends, keeps at branch [] ends)
  path_is_kept keeps at (branch ∷ later ∷ path) (next, leads, is) =
      (next, (leads, keeps at branch (later ∷ path) (next, leads, is)), path_is_kept keeps next (later ∷ path) is)

  -- to leave out branches that begin no path leaves out no path
  pub same_paths_of_kept : ((at : Configuration) (branch : Branch) (rest : List Branch) → IsPath ways at (branch ∷ rest) → IsKept at branch)
      → (at : Configuration) (path : List Branch) → IsPath (kept ways IsKept) at path ↔ IsPath ways at path
  same_paths_of_kept keeps at path = (path_of_kept at path, path_is_kept keeps at path)

-- a branch begins a path exactly where it leads to a configuration that has one
pub path_through : {Configuration Branch : Type 0} {ways : Ways Configuration Branch} → AreOrderly ways → (at : Configuration) (branch : Branch)
    (next : Configuration) (rest : List Branch) → ways.leads at branch next → IsPath ways at (branch ∷ rest) → HasPath ways next
path_through orderly at branch next rest leads is = (rest, (path_from_next orderly at branch next rest leads).0 is)
