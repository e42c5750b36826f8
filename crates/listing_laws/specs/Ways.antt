-- Ways from one configuration to another, by branches, and the paths that end (the backtracking search of Huet 2005, as a
-- theory of its own).
use Rattle.std.specs.Prelude.{◌≡◌, ℕ, ◌<◌, ◌≤◌, ◌⊎◌, List, [], ◌∷◌}
use Rattle.std.specs.declared.cmp.Ordering.{Ordering}
use Rattle.std.specs.declared.cmp.Ordering.TheVariants.{Equal}
use Rattle.std.specs.Cmp.{IsTotalOrder}

-- the order of branches; which branches end at a configuration; and which lead from there to a configuration
pub record Ways (Configuration Branch : Type 0) : Type 1 where
  pub compare : Branch → Branch → Ordering
  pub ends : Configuration → Branch → Type 0
  pub leads : Configuration → Branch → Configuration → Type 0

-- the branch is one of the configuration: it ends there, or leads somewhere
abbrev pub IsBranch : {Configuration Branch : Type 0} → Ways Configuration Branch → Configuration → Branch → Type 0
IsBranch {Configuration} ways at branch = ways.ends at branch ⊎ ((next : Configuration) × ways.leads at branch next)

-- what is asked of ways: their order is total; branches of one configuration that compare as equal are the same; a branch
-- leads to one configuration at most; and no branch both ends and leads on
pub record AreOrderly {Configuration Branch : Type 0} (ways : Ways Configuration Branch) : Type 0 where
  pub total : IsTotalOrder ways.compare
  pub same : (at : Configuration) (left right : Branch) → IsBranch ways at left → IsBranch ways at right
      → ways.compare left right ≡ Equal → left ≡ right
  pub one_way : (at : Configuration) (branch : Branch) (next other : Configuration) → ways.leads at branch next
      → ways.leads at branch other → next ≡ other
  pub not_both : (at : Configuration) (branch : Branch) (next : Configuration) → ways.ends at branch → ways.leads at branch next → ⊥

-- a path is a list of branches of which the last one ends, and each one before it leads to where the next is made
abbrev pub IsPath : {Configuration Branch : Type 0} → Ways Configuration Branch → Configuration → List Branch → Type 0
IsPath ways at [] = ⊥
IsPath ways at (branch ∷ []) = ways.ends at branch
IsPath {Configuration} ways at (branch ∷ later ∷ path) =
    (next : Configuration) × ways.leads at branch next × IsPath ways next (later ∷ path)

-- some path begins at the configuration
abbrev pub HasPath : {Configuration Branch : Type 0} → Ways Configuration Branch → Configuration → Type 0
HasPath {Branch = Branch} ways at = (path : List Branch) × IsPath ways at path

-- the ways of which only these branches are kept
abbrev pub kept : {Configuration Branch : Type 0} → Ways Configuration Branch → (Configuration → Branch → Type 0) → Ways Configuration Branch
kept ways IsKept = record {
  compare = ways.compare;
  ends = λ at branch. ways.ends at branch × IsKept at branch;
  leads = λ at branch next. ways.leads at branch next × IsKept at branch;
}

-- every branch leads to a configuration of higher rank, and no rank is above the bound
pub record AreRanked {Configuration Branch : Type 0} (ways : Ways Configuration Branch) (rank : Configuration → ℕ) (bound : ℕ) : Type 0 where
  pub rises : (at : Configuration) (branch : Branch) (next : Configuration) → ways.leads at branch next → rank at < rank next
  pub within : (at : Configuration) (branch : Branch) (next : Configuration) → ways.leads at branch next → rank next ≤ bound
