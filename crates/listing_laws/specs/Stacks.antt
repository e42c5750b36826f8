-- What the stack of a depth-first search stands for.
use Rattle.std.specs.Prelude.{◌≡◌, ◌⊎◌, ◌↔◌, List, [], ◌∷◌, map}
use Rattle.std.specs.declared.cmp.Ordering.{Ordering}
use Rattle.std.specs.declared.cmp.Ordering.TheVariants.{Less}
use Rattle.listing_laws.specs.Ways.{Ways, IsPath}

-- a frame of a stack: a configuration, and the branch that was taken there
pub record Frame (Configuration Branch : Type 0) : Type 0 where
  pub at : Configuration
  pub taken : Branch

-- the branches that were taken, from the opening frame inwards
abbrev pub taken_in : {Configuration Branch : Type 0} → List (Frame Configuration Branch) → List Branch
taken_in frames = map (λ frame. frame.taken) frames

-- the branches taken lead from the start through the frames' configurations to the top
abbrev pub LeadTo : {Configuration Branch : Type 0} → Ways Configuration Branch → Configuration → List (Frame Configuration Branch)
    → Configuration → Type 0
LeadTo ways start [] top = start ≡ top
LeadTo {Configuration} ways start (frame ∷ frames) top =
    (frame.at ≡ start) × (next : Configuration) × ways.leads frame.at frame.taken next × LeadTo ways next frames top

-- which branches are left at a configuration: every one
abbrev pub Every : {Branch : Type 0} → Branch → Type 0
Every branch = Unit {0}

-- those from one on
abbrev pub From : {Branch : Type 0} → (Branch → Branch → Ordering) → Branch → Branch → Type 0
From compare first branch = (first ≡ branch) ⊎ (compare first branch ≡ Less)

-- those after one
abbrev pub After : {Branch : Type 0} → (Branch → Branch → Ordering) → Branch → Branch → Type 0
After compare last branch = compare last branch ≡ Less

-- no branch
abbrev pub Nothing : {Branch : Type 0} → Branch → Type 0
Nothing branch = ⊥

-- the path is still to come: it makes a later branch than one of those taken, or goes on after all of them with a branch
-- that is left
abbrev pub IsToCome : {Branch : Type 0} → (Branch → Branch → Ordering) → List Branch → (Branch → Type 0) → List Branch → Type 0
IsToCome compare taken IsLeft [] = ⊥
IsToCome compare [] IsLeft (branch ∷ path) = IsLeft branch
IsToCome compare (first ∷ taken) IsLeft (branch ∷ path) =
    (compare first branch ≡ Less) ⊎ ((first ≡ branch) × IsToCome compare taken IsLeft path)

-- some branch that is left begins a path
abbrev pub HasPathLeft : {Configuration Branch : Type 0} → Ways Configuration Branch → Configuration → (Branch → Type 0) → Type 0
HasPathLeft {Branch = Branch} ways top IsLeft = (branch : Branch) × (rest : List Branch) × IsPath ways top (branch ∷ rest) × IsLeft branch

-- a stack stands for the paths that are wanted: its branches lead to its top, and exactly they are still to come
pub record StandsFor {Configuration Branch : Type 0} (ways : Ways Configuration Branch) (start : Configuration) (IsWanted : List Branch → Type 0)
    (frames : List (Frame Configuration Branch)) (top : Configuration) (IsLeft : Branch → Type 0) : Type 0 where
  pub leads : LeadTo ways start frames top
  pub to_come : (path : List Branch) → IsPath ways start path → IsToCome ways.compare (taken_in frames) IsLeft path ↔ IsWanted path
