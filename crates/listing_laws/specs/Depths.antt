-- What is still to come, depth by depth.
use Rattle.std.specs.Prelude.{◌≡◌, ℕ, zero, suc, List, [], ◌∷◌}
use Rattle.std.specs.declared.cmp.Ordering.{Ordering}
use Rattle.std.specs.declared.cmp.Ordering.TheVariants.{Less}

-- the path is to come at this depth: it has the branches taken before it, and there a later one (at the top one that is left)
abbrev pub IsToComeAt : {Branch : Type 0} → (Branch → Branch → Ordering) → List Branch → (Branch → Type 0) → ℕ → List Branch → Type 0
IsToComeAt compare taken IsLeft depth [] = ⊥
IsToComeAt compare [] IsLeft zero (branch ∷ path) = IsLeft branch
IsToComeAt compare [] IsLeft (suc depth) (branch ∷ path) = ⊥
IsToComeAt compare (first ∷ taken) IsLeft zero (branch ∷ path) = compare first branch ≡ Less
IsToComeAt compare (first ∷ taken) IsLeft (suc depth) (branch ∷ path) =
    (first ≡ branch) × IsToComeAt compare taken IsLeft depth path
