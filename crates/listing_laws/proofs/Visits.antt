-- A frame has a rank of its own, so there are no more frames than ranks; and the count of visits left falls at each visit.
use Rattle.std.proofs.Common.{◌⊎◌, ◌↔◌, ℕ, ◌+◌, ◌-◌, ◌*◌, ◌<◌, ◌≤◌, Bool, true, false, inl, inr, List, [], ◌∷◌, length, ap, arith}
use Rattle.std.proofs.Math.Nat.{mul-le-mul_left}
use Rattle.listing_laws.specs.Ways.{Ways, AreRanked, IsPath, HasPath}
use Rattle.listing_laws.specs.Stacks.{Frame, LeadTo, Every, HasPathLeft}
use Rattle.listing_laws.specs.Visits.{Visit, Leave, Enter, AreVisits, visits_left}

-- the frames are no more than the ranks from the start to the top
pub frames_ranked : {Configuration Branch : Type 0} {ways : Ways Configuration Branch} {rank : Configuration → ℕ} {bound : ℕ}
    → AreRanked ways rank bound → (start : Configuration) (frames : List (Frame Configuration Branch)) (top : Configuration)
    → LeadTo ways start frames top → length frames + rank start ≤ rank top
frames_ranked {rank = rank} ranked start [] top same = let e = ap rank same in omega arith
frames_ranked {rank = rank} ranked start (frame ∷ frames) top (same, next, leads, later) =
    let e = ap rank same in
    let above = ranked.rises frame.at frame.taken next leads in
    let rest = frames_ranked ranked next frames top later in
    omega arith

-- nor more than the bound
pub frames_bounded : {Configuration Branch : Type 0} {ways : Ways Configuration Branch} {rank : Configuration → ℕ} {bound : ℕ}
    → AreRanked ways rank bound → (start : Configuration) (frames : List (Frame Configuration Branch)) (top : Configuration)
    → rank start ≤ bound → LeadTo ways start frames top → (rank top ≤ bound) × (length frames + rank start ≤ bound)
frames_bounded {rank = rank} ranked start [] top within same = let e = ap rank same in (omega arith, omega arith)
frames_bounded {rank = rank} ranked start (frame ∷ frames) top within (same, next, leads, later) =
    let e = ap rank same in
    let above = ranked.rises frame.at frame.taken next leads in
    let rest = frames_bounded ranked next frames top (ranked.within frame.at frame.taken next leads) later in
    (rest.0, omega (arith, rest.1))

-- where a configuration has a path, one of its branches ends or leads to a configuration that has a path
pub branch_with_path : {Configuration Branch : Type 0} (ways : Ways Configuration Branch) (at : Configuration) → HasPath ways at
    → (branch : Branch) × (ways.ends at branch ⊎ ((next : Configuration) × ways.leads at branch next × HasPath ways next))
branch_with_path ways at ([], is) = absurd is
branch_with_path ways at (branch ∷ [], ends) = (branch, inl ends)
branch_with_path ways at (branch ∷ later ∷ path, (next, leads, is)) = (branch, inr (next, leads, (later ∷ path, is)))

-- after one visit at least one fewer is left: a frame was left
pub fewer_after_leaving : (bound frames : ℕ) → 0 < frames → visits_left bound false (frames - 1) + 1 ≤ visits_left bound false frames
fewer_after_leaving bound frames some = omega arith

-- or entered
pub fewer_after_entering : (bound : ℕ) (has_entered : Bool) (frames : ℕ) → frames < bound
    → visits_left bound true (frames + 1) + 1 ≤ visits_left bound has_entered frames
fewer_after_entering bound true frames room = omega arith
fewer_after_entering bound false frames room = omega arith

-- where each visit costs so much at most, the cost of a move stays within that of the visits left at its beginning
pub spent_within : (cost left left_then spent spent_then most : ℕ) → left_then + 1 ≤ left → spent_then ≤ spent + cost
    → spent + cost * left ≤ most → spent_then + cost * left_then ≤ most
spent_within cost left left_then spent spent_then most fewer more within =
    let times : cost * (left_then + 1) ≤ cost * left = mul-le-mul_left cost fewer in
    omega arith

-- what is entered has a path that is left
pub path_left_where_entered : {Configuration Branch : Type 0} (ways : Ways Configuration Branch) (at : Configuration) → HasPath ways at
    → HasPathLeft ways at Every
path_left_where_entered ways at ([], is) = absurd is
path_left_where_entered ways at (branch ∷ rest, is) = (branch, rest, is, tt)

-- to pass over branches that begin no path leaves it so
pub path_left_passed_over : {Configuration Branch : Type 0} (ways : Ways Configuration Branch) (top : Configuration) (IsLeft Others : Branch → Type 0)
    → ((branch : Branch) (rest : List Branch) → IsPath ways top (branch ∷ rest) → IsLeft branch ↔ Others branch)
    → HasPathLeft ways top IsLeft → HasPathLeft ways top Others
path_left_passed_over ways top IsLeft Others same (branch, rest, is, left) = (branch, rest, is, (same branch rest is).0 left)

-- a move makes no more visits than are left
pub visits_bounded : (bound : ℕ) (has_entered : Bool) (frames : ℕ) (visits : List Visit) → frames ≤ bound
    → AreVisits bound has_entered frames visits → length visits ≤ visits_left bound has_entered frames
visits_bounded bound has_entered frames [] within are = omega arith
visits_bounded bound true frames (Leave ∷ visits) within (none, some, are) = absurd (cc)
visits_bounded bound false frames (Leave ∷ visits) within (none, some, are) =
    let rest = visits_bounded bound false (frames - 1) visits (omega arith) are in
    omega arith
visits_bounded bound true frames (Enter ∷ visits) within (room, are) =
    let rest = visits_bounded bound true (frames + 1) visits (omega arith) are in
    omega arith
visits_bounded bound false frames (Enter ∷ visits) within (room, are) =
    let rest = visits_bounded bound true (frames + 1) visits (omega arith) are in
    omega arith
