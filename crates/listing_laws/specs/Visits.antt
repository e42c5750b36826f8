-- How many frames one move visits where every configuration that is entered has a path.
use Rattle.std.specs.Prelude.{◌≡◌, ℕ, ◌+◌, ◌-◌, ◌<◌, Bool, true, false, List, [], ◌∷◌}

-- a visit of a move: the last frame is left, or a new one is entered
pub data Visit : Type 0 where
  Leave : Visit
  Enter : Visit

-- the visits of one move that begins with this many frames, of which there are never more than the bound; after the first
-- frame that it has entered it enters only, since what is entered has a path
abbrev pub AreVisits : ℕ → Bool → ℕ → List Visit → Type 0
AreVisits bound has_entered frames [] = Unit {0}
AreVisits bound has_entered frames (Leave ∷ visits) =
    (has_entered ≡ false) × (0 < frames) × AreVisits bound false (frames - 1) visits
AreVisits bound has_entered frames (Enter ∷ visits) = (frames < bound) × AreVisits bound true (frames + 1) visits

-- how many visits a move may still make
abbrev pub visits_left : ℕ → Bool → ℕ → ℕ
visits_left bound true frames = bound - frames
visits_left bound false frames = bound + frames
