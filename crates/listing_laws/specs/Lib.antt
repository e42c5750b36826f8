-- How the laws are used by a search. Say what its configurations and branches are, as `Ways`, and prove `AreOrderly`. See its
-- stack as `frames` (a configuration and the branch taken there, from the start inwards), a `top`, and which branches are
-- left there. The loop's invariant is then `StandsFor ways start IsWanted frames top IsLeft`, where `IsWanted` stays the same
-- through a call: what is above the old cursor, `IsAbove compare cursor`, or what is past its first branches, `IsPast`.
-- Each step of the loop is one lemma of `proofs/`:
--     `stands_at_start`, `stands_at_path`, `stands_past_last`      where a search begins (go to a path by `path_from_top`)
--     `comes_to_first`, `comes_to_next`, `passes_one`      candidates in order, of which one that begins no path is passed over
--     `passes_over`      all of these: only what is left of the branches that begin a path matters
--     `enters`           the first branch left leads on: its frame is pushed, and every branch is left where it leads
--     `leaves`           no branch is left: the last frame is popped, and the branches after the one taken there are left
--     `finds`, `stands_at_found`      the first branch left ends: it is the first path wanted, and the search stands at it
--     `exhausted`        no branch is left, and no frame: no path is wanted
--     `skips`            frames past a depth are dropped: what is wanted has other first branches
-- `frames_bounded` bounds the frames by ranks, `visits_bounded` the visits of one move under an exact guide, and the measure
-- `far_from_end` falls at each step, whatever the guide (`falls_at_entering`, `falls_at_leaving`, `falls_at_passing`).
pub mod Ways
pub mod Cursors
pub mod Stacks
pub mod Listings
pub mod Depths
pub mod Visits
pub mod Measures
pub mod SmallSums
