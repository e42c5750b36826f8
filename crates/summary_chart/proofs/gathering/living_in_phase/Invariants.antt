-- The states that live from a front on were found, from the last front to the one at hand, and each took its steps.
use Rattle.std.proofs.Common.{◌+◌, ◌*◌, ◌≤◌, ℕ, length}
use Rattle.search_frames.specs.declared.frame.TheConstants.{NODES_OF_FRAME}
use Rattle.search_frames.specs.Costs.{HasAtMostRules}
use Rattle.search_frames.specs.Frames.{numbered_of}
use Rattle.summary_chart.specs.Onward.{AreLivingBy}
use Rattle.summary_chart.specs.Walked.{AreWalkedFronts, IsFromFront, IsLater, IsLivingRoom}
use Rattle.summary_chart.proofs.gathering.living_in_phase.Given as goal

abbrev pub invariant-loop-taken : goal.invariant-loop-taken
invariant-loop-taken g l =
    let searched = l.here.site.lexicon.now in
    let line = l.here.site.line.now in
    record {
      walked : AreWalkedFronts l.here l.first.phase l.room.nodes.items;
      low : l.taken ≤ length l.room.nodes.items;
      living : AreLivingBy searched line l.here.site.choices.now (numbered_of searched l.here.site.place.now) l.table (IsFromFront l.first.phase l.taken) l.living;
      room : IsLivingRoom searched line l.table l.room;
      later : IsLater l.here.site.place.now.at l.fn.room → IsLater l.here.site.place.now.at l.room;
      spent : (most : ℕ) → HasAtMostRules searched.tries most
          → l.steps + l.taken * (4 + 2 * most) ≤ l.fn.steps + (2 * NODES_OF_FRAME + 1) + NODES_OF_FRAME * (4 + 2 * most);
    }
