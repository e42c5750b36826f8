-- What was left to the fronts so far is in the table, or is left to those with one letter more.
use Rattle.std.proofs.Common.{◌≡◌, ◌+◌, ◌*◌, ◌≤◌, ℕ, All, length}
use Rattle.search_frames.specs.Costs.{HasAtMostRules}
use Rattle.summary_chart.specs.declared.state_set.StateSet.{StateSet}
use Rattle.summary_chart.specs.Levels.{AreLevel, IsFrontHere, IsLedFront}
use Rattle.summary_chart.specs.Spreading.{leads_in}
use Rattle.summary_chart.specs.Tables.{IsTable}
use Rattle.summary_chart.specs.Walked.{IsSpreadRoom}
use Rattle.summary_chart.proofs.LevelFronts.{IsGoneOver}
use Rattle.summary_chart.proofs.spreading.spread_level.Given as goal

abbrev pub invariant-loop-number : goal.invariant-loop-number
invariant-loop-number g l =
    let searched = l.here.site.lexicon.now in
    let line = l.here.site.line.now in
    record {
      end : l.number-end ≡ length l.fn.room.fronts.items;
      low : l.number ≤ length l.fn.room.fronts.items;
      fronts : l.room.fronts.items ≡ l.fn.room.fronts.items;
      longer : All (IsFrontHere l.here) l.room.longer.items;
      walked : All (IsFrontHere l.here) l.room.walked.items;
      lawful : IsTable (leads_in searched) (length line.letters) l.table;
      room : IsSpreadRoom searched line l.table l.room.walking;
      goes : (set : StateSet) (taken : ℕ) → AreLevel l.here set taken l.fn.table l.fn.room.fronts.items
          → IsGoneOver l.here set taken l.fn.room.fronts.items l.number l.room.longer.items l.fn.table l.table;
      led : (set : StateSet) (taken : ℕ) → AreLevel l.here set taken l.fn.table l.fn.room.fronts.items → All (IsLedFront l.here set) l.fn.room.walked.items
          → All (IsLedFront l.here set) l.room.walked.items;
      few : length l.room.longer.items ≤ l.number;
      few_walked : length l.room.walked.items ≤ length l.fn.room.walked.items + l.number;
      spent : (most : ℕ) → HasAtMostRules searched.tries most → l.steps ≤ l.fn.steps + l.number * (5 + 2 * most);
    }
