-- The fronts with so many letters are a level of the set, and each level took its steps and those for keeping what was walked.
use Rattle.std.proofs.Common.{◌+◌, ◌*◌, ◌≤◌, ℕ, All, length}
use Rattle.lexicon_definitions.specs.declared.limits.TheConstants.{MOST_RULE_LETTERS}
use Rattle.search_frames.specs.declared.frame.TheConstants.{NODES_OF_FRAME}
use Rattle.search_frames.specs.Costs.{HasAtMostRules}
use Rattle.search_frames.specs.Configurations.{rules_in}
use Rattle.summary_chart.specs.Levels.{AreLevel, IsFrontHere, IsLedFront, SpreadsOnly}
use Rattle.summary_chart.specs.Spreading.{leads_in}
use Rattle.summary_chart.specs.Tables.{IsTable}
use Rattle.summary_chart.specs.Walked.{IsSpreadRoom}
use Rattle.summary_chart.proofs.spreading.spread.Given as goal

abbrev pub invariant-loop : goal.invariant-loop
invariant-loop g l =
    let searched = l.site.lexicon.now in
    let line = l.site.line.now in
    let names = length (rules_in searched).names in
    record {
      low : l.counter ≤ NODES_OF_FRAME;
      fronts : All (IsFrontHere l.here) l.room.fronts.items;
      walked : All (IsFrontHere l.here) l.room.walked.items;
      lawful : IsTable (leads_in searched) (length line.letters) l.table;
      room : IsSpreadRoom searched line l.table l.room.walking;
      level : AreLevel l.here l.fn.states l.counter l.table l.room.fronts.items;
      only : SpreadsOnly l.here l.fn.states l.fn.table l.table;
      led : All (IsLedFront l.here l.fn.states) l.room.walked.items;
      few : length l.room.fronts.items ≤ names;
      spent : (most : ℕ) → HasAtMostRules searched.tries most
          → l.steps + length l.room.walked.items ≤ l.fn.steps + names * (1 + MOST_RULE_LETTERS + names) + l.counter * (names * (6 + 2 * most));
    }
