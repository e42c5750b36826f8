-- What the parts so far lead on to is in the table; each part took a step, and as many as it has rules.
use Rattle.std.proofs.Common.{◌+◌, ◌≤◌, ℕ, length, take}
use Rattle.std.specs.List.{sum_by}
use Rattle.annotated_trie.specs.Choices.{parts_of, rules_of_part}
use Rattle.summary_chart.specs.Memos.{AreSpread, IsByPart}
use Rattle.summary_chart.specs.Onward.{SpreadsOnward}
use Rattle.summary_chart.specs.Tables.{IsTable}
use Rattle.summary_chart.specs.Spreading.{leads_in}
use Rattle.summary_chart.proofs.spreading.spread_parts.Given as goal

abbrev pub invariant-loop-part : goal.invariant-loop-part
invariant-loop-part g l = record {
  low : l.part-index ≤ length l.parts;
  memo : AreSpread l.onward.here.site.lexicon.now l.onward.here.site.line.now l.table l.memo;
  lawful : IsTable (leads_in l.onward.here.site.lexicon.now) (length l.onward.here.site.line.now.letters) l.table;
  spreads : SpreadsOnward l.onward
      (IsByPart l.onward.here.site.lexicon.now.tries l.ruled.front.now.phase l.ruled.front.now.taken (take l.part-index (parts_of l.onward.here.site.lexicon.now.tries l.ruled.front.now.node))) l.fn.table l.table;
  spent : l.steps ≤ l.fn.steps + l.part-index + sum_by (λ (part : ℕ). length (rules_of_part l.onward.here.site.lexicon.now.tries part)) (take l.part-index l.parts);
}
