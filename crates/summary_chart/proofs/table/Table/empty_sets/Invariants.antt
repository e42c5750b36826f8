-- The sets have their bits, and the words so far are 0.
use Rattle.std.proofs.Common.{◌≡◌, ◌<◌, ℕ, slice_index_or, length}
use Rattle.summary_chart.specs.Tables.{AreMarked}
use Rattle.summary_chart.proofs.table.Table.empty_sets.Given as goal

abbrev pub invariant-loop-word : goal.invariant-loop-word
invariant-loop-word l = record {
  marked : AreMarked l.self.sets.items l.self.filled.items;
  zero : (word : ℕ) → word < l.word → slice_index_or l.self.filled.items word 0 ≡ 0;
  count : length l.self.filled.items ≡ length l.fn.self.filled.items;
  entrances : l.self.entrances ≡ l.fn.self.entrances;
}
