-- The sets have their bits, where the word has those that are left.
use Rattle.std.proofs.Common.{◌≡◌, slice_set}
use Rattle.summary_chart.specs.Tables.{AreMarked}
use Rattle.summary_chart.proofs.table.Table.empty_word.Given as goal

abbrev pub invariant-loop-bits : goal.invariant-loop-bits
invariant-loop-bits l = record {
  marked : AreMarked l.self.sets.items (slice_set l.fn.self.filled.items l.word l.bits);
  filled : l.self.filled ≡ l.fn.self.filled;
  entrances : l.self.entrances ≡ l.fn.self.entrances;
}

abbrev pub decreases-loop-bits : goal.decreases-loop-bits
decreases-loop-bits l = l.bits
