-- What contracts see of the files of the machine: how many reads and how many writes have failed.
use Rattle.std.specs.Prelude.{ℕ}

-- a count for each of the two kinds of call
pub record FaultCounts : Type 0 where
  pub failed_reads : ℕ
  pub failed_writes : ℕ
