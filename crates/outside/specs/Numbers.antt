-- Natural numbers that only clauses see.
use Rattle.std.specs.Prelude.{ℕ, ◌+◌, Option, None, Some}
use Rattle.std.specs.declared.snapshot.Snapshot.{Snapshot}

-- one more than the number before, or 0 where there is no number before
abbrev pub number_after : Option (Snapshot ℕ) → ℕ
number_after None = 0
number_after (Some before) = before.value + 1
