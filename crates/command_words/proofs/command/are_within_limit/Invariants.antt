-- The words so far are not too long.
use Rattle.std.proofs.Common.{ℕ, ◌<◌, ◌≤◌, length, string_bytes, slice_index_or, Global, String}
use Rattle.run_definitions.specs.declared.limits.TheConstants.{MOST_WORD_BYTES}
use Rattle.command_words.proofs.command.are_within_limit.Given as goal

abbrev pub invariant-loop-word : goal.invariant-loop-word
invariant-loop-word l = (k : ℕ) (d : String Global) → k < l.word-index → length (string_bytes (slice_index_or l.words k d)) ≤ MOST_WORD_BYTES
