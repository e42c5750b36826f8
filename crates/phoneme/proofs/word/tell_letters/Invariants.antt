-- The letters up to the index have codes of letters.
use Rattle.std.proofs.Common.{ℕ, ◌<◌, slice_index_or}
use Rattle.text_definitions.specs.Letters.{IsLetter}
use Rattle.phoneme.proofs.word.tell_letters.Given as goal

abbrev pub invariant-loop-letter : goal.invariant-loop-letter
invariant-loop-letter l = (k d : ℕ) → k < l.letter-index → IsLetter (slice_index_or l.letters k d)
