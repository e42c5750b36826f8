-- A place for each line so far, where nothing is found.
use Rattle.std.proofs.Common.{ℕ, take}
use Rattle.lexicon_definitions.specs.Lexicons.{Lexicon}
use Rattle.batch_reader.specs.Replies.{AreFound}
use Rattle.batch_reader.proofs.answering.no_replies.Given as goal

abbrev pub invariant-loop-one : goal.invariant-loop-one
invariant-loop-one l = (lexicon : Lexicon) (count : ℕ) → AreFound lexicon count (take l._one-index l.asked) l.found.items
