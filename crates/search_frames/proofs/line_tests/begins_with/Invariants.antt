-- The letters so far are those of the word.
use Rattle.std.proofs.Common.{◌≡◌, take}
use Rattle.search_frames.proofs.line_tests.begins_with.Given as goal

abbrev pub invariant-loop-at : goal.invariant-loop-at
invariant-loop-at l = take l.at l.letters ≡ take l.at l.word
