-- The bytes so far and those of the rest's piece are the bytes of the text's piece.
use Rattle.std.proofs.Common.{length, drop, ◌+◌, ◌-◌, ◌≡◌, ◌≤◌}
use Rattle.text_line.specs.Values.{scheme_of}
use Rattle.text_line.specs.Pieces.{piece_length}
use Rattle.text_line.proofs.front.piece_length.Given as goal

abbrev pub invariant-loop-length : goal.invariant-loop-length
invariant-loop-length l = record {
  within : l.length ≤ length l.text;
  whole : l.length + piece_length (scheme_of l.scheme) (drop l.length l.text) ≡ piece_length (scheme_of l.scheme) l.text;
}

abbrev pub decreases-loop-length : goal.decreases-loop-length
decreases-loop-length l = length l.text - l.length
