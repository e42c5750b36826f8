-- The letters and blanks so far are those of the words that the pieces so far spell.
use Rattle.std.proofs.Common.{List, ℕ, map, Bor}
use Rattle.bookmarks.proofs.LinesRead.{HasWords}
use Rattle.bookmarks.proofs.lines.read_line.Given as goal

abbrev pub invariant-loop-piece : goal.invariant-loop-piece
invariant-loop-piece l = record {
  can : (goal.iterator-loop-piece).can_next l.piece-iterator;
  finite : (goal.iterator-loop-piece).is_finite l.piece-iterator;
  words : HasWords (map (λ (x : Bor (List ℕ)). x.now) l.yielded) l.letters l.blanks.items;
}
