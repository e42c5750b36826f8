-- The choices so far are those that the parts so far write.
use Rattle.std.proofs.Common.{◌≡◌, Some, List, ℕ, map, Bor}
use Rattle.bookmark_definitions.specs.BookmarkReadings.{choice_of, each_read}
use Rattle.bookmarks.proofs.choices.read_choices.Given as goal

abbrev pub invariant-loop-part : goal.invariant-loop-part
invariant-loop-part l = record {
  can : (goal.iterator-loop-part).can_next l.part-iterator;
  finite : (goal.iterator-loop-part).is_finite l.part-iterator;
  read : each_read choice_of (map (λ (x : Bor (List ℕ)). x.now) l.yielded) ≡ Some l.choices.items;
}
