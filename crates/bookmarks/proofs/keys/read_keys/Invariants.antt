-- The keys so far are those that the parts so far write.
use Rattle.std.proofs.Common.{◌≡◌, Some, List, ℕ, map, Bor}
use Rattle.derivation.specs.Steps.{keys_meant}
use Rattle.bookmark_definitions.specs.BookmarkReadings.{key_of_text, each_read}
use Rattle.bookmarks.proofs.keys.read_keys.Given as goal

abbrev pub invariant-loop-part : goal.invariant-loop-part
invariant-loop-part l = record {
  can : (goal.iterator-loop-part).can_next l.part-iterator;
  finite : (goal.iterator-loop-part).is_finite l.part-iterator;
  read : each_read key_of_text (map (λ (x : Bor (List ℕ)). x.now) l.yielded) ≡ Some (keys_meant l.keys.items);
}
