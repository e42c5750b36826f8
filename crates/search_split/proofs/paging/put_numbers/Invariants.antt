-- The first texts have their numbers, and the others are as they were.
use Rattle.std.proofs.Common.{◌≡◌, length, map, string_bytes}
use Rattle.search_split.proofs.NumbersPut.{numbered}
use Rattle.search_split.proofs.paging.put_numbers.Given as goal

abbrev pub invariant-loop-place : goal.invariant-loop-place
invariant-loop-place l = record {
  texts : map string_bytes l.texts.items ≡ numbered 1 l.place (map string_bytes l.fn.texts.items);
  count : length l.texts.items ≡ length l.fn.texts.items;
}
