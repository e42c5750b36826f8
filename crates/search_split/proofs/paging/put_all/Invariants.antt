-- The answers of the first parts are put after the page, whatever fronts it had; what is left of the lists is right.
use Rattle.std.proofs.Common.{◌≡◌, ◌⊎◌, ◌+◌, ◌≤◌, ◌++◌, List, length, map, take}
use Rattle.std.specs.List.Sorted.{IsStrictlySortedBy}
use Rattle.segmentation_definitions.specs.Listings.{Key, compare_key_lists}
use Rattle.search_split.specs.Starts.{front_from}
use Rattle.search_split.specs.Listing.{IsPageOfFronts, AreFound}
use Rattle.search_split.proofs.paging.put_all.Given as goal

abbrev pub invariant-loop-place : goal.invariant-loop-place
invariant-loop-place g l = record {
  found : AreFound l.lister.lexicon.now l.lister.line.now l.lister.choices.now l.lister.depth l.starts l.found.items;
  room : length l.page.texts.items ≤ l.lister.limit;
  grows : (length l.page.texts.items ≡ l.lister.limit) ⊎ (length l.initial.page.texts.items + l.place ≤ length l.page.texts.items);
  ok : (fronts : List (List Key)) → IsStrictlySortedBy compare_key_lists (fronts ++ map (front_from l.lister.depth) l.starts)
      → IsPageOfFronts l.lister.lexicon.now l.lister.line.now l.lister.choices.now l.lister.depth l.lister.limit fronts l.initial.page
      → IsPageOfFronts l.lister.lexicon.now l.lister.line.now l.lister.choices.now l.lister.depth l.lister.limit
      (fronts ++ map (front_from l.lister.depth) (take l.place l.starts)) l.page;
}
