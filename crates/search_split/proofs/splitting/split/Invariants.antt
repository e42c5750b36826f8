-- So many parts are found, and the search stands at the first answer of the next front, or no front is left.
use Rattle.std.proofs.Common.{◌≡◌, length, map, All}
use Rattle.std.specs.Option.{option_map}
use Rattle.search_split.specs.NextFronts.{IsUnderWay}
use Rattle.search_split.specs.Parts.{IsPart, front_in}
use Rattle.search_split.proofs.splitting.split.Given as goal

abbrev pub invariant-loop : goal.invariant-loop
invariant-loop l = record {
  under : IsUnderWay l.lexicon l.line l.choices l.depth (option_map (λ part. front_in part.now) l.fn.after) (map front_in l.list.items) l.search l.found;
  each : All (IsPart l.lexicon l.line l.choices l.depth) l.list.items;
  count : length l.list.items ≡ l.counter;
}
