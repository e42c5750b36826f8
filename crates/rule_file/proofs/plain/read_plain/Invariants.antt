use Rattle.std.proofs.Common.{◌≡◌, ◌+◌, drop, map, Global}
use Rattle.std.specs.List.Sorted.{IsStrictlySortedBy}
use Rattle.std.specs.String.{string_bytes}
use Rattle.toml.specs.View.{table_view}
use Rattle.lexicon_definitions.specs.Lexicons.{compare_pairs}
use Rattle.rule_file_definitions.specs.PlainEntries.{add_plain, read_plain}
use Rattle.rule_file.proofs.plain.read_plain.Given as goal

abbrev pub invariant-loop-place : goal.invariant-loop-place
invariant-loop-place l = record {
  rising : IsStrictlySortedBy compare_pairs l.pairs.items;
  rest : add_plain (table_view l.classes) l.pairs.items (l.place + 1) (map (string_bytes {Z = Global}) (drop l.place l.entries))
      ≡ read_plain (table_view l.classes) (map (string_bytes {Z = Global}) l.entries);
}
