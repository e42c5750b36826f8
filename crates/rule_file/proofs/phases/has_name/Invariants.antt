use Rattle.std.proofs.Common.{◌≡◌, drop, map, Global}
use Rattle.std.specs.List.{list_any}
use Rattle.std.specs.Str.{bytes_eq}
use Rattle.std.specs.String.{string_bytes}
use Rattle.rule_file.proofs.phases.has_name.Given as goal

abbrev pub invariant-loop-known : goal.invariant-loop-known
invariant-loop-known l =
    list_any (bytes_eq l.name) (map (string_bytes {Z = Global}) (drop l.known-index l.names)) ≡ list_any (bytes_eq l.name) (map (string_bytes {Z = Global}) l.names)
