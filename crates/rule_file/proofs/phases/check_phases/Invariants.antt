use Rattle.std.proofs.Common.{◌≡◌, ◌+◌, take, drop, map, Global}
use Rattle.std.specs.String.{string_bytes}
use Rattle.rule_file_definitions.specs.SoundClasses.{name_phases, read_phases}
use Rattle.rule_file.proofs.phases.check_phases.Given as goal

abbrev pub invariant-loop-place : goal.invariant-loop-place
invariant-loop-place l =
    name_phases (map (string_bytes {Z = Global}) (take l.place l.names)) (l.place + 1) (map (string_bytes {Z = Global}) (drop l.place l.names))
    ≡ read_phases (map (string_bytes {Z = Global}) l.names)
