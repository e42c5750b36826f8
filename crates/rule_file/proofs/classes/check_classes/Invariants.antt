use Rattle.std.proofs.Common.{◌≡◌, ◌+◌}
use Rattle.toml.specs.View.{members_view}
use Rattle.rule_file_definitions.specs.SoundClasses.{check_classes, read_classes}
use Rattle.rule_file.proofs.classes.check_classes.Given as goal

abbrev pub invariant-loop-name : goal.invariant-loop-name
invariant-loop-name l =
    check_classes (members_view l.classes.entries) (l.place + 1) (members_view l.name-iterator) ≡ read_classes (members_view l.classes.entries)
