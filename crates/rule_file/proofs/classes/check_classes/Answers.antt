-- The members of the table are tested in their order.
use Rattle.std.proofs.Common.{◌∙◌, ap}
use Rattle.toml.specs.View.{members_view}
use Rattle.rule_file_definitions.specs.SoundClasses.{check_classes, read_classes}
use Rattle.rule_file.proofs.classes.check_classes.Goals as goal

pub loop-name-init : goal.loop-name-init
unfolding read_classes
loop-name-init c =
    ap (λ entries. check_classes (members_view c.args.classes.now.entries) 1 (members_view entries))
    (c.into_iter-name-iterator.ensures.into_iter_gives ∙ c.iter-name-items.ensures.rest)
