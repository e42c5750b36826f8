-- Where there are two fields, each tells its set, or the entry tells none.
use Rattle.std.proofs.Common.{Some, None, map, Global, ap}
use Rattle.std.specs.String.{string_bytes}
use Rattle.rule_file.specs.Written.{limits_of}
use Rattle.rule_file.proofs.LimitLemmas.{with_limits}
use Rattle.rule_file.proofs.limits.phases_of.Goals as goal

pub returns-in_default-phases_after_told : goal.returns-in_default-phases_after_told
returns-in_default-phases_after_told c =
    with_limits (map (string_bytes {Z = Global}) c.args.names.now) c.args.is_final (limits_of c.args.limits) c.in-Some.before.now c.in-Some.after.now
    (Some c.in-Some-phases_told.before) None (ap limits_of c.in-Some.is) c.in-Some-phases_told.ensures.told c.in_default-phases_after_told.ensures.told

pub returns : goal.returns
returns c =
    with_limits (map (string_bytes {Z = Global}) c.args.names.now) c.args.is_final (limits_of c.args.limits) c.in-Some.before.now c.in-Some.after.now
    (Some c.in-Some-phases_told.before) (Some c.in-Some-phases_after_told.after) (ap limits_of c.in-Some.is) c.in-Some-phases_told.ensures.told c.in-Some-phases_after_told.ensures.told
