-- Few letters are supplied.
use Rattle.std.proofs.Common.{length, ap, arith}
use Rattle.search_frames.proofs.WalkLeads.{short_supplied}
use Rattle.search_frames.proofs.ahead.is_allowed.Goals as goal

pub overflow_cast-step : goal.overflow_cast-step
overflow_cast-step c =
    let short = short_supplied c.args.rules.now c.args.place.now.entrance c.requires.limits c.requires.over in
    let same = ap length c.supplied_letters-lead.ensures in
    omega (arith, short, same)
