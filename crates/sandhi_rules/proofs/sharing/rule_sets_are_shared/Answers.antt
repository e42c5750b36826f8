-- Each part of a rule set may be shared.
use denote.Param.Send.{sendable}
use Rattle.std.proofs.Crossing.{crosses}
use Rattle.sandhi_rules.proofs.sharing.rule_sets_are_shared.Goals as goal

pub returns : goal.returns
returns c = search (sendable, crosses) depth 60 fits 50000
