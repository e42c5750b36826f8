-- Each part of the texts may be shared.
use denote.Param.Send.{sendable}
use Rattle.std.proofs.Crossing.{crosses}
use Rattle.answer_printing.proofs.sharing.rule_texts_are_shared.Goals as goal

pub returns : goal.returns
returns c = λ κ. search (sendable, crosses) depth 60 fits 20000
