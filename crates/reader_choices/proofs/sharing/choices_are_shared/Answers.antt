-- Each part of a reader's choices may be shared.
use denote.Param.Send.{sendable}
use Rattle.std.proofs.Crossing.{crosses}
use Rattle.reader_choices.proofs.sharing.choices_are_shared.Goals as goal

pub returns : goal.returns
returns c = search (sendable, crosses) depth 60 fits 50000
