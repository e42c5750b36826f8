-- What a worker keeps from line to line (own).
use Rattle.search_frames.specs.Stacks.{IsStack}
use Rattle.batch_reader.specs.declared.replier.Desk.{Desk}

-- a search may stand on the desk's stack
abbrev pub IsDesk : Desk → Type 0
IsDesk desk = IsStack desk.room.stack
