-- The key is at the place or refused there, and the frame is set to it.
use Rattle.std.proofs.Common.{sym, subst}
use Rattle.search_frames.specs.Frames.{IsConfigurationIn}
use Rattle.search_frames.proofs.TurnedFrames.{room_for_nodes}
use Rattle.search_frames.proofs.seeking.seek.Goals as goal

pub has_key-requires-clause-place : goal.has_key-requires-clause-place
has_key-requires-clause-place c = subst (IsConfigurationIn c.args.lexicon.now c.args.line.now) (sym c.of_frame-place.ensures) c.requires.placed.within

pub has_key-requires-clause-room : goal.has_key-requires-clause-room
has_key-requires-clause-room c = room_for_nodes c.args.stack.now c.requires.placed.is_stack
