-- The lemma on trees.
use Rattle.std.proofs.Common.{false}
use Rattle.std.proofs.lemmas.Bool.{false≢true}
use Rattle.phase_automaton.proofs.PieceTrees.{name_piece}
use Rattle.phase_automaton.proofs.piece.Piece.name.Goals as goal

pub returns : goal.returns
returns c positions within none =
    name_piece positions (record { optional = false; first = c.only.result; last = c.only-2.result }) c.args.position within none
    false≢true c.only.ensures c.only-2.ensures
