-- The lemma on trees.
use Rattle.std.proofs.Common.{true, refl}
use Rattle.phase_automaton.proofs.PieceTrees.{at_most_once_piece}
use Rattle.phase_automaton.proofs.piece.Piece.at_most_once.Goals as goal

pub returns : goal.returns
returns c positions inner from h =
    at_most_once_piece positions c.args.self (record { optional = true; first = c.args.self.first; last = c.args.self.last }) inner from h
    (λ position. ((λ x. x), (λ x. x))) (λ position. ((λ x. x), (λ x. x))) refl
