-- The lemma on trees.
use Rattle.std.proofs.Common.{true, refl}
use Rattle.phase_automaton.proofs.PieceTrees.{any_times_piece}
use Rattle.phase_automaton.proofs.piece.Piece.any_times.Goals as goal

pub returns-clause-piece : goal.returns-clause-piece
returns-clause-piece c inner from h =
    any_times_piece c.args.positions.now c.link.new.positions c.args.self (record { optional = true; first = c.args.self.first; last = c.args.self.last }) inner from h
    c.link.ensures (λ position. ((λ x. x), (λ x. x))) (λ position. ((λ x. x), (λ x. x))) refl
