-- The lemma on trees.
use Rattle.phase_automaton.proofs.PieceTrees.{once_or_more_piece}
use Rattle.phase_automaton.proofs.piece.Piece.once_or_more.Goals as goal

pub returns-clause-piece : goal.returns-clause-piece
returns-clause-piece c inner from h =
    once_or_more_piece c.args.positions.now c.link.new.positions c.args.self c.args.self inner from h
    c.link.ensures (λ position. ((λ x. x), (λ x. x))) (λ position. ((λ x. x), (λ x. x))) ((λ x. x), (λ x. x))
