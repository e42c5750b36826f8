-- The lemma on trees.
use Rattle.std.proofs.Common.{IsTrue, ◌↔◌, sym, ◌∙◌}
use Rattle.std.proofs.lemmas.Bool.{false≢true}
use Rattle.phase_automaton.proofs.PieceTrees.{then_piece}
use Rattle.phase_automaton.proofs.piece.Piece.then.Goals as goal
use Rattle.phase_automaton.proofs.piece.Piece.then.Goals.{then-self, else-self}

pub returns-clause-piece : goal.returns-clause-piece
returns-clause-piece c first second from l r =
    let optional : IsTrue c.if-self.result ↔ (IsTrue c.args.self.optional × IsTrue c.args.next.optional) =
    elim c.if-self.branch [
      | then-self w ↦ ((λ x. (w.if-self.true, sym w.result-is ∙ x)), (λ x. w.result-is ∙ x.1))
      | else-self w ↦ (
        (λ x. absurd (false≢true (sym w.if-self.false ∙ (sym w.result-is ∙ x)))),
        (λ x. absurd (false≢true (sym w.if-self.false ∙ x.0))),
      )
    ] in
    then_piece c.args.positions.now c.link.new.positions c.args.self c.args.next (record { optional = c.if-self.result; first = c.union_if.result; last = c.union_if-2.result }) first second from l r
    c.link.ensures optional c.union_if.ensures c.union_if-2.ensures
