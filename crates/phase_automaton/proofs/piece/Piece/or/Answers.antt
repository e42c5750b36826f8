-- The lemma on trees.
use Rattle.std.proofs.Common.{IsTrue, ◌↔◌, ◌⊎◌, inl, inr, sym, ◌∙◌}
use Rattle.std.proofs.lemmas.Bool.{false≢true}
use Rattle.phase_automaton.proofs.PieceTrees.{or_piece}
use Rattle.phase_automaton.proofs.piece.Piece.or.Goals as goal
use Rattle.phase_automaton.proofs.piece.Piece.or.Goals.{then-self, else-self}

pub returns : goal.returns
returns c positions left right from l r =
    let optional : IsTrue c.if-self.result ↔ (IsTrue c.args.self.optional ⊎ IsTrue c.args.other.optional) =
    elim c.if-self.branch [
      | then-self w ↦ ((λ x. inl w.if-self.true), (λ x. w.result-is ∙ w.if-self.true))
      | else-self w ↦ (
        (λ x. inr (sym w.result-is ∙ x)),
        (λ x. elim x [ inl y ↦ absurd (false≢true (sym w.if-self.false ∙ y)) | inr y ↦ w.result-is ∙ y ]),
      )
    ] in
    or_piece positions c.args.self c.args.other (record { optional = c.if-self.result; first = c.union.result; last = c.union-2.result }) left right from l r
    optional c.union.ensures c.union-2.ensures
