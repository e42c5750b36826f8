-- The lemma on the whole tree.
use Rattle.std.proofs.Common.{◌≡◌, ℕ, ◌↔◌, ◌⊎◌, inl, inr, IsTrue}
use Rattle.phase_automaton.specs.PositionSets.{HasPosition}
use Rattle.phase_automaton.proofs.NetTrees.{opened_net}
use Rattle.phase_automaton.proofs.net.open_net.Goals as goal

pub returns : goal.returns
returns c all grammar none whole =
    let end : (position : ℕ) → HasPosition c.union_if.result position ↔ (HasPosition c.args.piece.last position ⊎ (IsTrue c.args.piece.optional × (position ≡ 0))) =
    λ position. (
      (λ h. elim ((c.union_if.ensures position).0 h) [ inl x ↦ inl x | inr x ↦ inr (x.0, (c.only.ensures position).0 x.1) ]),
      (λ h. (c.union_if.ensures position).1 (elim h [ inl x ↦ inl x | inr x ↦ inr (x.0, (c.only.ensures position).1 x.1) ])),
    ) in
    opened_net all c.args.positions.now c.args.piece c.union_if.result grammar c.requires none whole.0 whole.2 end
