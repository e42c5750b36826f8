-- the place at which the cut begins is in the set besides
use Rattle.std.proofs.Common.{inl, inr, arith}
use Rattle.trie_checks.proofs.put_places.with_cut.Goals as goal

pub returns : goal.returns
returns c place low either =
    (c.with.ensures place).1 (elim either [
      | inl has ↦ inl has
      | inr here ↦ inr (omega (arith, here))
    ])
