-- What the steps that are left name comes after the links so far.
use Rattle.std.proofs.Common.{◌≡◌, ◌+◌, length}
use Rattle.joiner.proofs.LinksNamed.{AreNamedSoFar}
use Rattle.joiner.proofs.naming.name_steps.Given as goal

abbrev pub invariant-loop-step : goal.invariant-loop-step
invariant-loop-step l = record {
  so_far : AreNamedSoFar l.lexicon.lexicon l.fn.steps.items l.links.items l.number l.step-iterator.rest.items;
  counted : l.number + length l.step-iterator.rest.items ≡ 1 + length l.fn.steps.items;
}
