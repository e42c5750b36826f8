-- The phases that are left lead from this state to where all lead.
use Rattle.std.proofs.Common.{◌≡◌, drop}
use Rattle.segmentation_definitions.specs.Derivations.{phases_of}
use Rattle.phase_automaton.specs.Automata.{IsStateIn, state_from, state_after}
use Rattle.joiner.proofs.joining.accepts_links.Given as goal

abbrev pub invariant-loop-link : goal.invariant-loop-link
invariant-loop-link l = record {
  within : IsStateIn l.automaton l.state;
  left : state_from l.automaton l.state (phases_of (drop l.link-index l.links)) ≡ state_after l.automaton (phases_of l.links);
}
