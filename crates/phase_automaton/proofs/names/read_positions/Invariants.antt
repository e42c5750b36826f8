-- The positions so far and those of the names that are still to come are all; what is unknown is still to come.
use Rattle.std.proofs.Common.{◌≡◌, ◌++◌, drop, map, Global}
use Rattle.std.specs.String.{string_bytes}
use Rattle.lexicon_definitions.specs.GrammarFaults.{names_from, first_unknown}
use Rattle.phase_automaton.specs.Names.{position_of_name, positions_of}
use Rattle.phase_automaton.proofs.NamesForward.{names_after}
use Rattle.phase_automaton.proofs.names.read_positions.Given as goal

abbrev pub invariant-loop-at : goal.invariant-loop-at
invariant-loop-at l =
    let names = map (string_bytes {Z = Global}) l.names in
    record {
      positions : l.positions.items ++ map (position_of_name names) (names_after l.in_name l.at (drop l.at l.text)) ≡ positions_of names l.text;
      known : first_unknown names (names_after l.in_name l.at (drop l.at l.text)) ≡ first_unknown names (names_from 0 l.text);
    }
