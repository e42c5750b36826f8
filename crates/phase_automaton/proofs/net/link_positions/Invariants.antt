-- The reader stands in the text, before the bytes that are left.
use Rattle.std.proofs.Common.{◌≡◌, ℕ, List, [], ◌∷◌, length, drop}
use Rattle.lexicon_definitions.specs.GrammarTexts.{tokens_of, empty_level, after_tokens}
use Rattle.phase_automaton.specs.Names.{positions_of}
use Rattle.phase_automaton.proofs.Readings.{IsReading}
use Rattle.phase_automaton.proofs.net.link_positions.Given as goal

abbrev pub invariant-loop-byte : goal.invariant-loop-byte
invariant-loop-byte l = record {
  count : length l.positions ≡ length l.initial.positions;
  reading : (names : List (List ℕ)) → l.initial.positions ≡ positions_of names l.text
      → IsReading names l.initial.positions l.positions l.reader l.in_name (drop l.byte-index l.text) (after_tokens names (tokens_of l.text) (empty_level ∷ []));
}
