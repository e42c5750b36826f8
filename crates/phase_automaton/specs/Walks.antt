-- The walk over a grammar's bytes, as the program keeps it.
use Rattle.lexicon_definitions.specs.GrammarFaults.{Walk as TheWalk}
use Rattle.phase_automaton.specs.declared.walk.Walk.{Walk}

-- what the program knows in front of a byte
abbrev pub walk_of : Walk → TheWalk
walk_of walk =
    record { open_brackets = walk.open_brackets; needs_item = walk.needs_item; name_length = walk.name_length }
