-- The names in a grammar's text, from the front, and their positions.
use Rattle.std.specs.Prelude.{ℕ, List, [], ◌∷◌, map, if◌then◌else◌}
use Rattle.lexicon_definitions.specs.GrammarTexts.{is_name_byte, phase_named}
use Rattle.lexicon_definitions.specs.GrammarFaults.{PlacedName, names_from}
use Rattle.phase_automaton.specs.declared.position.Position.{Position}

-- the bytes of a name that a text begins with
abbrev pub first_name : List ℕ → List ℕ
first_name [] = []
first_name (byte ∷ text) = if is_name_byte byte then byte ∷ first_name text else []

-- the position before all names
abbrev pub opening_position : Position
opening_position = record { phase = 0; follow = record { bits = 0 } }

-- the position of a name, with nothing that follows yet
abbrev pub position_of_name : List (List ℕ) → PlacedName → Position
position_of_name names name = record { phase = phase_named names name.bytes; follow = record { bits = 0 } }

-- the positions of a text's names, after the position before them
abbrev pub positions_of : List (List ℕ) → List ℕ → List Position
positions_of names text = opening_position ∷ map (position_of_name names) (names_from 0 text)
