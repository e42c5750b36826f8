-- The test of a phase's name (own).
use Rattle.std.specs.Prelude.{ℕ, ◌&&◌, nat_le, Bool, false, List, [], ◌∷◌, length}
use Rattle.std.specs.List.{list_all}
use Rattle.lexicon_definitions.specs.declared.limits.TheConstants.{MOST_NAME_BYTES}
use Rattle.lexicon_definitions.specs.GrammarTexts.{is_name_byte}
use Rattle.lexicon_definitions.specs.GrammarFaults.{is_small_letter}

-- a phase's name has 1 to 16 bytes, the first a small letter, the others small letters, digits or `_`
abbrev pub is_phase_name : List ℕ → Bool
is_phase_name [] = false
is_phase_name (byte ∷ bytes) =
    is_small_letter byte && nat_le (length (byte ∷ bytes)) MOST_NAME_BYTES && list_all is_name_byte bytes
