-- The program's faults, as the definitions of the spelling schemes name them.
use Rattle.std.specs.Prelude.{◌≡◌, ℕ, Err}
use Rattle.text_definitions.specs.Spellings as spellings
use Rattle.text_definitions.specs.Spellings.{SpellingFault, Reading}
use Rattle.latin_schemes.specs.declared.spell_fault.SpellFault.{SpellFault}
use Rattle.latin_schemes.specs.declared.spell_fault.SpellFault.TheVariants.{NotLetter, LoneSign, NotUtf8}
use Rattle.latin_schemes.specs.declared.spell_error.SpellError.{SpellError}
use Rattle.latin_schemes.specs.declared.spell_error.SpellError.TheVariants.{Fault, Memory}

-- the same fault at the same place
abbrev pub fault_of : SpellFault → SpellingFault
fault_of (NotLetter at) = spellings.NotLetter at
fault_of (LoneSign at) = spellings.LoneSign at
fault_of (NotUtf8 at) = spellings.NotUtf8 at

-- the place of a fault in bytes, from 0; where a text is not UTF-8, the length of its longest valid front
abbrev pub place_of : SpellFault → ℕ
place_of (NotLetter at) = at
place_of (LoneSign at) = at
place_of (NotUtf8 at) = at

-- the error is the first fault of the text, or memory ran out
abbrev pub IsFaultOf : SpellError → Reading → Type 0
IsFaultOf (Fault fault) reading = reading ≡ Err (fault_of fault)
IsFaultOf Memory reading = Unit {0}
