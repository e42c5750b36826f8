-- The program's schemes, faults and fronts, as the definitions of lines name them.
use Rattle.std.specs.Prelude.{ℕ, ◌+◌, ◌-◌, ◌^◌, ◌<◌, ◌≤◌, List, length, ◌≡◌, Result, Ok, Err}
use Rattle.text_definitions.specs.Lines.{Line}
use Rattle.text_definitions.specs.Schemes as schemes
use Rattle.text_definitions.specs.LineTexts as texts
use Rattle.text_definitions.specs.LineTexts.{place_of}
use Rattle.phoneme.specs.declared.memory.Memory as wanting
use Rattle.latin_schemes.specs.declared.spell_error.SpellError.{SpellError}
use Rattle.latin_schemes.specs.declared.spell_error.SpellError.TheVariants as spell_error
use Rattle.latin_schemes.specs.Faults.{fault_of}
use Rattle.latin_schemes.specs.declared.spell_fault.SpellFault.{SpellFault}
use Rattle.text_line.specs.declared.scheme.Scheme.{Scheme}
use Rattle.text_line.specs.declared.scheme.Scheme.TheVariants.{Slp1, Wx, Velthuis, Devanagari}
use Rattle.text_line.specs.declared.line_error.LineError.{LineError}
use Rattle.text_line.specs.declared.line_error.LineError.TheVariants.{Spell, NoLetters, TooLong, Memory}
use Rattle.text_line.specs.declared.text_fault.TextFault.{TextFault}
use Rattle.text_line.specs.declared.text_fault.TextFault.TheVariants as fault_is
use Rattle.text_line.specs.declared.front.Front.{Front}
use Rattle.text_line.specs.declared.front.Front.TheVariants.{Gap, Digit, Other}

-- the scheme of this name
abbrev pub scheme_of : Scheme → schemes.Scheme
scheme_of Slp1 = schemes.Slp1
scheme_of Wx = schemes.Wx
scheme_of Velthuis = schemes.Velthuis
scheme_of Devanagari = schemes.Devanagari

-- the fault of a text, as the definitions name it
abbrev pub text_fault : TextFault → texts.LineFault
text_fault (fault_is.Spell fault) = texts.Misspelled (fault_of fault)
text_fault fault_is.NoLetters = texts.NoLetters
text_fault fault_is.TooLong = texts.TooLong

-- the error is the first fault of the text, or memory ran out
abbrev pub IsLineFaultOf : LineError → Result Line texts.LineFault → Type 0
IsLineFaultOf (Spell fault) reading = reading ≡ Err (texts.Misspelled (fault_of fault))
IsLineFaultOf NoLetters reading = reading ≡ Err texts.NoLetters
IsLineFaultOf TooLong reading = reading ≡ Err texts.TooLong
IsLineFaultOf Memory reading = Unit {0}

-- the fault that the error carries, or that memory ran out
abbrev pub fault_of_error : LineError → Result TextFault wanting.Memory
fault_of_error (Spell fault) = Ok (fault_is.Spell fault)
fault_of_error NoLetters = Ok fault_is.NoLetters
fault_of_error TooLong = Ok fault_is.TooLong
fault_of_error Memory = Err (record {})

-- the same cause
abbrev pub line_error_of : SpellError → LineError
line_error_of (spell_error.Fault fault) = Spell fault
line_error_of spell_error.Memory = Memory

-- what the text begins with, by its length in bytes
abbrev pub front_is : Front → texts.Front
front_is (Gap length) = texts.GapMark (length - 1)
front_is (Digit length) = texts.DigitMark (length - 1)
front_is Other = texts.Other

-- a gap mark or a digit has some bytes, all of them of the text
abbrev pub FitsText : Front → List ℕ → Type 0
FitsText (Gap len) text = (0 < len) × (len ≤ length text)
FitsText (Digit len) text = (0 < len) × (len ≤ length text)
FitsText Other text = Unit {0}

-- the fault's place, counted from so many bytes before, is still a number of 32 bits
abbrev pub FitsFrom : ℕ → SpellFault → Type 0
FitsFrom at fault = at + place_of (fault_of fault) < 2 ^ 32
