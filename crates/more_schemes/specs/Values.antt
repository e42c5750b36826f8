-- The program's schemes, marks and faults, as the definitions of conversion name them.
use Rattle.std.specs.Prelude.{◌≡◌, ℕ, ◌+◌, ◌^◌, ◌<◌, List, Option, option_map, Err}
use Rattle.std.specs.Borrow.{Bor}
use Rattle.text_definitions.specs.Spellings.{SpellingFault}
use Rattle.text_definitions.specs.LineTexts.{place_of}
use Rattle.latin_schemes.specs.declared.spell_fault.SpellFault.{SpellFault}
use Rattle.latin_schemes.specs.Faults.{fault_of}
use Rattle.conversion_definitions.specs.AnySchemes as defined
use Rattle.conversion_definitions.specs.Marks as marks
use Rattle.conversion_definitions.specs.Conversions.{Converted, ConversionFault}
use Rattle.more_schemes.specs.declared.any_scheme.AnyScheme.{AnyScheme}
use Rattle.more_schemes.specs.declared.any_scheme.AnyScheme.TheVariants.{Slp1, Wx, Velthuis, Devanagari, Iast, Hk}
use Rattle.more_schemes.specs.declared.marks.Marks.{Marks}
use Rattle.more_schemes.specs.declared.marks.Marks.TheVariants as variants
use Rattle.more_schemes.specs.declared.convert_error.ConvertFault.{ConvertFault}
use Rattle.more_schemes.specs.declared.convert_error.ConvertError.{ConvertError}
use Rattle.more_schemes.specs.declared.convert_error.ConvertError.TheVariants.{Fault, Memory}

-- the scheme of this name
abbrev pub any_scheme_of : AnyScheme → defined.AnyScheme
any_scheme_of Slp1 = defined.Slp1
any_scheme_of Wx = defined.Wx
any_scheme_of Velthuis = defined.Velthuis
any_scheme_of Devanagari = defined.Devanagari
any_scheme_of Iast = defined.Iast
any_scheme_of Hk = defined.HarvardKyoto

-- these marks
abbrev pub marks_of : Marks → List marks.Mark
marks_of variants.Latin = marks.latin_marks
marks_of variants.Devanagari = marks.devanagari_marks
marks_of variants.ToLatin = marks.marks_to_latin
marks_of variants.ToDevanagari = marks.marks_to_devanagari

-- the length of a mark, and what it becomes
abbrev pub found_mark : Option (ℕ × Bor (List ℕ)) → Option (ℕ × List ℕ)
found_mark found = option_map (λ pair. (pair.0, pair.1.now)) found

-- the fault of a line, as the definitions have it
abbrev pub conversion_fault : ConvertFault → ConversionFault
conversion_fault fault = record { line = fault.line; fault = fault_of fault.fault }

-- the error is the first fault of the text, or memory ran out
abbrev pub IsConvertFaultOf : ConvertError → Converted → Type 0
IsConvertFaultOf (Fault fault) converted = converted ≡ Err (conversion_fault fault)
IsConvertFaultOf Memory converted = Unit {0}

-- the fault's place, counted from so many bytes before, is still a number of 32 bits
abbrev pub FitsFrom : ℕ → SpellFault → Type 0
FitsFrom at fault = at + place_of (fault_of fault) < 2 ^ 32
