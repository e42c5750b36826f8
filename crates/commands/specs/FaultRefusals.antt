-- What the refusal of a file says after the file's name.
use Rattle.std.specs.Prelude.{ℕ, List, ◌++◌, codes}
use Rattle.std.specs.Fmt.{decimal}
use Rattle.text_definitions.specs.LineTexts.{place_of}
use Rattle.run_definitions.specs.Ends.{AnyFault, Large, Lexicon, Rules, Tables, Stems, Spelling, Note}
use Rattle.run_definitions.specs.Refusals.{name_of_why, rules_refusal, record_refusal, name_of_table_why, name_of_stem_why, name_of_note_why}

-- by the fault, its parts grouped as they are printed
abbrev pub fault_refusal : AnyFault → List ℕ
fault_refusal Large = codes ": Large"
fault_refusal (Lexicon fault) = codes " line " ++ (decimal fault.line ++ (codes ": " ++ name_of_why fault.why))
fault_refusal (Rules fault) = rules_refusal fault
fault_refusal (Tables fault) = record_refusal fault.number (name_of_table_why fault.why)
fault_refusal (Stems fault) = record_refusal fault.number (name_of_stem_why fault.why)
fault_refusal (Spelling fault) = codes " line " ++ (decimal fault.line ++ (codes ": spelling " ++ decimal (place_of fault.fault)))
fault_refusal (Note why) = codes ": " ++ name_of_note_why why
