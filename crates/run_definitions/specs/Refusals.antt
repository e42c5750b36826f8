-- The lines in which words, files, texts and chains are refused (own).
use Rattle.std.specs.Prelude.{ℕ, List, ◌++◌, codes}
use Rattle.std.specs.Fmt.{decimal}
use Rattle.outside.specs.Files.{Files}
use Rattle.text_definitions.specs.LineTexts.{LineFault, Misspelled, NoLetters, TooLong, place_of}
use Rattle.trie_text_definitions.specs.VersionFaults as file
use Rattle.trie_text_definitions.specs.VersionFaults.{Why}
use Rattle.segmentation_definitions.specs.PrintedAnswers.{output_line}
use Rattle.rule_file_definitions.specs.EntryWhys as entry
use Rattle.rule_file_definitions.specs.RuleFileFaults as rule_file
use Rattle.paradigm_file_definitions.specs.TableFaults as table
use Rattle.paradigm_file_definitions.specs.StemFaults as stem
use Rattle.chain_definitions.specs.ChainFaults as chain
use Rattle.note_definitions.specs.NoteFaults as note
use Rattle.run_definitions.specs.Ends as ends
use Rattle.run_definitions.specs.Ends.{AnyFault, Large, Lexicon, Rules, Tables, Stems, Spelling, Note, Outcome, outcome_over}

-- what words of no command do: `usage` is written
abbrev pub usage_outcome : Files → Outcome
usage_outcome files = outcome_over files (output_line (codes "usage")) ends.Usage

-- the name of a reason of a lexicon file of any version, without what it carries
abbrev pub name_of_why : Why → List ℕ
name_of_why file.Trailing = codes "Trailing"
name_of_why file.NoEnd = codes "NoEnd"
name_of_why file.NotUtf8 = codes "NotUtf8"
name_of_why file.Head = codes "Head"
name_of_why file.Order = codes "Order"
name_of_why file.Field = codes "Field"
name_of_why file.Spelling = codes "Spelling"
name_of_why file.Strict = codes "Strict"
name_of_why (file.Grammar fault) = codes "Grammar"
name_of_why file.Child = codes "Child"
name_of_why file.Limit = codes "Limit"
name_of_why file.Twice = codes "Twice"
name_of_why file.Falling = codes "Falling"
name_of_why file.Unused = codes "Unused"
name_of_why file.Delta = codes "Delta"
name_of_why file.Unlimited = codes "Unlimited"

-- the name of a reason of an entry of the rules
abbrev pub name_of_entry_why : entry.Why → List ℕ
name_of_entry_why entry.Shape = codes "Shape"
name_of_entry_why entry.Spelling = codes "Spelling"
name_of_entry_why entry.Class = codes "Class"
name_of_entry_why entry.Phase = codes "Phase"
name_of_entry_why entry.Strict = codes "Strict"
name_of_entry_why entry.Long = codes "Long"
name_of_entry_why entry.Twice = codes "Twice"
name_of_entry_why entry.Limit = codes "Limit"

-- the name of a reason of a table's record
abbrev pub name_of_table_why : table.TableWhy → List ℕ
name_of_table_why table.Fields = codes "Fields"
name_of_table_why table.Tag = codes "Tag"
name_of_table_why table.Phase = codes "Phase"
name_of_table_why table.Spelling = codes "Spelling"
name_of_table_why table.Limit = codes "Limit"
name_of_table_why table.Twice = codes "Twice"

-- the name of a reason of a stem's record
abbrev pub name_of_stem_why : stem.StemWhy → List ℕ
name_of_stem_why stem.Fields = codes "Fields"
name_of_stem_why stem.Spelling = codes "Spelling"
name_of_stem_why stem.UnknownClass = codes "UnknownClass"
name_of_stem_why stem.Short = codes "Short"
name_of_stem_why stem.Limit = codes "Limit"
name_of_stem_why stem.Twice = codes "Twice"

-- what a refusal says after the name of a rule file: `: Toml`, `: Shape`, ` phase N`, ` class N`, ` plain N`, ` rule N: WHY` or
-- `: Grammar`
abbrev pub rules_refusal : rule_file.Fault → List ℕ
rules_refusal rule_file.Toml = codes ": Toml"
rules_refusal rule_file.Shape = codes ": Shape"
rules_refusal (rule_file.Phase number) = codes " phase " ++ decimal number
rules_refusal (rule_file.Class number) = codes " class " ++ decimal number
rules_refusal (rule_file.Plain number) = codes " plain " ++ decimal number
rules_refusal (rule_file.Rule number why) = codes " rule " ++ decimal number ++ codes ": " ++ name_of_entry_why why
rules_refusal (rule_file.Grammar fault) = codes ": Grammar"

-- what a refusal says after the name of a file of records: ` record N: WHY`
abbrev pub record_refusal : ℕ → List ℕ → List ℕ
record_refusal number why = codes " record " ++ decimal number ++ codes ": " ++ why

-- the name of a reason of a note
abbrev pub name_of_note_why : note.Why → List ℕ
name_of_note_why note.Json = codes "Json"
name_of_note_why note.Shape = codes "Shape"
name_of_note_why note.Text = codes "Text"
name_of_note_why note.Choice = codes "Choice"
name_of_note_why note.NotOnly = codes "NotOnly"
name_of_note_why note.Segments = codes "Segments"

-- `bad file NAME: Large`; `bad file NAME line N: WHY` of a lexicon file; `bad file NAME line N: spelling AT` of a text; `bad file NAME: WHY`
-- of a note; and so on of the others
abbrev pub file_refusal : List ℕ → AnyFault → List ℕ
file_refusal name Large = output_line (codes "bad file " ++ name ++ codes ": Large")
file_refusal name (Lexicon fault) =
    output_line (codes "bad file " ++ name ++ codes " line " ++ decimal fault.line ++ codes ": " ++ name_of_why fault.why)
file_refusal name (Rules fault) = output_line (codes "bad file " ++ name ++ rules_refusal fault)
file_refusal name (Tables fault) =
    output_line (codes "bad file " ++ name ++ record_refusal fault.number (name_of_table_why fault.why))
file_refusal name (Stems fault) =
    output_line (codes "bad file " ++ name ++ record_refusal fault.number (name_of_stem_why fault.why))
file_refusal name (Spelling fault) =
    output_line (codes "bad file " ++ name ++ codes " line " ++ decimal fault.line ++ codes ": spelling " ++ decimal (place_of fault.fault))
file_refusal name (Note why) = output_line (codes "bad file " ++ name ++ codes ": " ++ name_of_note_why why)

-- `bad text spelling AT`, `bad text no letters` or `bad text too long`
abbrev pub text_refusal : LineFault → List ℕ
text_refusal (Misspelled fault) = output_line (codes "bad text spelling " ++ decimal (place_of fault))
text_refusal NoLetters = output_line (codes "bad text no letters")
text_refusal TooLong = output_line (codes "bad text too long")

-- the name of a reason of a chain
abbrev pub name_of_chain_why : chain.Why → List ℕ
name_of_chain_why chain.Shape = codes "Shape"
name_of_chain_why chain.Phase = codes "Phase"
name_of_chain_why chain.Form = codes "Form"
name_of_chain_why chain.Rule = codes "Rule"
name_of_chain_why chain.Barred = codes "Barred"
name_of_chain_why chain.Meet = codes "Meet"

-- `bad chain step N: WHY`
abbrev pub chain_refusal : chain.Fault → List ℕ
chain_refusal fault = output_line (codes "bad chain step " ++ decimal fault.step ++ codes ": " ++ name_of_chain_why fault.why)
