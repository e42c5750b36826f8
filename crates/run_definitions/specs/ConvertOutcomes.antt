-- The words of `convert`, and what it does with two schemes and the names of a text file and a file to write (own).
use Rattle.std.specs.Prelude.{◌≡◌, ℕ, ◌++◌, List, [], ◌∷◌, length, Result, Ok, Err, codes}
use Rattle.std.specs.Fmt.{decimal}
use Rattle.outside.specs.Files.{Files, with_file}
use Rattle.lexicon_text_definitions.specs.FileLines.{lines_of_bytes}
use Rattle.segmentation_definitions.specs.PrintedAnswers.{output_line}
use Rattle.conversion_definitions.specs.AnySchemes.{AnyScheme, name_of_any_scheme}
use Rattle.conversion_definitions.specs.Conversions.{ConversionFault, Converted, converted_text}
use Rattle.run_definitions.specs.Arguments.{FileWord, AreNamed}
use Rattle.run_definitions.specs.Ends.{Outcome, Spelling, Done}
use Rattle.run_definitions.specs.Refusals.{usage_outcome}
use Rattle.run_definitions.specs.SourceTells.{SourceTells, DoesTellSource, IsOutcomeAfter}

-- ---- the words

-- the arguments of `convert`: the names of two schemes, a text file and a file to write
pub record AreConvertArguments (from to : AnyScheme) (file out : FileWord) (arguments : List FileWord) : Type 0 where
  pub first : FileWord
  pub second : FileWord
  pub are : arguments ≡ first ∷ second ∷ file ∷ out ∷ []
  pub names_from : first.name ≡ name_of_any_scheme from
  pub names_to : second.name ≡ name_of_any_scheme to

-- it takes these arguments and no option
abbrev pub TakesConvert : AnyScheme → AnyScheme → FileWord → FileWord → List (List ℕ) → List FileWord → Type 0
TakesConvert from to file out values arguments = (values ≡ []) × AreConvertArguments from to file out arguments

-- the words are those of `convert` with these
abbrev pub AreConvertWords : AnyScheme → AnyScheme → FileWord → FileWord → List (List ℕ) → Type 0
AreConvertWords from to file out words = AreNamed (codes "convert") (TakesConvert from to file out) words

-- ---- the outcome

-- what a text file gives: its text in the other scheme, and how many lines it has
pub record Conversion : Type 0 where
  pub bytes : List ℕ
  pub lines : ℕ

-- a converted text with the number of its lines, or its fault
abbrev pub with_count : ℕ → Converted → Result Conversion ConversionFault
with_count count (Ok bytes) = Ok (record { bytes = bytes; lines = count })
with_count count (Err fault) = Err fault

-- the bytes of a text file give this, or have this first fault
abbrev pub IsConversion : AnyScheme → AnyScheme → List ℕ → Result Conversion ConversionFault → Type 0
IsConversion from to bytes result = with_count (length (lines_of_bytes bytes)) (converted_text from to bytes) ≡ result

-- what the text file tells
abbrev pub ConversionTells : AnyScheme → AnyScheme → Files → List ℕ → SourceTells Conversion → Type 0
ConversionTells from to files name tells = DoesTellSource (IsConversion from to) Spelling files name tells

-- `lines L`, the number of lines
abbrev pub printed_lines : ℕ → List ℕ
printed_lines lines = output_line (codes "lines " ++ decimal lines)

-- the text is written in the other scheme: its file has it, all others are as they were, and then the number of lines is printed
abbrev pub IsConvertedOutcome : Conversion → FileWord → Files → Outcome → Type 0
IsConvertedOutcome conversion out files outcome =
    outcome ≡ record { output = printed_lines conversion.lines; files = with_file files out.name conversion.bytes; end = Done }

-- the outcome of `convert` with these schemes and these names of files
pub record IsConvertOutcome (from to : AnyScheme) (file out : FileWord) (files : Files) (outcome : Outcome) : Type 0 where
  pub tells : SourceTells Conversion
  pub do_tell : ConversionTells from to files file.name tells
  pub is_outcome : IsOutcomeAfter tells file files outcome (λ conversion. IsConvertedOutcome conversion out files outcome)

-- ---- the run

-- the outcome of a run whose first word is `convert`: that of the command, or where the words are not its words `usage`
pub data IsConvertRun (words : List (List ℕ)) (files : Files) (outcome : Outcome) : Type 0 where
  OfWords : (from to : AnyScheme) (file out : FileWord) → AreConvertWords from to file out words
      → IsConvertOutcome from to file out files outcome → IsConvertRun words files outcome
  OfOthers : ((from to : AnyScheme) (file out : FileWord) → AreConvertWords from to file out words → ⊥)
      → outcome ≡ usage_outcome files → IsConvertRun words files outcome
