-- The words of `demo`, and what it does with a number: it makes source files and a text of the number, and tells how large their lexicon is and how many
-- answers the text has (own).
use Rattle.std.specs.Prelude.{◌≡◌, ℕ, ◌++◌, Bool, if◌then◌else◌, List, [], ◌∷◌, length, Option, Some, None, Ok, codes}
use Rattle.std.specs.Fmt.{decimal}
use Rattle.std.specs.Str.Parse.{digits_value}
use Rattle.outside.specs.Files.{Files}
use Rattle.text_definitions.specs.Lines.{Line}
use Rattle.text_definitions.specs.Schemes.{Slp1}
use Rattle.text_definitions.specs.LineTexts.{line_of_text}
use Rattle.lexicon_definitions.specs.Lexicons.{RuleSet, Lexicon}
use Rattle.lexicon_definitions.specs.Limits.{count_lines}
use Rattle.segmentation_definitions.specs.Derivations.{Step}
use Rattle.segmentation_definitions.specs.Listings.{BeforeFirst, IsPage}
use Rattle.segmentation_definitions.specs.PrintedAnswers.{output_line, printed_rest}
use Rattle.morphology_definitions.specs.Inflection.{Class, Stem}
use Rattle.rule_file_definitions.specs.RuleFileReadings.{IsReadAs}
use Rattle.paradigm_file_definitions.specs.TableFiles.{tables_of}
use Rattle.paradigm_file_definitions.specs.StemFiles.{stems_of}
use Rattle.demo_definitions.specs.declared.limits.TheConstants.{DEMO_PAGE}
use Rattle.demo_definitions.specs.DrawnTexts.{text_of_number}
use Rattle.demo_definitions.specs.SourceTexts.{demo_rules, demo_tables, demo_stems}
use Rattle.text_definitions.specs.TypedNumbers.{are_digits_up_to}
use Rattle.run_definitions.specs.Arguments.{FileWord, AreNamed}
use Rattle.run_definitions.specs.Ends.{Outcome, Done, outcome_over}
use Rattle.run_definitions.specs.Refusals.{usage_outcome}
use Rattle.run_definitions.specs.SourceLexicons.{IsLexiconOf}

-- ---- the words

-- the number that one to eighteen digits write
abbrev pub demo_number_of : List ℕ → Option ℕ
demo_number_of text = if are_digits_up_to 18 text then Some (digits_value 10 text) else None

-- the argument of `demo`: a number
pub record AreDemoArguments (number : ℕ) (arguments : List FileWord) : Type 0 where
  pub word : FileWord
  pub are : arguments ≡ word ∷ []
  pub is : demo_number_of word.name ≡ Some number

-- it takes this argument and no option
abbrev pub TakesDemo : ℕ → List (List ℕ) → List FileWord → Type 0
TakesDemo number values arguments = (values ≡ []) × AreDemoArguments number arguments

-- the words are those of `demo` with this number
abbrev pub AreDemoWords : ℕ → List (List ℕ) → Type 0
AreDemoWords number words = AreNamed (codes "demo") (TakesDemo number) words

-- ---- the outcome

-- what is told of the input of a number: its stems, the lines of forms of its lexicon, the letters of its text, the answers on the
-- page of the text, and whether one is left after them
pub record DemoCounts : Type 0 where
  pub stems : ℕ
  pub forms : ℕ
  pub letters : ℕ
  pub answers : ℕ
  pub more : Bool

-- the source files of the number are read as these, and their lexicon is this one
pub record IsDemoLexicon (number : ℕ) (stems : List Stem) (lexicon : Lexicon) : Type 0 where
  pub rules : RuleSet
  pub rules_read : IsReadAs demo_rules (Ok rules)
  pub classes : List Class
  pub tables_read : tables_of rules.names demo_tables ≡ Ok classes
  pub stems_read : stems_of classes (demo_stems number) ≡ Ok stems
  pub is_of : IsLexiconOf rules classes stems lexicon

-- these are the counts of the number's input: the page before the first answer is that of the line of its text, over its lexicon
pub record AreDemoCounts (number : ℕ) (counts : DemoCounts) : Type 0 where
  pub stems : List Stem
  pub lexicon : Lexicon
  pub is_lexicon : IsDemoLexicon number stems lexicon
  pub line : Line
  pub text_read : line_of_text Slp1 (text_of_number number) ≡ Ok line
  pub answers : List (List Step)
  pub more : Bool
  pub page : IsPage lexicon line [] BeforeFirst DEMO_PAGE answers more
  pub are : counts ≡ record { stems = length stems; forms = count_lines lexicon.phases; letters = length line.letters; answers = length answers; more = more }

-- a line with the name of a count and its number
abbrev pub count_line : List ℕ → ℕ → List ℕ
count_line name count = output_line (name ++ decimal count)

-- `stems S`, `forms F`, `letters L`, `answers A`, and then `more` or `end`
abbrev pub printed_demo : DemoCounts → List ℕ
printed_demo counts =
    count_line (codes "stems ") counts.stems ++ count_line (codes "forms ") counts.forms ++ count_line (codes "letters ") counts.letters
    ++ count_line (codes "answers ") counts.answers ++ printed_rest counts.more

-- the outcome of `demo` with this number: the counts of its input are written
pub record IsDemoOutcome (number : ℕ) (files : Files) (outcome : Outcome) : Type 0 where
  pub counts : DemoCounts
  pub are_counts : AreDemoCounts number counts
  pub is : outcome ≡ outcome_over files (printed_demo counts) Done

-- ---- the run

-- the outcome of a run whose first word is `demo`: that of the command, or where the words are not its words `usage`
pub data IsDemoRun (words : List (List ℕ)) (files : Files) (outcome : Outcome) : Type 0 where
  OfWords : (number : ℕ) → AreDemoWords number words → IsDemoOutcome number files outcome → IsDemoRun words files outcome
  OfOthers : ((number : ℕ) → AreDemoWords number words → ⊥) → outcome ≡ usage_outcome files → IsDemoRun words files outcome
