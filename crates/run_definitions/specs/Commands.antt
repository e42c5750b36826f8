-- The words of a run, and the commands that they are (own).
use Rattle.std.specs.Prelude.{◌≡◌, ℕ, List, [], ◌∷◌, codes, Option, None, Some}
use Rattle.text_definitions.specs.Schemes.{Scheme}
use Rattle.conversion_definitions.specs.AnySchemes.{AnyScheme}
use Rattle.run_definitions.specs.Arguments.{AreNamed}
pub use Rattle.run_definitions.specs.Arguments.{FileWord}
pub use Rattle.run_definitions.specs.SchemeNames.{GiveScheme}
use Rattle.run_definitions.specs.SegmentOutcomes.{TakesSegment}
use Rattle.run_definitions.specs.CheckOutcomes.{TakesCheck}
use Rattle.run_definitions.specs.BuildOutcomes.{TakesBuild}
use Rattle.run_definitions.specs.ReadOutcomes.{TakesRead}
use Rattle.run_definitions.specs.BatchOutcomes.{TakesBatch}
use Rattle.run_definitions.specs.ConvertOutcomes.{TakesConvert}
use Rattle.run_definitions.specs.JoinOutcomes.{TakesJoin}
use Rattle.run_definitions.specs.SplitOutcomes.{TakesSplit}
use Rattle.run_definitions.specs.AnnotateOutcomes.{TakesAnnotate}
use Rattle.run_definitions.specs.RereadOutcomes.{TakesReread}
use Rattle.run_definitions.specs.MigrateOutcomes.{TakesMigrate}
use Rattle.run_definitions.specs.DemoOutcomes.{TakesDemo}
pub use Rattle.run_definitions.specs.DemoOutcomes.{demo_number_of}

-- a command with its arguments
pub data Command : Type 0 where
  Segment : (lex : FileWord) → (scheme : Scheme) → (text : List ℕ) → Command
  Check : (lex : FileWord) → Command
  Build : (rules tables stems out : FileWord) → Command
  Read : (lex : FileWord) → Command
  Batch : (lex : FileWord) → (scheme : Scheme) → (file : FileWord) → (count : ℕ) → Command
  Demo : (number : ℕ) → Command
  Convert : (from to : AnyScheme) → (file out : FileWord) → Command
  Join : (lex : FileWord) → (chain : List ℕ) → Command
  Split : (lex : FileWord) → (text : List ℕ) → (count depth : ℕ) → Command
  Annotate : (lex : FileWord) → (mark : List ℕ) → (out : FileWord) → Command
  Reread : (lex file : FileWord) → Command
  Migrate : (lex out : FileWord) → Command

-- the files that the command reads, in their order
abbrev pub files_of : Command → List FileWord
files_of (Segment lex scheme text) = lex ∷ []
files_of (Check lex) = lex ∷ []
files_of (Build rules tables stems out) = rules ∷ tables ∷ stems ∷ []
files_of (Read lex) = lex ∷ []
files_of (Batch lex scheme file count) = lex ∷ file ∷ []
files_of (Demo number) = []
files_of (Convert from to file out) = file ∷ []
files_of (Join lex chain) = lex ∷ []
files_of (Split lex text count depth) = lex ∷ []
files_of (Annotate lex mark out) = lex ∷ []
files_of (Reread lex file) = lex ∷ file ∷ []
files_of (Migrate lex out) = lex ∷ []

-- the file that the command writes, where it writes one
abbrev pub out_of : Command → Option FileWord
out_of (Segment lex scheme text) = None
out_of (Check lex) = None
out_of (Build rules tables stems out) = Some out
out_of (Read lex) = None
out_of (Batch lex scheme file count) = None
out_of (Demo number) = None
out_of (Convert from to file out) = Some out
out_of (Join lex chain) = None
out_of (Split lex text count depth) = None
out_of (Annotate lex mark out) = Some out
out_of (Reread lex file) = None
out_of (Migrate lex out) = Some out

-- the command reads the input
abbrev pub ReadsInput : Command → Type 0
ReadsInput (Segment lex scheme text) = ⊥
ReadsInput (Check lex) = ⊥
ReadsInput (Build rules tables stems out) = ⊥
ReadsInput (Read lex) = Unit {0}
ReadsInput (Batch lex scheme file count) = ⊥
ReadsInput (Demo number) = ⊥
ReadsInput (Convert from to file out) = ⊥
ReadsInput (Join lex chain) = ⊥
ReadsInput (Split lex text count depth) = ⊥
ReadsInput (Annotate lex mark out) = ⊥
ReadsInput (Reread lex file) = ⊥
ReadsInput (Migrate lex out) = ⊥

-- the first word of a command
abbrev pub name_of_command : Command → List ℕ
name_of_command (Segment lex scheme text) = codes "segment"
name_of_command (Check lex) = codes "check"
name_of_command (Build rules tables stems out) = codes "build"
name_of_command (Read lex) = codes "read"
name_of_command (Batch lex scheme file count) = codes "batch"
name_of_command (Demo number) = codes "demo"
name_of_command (Convert from to file out) = codes "convert"
name_of_command (Join lex chain) = codes "join"
name_of_command (Split lex text count depth) = codes "split"
name_of_command (Annotate lex mark out) = codes "annotate"
name_of_command (Reread lex file) = codes "reread"
name_of_command (Migrate lex out) = codes "migrate"

-- these values of `--in` and these arguments are the command's
abbrev pub Takes : Command → List (List ℕ) → List FileWord → Type 0
Takes (Segment lex scheme text) values arguments = TakesSegment lex scheme text values arguments
Takes (Check lex) values arguments = TakesCheck lex values arguments
Takes (Build rules tables stems out) values arguments = TakesBuild rules tables stems out values arguments
Takes (Read lex) values arguments = TakesRead lex values arguments
Takes (Batch lex scheme file count) values arguments = TakesBatch lex scheme file count values arguments
Takes (Demo number) values arguments = TakesDemo number values arguments
Takes (Convert from to file out) values arguments = TakesConvert from to file out values arguments
Takes (Join lex chain) values arguments = TakesJoin lex chain values arguments
Takes (Split lex text count depth) values arguments = TakesSplit lex text count depth values arguments
Takes (Annotate lex mark out) values arguments = TakesAnnotate lex mark out values arguments
Takes (Reread lex file) values arguments = TakesReread lex file values arguments
Takes (Migrate lex out) values arguments = TakesMigrate lex out values arguments

-- the words are those of the command
abbrev pub AreWordsOf : Command → List (List ℕ) → Type 0
AreWordsOf command words = AreNamed (name_of_command command) (Takes command) words

-- the words are those of no command
abbrev pub AreOfNoCommand : List (List ℕ) → Type 0
AreOfNoCommand words = (command : Command) → AreWordsOf command words → ⊥

-- the words are those of a command that writes this file
abbrev pub DoWrite : List (List ℕ) → FileWord → Type 0
DoWrite words out = (command : Command) × AreWordsOf command words × (out_of command ≡ Some out)

-- the words are of no command that writes a file
abbrev pub WriteNoFile : List (List ℕ) → Type 0
WriteNoFile words = (out : FileWord) → DoWrite words out → ⊥

-- the words are those of a command that reads the input
abbrev pub DoReadInput : List (List ℕ) → Type 0
DoReadInput words = (command : Command) × AreWordsOf command words × ReadsInput command

-- the words are of no command that reads a file
abbrev pub ReadNoFile : List (List ℕ) → Type 0
ReadNoFile words = (command : Command) → AreWordsOf command words → files_of command ≡ []
