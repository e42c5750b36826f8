-- Why a file or the input was not read.
use Rattle.std.specs.Prelude.{ℕ, ◌⊎◌, List, Option, Contains}
use Rattle.outside.specs.Counts.{Rose}
use Rattle.outside.specs.Files.{Files, Lacks}
use Rattle.run_definitions.specs.Commands.{Command, FileWord, AreWordsOf, DoReadInput, files_of}

-- a read failed of the files, or of the input where the words are of a command that reads it
abbrev pub ReadsFailed : List (List ℕ) → ℕ → ℕ → ℕ → ℕ → Type 0
ReadsFailed words files files_now input input_now = Rose files files_now ⊎ (DoReadInput words × Rose input input_now)

-- a file that the words are to read is not there
abbrev pub LacksFile : List (List ℕ) → Option Files → Type 0
LacksFile words files =
    (command : Command) × AreWordsOf command words
    × ((word : FileWord) × Contains (files_of command) word × Lacks files word.name)
