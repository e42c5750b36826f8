-- What the readers of a word answer.
use Rattle.std.specs.Prelude.{◌≡◌, ◌<◌, ◌∷◌, ◌++◌, ℕ, Option, Some, None, Result, Ok, Err, List, length}
use Rattle.text_definitions.specs.Words.{IsWord}
use Rattle.text_definitions.specs.Spellings.{Reading}
use Rattle.text_definitions.specs.Slp1.{slp1_of_word}
use Rattle.form_file.specs.declared.error.FileWhy.TheVariants.{Spelling}
use Rattle.form_file.specs.declared.take_error.TakeError.{TakeError}
use Rattle.form_file.specs.declared.take_error.TakeError.TheVariants.{Why, Memory}

-- the only reason to refuse is the spelling, where nothing is spelled; memory may be wanting
abbrev pub IsRead : {A : Type 0} → Option A → Result A TakeError → Type 0
IsRead spelled (Ok value) = spelled ≡ Some value
IsRead spelled (Err (Why why)) = (why ≡ Spelling) × (spelled ≡ None)
IsRead spelled (Err Memory) = Unit {0}

-- the word of a reading, where it has one
abbrev pub word_of : Reading → Option (List ℕ)
word_of (Ok word) = Some word
word_of (Err fault) = None

abbrev pub IsSpelled : Reading → Result (List ℕ) TakeError → Type 0
IsSpelled reading result = IsRead (word_of reading) result

-- the text is the word, which has some letter, in SLP1, then a blank, and then the rest
abbrev pub BeginsWithWord : List ℕ → List ℕ → List ℕ → Type 0
BeginsWithWord text word rest = IsWord word × (0 < length word) × (text ≡ slp1_of_word word ++ 32 ∷ rest)
