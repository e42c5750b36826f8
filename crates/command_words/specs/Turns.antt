-- Which of the words that are taken are arguments, told one after another.
use Rattle.std.specs.Prelude.{ℕ, Bool, true, false, not, if◌then◌else◌, List, [], ◌∷◌, ◌++◌, codes}
use Rattle.std.specs.Str.{bytes_eq}
use Rattle.run_definitions.specs.Arguments.{FileWord, NextWord, Any, Value, Argument, is_option}

-- what the next word may be after a word that is taken
abbrev pub turn_after : NextWord → List ℕ → NextWord
turn_after Any word =
    if bytes_eq word (codes "--") then Argument else (if bytes_eq word (codes "--in") then Value else Any)
turn_after Value word = Any
turn_after Argument word = Argument

-- the word, which is taken, is an argument
abbrev pub is_argument : NextWord → List ℕ → Bool
is_argument Any word = not (is_option word)
is_argument Value word = false
is_argument Argument word = true

-- the arguments with this word, where it is one
abbrev pub arguments_with : Bool → List FileWord → ℕ → List ℕ → List FileWord
arguments_with true arguments place word = arguments ++ record { place = place; name = word } ∷ []
arguments_with false arguments place word = arguments
