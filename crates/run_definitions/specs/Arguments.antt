-- The words after the name of a command: the arguments and the options among them (own).
use Rattle.std.specs.Prelude.{◌≡◌, ℕ, ◌+◌, ◌≤◌, Bool, false, ◌==◌, if◌then◌else◌, List, [], ◌∷◌, ◌++◌, length, take, drop, codes, All}
use Rattle.std.specs.Prelude.{Option, Some, None, option_and_then}
use Rattle.std.specs.Str.{bytes_eq}
use Rattle.run_definitions.specs.declared.limits.TheConstants.{MOST_WORD_BYTES}

-- a word that may name a file, and which of the words it is, counted from 0
pub record FileWord : Type 0 where
  pub place : ℕ
  pub name : List ℕ

-- the word is an option: it begins with `-`, and that is not all of it
abbrev pub is_option : List ℕ → Bool
is_option [] = false
is_option (first ∷ []) = false
is_option (first ∷ second ∷ rest) = first == 45

-- what words give: the values of `--in`, and the arguments with their places
pub record Given : Type 0 where
  pub values : List (List ℕ)
  pub arguments : List FileWord

-- what a next word may be: any, the value of the `--in` before it, or an argument whatever it is, since `--` came
pub data NextWord : Type 0 where
  Any : NextWord
  Value : NextWord
  Argument : NextWord

-- with one value of `--in` more
abbrev pub with_value : Given → List ℕ → Given
with_value given value = record given { values = given.values ++ value ∷ [] }

-- with one argument more, at this place
abbrev pub with_argument : Given → ℕ → List ℕ → Given
with_argument given place word = record given { arguments = given.arguments ++ record { place = place; name = word } ∷ [] }

-- what is given with a word more where any may stand: the first `--` is no argument, `--in` wants its value, which may also
-- follow it after `=`, and no other option may stand
abbrev pub with_any_word : Given → ℕ → List ℕ → Option (Given × NextWord)
with_any_word given place word =
    if bytes_eq word (codes "--") then Some (given, Argument)
    else (if bytes_eq word (codes "--in") then Some (given, Value)
    else (if bytes_eq (take 5 word) (codes "--in=") then Some (with_value given (drop 5 word), Any)
    else (if is_option word then None
    else Some (with_argument given place word, Any))))

-- what is given with a word more at this place, and what the next may be; None where the word may not stand there
abbrev pub with_word : NextWord → Given → ℕ → List ℕ → Option (Given × NextWord)
with_word Any given place word = with_any_word given place word
with_word Value given place word = if is_option word then None else Some (with_value given word, Any)
with_word Argument given place word = Some (with_argument given place word, Argument)

-- what is given at the end of the words; None where a value is still wanting
abbrev pub given_at_end : NextWord → Given → Option Given
given_at_end Any given = Some given
given_at_end Value given = None
given_at_end Argument given = Some given

-- what is given with these words more, from this place on; None where one of them may not stand there
abbrev pub given_with : List (List ℕ) → NextWord → Given → ℕ → Option Given
given_with [] turn given place = given_at_end turn given
given_with (word ∷ words) turn given place =
    option_and_then (λ next. given_with words next.1 next.0 (place + 1)) (with_word turn given place word)

-- what is given before any word is read
abbrev pub nothing_given : Given
nothing_given = record { values = []; arguments = [] }

-- what the words after a command's name give
abbrev pub given_by : List (List ℕ) → Option Given
given_by words = given_with words Any nothing_given 1

-- the words after a command's name give these values of `--in` and these arguments
abbrev pub HaveArguments : List (List ℕ) → List (List ℕ) → List FileWord → Type 0
HaveArguments words values arguments = given_by words ≡ Some (record { values = values; arguments = arguments })

-- the words are those of the command of this name that takes such values of `--in` and such arguments: its name, and words that
-- give them; and no word is too long
pub record AreNamed (name : List ℕ) (Takes : List (List ℕ) → List FileWord → Type 0) (words : List (List ℕ)) : Type 0 where
  pub following : List (List ℕ)
  pub are : words ≡ name ∷ following
  pub within_limit : All (λ word. length word ≤ MOST_WORD_BYTES) following
  pub values : List (List ℕ)
  pub given : List FileWord
  pub have : HaveArguments following values given
  pub takes : Takes values given
