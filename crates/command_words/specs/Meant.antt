-- The program's commands and what it reads in words, as the definitions name them.
use Rattle.std.specs.Prelude.{map}
use Rattle.text_line.specs.Values.{scheme_of}
use Rattle.more_schemes.specs.Values.{any_scheme_of}
use Rattle.run_definitions.specs.Arguments as arguments
use Rattle.run_definitions.specs.Commands as defined
use Rattle.command_words.specs.declared.placed_word.PlacedWord.{PlacedWord}
use Rattle.command_words.specs.declared.command.Command.{Command}
use Rattle.command_words.specs.declared.command.Command.TheVariants.{Segment, Check, Build, Read, Batch, Demo, Convert, Join, Split, Annotate, Reread, Migrate}
use Rattle.command_words.specs.declared.given.Given.{Given}
use Rattle.command_words.specs.declared.arguments.NextWord.{NextWord}
use Rattle.command_words.specs.declared.arguments.NextWord.TheVariants.{Any, Value, Argument}

-- a word with its place
abbrev pub word_meant : PlacedWord → arguments.FileWord
word_meant word = record { place = word.place; name = word.name.now }

-- the command with its arguments
abbrev pub command_meant : Command → defined.Command
command_meant (Segment lex scheme text) = defined.Segment (word_meant lex) (scheme_of scheme) text.name.now
command_meant (Check lex) = defined.Check (word_meant lex)
command_meant (Build words) =
    defined.Build (word_meant words.rules) (word_meant words.tables) (word_meant words.stems) (word_meant words.out)
command_meant (Read lex) = defined.Read (word_meant lex)
command_meant (Demo number) = defined.Demo number
command_meant (Convert words) =
    defined.Convert (any_scheme_of words.input) (any_scheme_of words.output) (word_meant words.file) (word_meant words.out)
command_meant (Join words) = defined.Join (word_meant words.lex) words.chain.name.now
command_meant (Split words) = defined.Split (word_meant words.lex) words.text.name.now words.count words.depth
command_meant (Annotate words) = defined.Annotate (word_meant words.lex) words.mark.name.now (word_meant words.out)
command_meant (Reread words) = defined.Reread (word_meant words.lex) (word_meant words.file)
command_meant (Migrate words) = defined.Migrate (word_meant words.lex) (word_meant words.out)
command_meant (Batch words) = defined.Batch (word_meant words.lex) (scheme_of words.scheme) (word_meant words.file) words.count

-- what a next word may be
abbrev pub turn_meant : NextWord → arguments.NextWord
turn_meant Any = arguments.Any
turn_meant Value = arguments.Value
turn_meant Argument = arguments.Argument

-- the values and the arguments that words give
abbrev pub given_meant : Given → arguments.Given
given_meant given = record { values = map (λ value. value.now) given.values.items; arguments = map word_meant given.arguments.items }
