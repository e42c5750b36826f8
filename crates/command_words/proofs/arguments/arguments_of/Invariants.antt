-- What all words give, those that are left give with the arguments so far.
use Rattle.std.proofs.Common.{◌≡◌, ◌+◌, Some, map, drop, string_bytes}
use Rattle.run_definitions.specs.Arguments.{Given, given_by}
use Rattle.command_words.specs.Meant.{turn_meant, word_meant}
use Rattle.command_words.proofs.ArgumentTurns.{GiveWith}
use Rattle.command_words.proofs.arguments.arguments_of.Given as goal

abbrev pub invariant-loop-word : goal.invariant-loop-word
invariant-loop-word l = record {
  gives : (given : Given) → given_by (map string_bytes l.words) ≡ Some given
      → GiveWith (map string_bytes (drop l.word-index l.words)) (turn_meant l.turn) (map word_meant l.arguments.items) l.place given;
  place : l.place ≡ l.word-index + 1;
}
