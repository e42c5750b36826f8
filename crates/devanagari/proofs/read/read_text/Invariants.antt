-- What was read, followed by what the rest of the text spells, is what the text spells.
use Rattle.std.proofs.Common.{◌≡◌, ◌+◌, false, length}
use Rattle.std.specs.Str.{IsUtf8, chars}
use Rattle.std.specs.Str.Iter.{char_indices_rest, char_indices_offset}
use Rattle.text_definitions.specs.Spellings.{with_front}
use Rattle.text_definitions.specs.Devanagari.{word_of_points}
use Rattle.devanagari.proofs.read.read_text.Given as goal

abbrev pub invariant-loop-at : goal.invariant-loop-at
invariant-loop-at l = record {
  place : char_indices_offset l.at-iterator + length (char_indices_rest l.at-iterator) ≡ length l.text;
  text : IsUtf8 (char_indices_rest l.at-iterator);
  spelled : with_front l.reader.word (word_of_points (char_indices_offset l.at-iterator) l.reader.bare (chars (char_indices_rest l.at-iterator))) ≡ word_of_points 0 false (chars l.text);
}
