-- The letters so far, followed by what the rest of the text spells, are what the text spells.
use Rattle.std.proofs.Common.{◌≡◌, ◌-◌, ◌≤◌, length, drop, nat_lt, false}
use Rattle.text_definitions.specs.Spellings.{with_front}
use Rattle.text_definitions.specs.Longest.{word_of_spellings}
use Rattle.more_schemes.specs.Schemes.{front_in}
use Rattle.more_schemes.proofs.read.read_spellings.Given as goal

abbrev pub invariant-loop-at : goal.invariant-loop-at
invariant-loop-at l = record {
  within : l.at ≤ length l.text;
  spelled : with_front l.word (word_of_spellings (front_in l.scheme) l.at 0 (nat_lt 0 l.at) (drop l.at l.text)) ≡ word_of_spellings (front_in l.scheme) 0 0 false l.text;
}

abbrev pub decreases-loop-at : goal.decreases-loop-at
decreases-loop-at l = length l.text - l.at
