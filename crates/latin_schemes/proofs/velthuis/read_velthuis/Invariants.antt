-- The letters so far, followed by what the rest of the text spells, are what the text spells.
use Rattle.std.proofs.Common.{◌≡◌, ◌-◌, ◌≤◌, length, drop, nat_lt}
use Rattle.text_definitions.specs.Spellings.{with_front}
use Rattle.text_definitions.specs.Longest.{word_of_spellings}
use Rattle.text_definitions.specs.Velthuis.{velthuis_front, word_of_velthuis}
use Rattle.latin_schemes.proofs.velthuis.read_velthuis.Given as goal

abbrev pub invariant-loop-at : goal.invariant-loop-at
invariant-loop-at l = record {
  within : l.at ≤ length l.text;
  spelled : with_front l.word (word_of_spellings velthuis_front l.at 0 (nat_lt 0 l.at) (drop l.at l.text)) ≡ word_of_velthuis l.text;
}

abbrev pub decreases-loop-at : goal.decreases-loop-at
decreases-loop-at l = length l.text - l.at
