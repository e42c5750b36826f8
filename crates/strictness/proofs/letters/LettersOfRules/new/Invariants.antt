-- The rules of each letter below this one are there.
use Rattle.std.proofs.Common.{◌≡◌, ℕ, ◌<◌, length, get_or}
use Rattle.std.specs.Global.{Vec}
use Rattle.std.specs.Ordering.{nat_cmp}
use Rattle.list_laws.specs.Firsts.{AreAll}
use Rattle.strictness.specs.Matches.{HasFirst, HasLast}
use Rattle.strictness.proofs.letters.LettersOfRules.new.Given as goal

abbrev pub invariant-loop-letter : goal.invariant-loop-letter
invariant-loop-letter l = record {
  all_firsts : length l.firsts.items ≡ l.letter;
  all_lasts : length l.lasts.items ≡ l.letter;
  firsts : (letter : ℕ) (none : Vec ℕ) → letter < l.letter → AreAll nat_cmp (HasFirst l.fn.rules letter) (get_or l.firsts.items letter none).items;
  lasts : (letter : ℕ) (none : Vec ℕ) → letter < l.letter → AreAll nat_cmp (HasLast l.fn.rules letter) (get_or l.lasts.items letter none).items;
}
