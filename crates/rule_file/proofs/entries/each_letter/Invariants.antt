use Rattle.std.proofs.Common.{◌≡◌, Some, take, map}
use Rattle.rule_file.proofs.entries.each_letter.Given as goal

abbrev pub invariant-loop-letter : goal.invariant-loop-letter
invariant-loop-letter l = l.fillings.items ≡ map Some (take l.letter-index l.letters)
