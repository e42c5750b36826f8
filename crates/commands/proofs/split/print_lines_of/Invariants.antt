-- What is printed and what is left to print are together the texts.
use Rattle.std.proofs.Common.{◌≡◌, ◌++◌, string_bytes, map, drop}
use Rattle.commands.specs.Splits.{text_lines}
use Rattle.commands.proofs.split.print_lines_of.Given as goal

abbrev pub invariant-loop-text : goal.invariant-loop-text
invariant-loop-text l =
    string_bytes l.output ++ text_lines (map string_bytes (drop l.text-index l.texts)) ≡ text_lines (map string_bytes l.texts)
