-- The lines are converted one after another, and the first fault ends it.
use Rattle.std.proofs.lemmas.List.Elements.{All-from_recursion}
use Rattle.lexicon_text_definitions.specs.FileLines.{lines_of_bytes}
use Rattle.conversion_definitions.specs.Conversions.{converted_text}
use Rattle.conversion_laws.proofs.LeastLines.{IsConverted, first_fault}
use Rattle.conversion_laws.proofs.laws.the_fault_is_of_the_least_line.Goals as goal

pub returns : goal.returns
unfolding converted_text
returns c = λ from to text fault h.
    let found = first_fault from to (lines_of_bytes text) 1 fault h in
    (found.before, found.line, found.after, found.are, found.numbered, found.is, All-from_recursion (IsConverted from to) found.before found.earlier)
