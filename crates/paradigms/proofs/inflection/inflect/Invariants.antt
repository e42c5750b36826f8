-- The entries so far are those of the rows so far.
use Rattle.std.proofs.Common.{take}
use Rattle.std.specs.List.{AllZip}
use Rattle.form_tags.specs.Entries.{text_entry}
use Rattle.morphology_definitions.specs.Inflection.{IsInflected}
use Rattle.paradigms.specs.Rows.{text_row}
use Rattle.paradigms.proofs.inflection.inflect.Given as goal

abbrev pub invariant-loop-row : goal.invariant-loop-row
invariant-loop-row l = AllZip (λ row entry. IsInflected (text_row row) l.fn.stem.letters (text_entry entry)) (take l.row-index l.rows) l.entries.items
