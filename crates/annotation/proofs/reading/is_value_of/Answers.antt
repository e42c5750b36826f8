-- The value of a note has no float and is not deep.
use Rattle.std.proofs.Common.{◌≤◌, ◌∙◌, ap, sym, subst}
use Rattle.serde_json.specs.Data.{Data, depth}
use Rattle.serde_json.specs.Read.{max_depth}
use Rattle.serde_json.specs.Written.{has_float}
use Rattle.annotation.proofs.WrittenNotes.{no_float_in_note}
use Rattle.annotation.proofs.NotesRead.{note_shallow}
use Rattle.annotation.proofs.reading.is_value_of.Goals as goal

pub is_same-requires-clause-right : goal.is_same-requires-clause-right
is_same-requires-clause-right c = subst (λ (d : Data). depth d ≤ max_depth) (sym c.in_ok-note.ensures.ok) (note_shallow c.args.lexicon.now.lexicon _)

pub is_same-requires-clause-plain : goal.is_same-requires-clause-plain
is_same-requires-clause-plain c = ap has_float c.in_ok-note.ensures.ok ∙ no_float_in_note c.args.lexicon.now.lexicon _
