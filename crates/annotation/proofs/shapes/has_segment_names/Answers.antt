-- The search tests each name.
use Rattle.std.proofs.Common.{rules, tests, ◌∙◌, string_bytes, map}
use Rattle.std.specs.List.{list_any}
use Rattle.std.specs.Str.{bytes_eq}
use Rattle.std.proofs.lemmas.Iterator.Consumers.{YieldsList-from_rest}
use Rattle.std.proofs.lemmas.Iterator.Search.{all_from_yields_List}
use Rattle.note_definitions.specs.NoteShapes.{segment_names}
use Rattle.annotation.proofs.ShapeTests.{names_tested}
use Rattle.annotation.proofs.shapes.has_segment_names.Goals as goal

pub returns : goal.returns
returns c =
    let entries = c.args.members.now.entries in
    all_from_yields_List (λ name. list_any (bytes_eq (string_bytes name)) segment_names) _ _ _ c.all.ensures.ran
    (YieldsList-from_rest (map (λ entry. entry.0) entries) c.keys.ensures.rest) (λ x b q k. search (rules, tests))
    ∙ names_tested segment_names entries
