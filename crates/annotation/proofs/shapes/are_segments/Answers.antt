-- The search tests each value.
use Rattle.std.proofs.Common.{rules, tests, ◌∙◌}
use Rattle.std.proofs.lemmas.Iterator.{YieldsList-from_slice}
use Rattle.std.proofs.lemmas.Iterator.Search.{all_from_yields_List}
use Rattle.serde_json.specs.View.{view}
use Rattle.note_definitions.specs.NoteShapes.{is_segment as is_segment_value}
use Rattle.annotation.proofs.ShapeTests.{segments_tested}
use Rattle.annotation.proofs.shapes.are_segments.Goals as goal

pub returns : goal.returns
returns c =
    all_from_yields_List (λ value. is_segment_value (view value)) _ _ _ c.all.ensures.ran (YieldsList-from_slice c.args.values.now c.iter.ensures.rest) (λ x b q k. search (rules, tests))
    ∙ segments_tested c.args.values.now
