-- The search tests each value.
use Rattle.std.proofs.Common.{rules, tests, ◌∙◌}
use Rattle.std.specs.Prelude.{is_some}
use Rattle.std.proofs.lemmas.Iterator.{YieldsList-from_slice}
use Rattle.std.proofs.lemmas.Iterator.Search.{all_from_yields_List}
use Rattle.serde_json.specs.Find.{as_str}
use Rattle.serde_json.specs.View.{view}
use Rattle.annotation.proofs.ShapeTests.{texts_tested}
use Rattle.annotation.proofs.shapes.are_texts.Goals as goal

pub returns : goal.returns
returns c =
    all_from_yields_List (λ value. is_some (as_str (view value))) _ _ _ c.all.ensures.ran (YieldsList-from_slice c.args.values.now c.iter.ensures.rest) (λ x b q k. search (rules, tests))
    ∙ texts_tested c.args.values.now
