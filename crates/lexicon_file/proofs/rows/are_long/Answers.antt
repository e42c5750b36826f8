-- The search tests each delta.
use Rattle.std.proofs.Common.{rules, tests, ◌∙◌, length, nat_lt}
use Rattle.std.proofs.lemmas.Iterator.{YieldsList-from_slice}
use Rattle.std.proofs.lemmas.Iterator.Search.{any_from_yields_List}
use Rattle.form_tags.specs.declared.delta.Delta.{Delta}
use Rattle.lexicon_definitions.specs.declared.limits.TheConstants.{MOST_FORM_LETTERS}
use Rattle.lexicon_file.proofs.RisingLemmas.{long_among}
use Rattle.lexicon_file.proofs.rows.are_long.Goals as goal

pub returns : goal.returns
returns c =
    any_from_yields_List (λ (delta : Delta). nat_lt MOST_FORM_LETTERS (length delta.append)) _ _ _ c.any.ensures.ran (YieldsList-from_slice c.args.deltas.now c.iter.ensures.rest) (λ x b q k. search (rules, tests))
    ∙ long_among c.args.deltas.now
