-- The last element is the one at the last place.
use Rattle.std.proofs.Common.{◌∙◌, sym, ap}
use Rattle.lexicon_definitions.specs.Lexicons.{compare_pairs}
use Rattle.form_file.proofs.PairLemmas.{last_decides}
use Rattle.form_file.proofs.told.compare_last_pair.Goals as goal

pub returns-in-len1-up : goal.returns-in-len1-up
returns-in-len1-up c =
    c.cmp.ensures ∙ ap (λ last. compare_pairs last c.args.pair.now) c.last-item.is ∙ sym (last_decides compare_pairs c.args.pairs.now c.args.pair.now _ c.in-len1-up.len_at_least)
