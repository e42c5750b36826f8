-- Three orders, one after the other.
use Rattle.std.proofs.lemmas.Cmp.{nat_cmp_total, nat_list_cmp_total, then_total, on_total}
use Rattle.lexicon_definitions.specs.Deltas.{Delta}
use Rattle.form_tags.proofs.laws.deltas_are_ordered.Goals as goal

pub returns : goal.returns
returns c =
    then_total (on_total (λ (d : Delta). d.cut) nat_cmp_total) (then_total (on_total (λ (d : Delta). d.append) nat_list_cmp_total) (on_total (λ (d : Delta). d.tag) nat_list_cmp_total))
