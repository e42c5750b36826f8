-- The set's bit is set, and so every set still has its bit.
use Rattle.std.proofs.Common.{◌≡◌, ◌/◌, ◌<◌, ℕ, length, refl, sym, ◌∙◌, subst, arith}
use Rattle.std.proofs.lemmas.List.{length-set, get_or_read, get_or-set_other}
use Rattle.summary_chart.specs.Tables.{index_in}
use Rattle.summary_chart.proofs.FilledSets.{bit_set}
use Rattle.summary_chart.proofs.table.Table.add.Goals as goal

pub returns-clause-changes : goal.returns-clause-changes
returns-clause-changes c =
    let table = c.args.self.now in
    let index = c.index-index.result in
    let is : index ≡ index_in table c.args.at c.args.entrance = c.index-index.ensures.index in
    let words = c.requires.bits.count in
    let below : index < length table.sets.items = subst (λ (n : ℕ). n < length table.sets.items) (sym is) (c.requires.there c.index-index.ensures.entrance) in
    let there : index / 64 < length table.filled.items = omega (arith, words, below) in
    let read = get_or_read table.filled.items (index / 64) c.index_mut-2.result.now there c.index_mut-2.ensures.value 0 in
    record {
      entrances = refl;
      count = length-set table.sets.items index c.union.result;
      others = λ other apart. get_or-set_other table.sets.items index other c.union.result (record { bits = 0 }) (λ e. apart (e ∙ is));
      bits = bit_set table.sets.items table.filled.items index c.index_mut-2.result.now c.union.result c.requires.bits below read;
    }
