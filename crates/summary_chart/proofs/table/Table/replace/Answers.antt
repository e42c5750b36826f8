-- The set's bit is set, or taken away where it has no states, and so every set still has its bit (`FilledSets`).
use Rattle.std.proofs.Common.{◌/◌, ◌<◌, length, refl, arith}
use Rattle.std.proofs.lemmas.List.{length-set, get_or_read, get_or-set_same, get_or-set_other}
use Rattle.summary_chart.proofs.FilledSets.{bit_set, bit_cleared}
use Rattle.summary_chart.proofs.table.Table.replace.Goals as goal

pub returns-then-is_empty-clause-changes : goal.returns-then-is_empty-clause-changes
returns-then-is_empty-clause-changes c =
    let table = c.args.self.now in
    let index = c.args.index in
    let words = c.requires.bits.count in
    let below = c.requires.there in
    let there : index / 64 < length table.filled.items = omega (arith, words, below) in
    let read = get_or_read table.filled.items (index / 64) c.index_mut-then-is_empty.result.now there c.index_mut-then-is_empty.ensures.value 0 in
    record {
      entrances = refl;
      count = length-set table.sets.items index c.args.states;
      others = λ other apart. get_or-set_other table.sets.items index other c.args.states (record { bits = 0 }) apart;
      bits = bit_cleared table.sets.items table.filled.items index c.index_mut-then-is_empty.result.now c.args.states c.requires.bits below read c.if-is_empty.ensures;
    }

pub returns-then-is_empty-clause-set : goal.returns-then-is_empty-clause-set
returns-then-is_empty-clause-set c =
    get_or-set_same c.args.self.now.sets.items c.args.index c.args.states (record { bits = 0 }) c.requires.there

pub returns-else-is_empty-clause-changes : goal.returns-else-is_empty-clause-changes
returns-else-is_empty-clause-changes c =
    let table = c.args.self.now in
    let index = c.args.index in
    let words = c.requires.bits.count in
    let below = c.requires.there in
    let there : index / 64 < length table.filled.items = omega (arith, words, below) in
    let read = get_or_read table.filled.items (index / 64) c.index_mut-else-is_empty.result.now there c.index_mut-else-is_empty.ensures.value 0 in
    record {
      entrances = refl;
      count = length-set table.sets.items index c.args.states;
      others = λ other apart. get_or-set_other table.sets.items index other c.args.states (record { bits = 0 }) apart;
      bits = bit_set table.sets.items table.filled.items index c.index_mut-else-is_empty.result.now c.args.states c.requires.bits below read;
    }

pub returns-else-is_empty-clause-set : goal.returns-else-is_empty-clause-set
returns-else-is_empty-clause-set c =
    get_or-set_same c.args.self.now.sets.items c.args.index c.args.states (record { bits = 0 }) c.requires.there
