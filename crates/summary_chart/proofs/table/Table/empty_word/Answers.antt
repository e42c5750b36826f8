-- The set of the lowest bit that is left is emptied, and its bit taken away (`EmptiedSets`).
use Rattle.std.proofs.Common.{◌≢◌, arith}
use Rattle.std.proofs.lemmas.List.{get_or_read}
use Rattle.summary_chart.proofs.EmptiedSets.{first_within, first_emptied, fewer_bits, same_word}
use Rattle.summary_chart.proofs.table.Table.empty_word.Goals as goal

pub loop-bits-init : goal.loop-bits-init
loop-bits-init c = record {
  marked = same_word c.args.self.now.sets.items c.args.self.now.filled.items c.args.word c.index-bits.result.now
      (get_or_read c.args.self.now.filled.items c.args.word c.index-bits.result.now c.requires.there c.index-bits.ensures 0) c.requires.marked;
  filled = λ i. c.args.self.now.filled;
  entrances = λ i. c.args.self.now.entrances;
}

pub overflow_mul-word : goal.overflow_mul-word
overflow_mul-word c =
    let some : c.loop-bits.bits ≢ 0 = λ e. omega (arith, e, c.loop-bits-test.true) in
    let within = first_within c.loop-bits.self.sets.items c.args.self.now.filled.items c.args.word c.loop-bits.bits c.requires.there
    c.loop-bits.invariant.marked some (omega (arith, c.loop-bits.auto.bits-fits)) in
    omega (arith, within, c.loop-bits.self.sets.ok)

pub overflow_add-word : goal.overflow_add-word
overflow_add-word c =
    let some : c.loop-bits.bits ≢ 0 = λ e. omega (arith, e, c.loop-bits-test.true) in
    let within = first_within c.loop-bits.self.sets.items c.args.self.now.filled.items c.args.word c.loop-bits.bits c.requires.there
    c.loop-bits.invariant.marked some (omega (arith, c.loop-bits.auto.bits-fits)) in
    omega (arith, within, c.loop-bits.self.sets.ok)

pub index_mut-requires : goal.index_mut-requires
index_mut-requires c =
    let some : c.loop-bits.bits ≢ 0 = λ e. omega (arith, e, c.loop-bits-test.true) in
    let within = first_within c.loop-bits.self.sets.items c.args.self.now.filled.items c.args.word c.loop-bits.bits c.requires.there
    c.loop-bits.invariant.marked some (omega (arith, c.loop-bits.auto.bits-fits)) in
    omega (arith, within, c.loop-bits.self.sets.ok)

pub loop-bits-smaller : goal.loop-bits-smaller
loop-bits-smaller c =
    let some : c.loop-bits.bits ≢ 0 = λ e. omega (arith, e, c.loop-bits-test.true) in
    fewer_bits c.loop-bits.self.sets.items c.args.self.now.filled.items c.args.word c.loop-bits.bits c.requires.there
    c.loop-bits.invariant.marked some (omega (arith, c.loop-bits.auto.bits-fits))

pub loop-bits-preserved : goal.loop-bits-preserved
loop-bits-preserved c =
    let inv = c.loop-bits.invariant in
    let some : c.loop-bits.bits ≢ 0 = λ e. omega (arith, e, c.loop-bits-test.true) in
    record {
      marked = first_emptied c.loop-bits.self.sets.items c.args.self.now.filled.items c.args.word c.loop-bits.bits c.requires.there
          inv.marked some (omega (arith, c.loop-bits.auto.bits-fits)) c.empty.result c.empty.ensures.none;
      filled = inv.filled;
      entrances = inv.entrances;
    }
