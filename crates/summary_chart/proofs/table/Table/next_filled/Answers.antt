-- One word of bits more is passed, up to its next bit where one is left in it.
use Rattle.std.proofs.Common.{◌/◌, ◌<◌, length, arith}
use Rattle.std.proofs.lemmas.List.{get_or_read}
use Rattle.summary_chart.proofs.FilledSets.{word_passed, next_bit, up_to}
use Rattle.summary_chart.proofs.table.Table.next_filled.Goals as goal

pub returns-then-bits-ne0 : goal.returns-then-bits-ne0
returns-then-bits-ne0 c =
    let sets = c.args.self.now.sets.items in
    let filled = c.args.self.now.filled.items in
    let index = c.loop-index.index in
    let words = c.requires.bits.count in
    let there : index / 64 < length filled = omega (arith, words, c.loop-index-test.true, c.len-count.ensures) in
    let read = get_or_read filled (index / 64) c.index.result.now there c.index.ensures 0 in
    let empty = next_bit sets filled c.requires.bits c.args.from index c.index.result.now read c.loop-index.invariant (omega arith)
    (λ e. omega (arith, e, c.if-bits-ne0.true)) in
    let rises = c.loop-index.invariant.rises in
    up_to sets c.args.from _ c.min.result empty (omega (arith, rises, c.loop-index-test.true)) (omega arith) (omega (arith, c.len-count.ensures))

pub loop-index-preserved : goal.loop-index-preserved
loop-index-preserved c =
    let sets = c.args.self.now.sets.items in
    let filled = c.args.self.now.filled.items in
    let index = c.loop-index.index in
    let words = c.requires.bits.count in
    let there : index / 64 < length filled = omega (arith, words, c.loop-index-test.true, c.len-count.ensures) in
    let read = get_or_read filled (index / 64) c.index.result.now there c.index.ensures 0 in
    word_passed sets filled c.requires.bits c.args.from index c.index.result.now read c.loop-index.invariant (omega (arith, c.if-bits-ne0.false))
