-- One word of bits more is passed, back to its last bit where one is left in it.
use Rattle.std.proofs.Common.{◌≡◌, ◌+◌, ◌-◌, ◌*◌, ◌/◌, ◌%◌, ◌^◌, ◌<◌, ℕ, length, sym, subst, arith}
use Rattle.std.specs.Int.{leading_zeros, w64}
use Rattle.std.proofs.lemmas.List.{get_or_read}
use Rattle.summary_chart.proofs.FilledSets.{AreEmptyFrom, word_passed_back, few_leading, last_bit, up_to}
use Rattle.summary_chart.proofs.table.Table.filled_until.Goals as goal

pub overflow_sub-result : goal.overflow_sub-result
overflow_sub-result c =
    let sets = c.args.self.now.sets.items in
    let filled = c.args.self.now.filled.items in
    let end = c.loop-end.end in
    let last = end - 1 in
    let words = c.requires.bits.count in
    let low = c.loop-end.invariant.rises in
    let some : 0 < end = c.loop-end-test.true in
    let there : last / 64 < length filled = omega (arith, words, low, c.requires.until) in
    let read = get_or_read filled (last / 64) c.index.result.now there c.index.ensures 0 in
    let same : end ≡ last + 1 = omega (arith, some) in
    let so_far = subst (λ (n : ℕ). AreEmptyFrom sets n c.args.until) same c.loop-end.invariant in
    let few = few_leading sets filled c.requires.bits last c.args.until c.index.result.now read so_far (λ e. omega (arith, e, c.if-bits-ne0.true)) in
    omega (arith, few)

pub returns-then-bits-ne0 : goal.returns-then-bits-ne0
returns-then-bits-ne0 c =
    let sets = c.args.self.now.sets.items in
    let filled = c.args.self.now.filled.items in
    let end = c.loop-end.end in
    let last = end - 1 in
    let words = c.requires.bits.count in
    let low = c.loop-end.invariant.rises in
    let some : 0 < end = c.loop-end-test.true in
    let there : last / 64 < length filled = omega (arith, words, low, c.requires.until) in
    let read = get_or_read filled (last / 64) c.index.result.now there c.index.ensures 0 in
    let same : end ≡ last + 1 = omega (arith, some) in
    let so_far = subst (λ (n : ℕ). AreEmptyFrom sets n c.args.until) same c.loop-end.invariant in
    let zeros = leading_zeros w64 (c.index.result.now * 2 ^ (63 - last % 64) % 2 ^ 64) in
    let back = last_bit sets filled c.requires.bits last c.args.until c.index.result.now read so_far (λ e. omega (arith, e, c.if-bits-ne0.true)) in
    let empty = subst (λ (n : ℕ). AreEmptyFrom sets (n - zeros) c.args.until) (sym same) back in
    up_to sets (end - zeros) c.args.until c.args.until empty empty.rises (omega arith) c.requires.until

pub loop-end-preserved : goal.loop-end-preserved
loop-end-preserved c =
    let sets = c.args.self.now.sets.items in
    let filled = c.args.self.now.filled.items in
    let end = c.loop-end.end in
    let last = end - 1 in
    let words = c.requires.bits.count in
    let low = c.loop-end.invariant.rises in
    let some : 0 < end = c.loop-end-test.true in
    let there : last / 64 < length filled = omega (arith, words, low, c.requires.until) in
    let read = get_or_read filled (last / 64) c.index.result.now there c.index.ensures 0 in
    let same : end ≡ last + 1 = omega (arith, some) in
    let so_far = subst (λ (n : ℕ). AreEmptyFrom sets n c.args.until) same c.loop-end.invariant in
    let passed = word_passed_back sets filled c.requires.bits last c.args.until c.index.result.now read so_far (omega (arith, c.if-bits-ne0.false)) in
    let left : last - last % 64 ≡ end - (last % 64 + 1) = omega arith in
    subst (λ (n : ℕ). AreEmptyFrom sets n c.args.until) left passed
