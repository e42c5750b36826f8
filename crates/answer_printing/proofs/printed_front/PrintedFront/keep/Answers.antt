-- Where nothing is printed the first step may follow; else the text is cut where the next step begins.
use Rattle.std.proofs.Common.{◌<◌, length, ap, arith}
use Rattle.std.proofs.lemmas.List.{get_or_read}
use Rattle.answer_printing.specs.Fronts.{nothing}
use Rattle.answer_printing.proofs.PrintedFronts.{cut_there}
use Rattle.answer_printing.proofs.printed_front.PrintedFront.keep.Goals as goal

pub returns-clause-open : goal.returns-clause-open
returns-clause-open c rules letters starts =
    let there : c.count_same-same.result < length c.args.self.now.steps.items = omega (arith, ap length c.as_slice.ensures.value) in
    cut_there rules letters c.args.self.now.steps.items c.args.self.now.text.items c.count_same-same.result starts there
    c.index-next.result.now c.truncate.new.self.items c.truncate-2.new.self.items
    (get_or_read c.args.self.now.steps.items c.count_same-same.result c.index-next.result.now there c.index-next.ensures nothing)
    c.truncate.ensures.items c.truncate-2.ensures.items
