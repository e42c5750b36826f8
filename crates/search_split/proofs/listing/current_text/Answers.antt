-- The printed line is the digit 0, the text after the number, and the line's end.
use Rattle.std.proofs.lemmas.Result.{IfOk-weaker}
use Rattle.derivation.specs.Steps.{steps_of}
use Rattle.search_split.proofs.CurrentTexts.{is_printed, both_there, within_utf8, text_of_current}
use Rattle.search_split.proofs.listing.current_text.Goals as goal

pub text_within-requires-clause-both : goal.text_within-requires-clause-both
text_within-requires-clause-both g c =
    let rules = c.args.printer.now.rules in
    let steps = steps_of rules c.args.printer.now.letters c.in-Some.steps.now in
    both_there rules steps c.as_slice.result.now
    (is_printed rules steps c.clear.new.self.items c.push_answer.new.output.items c.as_slice.result.now c.clear.ensures.items c.in_ok-push_answer.ensures.ok
    c.as_slice.ensures.value)

pub text_within-requires-clause-utf8 : goal.text_within-requires-clause-utf8
text_within-requires-clause-utf8 g c =
    let rules = c.args.printer.now.rules in
    let steps = steps_of rules c.args.printer.now.letters c.in-Some.steps.now in
    within_utf8 rules steps c.as_slice.result.now
    (is_printed rules steps c.clear.new.self.items c.push_answer.new.output.items c.as_slice.result.now c.clear.ensures.items c.in_ok-push_answer.ensures.ok
    c.as_slice.ensures.value)
    c.requires.names

pub returns-clause-ok : goal.returns-clause-ok
returns-clause-ok g c =
    let rules = c.args.printer.now.rules in
    let letters = c.args.printer.now.letters in
    let steps = steps_of rules letters c.in-Some.steps.now in
    let printed = is_printed rules steps c.clear.new.self.items c.push_answer.new.output.items c.as_slice.result.now c.clear.ensures.items
    c.in_ok-push_answer.ensures.ok c.as_slice.ensures.value in
    IfOk-weaker c.text_within.result _ _
    (λ text is. text_of_current c.args.search.now rules letters c.in-Some.steps.now c.as_slice.result.now c.in-Some.ensures.answer c.requires.rules
    c.requires.line printed text is)
    c.text_within.ensures.ok
