-- The text of the line has a byte for each letter, and a part of it is the text of a part of the line.
use Rattle.std.proofs.Common.{◌≡◌, ◌+◌, ◌-◌, take, drop, length, ap, ◌∙◌, arith}
use Rattle.text_definitions.specs.Slp1.{slp1_of_word}
use Rattle.answer_printing.specs.Texts.{PrintedWith}
use Rattle.answer_printing.proofs.TextLemmas.{spelled_part}
use Rattle.answer_printing.proofs.spelled_line.SpelledLine.spelled_letters.Goals as goal
use Rattle.text_definitions.proofs.SpelledWords.{length-spelling}

pub slice_bounds-result-end : goal.slice_bounds-result-end
slice_bounds-result-end c =
    let spelled = c.as_bytes.ensures.value ∙ c.self.invariant ∙ ap (λ (v : PrintedWith). slp1_of_word v.letters) c.self.view_is in
    omega (arith, c.requires, ap length spelled, length-spelling c.args.self.now.letters)

pub returns : goal.returns
returns c =
    let at = c.args.step.now.at in
    let taken = c.args.step.now.taken in
    let spelled = c.as_bytes.ensures.value ∙ c.self.invariant ∙ ap (λ (v : PrintedWith). slp1_of_word v.letters) c.self.view_is in
    let count : at + taken - at ≡ taken = omega arith in
    ap (λ n. take n (drop at c.as_bytes.result.now)) count ∙ ap (λ text. take taken (drop at text)) spelled
    ∙ spelled_part c.args.self.now.letters at taken
