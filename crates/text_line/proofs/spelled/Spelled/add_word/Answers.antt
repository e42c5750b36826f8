-- After too many letters it does not matter which they are.
use Rattle.std.proofs.Common.{◌<◌, length, length-append, ap, arith}
use Rattle.text_definitions.specs.declared.limits.TheConstants.{MOST_LINE_LETTERS}
use Rattle.text_definitions.specs.Lines.{Line}
use Rattle.text_definitions.specs.LineTexts.{with_word}
use Rattle.text_line.proofs.Steps.{same_after_too_many}
use Rattle.text_line.proofs.spelled.Spelled.add_word.Goals as goal

pub returns-then-as_slice-gt-MOST_LINE_LETTERS : goal.returns-then-as_slice-gt-MOST_LINE_LETTERS
returns-then-as_slice-gt-MOST_LINE_LETTERS c =
    let line = c.args.self.now in
    let word = c.args.word.now in
    let slice = ap length c.as_slice.ensures.value in
    let view = ap (λ (l : Line). length l.letters) c.self.view_is in
    let many : MOST_LINE_LETTERS < length line.letters = omega (arith, slice, view, c.if-as_slice-gt-MOST_LINE_LETTERS.true) in
    record { ok = λ scheme parts. same_after_too_many scheme parts line (with_word line word) many (omega (arith, length-append line.letters word)) }
