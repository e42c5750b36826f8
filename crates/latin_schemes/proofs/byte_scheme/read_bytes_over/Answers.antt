-- Bytes that are all letters spell their word, and the first that is none is at fault.
use Rattle.std.proofs.Common.{Err, ◌∙◌, ap, arith}
use Rattle.text_definitions.specs.Spellings.{NotLetter}
use Rattle.latin_schemes.specs.Codes.{letter_by_code}
use Rattle.latin_schemes.proofs.Tables.{spelled_text, fault_after}
use Rattle.latin_schemes.proofs.byte_scheme.read_bytes_over.Goals as goal

pub returns-then-count-text-clause-fault : goal.returns-then-count-text-clause-fault
returns-then-count-text-clause-fault c =
    let front = c.in_ok-word.ensures in
    let fault = fault_after (letter_by_code c.args.codes.now) 0 c.args.text.now c.in_ok-word.count c.in_ok-word.word front.spelled c.if-count-text.true (front.longest c.if-count-text.true) in
    rw c.into.ensures (fault ∙ ap (λ k. Err (NotLetter k)) (omega arith))

pub returns-clause-ok : goal.returns-clause-ok
returns-clause-ok c =
    let front = c.in_ok-word.ensures in
    spelled_text (letter_by_code c.args.codes.now) c.args.text.now c.in_ok-word.count c.in_ok-word.word front.spelled (omega (arith, c.if-count-text.false))
