-- Digits are UTF-8, and what a few of them write fits into 64 bits, so neither is refused.
use Rattle.std.proofs.Common.{sym, ◌∙◌, arith}
use Rattle.text_line.proofs.NumbersRead.{digits_utf8, parsed_small, never_refused}
use Rattle.text_line.proofs.numbers.digits_up_to.Goals as goal

pub returns-in_default : goal.returns-in_default
returns-in_default c =
    absurd (c.in_default.ensures.cases.0 (digits_utf8 c.args.most c.args.text.now (sym c.are_digits_up_to.ensures ∙ c.if-not-are_digits_up_to.false)))

pub returns-in_default-parse : goal.returns-in_default-parse
returns-in_default-parse c =
    absurd (never_refused c.args.most c.args.text.now c.in-Ok.digits.now c.in_default-parse.field-0 c.in_default-parse.ensures.value.0 c.in-Ok.ensures.cases.0
    (sym c.are_digits_up_to.ensures ∙ c.if-not-are_digits_up_to.false) (omega arith))

pub returns-clause-small : goal.returns-clause-small
returns-clause-small c =
    parsed_small c.args.most c.args.text.now c.in-Ok.digits.now c.in-Ok-parse.number c.in-Ok-parse.ensures.value.0 c.in-Ok.ensures.cases.0
    (sym c.are_digits_up_to.ensures ∙ c.if-not-are_digits_up_to.false)
