-- A number is UTF-8; what is not parsed of it is above 64 bits, and so above the limit.
use Rattle.std.proofs.Common.{sym, ◌∙◌, arith}
use Rattle.bookmarks.proofs.NumbersRead.{number_utf8, not_parsed}
use Rattle.bookmarks.proofs.numbers.read_number.Goals as goal

pub returns-in_default : goal.returns-in_default
returns-in_default c =
    absurd (c.in_default.ensures.cases.0 (number_utf8 c.args.text.now (sym c.is_number.ensures ∙ c.if-not-is_number.false)))

pub returns-in_default-parse : goal.returns-in_default-parse
returns-in_default-parse c =
    not_parsed c.args.most c.args.text.now c.in-Ok.digits.now c.in_default-parse.field-0 c.in_default-parse.ensures.value.0 c.in-Ok.ensures.cases.0
    (sym c.is_number.ensures ∙ c.if-not-is_number.false) (omega arith)
