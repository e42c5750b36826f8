-- A number is UTF-8 and is parsed as its value; what is none is refused.
use Rattle.std.proofs.Common.{Some, sym, ◌∙◌, ap}
use Rattle.std.specs.declared.num.ParseIntError.{ParseIntError}
use Rattle.lexicon_file.proofs.NumberLemmas.{number_is, not_number, number_utf8, parsed_number, always_parsed}
use Rattle.lexicon_file.proofs.numbers.read_number.Goals as goal

pub returns-then-not-is_number : goal.returns-then-not-is_number
returns-then-not-is_number c = sym (not_number c.args.text.now c.requires (sym c.is_number.ensures ∙ c.if-not-is_number.true))

pub returns-in_default : goal.returns-in_default
returns-in_default c =
    absurd (c.in_default.ensures.cases.0 (number_utf8 c.args.text.now (sym c.is_number.ensures ∙ c.if-not-is_number.false)))

pub returns-in_default-parse : goal.returns-in_default-parse
returns-in_default-parse c =
    absurd (always_parsed c.args.text.now c.in-Ok.digits.now c.in_default-parse.field-0 c.in_default-parse.ensures.value.0 c.in-Ok.ensures.cases.0
    (sym c.is_number.ensures ∙ c.if-not-is_number.false) c.requires)

pub returns : goal.returns
returns c =
    let is = sym c.is_number.ensures ∙ c.if-not-is_number.false in
    ap (λ n. Some n) (parsed_number ParseIntError c.args.text.now c.in-Ok.digits.now c.in-Ok-parse.number c.in-Ok-parse.ensures.value.0 c.in-Ok.ensures.cases.0 is)
    ∙ sym (number_is c.args.text.now c.requires is)
