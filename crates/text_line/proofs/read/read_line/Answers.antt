-- A text gives what its parts give, but in Devanagari what is not UTF-8 is at fault before all else.
use Rattle.std.proofs.Common.{◌≡◌, Result, Ok, IfOk, IfErr, subst, ◌∙◌}
use Rattle.text_definitions.specs.Lines.{Line}
use Rattle.text_definitions.specs.LineTexts.{LineFault}
use Rattle.text_line.specs.Values.{IsLineFaultOf}
use Rattle.text_line.proofs.Encodings.{latin_by_parts, valid_by_parts, broken_is_fault}
use Rattle.text_line.proofs.read.read_line.Goals as goal

pub returns-in-Slp1 : goal.returns-in-Slp1
returns-in-Slp1 c =
    let same = latin_by_parts c.args.scheme c.args.text.now c.in-Slp1.is in
    record {
      ok = subst (λ (reading : Result Line LineFault). IfOk c.read_parts.result (λ line. reading ≡ Ok line)) same c.read_parts.ensures.ok;
      fault = subst (λ (reading : Result Line LineFault). IfErr c.read_parts.result (λ error. IsLineFaultOf error reading)) same c.read_parts.ensures.fault;
    }

pub returns-in-Ok-clause-ok : goal.returns-in-Ok-clause-ok
returns-in-Ok-clause-ok c =
    let same = valid_by_parts c.args.scheme c.args.text.now c.in-Devanagari.is c.in-Ok.ensures.cases.1 in
    subst (λ (reading : Result Line LineFault). IfOk c.read_parts-in-Ok.result (λ line. reading ≡ Ok line)) same c.read_parts-in-Ok.ensures.ok

pub returns-in-Ok-clause-fault : goal.returns-in-Ok-clause-fault
returns-in-Ok-clause-fault c =
    let same = valid_by_parts c.args.scheme c.args.text.now c.in-Devanagari.is c.in-Ok.ensures.cases.1 in
    subst (λ (reading : Result Line LineFault). IfErr c.read_parts-in-Ok.result (λ error. IsLineFaultOf error reading)) same c.read_parts-in-Ok.ensures.fault

pub returns-in-Err-clause-fault : goal.returns-in-Err-clause-fault
returns-in-Err-clause-fault c =
    broken_is_fault c.args.scheme c.args.text.now c.valid_up_to-at.result c.in-Devanagari.is c.in-Err.ensures.cases.0 (c.valid_up_to-at.ensures ∙ c.in-Err.ensures.valid_len)
