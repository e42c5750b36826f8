-- A line that is UTF-8 gives what its bytes give, or those of the composed line; any other is at fault before all else.
use Rattle.std.proofs.Common.{◌≡◌, Ok, OnOk, IfErr, ap, sym, ◌∙◌, subst}
use Rattle.text_definitions.specs.Spellings.{Reading, with_front}
use Rattle.latin_schemes.specs.Faults.{IsFaultOf}
use Rattle.more_scheme_definitions.specs.Iast.{composed}
use Rattle.conversion_definitions.specs.AnySchemes.{Iast}
use Rattle.conversion_definitions.specs.Conversions.{converted_line}
use Rattle.more_schemes.specs.Values.{any_scheme_of}
use Rattle.more_schemes.proofs.ConvertedLines.{converted_bytes, devanagari_line, iast_line, broken_line, not_iast}
use Rattle.more_schemes.proofs.conversion.convert_utf8.Goals as goal

pub returns-in-Iast-clause-ok : goal.returns-in-Iast-clause-ok
returns-in-Iast-clause-ok c =
    let to = any_scheme_of c.args.output in
    let line = c.args.line.now in
    let text = c.in-Ok.ensures.cases in
    let same = ap (λ b. converted_bytes Iast to (composed b)) text.0 ∙ iast_line to line text.1 ∙ ap (λ s. converted_line (any_scheme_of s) to line) (sym c.in-Iast.is) in
    subst (λ (reading : Reading). OnOk c.convert_composed.result (with_front c.args.converted.now.items reading ≡ Ok c.convert_composed.new.converted.items)) same c.convert_composed.ensures.ok

pub returns-in-Iast-clause-fault : goal.returns-in-Iast-clause-fault
returns-in-Iast-clause-fault c =
    let to = any_scheme_of c.args.output in
    let line = c.args.line.now in
    let text = c.in-Ok.ensures.cases in
    let same = ap (λ b. converted_bytes Iast to (composed b)) text.0 ∙ iast_line to line text.1 ∙ ap (λ s. converted_line (any_scheme_of s) to line) (sym c.in-Iast.is) in
    subst (λ (reading : Reading). IfErr c.convert_composed.result (λ error. IsFaultOf error reading)) same c.convert_composed.ensures.fault

pub returns-in_default : goal.returns-in_default
returns-in_default c =
    let to = any_scheme_of c.args.output in
    let line = c.args.line.now in
    let is = not_iast c.args.input c.requires.scheme c.in_default.not-Iast in
    let same = ap (λ s. converted_bytes s to line) is ∙ devanagari_line to line c.in-Ok.ensures.cases.1 ∙ ap (λ s. converted_line s to line) (sym is) in
    record {
      ok = subst (λ (reading : Reading). OnOk c.convert_parts.result (with_front c.args.converted.now.items reading ≡ Ok c.convert_parts.new.converted.items)) same c.convert_parts.ensures.ok;
      fault = subst (λ (reading : Reading). IfErr c.convert_parts.result (λ error. IsFaultOf error reading)) same c.convert_parts.ensures.fault;
    }

pub returns-in-Err-clause-fault : goal.returns-in-Err-clause-fault
returns-in-Err-clause-fault c =
    rw c.into.ensures (broken_line (any_scheme_of c.args.input) (any_scheme_of c.args.output) c.args.line.now c.valid_up_to.result c.requires.scheme c.in-Err.ensures.cases.0 (c.valid_up_to.ensures ∙ c.in-Err.ensures.valid_len))
