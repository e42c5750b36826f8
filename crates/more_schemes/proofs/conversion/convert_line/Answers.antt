-- In the schemes in ASCII the line is read as it is.
use Rattle.std.proofs.Common.{◌≡◌, Ok, OnOk, IfErr, subst}
use Rattle.text_definitions.specs.Spellings.{Reading, with_front}
use Rattle.latin_schemes.specs.Faults.{IsFaultOf}
use Rattle.more_schemes.specs.Values.{any_scheme_of}
use Rattle.more_schemes.proofs.ConvertedLines.{ascii_line}
use Rattle.more_schemes.proofs.conversion.convert_line.Goals as goal

pub returns-in-Slp1 : goal.returns-in-Slp1
returns-in-Slp1 c =
    let same = ascii_line c.args.input (any_scheme_of c.args.output) c.args.line.now c.in-Slp1.is in
    record {
      ok = subst (λ (reading : Reading). OnOk c.convert_parts.result (with_front c.args.converted.now.items reading ≡ Ok c.convert_parts.new.converted.items)) same c.convert_parts.ensures.ok;
      fault = subst (λ (reading : Reading). IfErr c.convert_parts.result (λ error. IsFaultOf error reading)) same c.convert_parts.ensures.fault;
    }
