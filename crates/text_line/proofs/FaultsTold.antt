-- By the cases of an error, the fault that it carries is the text's.
use Rattle.std.proofs.Common.{◌≡◌, Result, Ok, Err, sym, ap, ◌∙◌}
use Rattle.text_definitions.specs.Lines.{Line}
use Rattle.text_definitions.specs.LineTexts.{LineFault}
use Rattle.text_line.specs.declared.line_error.LineError.{LineError}
use Rattle.text_line.specs.declared.line_error.LineError.TheVariants.{Spell, NoLetters, TooLong, Memory}
use Rattle.text_line.specs.declared.text_fault.TextFault.{TextFault}
use Rattle.text_line.specs.declared.text_fault.TextFault.TheVariants as fault_is
use Rattle.text_line.specs.Values.{text_fault, fault_of_error, IsLineFaultOf}

pub fault_told : (error : LineError) (fault : TextFault) (reading : Result Line LineFault) → Ok fault ≡ fault_of_error error
    → IsLineFaultOf error reading → reading ≡ Err (text_fault fault)
fault_told (Spell at) fault reading carries is = let f : fault ≡ fault_is.Spell at = cc (carries) in is ∙ sym (ap (λ (x : TextFault). Err (text_fault x)) f)
fault_told NoLetters fault reading carries is = let f : fault ≡ fault_is.NoLetters = cc (carries) in is ∙ sym (ap (λ (x : TextFault). Err (text_fault x)) f)
fault_told TooLong fault reading carries is = let f : fault ≡ fault_is.TooLong = cc (carries) in is ∙ sym (ap (λ (x : TextFault). Err (text_fault x)) f)
fault_told Memory fault reading carries is = absurd (cc (carries))
