-- The place of a fault lies in the run.
use Rattle.std.proofs.Common.{length, subst, arith}
use Rattle.text_definitions.proofs.FaultPlaces.{IsUpTo}
use Rattle.latin_schemes.specs.Faults.{IsFaultOf}
use Rattle.conversion_definitions.specs.AnySchemes.{word_of_run}
use Rattle.more_schemes.specs.Values.{any_scheme_of}
use Rattle.more_schemes.proofs.RunFaults.{fault_in_run}
use Rattle.more_schemes.proofs.conversion.convert_run.Goals as goal

pub moved-requires : goal.moved-requires
moved-requires c =
    let scheme = any_scheme_of c.args.input in
    let run = c.args.run.now in
    let is = subst (λ e. IsFaultOf e (word_of_run scheme run)) c.in-Err-Fault.field-0-is c.in-Err-Fault.ensures.fault in
    let near = subst (IsUpTo (length run)) is (fault_in_run scheme run) in
    rw c.in-Err-Fault.field-0-is (omega (arith, near))
