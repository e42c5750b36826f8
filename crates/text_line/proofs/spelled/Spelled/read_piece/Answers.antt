-- A piece is read by its scheme, and a fault's place lies in it.
use Rattle.std.proofs.Common.{length, subst, arith}
use Rattle.text_definitions.specs.Schemes.{word_of_text}
use Rattle.text_definitions.proofs.FaultPlaces.{IsUpTo, fault_in_text}
use Rattle.latin_schemes.specs.Faults.{IsFaultOf}
use Rattle.text_line.specs.Values.{scheme_of}
use Rattle.text_line.proofs.spelled.Spelled.read_piece.Goals as goal

pub moved-requires : goal.moved-requires
moved-requires c =
    let scheme = scheme_of c.args.scheme in
    let is = subst (λ e. IsFaultOf e (word_of_text scheme c.args.piece.now)) c.in-Err-Fault.field-0-is c.in-Err-Fault.ensures.fault in
    let near = subst (IsUpTo (length c.args.piece.now)) is (fault_in_text scheme c.args.piece.now) in
    omega (arith, near)
