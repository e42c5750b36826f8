-- A text that is UTF-8 spells what its code points do, and any other is at fault after its longest valid front.
use Rattle.std.proofs.Common.{◌≡◌, false, Ok, IfOk, IfErr, ap, ◌∙◌, subst}
use Rattle.std.specs.Str.{chars}
use Rattle.text_definitions.specs.Devanagari.{word_of_points}
use Rattle.text_definitions.specs.Spellings.{Reading}
use Rattle.latin_schemes.specs.Faults.{IsFaultOf}
use Rattle.devanagari.proofs.PointSteps.{reads_text, reads_broken}
use Rattle.devanagari.proofs.read.read_devanagari.Goals as goal

pub returns-in-Ok-clause-ok : goal.returns-in-Ok-clause-ok
returns-in-Ok-clause-ok c =
    let text = c.in-Ok.ensures.cases in
    let same = ap (λ bytes. word_of_points 0 false (chars bytes)) text.0 ∙ reads_text c.args.text.now text.1 in
    subst (λ (reading : Reading). IfOk c.read_text.result (λ word. reading ≡ Ok word)) same c.read_text.ensures.ok

pub returns-in-Ok-clause-fault : goal.returns-in-Ok-clause-fault
returns-in-Ok-clause-fault c =
    let text = c.in-Ok.ensures.cases in
    let same = ap (λ bytes. word_of_points 0 false (chars bytes)) text.0 ∙ reads_text c.args.text.now text.1 in
    subst (λ (reading : Reading). IfErr c.read_text.result (λ error. IsFaultOf error reading)) same c.read_text.ensures.fault

pub returns-in-Err-clause-fault : goal.returns-in-Err-clause-fault
returns-in-Err-clause-fault c =
    rw c.into.ensures (reads_broken c.args.text.now c.valid_up_to.result c.in-Err.ensures.cases.0 (c.valid_up_to.ensures ∙ c.in-Err.ensures.valid_len))
