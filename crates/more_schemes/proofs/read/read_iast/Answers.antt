-- A text that is UTF-8 spells what its composed text does, and any other is at fault after its longest valid front.
use Rattle.std.proofs.Common.{◌≡◌, Ok, IfOk, IfErr, ap, ◌∙◌, subst}
use Rattle.text_definitions.specs.Spellings.{Reading}
use Rattle.more_scheme_definitions.specs.Iast.{composed, word_of_composed}
use Rattle.latin_schemes.specs.Faults.{IsFaultOf}
use Rattle.more_schemes.proofs.ComposedTexts.{reads_text, reads_broken}
use Rattle.more_schemes.proofs.read.read_iast.Goals as goal

pub returns-in-Ok-clause-ok : goal.returns-in-Ok-clause-ok
returns-in-Ok-clause-ok c =
    let text = c.in-Ok.ensures.cases in
    let same = ap (λ bytes. word_of_composed (composed bytes)) text.0 ∙ reads_text c.args.text.now text.1 in
    subst (λ (reading : Reading). IfOk c.read_text.result (λ word. reading ≡ Ok word)) same c.read_text.ensures.ok

pub returns-in-Ok-clause-fault : goal.returns-in-Ok-clause-fault
returns-in-Ok-clause-fault c =
    let text = c.in-Ok.ensures.cases in
    let same = ap (λ bytes. word_of_composed (composed bytes)) text.0 ∙ reads_text c.args.text.now text.1 in
    subst (λ (reading : Reading). IfErr c.read_text.result (λ error. IsFaultOf error reading)) same c.read_text.ensures.fault

pub returns-in-Err-clause-fault : goal.returns-in-Err-clause-fault
returns-in-Err-clause-fault c =
    rw c.into.ensures (reads_broken c.args.text.now c.valid_up_to.result c.in-Err.ensures.cases.0 (c.valid_up_to.ensures ∙ c.in-Err.ensures.valid_len))
