-- A text that is not the told case's is no case's.
use Rattle.std.proofs.Common.{◌≡◌, false, sym, ◌∙◌, ap}
use Rattle.std.proofs.lemmas.Bool.{false≢true}
use Rattle.std.specs.Str.{bytes_eq}
use Rattle.form_tags.specs.TagTexts.{case_text}
use Rattle.form_tags.proofs.CaseTexts.{no_case}
use Rattle.form_tags.proofs.case.Case.read.Goals as goal

pub returns-else-eq-clause-some : goal.returns-else-eq-clause-some
returns-else-eq-clause-some c =
    let told_text = c.as_bytes.ensures.value ∙ c.text.ensures in
    let other : bytes_eq (case_text c.begun_by-gcase.result) c.args.text.now ≡ false =
    ap (λ told. bytes_eq told c.args.text.now) (sym told_text) ∙ sym c.eq.ensures ∙ c.if-eq.false in
    let none = no_case c.begun_by-gcase.result c.args.text.now c.begun_by-gcase.ensures other in
    (λ s. absurd (false≢true s), λ t. absurd (none t))
