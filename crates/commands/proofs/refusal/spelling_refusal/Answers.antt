-- The place that is printed is the one that the definitions name.
use Rattle.std.proofs.Common.{◌≡◌, string_bytes, ◌++◌, ◌∙◌, ap, codes}
use Rattle.std.specs.Fmt.{decimal}
use Rattle.commands.proofs.RefusalLines.{same_place}
use Rattle.commands.proofs.refusal.spelling_refusal.Goals as goal

pub returns : goal.returns
returns c =
    let number = decimal c.args.fault.line in
    let told : string_bytes c.in_ok-format.field-0 ≡ codes " line " ++ (number ++ (codes ": spelling " ++ decimal c.place-at.result)) =
    c.in_ok-format.ensures.ok in
    record {
      ok = told ∙ ap (λ place. codes " line " ++ (number ++ (codes ": spelling " ++ decimal place))) (c.place-at.ensures ∙ same_place c.args.fault.fault);
    }
