-- The reason is printed by its name.
use Rattle.std.proofs.Common.{◌≡◌, string_bytes, ◌++◌, ◌∙◌, ap, codes}
use Rattle.std.specs.Fmt.{decimal}
use Rattle.commands.proofs.refusal.lexicon_refusal.Goals as goal

pub returns : goal.returns
returns c =
    let number = decimal c.args.fault.line in
    let told : string_bytes c.in_ok-format.field-0 ≡ codes " line " ++ (number ++ (codes ": " ++ c.name_of-why.result.now)) = c.in_ok-format.ensures.ok in
    record { ok = told ∙ ap (λ why. codes " line " ++ (number ++ (codes ": " ++ why))) c.name_of-why.ensures }
