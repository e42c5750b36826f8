-- The reason is printed by its name.
use Rattle.std.proofs.Common.{◌≡◌, string_bytes, ◌++◌, ◌∙◌, ap, codes}
use Rattle.commands.proofs.refusal.note_refusal.Goals as goal

pub returns : goal.returns
returns c =
    let told : string_bytes c.in_ok-format.field-0 ≡ codes ": " ++ c.name_of_note_why-why.result.now = c.in_ok-format.ensures.ok in
    record { ok = told ∙ ap (λ why. codes ": " ++ why) c.name_of_note_why-why.ensures }
