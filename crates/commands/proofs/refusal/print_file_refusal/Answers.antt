-- The line is its two parts.
use Rattle.std.proofs.Common.{◌≡◌, string_bytes, ◌++◌, ◌∙◌, ap, codes}
use Rattle.commands.specs.Faults.{file_fault}
use Rattle.commands.proofs.RefusalLines.{refused_line}
use Rattle.commands.proofs.refusal.print_file_refusal.Goals as goal

pub returns : goal.returns
returns c =
    let name = c.args.name.now in
    let told : string_bytes c.in_ok-format.field-0 ≡ codes "bad file " ++ (name ++ (string_bytes c.in_ok-rest.rest ++ codes "\n")) = c.in_ok-format.ensures.ok in
    record {
      ok = told ∙ ap (λ rest. codes "bad file " ++ (name ++ (rest ++ codes "\n"))) c.in_ok-rest.ensures.ok
          ∙ refused_line name (file_fault c.args.fault);
    }
