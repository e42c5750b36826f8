-- The line is printed part by part.
use Rattle.std.proofs.Common.{◌≡◌, string_bytes, ◌++◌, ◌∙◌, ap, codes}
use Rattle.std.specs.Fmt.{decimal}
use Rattle.joiner.specs.Faults.{why_of}
use Rattle.run_definitions.specs.Refusals.{name_of_chain_why}
use Rattle.commands.proofs.RefusalLines.{chain_line}
use Rattle.commands.proofs.refusal.print_chain_refusal.Goals as goal

pub returns : goal.returns
returns c =
    let number = decimal c.args.fault.step in
    let told : string_bytes c.in_ok-format.field-0 ≡ codes "bad chain step " ++ (number ++ (codes ": " ++ (c.name_of_chain_why-why.result.now ++ codes "\n"))) =
    c.in_ok-format.ensures.ok in
    record {
      ok = told ∙ ap (λ why. codes "bad chain step " ++ (number ++ (codes ": " ++ (why ++ codes "\n")))) c.name_of_chain_why-why.ensures
          ∙ chain_line number (name_of_chain_why (why_of c.args.fault.why));
    }
