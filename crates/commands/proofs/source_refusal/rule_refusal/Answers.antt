-- The reason is printed by its name.
use Rattle.std.proofs.Common.{◌≡◌, string_bytes, ◌++◌, ◌∙◌, ap, codes}
use Rattle.std.specs.Fmt.{decimal}
use Rattle.rule_file.specs.Faults.{why_of}
use Rattle.run_definitions.specs.Refusals.{name_of_entry_why}
use Rattle.commands.proofs.RefusalLines.{rule_line}
use Rattle.commands.proofs.source_refusal.rule_refusal.Goals as goal

pub returns : goal.returns
returns c =
    let number = decimal c.args.number in
    let told : string_bytes c.in_ok-format.field-0 ≡ codes " rule " ++ (number ++ (codes ": " ++ c.name_of_entry_why-why.result.now)) =
    c.in_ok-format.ensures.ok in
    record {
      ok = told ∙ ap (λ why. codes " rule " ++ (number ++ (codes ": " ++ why))) c.name_of_entry_why-why.ensures
          ∙ rule_line number (name_of_entry_why (why_of c.args.why));
    }
