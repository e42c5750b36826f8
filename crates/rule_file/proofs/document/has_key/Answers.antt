-- What the table's map finds at the key.
use Rattle.std.proofs.Common.{◌∙◌}
use Rattle.toml.specs.View.{view}
use Rattle.toml.proofs.Views.{table_get}
use Rattle.rule_file.proofs.DocumentLemmas.{some_alike}
use Rattle.rule_file.proofs.document.has_key.Goals as goal

pub returns : goal.returns
returns c =
    c.is_some.ensures ∙ some_alike (λ x. view x.now) c.get.result _ (table_get c.get.result c.args.key.now c.args.root.now.entries c.get.ensures.value)
