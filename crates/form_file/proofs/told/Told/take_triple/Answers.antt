-- A triple that no test refuses is told last.
use Rattle.std.proofs.Common.{sym, ◌∙◌, ap, Global}
use Rattle.std.specs.String.{string_bytes}
use Rattle.lexicon_text_definitions.specs.FileContents.{Told}
use Rattle.form_file.proofs.NameLines.{count_held}
use Rattle.form_file.proofs.RuleLemmas.{filled, triple_told}
use Rattle.form_file.proofs.told.Told.take_triple.Goals as goal

pub returns : goal.returns
returns c =
    let count =
    count_held (string_bytes {Z = Global}) c.self.inside.names.items c.args.self.now.names c.self.inside.names.len c.len.result (ap (λ (told : Told). told.names) c.self.view_is)
    c.self.inside.names.ok.0 c.len.ensures in
    triple_told _ c.args.self.now c.args.u c.args.v c.args.w c.len.result c.deref_mut.result.now c.add.new.self c.unlimited-rule.result c.self.view_is c.deref_mut.ensures.value
    (filled c.is_empty.result c.args.u c.is_empty.ensures c.if-is_empty.false) (filled c.is_empty-else-is_empty.result c.args.w c.is_empty-else-is_empty.ensures c.if-is_empty-2.false)
    (sym c.passes_rule_limits.ensures ∙ c.if-passes_rule_limits.false) count c.unlimited-rule.ensures (c.in_ok-add.ensures.0) (c.in_ok-add.ensures.1)
