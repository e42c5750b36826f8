-- The entry is pending, and so it is the last.
use Rattle.std.proofs.Common.{◌+◌, false, Option, sym, subst}
use Rattle.std.specs.Option.{option_map}
use Rattle.form_tags.specs.declared.entry.Entry.{Entry}
use Rattle.form_tags.specs.Entries.{text_entry}
use Rattle.form_tags.proofs.DeltaLaws.{text_analysis-IsAnalysis}
use Rattle.shared_trie.specs.Stages.{IsBuilt}
use Rattle.shared_trie.proofs.BuilderStages.{built_next}
use Rattle.shared_trie.proofs.store_builder.StoreBuilder.push.Goals as goal

pub invariant_of-self-2 : goal.invariant_of-self-2
invariant_of-self-2 c =
    let entry = text_entry c.args.entry.now in
    let told = c.self.inside.told.value in
    let last = c.keep.ensures in
    subst (λ (last : Option Entry). IsBuilt c.tell.new.told.value c.self.inside.phases (c.self.inside.lines + 1) (option_map text_entry last) c.add.new.open_trie false) (sym last)
    (built_next c.args.self.now told c.tell.new.told.value c.self.inside.phases c.self.inside.lines _ c.self.inside.failed c.self.inside.open_trie.value c.add.new.open_trie entry c.self.invariant c.self.view_is c.tell.ensures c.requires.phase
    c.as_slice-form.ensures.word c.requires.not_empty c.requires.short (text_analysis-IsAnalysis c.args.entry.now.analysis c.as_slice-stem.ensures.word) c.requires.stem c.requires.lines c.requires.above c.in_ok-add.ensures)
