-- The next entry is above the last one, if there is one. Otherwise it is the first.
use Rattle.std.proofs.Common.{Option, sym, ◌∙◌, subst}
use Rattle.std.specs.Option.{option_map}
use Rattle.form_tags.specs.declared.entry.Entry.{Entry}
use Rattle.form_tags.specs.Entries.{text_entry}
use Rattle.shared_trie.specs.Stages.{IsStage}
use Rattle.shared_trie.proofs.NextEntries.{last_compared}
use Rattle.shared_trie.proofs.ReadyEntries.{ready_first}
use Rattle.shared_trie.proofs.store_builder.leave.Goals as goal

pub leave-requires-clause-above : goal.leave-requires-clause-above
leave-requires-clause-above c =
    let pending = subst (λ (o : Option Entry). IsStage c.args.told.now.value.0 c.args.told.now.value.1 (option_map text_entry o) c.args.open_trie.now) c.in-Some.is c.requires.stage in
    sym (last_compared c.args.told.now.value.0 (text_entry c.in-Some.last) (text_entry c.args.next.now) pending.is_last) ∙ c.requires.above

pub returns-in_ok-fill_roots-in-None : goal.returns-in_ok-fill_roots-in-None
returns-in_ok-fill_roots-in-None c =
    ready_first c.args.told.now.value.0 c.args.told.now.value.1 (text_entry c.args.next.now) c.fill_roots.new.self c.in_ok-fill_roots-in-None.ensures c.requires.phase c.requires.not_empty
