-- After the end the lists that were kept are built up again by their entries.
use Rattle.std.proofs.Common.{◌∙◌, ap, length}
use Rattle.lexicon_text_definitions.specs.FileContents.{entries_from}
use Rattle.form_file.proofs.StageLemmas.{at_end}
use Rattle.form_file.proofs.ListsTold.{lexicon_kept, trie_itself}
use Rattle.form_file.proofs.told.Told.finish.Goals as goal

pub into_parts-requires-clause-body : goal.into_parts-requires-clause-body
into_parts-requires-clause-body c = at_end c.args.self.last c.requires.ended

pub returns-clause-ok : goal.returns-clause-ok
returns-clause-ok c =
    lexicon_kept c.args.self c.into_inner.result c.in_ok-store.store c.in_ok-rules.rules c.in_ok-rules.ensures.rules (ap (entries_from 0) c.into_inner.ensures ∙ c.in_ok-rules.ensures.forms)
    (ap length c.into_inner.ensures ∙ c.in_ok-rules.ensures.lists) c.requires.limits.some_phase c.in_ok-store.ensures.ok c.finish.ensures.lists.each

pub returns-clause-trie : goal.returns-clause-trie
returns-clause-trie c = trie_itself c.in_ok-store.store c.into_inner.result c.in_ok-store.ensures.ok c.finish.ensures.lists.each
