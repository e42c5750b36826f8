-- A form has as many analyses as deltas that are right for it.
use Rattle.trie_text_definitions.proofs.EndTests.{as_many_pairs}
use Rattle.trie_text_definitions.proofs.readings.a_trie_has_as_many_pairs_as_its_phases_have_lines.Goals as goal

pub returns : goal.returns
returns c = λ version lexicon trie t h. as_many_pairs trie lexicon.phases h t.lexicon_itself.phases t.limits.short_forms t.stems
