-- Each node is led to, each delta is right, and there are as many analyses as deltas.
use Rattle.trie_text_definitions.proofs.EndTests.{none_unused, none_wrong, few_pairs}
use Rattle.trie_text_definitions.proofs.readings.the_trie_of_a_lexicon_ends_well.Goals as goal

pub returns-clause-limit : goal.returns-clause-limit
returns-clause-limit c = λ version lexicon trie t h. few_pairs trie lexicon.phases h.is_trie t.lexicon_itself.phases t.limits.short_forms t.stems t.limits.lines

pub returns-clause-unused : goal.returns-clause-unused
returns-clause-unused c = λ version lexicon trie t h. none_unused trie lexicon.phases h

pub returns-clause-delta : goal.returns-clause-delta
returns-clause-delta c = λ version lexicon trie t h. none_wrong trie lexicon.phases h.is_trie t.lexicon_itself.phases t.limits.short_forms t.stems
