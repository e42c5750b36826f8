-- What is known of the letters that the rule before supplies at a place: where they lead from the root from which they were last gone along
-- (own).
use Rattle.std.specs.Prelude.{◌≡◌, ℕ, Some}
use Rattle.lexicon_definitions.specs.Tries.{walk}
use Rattle.annotated_trie.specs.Searched.{SearchedLexicon}
use Rattle.answer_paths.specs.Fronts.{supplied}
use Rattle.search_frames.specs.Configurations.{NumberedConfiguration}
use Rattle.summary_chart.specs.declared.walking.LeadWalk.{LeadWalk}

-- from the root from which the supplied letters were last gone along they lead to this node, or nowhere
abbrev pub IsLeadWalk : SearchedLexicon → NumberedConfiguration → LeadWalk → Type 0
IsLeadWalk searched here lead = (root : ℕ) → lead.root ≡ Some root → walk searched.tries.trie.rows root (supplied here.entrance) ≡ lead.node
