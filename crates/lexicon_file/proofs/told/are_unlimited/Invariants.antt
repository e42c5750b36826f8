-- The rules so far are unlimited.
use Rattle.std.proofs.Common.{◌≡◌, true, take}
use Rattle.std.specs.List.{list_all}
use Rattle.trie_text_definitions.specs.Versions.{is_unlimited as is_unlimited_of}
use Rattle.lexicon_file.proofs.told.are_unlimited.Given as goal

abbrev pub invariant-loop-rule : goal.invariant-loop-rule
invariant-loop-rule l = list_all (is_unlimited_of l.count) (take l.rule-index l.rules) ≡ true
