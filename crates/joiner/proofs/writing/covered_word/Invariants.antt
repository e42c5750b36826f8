-- The links that are left cover a word, and whatever they cover, put after the word so far, is covered by all.
use Rattle.std.proofs.Common.{◌≤◌, ℕ, List, [], ◌++◌, drop, length}
use Rattle.lexicon_definitions.specs.Lexicons.{rule_of}
use Rattle.segmentation_definitions.specs.Derivations.{Covers}
use Rattle.joiner.proofs.writing.covered_word.Given as goal

abbrev pub invariant-loop-link : goal.invariant-loop-link
invariant-loop-link l = record {
  before : l.before ≤ length l.rules.rules;
  covered : (left : List ℕ) × Covers l.rules (rule_of l.rules l.before).v (drop l.link-index l.links) left [];
  whole : (left : List ℕ) → Covers l.rules (rule_of l.rules l.before).v (drop l.link-index l.links) left []
      → Covers l.rules [] l.links (l.word ++ left) [];
}
