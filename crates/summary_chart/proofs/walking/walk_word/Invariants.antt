-- Where the word leads from the node is where its rest leads from the node that is reached; each letter took a step.
use Rattle.std.proofs.Common.{◌≡◌, ◌+◌, ◌<◌, length, take, drop, Some}
use Rattle.lexicon_definitions.specs.Tries.{walk}
use Rattle.summary_chart.proofs.walking.walk_word.Given as goal

abbrev pub invariant-loop-letter : goal.invariant-loop-letter
invariant-loop-letter g l = record {
  there : l.reached < length l.store.rows;
  same : walk l.fn.store.rows l.fn.node l.fn.word ≡ walk l.store.rows l.reached (drop l.letter-index l.word);
  reached : walk l.store.rows l.fn.node (take l.letter-index l.word) ≡ Some l.reached;
  spent : l.steps ≡ l.fn.steps + l.letter-index;
}
