-- The letters so far lead to the node that is reached, and each number of them to the node at its place.
use Rattle.std.proofs.Common.{◌≡◌, ◌+◌, ◌<◌, ◌≤◌, length, take, Some}
use Rattle.lexicon_definitions.specs.Tries.{walk}
use Rattle.search_frames.proofs.WalkLemmas.{AreWalked}
use Rattle.search_frames.proofs.walking.walk_letters.Given as goal

abbrev pub invariant-loop-letter : goal.invariant-loop-letter
invariant-loop-letter g l = record {
  count : l.walked ≡ l.letter-index + 1;
  there : l.reached < length l.store.rows;
  reached : walk l.store.rows l.fn.node (take l.letter-index l.letters) ≡ Some l.reached;
  long : length l.nodes.items ≡ length l.fn.nodes.items;
  walked : AreWalked l.store.rows l.fn.node l.letters l.nodes.items l.walked;
  spent : l.steps ≤ l.fn.steps + l.letter-index;
}
