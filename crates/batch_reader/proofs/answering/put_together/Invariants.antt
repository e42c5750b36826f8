-- As many places stay, and what is found at each, in both lists, is a reply wherever it was one.
use Rattle.std.proofs.Common.{◌≡◌, ℕ, List, length}
use Rattle.lexicon_definitions.specs.Lexicons.{Lexicon}
use Rattle.batch_reader.specs.Replies.{AreFound}
use Rattle.batch_reader.specs.declared.asked.Asked.{Asked}
use Rattle.batch_reader.proofs.answering.put_together.Given as goal

abbrev pub invariant-loop-place : goal.invariant-loop-place
invariant-loop-place l = record {
  count : length l.found.items ≡ length l.fn.found.items;
  others : length l.others.items ≡ length l.fn.found.items;
  found : (lexicon : Lexicon) (count : ℕ) (asked : List Asked) → AreFound lexicon count asked l.fn.found.items → AreFound lexicon count asked l.fn.others.items
      → AreFound lexicon count asked l.found.items × AreFound lexicon count asked l.others.items;
}
