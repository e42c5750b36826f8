-- No node is told yet.
use Rattle.std.proofs.Common.{ap}
use Rattle.lexicon_definitions.specs.Tries.{Trie}
use Rattle.lexicon_file.proofs.LastLines.{nothing_kept}
use Rattle.lexicon_file.proofs.told.TrieTold.new.Goals as goal

pub invariant_of-told : goal.invariant_of-told
invariant_of-told c = nothing_kept c.new.result.rows c.new-2.result.items (ap (λ (t : Trie). t.rows) c.new.ensures) c.new-2.ensures.items
