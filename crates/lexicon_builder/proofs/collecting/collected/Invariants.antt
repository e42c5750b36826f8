-- The phases have just the entries that are not left.
use Rattle.std.proofs.Common.{map}
use Rattle.form_tags.specs.Entries.{text_entry}
use Rattle.lexicon_builder.proofs.CollectedLists.{AreCollected}
use Rattle.lexicon_builder.proofs.collecting.collected.Given as goal

abbrev pub invariant-loop-entry : goal.invariant-loop-entry
invariant-loop-entry l =
    AreCollected l.fn.phases (map text_entry l.fn.entries.items) l.builder (map text_entry l.entry-iterator.rest.items)
