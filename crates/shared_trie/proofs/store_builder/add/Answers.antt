-- The entry's delta has a number, and so the entry is pending.
use Rattle.std.proofs.Common.{ℕ, List, refl, subst}
use Rattle.form_tags.specs.Entries.{text_entry}
use Rattle.lexicon_definitions.specs.FormEntries.{with_entry}
use Rattle.lexicon_definitions.specs.Deltas.{IsDelta}
use Rattle.shared_trie.specs.DeltaNumbers.{delta_of}
use Rattle.shared_trie.specs.declared.open_trie.OpenTrie.{OpenTrie}
use Rattle.shared_trie.proofs.EndedForms.{pending_next}
use Rattle.shared_trie.proofs.store_builder.add.Goals as goal

pub returns : goal.returns
returns c =
    let entry = text_entry c.args.next.now in
    let told = c.args.told.now.value in
    let numbered = c.in_ok-number.ensures in
    let old = c.leave.new.open_trie in
    let new : OpenTrie = record { trie = old.trie; deltas = c.number.new.self; known = old.known; path = old.path; numbers = c.push.new.self } in
    let delta = subst (λ (form : List ℕ). IsDelta form entry.analysis (delta_of new.deltas c.in_ok-number.number)) c.as_slice-form.ensures.value numbered.ok in
    pending_next (with_entry told.0 entry) told.1 entry old new c.in_ok-number.number c.in_ok-leave.ensures refl refl refl numbered.grown c.in_ok-push.ensures.items numbered.within delta
