-- The list of the last form's deltas is put in its row.
use Rattle.std.proofs.Common.{◌≡◌, ℕ, List, length, set, ◌∙◌, ap, subst, arith}
use Rattle.form_tags.specs.Entries.{text_entry}
use Rattle.lexicon_definitions.specs.Deltas.{Delta}
use Rattle.shared_trie.specs.OpenForms.{IsKnownList}
use Rattle.shared_trie.specs.OpenPaths.{path_row}
use Rattle.shared_trie.specs.declared.open_trie.OpenTrie.{OpenTrie}
use Rattle.shared_trie.proofs.EndedForms.{ended, numbers_apart, short_last}
use Rattle.shared_trie.proofs.open_trie.OpenTrie.end_form.Goals as goal

pub number_list-requires-clause-apart : goal.number_list-requires-clause-apart
number_list-requires-clause-apart c =
    let pending = c.requires.pending in
    numbers_apart c.args.told.now.value.0 (text_entry c.args.last.now) pending.is_last c.requires.listed c.args.self.now.deltas c.args.self.now.numbers.items pending.numbers

pub set_list-requires : goal.set_list-requires
set_list-requires c =
    let pending = c.requires.pending in
    let short = short_last c.args.told.now.value.0 (text_entry c.args.last.now) pending.is_last c.requires.listed in
    let same = ap (λ (t : OpenTrie). length t.path) c.in_ok-list.ensures.same in
    let size = pending.kept.path.size in
    let long = c.len.ensures.value in
    omega (arith, short, same, size, long)

pub returns : goal.returns
returns c =
    let pending = c.requires.pending in
    let old = c.args.self.now in
    let listed = c.in_ok-list.ensures in
    let deltas : c.number_list.new.self.deltas ≡ old.deltas = ap (λ (t : OpenTrie). t.deltas) listed.same in
    let numbers : c.number_list.new.self.numbers.items ≡ old.numbers.items = ap (λ (t : OpenTrie). t.numbers.items) listed.same in
    let path : c.number_list.new.self.path ≡ old.path = ap (λ (t : OpenTrie). t.path) listed.same in
    let lists = c.number_list.new.self.trie.lists in
    let is : IsKnownList old.deltas lists (old.numbers.items, c.in_ok-list.list) =
    subst (λ (ds : List Delta). IsKnownList ds lists (old.numbers.items, c.in_ok-list.list)) deltas
    (subst (λ (ns : List ℕ). IsKnownList c.number_list.new.self.deltas lists (ns, c.in_ok-list.list)) numbers listed.ok) in
    ended c.args.told.now.value.0 (text_entry c.args.last.now) pending.is_last c.requires.listed c.args.told.now.value.1 old _ c.in_ok-list.list pending pending.numbers
    listed.rows listed.roots listed.lists listed.few_known listed.known deltas is
    (c.set_list.ensures ∙ (λ i. set (path i) (c.len.ensures.value i) (record { list = c.in_ok-list.list; children = (path_row (path i) (c.len.ensures.value i)).children })))
    c.clear.ensures.items
