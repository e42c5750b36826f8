-- The search goes on along the numbers that have the hash.
use Rattle.std.proofs.Common.{◌≡◌, ◌<◌, ℕ, length, get_or, sym, ◌∙◌, subst, true≢false}
use Rattle.lexicon_definitions.specs.Tries.{row_of}
use Rattle.shared_trie.specs.Interned.{row_of_list}
use Rattle.shared_trie.proofs.InternedLaws.{IsSearched, hash_there, hashes_count, searched_first, searched_next}
use Rattle.shared_trie.proofs.interned.Interned.find.Goals as goal

pub loop-found-init : goal.loop-found-init
loop-found-init c =
    let parts = c.self.inside in
    let shown = c.args.self.now in
    let count = hashes_count parts.children.items parts.lists.keys parts.nodes.items parts.chains parts.heights.items parts.roots.items shown c.self.invariant c.self.view_is in
    let hashed : (node : ℕ) → node < length shown.rows → row_of shown.rows node ≡ row_of_list shown.lists c.args.list c.args.children.now → get_or parts.chains node 0 ≡ c.args.hash =
    λ node low e. hash_there parts.children.items parts.lists.keys parts.nodes.items parts.chains parts.heights.items parts.roots.items shown c.self.invariant c.self.view_is node c.args.list c.args.children.now low c.requires.list e ∙ sym c.requires.hash in
    searched_first parts.chains shown.rows c.args.hash (row_of_list shown.lists c.args.list c.args.children.now) count hashed c.last_with-found.result c.last_with-found.ensures

pub loop-found-preserved : goal.loop-found-preserved
loop-found-preserved c =
    let parts = c.self.inside in
    let shown = c.args.self.now in
    let row = row_of_list shown.lists c.args.list c.args.children.now in
    let count = hashes_count parts.children.items parts.lists.keys parts.nodes.items parts.chains parts.heights.items parts.roots.items shown c.self.invariant c.self.view_is in
    let hashed : (node : ℕ) → node < length shown.rows → row_of shown.rows node ≡ row → get_or parts.chains node 0 ≡ c.args.hash =
    λ node low e. hash_there parts.children.items parts.lists.keys parts.nodes.items parts.chains parts.heights.items parts.roots.items shown c.self.invariant c.self.view_is node c.args.list c.args.children.now low c.requires.list e ∙ sym c.requires.hash in
    let so_far = subst (IsSearched parts.chains shown.rows c.args.hash row) c.in-Some.is c.loop-found.invariant in
    searched_next parts.chains shown.rows c.args.hash row count hashed c.in-Some.number c.last_with-found-in-Some.result so_far
    (λ e. true≢false (sym (c.has_row.ensures.1 e) ∙ c.if-has_row.false)) c.last_with-found-in-Some.ensures
