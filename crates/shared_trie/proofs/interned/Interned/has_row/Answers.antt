-- List and children are compared, which tell rows apart.
use Rattle.std.proofs.Common.{◌≡◌, ◌+◌, ◌&&◌, ℕ, List, take, length, nat_eq, refl, sym, ◌∙◌, drop, ◌-◌}
use Rattle.std.specs.Cmp.Lexicographic.{pointwise}
use Rattle.std.proofs.lemmas.Bool.{eqb-true}
use Rattle.std.proofs.lemmas.Slice.Eq.{slice_eq-Decides}
use Rattle.shared_trie.specs.LetterSets.{letters_in}
use Rattle.shared_trie.specs.Packed.{children_with}
use Rattle.shared_trie.proofs.InternedLaws.{row_compared}
use Rattle.shared_trie.proofs.RowEquality.{child_decides}
use Rattle.shared_trie.proofs.interned.Interned.has_row.Goals as goal

pub returns-then-packed-list : goal.returns-then-packed-list
returns-then-packed-list c =
    let children = c.self.inside.children.items in
    let node = c.index-packed.result.now in
    let own = c.args.children.now in
    let compared = row_compared children c.self.inside.lists.keys c.self.inside.nodes.items c.self.inside.chains c.self.inside.heights.items c.self.inside.roots.items c.args.self.now
    c.self.invariant c.self.view_is c.args.number c.args.list own node c.index-packed.ensures c.requires.node c.requires.list in
    let part : List (ℕ × ℕ) = take (node.first + c.len.result - node.first) (drop node.first c.deref.result.now) in
    let size : c.len.result ≡ length (letters_in node.letters) = c.len.ensures.value in
    let same : part ≡ children_with children node = λ i. take (node.first + size i - node.first) (drop node.first (c.deref.ensures.value i)) in
    let decides = slice_eq-Decides child_decides part own (pointwise (λ (l r : ℕ × ℕ). nat_eq l.0 r.0 && nat_eq l.1 r.1) part own) refl in (
      λ t. compared.1 (c.if-packed-list.true, sym same ∙ decides.0 (sym c.eq.ensures ∙ t)),
      λ e. c.eq.ensures ∙ decides.1 (same ∙ (compared.0 e).1),
    )

pub returns-else-packed-list : goal.returns-else-packed-list
returns-else-packed-list c =
    let compared = row_compared c.self.inside.children.items c.self.inside.lists.keys c.self.inside.nodes.items c.self.inside.chains c.self.inside.heights.items c.self.inside.roots.items c.args.self.now
    c.self.invariant c.self.view_is c.args.number c.args.list c.args.children.now c.index-packed.result.now c.index-packed.ensures c.requires.node c.requires.list in (
      λ t. absurd (c.if-packed-list.false (eqb-true c.index-packed.result.now.list c.args.list t)),
      λ e. absurd (c.if-packed-list.false (compared.0 e).0),
    )
