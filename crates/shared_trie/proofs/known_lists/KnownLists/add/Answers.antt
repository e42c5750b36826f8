-- The list goes last, and its numbers after those of all others.
use Rattle.std.proofs.Common.{◌≡◌, ◌++◌, ◌∷◌, [], List, ℕ, length, ◌∙◌, ap, arith}
use Rattle.shared_trie.specs.declared.known_lists.KnownList.{KnownList}
use Rattle.shared_trie.proofs.PackedParts.{lists_pushed}
use Rattle.shared_trie.proofs.known_lists.KnownLists.add.Goals as goal

pub returns-clause-ok : goal.returns-clause-ok
returns-clause-ok c =
    let parts = c.self.inside in
    let added = c.args.numbers.now in
    let list : KnownList = record { first = c.len-first.result; end = c.len.result; list = c.args.list } in
    let kept = ap length c.reserve-2.ensures.items in
    let longer : c.extend_from_slice.new.self.items ≡ parts.numbers.items ++ added =
    c.in-Ok.ensures.items ∙ ap (λ (ns : List ℕ). ns ++ added) c.reserve-2.ensures.items in
    let more : c.push-2.new.self.items ≡ parts.known.items ++ list ∷ [] =
    c.in-Ok-push.ensures.items ∙ ap (λ (ks : List KnownList). ks ++ list ∷ []) c.reserve.ensures.items in
    let first = c.len-first.ensures in
    let end = c.len.ensures in
    let size = c.in-Ok.ensures.len in
    lists_pushed parts.numbers.items c.extend_from_slice.new.self.items added parts.known.items c.push-2.new.self.items list c.self.invariant.1 longer more
    (omega (arith, first, kept)) (omega (arith, first, end, size))
    ∙ ap (λ (ks : List (List ℕ × ℕ)). ks ++ (added, c.args.list) ∷ []) c.self.view_is
