-- the children of one node more are marked; and some node is unmarked exactly where one is unused
use Rattle.std.proofs.Common.{◌≡◌, ℕ, ◌+◌, ◌↔◌, ◌⊎◌, Bool, List, length, refl, sym, ◌∙◌, ap, subst, arith}
use Rattle.std.specs.Prelude.{Contains}
use Rattle.std.specs.List.{list_any}
use Rattle.lexicon_definitions.specs.Tries.{row_of}
use Rattle.trie_checks.specs.Marks.{IsMarked, LeadTo}
use Rattle.trie_checks.proofs.UsedNodes.{HasParent, marks_next, unused_told}
use Rattle.trie_checks.proofs.MarkSteps.{written_back}
use Rattle.trie_checks.proofs.unused.has_unused.Goals as goal

pub loop-number-preserved : goal.loop-number-preserved
loop-number-preserved c =
    let rows = c.args.store.now.rows in
    let roots = c.args.store.now.roots in
    let node = c.loop-number.number in
    let old = c.loop-number.used.items in
    let new = c.mark_children.new.used in
    let at : c.node.result ≡ node = c.node.ensures in
    let children : c.children-children.result.now ≡ (row_of rows node).children = c.children-children.ensures.value ∙ ap (λ n. (row_of rows n).children) at in
    let lent = c.as_mut_slice-in-loop-number.ensures.value in
    let long : length new ≡ length old = c.mark_children.auto.used ∙ ap length lent in
    let whole = written_back c.loop-number.used.len new old (sym c.loop-number.used.ok.0) long in
    let told : (n : ℕ) → IsMarked new n ↔ (IsMarked old n ⊎ LeadTo (row_of rows node).children n) = λ n.
    subst (λ (ms : List Bool). IsMarked new n ↔ (IsMarked ms n ⊎ LeadTo (row_of rows node).children n)) lent
    (subst (λ (cs : List (ℕ × ℕ)). IsMarked new n ↔ (IsMarked c.as_mut_slice-in-loop-number.result.now n ⊎ LeadTo cs n)) children (c.mark_children.ensures n))
    in
    subst (λ (ms : List Bool). (length ms ≡ length rows) × ((n : ℕ) → IsMarked ms n ↔ (Contains roots n ⊎ HasParent rows (node + 1) n))) (sym whole)
    (long ∙ c.loop-number.invariant.0, λ n. marks_next rows roots node old new n (told n) (c.loop-number.invariant.1 n))

pub returns : goal.returns
returns c =
    let rows = c.args.store.now.rows in
    let marks = c.loop-number.used.items in
    let all : c.loop-number.number ≡ length rows = omega (arith, c.loop-number-test.false, c.loop-number.auto.number-end, c.len-number-end.ensures.value) in
    let told = subst (λ n. (k : ℕ) → IsMarked marks k ↔ (Contains c.args.store.now.roots k ⊎ HasParent rows n k)) all c.loop-number.invariant.1 in
    record {
      ok = c.contains.ensures.value ∙ ap (list_any _) c.as_slice.ensures.value ∙ unused_told c.args.store.now c.len.ensures.trie marks c.loop-number.invariant.0 told _ refl refl;
    }
