-- one node more, whose children are known since they have smaller numbers; and the marks of the roots
use Rattle.std.proofs.Common.{◌≡◌, ℕ, ◌+◌, ◌<◌, ◌↔◌, ◌⊎◌, Bool, List, [], ◌∷◌, ◌++◌, length, get_or, sym, ◌∙◌, ap, subst, arith}
use Rattle.std.specs.Prelude.{IsTrue}
use Rattle.lexicon_definitions.specs.Tries.{row_of}
use Rattle.trie_checks.specs.Bounds.{HasOne}
use Rattle.trie_checks.specs.NumberSets.{HasNumber}
use Rattle.trie_checks.specs.Marks.{IsMarked}
use Rattle.trie_checks.proofs.PutBackSteps.{AreMarked, marked_next, marked_roots}
use Rattle.trie_checks.proofs.put_back.any_put_back.Goals as goal

pub loop-number-preserved : goal.loop-number-preserved
loop-number-preserved c =
    let rows = c.args.store.now.rows in
    let node = c.loop-number.number in
    let marks = c.loop-number.put_back.items in
    let sets = c.args.letters.now in
    let found = c.put_back_below-found.result in
    let at : c.node.result ≡ node = c.node.ensures in
    let low : node < length rows = omega (arith, c.loop-number-test.true, c.len-number-end.ensures.value) in
    let children : c.children-children.result.now ≡ (row_of rows node).children = c.children-children.ensures.value ∙ ap (λ n. (row_of rows n).children) at in
    let pushed : c.push.new.self.items ≡ marks ++ found ∷ [] = c.in_ok-push.ensures.items in
    subst (AreMarked rows (node + 1)) (sym pushed) (marked_next rows c.len.ensures.trie.rows node low sets marks found c.requires.letters c.loop-number.invariant
    (subst (λ (ms : List Bool). IsTrue found ↔ HasOne (λ (child : ℕ × ℕ). HasNumber (get_or sets child.1 0) child.0 ⊎ IsMarked ms child.1) (row_of rows node).children) c.as_slice.ensures.value
    (subst (λ (cs : List (ℕ × ℕ)). IsTrue found ↔ HasOne (λ (child : ℕ × ℕ). HasNumber (get_or sets child.1 0) child.0 ⊎ IsMarked c.as_slice.result.now child.1) cs) children c.put_back_below-found.ensures)))

pub returns : goal.returns
returns c =
    let rows = c.args.store.now.rows in
    let all : c.loop-number.number ≡ length rows = omega (arith, c.loop-number-test.false, c.loop-number.auto.number-end, c.len-number-end.ensures.value) in
    record {
      ok = marked_roots rows c.loop-number.put_back.items c.args.store.now.roots c.any_marked.result (subst (λ n. AreMarked rows n c.loop-number.put_back.items) all c.loop-number.invariant) c.roots.ensures.nodes
          (subst (λ (ms : List Bool). IsTrue c.any_marked.result ↔ HasOne (IsMarked ms) c.args.store.now.roots) c.as_slice-2.ensures.value
          (subst (λ (rs : List ℕ). IsTrue c.any_marked.result ↔ HasOne (IsMarked c.as_slice-2.result.now) rs) c.roots.ensures.value c.any_marked.ensures));
    }
