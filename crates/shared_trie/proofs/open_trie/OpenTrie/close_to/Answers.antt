-- One front more is closed.
use Rattle.std.proofs.Common.{◌≡◌, ◌+◌, ◌-◌, ◌<◌, ℕ, List, length, get_or, set, sym, ◌∙◌, ap, subst, arith}
use Rattle.std.proofs.lemmas.List.{get_or_default}
use Rattle.form_tags.specs.Entries.{text_entry}
use Rattle.text_definitions.specs.Letters.{IsLetter}
use Rattle.shared_trie.specs.Growth.{HasRow}
use Rattle.shared_trie.specs.OpenForms.{IsEnded, row_at}
use Rattle.shared_trie.specs.OpenPaths.{no_row}
use Rattle.shared_trie.specs.declared.open_trie.OpenTrie.{OpenTrie}
use Rattle.shared_trie.proofs.EndedForms.{closed_more}
use Rattle.shared_trie.proofs.open_trie.OpenTrie.close_to.Goals as goal

pub loop-depth-preserved : goal.loop-depth-preserved
loop-depth-preserved c =
    let told = c.args.told.now.value in
    let last = text_entry c.args.last.now in
    let word = c.args.last.now.form in
    let old = c.loop-depth.self in
    let d = c.loop-depth.depth - 1 in
    let more : c.loop-depth.depth ≡ d + 1 = omega (arith, c.loop-depth-test.true) in
    let low = c.loop-depth.invariant.to in
    let ended : IsEnded told.0 told.1 last (d + 1) old = subst (λ (n : ℕ). IsEnded told.0 told.1 last n old) more c.loop-depth.invariant.ended in
    let closed = c.in_ok-node.ensures in
    let there : HasRow c.close.new.self.trie.rows (row_at old.trie.lists old.path (d + 1)) c.in_ok-node.node =
    subst (λ (n : ℕ). HasRow c.close.new.self.trie.rows (row_at old.trie.lists old.path n) c.in_ok-node.node) more closed.ok in
    let clear : c.close.new.self.path ≡ set old.path (d + 1) no_row = closed.path ∙ ap (λ (n : ℕ). set old.path n no_row) more in
    let same_word : c.as_slice-form.result.now ≡ word = c.as_slice-form.ensures.value in
    let long = ap length same_word in
    let within : d < length c.as_slice-form.result.now = omega (arith, low, long, more) in
    let letter = c.index-form-depth.result in
    let read : letter ≡ get_or word d 0 = c.index-form-depth.is ∙ get_or_default c.as_slice-form.result.now d letter 0 within ∙ ap (λ (w : List ℕ). get_or w d 0) same_word in
    let is_letter = subst IsLetter (sym (c.index-form-depth.is ∙ ap (λ (w : List ℕ). get_or w d letter) same_word)) (c.as_slice-form.ensures.word d letter (omega (arith, low, more))) in
    record {
      from = omega (arith, c.loop-depth-test.true);
      to = omega (arith, low);
      ended =
          closed_more told.0 told.1 last d old _ letter c.in_ok-node.node c.requires.listed ended (ap (λ (t : OpenTrie). t.deltas) closed.same) (ap (λ (t : OpenTrie). t.known) closed.same)
          (ap (λ (t : OpenTrie). t.numbers.items) closed.same) closed.trie closed.lists closed.roots closed.grown there read is_letter c.close.new.self.path clear c.in_ok-push_child.ensures;
    }

pub returns : goal.returns
returns c =
    let here : c.loop-depth.depth ≡ c.args.shared = omega (arith, c.loop-depth-test.false, c.loop-depth.invariant.from) in
    subst (λ (n : ℕ). IsEnded c.args.told.now.value.0 c.args.told.now.value.1 (text_entry c.args.last.now) n c.loop-depth.self) here c.loop-depth.invariant.ended
