-- The last node has the height of its number and the line that is kept.
use Rattle.std.proofs.Common.{ℕ, ◌-◌, List, refl, ap, ◌∙◌, sym, true≢false}
use Rattle.std.specs.Cmp.Lexicographic.{slice_cmp}
use Rattle.std.specs.Ordering.{nat_cmp}
use Rattle.lexicon_file.proofs.LastLines.{last_by_parts}
use Rattle.lexicon_file.proofs.told.TrieTold.compare_last.Goals as goal

pub returns : goal.returns
returns c =
    last_by_parts c.args.self.now _ c.self.inside.trie.rows c.self.inside.line.items c.args.line.now c.new-last.result c.args.height c.height.result c.cmp.result c.cmp-2.result c.then.result
    c.self.view_is refl c.self.invariant (λ none. true≢false (sym (c.is_empty.ensures.1 none) ∙ c.if-is_empty.false)) (c.new-last.ensures ∙ ap (λ n. n - 1) c.len.ensures.value) c.height.ensures c.cmp.ensures
    (c.cmp-2.ensures ∙ ap (λ (line : List ℕ). slice_cmp nat_cmp line c.args.line.now) c.as_slice.ensures.value) c.then.ensures
