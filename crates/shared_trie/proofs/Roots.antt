-- The root of a phase stays where rows are added; a phase without forms has a node with the empty row.
use Rattle.std.proofs.Common.{◌≡◌, ℕ, List, [], ◌∷◌, ◌++◌, length, sym, ap, subst, arith}
use Rattle.std.specs.Prelude.{All, Contains}
use Rattle.std.specs.Ordering.{nat_cmp, on}
use Rattle.std.specs.List.Sorted.{IsStrictlySortedBy}
use Rattle.std.proofs.lemmas.List.{length-append}
use Rattle.std.proofs.lemmas.List.Elements.{All-nil}
use Rattle.list_laws.proofs.Sorted.{not_Contains-nil}
use Rattle.lexicon_definitions.specs.Deltas.{Delta, compare_deltas}
use Rattle.lexicon_definitions.specs.Lexicons.{Form}
use Rattle.lexicon_definitions.specs.Tries.{Row, AreRows, IsChild, IsRow, IsNodeAfter, HasDelta, BeginsForm, row_of}
use Rattle.lexicon_definitions.proofs.TrieSteps.{IsRowAfter, IsNodeAfter-row}
use Rattle.lexicon_definitions.proofs.TrieGrowth.{IsNodeAfter-append}
use Rattle.shared_trie.specs.Growth.{Grows}
use Rattle.shared_trie.specs.Runs.{IsRootFor}

-- the empty row may stand anywhere
pub IsRow-empty : (rows : List Row) (node : ℕ) (row : Row) → row.deltas ≡ [] → row.children ≡ [] → IsRow rows node row
unfolding IsStrictlySortedBy
IsRow-empty rows node row no_deltas no_children =
    record {
      deltas = subst (IsStrictlySortedBy compare_deltas) (sym no_deltas) tt;
      children = subst (All (IsChild rows node)) (sym no_children) (All-nil (IsChild rows node));
      letters = subst (IsStrictlySortedBy (on (λ (c : ℕ × ℕ). c.0) nat_cmp)) (sym no_children) tt;
    }

-- a node with the empty row stands for no form
pub IsNodeAfter-none : (rows : List Row) (forms : List Form) (node : ℕ) (row : Row) → forms ≡ [] → row_of rows node ≡ row
    → row.deltas ≡ [] → row.children ≡ [] → IsNodeAfter rows forms [] node
unfolding IsStrictlySortedBy
IsNodeAfter-none rows forms node row none here no_deltas no_children =
    let Known : ℕ × ℕ → Type 0 = λ c. IsNodeAfter rows forms ([] ++ c.0 ∷ []) c.1 × BeginsForm forms ([] ++ c.0 ∷ []) in
    let after : IsRowAfter rows forms [] row =
    record {
      rising = subst (IsStrictlySortedBy (on (λ (c : ℕ × ℕ). c.0) nat_cmp)) (sym no_children) tt;
      deltas = λ delta. (
        λ (among : Contains row.deltas delta). absurd (not_Contains-nil delta (subst (λ (ds : List Delta). Contains ds delta) no_deltas among)),
        λ (has : HasDelta forms [] delta). absurd (not_Contains-nil has.form (subst (λ (fs : List Form). Contains fs has.form) none has.is_among)),
      );
      children = subst (All Known) (sym no_children) (All-nil Known);
      letters = λ letter word begins. absurd (not_Contains-nil begins.form (subst (λ (fs : List Form). Contains fs begins.form) none begins.is_among));
    } in
    IsNodeAfter-row rows forms [] node (subst (IsRowAfter rows forms []) (sym here) after)

-- a root stays
pub IsRootFor-grown : (most : ℕ) (rows new : List Row) (forms : List Form) (root : ℕ) → AreRows rows → Grows most rows new
    → IsRootFor rows forms root → IsRootFor new forms root
IsRootFor-grown most rows new forms root are grown is =
    let there = is.there in
    let long = length-append rows grown.more in
    let same = ap length grown.is in
    record {
      there = omega (arith, there, long, same);
      after = subst (λ (rs : List Row). IsNodeAfter rs forms [] root) (sym grown.is) (IsNodeAfter-append rows grown.more forms [] root are there is.after);
    }
