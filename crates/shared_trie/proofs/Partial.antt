-- Children of a row that is built letter by letter: they stay known where rows are added, and one with a greater letter goes last.
use Rattle.std.proofs.Common.{◌≡◌, ℕ, ◌<◌, inl, inr, List, [], ◌∷◌, ◌++◌, sym, ◌∙◌, subst, arith}
use Rattle.std.specs.Prelude.{All}
use Rattle.std.specs.declared.cmp.Ordering.TheVariants.{Less}
use Rattle.std.specs.Ordering.{nat_cmp, on}
use Rattle.std.specs.List.Sorted.{IsStrictlySortedBy}
use Rattle.std.proofs.lemmas.Cmp.{nat_cmp_total, on_total}
use Rattle.std.proofs.lemmas.List.{length-append}
use Rattle.std.proofs.lemmas.List.Elements.{All-weaker}
use Rattle.lexicon_definitions.specs.Lexicons.{Form}
use Rattle.lexicon_definitions.specs.Tries.{Row, AreRows}
use Rattle.lexicon_definitions.proofs.TrieGrowth.{IsNodeAfter-append, row_of-append}
use Rattle.shared_trie.specs.OpenForms.{IsKnownChild}
use Rattle.list_laws.proofs.Sorted.{Contains-cons_cases, not_Contains-nil, sorted_append}
use Rattle.list_laws.proofs.Orderings.{nat_cmp-Less}

-- a child stays known
pub IsKnownChild-append : (rows more : List Row) (forms : List Form) (front : List ℕ) (child : ℕ × ℕ) → AreRows rows
    → IsKnownChild rows forms front child → IsKnownChild (rows ++ more) forms front child
IsKnownChild-append rows more forms front child are is =
    let long = length-append rows more in
    let there = is.known.there in
    record {
      letter = is.letter;
      known = record {
        there = omega (arith, long, there);
        not_empty = λ e. is.known.not_empty (sym (row_of-append rows more child.1 there) ∙ e);
        after = IsNodeAfter-append rows more forms (front ++ child.0 ∷ []) child.1 are there is.known.after;
      };
      begins = is.begins;
    }

-- children that rise, and one with a greater letter
pub rising_push : (children : List (ℕ × ℕ)) (letter child : ℕ) → IsStrictlySortedBy (on (λ (c : ℕ × ℕ). c.0) nat_cmp) children
    → All (λ (c : ℕ × ℕ). c.0 < letter) children → IsStrictlySortedBy (on (λ (c : ℕ × ℕ). c.0) nat_cmp) (children ++ (letter, child) ∷ [])
unfolding IsStrictlySortedBy
rising_push children letter child rising below =
    sorted_append (on_total (λ (c : ℕ × ℕ). c.0) nat_cmp_total) children ((letter, child) ∷ []) rising (one_rises (letter, child))
    (λ y m. elim (Contains-cons_cases (letter, child) [] y m) [
      | inl e ↦ subst (λ (c : ℕ × ℕ). All (λ (x : ℕ × ℕ). nat_cmp x.0 c.0 ≡ Less) children) e (All-weaker (λ (c : ℕ × ℕ). c.0 < letter) (λ (x : ℕ × ℕ). nat_cmp x.0 letter ≡ Less) (λ x l. nat_cmp-Less x.0 letter l) children below)
      | inr n ↦ absurd (not_Contains-nil y n)
    ])
  where
    one_rises : (c : ℕ × ℕ) → IsStrictlySortedBy (on (λ (c : ℕ × ℕ). c.0) nat_cmp) (c ∷ [])
    one_rises c = (tt, tt)
