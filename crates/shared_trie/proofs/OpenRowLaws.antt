-- Rows of fronts as forms come: a row that is open stays so, one that is whole is opened towards a greater letter, and one more
-- child makes an open row whole. A whole row may stand last, and its node stands for what follows the front.
use Rattle.std.proofs.Common.{◌≡◌, ◌⊎◌, ◌↔◌, inl, inr, ℕ, ◌<◌, List, [], ◌∷◌, ◌++◌, length, sym, ◌∙◌, ap, subst, arith, append_assoc, append-nil}
use Rattle.std.specs.Prelude.{All, Contains}
use Rattle.std.specs.List.Sorted.{IsStrictlySortedBy}
use Rattle.std.proofs.lemmas.List.{append_cancel_left, length-append}
use Rattle.std.proofs.lemmas.List.Elements.{All-nil, All-push, All-weaker, Contains-append_left, Contains-push}
use Rattle.list_laws.proofs.Sorted.{not_Contains-nil}
use Rattle.lexicon_definitions.specs.Deltas.{Delta}
use Rattle.lexicon_definitions.specs.Lexicons.{Form}
use Rattle.lexicon_definitions.specs.Tries.{AreRows, BeginsForm, HasDelta, IsNodeAfter, Row, empty_row, row_of}
use Rattle.lexicon_definitions.proofs.TrieSteps.{IsNodeAfter-row, IsRowAfter}
use Rattle.shared_trie.specs.OpenForms.{IsKnownChild, IsKnownRow, IsOpenRow, IsWholeRow}
use Rattle.shared_trie.specs.Runs.{HasFront}
use Rattle.shared_trie.proofs.MoreForms.{HaveWord, child_stays}
use Rattle.shared_trie.proofs.Partial.{IsKnownChild-append, rising_push}

-- the front of a word goes on with one letter
one_letter : (front : List ℕ) (a b : ℕ) (left right : List ℕ) → front ++ a ∷ left ≡ front ++ b ∷ right → a ≡ b
one_letter front a b left right e = head (append_cancel_left front (a ∷ left) (b ∷ right) e)
  where
    head : a ∷ left ≡ b ∷ right → a ≡ b
    head e = cc

-- a word that begins with a front and a letter goes on with it
goes_on : (front rest word : List ℕ) (letter other : ℕ) → word ≡ front ++ letter ∷ rest → HasFront (front ++ other ∷ []) word → other ≡ letter
goes_on front rest word letter other e (more, f) =
    one_letter front other letter more rest (sym (append_assoc front (other ∷ []) more) ∙ sym f ∙ e)

-- a form that begins with a front and more begins with the front
pub begins_front : (forms : List Form) (front more : List ℕ) → BeginsForm forms (front ++ more) → BeginsForm forms front
begins_front forms front more b = record { form = b.form; is_among = b.is_among; rest = more ++ b.rest; has_letters = b.has_letters ∙ append_assoc front more b.rest }

module _ (old new : List Form) (front rest word : List ℕ) (letter : ℕ) (have : HaveWord old new word) (goes : word ≡ front ++ letter ∷ rest) (rows : List Row) where
  -- no delta of the front is new
  own_deltas : (delta : Delta) → HasDelta old front delta ↔ HasDelta new front delta
  own_deltas delta = (
    have.deltas_old front delta,
    λ has. elim (have.deltas_new front delta has) [
      | inl before ↦ before
      | inr same ↦
          let long = ap length (same ∙ goes) in
          let sum = length-append front (letter ∷ rest) in
          absurd (omega (arith, long, sum))
    ],
  )

  -- what is known of a row with smaller letters stays
  row_stays : (row : Row) → All (λ (child : ℕ × ℕ). child.0 < letter) row.children → IsKnownRow rows old front row → IsKnownRow rows new front row
  row_stays row below is = record {
    deltas_rise = is.deltas_rise;
    deltas = λ delta. (λ m. (own_deltas delta).0 ((is.deltas delta).0 m), λ h. (is.deltas delta).1 ((own_deltas delta).1 h));
    rising = is.rising;
    children = each row.children below is.children;
  }
    where
      each : (children : List (ℕ × ℕ)) → All (λ (child : ℕ × ℕ). child.0 < letter) children → All (IsKnownChild rows old front) children → All (IsKnownChild rows new front) children
      each children less known k d low =
          child_stays old new word have rows front _
          (λ h. let same = goes_on front rest word letter _ goes h in let small = less k d low in omega (arith, same, small)) (known k d low)

  -- a letter that follows the front now did before, or is the word's
  seen_now : (other : ℕ) → BeginsForm new (front ++ other ∷ []) → BeginsForm old (front ++ other ∷ []) ⊎ (other ≡ letter)
  seen_now other begins =
      elim (have.begins_new (front ++ other ∷ []) begins) [
        | inl before ↦ inl before
        | inr now ↦ inr (goes_on front rest word letter other goes now)
      ]

  -- an open row stays open towards the same letter
  pub open_stays : (row : Row) → IsOpenRow rows old front letter row → IsOpenRow rows new front letter row
  open_stays row is = record {
    known = row_stays row is.below is.known;
    below = is.below;
    seen = λ other begins. elim (seen_now other begins) [ inl before ↦ is.seen other before | inr same ↦ inl same ];
  }

  -- a whole row is opened towards a greater letter
  pub whole_opened : (row : Row) → All (λ (child : ℕ × ℕ). child.0 < letter) row.children → IsWholeRow rows old front row → IsOpenRow rows new front letter row
  whole_opened row below is = record {
    known = row_stays row below is.known;
    below = below;
    seen = λ other begins. elim (seen_now other begins) [ inl before ↦ inr (is.seen other before) | inr same ↦ inl same ];
  }

-- the empty row is whole where no form begins with the front
pub empty_whole : (rows : List Row) (forms : List Form) (front : List ℕ) → (BeginsForm forms front → ⊥) → IsWholeRow rows forms front empty_row
unfolding IsStrictlySortedBy
empty_whole rows forms front none = record {
  known = record {
    deltas_rise = tt;
    deltas = λ delta. (
      λ (m : Contains (let no : List Delta = [] in no) delta). absurd (not_Contains-nil delta m),
      λ (h : HasDelta forms front delta). absurd (none (record { form = h.form; is_among = h.is_among; rest = []; has_letters = h.has_letters ∙ sym (append-nil front) })),
    );
    rising = tt;
    children = All-nil (IsKnownChild rows forms front);
  };
  seen = λ other begins. absurd (none (begins_front forms front (other ∷ []) begins));
}

-- the child of the letter makes an open row whole
pub whole_with_child : (rows : List Row) (forms : List Form) (front : List ℕ) (letter node : ℕ) (row : Row) → IsOpenRow rows forms front letter row
    → IsKnownChild rows forms front (letter, node) → IsWholeRow rows forms front (record { deltas = row.deltas; children = row.children ++ (letter, node) ∷ [] })
whole_with_child rows forms front letter node row is child = record {
  known = record {
    deltas_rise = is.known.deltas_rise;
    deltas = is.known.deltas;
    rising = rising_push row.children letter node is.known.rising is.below;
    children = All-push (IsKnownChild rows forms front) row.children (letter, node) is.known.children child;
  };
  seen = λ other begins.
      elim (is.seen other begins) [
        | inl same ↦ (node, subst (λ (n : ℕ). Contains (row.children ++ (letter, node) ∷ []) (n, node)) (sym same) (Contains-push row.children (letter, node)))
        | inr (its, among) ↦ (its, Contains-append_left row.children ((letter, node) ∷ []) (other, its) among)
      ];
}

-- ---- rows are added

known_grown : (rows more : List Row) (forms : List Form) (front : List ℕ) (row : Row) → AreRows rows → IsKnownRow rows forms front row → IsKnownRow (rows ++ more) forms front row
known_grown rows more forms front row are is = record {
  deltas_rise = is.deltas_rise;
  deltas = is.deltas;
  rising = is.rising;
  children = All-weaker (IsKnownChild rows forms front) (IsKnownChild (rows ++ more) forms front) (λ c k. IsKnownChild-append rows more forms front c are k) row.children is.children;
}

pub open_grown : (rows more : List Row) (forms : List Form) (front : List ℕ) (letter : ℕ) (row : Row) → AreRows rows → IsOpenRow rows forms front letter row
    → IsOpenRow (rows ++ more) forms front letter row
open_grown rows more forms front letter row are is = record { known = known_grown rows more forms front row are is.known; below = is.below; seen = is.seen }

-- ---- a whole row becomes a node

-- a node with it stands for what follows the front
pub whole_node : (rows more : List Row) (forms : List Form) (front : List ℕ) (row : Row) (node : ℕ) → AreRows rows → IsWholeRow rows forms front row
    → row_of (rows ++ more) node ≡ row → IsNodeAfter (rows ++ more) forms front node
whole_node rows more forms front row node are is here =
    let known = known_grown rows more forms front row are is.known in
    let after : IsRowAfter (rows ++ more) forms front row =
    record {
      rising = known.rising;
      deltas = known.deltas;
      children = All-weaker (IsKnownChild (rows ++ more) forms front) (λ (c : ℕ × ℕ). IsNodeAfter (rows ++ more) forms (front ++ c.0 ∷ []) c.1 × BeginsForm forms (front ++ c.0 ∷ [])) (λ c k. (k.known.after, k.begins)) row.children known.children;
      letters = λ letter word begins. is.seen letter (begins_front forms (front ++ letter ∷ []) word (subst (BeginsForm forms) (sym (append_assoc front (letter ∷ []) word)) begins));
    } in
    IsNodeAfter-row (rows ++ more) forms front node (subst (IsRowAfter (rows ++ more) forms front) (sym here) after)
