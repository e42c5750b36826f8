-- The suffixes of a node are its own and those of its children with a letter before them: so what holds of each suffix, holds of each of a
-- child after one letter more.
use Rattle.std.proofs.Common.{◌≡◌, ℕ, ◌+◌, ◌<◌, Option, Some, None, List, [], ◌∷◌, length, refl, sym, ◌∙◌, subst, arith}
use Rattle.std.specs.Prelude.{All, Contains}
use Rattle.std.proofs.lemmas.List.Elements.{All-contains}
use Rattle.list_laws.proofs.Sorted.{All-from_Contains}
use Rattle.lexicon_definitions.specs.Deltas.{Delta}
use Rattle.lexicon_definitions.specs.Tries.{Row, AreRows, IsChild, HasSuffix, child_in, row_of}
use Rattle.lexicon_definitions.proofs.TrieChildren.{Contains-child_among}
use Rattle.lexicon_definitions.proofs.TrieGrowth.{walk-child, walk-none}
use Rattle.lexicon_definitions.proofs.TrieSteps.{child_among-Contains}

module _ (rows : List Row) where
  -- the empty word is a suffix with just the node's own deltas
  pub suffix_own : (node : ℕ) (delta : Delta) → HasSuffix rows node [] delta → Contains (row_of rows node).deltas delta
  suffix_own node delta has =
      let walked = has.walked in
      let here : has.reached ≡ node = cc in
      subst (λ (n : ℕ). Contains (row_of rows n).deltas delta) here has.has_delta

  pub suffix_here : (node : ℕ) (delta : Delta) → Contains (row_of rows node).deltas delta → HasSuffix rows node [] delta
  suffix_here node delta m = record { reached = node; walked = refl; has_delta = m }

  -- any other word begins with the letter of a child, and its rest is a suffix of the child
  pub suffix_rest : (node letter : ℕ) (word : List ℕ) (delta : Delta) → HasSuffix rows node (letter ∷ word) delta
      → (child : ℕ) × Contains (row_of rows node).children (letter, child) × HasSuffix rows child word delta
  suffix_rest node letter word delta has =
      let go : (o : Option ℕ) → child_in rows node letter ≡ o
      → (child : ℕ) × Contains (row_of rows node).children (letter, child) × HasSuffix rows child word delta =
      elim [
        | None ↦ λ e. let none = walk-none rows node letter word e in let walked = has.walked in absurd cc
        | Some child ↦ λ e. (
          child,
          Contains-child_among letter child (row_of rows node).children e,
          record { reached = has.reached; walked = sym (walk-child rows node letter child word e) ∙ has.walked; has_delta = has.has_delta },
        )
      ]
      in go (child_in rows node letter) refl

  module _ (are : AreRows rows) where
    -- a child has a smaller number
    pub child_before : (node : ℕ) → node < length rows → (child : ℕ × ℕ) → Contains (row_of rows node).children child → child.1 < node
    child_before node low child m = (All-contains (IsChild rows node) (row_of rows node).children child (are.each node low).children m).before

    pub suffix_later : (node : ℕ) → node < length rows → (child : ℕ × ℕ) → Contains (row_of rows node).children child
        → (word : List ℕ) (delta : Delta) → HasSuffix rows child.1 word delta → HasSuffix rows node (child.0 ∷ word) delta
    suffix_later node low child m word delta has =
        let e = child_among-Contains child.0 child.1 (row_of rows node).children (are.each node low).letters m in
        record { reached = has.reached; walked = walk-child rows node child.0 child.1 word e ∙ has.walked; has_delta = has.has_delta }

    module _ (P : ℕ → Delta → Type 0) where
      -- the property holds of each suffix with its length and so many letters before it
      abbrev AllAfter : ℕ → ℕ → Type 0
      AllAfter node before = (word : List ℕ) (delta : Delta) → HasSuffix rows node word delta → P (length word + before) delta

      pub all_after_parts : (node before : ℕ) → node < length rows → AllAfter node before
          → All (P before) (row_of rows node).deltas × All (λ (child : ℕ × ℕ). AllAfter child.1 (before + 1)) (row_of rows node).children
      all_after_parts node before low h = (
        All-from_Contains (P before) (row_of rows node).deltas (λ delta m.
            let none : 0 + before ≡ before = omega arith in
            subst (λ n. P n delta) none (h [] delta (suffix_here node delta m))),
        All-from_Contains (λ (child : ℕ × ℕ). AllAfter child.1 (before + 1)) (row_of rows node).children (λ child m word delta has.
            let more : length (child.0 ∷ word) + before ≡ length word + (before + 1) = omega arith in
            subst (λ n. P n delta) more (h (child.0 ∷ word) delta (suffix_later node low child m word delta has))),
      )

      pub all_after_from : (node before : ℕ) → All (P before) (row_of rows node).deltas
          → All (λ (child : ℕ × ℕ). AllAfter child.1 (before + 1)) (row_of rows node).children → AllAfter node before
      all_after_from node before own below [] delta has =
          let none : before ≡ 0 + before = omega arith in
          subst (λ n. P n delta) none (All-contains (P before) (row_of rows node).deltas delta own (suffix_own node delta has))
      all_after_from node before own below (letter ∷ word) delta has =
          let (child, m, rest) = suffix_rest node letter word delta has in
          let more : length word + (before + 1) ≡ length (letter ∷ word) + before = omega arith in
          subst (λ n. P n delta) more (All-contains (λ (c : ℕ × ℕ). AllAfter c.1 (before + 1)) (row_of rows node).children (letter, child) below m word delta rest)
