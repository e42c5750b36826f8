-- A walk along two words is one along the first and then one along the second, so where a word leads, the node stands for what
-- follows it; and a walk along a word that is not empty goes through a child, so heights are those of children and one more.
use Rattle.std.proofs.Common.{◌≡◌, ℕ, ◌+◌, ◌-◌, ◌<◌, ◌≤◌, ◌⊎◌, ◌↔◌, inl, inr, Option, Some, None, List, [], ◌∷◌, ◌++◌, length, refl, sym, ◌∙◌, ap, subst, arith, append_assoc, true≢false}
use Rattle.std.specs.Prelude.{All, Contains, IsSome, is_some}
use Rattle.list_laws.proofs.Sorted.{All-from_Contains}
use Rattle.lexicon_definitions.specs.Lexicons.{Form}
use Rattle.lexicon_definitions.specs.Tries.{Row, AreRows, IsNodeAfter, HasDelta, BeginsForm, IsHeight, child_in, row_of, walk}
use Rattle.lexicon_definitions.proofs.TrieChildren.{Contains-child_among}
use Rattle.lexicon_definitions.proofs.TrieGrowth.{walk-child, walk-none}
use Rattle.lexicon_definitions.proofs.TrieSteps.{child_among-Contains}

-- a walk along two words
pub walk-two : (rows : List Row) (word rest : List ℕ) (node reached : ℕ) → walk rows node word ≡ Some reached
    → walk rows node (word ++ rest) ≡ walk rows reached rest
walk-two rows [] rest node reached walked = let here : node ≡ reached = cc in ap (λ (n : ℕ). walk rows n rest) here
walk-two rows (letter ∷ word) rest node reached walked =
    let go : (o : Option ℕ) → child_in rows node letter ≡ o → walk rows node (letter ∷ word ++ rest) ≡ walk rows reached rest =
    elim [
      | None ↦ λ e. let none = walk-none rows node letter word e in absurd cc
      | Some child ↦ λ e.
          walk-child rows node letter child (word ++ rest) e ∙ walk-two rows word rest child reached (sym (walk-child rows node letter child word e) ∙ walked)
    ]
    in go (child_in rows node letter) refl

-- the second of two words that are empty together
rest_empty : (word rest : List ℕ) → word ++ rest ≡ [] → rest ≡ []
rest_empty [] rest e = e
rest_empty (letter ∷ word) rest e = absurd cc

-- where a word leads, the node stands for what follows the word
pub IsNodeAfter-walk : (rows : List Row) (forms : List Form) (front word : List ℕ) (node reached : ℕ) → IsNodeAfter rows forms front node
    → walk rows node word ≡ Some reached → IsNodeAfter rows forms (front ++ word) reached
IsNodeAfter-walk rows forms front word node reached is walked =
    let along = λ (rest : List ℕ). walk-two rows word rest node reached walked in
    record {
      walks = λ rest. (
        λ (walks : IsSome (walk rows reached rest)). elim ((is.walks (word ++ rest)).0 (subst IsSome (sym (along rest)) walks)) [
          | inl e ↦ inl (rest_empty word rest e)
          | inr begins ↦ inr (subst (BeginsForm forms) (sym (append_assoc front word rest)) begins)
        ],
        elim [
          | inl e ↦ subst (λ (w : List ℕ). IsSome (walk rows reached w)) (sym e) refl
          | inr begins ↦ subst IsSome (along rest) ((is.walks (word ++ rest)).1 (inr (subst (BeginsForm forms) (append_assoc front word rest) begins)))
        ],
      );
      deltas = λ rest last e delta.
          subst (λ (w : List ℕ). Contains (row_of rows last).deltas delta ↔ HasDelta forms w delta) (sym (append_assoc front word rest))
          (is.deltas (word ++ rest) last (along rest ∙ e) delta);
    }

-- a node has one height
pub IsHeight-once : (rows : List Row) (node first second : ℕ) → IsHeight rows node first → IsHeight rows node second → first ≡ second
IsHeight-once rows node first second a b =
    let up = b.longest a.word a.walks in
    let down = a.longest b.word b.walks in
    let e = a.has_length in
    let f = b.has_length in
    omega (arith, up, down, e, f)

module _ (rows : List Row) (node height : ℕ) (is : IsHeight rows node height) where
  -- a word that can be walked from a child, with the child's letter before it
  longer : (letter child : ℕ) (word : List ℕ) → child_in rows node letter ≡ Some child → IsSome (walk rows child word)
      → length word + 1 ≤ height
  longer letter child word e walks =
      let long = is.longest (letter ∷ word) (subst IsSome (sym (walk-child rows node letter child word e)) walks) in
      omega (arith, long)

  -- each child is less high
  pub children_less_high : AreRows rows → node < length rows
      → All (λ (child : ℕ × ℕ). (k : ℕ) → IsHeight rows child.1 k → k + 1 ≤ height) (row_of rows node).children
  children_less_high are low =
      All-from_Contains (λ (child : ℕ × ℕ). (k : ℕ) → IsHeight rows child.1 k → k + 1 ≤ height) (row_of rows node).children
      (λ child among k h.
      let e = child_among-Contains child.0 child.1 (row_of rows node).children (are.each node low).letters among in
      let long = longer child.0 child.1 h.word e h.walks in
      let same = h.has_length in
      omega (arith, long, same))

  -- some child is one less high, or there are no children and the height is 0
  pub child_one_less_high : (height ≡ 0) ⊎ ((child : ℕ × ℕ) × Contains (row_of rows node).children child × IsHeight rows child.1 (height - 1))
  child_one_less_high = by is.word is.has_length is.walks
    where
      by : (word : List ℕ) → length word ≡ height → IsSome (walk rows node word)
          → (height ≡ 0) ⊎ ((child : ℕ × ℕ) × Contains (row_of rows node).children child × IsHeight rows child.1 (height - 1))
      by [] has_length walks = inl (sym has_length)
      by (letter ∷ word) has_length walks =
          let go : (o : Option ℕ) → child_in rows node letter ≡ o
          → (child : ℕ × ℕ) × Contains (row_of rows node).children child × IsHeight rows child.1 (height - 1) =
          elim [
            | None ↦ λ e. absurd (true≢false (sym walks ∙ ap is_some (walk-none rows node letter word e)))
            | Some child ↦ λ e. (
              (letter, child),
              Contains-child_among letter child (row_of rows node).children e,
              record {
                word = word;
                has_length = omega (arith, has_length);
                walks = subst IsSome (walk-child rows node letter child word e) walks;
                longest = λ other w. let l = longer letter child other e w in omega (arith, l);
              },
            )
          ]
          in inr (go (child_in rows node letter) refl)
