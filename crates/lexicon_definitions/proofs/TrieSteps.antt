-- A node stands for what follows a front where its deltas are those of the front, and its children stand for what follows the
-- front and their letters: a word is empty, or its first letter tells the child.
use Rattle.std.proofs.Common.{◌≡◌, ℕ, ◌==◌, ◌⊎◌, ◌↔◌, inl, inr, Bool, true, false, cond, Option, Some, None, List, [], ◌∷◌, ◌++◌, refl, sym, ◌∙◌, ap, subst, append_assoc, append-nil, true≢false}
use Rattle.std.specs.Prelude.{find, All, Contains, IsSome, is_some}
use Rattle.std.specs.Option.{option_map}
use Rattle.std.specs.declared.cmp.Ordering.TheVariants.{Less}
use Rattle.std.specs.Ordering.{nat_cmp, on}
use Rattle.std.specs.List.Sorted.{IsStrictlySortedBy}
use Rattle.std.proofs.lemmas.Bool.{eqb-true, eq-eqb}
use Rattle.std.proofs.lemmas.List.Elements.{All-contains, All-from_recursion}
use Rattle.std.proofs.lemmas.Map.Keys.{sorted_head, sorted_tail}
use Rattle.std.proofs.lemmas.Cmp.{nat_cmp_total}
use Rattle.list_laws.proofs.Sorted.{Contains-cons_cases, not_Contains-nil, not_Less-itself}
use Rattle.lexicon_definitions.specs.Deltas.{Delta}
use Rattle.lexicon_definitions.specs.Lexicons.{Form}
use Rattle.lexicon_definitions.specs.Tries.{Row, IsNodeAfter, HasDelta, BeginsForm, child_among, child_in, row_of, walk}
use Rattle.lexicon_definitions.proofs.TrieChildren.{Contains-child_among}
use Rattle.lexicon_definitions.proofs.TrieGrowth.{walk-child, walk-none}

-- the first child is found by its letter
child_among-here : (first : ℕ × ℕ) (children : List (ℕ × ℕ)) (letter : ℕ) → first.0 == letter ≡ true
    → child_among (first ∷ children) letter ≡ Some first.1
child_among-here first children letter e =
    ap (λ (b : Bool). option_map (λ (c : ℕ × ℕ). c.1) (cond b (Some first) (find (λ (c : ℕ × ℕ). c.0 == letter) children))) e

-- another letter is looked for among the rest
child_among-there : (first : ℕ × ℕ) (children : List (ℕ × ℕ)) (letter : ℕ) → first.0 == letter ≡ false
    → child_among (first ∷ children) letter ≡ child_among children letter
child_among-there first children letter e =
    ap (λ (b : Bool). option_map (λ (c : ℕ × ℕ). c.1) (cond b (Some first) (find (λ (c : ℕ × ℕ). c.0 == letter) children))) e

-- a letter finds its child among children that rise
pub child_among-Contains : (letter child : ℕ) (children : List (ℕ × ℕ))
    → IsStrictlySortedBy (on (λ (c : ℕ × ℕ). c.0) nat_cmp) children → Contains children (letter, child)
    → child_among children letter ≡ Some child
child_among-Contains letter child [] rising among = absurd (not_Contains-nil (letter, child) among)
child_among-Contains letter child (first ∷ children) rising among =
    elim (Contains-cons_cases first children (letter, child) among) [
      | inl e ↦
          let same : first.0 ≡ letter = ap (λ (c : ℕ × ℕ). c.0) e in
          let leads : first.1 ≡ child = ap (λ (c : ℕ × ℕ). c.1) e in
          child_among-here first children letter (eq-eqb first.0 letter same) ∙ ap Some leads
      | inr later ↦
          let above = All-contains (λ (c : ℕ × ℕ). nat_cmp first.0 c.0 ≡ Less) children (letter, child) (All-from_recursion (λ (c : ℕ × ℕ). nat_cmp first.0 c.0 ≡ Less) children (sorted_head (on (λ (c : ℕ × ℕ). c.0) nat_cmp) first children rising)) later in
          let go : (b : Bool) → first.0 == letter ≡ b → child_among (first ∷ children) letter ≡ Some child =
          elim [
            | true ↦ λ e. absurd (not_Less-itself nat_cmp_total letter (subst (λ (n : ℕ). nat_cmp n letter ≡ Less) (eqb-true first.0 letter e) above))
            | false ↦ λ e. child_among-there first children letter e ∙ child_among-Contains letter child children (sorted_tail (on (λ (c : ℕ × ℕ). c.0) nat_cmp) first children rising) later
          ]
          in go (first.0 == letter) refl
    ]

-- what a node's row has to have so that the node stands for what follows the front in the forms: its deltas are those of the
-- front; each child stands for what follows the front and its letter, with which some form begins; and each letter that
-- follows the front in some form is a child's
pub record IsRowAfter (rows : List Row) (forms : List Form) (front : List ℕ) (row : Row) : Type 0 where
  pub rising : IsStrictlySortedBy (on (λ (c : ℕ × ℕ). c.0) nat_cmp) row.children
  pub deltas : (delta : Delta) → Contains row.deltas delta ↔ HasDelta forms front delta
  pub children : All (λ (child : ℕ × ℕ). IsNodeAfter rows forms (front ++ child.0 ∷ []) child.1 × BeginsForm forms (front ++ child.0 ∷ [])) row.children
  pub letters : (letter : ℕ) (word : List ℕ) → BeginsForm forms (front ++ letter ∷ word)
      → (child : ℕ) × Contains row.children (letter, child)

-- a node with such a row stands for what follows the front
module _ (rows : List Row) (forms : List Form) (front : List ℕ) (node : ℕ) (is : IsRowAfter rows forms front (row_of rows node)) where
  -- what is known of a child that a letter finds
  known : (letter child : ℕ) → child_in rows node letter ≡ Some child
      → IsNodeAfter rows forms (front ++ letter ∷ []) child × BeginsForm forms (front ++ letter ∷ [])
  known letter child e =
      All-contains (λ (c : ℕ × ℕ). IsNodeAfter rows forms (front ++ c.0 ∷ []) c.1 × BeginsForm forms (front ++ c.0 ∷ [])) (row_of rows node).children (letter, child) is.children (Contains-child_among letter child (row_of rows node).children e)

  -- a word that can be walked is empty, or begins a form after the front
  begins_from_walk : (word : List ℕ) → IsSome (walk rows node word) → (word ≡ []) ⊎ BeginsForm forms (front ++ word)
  begins_from_walk [] walks = inl refl
  begins_from_walk (letter ∷ word) walks =
      let go : (o : Option ℕ) → child_in rows node letter ≡ o → BeginsForm forms (front ++ letter ∷ word) =
      elim [
        | None ↦ λ e. let none = walk-none rows node letter word e in absurd (true≢false (sym walks ∙ ap is_some none))
        | Some child ↦ λ e.
            let (child_is, begins) = known letter child e in
            let rest : IsSome (walk rows child word) = subst IsSome (walk-child rows node letter child word e) walks in
            elim ((child_is.walks word).0 rest) [
              | inl empty ↦ subst (λ (w : List ℕ). BeginsForm forms (front ++ letter ∷ w)) (sym empty) begins
              | inr longer ↦ subst (BeginsForm forms) (append_assoc front (letter ∷ []) word) longer
            ]
      ]
      in inr (go (child_in rows node letter) refl)

  -- a word that begins a form after the front can be walked
  walk_from_begins : (word : List ℕ) → BeginsForm forms (front ++ word) → IsSome (walk rows node word)
  walk_from_begins [] begins = refl
  walk_from_begins (letter ∷ word) begins =
      let (child, among) = is.letters letter word begins in
      let e : child_in rows node letter ≡ Some child = child_among-Contains letter child (row_of rows node).children is.rising among in
      let rest = ((known letter child e).0.walks word).1 (inr (subst (BeginsForm forms) (sym (append_assoc front (letter ∷ []) word)) begins)) in
      subst IsSome (sym (walk-child rows node letter child word e)) rest

  -- a word leads to a node with the deltas of the form that is the front and the word
  deltas_from_walk : (word : List ℕ) (reached : ℕ) → walk rows node word ≡ Some reached
      → (delta : Delta) → Contains (row_of rows reached).deltas delta ↔ HasDelta forms (front ++ word) delta
  deltas_from_walk [] reached walked delta =
      let here : node ≡ reached = cc in
      subst (λ (n : ℕ). Contains (row_of rows n).deltas delta ↔ HasDelta forms (front ++ []) delta) here
      (subst (λ (w : List ℕ). Contains (row_of rows node).deltas delta ↔ HasDelta forms w delta) (sym (append-nil front)) (is.deltas delta))
  deltas_from_walk (letter ∷ word) reached walked delta =
      let go : (o : Option ℕ) → child_in rows node letter ≡ o → Contains (row_of rows reached).deltas delta ↔ HasDelta forms (front ++ letter ∷ word) delta =
      elim [
        | None ↦ λ e. let none = walk-none rows node letter word e in absurd cc
        | Some child ↦ λ e.
            subst (λ (w : List ℕ). Contains (row_of rows reached).deltas delta ↔ HasDelta forms w delta) (append_assoc front (letter ∷ []) word)
            ((known letter child e).0.deltas word reached (sym (walk-child rows node letter child word e) ∙ walked) delta)
      ]
      in go (child_in rows node letter) refl

  pub IsNodeAfter-row : IsNodeAfter rows forms front node
  IsNodeAfter-row =
      record {
        walks = λ word. (begins_from_walk word, elim [ inl empty ↦ subst (λ (w : List ℕ). IsSome (walk rows node w)) (sym empty) refl | inr begins ↦ walk_from_begins word begins ]);
        deltas = deltas_from_walk;
      }
