-- Below a node a delta puts back a letter where it puts the letter of a child there, or below a child.
use Rattle.std.proofs.Common.{◌≡◌, ℕ, ◌+◌, ◌<◌, ◌↔◌, ◌⊎◌, inl, inr, Bool, List, [], ◌∷◌, ◌++◌, length, get_or, sym, subst, arith}
use Rattle.std.specs.Prelude.{All, Contains, IsTrue, true, false}
use Rattle.std.proofs.lemmas.Bool.{cases_lt}
use Rattle.std.proofs.lemmas.List.{get_or_append_left, get_or_push, length_push}
use Rattle.std.proofs.lemmas.List.Elements.{All-contains}
use Rattle.lexicon_definitions.specs.Deltas.{Delta}
use Rattle.lexicon_definitions.specs.Tries.{Row, AreRows, HasSuffix, row_of}
use Rattle.trie_checks.specs.Bounds.{HasOne}
use Rattle.trie_checks.specs.Marks.{IsMarked}
use Rattle.trie_checks.specs.LettersPut.{IsPut, AreSetsPut}
use Rattle.trie_checks.specs.NumberSets.{HasNumber}
use Rattle.trie_checks.specs.PutBack.{PutsBack, IsPutBack}
use Rattle.trie_checks.proofs.SuffixSteps.{suffix_rest, suffix_later, child_before}

-- the marks of the first nodes, so many of them, tell below which a delta puts back a letter
pub record AreMarked (rows : List Row) (count : ℕ) (marks : List Bool) : Type 0 where
  pub length_is : length marks ≡ count
  pub each : (node : ℕ) → node < count → IsMarked marks node ↔ IsPutBack rows node

module _ (rows : List Row) (are : AreRows rows) (node : ℕ) (low : node < length rows) where
  abbrev IsBelow : ℕ × ℕ → Type 0
  IsBelow child = IsPut rows child.1 1 child.0 ⊎ IsPutBack rows child.1

  put_back_cases : (word : List ℕ) (delta : Delta) → HasSuffix rows node word delta → PutsBack word delta → HasOne IsBelow (row_of rows node).children
  put_back_cases [] delta has puts = absurd puts
  put_back_cases (letter ∷ word) delta has puts =
      let (child, m, rest) = suffix_rest rows node letter word delta has in
      elim puts [
        | inl here ↦ ((letter, child), m, inl (record { word = word; delta = delta; has = rest; puts = here }))
        | inr later ↦ ((letter, child), m, inr (record { word = word; delta = delta; has = rest; puts_back = later }))
      ]

  put_back_from : HasOne IsBelow (row_of rows node).children → IsPutBack rows node
  put_back_from h =
      elim h.2 [
        | inl is ↦ record {
          word = h.0.0 ∷ is.word;
          delta = is.delta;
          has = suffix_later rows are node low h.0 h.1 is.word is.delta is.has;
          puts_back = inl is.puts;
        }
        | inr is ↦ record {
          word = h.0.0 ∷ is.word;
          delta = is.delta;
          has = suffix_later rows are node low h.0 h.1 is.word is.delta is.has;
          puts_back = inr is.puts_back;
        }
      ]

  -- one node more
  pub marked_next : (sets : List ℕ) (marks : List Bool) (found : Bool) → AreSetsPut rows 1 sets → AreMarked rows node marks
      → IsTrue found ↔ HasOne (λ (child : ℕ × ℕ). HasNumber (get_or sets child.1 0) child.0 ⊎ IsMarked marks child.1) (row_of rows node).children
      → AreMarked rows (node + 1) (marks ++ found ∷ [])
  marked_next sets marks found put known told =
      let many = known.length_is in
      let to : IsTrue found → IsPutBack rows node = λ t.
      let (child, m, either) = told.0 t in
      let less = child_before rows are node low child m in
      put_back_from (
        child,
        m,
        elim either [
          | inl has ↦ inl ((put.each child.1 (omega (arith, less, low)) child.0).0 has)
          | inr mark ↦ inr ((known.each child.1 less).0 mark)
        ],
      )
      in
      let from : IsPutBack rows node → IsTrue found = λ is.
      let (child, m, either) = put_back_cases is.word is.delta is.has is.puts_back in
      let less = child_before rows are node low child m in
      told.1 (
        child,
        m,
        elim either [
          | inl there ↦ inl ((put.each child.1 (omega (arith, less, low)) child.0).1 there)
          | inr back ↦ inr ((known.each child.1 less).1 back)
        ],
      )
      in
      record {
        length_is = let long = length_push marks found in omega (arith, long, many);
        each = λ n less.
            elim (cases_lt n node) [
              | inl before ↦
                  let same = get_or_append_left marks (found ∷ []) false n (omega (arith, before, many)) in
                  subst (λ b. (b ≡ true) ↔ IsPutBack rows n) (sym same) (known.each n before)
              | inr here ↦
                  let is : node ≡ n = omega (arith, less, here) in
                  let at = get_or_push marks found false node many in
                  subst (λ k. IsMarked (marks ++ found ∷ []) k ↔ IsPutBack rows k) is
                  (subst (λ b. (b ≡ true) ↔ IsPutBack rows node) (sym at) (to, from))
            ];
      }

-- the marks of the roots tell whether a letter is put back below one
pub marked_roots : (rows : List Row) (marks : List Bool) (roots : List ℕ) (found : Bool) → AreMarked rows (length rows) marks → All (λ root. root < length rows) roots
    → IsTrue found ↔ HasOne (IsMarked marks) roots → IsTrue found ↔ HasOne (IsPutBack rows) roots
marked_roots rows marks roots found known low told =
    let within = λ (root : ℕ) (m : Contains roots root). All-contains (λ (r : ℕ). r < length rows) roots root low m in (
      λ t. let h = told.0 t in (h.0, h.1, (known.each h.0 (within h.0 h.1)).0 h.2),
      λ h. told.1 (h.0, h.1, (known.each h.0 (within h.0 h.1)).1 h.2),
    )
