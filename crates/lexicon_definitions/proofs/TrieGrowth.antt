-- Rows that are added leave what is walked from the nodes before: children have smaller numbers, so a walk never leaves the
-- rows that were there.
use Rattle.std.proofs.Common.{◌≡◌, ◌≢◌, ℕ, ◌+◌, ◌<◌, ◌≤◌, ◌⊎◌, ◌↔◌, inl, inr, Option, Some, None, List, [], ◌∷◌, ◌++◌, length, refl, sym, ◌∙◌, ap, subst, arith}
use Rattle.std.specs.Prelude.{option_and_then, AllPairs, Contains, IsSome}
use Rattle.std.proofs.lemmas.Bool.{cases_lt}
use Rattle.std.proofs.lemmas.List.{get_or_append_left, get_or_push, length_push}
use Rattle.std.proofs.lemmas.List.Elements.{All-weaker}
use Rattle.lexicon_definitions.specs.Lexicons.{Form}
use Rattle.lexicon_definitions.specs.Tries.{Row, AreRows, IsChild, IsRow, IsHeight, IsNodeAfter, HasDelta, BeginsForm, child_among, child_in, row_of, walk, empty_row}
use Rattle.lexicon_definitions.proofs.TrieChildren.{IsChild-child_in}

-- the row of a node that was there
pub row_of-append : (rows more : List Row) (node : ℕ) → node < length rows → row_of (rows ++ more) node ≡ row_of rows node
row_of-append rows more node low = get_or_append_left rows more empty_row node low

-- a walk goes on from a child
pub walk-child : (rows : List Row) (node letter child : ℕ) (word : List ℕ) → child_in rows node letter ≡ Some child
    → walk rows node (letter ∷ word) ≡ walk rows child word
walk-child rows node letter child word e = ap (option_and_then (λ (c : ℕ). walk rows c word)) e

-- a walk stops where the letter leads nowhere
pub walk-none : (rows : List Row) (node letter : ℕ) (word : List ℕ) → child_in rows node letter ≡ None
    → walk rows node (letter ∷ word) ≡ None
walk-none rows node letter word e = ap (option_and_then (λ (c : ℕ). walk rows c word)) e

-- a letter leads where it led
pub child_in-append : (rows more : List Row) (node letter : ℕ) → node < length rows
    → child_in (rows ++ more) node letter ≡ child_in rows node letter
child_in-append rows more node letter low = ap (λ (row : Row). child_among row.children letter) (row_of-append rows more node low)

-- a word leads where it led
pub walk-append : (rows more : List Row) → AreRows rows → (word : List ℕ) (node : ℕ) → node < length rows
    → walk (rows ++ more) node word ≡ walk rows node word
walk-append rows more are [] node low = refl
walk-append rows more are (letter ∷ word) node low =
    let same = child_in-append rows more node letter low in
    let go : (o : Option ℕ) → child_in rows node letter ≡ o → walk (rows ++ more) node (letter ∷ word) ≡ walk rows node (letter ∷ word) =
    elim [
      | None ↦ λ e. walk-none (rows ++ more) node letter word (same ∙ e) ∙ sym (walk-none rows node letter word e)
      | Some child ↦ λ e.
          let before = (IsChild-child_in rows node letter child are low e).before in
          walk-child (rows ++ more) node letter child word (same ∙ e) ∙ walk-append rows more are word child (omega (arith, before)) ∙ sym (walk-child rows node letter child word e)
    ]
    in go (child_in rows node letter) refl

-- a walk leads to a node with no greater number
pub walk-within : (rows : List Row) → AreRows rows → (word : List ℕ) (node reached : ℕ) → node < length rows
    → walk rows node word ≡ Some reached → reached + length word ≤ node
walk-within rows are [] node reached low walked = let same : node ≡ reached = cc in omega (arith, same)
walk-within rows are (letter ∷ word) node reached low walked =
    let go : (o : Option ℕ) → child_in rows node letter ≡ o → reached + length (letter ∷ word) ≤ node =
    elim [
      | None ↦ λ e. let none = walk-none rows node letter word e in absurd cc
      | Some child ↦ λ e.
          let before = (IsChild-child_in rows node letter child are low e).before in
          let rest = walk-within rows are word child reached (omega (arith, before)) (sym (walk-child rows node letter child word e) ∙ walked) in
          omega (arith, rest, before)
    ]
    in go (child_in rows node letter) refl

-- a node stands for what it stood for
pub IsNodeAfter-append : (rows more : List Row) (forms : List Form) (front : List ℕ) (node : ℕ) → AreRows rows → node < length rows
    → IsNodeAfter rows forms front node → IsNodeAfter (rows ++ more) forms front node
IsNodeAfter-append rows more forms front node are low is =
    let same = λ (word : List ℕ). walk-append rows more are word node low in
    record {
      walks = λ word. subst (λ (o : Option ℕ). IsSome o ↔ ((word ≡ []) ⊎ BeginsForm forms (front ++ word))) (sym (same word)) (is.walks word);
      deltas = λ word reached walked delta.
          let before = walk-within rows are word node reached low (sym (same word) ∙ walked) in
          subst (λ (row : Row). Contains row.deltas delta ↔ HasDelta forms (front ++ word) delta) (sym (row_of-append rows more reached (omega (arith, before, low)))) (is.deltas word reached (sym (same word) ∙ walked) delta);
    }

-- a node has the height that it had
pub IsHeight-append : (rows more : List Row) (node height : ℕ) → AreRows rows → node < length rows
    → IsHeight rows node height → IsHeight (rows ++ more) node height
IsHeight-append rows more node height are low is =
    let same = λ (word : List ℕ). walk-append rows more are word node low in
    record {
      word = is.word;
      has_length = is.has_length;
      walks = subst IsSome (sym (same is.word)) is.walks;
      longest = λ other walks. is.longest other (subst IsSome (same other) walks);
    }

-- a row may stand where it might
pub IsRow-append : (rows more : List Row) (node : ℕ) (row : Row) → node ≤ length rows → IsRow rows node row → IsRow (rows ++ more) node row
IsRow-append rows more node row low is =
    let keep : (child : ℕ × ℕ) → IsChild rows node child → IsChild (rows ++ more) node child =
    λ child c. record {
      letter = c.letter;
      before = c.before;
      not_empty = λ e. c.not_empty (sym (row_of-append rows more child.1 (let b = c.before in omega (arith, b, low))) ∙ e);
    }
    in record { deltas = is.deltas; children = All-weaker (IsChild rows node) (IsChild (rows ++ more) node) keep row.children is.children; letters = is.letters }

-- a row at the end
pub row_of-push : (rows : List Row) (row : Row) → row_of (rows ++ row ∷ []) (length rows) ≡ row
row_of-push rows row = get_or_push rows row empty_row (length rows) refl

-- rows with one more, which is another
pub AreRows-push : (rows : List Row) (row : Row) → AreRows rows → IsRow rows (length rows) row
    → AllPairs (λ left right. left ≢ right) (rows ++ row ∷ []) → AreRows (rows ++ row ∷ [])
AreRows-push rows row are is apart =
    record {
      each = λ node low.
          let long = length_push rows row in
          elim (cases_lt node (length rows)) [
            | inl l ↦
                subst (IsRow (rows ++ row ∷ []) node) (sym (row_of-append rows (row ∷ []) node l))
                (IsRow-append rows (row ∷ []) node (row_of rows node) (omega (arith, l)) (are.each node l))
            | inr g ↦
                let last : length rows ≡ node = omega (arith, g, low, long) in
                subst (λ (n : ℕ). IsRow (rows ++ row ∷ []) n (row_of (rows ++ row ∷ []) n)) last
                (subst (IsRow (rows ++ row ∷ []) (length rows)) (sym (row_of-push rows row))
                (IsRow-append rows (row ∷ []) (length rows) row (omega arith) is))
          ];
      distinct = apart;
    }
