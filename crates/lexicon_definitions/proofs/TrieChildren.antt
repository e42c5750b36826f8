-- What a letter finds among children: by induction on the list, the first pair with the letter, which in a rising list is the
-- only one.
use Rattle.std.proofs.Common.{◌≡◌, ℕ, ◌<◌, ◌==◌, Bool, true, false, cond, Option, Some, None, List, [], ◌∷◌, length, refl, sym, subst}
use Rattle.std.specs.Prelude.{find, Contains, IfSome}
use Rattle.std.specs.Option.{option_map}
use Rattle.std.proofs.lemmas.Bool.{eqb-true}
use Rattle.std.proofs.lemmas.List.Elements.{All-contains}
use Rattle.list_laws.proofs.Sorted.{Contains-first, Contains-later}
use Rattle.lexicon_definitions.specs.Tries.{Row, AreRows, IsChild, child_among, child_in, row_of}

-- what a letter finds is a child with the letter
pub Contains-child_among : (letter child : ℕ) (children : List (ℕ × ℕ)) → child_among children letter ≡ Some child
    → Contains children (letter, child)
Contains-child_among letter child [] found = absurd cc
Contains-child_among letter child (first ∷ children) found =
    let go : (b : Bool) → first.0 == letter ≡ b
    → option_map (λ (c : ℕ × ℕ). c.1) (cond b (Some first) (find (λ (c : ℕ × ℕ). c.0 == letter) children)) ≡ Some child
    → Contains (first ∷ children) (letter, child) =
    elim [
      | true ↦ λ e f.
          let same : first.0 ≡ letter = eqb-true first.0 letter e in
          let leads : first.1 ≡ child = cc in
          let pair : first ≡ (letter, child) = λ i. (same i, leads i) in
          subst (λ (c : ℕ × ℕ). Contains (first ∷ children) c) pair (Contains-first first children)
      | false ↦ λ e f. Contains-later first children (letter, child) (Contains-child_among letter child children f)
    ]
    in go (first.0 == letter) refl found

-- a letter of a node leads to a child of the node's row
pub IsChild-child_in : (rows : List Row) (node letter child : ℕ) → AreRows rows → node < length rows
    → child_in rows node letter ≡ Some child → IsChild rows node (letter, child)
IsChild-child_in rows node letter child are low found =
    All-contains (IsChild rows node) (row_of rows node).children (letter, child) (are.each node low).children
    (Contains-child_among letter child (row_of rows node).children found)

-- a letter of a node leads to a node with a smaller number
pub before-child_in : (rows : List Row) (node letter : ℕ) (found : Option ℕ) → AreRows rows → node < length rows
    → found ≡ child_in rows node letter → IfSome found (λ child. child < node)
before-child_in rows node letter None are low e = tt
before-child_in rows node letter (Some child) are low e = (IsChild-child_in rows node letter child are low (sym e)).before
