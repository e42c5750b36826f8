-- A text is cut at a mark in one way: where no front has the mark, by induction on both fronts.
use Rattle.std.proofs.Common.{◌≡◌, ◌≢◌, ℕ, Bool, true, false, cond, List, [], ◌∷◌, ◌++◌, eqb, refl, ◌∙◌, ap, All}
use Rattle.std.specs.List.{AllByRecursion}
use Rattle.std.proofs.lemmas.Bool.{eqb-true, eqb-false}
use Rattle.std.proofs.lemmas.List.Elements.{recursion_from_All, All-from_recursion}

-- the text does not have the mark
abbrev pub is_free : ℕ → List ℕ → Bool
is_free mark [] = true
is_free mark (byte ∷ text) = cond (eqb byte mark) false (is_free mark text)

both : (test rest : Bool) → cond test false rest ≡ true → (test ≡ false) × (rest ≡ true)
both true rest h = absurd (cc)
both false rest h = (refl, h)

-- its first byte is another, and the others are free of the mark
pub free_parts : (mark byte : ℕ) (text : List ℕ) → is_free mark (byte ∷ text) ≡ true → (eqb byte mark ≡ false) × (is_free mark text ≡ true)
free_parts mark byte text h = both (eqb byte mark) (is_free mark text) h

pub free_append : (mark : ℕ) (left right : List ℕ) → is_free mark left ≡ true → is_free mark right ≡ true → is_free mark (left ++ right) ≡ true
free_append mark [] right h k = k
free_append mark (byte ∷ left) right h k =
    let parts = free_parts mark byte left h in
    ap (λ test. cond test false (is_free mark (left ++ right))) parts.0 ∙ free_append mark left right parts.1 k

-- the cut at the first mark is one
pub cut_once : (mark : ℕ) (left right other rest : List ℕ) → is_free mark left ≡ true → is_free mark other ≡ true
    → left ++ mark ∷ right ≡ other ++ mark ∷ rest → (left ≡ other) × (right ≡ rest)
cut_once mark [] right [] rest h k e = (refl, cc)
cut_once mark [] right (byte ∷ other) rest h k e =
    absurd (eqb-false byte mark (free_parts mark byte other k).0 (cc))
cut_once mark (byte ∷ left) right [] rest h k e =
    absurd (eqb-false byte mark (free_parts mark byte left h).0 (cc))
cut_once mark (byte ∷ left) right (first ∷ other) rest h k e =
    let tails : left ++ mark ∷ right ≡ other ++ mark ∷ rest = cc in
    let parts = cut_once mark left right other rest (free_parts mark byte left h).1 (free_parts mark first other k).1 tails in
    (cc, parts.1)

-- a text without the mark is not one with it
pub no_cut : (mark : ℕ) (text left right : List ℕ) → is_free mark text ≡ true → text ≡ left ++ mark ∷ right → ⊥
no_cut mark [] [] right h e = cc
no_cut mark [] (byte ∷ left) right h e = cc
no_cut mark (first ∷ text) [] right h e = eqb-false first mark (free_parts mark first text h).0 (cc)
no_cut mark (first ∷ text) (byte ∷ left) right h e = no_cut mark text left right (free_parts mark first text h).1 (cc)

free_by : (mark byte : ℕ) (test : Bool) → eqb byte mark ≡ test → byte ≢ mark → test ≡ false
free_by mark byte true e n = absurd (n (eqb-true byte mark e))
free_by mark byte false e n = refl

from_recursion : (mark : ℕ) (text : List ℕ) → AllByRecursion (λ byte. byte ≢ mark) text → is_free mark text ≡ true
from_recursion mark [] h = refl
from_recursion mark (byte ∷ text) h =
    ap (λ test. cond test false (is_free mark text)) (free_by mark byte (eqb byte mark) refl h.0) ∙ from_recursion mark text h.1

-- where no byte is the mark, the text is free of it
pub free_from_All : (mark : ℕ) (text : List ℕ) → All (λ byte. byte ≢ mark) text → is_free mark text ≡ true
free_from_All mark text h = from_recursion mark text (recursion_from_All (λ byte. byte ≢ mark) text h)

apart_by_recursion : (mark : ℕ) (text : List ℕ) → is_free mark text ≡ true → AllByRecursion (λ byte. eqb byte mark ≡ false) text
apart_by_recursion mark [] h = tt
apart_by_recursion mark (byte ∷ text) h = let parts = free_parts mark byte text h in (parts.0, apart_by_recursion mark text parts.1)

-- where the text is free of the mark, no byte is tested as it
pub bytes_apart_from : (mark : ℕ) (text : List ℕ) → is_free mark text ≡ true → All (λ byte. eqb byte mark ≡ false) text
bytes_apart_from mark text h = All-from_recursion (λ byte. eqb byte mark ≡ false) text (apart_by_recursion mark text h)
