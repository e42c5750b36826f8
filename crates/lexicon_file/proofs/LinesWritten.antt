-- One more of a list is written, or counted: what is written and what is left to write are together what they were.
use Rattle.std.proofs.Common.{◌≡◌, ℕ, ◌+◌, ◌<◌, List, ◌∷◌, ◌++◌, length, drop, get_or, sym, ◌∙◌, ap, add-one, arith}
use Rattle.std.proofs.lemmas.List.{append_assoc, length-append}
use Rattle.std.proofs.Math.Seq.{drop-cons}
use Rattle.lexicon_file.proofs.NamesWritten.{first_left}

pub one_written : {X : Type 0} (text : List X → List ℕ) (xs : List X) (place : ℕ) (x : X) (added old new all : List ℕ)
    → place < length xs → x ≡ get_or xs place x → text (x ∷ drop (place + 1) xs) ≡ added ++ text (drop (place + 1) xs)
    → new ≡ old ++ added → old ++ text (drop place xs) ≡ all → new ++ text (drop (place + 1) xs) ≡ all
one_written {X} text xs place x added old new all within this first more left =
    ap (λ (written : List ℕ). written ++ text (drop (place + 1) xs)) more ∙ append_assoc old added (text (drop (place + 1) xs))
    ∙ ap (λ (rest : List ℕ). old ++ rest) (sym first) ∙ ap (λ (ys : List X). old ++ text ys) (sym (first_left xs place x within this)) ∙ left

pub one_counted : {X : Type 0} (text : List X → List ℕ) (xs : List X) (place : ℕ) (x : X) (added : List ℕ) (old new all : ℕ)
    → place < length xs → x ≡ get_or xs place x → text (x ∷ drop (place + 1) xs) ≡ added ++ text (drop (place + 1) xs)
    → new ≡ old + length added → old + length (text (drop place xs)) ≡ all → new + length (text (drop (place + 1) xs)) ≡ all
one_counted {X} text xs place x added old new all within this first more left =
    let both = ap (λ (ys : List X). length (text ys)) (first_left xs place x within this) ∙ ap (λ (t : List ℕ). length t) first ∙ length-append added (text (drop (place + 1) xs)) in
    omega (arith, more, left, both)

-- and what is told by two lists
pub both_written : {X Y : Type 0} (text : List X → List Y → List ℕ) (xs : List X) (ys : List Y) (place : ℕ) (x : X) (y other : Y) (added old new all : List ℕ)
    → place < length xs → place < length ys → x ≡ get_or xs place x → y ≡ get_or ys place other
    → text (x ∷ drop (place + 1) xs) (y ∷ drop (place + 1) ys) ≡ added ++ text (drop (place + 1) xs) (drop (place + 1) ys)
    → new ≡ old ++ added → old ++ text (drop place xs) (drop place ys) ≡ all → new ++ text (drop (place + 1) xs) (drop (place + 1) ys) ≡ all
both_written {X} {Y} text xs ys place x y other added old new all within inside this that first more left =
    let xs_left = first_left xs place x within this in
    let ys_left : drop place ys ≡ y ∷ drop (place + 1) ys = rw add-one (drop-cons ys place other inside) ∙ ap (λ (first : Y). first ∷ drop (place + 1) ys) (sym that) in
    let rest = text (drop (place + 1) xs) (drop (place + 1) ys) in
    ap (λ (written : List ℕ). written ++ rest) more ∙ append_assoc old added rest
    ∙ ap (λ (rest : List ℕ). old ++ rest) (sym first) ∙ (λ i. old ++ text (sym xs_left i) (sym ys_left i)) ∙ left
