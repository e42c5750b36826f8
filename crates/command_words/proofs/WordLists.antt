-- Lists of words by their elements: the first and the others, and what holds of all words holds of their bytes.
use Rattle.std.proofs.Common.{◌≡◌, ℕ, ◌<◌, ◌≤◌, List, [], ◌∷◌, length, map, take, drop, ap, sym, ◌∙◌, ◌+◌, ◌-◌, arith, add-one, suc, length-take, length-drop, drop-cons}
use Rattle.std.specs.List.{All, slice_index_or}
use Rattle.std.proofs.lemmas.List.{get_or-map, length-map, take_all}

-- what holds of the values holds of what they come from
pub All-unmap : {X Y : Type 0} (P : Y → Type 0) (f : X → Y) (xs : List X) → All P (map f xs) → All (λ x. P (f x)) xs
All-unmap P f xs all k d low = rw (get_or-map f xs k d (f d) low) at (all k (f d) (rw (length-map xs f) low))

-- all elements but the first
abbrev pub after_first : {X : Type 0} → List X → List X
after_first xs = take (length xs - 1) (drop 1 xs)

pub length_after_first : {X : Type 0} (xs : List X) → length (after_first xs) ≡ length xs - 1
length_after_first xs = omega (arith, length-take (length xs - 1) (drop 1 xs), length-drop 1 xs)

-- a list of one element at least
pub head_and_rest : {X Y : Type 0} (f : X → Y) (xs : List X) (x : X) → 1 ≤ length xs → x ≡ slice_index_or xs 0 x
    → map f xs ≡ f x ∷ map f (after_first xs)
head_and_rest f [] x l e = absurd (omega arith)
head_and_rest f (y ∷ xs) x l e =
    let fits : length xs ≤ length (y ∷ xs) - 1 = omega arith in
    ap (λ z. f z ∷ map f xs) (sym e) ∙ ap (λ zs. f x ∷ map f zs) (sym (take_all (length (y ∷ xs) - 1) xs fits))

-- the elements from one on are this one and those after it
pub next_item : {X Y : Type 0} (f : X → Y) (xs : List X) (i : ℕ) (x : X) → i < length xs → x ≡ slice_index_or xs i x
    → map f (drop i xs) ≡ f x ∷ map f (drop (i + 1) xs)
next_item f xs i x low is =
    rw add-one (ap (map f) (drop-cons xs i x low) ∙ ap (λ y. f y ∷ map f (drop (suc i) xs)) (sym is))
