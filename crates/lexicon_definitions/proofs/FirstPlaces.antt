-- The first element of a list that passes a test, from what is known of the elements before it.
use Rattle.std.proofs.Common.{◌≡◌, ℕ, zero, suc, ◌<◌, Bool, true, false, cond, nat_lt, Some, None, List, [], ◌∷◌, map, length, get_or, refl, sym, ap, arith, position}
use Rattle.std.proofs.lemmas.Bool.Decides.{nat_tests}
use Rattle.std.proofs.lemmas.List.Sums.{position_or_len_is}

pub mapped_at : {X Y : Type 0} (f : X → Y) (xs : List X) (i : ℕ) (x : X) (d : Y) → i < length xs → x ≡ get_or xs i x → get_or (map f xs) i d ≡ f x
mapped_at f [] i x d h e = absurd (omega arith)
mapped_at f (y ∷ ys) zero x d h e = ap f (sym e)
mapped_at f (y ∷ ys) (suc i) x d h e = mapped_at f ys i x d (omega arith) e

chosen : (b : Bool) (i : ℕ) → b ≡ true → Some i ≡ cond b (Some i) None
chosen true i e = refl
chosen false i e = cc

not_chosen : (b : Bool) (i : ℕ) → b ≡ false → None ≡ cond b (Some i) None
not_chosen true i e = cc
not_chosen false i e = refl

pub position_is : {X : Type 0} (p : X → Bool) (xs : List X) (i : ℕ) (d : X) → i < length xs → p (get_or xs i d) ≡ true → ((k : ℕ) → k < i → p (get_or xs k d) ≡ false)
    → Some i ≡ position p xs
position_is p xs i d h here below =
    let e = position_or_len_is p xs i d (omega arith) below (λ _. here) in
    rw e (chosen (nat_lt i (length xs)) i (search (arith, nat_tests)))

pub position_is_none : {X : Type 0} (p : X → Bool) (xs : List X) (d : X) → ((k : ℕ) → k < length xs → p (get_or xs k d) ≡ false) → None ≡ position p xs
position_is_none p xs d below =
    let e = position_or_len_is p xs (length xs) d (omega arith) below (λ h. absurd (omega (arith, h))) in
    rw e (not_chosen (nat_lt (length xs) (length xs)) (length xs) (search (arith, nat_tests)))
