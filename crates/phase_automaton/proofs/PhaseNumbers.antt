-- The first element of a list that passes a test, from what is known of the elements before it.
use Rattle.std.proofs.Common.{◌≡◌, ℕ, suc, ◌<◌, ◌≤◌, Bool, true, false, cond, nat_lt, Some, None, List, [], ◌∷◌, length, get_or, refl, sym, arith, position}
use Rattle.std.specs.List.{position_or_len, list_any}
use Rattle.std.proofs.lemmas.List.Quantifiers.{position-Some}
use Rattle.std.proofs.lemmas.Bool.{ltb-false, or_from}
use Rattle.std.proofs.lemmas.List.Sums.{fails_before_first}
use Rattle.std.proofs.lemmas.List.Folds.{list_any_at}

-- ---- a list has an element that passes exactly where there is a first
any_none : {X : Type 0} (p : X → Bool) (xs : List X) (d : X) → ((k : ℕ) → k < length xs → p (get_or xs k d) ≡ false) → list_any p xs ≡ false
any_none p [] d h = refl
any_none p (x ∷ xs) d h = or_from (p x) (list_any p xs) (h 0 (omega arith)) (any_none p xs d (λ k l. h (suc k) (omega arith)))

pub any_from_position : {X : Type 0} (p : X → Bool) (xs : List X) (i : ℕ) (d : X) → Some i ≡ position p xs → list_any p xs ≡ true
any_from_position p xs i d e = let s = position-Some p xs i d (sym e) in list_any_at p xs i d s.0 s.1

not_first : (b : Bool) (i : ℕ) → None ≡ cond b (Some i) None → b ≡ false
not_first true i e = cc
not_first false i e = refl

pub none_from_position : {X : Type 0} (p : X → Bool) (xs : List X) (d : X) → None ≡ position p xs → list_any p xs ≡ false
none_from_position p xs d e =
    let out = not_first (nat_lt (position_or_len p xs) (length xs)) (position_or_len p xs) e in
    let past : length xs ≤ position_or_len p xs = ltb-false _ _ out in
    any_none p xs d (λ k h. fails_before_first p xs k d (omega (arith, past, h)))
