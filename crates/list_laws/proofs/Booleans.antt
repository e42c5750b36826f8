-- Tests and what follows from their outcomes, each by cases of the test.
use Rattle.std.proofs.Common.{◌≡◌, Bool, true, false, not, cond, ◌&&◌, Result, Ok, Err, refl, sym, ap}
use Rattle.std.specs.Result.{OnErr}

-- where one test is the negation of another, the other is that of the one
pub not_of_each_other : (b x : Bool) → x ≡ not b → b ≡ not x
not_of_each_other true x e = ap not (sym e)
not_of_each_other false x e = ap not (sym e)

-- three tests, with the last two or the first two taken together
pub and_regrouped : (a b c : Bool) → (a && (b && c)) ≡ (a && b && c)
and_regrouped true b c = refl
and_regrouped false b c = refl

-- what gave a value, where the test gives an error if it fails, passed the test
pub if_passed : {T E : Type 0} (b : Bool) (x : Result T E) (e : E) (y : T) → cond b x (Err e) ≡ Ok y → (b ≡ true) × (x ≡ Ok y)
if_passed true x e y h = (refl, h)
if_passed false x e y h = absurd (cc)

-- what gave a value, where the test gives an error if it passes, failed the test
pub if_refused : {T E : Type 0} (b : Bool) (x : Result T E) (e : E) (y : T) → cond b (Err e) x ≡ Ok y → (b ≡ false) × (x ≡ Ok y)
if_refused true x e y h = absurd (cc)
if_refused false x e y h = (refl, h)

pub when_true : {A : Type 0} (b : Bool) (x y z : A) → b ≡ true → x ≡ z → cond b x y ≡ z
when_true true x y z h e = e
when_true false x y z h e = absurd (cc)

pub when_false : {A : Type 0} (b : Bool) (x y z : A) → b ≡ false → y ≡ z → cond b x y ≡ z
when_false true x y z h e = absurd (cc)
when_false false x y z h e = e

-- what holds in any case holds where a call failed
pub on_err : {T E : Type 0} (result : Result T E) (P : Type 0) → P → OnErr result P
on_err (Ok value) P holds = tt
on_err (Err error) P holds = holds
