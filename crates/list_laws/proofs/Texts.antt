-- Texts that are compared byte by byte, alone or with each of a list, by what std says of the comparison.
use Rattle.std.proofs.Common.{◌≡◌, ◌≢◌, ℕ, true, false, List, [], ◌∷◌, All, ◌||◌, refl, sym, ◌∙◌, ap}
use Rattle.std.specs.List.{AllByRecursion, list_any}
use Rattle.std.specs.Str.{bytes_eq}
use Rattle.std.proofs.lemmas.Bool.{or_parts, false_from_ne_true}
use Rattle.std.proofs.lemmas.List.Elements.{All-from_recursion, recursion_from_All}
use Rattle.std.proofs.lemmas.Slice.Eq.{bytes_eq-Decides}

pub bytes_same : (left right : List ℕ) → bytes_eq left right ≡ true → left ≡ right
bytes_same left right h = (bytes_eq-Decides left right).0 h

pub bytes_apart : (left right : List ℕ) → left ≢ right → bytes_eq left right ≡ false
bytes_apart left right n = false_from_ne_true (bytes_eq left right) (λ e. n (bytes_same left right e))

none_by : (text : List ℕ) (texts : List (List ℕ)) → list_any (bytes_eq text) texts ≡ false → AllByRecursion (λ other. other ≢ text) texts
none_by text [] h = tt
none_by text (other ∷ texts) h =
    let parts = or_parts (bytes_eq text other) (list_any (bytes_eq text) texts) h in
    let apart : other ≢ text = λ e. let same = (bytes_eq-Decides text other).1 (sym e) in cc in
    (apart, none_by text texts parts.1)

-- this text is not one of these
pub none_same : (text : List ℕ) (texts : List (List ℕ)) → list_any (bytes_eq text) texts ≡ false → All (λ other. other ≢ text) texts
none_same text texts h = All-from_recursion (λ other. other ≢ text) texts (none_by text texts h)

pub bytes_itself : (text : List ℕ) → bytes_eq text text ≡ true
bytes_itself text = (bytes_eq-Decides text text).1 refl

from_none : (text : List ℕ) (texts : List (List ℕ)) → AllByRecursion (λ other. other ≢ text) texts → list_any (bytes_eq text) texts ≡ false
from_none text [] h = refl
from_none text (other ∷ texts) h =
    ap (λ test. test || list_any (bytes_eq text) texts) (bytes_apart text other (λ e. h.0 (sym e))) ∙ from_none text texts h.1

pub any_false : (text : List ℕ) (texts : List (List ℕ)) → All (λ other. other ≢ text) texts → list_any (bytes_eq text) texts ≡ false
any_false text texts h = from_none text texts (recursion_from_All (λ other. other ≢ text) texts h)
