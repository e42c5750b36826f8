-- What is no spelling of Velthuis: bytes that fail a test which each spelling of the table passes.
use Rattle.std.proofs.Common.{◌≡◌, ℕ, ◌+◌, Bool, true, false, ◌&&◌, ◌||◌, List, [], ◌∷◌, None, codes, eqb, refl, sym, ap, ◌∙◌}
use Rattle.std.specs.Str.{bytes_eq}
use Rattle.std.specs.List.{list_all}
use Rattle.std.proofs.lemmas.Bool.{and_parts, false_from_ne_true, false≢true}
use Rattle.std.proofs.lemmas.Slice.Eq.{bytes_eq-Decides}
use Rattle.text_definitions.specs.Longest.{spelling_from}
use Rattle.text_definitions.specs.Velthuis.{velthuis_table, velthuis_capital, velthuis_letter, or_else}

apart : (test : List ℕ → Bool) (entry bytes : List ℕ) → test entry ≡ true → test bytes ≡ false → bytes_eq entry bytes ≡ false
apart test entry bytes passes fails =
    false_from_ne_true (bytes_eq entry bytes) (λ same. false≢true (sym fails ∙ sym (ap test ((bytes_eq-Decides entry bytes).0 same)) ∙ passes))

no_entry : (test : List ℕ → Bool) (code : ℕ) (table : List (List ℕ)) (bytes : List ℕ) → list_all test table ≡ true → test bytes ≡ false → spelling_from code table bytes ≡ None
no_entry test code [] bytes all fails = refl
no_entry test code (entry ∷ table) bytes all fails =
    let parts = and_parts (test entry) (list_all test table) all in
    rw (apart test entry bytes parts.0 fails) (no_entry test (code + 1) table bytes parts.1 fails)

no_capital : (test : List ℕ → Bool) (bytes : List ℕ) → test (codes "A") ≡ true → test (codes "I") ≡ true → test (codes "U") ≡ true → test bytes ≡ false → velthuis_capital bytes ≡ None
unfolding velthuis_capital
no_capital test bytes a i u fails =
    rw (apart test (codes "A") bytes a fails, apart test (codes "I") bytes i fails, apart test (codes "U") bytes u fails)

no_letter : (test : List ℕ → Bool) (bytes : List ℕ) → list_all test velthuis_table ≡ true → velthuis_capital bytes ≡ None → test bytes ≡ false → None ≡ velthuis_letter bytes
unfolding velthuis_letter
no_letter test bytes all capital fails =
    sym (ap (λ found. or_else found (velthuis_capital bytes)) (no_entry test 1 velthuis_table bytes all fails) ∙ capital)

-- the spellings of three bytes
abbrev pub is_triple : ℕ → ℕ → ℕ → Bool
is_triple x y z =
    eqb x 46 && ((eqb y 114 && eqb z 114) || (eqb y 116 && eqb z 104) || (eqb y 100 && eqb z 104))

abbrev may_be_triple : List ℕ → Bool
may_be_triple [] = true
may_be_triple (x ∷ []) = true
may_be_triple (x ∷ y ∷ []) = true
may_be_triple (x ∷ y ∷ z ∷ []) = is_triple x y z
may_be_triple (x ∷ y ∷ z ∷ w ∷ rest) = true

pub no_triple : (x y z : ℕ) → is_triple x y z ≡ false → None ≡ velthuis_letter (x ∷ y ∷ z ∷ [])
unfolding velthuis_table
no_triple x y z fails =
    no_letter may_be_triple (x ∷ y ∷ z ∷ []) refl (no_capital may_be_triple (x ∷ y ∷ z ∷ []) refl refl refl fails) fails

-- the bytes with which a spelling of two bytes begins
abbrev pub begins_pair : ℕ → Bool
begins_pair x =
    eqb x 97 || eqb x 105 || eqb x 117 || eqb x 46 || eqb x 126 || eqb x 107 || eqb x 103 || eqb x 34 || eqb x 99 || eqb x 106 || eqb x 116 || eqb x 100 || eqb x 112 || eqb x 98

abbrev may_be_pair : List ℕ → Bool
may_be_pair [] = true
may_be_pair (x ∷ []) = true
may_be_pair (x ∷ y ∷ []) = begins_pair x
may_be_pair (x ∷ y ∷ z ∷ rest) = true

pub no_pair : (x y : ℕ) → begins_pair x ≡ false → None ≡ velthuis_letter (x ∷ y ∷ [])
unfolding velthuis_table
no_pair x y fails =
    no_letter may_be_pair (x ∷ y ∷ []) refl (no_capital may_be_pair (x ∷ y ∷ []) refl refl refl fails) fails
