-- What is no spelling in IAST or Harvard-Kyoto: bytes that fail a test which each spelling of the table passes.
use Rattle.std.proofs.Common.{◌≡◌, ℕ, Bool, true, false, ◌&&◌, ◌||◌, List, [], ◌∷◌, length, get_or, None, eqb, refl, sym}
use Rattle.text_definitions.proofs.Tables.{passes_below}
use Rattle.more_scheme_definitions.specs.HarvardKyoto.{harvard_kyoto_table, harvard_kyoto_letter}
use Rattle.more_scheme_definitions.specs.Iast.{iast_table, iast_letter}
use Rattle.more_scheme_definitions.proofs.IastTable.{iast_bytes}
use Rattle.more_scheme_definitions.proofs.SpelledTables.{no_spelling}

-- the bytes with which a spelling of two bytes begins
abbrev pub begins_pair : ℕ → Bool
begins_pair x =
    eqb x 196 || eqb x 197 || eqb x 97 || eqb x 107 || eqb x 103 || eqb x 99 || eqb x 106 || eqb x 195 || eqb x 116 || eqb x 100 || eqb x 112 || eqb x 98

-- the spellings of three bytes
abbrev pub is_triple : ℕ → ℕ → ℕ → Bool
is_triple x y z =
    eqb x 225 && ((eqb y 185 && (eqb z 155 || eqb z 157 || eqb z 131 || eqb z 133 || eqb z 173 || eqb z 135 || eqb z 163)) || (eqb y 184 && (eqb z 183 || eqb z 165 || eqb z 141)))

-- the spellings of four bytes
abbrev pub is_quadruple : ℕ → ℕ → ℕ → ℕ → Bool
is_quadruple x y z w = eqb x 225 && ((eqb y 185 && eqb z 173 && eqb w 104) || (eqb y 184 && eqb z 141 && eqb w 104))

abbrev may_be_iast : List ℕ → Bool
may_be_iast [] = true
may_be_iast (x ∷ []) = true
may_be_iast (x ∷ y ∷ []) = begins_pair x
may_be_iast (x ∷ y ∷ z ∷ []) = is_triple x y z
may_be_iast (x ∷ y ∷ z ∷ w ∷ []) = is_quadruple x y z w
may_be_iast (x ∷ y ∷ z ∷ w ∷ v ∷ rest) = true

no_iast : (bytes : List ℕ) → may_be_iast bytes ≡ false → None ≡ iast_letter bytes
unfolding iast_bytes
no_iast bytes fails = sym (no_spelling iast_table may_be_iast refl refl bytes fails)

pub no_pair : (x y : ℕ) → begins_pair x ≡ false → None ≡ iast_letter (x ∷ y ∷ [])
no_pair x y fails = no_iast (x ∷ y ∷ []) fails

pub no_triple : (x y z : ℕ) → is_triple x y z ≡ false → None ≡ iast_letter (x ∷ y ∷ z ∷ [])
no_triple x y z fails = no_iast (x ∷ y ∷ z ∷ []) fails

pub no_quadruple : (x y z w : ℕ) → is_quadruple x y z w ≡ false → None ≡ iast_letter (x ∷ y ∷ z ∷ w ∷ [])
no_quadruple x y z w fails = no_iast (x ∷ y ∷ z ∷ w ∷ []) fails

-- the bytes with which a spelling of two bytes begins in Harvard-Kyoto
abbrev pub begins_harvard_kyoto : ℕ → Bool
begins_harvard_kyoto x =
    eqb x 82 || eqb x 108 || eqb x 97 || eqb x 107 || eqb x 103 || eqb x 99 || eqb x 106 || eqb x 84 || eqb x 68 || eqb x 116 || eqb x 100 || eqb x 112 || eqb x 98

abbrev may_be_harvard_kyoto : List ℕ → Bool
may_be_harvard_kyoto [] = true
may_be_harvard_kyoto (x ∷ []) = true
may_be_harvard_kyoto (x ∷ y ∷ []) = begins_harvard_kyoto x
may_be_harvard_kyoto (x ∷ y ∷ z ∷ rest) = true

pub no_harvard_kyoto_pair : (x y : ℕ) → begins_harvard_kyoto x ≡ false → None ≡ harvard_kyoto_letter (x ∷ y ∷ [])
unfolding harvard_kyoto_table harvard_kyoto_letter
no_harvard_kyoto_pair x y fails = sym (no_spelling harvard_kyoto_table may_be_harvard_kyoto refl refl (x ∷ y ∷ []) fails)
