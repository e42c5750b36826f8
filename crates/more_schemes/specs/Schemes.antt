-- The schemes of this crate, as the definitions have them.
use Rattle.std.specs.Prelude.{ℕ, List, Option}
use Rattle.more_scheme_definitions.specs.HarvardKyoto.{harvard_kyoto_table, harvard_kyoto_letter, harvard_kyoto_front}
use Rattle.more_scheme_definitions.specs.Iast.{iast_table, iast_letter, iast_front}
use Rattle.more_schemes.specs.declared.scheme.Scheme.{Scheme}
use Rattle.more_schemes.specs.declared.scheme.Scheme.TheVariants.{HarvardKyoto, Iast}

-- the spellings of the fifty letters, by code from 1
abbrev pub table_in : Scheme → List (List ℕ)
table_in HarvardKyoto = harvard_kyoto_table
table_in Iast = iast_table

-- the letter whose spelling the bytes are
abbrev pub letter_in : Scheme → List ℕ → Option ℕ
letter_in HarvardKyoto = harvard_kyoto_letter
letter_in Iast = iast_letter

-- the letter of the longest spelling that begins the text, and the spelling's length
abbrev pub front_in : Scheme → List ℕ → Option (ℕ × ℕ)
front_in HarvardKyoto = harvard_kyoto_front
front_in Iast = iast_front
