-- A composed text has at most eight bytes for each byte of the text: NFC has at most two characters for each, and a character four bytes.
use Rattle.std.proofs.Common.{ℕ, ◌*◌, ◌≤◌, List, [], ◌∷◌, length, length-append, IsUtf8, encode_utf8, encode_utf8_all, arith}
use Rattle.std.specs.Str.{chars}
use Rattle.std.proofs.lemmas.Str.{length-encode, len_utf8_bounds}
use Rattle.unicode_normalization.specs.Forms.{Nfc, nfc}
use Rattle.unicode_normalization.proofs.LengthLemmas.{length-normalize-chars}
use Rattle.more_scheme_definitions.specs.Iast.{composed}

four_bytes : (points : List ℕ) → length (encode_utf8_all points) ≤ 4 * length points
four_bytes [] = omega arith
four_bytes (point ∷ points) = omega (arith, four_bytes points, length-append (encode_utf8 point) (encode_utf8_all points), length-encode point, (len_utf8_bounds point).1)

pub length-composed : (text : List ℕ) → IsUtf8 text → length (composed text) ≤ 8 * length text
unfolding composed
length-composed text utf8 = omega (arith, four_bytes (nfc (chars text)), length-normalize-chars Nfc text utf8)
