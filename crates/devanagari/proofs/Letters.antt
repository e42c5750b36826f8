-- One more letter of a word that is printed: the UTF-8 of its code points, and then that of the rest.
use Rattle.std.proofs.Common.{◌≡◌, ℕ, ◌+◌, ◌<◌, Bool, List, ◌∷◌, ◌++◌, length, get_or, drop, encode_utf8_all, ap, ◌∙◌, refl, true, false}
use Rattle.std.proofs.lemmas.List.{at_drop_more}
use Rattle.std.proofs.lemmas.Str.{encodes-append}
use Rattle.text_definitions.specs.Devanagari.{is_consonant, points_of_letter, points_of_word}

by_letter : (bare : Bool) (letter : ℕ) (word : List ℕ) → points_of_word bare (letter ∷ word) ≡ points_of_letter bare letter ++ points_of_word (is_consonant letter) word
by_letter true letter word = refl
by_letter false letter word = refl

pub points_more : (word : List ℕ) (i : ℕ) (bare : Bool) → i < length word → encode_utf8_all (points_of_word bare (drop i word)) ≡ encode_utf8_all (points_of_letter bare (get_or word i 0)) ++ encode_utf8_all (points_of_word (is_consonant (get_or word i 0)) (drop (i + 1) word))
points_more word i bare below =
    let letter = get_or word i 0 in
    let rest = drop (i + 1) word in
    ap encode_utf8_all (at_drop_more (points_of_word bare) word i 0 below ∙ by_letter bare letter rest)
    ∙ encodes-append (points_of_letter bare letter) (points_of_word (is_consonant letter) rest)
