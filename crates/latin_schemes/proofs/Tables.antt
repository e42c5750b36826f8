-- A table of codes agrees with a table of bytes: by a test of each byte that the prover computes, and then by induction on the text.
use Rattle.std.proofs.Common.{◌≡◌, ℕ, zero, suc, ◌+◌, ◌<◌, ◌≤◌, Bool, true, false, List, [], ◌∷◌, length, map, take, get_or, slice_index, Option, Some, None, Ok, Err, arith, eqb, ap, sym, ◌∙◌, refl}
use Rattle.std.proofs.lemmas.Bool.{eqb-true}
use Rattle.std.proofs.lemmas.List.{take-map, take_all}
use Rattle.text_definitions.specs.Spellings.{NotLetter, with_letter, letter_at, letter_of_byte, word_of_bytes}
use Rattle.text_definitions.proofs.Tables.{passes_below, passes_at}
use Rattle.latin_schemes.specs.Codes.{letter_by_code}

-- the two letters are one, or there is neither
abbrev pub is_same : Option ℕ → Option ℕ → Bool
is_same None None = true
is_same None (Some n) = false
is_same (Some m) None = false
is_same (Some m) (Some n) = eqb m n

pub same_letter : (left right : Option ℕ) → is_same left right ≡ true → left ≡ right
same_letter None None h = refl
same_letter None (Some n) h = absurd (cc)
same_letter (Some m) None h = absurd (cc)
same_letter (Some m) (Some n) h = ap (λ k. Some k) (eqb-true m n h)

-- both tables give the byte the same letter
abbrev pub agrees_at : List ℕ → List ℕ → ℕ → Bool
agrees_at codes table byte = is_same (letter_by_code codes byte) (letter_of_byte table byte)

-- both tables give each byte the same letter
abbrev pub agree : List ℕ → List ℕ → Bool
agree codes table = passes_below 256 (agrees_at codes table)

-- so they do at each byte
pub same_at : (codes table : List ℕ) → agree codes table ≡ true → (byte : ℕ) → byte < 256 → letter_by_code codes byte ≡ letter_of_byte table byte
same_at codes table h byte within = same_letter _ _ (passes_at 256 (agrees_at codes table) h byte within)

-- so a text spells the same word by both
pub same_word : (codes table : List ℕ) → agree codes table ≡ true → (place : ℕ) (text : List ℕ) → ((i : ℕ) → get_or text i 0 < 256) → word_of_bytes (letter_by_code codes) place text ≡ word_of_bytes (letter_of_byte table) place text
same_word codes table h place [] bytes = refl
same_word codes table h place (byte ∷ text) bytes =
    let rest = word_of_bytes (letter_by_code codes) (place + 1) text in
    let same = same_at codes table h byte (bytes 0) in
    ap (λ found. letter_at place found rest) same ∙ ap (letter_at place (letter_of_byte table byte)) (same_word codes table h (place + 1) text (λ i. bytes (suc i)))

-- bytes that are letters, each by the table, spell these letters
pub spelled_word : (letter : ℕ → Option ℕ) (place : ℕ) (bytes word : List ℕ) → map letter bytes ≡ map (λ (n : ℕ). Some n) word → word_of_bytes letter place bytes ≡ Ok word
spelled_word letter place [] [] h = refl
spelled_word letter place [] (n ∷ word) h = absurd (cc)
spelled_word letter place (byte ∷ bytes) [] h = absurd (cc)
spelled_word letter place (byte ∷ bytes) (n ∷ word) h =
    let first : letter byte ≡ Some n = cc in
    let others : map letter bytes ≡ map (λ (n : ℕ). Some n) word = cc in
    ap (λ found. letter_at place found (word_of_bytes letter (place + 1) bytes)) first ∙ ap (with_letter n) (spelled_word letter (place + 1) bytes word others)

-- so does a text all of whose bytes are letters
pub spelled_text : (letter : ℕ → Option ℕ) (bytes : List ℕ) (n : ℕ) (word : List ℕ) → map letter (take n bytes) ≡ map (λ (n : ℕ). Some n) word → length bytes ≤ n → word_of_bytes letter 0 bytes ≡ Ok word
spelled_text letter bytes n word h all =
    spelled_word letter 0 bytes word (ap (map letter) (sym (take_all n bytes all)) ∙ h)

-- and a byte that is no letter, which comes after bytes that are letters, is at fault
pub fault_after : (letter : ℕ → Option ℕ) (place : ℕ) (bytes : List ℕ) (n : ℕ) (word : List ℕ) → map letter (take n bytes) ≡ map (λ (n : ℕ). Some n) word
    → n < length bytes → letter (slice_index bytes n) ≡ None → word_of_bytes letter place bytes ≡ Err (NotLetter (place + n))
fault_after letter place [] n word h within none = absurd (omega (arith, within))
fault_after letter place (byte ∷ bytes) zero word h within none =
    ap (λ found. letter_at place found (word_of_bytes letter (place + 1) bytes)) none ∙ ap (λ k. Err (NotLetter k)) (omega arith)
fault_after letter place (byte ∷ bytes) (suc n) [] h within none = absurd (cc)
fault_after letter place (byte ∷ bytes) (suc n) (m ∷ word) h within none =
    let first : letter byte ≡ Some m = cc in
    let others : map letter (take n bytes) ≡ map (λ (n : ℕ). Some n) word = cc in
    ap (λ found. letter_at place found (word_of_bytes letter (place + 1) bytes)) first
    ∙ ap (with_letter m) (fault_after letter (place + 1) bytes n word others (omega (arith, within)) none)
    ∙ ap (λ k. Err (NotLetter k)) (omega arith)

-- both tables give the first bytes of a text the same letters
pub same_letters : (codes table : List ℕ) → agree codes table ≡ true → (text : List ℕ) → ((i : ℕ) → get_or text i 0 < 256) → map (letter_by_code codes) text ≡ map (letter_of_byte table) text
same_letters codes table h [] bytes = refl
same_letters codes table h (byte ∷ text) bytes =
    let same = same_at codes table h byte (bytes 0) in
    λ i. same i ∷ same_letters codes table h text (λ j. bytes (suc j)) i

-- so bytes that are letters by the codes spell a word of these by the table
pub spelled_front : (codes table : List ℕ) → agree codes table ≡ true → (text : List ℕ) → ((i : ℕ) → get_or text i 0 < 256) → (n : ℕ) (word : List ℕ)
    → map (letter_by_code codes) (take n text) ≡ map (λ (n : ℕ). Some n) word → word_of_bytes (letter_of_byte table) 0 (take n text) ≡ Ok word
spelled_front codes table h text bytes n word e =
    let same = sym (take-map (letter_of_byte table) n text) ∙ ap (take n) (sym (same_letters codes table h text bytes)) ∙ take-map (letter_by_code codes) n text in
    spelled_word (letter_of_byte table) 0 (take n text) word (same ∙ e)
