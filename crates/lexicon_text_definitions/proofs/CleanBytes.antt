-- The bytes of a lexicon's lines are ASCII, and none is a line end: each part's bytes are, by the table of letters, by the
-- words of tags, and by the walk over a grammar's text.
use Rattle.std.proofs.Common.{◌≡◌, ℕ, zero, suc, ◌+◌, ◌-◌, ◌<◌, ◌≤◌, inl, inr, Bool, true, false, cond, not, ◌&&◌, ◌||◌, nat_lt, nat_le, ◌==◌, Option, Some, None, List, [], ◌∷◌, ◌++◌, map, eqb, get_or, refl, ◌∙◌, ap, subst, arith}
use Rattle.std.specs.List.{AllByRecursion, list_all}
use Rattle.std.specs.Str.{is_utf8}
use Rattle.std.proofs.lemmas.Bool.{and_parts, and_from, or_cases, or_left, ltb-true, leb-true, eqb-true, lt-ltb, ne_eqb, not_from_false, not-true}
use Rattle.std.proofs.lemmas.Str.{IsUtf8-from_ascii, is_utf8-from_IsUtf8}
use Rattle.std.proofs.lemmas.List.Folds.{list_all-append}
use Rattle.std.proofs.lemmas.List.Elements.{recursion_from_All}
use Rattle.text_definitions.specs.Letters.{IsLetter}
use Rattle.text_definitions.specs.Words.{IsWord}
use Rattle.text_definitions.specs.Spellings.{byte_of_letter}
use Rattle.text_definitions.specs.Slp1.{slp1_table, slp1_of_word}
use Rattle.text_definitions.proofs.Tables.{passes_below, passes_at}
use Rattle.lexicon_definitions.specs.Tags.{IsOneOf, IsTagText, genders, numbers, cases, tenses, voices, persons, lone_words}
use Rattle.lexicon_definitions.specs.GrammarTexts.{is_name_byte, is_blank}
use Rattle.lexicon_definitions.specs.GrammarFaults.{Walk, walk_start, is_small_letter, may_follow_item, may_stand, after_byte, fault_from, syntax_fault}
use Rattle.lexicon_definitions.specs.Lexicons.{IsPhaseName}
use Rattle.list_laws.proofs.Marks.{is_free}

-- a byte that is ASCII and no line end
abbrev pub is_clean : ℕ → Bool
is_clean byte = nat_lt byte 128 && not (byte == 10)

abbrev pub IsClean : List ℕ → Type 0
IsClean text = list_all is_clean text ≡ true

pub clean_append : (left right : List ℕ) → IsClean left → IsClean right → IsClean (left ++ right)
clean_append left right h k = list_all-append is_clean left right ∙ and_from _ _ h k

clean_cons : (byte : ℕ) (text : List ℕ) → is_clean byte ≡ true → IsClean text → IsClean (byte ∷ text)
clean_cons byte text h k = and_from _ _ h k

clean_by : (byte : ℕ) → 10 < byte → byte < 128 → is_clean byte ≡ true
clean_by byte l h = and_from _ _ (lt-ltb byte 128 h) (not_from_false (eqb byte 10) (ne_eqb byte 10 (λ e. omega arith)))

-- ---- what clean bytes are

ascii_at : (text : List ℕ) → IsClean text → (i : ℕ) → get_or text i 0 < 128
ascii_at [] h i = omega arith
ascii_at (byte ∷ text) h zero = ltb-true byte 128 (and_parts _ _ (and_parts (is_clean byte) (list_all is_clean text) h).0).0
ascii_at (byte ∷ text) h (suc i) = ascii_at text (and_parts (is_clean byte) (list_all is_clean text) h).1 i

pub clean_utf8 : (text : List ℕ) → IsClean text → is_utf8 text ≡ true
clean_utf8 text h = is_utf8-from_IsUtf8 text (IsUtf8-from_ascii text (ascii_at text h))

pub clean_free : (text : List ℕ) → IsClean text → is_free 10 text ≡ true
clean_free [] h = refl
clean_free (byte ∷ text) h =
    let parts = and_parts (is_clean byte) (list_all is_clean text) h in
    let other = not-true (eqb byte 10) (and_parts (nat_lt byte 128) (not (byte == 10)) parts.0).1 in
    ap (λ test. cond test false (is_free 10 text)) other ∙ clean_free text parts.1

-- ---- names

range_clean : (low high byte : ℕ) → 10 < low → high < 128 → (nat_le low byte && nat_le byte high) ≡ true → is_clean byte ≡ true
range_clean low high byte l h test =
    let parts = and_parts (nat_le low byte) (nat_le byte high) test in
    let above : low ≤ byte = leb-true low byte parts.0 in
    let below : byte ≤ high = leb-true byte high parts.1 in
    clean_by byte (omega arith) (omega arith)

name_byte_bounds : (byte : ℕ) → is_name_byte byte ≡ true → is_clean byte ≡ true
name_byte_bounds byte h =
    elim (or_cases ((nat_le 97 byte && nat_le byte 122) || (nat_le 48 byte && nat_le byte 57)) (byte == 95) h) [
      | inl both ↦ elim (or_cases (nat_le 97 byte && nat_le byte 122) (nat_le 48 byte && nat_le byte 57) both) [
        | inl letter ↦ range_clean 97 122 byte (omega arith) (omega arith) letter
        | inr digit ↦ range_clean 48 57 byte (omega arith) (omega arith) digit
      ]
      | inr low ↦ let same = eqb-true byte 95 low in clean_by byte (omega arith) (omega arith)
    ]

names_clean : (bytes : List ℕ) → list_all is_name_byte bytes ≡ true → IsClean bytes
names_clean [] h = refl
names_clean (byte ∷ bytes) h =
    let parts = and_parts (is_name_byte byte) (list_all is_name_byte bytes) h in
    clean_cons byte bytes (name_byte_bounds byte parts.0) (names_clean bytes parts.1)

pub clean_name : (name : List ℕ) → IsPhaseName name → IsClean name
clean_name [] h = refl
clean_name (byte ∷ bytes) h = clean_cons byte bytes (name_byte_bounds byte (or_left _ _ (or_left _ _ h.0))) (names_clean bytes h.2)

-- ---- words

word_by : (table : List ℕ) → passes_below 50 (λ k. is_clean (byte_of_letter table (k + 1))) ≡ true → (word : List ℕ) → AllByRecursion IsLetter word → IsClean (map (byte_of_letter table) word)
word_by table h [] w = refl
word_by table h (n ∷ word) w =
    let below : n - 1 < 50 = omega (arith, w.0.0, w.0.1) in
    let at : n - 1 + 1 ≡ n = omega (arith, w.0.0) in
    let test = passes_at 50 (λ k. is_clean (byte_of_letter table (k + 1))) h (n - 1) below in
    clean_cons (byte_of_letter table n) (map (byte_of_letter table) word) (subst (λ k. is_clean (byte_of_letter table k) ≡ true) at test) (word_by table h word w.1)

pub clean_word : (word : List ℕ) → IsWord word → IsClean (slp1_of_word word)
unfolding slp1_of_word slp1_table
clean_word word w = word_by slp1_table refl word (recursion_from_All IsLetter word w)

-- ---- tags

clean_one : (words : List (List ℕ)) (text : List ℕ) → list_all (list_all is_clean) words ≡ true → IsOneOf words text → IsClean text
clean_one [] text f h = absurd h
clean_one (word ∷ words) text f (inl e) = ap (list_all is_clean) e ∙ (and_parts (list_all is_clean word) (list_all (list_all is_clean) words) f).0
clean_one (word ∷ words) text f (inr h) = clean_one words text (and_parts (list_all is_clean word) (list_all (list_all is_clean) words) f).1 h

dotted : (left right : List ℕ) → IsClean left → IsClean right → IsClean (left ++ 46 ∷ right)
dotted left right h k = clean_append left (46 ∷ right) h (clean_cons 46 right refl k)

pub clean_tag : (text : List ℕ) → IsTagText text → IsClean text
clean_tag text (inl h) =
    ap (list_all is_clean) h.is_text
    ∙ dotted h.gender (h.number ++ 46 ∷ h.gcase) (clean_one genders h.gender refl h.is_gender)
    (dotted h.number h.gcase (clean_one numbers h.number refl h.is_number) (clean_one cases h.gcase refl h.is_case))
clean_tag text (inr (inl h)) =
    ap (list_all is_clean) h.is_text
    ∙ dotted h.tense (h.voice ++ 46 ∷ (h.person ++ 46 ∷ h.number)) (clean_one tenses h.tense refl h.is_tense)
    (dotted h.voice (h.person ++ 46 ∷ h.number) (clean_one voices h.voice refl h.is_voice)
    (dotted h.person h.number (clean_one persons h.person refl h.is_person) (clean_one numbers h.number refl h.is_number)))
clean_tag text (inr (inr h)) = clean_one lone_words text refl h

-- ---- grammar texts

same_clean : (byte other : ℕ) → is_clean other ≡ true → (byte == other) ≡ true → is_clean byte ≡ true
same_clean byte other c h = ap is_clean (eqb-true byte other h) ∙ c

follower_clean : (walk : Walk) (byte : ℕ) → may_follow_item walk byte ≡ true → is_clean byte ≡ true
follower_clean walk byte h =
    elim (or_cases _ _ (and_parts _ _ h).1) [
      | inl first ↦ elim (or_cases _ _ first) [
        | inl second ↦ elim (or_cases _ _ second) [
          | inl third ↦ elim (or_cases _ _ third) [ inl e ↦ same_clean byte 124 refl e | inr e ↦ same_clean byte 42 refl e ]
          | inr e ↦ same_clean byte 43 refl e
        ]
        | inr e ↦ same_clean byte 63 refl e
      ]
      | inr close ↦ same_clean byte 41 refl (and_parts _ _ close).0
    ]

other_clean : (walk : Walk) (byte : ℕ) → (is_small_letter byte || is_blank byte || byte == 40 || may_follow_item walk byte) ≡ true → is_clean byte ≡ true
other_clean walk byte h =
    elim (or_cases _ _ h) [
      | inl first ↦ elim (or_cases _ _ first) [
        | inl second ↦ elim (or_cases _ _ second) [
          | inl letter ↦ name_byte_bounds byte (or_left _ _ (or_left _ _ letter))
          | inr blank ↦ same_clean byte 32 refl blank
        ]
        | inr open_bracket ↦ same_clean byte 40 refl open_bracket
      ]
      | inr follows ↦ follower_clean walk byte follows
    ]

stands_by : (walk : Walk) (byte : ℕ) (short : Bool) (test : Bool) → (is_name_byte byte && nat_lt 0 walk.name_length) ≡ test
    → cond test short (is_small_letter byte || is_blank byte || byte == 40 || may_follow_item walk byte) ≡ true → is_clean byte ≡ true
stands_by walk byte short true e h = name_byte_bounds byte (and_parts _ _ e).0
stands_by walk byte short false e h = other_clean walk byte h

stands_clean : (walk : Walk) (byte : ℕ) → may_stand walk byte ≡ true → is_clean byte ≡ true
stands_clean walk byte h = stands_by walk byte (nat_lt walk.name_length 16) (is_name_byte byte && nat_lt 0 walk.name_length) refl h

passes : (test : Bool) (rest : Option ℕ) (at : ℕ) → cond test rest (Some at) ≡ None → (test ≡ true) × (rest ≡ None)
passes true rest at h = (refl, h)
passes false rest at h = absurd (cc)

walk_clean : (walk : Walk) (at : ℕ) (text : List ℕ) → fault_from walk at text ≡ None → IsClean text
walk_clean walk at [] h = refl
walk_clean walk at (byte ∷ text) h =
    let parts = passes (may_stand walk byte) (fault_from (after_byte walk byte) (at + 1) text) at h in
    clean_cons byte text (stands_clean walk byte parts.0) (walk_clean (after_byte walk byte) (at + 1) text parts.1)

-- a text without a syntax fault
pub clean_grammar : (text : List ℕ) → syntax_fault text ≡ None → IsClean text
clean_grammar text h = walk_clean walk_start 0 text h
