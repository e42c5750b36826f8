-- Tables of fifty spellings that are read longest first: what is shown of one such table, from how the spelling at the front of a text
-- depends on one more byte.
use Rattle.std.proofs.Common.{◌≡◌, ℕ, suc, ◌+◌, ◌-◌, ◌<◌, ◌≤◌, Bool, true, false, not, cond, ◌&&◌, List, [], ◌∷◌, ◌++◌, length, get_or, Option, Some, None, is_some, is_none, inl, inr, arith, ap, ◌∙◌, sym, subst, refl}
use Rattle.std.specs.Str.{bytes_eq}
use Rattle.std.specs.Cmp.Lexicographic.{bytes_decides}
use Rattle.std.proofs.lemmas.Bool.{cases_Bool}
use Rattle.std.proofs.lemmas.Bool.Decides.{nat_tests}
use Rattle.std.proofs.lemmas.Option.{same_Some}
use Rattle.text_definitions.specs.Letters.{IsLetter}
use Rattle.text_definitions.specs.Longest.{spelling_from, spelling_of_letter, or_shorter, has_length, separator}
use Rattle.text_definitions.proofs.Bytes.{is_the, the_from}
use Rattle.text_definitions.proofs.Tables.{passes_below, passes_at}
use Rattle.text_definitions.proofs.PrintedSpellings.{Separates}

-- the place of a spelling that is found, and the spelling
pub record IsSpelling (code : ℕ) (table : List (List ℕ)) (bytes : List ℕ) (n : ℕ) : Type 0 where
  pub low : code ≤ n
  pub high : n < code + length table
  pub is : get_or table (n - code) [] ≡ bytes

first_spelling : (code : ℕ) (entry : List ℕ) (table : List (List ℕ)) (bytes : List ℕ) (n : ℕ) → code ≡ n → entry ≡ bytes → IsSpelling code (entry ∷ table) bytes n
first_spelling code entry table bytes n at same =
    let none : n - code ≡ 0 = omega arith in
    record { low = omega arith; high = omega arith; is = ap (λ k. get_or (entry ∷ table) k []) none ∙ same }

later_spelling : (code : ℕ) (entry : List ℕ) (table : List (List ℕ)) (bytes : List ℕ) (n : ℕ) → IsSpelling (code + 1) table bytes n → IsSpelling code (entry ∷ table) bytes n
later_spelling code entry table bytes n found =
    let more : n - code ≡ suc (n - (code + 1)) = omega (arith, found.low) in
    record { low = omega (arith, found.low); high = omega (arith, found.high); is = ap (λ k. get_or (entry ∷ table) k []) more ∙ found.is }

pub spelling_found : (code : ℕ) (table : List (List ℕ)) (bytes : List ℕ) (n : ℕ) → spelling_from code table bytes ≡ Some n → IsSpelling code table bytes n
spelling_found code [] bytes n h = absurd (cc)
spelling_found code (entry ∷ table) bytes n h =
    let rest = spelling_from (code + 1) table bytes in
    elim (cases_Bool (bytes_eq entry bytes)) [
      | inl same ↦ first_spelling code entry table bytes n (same_Some code n (sym (ap (λ b. cond b (Some code) rest) same) ∙ h)) ((bytes_decides entry bytes).0 same)
      | inr other ↦ later_spelling code entry table bytes n (spelling_found (code + 1) table bytes n (sym (ap (λ b. cond b (Some code) rest) other) ∙ h))
    ]

-- what passes a test is told from what does not
differ : (b : Bool) → b ≡ true → b ≡ false → (found : Option ℕ) → found ≡ None
differ true h k found = absurd (cc)
differ false h k found = absurd (cc)

none_unless : (found : Option ℕ) → ((n : ℕ) → found ≡ Some n → found ≡ None) → found ≡ None
none_unless None h = refl
none_unless (Some n) h = h n refl

-- where each spelling of the table passes the test, what does not pass it is no spelling
pub no_spelling : (table : List (List ℕ)) (test : List ℕ → Bool) → length table ≡ 50 → passes_below 50 (λ k. test (get_or table k [])) ≡ true → (bytes : List ℕ) → test bytes ≡ false → spelling_from 1 table bytes ≡ None
no_spelling table test fifty all bytes fails =
    none_unless (spelling_from 1 table bytes) (λ n e.
    let found = spelling_found 1 table bytes n e in
    let passed = passes_at 50 (λ k. test (get_or table k [])) all (n - 1) (omega (arith, found.low, found.high, fifty)) in
    differ (test bytes) (sym (ap test found.is) ∙ passed) fails (spelling_from 1 table bytes))

-- what is spelled is a letter
pub spelled_letter : (table : List (List ℕ)) → length table ≡ 50 → (bytes : List ℕ) (n : ℕ) → spelling_from 1 table bytes ≡ Some n → IsLetter n
spelled_letter table fifty bytes n h =
    let found = spelling_found 1 table bytes n h in
    (found.low, omega (arith, found.high, fifty))

-- a letter's spelling is some bytes, is read as this letter, and is no spelling with a separator after it
pub record Stands (letter : List ℕ → Option ℕ) (n : ℕ) (spelling : List ℕ) : Type 0 where
  pub some : 0 < length spelling
  pub is_read : letter spelling ≡ Some n
  pub separated : letter (spelling ++ 95 ∷ []) ≡ None

abbrev some_bytes : List ℕ → Bool
some_bytes [] = false
some_bytes (byte ∷ bytes) = true

-- the test of this for the letter k + 1
abbrev pub stands : (List ℕ → Option ℕ) → List (List ℕ) → ℕ → Bool
stands letter table k =
    let spelling = spelling_of_letter table (k + 1) in
    some_bytes spelling && is_the (letter spelling) (k + 1) && is_none (letter (spelling ++ 95 ∷ []))

parts : (a b c : Bool) → a && b && c ≡ true → (a ≡ true) × (b ≡ true) × (c ≡ true)
parts true true c h = (refl, refl, h)
parts true false c h = absurd (cc)
parts false b c h = absurd (cc)

none_from : (found : Option ℕ) → is_none found ≡ true → found ≡ None
none_from None h = refl
none_from (Some n) h = absurd (cc)

some_from : (bytes : List ℕ) → some_bytes bytes ≡ true → 0 < length bytes
some_from [] h = absurd (cc)
some_from (byte ∷ bytes) h = omega arith

-- so it is for each letter of a table that passes the test
pub letter_stands : (letter : List ℕ → Option ℕ) (table : List (List ℕ)) → passes_below 50 (stands letter table) ≡ true → (n : ℕ) → IsLetter n → Stands letter n (spelling_of_letter table n)
letter_stands letter table all n l =
    let at : n - 1 + 1 ≡ n = omega arith in
    let h = parts _ _ _ (passes_at 50 (stands letter table) all (n - 1) (omega arith)) in
    subst (λ m. Stands letter m (spelling_of_letter table m)) at (record { some = some_from _ h.0; is_read = the_from _ _ h.1; separated = none_from _ h.2 })

-- how the longest spelling at the front is found
pub twice : (found : Option ℕ) (len : ℕ) (other : Option (ℕ × ℕ)) → or_shorter found len (or_shorter found len other) ≡ or_shorter found len other
twice None len other = refl
twice (Some n) len other = refl

pub skip : (found : Option ℕ) → found ≡ None → (len : ℕ) (other : Option (ℕ × ℕ)) → or_shorter found len other ≡ other
skip found h len other = ap (λ f. or_shorter f len other) h

pub takes : (found : Option ℕ) (n : ℕ) → found ≡ Some n → (len : ℕ) (other : Option (ℕ × ℕ)) → or_shorter found len other ≡ Some (n, len)
takes found n h len other = ap (λ f. or_shorter f len other) h

keeps_length : (longer : Option ℕ) (n len : ℕ) → has_length (or_shorter longer (len + 1) (Some (n, len))) len ≡ not (is_some longer)
keeps_length None n len = grind (arith, nat_tests)
keeps_length (Some m) n len = grind (arith, nat_tests)

not_some : (found : Option ℕ) → not (is_some found) ≡ true → found ≡ None
not_some None h = refl
not_some (Some n) h = absurd (cc)

-- Spellings that are read longest first: what stands at the front of a spelling with more after it depends on the first byte after it.
pub record ReadsLongest (letter : List ℕ → Option ℕ) (front : List ℕ → Option (ℕ × ℕ)) : Type 0 where
  pub never : (rest : List ℕ) → front (95 ∷ rest) ≡ None
  pub alone : (n : ℕ) (spelling : List ℕ) → letter spelling ≡ Some n → front spelling ≡ Some (n, length spelling)
  pub after : (n : ℕ) (spelling : List ℕ) (byte : ℕ) (rest : List ℕ) → letter spelling ≡ Some n → front (spelling ++ byte ∷ rest) ≡ or_shorter (letter (spelling ++ byte ∷ [])) (length spelling + 1) (Some (n, length spelling))

module _ (letter : List ℕ → Option ℕ) (front : List ℕ → Option (ℕ × ℕ)) (longest : ReadsLongest letter front) where
  -- the longest spelling at the front has the length of the first one, exactly where the next byte makes no longer one
  ends_with_first : (n : ℕ) (spelling : List ℕ) (byte : ℕ) (rest : List ℕ) → Stands letter n spelling → has_length (front (spelling ++ byte ∷ rest)) (length spelling) ≡ not (is_some (letter (spelling ++ byte ∷ [])))
  ends_with_first n spelling byte rest h =
      ap (λ f. has_length f (length spelling)) (longest.after n spelling byte rest h.is_read) ∙ keeps_length _ n (length spelling)

  -- the first letter is found before the second one, with a separator where one is put
  found_before : (n : ℕ) (left right rest : List ℕ) → Stands letter n left → 0 < length right → front (left ++ (separator front left right ++ right ++ rest)) ≡ Some (n, length left)
  found_before n left [] rest h some = absurd (omega arith)
  found_before n left (byte ∷ right) rest h some =
      by_gap (has_length (front (left ++ byte ∷ right)) (length left)) (ends_with_first n left byte right h)
    where
      by_gap : (gap : Bool) → gap ≡ not (is_some (letter (left ++ byte ∷ []))) → front (left ++ (cond gap [] (95 ∷ []) ++ byte ∷ right ++ rest)) ≡ Some (n, length left)
      by_gap true e = longest.after n left byte (right ++ rest) h.is_read ∙ ap (λ f. or_shorter f (length left + 1) (Some (n, length left))) (not_some _ (sym e))
      by_gap false e = longest.after n left 95 ((byte ∷ right) ++ rest) h.is_read ∙ ap (λ f. or_shorter f (length left + 1) (Some (n, length left))) h.separated

  -- so what is printed by such a table is read as the same word
  pub separates : (table : List (List ℕ)) → passes_below 50 (stands letter table) ≡ true → Separates front (spelling_of_letter table)
  separates table all = record {
    never = longest.never;
    some = λ n l. (letter_stands letter table all n l).some;
    alone = λ n l. longest.alone n _ (letter_stands letter table all n l).is_read;
    before = λ n m rest l k. found_before n (spelling_of_letter table n) (spelling_of_letter table m) rest (letter_stands letter table all n l) (letter_stands letter table all m k).some;
  }

  -- whether the first spelling keeps its length before the second one
  pub keeps_first : (table : List (List ℕ)) → passes_below 50 (stands letter table) ≡ true → (n : ℕ) (first second : List ℕ) → IsLetter n → first ≡ spelling_of_letter table n → 0 < length second → has_length (front (first ++ second)) (length first) ≡ not (is_some (letter (first ++ get_or second 0 0 ∷ [])))
  keeps_first table all n first [] l is some = absurd (omega arith)
  keeps_first table all n first (byte ∷ second) l is some = ends_with_first n first byte second (subst (Stands letter n) (sym is) (letter_stands letter table all n l))
