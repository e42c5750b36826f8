-- What the table of IAST shows: by a test of its fifty spellings that the prover computes, and by cases on the bytes of a spelling.
use Rattle.std.proofs.Common.{◌≡◌, ℕ, ◌+◌, ◌<◌, ◌≤◌, Bool, true, false, not, ◌&&◌, List, [], ◌∷◌, ◌++◌, length, get_or, Some, None, is_some, eqb, arith, ap, ◌∙◌, sym, refl}
use Rattle.std.specs.Char.{encode_utf8}
use Rattle.text_definitions.specs.Letters.{IsLetter}
use Rattle.text_definitions.specs.Longest.{spelling_of_letter, or_shorter, front_letter, has_length}
use Rattle.text_definitions.proofs.Tables.{passes_below}
use Rattle.text_definitions.proofs.PrintedSpellings.{Separates}
use Rattle.more_scheme_definitions.specs.Iast.{iast_spellings, iast_table, iast_letter, iast_front}
use Rattle.more_scheme_definitions.proofs.SpelledTables.{no_spelling, spelled_letter, stands, letter_stands, twice, skip, takes, ReadsLongest, separates, keeps_first}

-- a spelling has one to four bytes, of which the first is no separator; it is 225 exactly where there are three or four
abbrev fits : List ℕ → Bool
fits [] = false
fits (x ∷ []) = not (eqb x 95) && not (eqb x 225)
fits (x ∷ y ∷ []) = not (eqb x 95) && not (eqb x 225)
fits (x ∷ y ∷ z ∷ []) = eqb x 225
fits (x ∷ y ∷ z ∷ w ∷ []) = eqb x 225
fits (x ∷ y ∷ z ∷ w ∷ v ∷ rest) = false

-- `unfolding iast_bytes` lets the check compute what some bytes spell
unfoldable pub iast_bytes : Unit {0}
unfolding iast_spellings iast_table iast_letter encode_utf8
iast_bytes = tt

fifty : length iast_table ≡ 50
unfolding iast_spellings iast_table
fifty = refl

all_fit : passes_below 50 (λ k. fits (get_or iast_table k [])) ≡ true
unfolding iast_spellings iast_table encode_utf8
all_fit = refl

all_stand : passes_below 50 (stands iast_letter iast_table) ≡ true
unfolding iast_spellings iast_table iast_letter encode_utf8
all_stand = refl

-- what does not fit is no spelling
none_by : (bytes : List ℕ) → fits bytes ≡ false → iast_letter bytes ≡ None
unfolding iast_letter
none_by bytes h = no_spelling iast_table fits fifty all_fit bytes h

pub is_letter : (bytes : List ℕ) (n : ℕ) → iast_letter bytes ≡ Some n → IsLetter n
unfolding iast_letter
is_letter bytes n h = spelled_letter iast_table fifty bytes n h

-- a spelling of one or two bytes does not begin with 225, and none that is longer begins as it does
not_three : (x y z : ℕ) → eqb x 225 ≡ false → iast_letter (x ∷ y ∷ z ∷ []) ≡ None
not_three x y z h = none_by (x ∷ y ∷ z ∷ []) h

not_four : (x y z w : ℕ) → eqb x 225 ≡ false → iast_letter (x ∷ y ∷ z ∷ w ∷ []) ≡ None
not_four x y z w h = none_by (x ∷ y ∷ z ∷ w ∷ []) h

second_false : (a b : Bool) → not a && not b ≡ true → b ≡ false
second_false true b h = absurd (cc)
second_false false true h = absurd (cc)
second_false false false h = refl

fits_if : (bytes : List ℕ) (n : ℕ) → iast_letter bytes ≡ Some n → (b : Bool) → fits bytes ≡ b → b ≡ true
fits_if bytes n is true e = refl
fits_if bytes n is false e = absurd (cc (is, none_by bytes e))

one_short : (x n : ℕ) → iast_letter (x ∷ []) ≡ Some n → eqb x 225 ≡ false
one_short x n is = second_false (eqb x 95) (eqb x 225) (fits_if (x ∷ []) n is _ refl)

two_short : (x y n : ℕ) → iast_letter (x ∷ y ∷ []) ≡ Some n → eqb x 225 ≡ false
two_short x y n is = second_false (eqb x 95) (eqb x 225) (fits_if (x ∷ y ∷ []) n is _ refl)

-- no spelling begins with the separator
pub never : (rest : List ℕ) → iast_front (95 ∷ rest) ≡ None
unfolding iast_front
never rest = front_none rest
  where
    one : iast_letter (95 ∷ []) ≡ None
    one = none_by (95 ∷ []) refl

    two : (y : ℕ) → iast_letter (95 ∷ y ∷ []) ≡ None
    two y = none_by (95 ∷ y ∷ []) refl

    three : (y z : ℕ) → iast_letter (95 ∷ y ∷ z ∷ []) ≡ None
    three y z = none_by (95 ∷ y ∷ z ∷ []) refl

    four : (y z w : ℕ) → iast_letter (95 ∷ y ∷ z ∷ w ∷ []) ≡ None
    four y z w = none_by (95 ∷ y ∷ z ∷ w ∷ []) refl

    front_none : (more : List ℕ) → front_letter iast_letter 4 (95 ∷ more) ≡ None
    front_none [] = skip _ one 1 _ ∙ skip _ one 1 _ ∙ skip _ one 1 _ ∙ skip _ one 1 None
    front_none (y ∷ []) = skip _ (two y) 2 _ ∙ skip _ (two y) 2 _ ∙ skip _ (two y) 2 _ ∙ skip _ one 1 None
    front_none (y ∷ z ∷ []) = skip _ (three y z) 3 _ ∙ skip _ (three y z) 3 _ ∙ skip _ (two y) 2 _ ∙ skip _ one 1 None
    front_none (y ∷ z ∷ w ∷ more) = skip _ (four y z w) 4 _ ∙ skip _ (three y z) 3 _ ∙ skip _ (two y) 2 _ ∙ skip _ one 1 None

alone : (n : ℕ) (spelling : List ℕ) → iast_letter spelling ≡ Some n → iast_front spelling ≡ Some (n, length spelling)
unfolding iast_front
alone n [] is = absurd (cc (is, none_by [] refl))
alone n (x ∷ []) is = takes (iast_letter (x ∷ [])) n is 1 _
alone n (x ∷ y ∷ []) is = takes (iast_letter (x ∷ y ∷ [])) n is 2 _
alone n (x ∷ y ∷ z ∷ []) is = takes (iast_letter (x ∷ y ∷ z ∷ [])) n is 3 _
alone n (x ∷ y ∷ z ∷ w ∷ []) is = takes (iast_letter (x ∷ y ∷ z ∷ w ∷ [])) n is 4 _
alone n (x ∷ y ∷ z ∷ w ∷ v ∷ more) is = absurd (cc (is, none_by (x ∷ y ∷ z ∷ w ∷ v ∷ more) refl))

after : (n : ℕ) (spelling : List ℕ) (byte : ℕ) (rest : List ℕ) → iast_letter spelling ≡ Some n → iast_front (spelling ++ byte ∷ rest) ≡ or_shorter (iast_letter (spelling ++ byte ∷ [])) (length spelling + 1) (Some (n, length spelling))
unfolding iast_front
after n [] byte rest is = absurd (cc (is, none_by [] refl))
after n (x ∷ []) byte [] is =
    let longer = iast_letter (x ∷ byte ∷ []) in
    twice longer 2 _ ∙ twice longer 2 _ ∙ ap (or_shorter longer 2) (takes (iast_letter (x ∷ [])) n is 1 None)
after n (x ∷ []) byte (z ∷ []) is =
    let longer = iast_letter (x ∷ byte ∷ []) in
    let three = not_three x byte z (one_short x n is) in
    skip _ three 3 _ ∙ skip _ three 3 _ ∙ ap (or_shorter longer 2) (takes (iast_letter (x ∷ [])) n is 1 None)
after n (x ∷ []) byte (z ∷ w ∷ rest) is =
    let longer = iast_letter (x ∷ byte ∷ []) in
    let short = one_short x n is in
    skip _ (not_four x byte z w short) 4 _ ∙ skip _ (not_three x byte z short) 3 _ ∙ ap (or_shorter longer 2) (takes (iast_letter (x ∷ [])) n is 1 None)
after n (x ∷ y ∷ []) byte [] is =
    let longer = iast_letter (x ∷ y ∷ byte ∷ []) in
    twice longer 3 _ ∙ ap (or_shorter longer 3) (takes (iast_letter (x ∷ y ∷ [])) n is 2 _)
after n (x ∷ y ∷ []) byte (w ∷ rest) is =
    let longer = iast_letter (x ∷ y ∷ byte ∷ []) in
    skip _ (not_four x y byte w (two_short x y n is)) 4 _ ∙ ap (or_shorter longer 3) (takes (iast_letter (x ∷ y ∷ [])) n is 2 _)
after n (x ∷ y ∷ z ∷ []) byte rest is =
    ap (or_shorter (iast_letter (x ∷ y ∷ z ∷ byte ∷ [])) 4) (takes (iast_letter (x ∷ y ∷ z ∷ [])) n is 3 _)
after n (x ∷ y ∷ z ∷ w ∷ []) byte rest is =
    takes (iast_letter (x ∷ y ∷ z ∷ w ∷ [])) n is 4 _
    ∙ sym (skip (iast_letter (x ∷ y ∷ z ∷ w ∷ byte ∷ [])) (none_by (x ∷ y ∷ z ∷ w ∷ byte ∷ []) refl) 5 (Some (n, 4)))
after n (x ∷ y ∷ z ∷ w ∷ v ∷ more) byte rest is = absurd (cc (is, none_by (x ∷ y ∷ z ∷ w ∷ v ∷ more) refl))

pub longest_iast : ReadsLongest iast_letter iast_front
longest_iast = record { never = never; alone = alone; after = after }

-- what IAST prints is read as the same word
pub separates_iast : Separates iast_front (spelling_of_letter iast_table)
separates_iast = separates iast_letter iast_front longest_iast iast_table all_stand

pub iast_some : (n : ℕ) → IsLetter n → 0 < length (spelling_of_letter iast_table n)
iast_some n l = (letter_stands iast_letter iast_table all_stand n l).some

-- a spelling of four bytes or more has no longer one
pub iast_not_lengthened : (spelling : List ℕ) (byte : ℕ) → 4 ≤ length spelling → iast_letter (spelling ++ byte ∷ []) ≡ None
iast_not_lengthened [] byte h = absurd (omega arith)
iast_not_lengthened (x ∷ []) byte h = absurd (omega arith)
iast_not_lengthened (x ∷ y ∷ []) byte h = absurd (omega arith)
iast_not_lengthened (x ∷ y ∷ z ∷ []) byte h = absurd (omega arith)
iast_not_lengthened (x ∷ y ∷ z ∷ w ∷ []) byte h = none_by (x ∷ y ∷ z ∷ w ∷ byte ∷ []) refl
iast_not_lengthened (x ∷ y ∷ z ∷ w ∷ v ∷ rest) byte h = none_by (x ∷ y ∷ z ∷ w ∷ v ∷ rest ++ byte ∷ []) refl

-- whether the first spelling keeps its length before the second one
pub iast_keeps_first : (n : ℕ) (first second : List ℕ) → IsLetter n → first ≡ spelling_of_letter iast_table n → 0 < length second → has_length (iast_front (first ++ second)) (length first) ≡ not (is_some (iast_letter (first ++ get_or second 0 0 ∷ [])))
iast_keeps_first = keeps_first iast_letter iast_front longest_iast iast_table all_stand
