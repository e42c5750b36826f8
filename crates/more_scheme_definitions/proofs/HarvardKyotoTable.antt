-- What the table of Harvard-Kyoto shows: by a test of its fifty spellings that the prover computes, and by cases on the bytes of a spelling.
use Rattle.std.proofs.Common.{◌≡◌, ℕ, ◌+◌, ◌<◌, ◌≤◌, Bool, true, false, not, List, [], ◌∷◌, ◌++◌, length, get_or, Some, None, is_some, eqb, arith, ap, ◌∙◌, sym, refl}
use Rattle.text_definitions.specs.Letters.{IsLetter}
use Rattle.text_definitions.specs.Longest.{spelling_of_letter, or_shorter, has_length}
use Rattle.text_definitions.proofs.Tables.{passes_below}
use Rattle.text_definitions.proofs.PrintedSpellings.{Separates}
use Rattle.more_scheme_definitions.specs.HarvardKyoto.{harvard_kyoto_table, harvard_kyoto_letter, harvard_kyoto_front}
use Rattle.more_scheme_definitions.proofs.SpelledTables.{no_spelling, spelled_letter, stands, letter_stands, skip, takes, ReadsLongest, separates, keeps_first}

-- a spelling has one or two bytes, the first of which is no separator
abbrev fits : List ℕ → Bool
fits [] = false
fits (x ∷ []) = not (eqb x 95)
fits (x ∷ y ∷ []) = not (eqb x 95)
fits (x ∷ y ∷ z ∷ rest) = false

fifty : length harvard_kyoto_table ≡ 50
unfolding harvard_kyoto_table
fifty = refl

all_fit : passes_below 50 (λ k. fits (get_or harvard_kyoto_table k [])) ≡ true
unfolding harvard_kyoto_table
all_fit = refl

all_stand : passes_below 50 (stands harvard_kyoto_letter harvard_kyoto_table) ≡ true
unfolding harvard_kyoto_table harvard_kyoto_letter
all_stand = refl

-- what does not fit is no spelling
none_by : (bytes : List ℕ) → fits bytes ≡ false → harvard_kyoto_letter bytes ≡ None
unfolding harvard_kyoto_letter
none_by bytes h = no_spelling harvard_kyoto_table fits fifty all_fit bytes h

pub is_letter : (bytes : List ℕ) (n : ℕ) → harvard_kyoto_letter bytes ≡ Some n → IsLetter n
unfolding harvard_kyoto_letter
is_letter bytes n h = spelled_letter harvard_kyoto_table fifty bytes n h

-- no spelling begins with the separator
pub never : (rest : List ℕ) → harvard_kyoto_front (95 ∷ rest) ≡ None
unfolding harvard_kyoto_front
never [] = skip (harvard_kyoto_letter (95 ∷ [])) (none_by (95 ∷ []) refl) 1 _ ∙ skip (harvard_kyoto_letter (95 ∷ [])) (none_by (95 ∷ []) refl) 1 None
never (y ∷ rest) = skip (harvard_kyoto_letter (95 ∷ y ∷ [])) (none_by (95 ∷ y ∷ []) refl) 2 _ ∙ skip (harvard_kyoto_letter (95 ∷ [])) (none_by (95 ∷ []) refl) 1 None

alone : (n : ℕ) (spelling : List ℕ) → harvard_kyoto_letter spelling ≡ Some n → harvard_kyoto_front spelling ≡ Some (n, length spelling)
unfolding harvard_kyoto_front
alone n [] is = absurd (cc (is, none_by [] refl))
alone n (x ∷ []) is = takes (harvard_kyoto_letter (x ∷ [])) n is 1 _
alone n (x ∷ y ∷ []) is = takes (harvard_kyoto_letter (x ∷ y ∷ [])) n is 2 _
alone n (x ∷ y ∷ z ∷ more) is = absurd (cc (is, none_by (x ∷ y ∷ z ∷ more) refl))

after : (n : ℕ) (spelling : List ℕ) (byte : ℕ) (rest : List ℕ) → harvard_kyoto_letter spelling ≡ Some n → harvard_kyoto_front (spelling ++ byte ∷ rest) ≡ or_shorter (harvard_kyoto_letter (spelling ++ byte ∷ [])) (length spelling + 1) (Some (n, length spelling))
unfolding harvard_kyoto_front
after n [] byte rest is = absurd (cc (is, none_by [] refl))
after n (x ∷ []) byte rest is = ap (or_shorter (harvard_kyoto_letter (x ∷ byte ∷ [])) 2) (takes (harvard_kyoto_letter (x ∷ [])) n is 1 None)
after n (x ∷ y ∷ []) byte rest is =
    takes (harvard_kyoto_letter (x ∷ y ∷ [])) n is 2 _
    ∙ sym (skip (harvard_kyoto_letter (x ∷ y ∷ byte ∷ [])) (none_by (x ∷ y ∷ byte ∷ []) refl) 3 (Some (n, 2)))
after n (x ∷ y ∷ z ∷ more) byte rest is = absurd (cc (is, none_by (x ∷ y ∷ z ∷ more) refl))

pub longest_harvard_kyoto : ReadsLongest harvard_kyoto_letter harvard_kyoto_front
longest_harvard_kyoto = record { never = never; alone = alone; after = after }

-- what Harvard-Kyoto prints is read as the same word
pub separates_harvard_kyoto : Separates harvard_kyoto_front (spelling_of_letter harvard_kyoto_table)
separates_harvard_kyoto = separates harvard_kyoto_letter harvard_kyoto_front longest_harvard_kyoto harvard_kyoto_table all_stand

pub harvard_kyoto_some : (n : ℕ) → IsLetter n → 0 < length (spelling_of_letter harvard_kyoto_table n)
harvard_kyoto_some n l = (letter_stands harvard_kyoto_letter harvard_kyoto_table all_stand n l).some

-- a spelling of two bytes or more has no longer one
pub harvard_kyoto_not_lengthened : (spelling : List ℕ) (byte : ℕ) → 2 ≤ length spelling → harvard_kyoto_letter (spelling ++ byte ∷ []) ≡ None
harvard_kyoto_not_lengthened [] byte h = absurd (omega arith)
harvard_kyoto_not_lengthened (x ∷ []) byte h = absurd (omega arith)
harvard_kyoto_not_lengthened (x ∷ y ∷ []) byte h = none_by (x ∷ y ∷ byte ∷ []) refl
harvard_kyoto_not_lengthened (x ∷ y ∷ z ∷ rest) byte h = none_by (x ∷ y ∷ z ∷ rest ++ byte ∷ []) refl

-- whether the first spelling keeps its length before the second one
pub harvard_kyoto_keeps_first : (n : ℕ) (first second : List ℕ) → IsLetter n → first ≡ spelling_of_letter harvard_kyoto_table n → 0 < length second → has_length (harvard_kyoto_front (first ++ second)) (length first) ≡ not (is_some (harvard_kyoto_letter (first ++ get_or second 0 0 ∷ [])))
harvard_kyoto_keeps_first = keeps_first harvard_kyoto_letter harvard_kyoto_front longest_harvard_kyoto harvard_kyoto_table all_stand
