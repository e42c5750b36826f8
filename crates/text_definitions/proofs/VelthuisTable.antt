-- What the table of Velthuis shows: by tests that the prover computes over the fifty letters, and by cases on the one to three bytes of a spelling.
use Rattle.std.proofs.Common.{◌≡◌, ◌≢◌, ℕ, ◌+◌, ◌-◌, ◌<◌, ◌≤◌, Bool, true, false, not, cond, ◌&&◌, List, [], ◌∷◌, ◌++◌, length, get_or, Option, Some, None, is_some, is_none, eqb, arith, ap, ◌∙◌, sym, subst, refl, rules}
use Rattle.std.proofs.lemmas.Bool.Decides.{nat_tests}
use Rattle.text_definitions.specs.Letters.{IsLetter}
use Rattle.text_definitions.specs.Longest.{spelling_of_letter, or_shorter, has_length, separator}
use Rattle.text_definitions.specs.Velthuis.{velthuis_table, velthuis_capital, velthuis_letter, velthuis_front}
use Rattle.text_definitions.proofs.Tables.{passes_below, passes_at}
use Rattle.text_definitions.proofs.PrintedSpellings.{Separates}
use Rattle.text_definitions.proofs.Bytes.{is_the, the_from}

-- a spelling of three bytes begins with a dot
other_than_dot : (x y z : ℕ) → x ≢ 46 → velthuis_letter (x ∷ y ∷ z ∷ []) ≡ None
unfolding velthuis_table velthuis_capital velthuis_letter
other_than_dot x y z h = search rules

-- no spelling has four bytes
no_longer : (w x y z : ℕ) (rest : List ℕ) → velthuis_letter (w ∷ x ∷ y ∷ z ∷ rest) ≡ None
unfolding velthuis_table velthuis_capital velthuis_letter
no_longer w x y z rest = search rules

-- one to three bytes, and a byte that stands alone is no dot
abbrev pub is_short : List ℕ → Bool
is_short [] = false
is_short (x ∷ []) = not (eqb x 46)
is_short (x ∷ y ∷ []) = true
is_short (x ∷ y ∷ z ∷ []) = true
is_short (w ∷ x ∷ y ∷ z ∷ rest) = false

-- the spelling of the letter k + 1 is short, is read as this letter, and is no spelling with a separator after it
abbrev pub stands : ℕ → Bool
stands k =
    let spelling = spelling_of_letter velthuis_table (k + 1) in
    is_short spelling && is_the (velthuis_letter spelling) (k + 1) && is_none (velthuis_letter (spelling ++ 95 ∷ []))

parts : (a b c : Bool) → a && b && c ≡ true → (a ≡ true) × (b ≡ true) × (c ≡ true)
parts true true c h = (refl, refl, h)
parts true false c h = absurd (cc)
parts false b c h = absurd (cc)

none_from : (found : Option ℕ) → is_none found ≡ true → found ≡ None
none_from None h = refl
none_from (Some n) h = absurd (cc)

pub record Stands (n : ℕ) (spelling : List ℕ) : Type 0 where
  pub short : is_short spelling ≡ true
  pub is_read : velthuis_letter spelling ≡ Some n
  pub separated : velthuis_letter (spelling ++ 95 ∷ []) ≡ None

all_stand : passes_below 50 stands ≡ true
unfolding velthuis_table velthuis_capital velthuis_letter
all_stand = refl

-- so it is for each letter
pub letter_stands : (n : ℕ) → IsLetter n → Stands n (spelling_of_letter velthuis_table n)
letter_stands n l =
    let at : n - 1 + 1 ≡ n = omega arith in
    let h = parts _ _ _ (passes_at 50 stands all_stand (n - 1) (omega arith)) in
    subst (λ m. Stands m (spelling_of_letter velthuis_table m)) at (record { short = h.0; is_read = the_from _ _ h.1; separated = none_from _ h.2 })

twice : (found : Option ℕ) (len : ℕ) (other : Option (ℕ × ℕ)) → or_shorter found len (or_shorter found len other) ≡ or_shorter found len other
twice None len other = refl
twice (Some n) len other = refl

not_dot : (x : ℕ) → not (eqb x 46) ≡ true → x ≢ 46
not_dot x h = grind (arith, nat_tests)

-- what stands at the front of a spelling with more after it depends on the first byte after it
pub front_after : (n : ℕ) (spelling : List ℕ) (byte : ℕ) (rest : List ℕ) → is_short spelling ≡ true → velthuis_letter spelling ≡ Some n → velthuis_front (spelling ++ byte ∷ rest) ≡ or_shorter (velthuis_letter (spelling ++ byte ∷ [])) (length spelling + 1) (Some (n, length spelling))
unfolding velthuis_front
front_after n [] byte rest short is = absurd (cc)
front_after n (x ∷ []) byte [] short is =
    let longer = velthuis_letter (x ∷ byte ∷ []) in
    twice longer 2 _ ∙ ap (λ f. or_shorter longer 2 (or_shorter f 1 None)) is
front_after n (x ∷ []) byte (z ∷ rest) short is =
    let longer = velthuis_letter (x ∷ byte ∷ []) in
    ap (λ f. or_shorter f 3 (or_shorter longer 2 (or_shorter (velthuis_letter (x ∷ [])) 1 None))) (other_than_dot x byte z (not_dot x short))
    ∙ ap (λ f. or_shorter longer 2 (or_shorter f 1 None)) is
front_after n (x ∷ y ∷ []) byte rest short is =
    ap (λ f. or_shorter (velthuis_letter (x ∷ y ∷ byte ∷ [])) 3 (or_shorter f 2 (or_shorter (velthuis_letter (x ∷ [])) 1 None))) is
front_after n (x ∷ y ∷ z ∷ []) byte rest short is =
    ap (λ f. or_shorter f 3 (or_shorter (velthuis_letter (x ∷ y ∷ [])) 2 (or_shorter (velthuis_letter (x ∷ [])) 1 None))) is
    ∙ ap (λ f. or_shorter f 4 (Some (n, 3))) (sym (no_longer x y z byte []))
front_after n (w ∷ x ∷ y ∷ z ∷ more) byte rest short is = absurd (cc)

-- a spelling alone is the longest at its front
pub front_alone : (n : ℕ) (spelling : List ℕ) → is_short spelling ≡ true → velthuis_letter spelling ≡ Some n → velthuis_front spelling ≡ Some (n, length spelling)
unfolding velthuis_front
front_alone n [] short is = absurd (cc)
front_alone n (x ∷ []) short is = ap (λ f. or_shorter f 1 (or_shorter f 1 (or_shorter f 1 None))) is
front_alone n (x ∷ y ∷ []) short is = ap (λ f. or_shorter f 2 (or_shorter f 2 (or_shorter (velthuis_letter (x ∷ [])) 1 None))) is
front_alone n (x ∷ y ∷ z ∷ []) short is = ap (λ f. or_shorter f 3 (or_shorter (velthuis_letter (x ∷ y ∷ [])) 2 (or_shorter (velthuis_letter (x ∷ [])) 1 None))) is
front_alone n (w ∷ x ∷ y ∷ z ∷ more) short is = absurd (cc)

keeps_length : (longer : Option ℕ) (n len : ℕ) → has_length (or_shorter longer (len + 1) (Some (n, len))) len ≡ not (is_some longer)
keeps_length None n len = grind (arith, nat_tests)
keeps_length (Some m) n len = grind (arith, nat_tests)

-- the longest spelling at the front has the length of the first one, exactly where the next byte makes no longer one
pub ends_with_first : (n : ℕ) (spelling : List ℕ) (byte : ℕ) (rest : List ℕ) → Stands n spelling → has_length (velthuis_front (spelling ++ byte ∷ rest)) (length spelling) ≡ not (is_some (velthuis_letter (spelling ++ byte ∷ [])))
ends_with_first n spelling byte rest h =
    ap (λ f. has_length f (length spelling)) (front_after n spelling byte rest h.short h.is_read) ∙ keeps_length _ n (length spelling)

pub no_separator : (rest : List ℕ) → velthuis_front (95 ∷ rest) ≡ None
unfolding velthuis_table velthuis_capital velthuis_letter velthuis_front
no_separator rest = refl

has_some : (spelling : List ℕ) → is_short spelling ≡ true → 0 < length spelling
has_some [] h = absurd (cc)
has_some (byte ∷ spelling) h = omega arith

not_some : (found : Option ℕ) → not (is_some found) ≡ true → found ≡ None
not_some None h = refl
not_some (Some n) h = absurd (cc)

-- the first letter is found before the second one, with a separator where one is put
found_before : (n : ℕ) (left right rest : List ℕ) → Stands n left → 0 < length right → velthuis_front (left ++ (separator velthuis_front left right ++ right ++ rest)) ≡ Some (n, length left)
found_before n left [] rest h some = absurd (omega arith)
found_before n left (byte ∷ right) rest h some =
    by_gap (has_length (velthuis_front (left ++ byte ∷ right)) (length left)) (ends_with_first n left byte right h)
  where
    by_gap : (gap : Bool) → gap ≡ not (is_some (velthuis_letter (left ++ byte ∷ []))) → velthuis_front (left ++ (cond gap [] (95 ∷ []) ++ byte ∷ right ++ rest)) ≡ Some (n, length left)
    by_gap true e = front_after n left byte (right ++ rest) h.short h.is_read ∙ ap (λ f. or_shorter f (length left + 1) (Some (n, length left))) (not_some _ (sym e))
    by_gap false e = front_after n left 95 ((byte ∷ right) ++ rest) h.short h.is_read ∙ ap (λ f. or_shorter f (length left + 1) (Some (n, length left))) h.separated

-- what Velthuis prints is read as the same word
pub separates_velthuis : Separates velthuis_front (spelling_of_letter velthuis_table)
separates_velthuis = record {
  never = no_separator;
  some = λ n l. has_some _ (letter_stands n l).short;
  alone = λ n l. front_alone n _ (letter_stands n l).short (letter_stands n l).is_read;
  before = λ n m rest l k. found_before n (spelling_of_letter velthuis_table n) (spelling_of_letter velthuis_table m) rest (letter_stands n l) (has_some _ (letter_stands m k).short);
}

pub some_bytes : (n : ℕ) → IsLetter n → 0 < length (spelling_of_letter velthuis_table n)
some_bytes n l = has_some _ (letter_stands n l).short

-- a spelling of three bytes or more has no longer one
pub not_lengthened : (spelling : List ℕ) (byte : ℕ) → 3 ≤ length spelling → velthuis_letter (spelling ++ byte ∷ []) ≡ None
not_lengthened [] byte h = absurd (omega arith)
not_lengthened (x ∷ []) byte h = absurd (omega arith)
not_lengthened (x ∷ y ∷ []) byte h = absurd (omega arith)
not_lengthened (x ∷ y ∷ z ∷ []) byte h = no_longer x y z byte []
not_lengthened (w ∷ x ∷ y ∷ z ∷ rest) byte h = no_longer w x y z (rest ++ byte ∷ [])

-- whether the first spelling keeps its length before the second one
pub keeps_first : (n : ℕ) (first second : List ℕ) → IsLetter n → first ≡ spelling_of_letter velthuis_table n → 0 < length second → has_length (velthuis_front (first ++ second)) (length first) ≡ not (is_some (velthuis_letter (first ++ get_or second 0 0 ∷ [])))
keeps_first n first [] l is some = absurd (omega arith)
keeps_first n first (byte ∷ second) l is some = ends_with_first n first byte second (subst (Stands n) (sym is) (letter_stands n l))
