-- The answers to a line of a plain pair, by the two words that its fields spell and by how the pair compares with the last.
use Rattle.std.proofs.Common.{◌≡◌, ℕ, ◌-◌, suc, ◌<◌, ◌≤◌, Option, Some, None, Err, List, [], ◌∷◌, ◌++◌, length, get_or, refl, sym, ◌∙◌, ap, arith}
use Rattle.std.specs.List.{join_with_byte}
use Rattle.std.proofs.lemmas.List.{length-append}
use Rattle.std.proofs.lemmas.List.Splits.{join_with_byte-slice_split}
use Rattle.std.specs.declared.cmp.Ordering.{Ordering}
use Rattle.lexicon_definitions.specs.Lexicons.{compare_pairs}
use Rattle.text_definitions.specs.Slp1.{word_of_slp1}
use Rattle.lexicon_text_definitions.specs.FileFaults as faults
use Rattle.lexicon_text_definitions.specs.FileLines.{fields_of, Plain}
use Rattle.lexicon_text_definitions.specs.FileContents.{Told, compare_last}
use Rattle.lexicon_text_definitions.specs.FileSteps.{Taken, if_rising, one_letter, take_letters, take_plain}
use Rattle.lexicon_text_definitions.proofs.LineSteps.{with_pair}
use Rattle.form_file.specs.declared.take_error.TakeError.{TakeError}
use Rattle.form_file.specs.declared.take_error.TakeError.TheVariants.{Why, Memory}
use Rattle.form_file.specs.Fields.{two_of}
use Rattle.form_file.specs.Faults.{why_of}
use Rattle.form_file.specs.Words.{IsRead}
use Rattle.form_file.specs.Told.{IsAnswer}

-- ---- no field is longer than the text

pub two_fit : (text left right : List ℕ) → fields_of (Some text) ≡ left ∷ right ∷ [] → (length left ≤ length text) × (length right ≤ length text)
two_fit text left right e =
    let joined : join_with_byte 32 (left ∷ right ∷ []) ≡ text = ap (join_with_byte 32) (sym e) ∙ join_with_byte-slice_split 32 text in
    let long = ap length joined in
    (omega (arith, long, length-append left (32 ∷ right)), omega (arith, long, length-append left (32 ∷ right)))

-- ---- how a new one compares with the last

pub last_decides : {A : Type 0} (compare : A → A → Ordering) (xs : List A) (new other : A) → 0 < length xs → compare_last compare xs new ≡ compare (get_or xs (length xs - 1) other) new
last_decides compare [] new other some = absurd (omega arith)
last_decides compare (x ∷ []) new other some = refl
last_decides compare (x ∷ y ∷ xs) new other some =
    let rest = last_decides compare (y ∷ xs) new other (omega arith) in
    let place : length (x ∷ y ∷ xs) - 1 ≡ suc (length (y ∷ xs) - 1) = omega arith in
    rest ∙ ap (λ k. compare (get_or (x ∷ y ∷ xs) k other) new) (sym place)

-- ---- answers

-- where a reader refuses, the line is refused for the spelling, or memory is wanting
pub not_spelled : {A : Type 0} (B : Type 0) (spelled : Option A) (error : TakeError) (taken : Taken) (after : Told) → IsRead {A = A} spelled (Err error) → (spelled ≡ None → taken ≡ Err faults.Spelling)
    → IsAnswer {A = B} taken (Err error) after
not_spelled B spelled Memory taken after r h = tt
not_spelled B spelled (Why why) taken after r h = h r.1 ∙ ap (λ why. Err (why_of why)) (sym r.0)

pub no_pair : (told : Told) (fields : List (List ℕ)) → two_of fields ≡ None → take_plain told fields ≡ Err faults.Field
unfolding take_plain
no_pair told [] h = refl
no_pair told (x ∷ []) h = refl
no_pair told (x ∷ y ∷ []) h = absurd (cc)
no_pair told (x ∷ y ∷ z ∷ fields) h = refl

no_left : (told : Told) (x y : Option ℕ) → x ≡ None → take_letters told x y ≡ Err faults.Spelling
no_left told None y h = refl
no_left told (Some x) y h = absurd (cc)

no_right : (told : Told) (x y : Option ℕ) → y ≡ None → take_letters told x y ≡ Err faults.Spelling
no_right told None y h = refl
no_right told (Some x) None h = refl
no_right told (Some x) (Some y) h = absurd (cc)

pair_taken : (told : Told) (left right : List ℕ) → take_plain told (left ∷ right ∷ []) ≡ take_letters told (one_letter (word_of_slp1 left)) (one_letter (word_of_slp1 right))
unfolding take_plain
pair_taken told left right = refl

pub left_missing : (told : Told) (fields : List (List ℕ)) (left right : List ℕ) → fields ≡ left ∷ right ∷ [] → one_letter (word_of_slp1 left) ≡ None → take_plain told fields ≡ Err faults.Spelling
left_missing told fields left right e h = ap (take_plain told) e ∙ pair_taken told left right ∙ no_left told _ _ h

pub right_missing : (told : Told) (fields : List (List ℕ)) (left right : List ℕ) → fields ≡ left ∷ right ∷ [] → one_letter (word_of_slp1 right) ≡ None → take_plain told fields ≡ Err faults.Spelling
right_missing told fields left right e h = ap (take_plain told) e ∙ pair_taken told left right ∙ no_right told _ _ h

pub both_read : (told : Told) (fields : List (List ℕ)) (left right : List ℕ) (x y : ℕ) → fields ≡ left ∷ right ∷ [] → one_letter (word_of_slp1 left) ≡ Some x → one_letter (word_of_slp1 right) ≡ Some y
    → take_plain told fields ≡ if_rising (compare_last compare_pairs told.plain (x, y)) (with_pair told (x, y))
both_read told fields left right x y e a b = ap (take_plain told) e ∙ pair_taken told left right ∙ (λ i. take_letters told (a i) (b i))

-- where the pair does not rise
pub not_risen : (A B : Type 0) (taken : Taken) (order : Ordering) (more after : Told) (error : TakeError) → taken ≡ if_rising order more → IsAnswer {A = A} (if_rising order more) (Err error) more
    → IsAnswer {A = B} taken (Err error) after
not_risen A B taken order more after Memory e h = tt
not_risen A B taken order more after (Why why) e h = e ∙ h

-- the order, by the list that the program compares with
pub same_order : (told old : Told) (plain : List (ℕ × ℕ)) (pair : ℕ × ℕ) (order : Ordering) → old ≡ told → plain ≡ old.plain → order ≡ compare_last compare_pairs plain pair
    → compare_last compare_pairs told.plain pair ≡ order
same_order told old plain pair order v p o =
    ap (λ told. compare_last compare_pairs told.plain pair) (sym v) ∙ ap (λ plain. compare_last compare_pairs plain pair) (sym p) ∙ sym o

-- the pair is the last
pub pair_pushed : (told old : Told) (pair : ℕ × ℕ) (plain : List (ℕ × ℕ)) → old ≡ told → plain ≡ old.plain ++ pair ∷ []
    → with_pair told pair ≡ record old { last = Plain; plain = plain }
pair_pushed told old pair plain v p = ap (λ told. with_pair told pair) (sym v) ∙ ap (λ plain. record old { last = Plain; plain = plain }) (sym p)
