-- A record with as many fields as it is to have, field by field; and what is taken where it has others.
use Rattle.std.proofs.Common.{◌≡◌, ◌≢◌, ℕ, Some, true, false, Err, List, [], ◌∷◌, length, refl, ◌∙◌, ap, arith}
use Rattle.csv.specs.Records.{field_at}
use Rattle.morphology_definitions.specs.Inflection.{Class, Stem}
use Rattle.paradigm_file_definitions.specs.TableFaults as tables
use Rattle.paradigm_file_definitions.specs.TableFiles.{take_table, take_cut, cut_of, is_class_name}
use Rattle.paradigm_file_definitions.specs.StemFaults as stems
use Rattle.paradigm_file_definitions.specs.StemFiles.{take_stem, take_letters}
use Rattle.text_definitions.specs.Slp1.{word_of_slp1}
use Rattle.lexicon_text_definitions.specs.FileSteps.{some_word}
use Rattle.list_laws.proofs.Booleans.{when_true, when_false}

-- ---- the fields of a record

pub two_are : (fields : List (List ℕ)) (a b : List ℕ) → length fields ≡ 2 → field_at fields 0 ≡ Some a → field_at fields 1 ≡ Some b → fields ≡ a ∷ b ∷ []
unfolding field_at
two_are [] a b h e f = absurd (omega arith)
two_are (x ∷ []) a b h e f = absurd (omega arith)
two_are (x ∷ y ∷ []) a b h e f = cc (e, f)
two_are (x ∷ y ∷ z ∷ fields) a b h e f = absurd (omega arith)

pub six_are : (fields : List (List ℕ)) (a b c d e f : List ℕ) → length fields ≡ 6 → field_at fields 0 ≡ Some a → field_at fields 1 ≡ Some b → field_at fields 2 ≡ Some c
    → field_at fields 3 ≡ Some d → field_at fields 4 ≡ Some e → field_at fields 5 ≡ Some f → fields ≡ a ∷ b ∷ c ∷ d ∷ e ∷ f ∷ []
unfolding field_at
six_are [] a b c d e f h p q r s t u = absurd (omega arith)
six_are (x ∷ []) a b c d e f h p q r s t u = absurd (omega arith)
six_are (x ∷ x1 ∷ []) a b c d e f h p q r s t u = absurd (omega arith)
six_are (x ∷ x1 ∷ x2 ∷ []) a b c d e f h p q r s t u = absurd (omega arith)
six_are (x ∷ x1 ∷ x2 ∷ x3 ∷ []) a b c d e f h p q r s t u = absurd (omega arith)
six_are (x ∷ x1 ∷ x2 ∷ x3 ∷ x4 ∷ []) a b c d e f h p q r s t u = absurd (omega arith)
six_are (x ∷ x1 ∷ x2 ∷ x3 ∷ x4 ∷ x5 ∷ []) a b c d e f h p q r s t u = cc (p, q, r, s, t, u)
six_are (x ∷ x1 ∷ x2 ∷ x3 ∷ x4 ∷ x5 ∷ x6 ∷ fields) a b c d e f h p q r s t u = absurd (omega arith)

-- ---- what is taken where there are others

pub not_six : (phases : List (List ℕ)) (number : ℕ) (classes : List Class) (fields : List (List ℕ)) → length fields ≢ 6 → take_table phases number classes fields ≡ Err tables.Fields
unfolding take_table
not_six phases number classes [] n = refl
not_six phases number classes (a ∷ []) n = refl
not_six phases number classes (a ∷ b ∷ []) n = refl
not_six phases number classes (a ∷ b ∷ c ∷ []) n = refl
not_six phases number classes (a ∷ b ∷ c ∷ d ∷ []) n = refl
not_six phases number classes (a ∷ b ∷ c ∷ d ∷ e ∷ []) n = refl
not_six phases number classes (a ∷ b ∷ c ∷ d ∷ e ∷ f ∷ []) n = absurd (n refl)
not_six phases number classes (a ∷ b ∷ c ∷ d ∷ e ∷ f ∷ g ∷ fields) n = refl

-- the first field is no name of a class, or it is one
pub not_named : (phases : List (List ℕ)) (number : ℕ) (classes : List Class) (fields : List (List ℕ)) (a b c d e f : List ℕ) → fields ≡ a ∷ b ∷ c ∷ d ∷ e ∷ f ∷ []
    → is_class_name a ≡ false → take_table phases number classes fields ≡ Err tables.Fields
unfolding take_table
not_named phases number classes fields a b c d e f is test = ap (take_table phases number classes) is ∙ when_false (is_class_name a) _ _ _ test refl

pub named : (phases : List (List ℕ)) (number : ℕ) (classes : List Class) (fields : List (List ℕ)) (a b c d e f : List ℕ) → fields ≡ a ∷ b ∷ c ∷ d ∷ e ∷ f ∷ []
    → is_class_name a ≡ true → take_table phases number classes fields ≡ take_cut phases number classes a b c (cut_of e) d f
unfolding take_table
named phases number classes fields a b c d e f is test = ap (take_table phases number classes) is ∙ when_true (is_class_name a) _ _ _ test refl

pub not_two : (classes : List Class) (number : ℕ) (told : List Stem) (fields : List (List ℕ)) → length fields ≢ 2 → take_stem classes number told fields ≡ Err stems.Fields
unfolding take_stem
not_two classes number told [] n = refl
not_two classes number told (a ∷ []) n = refl
not_two classes number told (a ∷ b ∷ []) n = absurd (n refl)
not_two classes number told (a ∷ b ∷ c ∷ fields) n = refl

pub two_taken : (classes : List Class) (number : ℕ) (told : List Stem) (fields : List (List ℕ)) (a b : List ℕ) → fields ≡ a ∷ b ∷ []
    → take_stem classes number told fields ≡ take_letters classes number told (some_word (word_of_slp1 a)) b
unfolding take_stem
two_taken classes number told fields a b is = ap (take_stem classes number told) is
