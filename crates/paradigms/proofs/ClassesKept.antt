-- What is kept of the classes after a row: the set of a class's rows has a row exactly where the class has it, and a new name or a
-- new row goes last in its list.
use Rattle.std.proofs.Common.{◌≡◌, ℕ, zero, suc, ◌<◌, ◌≤◌, Bool, true, false, cond, not, nat_lt, nat_eq, Some, None, ◌||◌, List, [], ◌∷◌, ◌++◌, length, map, get_or, slice_set, refl, sym, ◌∙◌, ap, subst, arith, Ok, Err, position}
use Rattle.std.specs.List.{list_any, slice_get}
use Rattle.std.specs.Cmp.Lexicographic.{pointwise}
use Rattle.std.specs.Str.{bytes_eq}
use Rattle.std.proofs.lemmas.Bool.{ltb-false, or_parts}
use Rattle.std.proofs.lemmas.List.{length-map, length-append, map-append}
use Rattle.std.proofs.lemmas.List.Quantifiers.{position-Some}
use Rattle.morphology_definitions.specs.Inflection as inflection
use Rattle.morphology_definitions.specs.Inflection.{Class}
use Rattle.paradigm_file_definitions.specs.declared.limits.TheConstants.{MOST_TABLE_RECORDS, MOST_AFFIX_LETTERS}
use Rattle.paradigm_file_definitions.specs.TableFaults as tables
use Rattle.paradigm_file_definitions.specs.TableFiles.{has_name, has_row, is_same_row, with_row, passes_row_limits, take_row}
use Rattle.paradigms.specs.contracts.row.RowPartialEq.TheImpl.{eq-value as row_eq}
use Rattle.paradigms.specs.declared.row.Row.{Row}
use Rattle.paradigms.specs.Kept.{AreDistinct, AreKept}
use Rattle.paradigms.specs.Rows.{classes_of, text_row}
use Rattle.paradigms.proofs.RowEquality.{same_row, same_words}
use Rattle.paradigms.proofs.ClassLemmas.{length-classes_of, added_at, twin_at, added_last, no_twin, absent_name, first_place_of, distinct_pushed, row_twice, row_added}
use Rattle.list_laws.proofs.Booleans.{not_of_each_other}

-- ---- sets of rows and of names

any_row : (new : Row) (rows : List Row) → list_any (row_eq.it new) rows ≡ list_any (is_same_row (text_row new)) (map text_row rows)
any_row new [] = refl
any_row new (row ∷ rows) = λ i. same_row new row i || any_row new rows i

any_name : {K : Type 0} (items : K → List ℕ) (key : K) (keys : List K) → list_any (λ k. pointwise nat_eq (items key) (items k)) keys ≡ list_any (bytes_eq (items key)) (map items keys)
any_name items key [] = refl
any_name items key (first ∷ keys) = λ i. same_words (items key) (items first) i || any_name items key keys i

set_at : {S A : Type 0} (f : S → A) (sets : List S) (class : ℕ) (set : S) → class < length sets → set ≡ get_or sets class set → slice_get (map f sets) class ≡ Some (f set)
set_at f [] class set inside at = absurd (omega arith)
set_at f (first ∷ sets) zero set inside at = ap (λ s. Some (f s)) (sym at)
set_at f (first ∷ sets) (suc class) set inside at = set_at f sets class set (omega arith) at

map-slice_set : {S A : Type 0} (f : S → A) (sets : List S) (class : ℕ) (set : S) → map f (slice_set sets class set) ≡ slice_set (map f sets) class (f set)
map-slice_set f [] class set = refl
map-slice_set f (first ∷ sets) zero set = refl
map-slice_set f (first ∷ sets) (suc class) set = ap (λ rest. f first ∷ rest) (map-slice_set f sets class set)

pub length-with_set : {S A : Type 0} (f : S → A) (sets : List S) (class : ℕ) (set : S) → length (map f (slice_set sets class set)) ≡ length (map f sets)
length-with_set f [] class set = refl
length-with_set f (first ∷ sets) zero set = refl
length-with_set f (first ∷ sets) (suc class) set = ap suc (length-with_set f sets class set)

-- ---- a row in a class that is there

module _ {S : Type 0} (keys_of : S → List Row) (names : List (List ℕ)) (sets : List S) (classes : List Class)
    (told : classes_of names (map (λ set. map text_row (keys_of set)) sets) ≡ classes)
    (alike : length names ≡ length (map (λ set. map text_row (keys_of set)) sets)) where
  rows_of_sets : List (List inflection.Row)
  rows_of_sets = map (λ set. map text_row (keys_of set)) sets

  -- the class is one of the sets
  pub class_inside : (name : List ℕ) (class : ℕ) → position (has_name name) classes ≡ Some class → class < length sets
  class_inside name class at =
      let inside = (position-Some (has_name name) classes class (record { name = []; rows = [] }) at).0 in
      let long = length-classes_of names (map (λ set. map text_row (keys_of set)) sets) alike in
      let same = ap length told in
      let count = length-map sets (λ set. map text_row (keys_of set)) in
      omega (arith, inside, long, same, count, alike)

  module _ (number : ℕ) (name : List ℕ) (class : ℕ) (row : Row) (set : S) (distinct : AreDistinct names) (at : position (has_name name) classes ≡ Some class) (is : set ≡ get_or sets class set)
      (limits : passes_row_limits number (text_row row) ≡ false) where
    pub twin_told : list_any (has_row name (text_row row)) classes ≡ list_any (row_eq.it row) (keys_of set)
    twin_told =
        let here = set_at (λ set. map text_row (keys_of set)) sets class set (class_inside name class at) is in
        let place = first_place_of name (classes_of names (map (λ set. map text_row (keys_of set)) sets)) class (subst (λ classes. position (has_name name) classes ≡ Some class) (sym told) at) in
        ap (list_any (has_row name (text_row row))) (sym told)
        ∙ twin_at name (text_row row) names (map (λ set. map text_row (keys_of set)) sets) class (map text_row (keys_of set)) alike distinct place here ∙ sym (any_row row (keys_of set))

    pub class_twice : (is_new : Bool) → is_new ≡ not (list_any (row_eq.it row) (keys_of set)) → is_new ≡ false → take_row number classes name (text_row row) ≡ Err tables.Twice
    class_twice is_new added new = row_twice number classes name (text_row row) limits (twin_told ∙ not_of_each_other (list_any (row_eq.it row) (keys_of set)) is_new added ∙ ap not new)

    pub class_grown : (is_new : Bool) (after : S) → is_new ≡ not (list_any (row_eq.it row) (keys_of set))
        → keys_of after ≡ (cond (list_any (row_eq.it row) (keys_of set)) (keys_of set) (keys_of set ++ row ∷ [])) → is_new ≡ true
        → take_row number classes name (text_row row) ≡ Ok (classes_of names (map (λ set. map text_row (keys_of set)) (slice_set sets class after)))
    class_grown is_new after added keys new =
        let absent : list_any (row_eq.it row) (keys_of set) ≡ false = not_of_each_other (list_any (row_eq.it row) (keys_of set)) is_new added ∙ ap not new in
        let pushed : keys_of after ≡ keys_of set ++ row ∷ [] = keys ∙ ap (λ b. cond b (keys_of set) (keys_of set ++ row ∷ [])) absent in
        let rows : map text_row (keys_of after) ≡ map text_row (keys_of set) ++ text_row row ∷ [] = ap (map text_row) pushed ∙ map-append text_row (keys_of set) (row ∷ []) in
        let here = set_at (λ set. map text_row (keys_of set)) sets class set (class_inside name class at) is in
        let place = first_place_of name (classes_of names (map (λ set. map text_row (keys_of set)) sets)) class (subst (λ classes. position (has_name name) classes ≡ Some class) (sym told) at) in
        let sets_after = map-slice_set (λ set. map text_row (keys_of set)) sets class after ∙ ap (slice_set (map (λ set. map text_row (keys_of set)) sets) class) rows in
        row_added number classes name (text_row row) (classes_of names (map (λ set. map text_row (keys_of set)) (slice_set sets class after))) limits (twin_told ∙ absent)
        (ap (classes_of names) sets_after
        ∙ added_at name (text_row row) names (map (λ set. map text_row (keys_of set)) sets) class (map text_row (keys_of set)) alike place here ∙ ap (with_row name (text_row row)) told)

  -- ---- a row in a new class

  module _ (number : ℕ) (name : List ℕ) (row : Row) (none : position (has_name name) classes ≡ None) (limits : passes_row_limits number (text_row row) ≡ false) where
    pub new_name : list_any (bytes_eq name) names ≡ false
    new_name = absent_name name names (map (λ set. map text_row (keys_of set)) sets) alike (subst (λ classes. position (has_name name) classes ≡ None) (sym told) none)

    module _ (names_after : List (List ℕ)) (sets_after : List S) (last : S) (named : names_after ≡ names ++ name ∷ []) (pushed : sets_after ≡ sets ++ last ∷ []) (one : keys_of last ≡ row ∷ []) where
      rows_after : map (λ set. map text_row (keys_of set)) sets_after ≡ map (λ set. map text_row (keys_of set)) sets ++ (text_row row ∷ []) ∷ []
      rows_after =
          ap (map (λ set. map text_row (keys_of set))) pushed ∙ map-append (λ set. map text_row (keys_of set)) sets (last ∷ [])
          ∙ ap (λ (keys : List Row). map (λ set. map text_row (keys_of set)) sets ++ map text_row keys ∷ []) one

      pub class_added : take_row number classes name (text_row row) ≡ Ok (classes_of names_after (map (λ set. map text_row (keys_of set)) sets_after))
      class_added =
          row_added number classes name (text_row row) (classes_of names_after (map (λ set. map text_row (keys_of set)) sets_after)) limits
          (ap (list_any (has_row name (text_row row))) (sym told) ∙ no_twin name (text_row row) names (map (λ set. map text_row (keys_of set)) sets) new_name)
          ((λ i. classes_of (named i) (rows_after i)) ∙ added_last name (text_row row) names (map (λ set. map text_row (keys_of set)) sets) alike new_name ∙ ap (with_row name (text_row row)) told)

      pub kept_after : AreDistinct names → length classes < number → AreKept names_after (map (λ set. map text_row (keys_of set)) sets_after)
      kept_after distinct before =
          let long = ap length named in
          let longer = length-append names (name ∷ []) in
          let sets_long = ap length rows_after in
          let sets_longer = length-append (map (λ set. map text_row (keys_of set)) sets) ((text_row row ∷ []) ∷ []) in
          let same = ap length told in
          let count = length-classes_of names (map (λ set. map text_row (keys_of set)) sets) alike in
          let most = within_limits number (text_row row) limits in
          record {
            alike = omega (arith, long, longer, sets_long, sets_longer, alike);
            distinct = subst AreDistinct (sym named) (distinct_pushed names name distinct new_name);
            few = omega (arith, long, longer, same, count, before, most);
          }
        where
          within_limits : (number : ℕ) (row : inflection.Row) → passes_row_limits number row ≡ false → number ≤ MOST_TABLE_RECORDS
          within_limits number row h =
              ltb-false MOST_TABLE_RECORDS number (or_parts (nat_lt MOST_AFFIX_LETTERS (length row.prefix) || nat_lt MOST_AFFIX_LETTERS (length row.ending)) (nat_lt MOST_TABLE_RECORDS number) h).1

-- a name that is new goes last
pub name_pushed : {K : Type 0} (items : K → List ℕ) (key : K) (keys after : List K) (name : List ℕ) → items key ≡ name → list_any (bytes_eq name) (map items keys) ≡ false
    → after ≡ (cond (list_any (λ k. pointwise nat_eq (items key) (items k)) keys) keys (keys ++ key ∷ [])) → map items after ≡ map items keys ++ name ∷ []
name_pushed items key keys after name is none put =
    let absent : list_any (λ k. pointwise nat_eq (items key) (items k)) keys ≡ false = any_name items key keys ∙ ap (λ name. list_any (bytes_eq name) (map items keys)) is ∙ none in
    ap (map items) (put ∙ ap (λ b. cond b keys (keys ++ key ∷ [])) absent) ∙ map-append items keys (key ∷ []) ∙ ap (λ name. map items keys ++ name ∷ []) is

-- the first row of a set
pub first_row : (row : Row) (before after : List Row) → before ≡ [] → after ≡ (cond (list_any (row_eq.it row) before) before (before ++ row ∷ [])) → after ≡ row ∷ []
first_row row before after empty put = put ∙ ap (λ before. cond (list_any (row_eq.it row) before) before (before ++ row ∷ [])) empty
