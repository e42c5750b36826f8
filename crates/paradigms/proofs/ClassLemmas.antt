-- Classes are told by their names and their rows side by side: the first with a name, the rows of one, and one row more.
use Rattle.std.proofs.Common.{◌≡◌, ℕ, zero, suc, ◌+◌, ◌<◌, ◌≤◌, Bool, true, false, cond, not, nat_lt, nat_eq, Some, None, ◌&&◌, ◌||◌, List, [], ◌∷◌, ◌++◌, length, map, get_or, slice_set, refl, sym, ◌∙◌, ap, subst, arith, Ok, Err, true≢false}
use Rattle.std.specs.List.{list_any, position, position_or_len, slice_get}
use Rattle.std.specs.Cmp.Lexicographic.{pointwise}
use Rattle.std.specs.Str.{bytes_eq}
use Rattle.std.proofs.lemmas.Bool.{ltb-false, or_parts}
use Rattle.std.proofs.lemmas.List.{length-map}
use Rattle.morphology_definitions.specs.Inflection.{Class, Row, rows_of}
use Rattle.paradigm_file_definitions.specs.TableFaults as tables
use Rattle.paradigm_file_definitions.specs.TableFiles.{has_name, has_row, is_same_row, with_row, with_last_row, passes_row_limits, take_row}
use Rattle.paradigms.specs.Kept.{AreDistinct}
use Rattle.paradigms.specs.Rows.{classes_of}
use Rattle.paradigms.proofs.RowEquality.{same_words}
use Rattle.list_laws.proofs.Booleans.{when_true, when_false}
use Rattle.list_laws.proofs.Texts.{bytes_same, bytes_itself, bytes_apart}

pub length-classes_of : (names : List (List ℕ)) (rows : List (List Row)) → length names ≡ length rows → length (classes_of names rows) ≡ length names
length-classes_of [] rows h = refl
length-classes_of (name ∷ names) [] h = absurd (omega arith)
length-classes_of (name ∷ names) (first ∷ rows) h = ap suc (length-classes_of names rows (omega arith))

-- ---- the first class with a name

module _ {K : Type 0} (items : K → List ℕ) (name : List ℕ) where
  first_named : (keys : List K) (rows : List (List Row)) → length keys ≡ length rows
      → position_or_len (λ key. pointwise nat_eq name (items key)) keys ≡ position_or_len (has_name name) (classes_of (map items keys) rows)
  first_named [] rows h = refl
  first_named (key ∷ keys) [] h = absurd (omega arith)
  first_named (key ∷ keys) (first ∷ rows) h =
      λ i. cond (not (same_words name (items key) i)) (1 + first_named keys rows (omega arith) i) 0

  -- the place of a name among the names is the number of its class
  pub class_found : (keys : List K) (rows : List (List Row)) → length keys ≡ length rows
      → position (λ key. pointwise nat_eq name (items key)) keys ≡ position (has_name name) (classes_of (map items keys) rows)
  class_found keys rows h =
      let first = first_named keys rows h in
      let alike = length-map keys items in
      let long : length keys ≡ length (classes_of (map items keys) rows) = sym (length-classes_of (map items keys) rows (alike ∙ h) ∙ alike) in
      λ i. cond (nat_lt (first i) (long i)) (Some (first i)) None

-- ---- the rows of a class

pub rows_at : {S : Type 0} (rows_of_set : S → List Row) (names : List (List ℕ)) (sets : List S) (class : ℕ) (set : S) → length names ≡ length sets → class < length sets
    → set ≡ get_or sets class set → rows_of_set set ≡ rows_of (classes_of names (map rows_of_set sets)) class
rows_at f names [] class set h inside at = absurd (omega arith)
rows_at f [] (first ∷ sets) class set h inside at = absurd (omega arith)
rows_at f (name ∷ names) (first ∷ sets) zero set h inside at = ap f at
rows_at f (name ∷ names) (first ∷ sets) (suc class) set h inside at = rows_at f names sets class set (omega arith) (omega arith) at

-- ---- one row more in a class that is there

module _ (name : List ℕ) (new : Row) where
  -- no class has a row under a name that none of them has
  none_named : (names : List (List ℕ)) (rows : List (List Row)) → list_any (bytes_eq name) names ≡ false → list_any (has_row name new) (classes_of names rows) ≡ false
  none_named [] rows h = refl
  none_named (known ∷ names) [] h = refl
  none_named (known ∷ names) (first ∷ rows) h =
      let parts = or_parts (bytes_eq name known) (list_any (bytes_eq name) names) h in
      (λ i. (parts.0 i && list_any (is_same_row new) first) || list_any (has_row name new) (classes_of names rows)) ∙ none_named names rows parts.1

  first_place : (n class : ℕ) → class ≡ cond (not true) (1 + n) 0 → class ≡ 0
  first_place n class h = h

  -- the classes with the row, where a class has the name
  pub added_at : (names : List (List ℕ)) (rows : List (List Row)) (class : ℕ) (old : List Row) → length names ≡ length rows
      → class ≡ position_or_len (has_name name) (classes_of names rows) → slice_get rows class ≡ Some old
      → classes_of names (slice_set rows class (old ++ new ∷ [])) ≡ with_row name new (classes_of names rows)
  added_at [] [] class old h c at = absurd (cc (at))
  added_at [] (first ∷ rows) class old h c at = absurd (omega arith)
  added_at (known ∷ names) [] class old h c at = absurd (omega arith)
  added_at (known ∷ names) (first ∷ rows) class old h c at =
      go (bytes_eq name known) class c at (λ place p found. added_at names rows place old (omega arith) p found)
    where
      go : (b : Bool) (class : ℕ) → class ≡ cond (not b) (1 + position_or_len (has_name name) (classes_of names rows)) 0 → slice_get (first ∷ rows) class ≡ Some old
          → ((place : ℕ) → place ≡ position_or_len (has_name name) (classes_of names rows) → slice_get rows place ≡ Some old
          → classes_of names (slice_set rows place (old ++ new ∷ [])) ≡ with_row name new (classes_of names rows))
          → classes_of (known ∷ names) (slice_set (first ∷ rows) class (old ++ new ∷ []))
          ≡ cond b (with_last_row new (record { name = known; rows = first }) ∷ classes_of names rows) (record { name = known; rows = first } ∷ with_row name new (classes_of names rows))
      go true zero p found later =
          let same : first ≡ old = cc (found) in
          λ i. record { name = known; rows = sym same i ++ new ∷ [] } ∷ classes_of names rows
      go true (suc class) p found later = absurd (omega arith)
      go false zero p found later = absurd (omega arith)
      go false (suc class) p found later = ap (λ rest. record { name = known; rows = first } ∷ rest) (later class (omega arith) found)

  -- the row is there exactly where the class has it
  pub twin_at : (names : List (List ℕ)) (rows : List (List Row)) (class : ℕ) (old : List Row) → length names ≡ length rows → AreDistinct names
      → class ≡ position_or_len (has_name name) (classes_of names rows) → slice_get rows class ≡ Some old
      → list_any (has_row name new) (classes_of names rows) ≡ list_any (is_same_row new) old
  twin_at [] [] class old h apart c at = absurd (cc (at))
  twin_at [] (first ∷ rows) class old h apart c at = absurd (omega arith)
  twin_at (known ∷ names) [] class old h apart c at = absurd (omega arith)
  twin_at (known ∷ names) (first ∷ rows) class old h apart c at =
      go (bytes_eq name known) refl class c at (λ place p found. twin_at names rows place old (omega arith) apart.1 p found)
    where
      go : (b : Bool) → bytes_eq name known ≡ b → (class : ℕ) → class ≡ cond (not b) (1 + position_or_len (has_name name) (classes_of names rows)) 0
          → slice_get (first ∷ rows) class ≡ Some old
          → ((place : ℕ) → place ≡ position_or_len (has_name name) (classes_of names rows) → slice_get rows place ≡ Some old
          → list_any (has_row name new) (classes_of names rows) ≡ list_any (is_same_row new) old)
          → ((b && list_any (is_same_row new) first) || list_any (has_row name new) (classes_of names rows)) ≡ list_any (is_same_row new) old
      go true is zero p found later =
          let same : first ≡ old = cc (found) in
          let one : known ≡ name = sym (bytes_same name known is) in
          let none = none_named names rows (subst (λ known. list_any (bytes_eq known) names ≡ false) one apart.0) in
          ap (λ b. list_any (is_same_row new) first || b) none ∙ or_nothing (list_any (is_same_row new) first) ∙ ap (list_any (is_same_row new)) same
        where
          or_nothing : (b : Bool) → (b || false) ≡ b
          or_nothing true = refl
          or_nothing false = refl
      go true is (suc class) p found later = absurd (omega arith)
      go false is zero p found later = absurd (omega arith)
      go false is (suc class) p found later = later class (omega arith) found

  -- ---- one row in a new class

  -- the classes with the row, where none has the name
  pub added_last : (names : List (List ℕ)) (rows : List (List Row)) → length names ≡ length rows → list_any (bytes_eq name) names ≡ false
      → classes_of (names ++ name ∷ []) (rows ++ (new ∷ []) ∷ []) ≡ with_row name new (classes_of names rows)
  added_last [] [] h none = refl
  added_last [] (first ∷ rows) h none = absurd (omega arith)
  added_last (known ∷ names) [] h none = absurd (omega arith)
  added_last (known ∷ names) (first ∷ rows) h none =
      let parts = or_parts (bytes_eq name known) (list_any (bytes_eq name) names) none in
      ap (λ rest. record { name = known; rows = first } ∷ rest) (added_last names rows (omega arith) parts.1)
      ∙ (λ i. cond (sym parts.0 i) (with_last_row new (record { name = known; rows = first }) ∷ classes_of names rows) (record { name = known; rows = first } ∷ with_row name new (classes_of names rows)))

  pub no_twin : (names : List (List ℕ)) (rows : List (List Row)) → list_any (bytes_eq name) names ≡ false → list_any (has_row name new) (classes_of names rows) ≡ false
  no_twin names rows h = none_named names rows h

-- no class has the name where none is found
absent : (name : List ℕ) (names : List (List ℕ)) (rows : List (List Row)) → length names ≡ length rows → length (classes_of names rows) ≤ position_or_len (has_name name) (classes_of names rows)
    → list_any (bytes_eq name) names ≡ false
absent name [] rows h past = refl
absent name (known ∷ names) [] h past = absurd (omega arith)
absent name (known ∷ names) (first ∷ rows) h past = go (bytes_eq name known) past (λ later. absent name names rows (omega arith) later)
  where
    go : (b : Bool) → suc (length (classes_of names rows)) ≤ cond (not b) (1 + position_or_len (has_name name) (classes_of names rows)) 0
        → (length (classes_of names rows) ≤ position_or_len (has_name name) (classes_of names rows) → list_any (bytes_eq name) names ≡ false)
        → (b || list_any (bytes_eq name) names) ≡ false
    go true past later = absurd (omega arith)
    go false past later = later (omega arith)

not_found : (b : Bool) (n : ℕ) → cond b (Some n) None ≡ None → b ≡ false
not_found true n e = absurd (cc (e))
not_found false n e = refl

found : (b : Bool) (n m : ℕ) → cond b (Some n) None ≡ Some m → m ≡ n
found true n m e = cc (e)
found false n m e = absurd (cc (e))

pub absent_name : (name : List ℕ) (names : List (List ℕ)) (rows : List (List Row)) → length names ≡ length rows → position (has_name name) (classes_of names rows) ≡ None
    → list_any (bytes_eq name) names ≡ false
absent_name name names rows h none =
    let place = position_or_len (has_name name) (classes_of names rows) in
    absent name names rows h (ltb-false place (length (classes_of names rows)) (not_found (nat_lt place (length (classes_of names rows))) place none))

pub first_place_of : (name : List ℕ) (classes : List Class) (class : ℕ) → position (has_name name) classes ≡ Some class → class ≡ position_or_len (has_name name) classes
first_place_of name classes class at = found (nat_lt (position_or_len (has_name name) classes) (length classes)) (position_or_len (has_name name) classes) class at

-- a name that none of the names is may be added
pub distinct_pushed : (names : List (List ℕ)) (name : List ℕ) → AreDistinct names → list_any (bytes_eq name) names ≡ false → AreDistinct (names ++ name ∷ [])
distinct_pushed [] name apart none = (refl, tt)
distinct_pushed (known ∷ names) name apart none =
    let parts = or_parts (bytes_eq name known) (list_any (bytes_eq name) names) none in
    let other : bytes_eq known name ≡ false = bytes_apart known name (λ e. true≢false (sym (subst (λ known. bytes_eq name known ≡ true) (sym e) (bytes_itself name)) ∙ parts.0)) in
    (still known names name apart.0 other, distinct_pushed names name apart.1 parts.1)
  where
    still : (known : List ℕ) (names : List (List ℕ)) (name : List ℕ) → list_any (bytes_eq known) names ≡ false → bytes_eq known name ≡ false → list_any (bytes_eq known) (names ++ name ∷ []) ≡ false
    still known [] name h e = (λ i. e i || false)
    still known (first ∷ names) name h e =
        let parts = or_parts (bytes_eq known first) (list_any (bytes_eq known) names) h in
        (λ i. parts.0 i || still known names name parts.1 e i)

-- ---- what is taken of a row

module _ (number : ℕ) (classes : List Class) (name : List ℕ) (new : Row) where
  pub over_limit : passes_row_limits number new ≡ true → take_row number classes name new ≡ Err tables.Limit
  over_limit h = when_true (passes_row_limits number new) _ _ _ h refl

  pub row_twice : passes_row_limits number new ≡ false → list_any (has_row name new) classes ≡ true → take_row number classes name new ≡ Err tables.Twice
  row_twice h twin = when_false (passes_row_limits number new) _ _ _ h (when_true (list_any (has_row name new) classes) _ _ _ twin refl)

  pub row_added : (after : List Class) → passes_row_limits number new ≡ false → list_any (has_row name new) classes ≡ false → after ≡ with_row name new classes
      → take_row number classes name new ≡ Ok after
  row_added after h twin is = when_false (passes_row_limits number new) _ _ _ h (when_false (list_any (has_row name new) classes) _ _ _ twin (ap Ok (sym is)))
