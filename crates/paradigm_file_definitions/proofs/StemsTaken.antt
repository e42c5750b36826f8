-- A stem that is taken passed each test, row by row; record by record, so did all that are read.
use Rattle.std.proofs.Common.{◌≡◌, ℕ, ◌+◌, ◌<◌, false, Option, Some, None, Ok, Err, List, [], ◌∷◌, ◌++◌, length, All, refl, sym, subst, arith, ◌||◌, nat_lt}
use Rattle.std.specs.Prelude.{◌==◌}
use Rattle.std.specs.List.{AllByRecursion, list_any, position}
use Rattle.std.proofs.lemmas.Bool.{or_parts, ltb-false, eqb-false}
use Rattle.std.proofs.lemmas.List.Elements.{All-from_recursion, All-push, All-nil}
use Rattle.std.proofs.lemmas.List.Quantifiers.{position-Some}
use Rattle.text_definitions.specs.Slp1.{word_of_slp1}
use Rattle.lexicon_definitions.specs.declared.limits.TheConstants.{MOST_FORM_LETTERS}
use Rattle.lexicon_text_definitions.specs.FileSteps.{some_word}
use Rattle.morphology_definitions.specs.Inflection.{Row, Class, Stem, rows_of, form_length, IsInflectable, IsInflectableStem}
use Rattle.paradigm_file_definitions.specs.declared.limits.TheConstants.{MOST_STEM_RECORDS, MOST_INFLECTIONS}
use Rattle.paradigm_file_definitions.specs.Records.{records_of, read_on, read_records}
use Rattle.paradigm_file_definitions.specs.TableFiles.{has_name}
use Rattle.paradigm_file_definitions.specs.StemFaults.{Short, Limit, Twice}
use Rattle.paradigm_file_definitions.specs.StemFiles.{is_same_stem, is_too_short, is_too_long, count_inflections, TakenStem, passes_stem_limits, take_classed, take_class, take_letters, take_stem, stems_of}
use Rattle.list_laws.proofs.Booleans.{if_refused}

-- ---- one stem

inflectable : (stem : List ℕ) (row : Row) → is_too_short stem row ≡ false → is_too_long stem row ≡ false → IsInflectable stem row
inflectable stem row short long =
    let parts = or_parts (nat_lt (length stem) row.cut) (form_length row stem == 0) short in
    let none = eqb-false (form_length row stem) 0 parts.1 in
    record {
      cut = ltb-false (length stem) row.cut parts.0;
      not_empty = omega (arith, none);
      short = ltb-false MOST_FORM_LETTERS (form_length row stem) long;
    }

all_inflectable : (stem : List ℕ) (rows : List Row) → list_any (is_too_short stem) rows ≡ false → list_any (is_too_long stem) rows ≡ false
    → AllByRecursion (IsInflectable stem) rows
all_inflectable stem [] short long = tt
all_inflectable stem (row ∷ rows) short long =
    let shorts = or_parts (is_too_short stem row) (list_any (is_too_short stem) rows) short in
    let longs = or_parts (is_too_long stem row) (list_any (is_too_long stem) rows) long in
    (inflectable stem row shorts.0 longs.0, all_inflectable stem rows shorts.1 longs.1)

-- no row's form is too long where no limit is passed
none_long : (classes : List Class) (number : ℕ) (stems : List Stem) (new : Stem) → passes_stem_limits classes number stems new ≡ false
    → list_any (is_too_long new.letters) (rows_of classes new.class) ≡ false
none_long classes number stems new h =
    let long = nat_lt MOST_FORM_LETTERS (length new.letters) in
    let any = list_any (is_too_long new.letters) (rows_of classes new.class) in
    let many = nat_lt MOST_STEM_RECORDS number in
    let forms = nat_lt MOST_INFLECTIONS (count_inflections classes stems + length (rows_of classes new.class)) in
    let three = or_parts (long || any || many) forms h in
    let two = or_parts (long || any) many three.0 in
    (or_parts long any two.0).1

classed : (classes : List Class) (number : ℕ) (stems after : List Stem) (new : Stem) → new.class < length classes → take_classed classes number stems new ≡ Ok after
    → All (IsInflectableStem classes) stems → All (IsInflectableStem classes) after
classed classes number stems after new inside h all =
    let rows = rows_of classes new.class in
    let first = if_refused (list_any (is_too_short new.letters) rows) _ Short after h in
    let second = if_refused (passes_stem_limits classes number stems new) _ Limit after first.1 in
    let third = if_refused (list_any (is_same_stem new) stems) _ Twice after second.1 in
    let pushed : stems ++ new ∷ [] ≡ after = cc (third.1) in
    let each : IsInflectableStem classes new = record {
      class = inside;
      rows = All-from_recursion (IsInflectable new.letters) rows (all_inflectable new.letters rows first.0 (none_long classes number stems new second.0));
    } in
    subst (All (IsInflectableStem classes)) pushed (All-push (IsInflectableStem classes) stems new all each)

-- ---- one record

by_class : (classes : List Class) (number : ℕ) (stems after : List Stem) (letters name : List ℕ) (class : Option ℕ) → class ≡ position (has_name name) classes
    → take_class classes number stems letters class ≡ Ok after → All (IsInflectableStem classes) stems → All (IsInflectableStem classes) after
by_class classes number stems after letters name None is h all = absurd (cc)
by_class classes number stems after letters name (Some class) is h all =
    classed classes number stems after (record { letters = letters; class = class })
    (position-Some (has_name name) classes class (record { name = []; rows = [] }) (sym is)).0 h all

by_letters : (classes : List Class) (number : ℕ) (stems after : List Stem) (letters : Option (List ℕ)) (name : List ℕ) → take_letters classes number stems letters name ≡ Ok after
    → All (IsInflectableStem classes) stems → All (IsInflectableStem classes) after
by_letters classes number stems after None name h all = absurd (cc)
by_letters classes number stems after (Some letters) name h all =
    by_class classes number stems after letters name (position (has_name name) classes) refl h all

taken : (classes : List Class) (number : ℕ) (stems after : List Stem) (fields : List (List ℕ)) → take_stem classes number stems fields ≡ Ok after
    → All (IsInflectableStem classes) stems → All (IsInflectableStem classes) after
unfolding take_stem
taken classes number stems after [] h all = absurd (cc)
taken classes number stems after (letters ∷ []) h all = absurd (cc)
taken classes number stems after (letters ∷ name ∷ []) h all = by_letters classes number stems after (some_word (word_of_slp1 letters)) name h all
taken classes number stems after (letters ∷ name ∷ more ∷ fields) h all = absurd (cc)

-- ---- all records

module _ (classes : List Class) where
  read_on_from : (number : ℕ) (records : List (List (List ℕ))) (stems end : List Stem) (taken_so : TakenStem)
      → ((after : List Stem) → taken_so ≡ Ok after → All (IsInflectableStem classes) after)
      → ((after : List Stem) → All (IsInflectableStem classes) after → read_records (take_stem classes) (number + 1) after records ≡ Ok end → All (IsInflectableStem classes) end)
      → read_on number taken_so (λ following. read_records (take_stem classes) (number + 1) following records) ≡ Ok end → All (IsInflectableStem classes) end
  read_on_from number records stems end (Err why) one rest h = absurd (cc)
  read_on_from number records stems end (Ok after) one rest h = rest after (one after refl) h

  all_read : (records : List (List (List ℕ))) (number : ℕ) (stems end : List Stem) → All (IsInflectableStem classes) stems
      → read_records (take_stem classes) number stems records ≡ Ok end → All (IsInflectableStem classes) end
  all_read [] number stems end all h =
      let same : stems ≡ end = cc (h) in
      subst (All (IsInflectableStem classes)) same all
  all_read (fields ∷ records) number stems end all h =
      read_on_from number records stems end (take_stem classes number stems fields)
      (λ after e. taken classes number stems after fields e all)
      (λ after each e. all_read records (number + 1) after end each e) h

pub all_inflectable_stems : (classes : List Class) (bytes : List ℕ) (stems : List Stem) → stems_of classes bytes ≡ Ok stems → All (IsInflectableStem classes) stems
unfolding stems_of
all_inflectable_stems classes bytes stems h = all_read classes (records_of bytes) 1 [] stems (All-nil (IsInflectableStem classes)) h
