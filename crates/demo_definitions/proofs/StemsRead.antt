-- The stem file is read as its stems: each passes every test of a record, since it has six letters and differs from those before it.
use Rattle.std.proofs.Common.{◌≡◌, ℕ, suc, ◌+◌, ◌*◌, ◌<◌, ◌≤◌, true, false, Some, fold, Ok, List, [], ◌∷◌, ◌++◌, length, map, refl, sym, ◌∙◌, ap, inl, inr, arith, append_assoc, length-append}
use Rattle.std.specs.Prelude.{codes}
use Rattle.std.specs.List.{AllByRecursion, list_any, list_all, position}
use Rattle.std.specs.Str.{bytes_eq}
use Rattle.std.proofs.lemmas.Bool.{cases_Bool, or_parts, le-ltb}
use Rattle.std.proofs.lemmas.List.{append-nil, map-append, length-map}
use Rattle.std.proofs.lemmas.Slice.Eq.{bytes_eq-Decides}
use Rattle.text_definitions.specs.Slp1.{slp1_table, word_of_slp1, slp1_of_word}
use Rattle.text_definitions.proofs.PrintedBytes.{read_is_printed}
use Rattle.lexicon_text_definitions.specs.FileSteps.{some_word}
use Rattle.morphology_definitions.specs.Inflection.{Stem, rows_of}
use Rattle.paradigm_file_definitions.specs.declared.limits.TheConstants.{MOST_STEM_RECORDS, MOST_INFLECTIONS}
use Rattle.paradigm_file_definitions.specs.Records.{read_records}
use Rattle.paradigm_file_definitions.specs.TableFiles.{has_name}
use Rattle.paradigm_file_definitions.specs.StemFiles.{is_same_stem, is_too_short, is_too_long, count_inflections, passes_stem_limits, take_stem, stems_of}
use Rattle.demo_definitions.specs.declared.limits.TheConstants.{STEM_DRAWS}
use Rattle.demo_definitions.specs.DrawnStems.{stems_drawn, stems_of_number}
use Rattle.demo_definitions.specs.SourceTexts.{demo_stems}
use Rattle.demo_definitions.specs.SourceContents.{demo_classes, letters_spelled, stem_spelled, stems_spelled}
use Rattle.demo_definitions.proofs.DemoBytes.{is_demo_byte, code_of, word_is, letters_are}
use Rattle.demo_definitions.proofs.StemTexts.{IsStemText, AreNewAfter, all_pushed, stems_are_texts, some_drawn}
use Rattle.demo_definitions.proofs.StemRecords.{stem_fields, stem_records}

-- ---- different texts spell different words

same_text : (left right : List ℕ) → list_all is_demo_byte left ≡ true → list_all is_demo_byte right ≡ true
    → letters_spelled left ≡ letters_spelled right → left ≡ right
unfolding slp1_table word_of_slp1 slp1_of_word
same_text left right l r same =
    let letters = sym (letters_are left l) ∙ same ∙ letters_are right r in
    let back = (read_is_printed slp1_table refl 0 left (map code_of left) (word_is left l)).bytes in
    let other = (read_is_printed slp1_table refl 0 right (map code_of right) (word_is right r)).bytes in
    sym back ∙ ap (λ (word : List ℕ). slp1_of_word word) letters ∙ other

other_word : (left right : List ℕ) → IsStemText left → IsStemText right → bytes_eq left right ≡ false
    → bytes_eq (letters_spelled left) (letters_spelled right) ≡ false
other_word left right l r other = elim (cases_Bool (bytes_eq (letters_spelled left) (letters_spelled right))) [
  | inl same ↦
      let texts = same_text left right l.bytes r.bytes ((bytes_eq-Decides (letters_spelled left) (letters_spelled right)).0 same) in
      let again = (bytes_eq-Decides left right).1 texts in
      absurd (cc)
  | inr apart ↦ apart
]

none_twice : (stem : List ℕ) (before : List (List ℕ)) → IsStemText stem → AllByRecursion IsStemText before → list_any (bytes_eq stem) before ≡ false
    → list_any (is_same_stem (stem_spelled stem)) (map stem_spelled before) ≡ false
none_twice stem [] is all new = refl
none_twice stem (first ∷ before) is all new =
    let parts = or_parts (bytes_eq stem first) (list_any (bytes_eq stem) before) new in
    rw (other_word stem first is all.0 parts.0, none_twice stem before is all.1 parts.1) refl

-- ---- the limits

-- each stem has five forms
five_each : (stems : List (List ℕ)) → count_inflections demo_classes (map stem_spelled stems) ≡ 5 * length stems
unfolding demo_classes
five_each stems = from 0 stems ∙ omega arith
  where
    from : (so_far : ℕ) (rest : List (List ℕ)) → fold (λ (n : ℕ) (stem : Stem). n + length (rows_of demo_classes stem.class)) so_far (map stem_spelled rest) ≡ so_far + 5 * length rest
    from so_far [] = omega arith
    from so_far (stem ∷ rest) = from (so_far + 5) rest ∙ omega arith

pub six_letters : (stem : List ℕ) (is : IsStemText stem)
    → letters_spelled stem ≡ code_of is.first ∷ code_of is.second ∷ code_of is.third ∷ code_of is.fourth ∷ code_of is.fifth ∷ code_of is.last ∷ []
six_letters stem is = letters_are stem is.bytes ∙ ap (map code_of) is.is

module _ (number : ℕ) (before : List (List ℕ)) (stem : List ℕ) (is : IsStemText stem) (few : length before ≤ 1000) (low : number ≤ 1001) where
  no_short : list_any (is_too_short (letters_spelled stem)) (rows_of demo_classes 0) ≡ false
  unfolding demo_classes
  no_short = rw (six_letters stem is) refl

  no_long : list_any (is_too_long (letters_spelled stem)) (rows_of demo_classes 0) ≡ false
  unfolding demo_classes
  no_long = rw (six_letters stem is) refl

  six : length (letters_spelled stem) ≡ 6
  six = rw (six_letters stem is) refl

  no_limit : passes_stem_limits demo_classes number (map stem_spelled before) (stem_spelled stem) ≡ false
  unfolding demo_classes
  no_limit =
      let short = le-ltb 64 (length (letters_spelled stem)) (let n = six in omega arith) in
      let records = le-ltb MOST_STEM_RECORDS number (omega arith) in
      let forms = le-ltb MOST_INFLECTIONS (count_inflections demo_classes (map stem_spelled before) + 5) (let five = five_each before in omega arith) in
      rw (short, no_long, records, forms) refl

  spelled : some_word (word_of_slp1 stem) ≡ Some (letters_spelled stem)
  spelled = rw (word_is stem is.bytes ∙ ap (λ (text : List ℕ). Ok (map code_of text)) is.is, six_letters stem is) refl

  of_class : position (has_name (codes "a")) demo_classes ≡ Some 0
  unfolding demo_classes
  of_class = refl

  -- the stem is taken
  taken : AllByRecursion IsStemText before → list_any (bytes_eq stem) before ≡ false
      → take_stem demo_classes number (map stem_spelled before) (stem_fields stem) ≡ Ok (map stem_spelled (before ++ stem ∷ []))
  unfolding take_stem
  taken all new =
      rw (spelled, of_class, no_short, no_limit, none_twice stem before is all new)
      (ap Ok (sym (map-append stem_spelled before (stem ∷ []))))

-- ---- the file

read_on : (number : ℕ) (before stems : List (List ℕ)) → AllByRecursion IsStemText before → AllByRecursion IsStemText stems → AreNewAfter before stems
    → length before + length stems ≤ 1000 → number ≡ suc (length before)
    → read_records (take_stem demo_classes) number (map stem_spelled before) (map stem_fields stems) ≡ Ok (map stem_spelled (before ++ stems))
read_on number before [] all each new few is = rw (append-nil before) refl
read_on number before (stem ∷ stems) all each new few is =
    rw (taken number before stem each.0 (omega arith) (omega arith) all new.0)
    (read_on (number + 1) (before ++ stem ∷ []) stems (all_pushed IsStemText before stem all each.0) each.1 new.1
    (omega (arith, length-append before (stem ∷ []))) (omega (arith, length-append before (stem ∷ [])))
    ∙ ap (λ (texts : List (List ℕ)). Ok (map stem_spelled texts)) (append_assoc before (stem ∷ []) stems))

-- the stem file is read as the stems
pub stems_read : (number : ℕ) → stems_of demo_classes (demo_stems number) ≡ Ok (stems_spelled number)
unfolding stems_of demo_stems stems_spelled
stems_read number =
    let texts = stems_are_texts number in
    rw (stem_records (stems_of_number number) texts.each)
    (read_on 1 [] (stems_of_number number) tt texts.each texts.new (let few = texts.few in omega arith) (omega arith))

-- there is a stem
pub some_spelled : (number : ℕ) → 0 < length (stems_spelled number)
unfolding stems_spelled stems_of_number
some_spelled number =
    let some = some_drawn number STEM_DRAWS (omega arith) in
    omega (arith, length-map (stems_drawn number STEM_DRAWS) stem_spelled)
