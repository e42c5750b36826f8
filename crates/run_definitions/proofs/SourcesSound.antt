-- What is read of tables and stems is sound: rows have a phase of the rule file, a tag and words, and stems are words that are not too
-- long. So the entries of stems may stand in a lexicon that has a text, since a turned letter is a letter again.
use Rattle.std.proofs.Common.{◌≡◌, ◌≢◌, ℕ, zero, suc, ◌+◌, ◌<◌, Bool, true, false, Option, Some, None, Result, Ok, Err, List, [], ◌∷◌, ◌++◌, length, inl, inr, refl, sym, ap, subst, arith, ◌≤◌, ◌||◌, nat_lt}
use Rattle.std.specs.Prelude.{if◌then◌else◌, ◌==◌, slice_index}
use Rattle.std.specs.List.{All, AllZip, list_any, position, flat_map}
use Rattle.std.specs.Str.{bytes_eq}
use Rattle.std.proofs.lemmas.Bool.{cases_lt, or_parts, ltb-false}
use Rattle.std.proofs.lemmas.List.{get_or_default}
use Rattle.std.proofs.lemmas.List.Elements.{All-push, All-nil, All-cons, All-head, All-tail, All-append, All-take, All-contains}
use Rattle.std.proofs.lemmas.List.Quantifiers.{position-Some}
use Rattle.list_laws.proofs.Sorted.{All-from_Contains}
use Rattle.list_laws.proofs.FirstOnes.{Contains-map_cases}
use Rattle.list_laws.proofs.Booleans.{if_refused}
use Rattle.text_definitions.specs.Letters.{IsLetter}
use Rattle.text_definitions.specs.Words.{IsWord}
use Rattle.text_definitions.specs.Spellings.{Reading}
use Rattle.text_definitions.specs.Slp1.{word_of_slp1}
use Rattle.text_definitions.proofs.SpelledWords.{word_from_read}
use Rattle.lexicon_definitions.specs.Tags.{IsTagText}
use Rattle.lexicon_definitions.specs.Lexicons.{IsAnalysis}
use Rattle.lexicon_definitions.specs.FormEntries.{Entry, IsListedStem}
use Rattle.lexicon_definitions.specs.declared.limits.TheConstants.{MOST_FORM_LETTERS}
use Rattle.lexicon_definitions.proofs.FormsPlaced.{some_length}
use Rattle.lexicon_text_definitions.specs.FileContents.{is_tag_text}
use Rattle.lexicon_text_definitions.specs.FileSteps.{some_word}
use Rattle.lexicon_text_definitions.proofs.TagTests.{tag_from_test}
use Rattle.trie_text_definitions.proofs.SuffixLaws.{Contains-flat_map_cases}
use Rattle.morphology_definitions.specs.InternalSandhi.{TurnsFrom, IsJoined, IsTurningSibilant, IsTurningStop, IsTurningNasal, letter_z, letter_w, letter_W, letter_t, letter_R}
use Rattle.morphology_definitions.specs.Inflection.{Row, Class, Stem, IsInflected, AreAllInflected, IsInflectable, IsInflectableStem, front_of, without_last, rows_of, rows_with}
use Rattle.morphology_definitions.proofs.Inflections.{inflected-length}
use Rattle.paradigm_file_definitions.specs.Records.{read_on, read_records, records_of}
use Rattle.paradigm_file_definitions.specs.TableFaults as table
use Rattle.paradigm_file_definitions.specs.TableFiles.{has_name, has_row, with_row, with_last_row, passes_row_limits, is_class_name, cut_of, take_row, take_affixes, take_phase, take_cut, take_table, tables_of}
use Rattle.paradigm_file_definitions.specs.StemFaults as stem
use Rattle.paradigm_file_definitions.specs.declared.limits.TheConstants.{MOST_STEM_RECORDS, MOST_INFLECTIONS}
use Rattle.paradigm_file_definitions.specs.StemFiles.{is_same_stem, is_too_short, is_too_long, count_inflections, passes_stem_limits, take_classed, take_class, take_letters, take_stem, stems_of}
use Rattle.run_definitions.specs.SoundSources.{IsSoundRow, HasSoundRows, IsStemWord, HasStemWord, IsSoundEntry}

-- ---- joined words

-- what is not refuted is a letter, since a number is one or is none
letter_if_not_refuted : (n : ℕ) → ((IsLetter n → ⊥) → ⊥) → IsLetter n
letter_if_not_refuted n h =
    elim (cases_lt n 1) [
      | inl low ↦ absurd (h (λ l. let some = l.0 in omega (arith, low, some)))
      | inr some ↦ elim (cases_lt 50 n) [
        | inl above ↦ absurd (h (λ l. let within = l.1 in omega (arith, above, within)))
        | inr within ↦ (some, within)
      ]
    ]

turned_word : (start : ℕ) (Turns : ℕ → Type 0) (turned : ℕ → ℕ) (old new : List ℕ) → TurnsFrom start Turns turned old new
    → ((n : ℕ) → IsLetter n → IsLetter (turned n)) → IsWord old → IsWord new
turned_word start Turns turned old new h keeps word k d below =
    let within : k < length old = omega (arith, h.same_length, below) in
    let was : IsLetter (slice_index old k) = word k 0 within in
    let now : IsLetter (slice_index new k) = elim (cases_lt k start) [
      | inl in_front ↦ subst IsLetter (sym (h.front k in_front)) was
      | inr later ↦ letter_if_not_refuted (slice_index new k) (λ none.
          let stays : Turns k → ⊥ = λ t. none (subst IsLetter (sym (h.turns k later t)) (keeps (slice_index old k) was)) in
          none (subst IsLetter (sym (h.stays k stays)) was))
    ] in
    subst IsLetter (get_or_default new k 0 d below) now

turned_stop : (test : Bool) → IsLetter (if test then letter_w else letter_W)
turned_stop true = (omega arith, omega arith)
turned_stop false = (omega arith, omega arith)

joined_word : (front ending result : List ℕ) → IsJoined front ending result → IsWord front → IsWord ending → IsWord result
joined_word front ending result h f e =
    let start = length front in
    let together : IsWord (front ++ ending) = All-append IsLetter front ending f e in
    let sibilants : IsWord h.after_sibilants =
    turned_word start (IsTurningSibilant (front ++ ending)) (λ n. letter_z) (front ++ ending) h.after_sibilants h.sibilants (λ n l. (omega arith, omega arith)) together in
    let stops : IsWord h.after_stops =
    turned_word start (IsTurningStop h.after_sibilants) (λ n. if n == letter_t then letter_w else letter_W) h.after_sibilants h.after_stops h.stops
    (λ n l. turned_stop (n == letter_t)) sibilants in
    turned_word start (IsTurningNasal start h.after_stops result) (λ n. letter_R) h.after_stops result h.nasals (λ n l. (omega arith, omega arith)) stops

-- ---- entries

entry_sound : (count : ℕ) (row : Row) (stem : List ℕ) (entry : Entry) → IsSoundRow count row → IsStemWord stem → IsInflectable stem row
    → IsInflected row stem entry → IsSoundEntry count entry
entry_sound count row stem entry sound word inflectable is =
    let long = inflected-length row stem entry is in
    let some = inflectable.not_empty in
    let few = inflectable.short in
    let phase = is.phase in
    let below = sound.phase in
    let front : IsWord (front_of row stem) =
    All-append IsLetter row.prefix (without_last row.cut stem) sound.prefix (All-take IsLetter _ stem word.word) in
    record {
      phase = omega (arith, phase, below);
      word = joined_word (front_of row stem) row.ending entry.letters is.form front sound.ending;
      not_empty = λ e. let none : length entry.letters ≡ 0 = ap length e in omega (arith, none, long, some);
      short = omega (arith, long, few);
      analysis = subst IsAnalysis (sym is.analysis) (record { stem = word.word; tag = sound.tag });
      stem = subst IsListedStem (sym is.analysis) (record { not_empty = word.not_empty; short = word.short });
    }

-- what is asked of a row and a stem
record IsSoundPair (count : ℕ) (pair : Row × List ℕ) : Type 0 where
  row : IsSoundRow count pair.0
  word : IsStemWord pair.1
  inflectable : IsInflectable pair.1 pair.0

rows_sound : (count : ℕ) (classes : List Class) (number : ℕ) → All (HasSoundRows count) classes → All (IsSoundRow count) (rows_of classes number)
rows_sound count [] number each = All-nil (IsSoundRow count)
rows_sound count (class ∷ classes) zero each = All-head (HasSoundRows count) class classes each
rows_sound count (class ∷ classes) (suc number) each = rows_sound count classes number (All-tail (HasSoundRows count) class classes each)

pairs_sound : (count : ℕ) (classes : List Class) (stems : List Stem) → All (HasSoundRows count) classes → All HasStemWord stems
    → All (IsInflectableStem classes) stems → All (IsSoundPair count) (flat_map (rows_with classes) stems)
pairs_sound count classes stems rows words inflectable =
    All-from_Contains (IsSoundPair count) (flat_map (rows_with classes) stems) (λ pair m.
    let at = Contains-flat_map_cases (rows_with classes) stems pair m in
    let row = Contains-map_cases (λ (r : Row). (r, at.0.letters)) (rows_of classes at.0.class) pair at.2 in
    let stem = All-contains (IsInflectableStem classes) stems at.0 inflectable at.1 in
    subst (IsSoundPair count) row.2
    (record {
      row = All-contains (IsSoundRow count) (rows_of classes at.0.class) row.0 (rows_sound count classes at.0.class rows) row.1;
      word = All-contains HasStemWord stems at.0 words at.1;
      inflectable = All-contains (IsInflectable at.0.letters) (rows_of classes at.0.class) row.0 stem.rows row.1;
    }))

zipped_sound : (count : ℕ) (pairs : List (Row × List ℕ)) (entries : List Entry) → All (IsSoundPair count) pairs
    → AllZip (λ (pair : Row × List ℕ) (entry : Entry). IsInflected pair.0 pair.1 entry) pairs entries → All (IsSoundEntry count) entries
zipped_sound count [] [] sound is = All-nil (IsSoundEntry count)
zipped_sound count [] (entry ∷ entries) sound is = absurd is
zipped_sound count (pair ∷ pairs) [] sound is = absurd is
zipped_sound count (pair ∷ pairs) (entry ∷ entries) sound is =
    let here = All-head (IsSoundPair count) pair pairs sound in
    All-cons (IsSoundEntry count) entry entries (entry_sound count pair.0 pair.1 entry here.row here.word here.inflectable is.0)
    (zipped_sound count pairs entries (All-tail (IsSoundPair count) pair pairs sound) is.1)

-- the entries of sound sources are sound
pub entries_sound : (count : ℕ) (classes : List Class) (stems : List Stem) (entries : List Entry) → All (HasSoundRows count) classes
    → All HasStemWord stems → All (IsInflectableStem classes) stems → AreAllInflected classes stems entries → All (IsSoundEntry count) entries
entries_sound count classes stems entries rows words inflectable are =
    zipped_sound count (flat_map (rows_with classes) stems) entries (pairs_sound count classes stems rows words inflectable) are

-- ---- records one after another

-- what each record that is taken keeps is kept by all
module _ {Told Why : Type 0} (take_record : ℕ → Told → List (List ℕ) → Result Told Why) (P : Told → Type 0)
    (keeps : (number : ℕ) (told after : Told) (fields : List (List ℕ)) → take_record number told fields ≡ Ok after → P told → P after) where
  kept_on : (number : ℕ) (records : List (List (List ℕ))) (end : Told) (taken : Result Told Why)
      → ((after : Told) → taken ≡ Ok after → P after)
      → ((after : Told) → P after → read_records take_record (number + 1) after records ≡ Ok end → P end)
      → read_on number taken (λ following. read_records take_record (number + 1) following records) ≡ Ok end → P end
  kept_on number records end (Err why) one rest h = absurd (cc)
  kept_on number records end (Ok after) one rest h = rest after (one after refl) h

  kept : (records : List (List (List ℕ))) (number : ℕ) (told end : Told) → P told → read_records take_record number told records ≡ Ok end → P end
  kept [] number told end holds h = let same : told ≡ end = cc (h) in subst P same holds
  kept (fields ∷ records) number told end holds h =
      kept_on number records end (take_record number told fields)
      (λ after e. keeps number told after fields e holds)
      (λ after each e. kept records (number + 1) after end each e) h

-- ---- tables

module _ (names : List (List ℕ)) where
  abbrev count : ℕ
  count = length names

  abbrev HaveSoundRows : List Class → Type 0
  HaveSoundRows classes = All (HasSoundRows count) classes

  -- a sound row, put to the rows of its class
  sound_with : (name : List ℕ) (new : Row) (classes : List Class) → IsSoundRow count new → HaveSoundRows classes → HaveSoundRows (with_row name new classes)
  sound_with name new [] sound each =
      All-cons (HasSoundRows count) (record { name = name; rows = new ∷ [] }) []
      (All-cons (IsSoundRow count) new [] sound (All-nil (IsSoundRow count))) (All-nil (HasSoundRows count))
  sound_with name new (class ∷ classes) sound each =
      let here = All-head (HasSoundRows count) class classes each in
      let rest = All-tail (HasSoundRows count) class classes each in
      let motive : Bool → Type 0 = λ test. HaveSoundRows (if test then with_last_row new class ∷ classes else class ∷ with_row name new classes) in
      elim (has_name name class) as motive [
        | true ↦ All-cons (HasSoundRows count) (with_last_row new class) classes (All-push (IsSoundRow count) class.rows new here sound) rest
        | false ↦ All-cons (HasSoundRows count) class (with_row name new classes) here (sound_with name new classes sound rest)
      ]

  row_taken : (number : ℕ) (classes after : List Class) (name : List ℕ) (new : Row) → IsSoundRow count new → take_row number classes name new ≡ Ok after
      → HaveSoundRows classes → HaveSoundRows after
  row_taken number classes after name new sound h each =
      let first = if_refused (passes_row_limits number new) _ table.Limit after h in
      let second = if_refused (list_any (has_row name new) classes) _ table.Twice after first.1 in
      let same : with_row name new classes ≡ after = cc (second.1) in
      subst HaveSoundRows same (sound_with name new classes sound each)

  affixes_taken : (number : ℕ) (classes after : List Class) (name tag : List ℕ) (cut phase : ℕ) (prefix_text ending_text : List ℕ) (prefix ending : Reading)
      → word_of_slp1 prefix_text ≡ prefix → word_of_slp1 ending_text ≡ ending → phase < count → IsTagText tag
      → take_affixes number classes name tag cut phase prefix ending ≡ Ok after → HaveSoundRows classes → HaveSoundRows after
  affixes_taken number classes after name tag cut phase prefix_text ending_text (Ok prefix) (Ok ending) p e below is h each =
      row_taken number classes after name (record { tag = tag; phase = phase; prefix = prefix; cut = cut; ending = ending })
      (record { phase = below; tag = is; prefix = word_from_read prefix_text prefix p; ending = word_from_read ending_text ending e }) h each
  affixes_taken number classes after name tag cut phase prefix_text ending_text (Ok prefix) (Err fault) p e below is h each = absurd (cc)
  affixes_taken number classes after name tag cut phase prefix_text ending_text (Err fault) ending p e below is h each = absurd (cc)

  phase_taken : (number : ℕ) (classes after : List Class) (name tag : List ℕ) (cut : ℕ) (word : List ℕ) (phase : Option ℕ) (prefix ending : List ℕ)
      → phase ≡ position (bytes_eq word) names → IsTagText tag → take_phase number classes name tag cut phase prefix ending ≡ Ok after
      → HaveSoundRows classes → HaveSoundRows after
  phase_taken number classes after name tag cut word None prefix ending is tagged h each = absurd (cc)
  phase_taken number classes after name tag cut word (Some phase) prefix ending is tagged h each =
      affixes_taken number classes after name tag cut phase prefix ending (word_of_slp1 prefix) (word_of_slp1 ending) refl refl
      (position-Some (bytes_eq word) names phase [] (sym is)).0 tagged h each

  cut_taken : (number : ℕ) (classes after : List Class) (name tag phase : List ℕ) (cut : Option ℕ) (prefix ending : List ℕ)
      → take_cut names number classes name tag phase cut prefix ending ≡ Ok after → HaveSoundRows classes → HaveSoundRows after
  cut_taken number classes after name tag phase None prefix ending h each = absurd (cc)
  cut_taken number classes after name tag phase (Some cut) prefix ending h each =
      let go : (test : Bool) → is_tag_text tag ≡ test
      → (if test then take_phase number classes name tag cut (position (bytes_eq phase) names) prefix ending else Err table.Tag) ≡ Ok after → HaveSoundRows after = elim [
        | true ↦ λ t e. phase_taken number classes after name tag cut phase (position (bytes_eq phase) names) prefix ending refl (tag_from_test tag t) e each
        | false ↦ λ t e. absurd (cc)
      ] in
      go (is_tag_text tag) refl h

  table_taken : (number : ℕ) (classes after : List Class) (fields : List (List ℕ)) → take_table names number classes fields ≡ Ok after
      → HaveSoundRows classes → HaveSoundRows after
  unfolding take_table
  table_taken number classes after (name ∷ tag ∷ phase ∷ prefix ∷ cut ∷ ending ∷ []) h each =
      let go : (test : Bool) → (if test then take_cut names number classes name tag phase (cut_of cut) prefix ending else Err table.Fields) ≡ Ok after → HaveSoundRows after = elim [
        | true ↦ λ e. cut_taken number classes after name tag phase (cut_of cut) prefix ending e each
        | false ↦ λ e. absurd (cc)
      ] in
      go (is_class_name name) h
  table_taken number classes after fields h each = absurd (cc)

  pub tables_sound : (bytes : List ℕ) (classes : List Class) → tables_of names bytes ≡ Ok classes → HaveSoundRows classes
  unfolding tables_of
  tables_sound bytes classes h =
      kept (take_table names) HaveSoundRows table_taken (records_of bytes) 1 [] classes (All-nil (HasSoundRows count)) h

-- ---- stems

module _ (classes : List Class) where
  classed : (number : ℕ) (stems after : List Stem) (new : Stem) → IsWord new.letters → new.letters ≢ [] → take_classed classes number stems new ≡ Ok after
      → All HasStemWord stems → All HasStemWord after
  classed number stems after new word some h so_far =
      let rows = rows_of classes new.class in
      let first = if_refused (list_any (is_too_short new.letters) rows) _ stem.Short after h in
      let second = if_refused (passes_stem_limits classes number stems new) _ stem.Limit after first.1 in
      let third = if_refused (list_any (is_same_stem new) stems) _ stem.Twice after second.1 in
      let pushed : stems ++ new ∷ [] ≡ after = cc (third.1) in
      let long = nat_lt MOST_FORM_LETTERS (length new.letters) in
      let any = list_any (is_too_long new.letters) rows in
      let many = nat_lt MOST_STEM_RECORDS number in
      let forms = nat_lt MOST_INFLECTIONS (count_inflections classes stems + length rows) in
      let three = or_parts (long || any || many) forms second.0 in
      let two = or_parts (long || any) many three.0 in
      let one = or_parts long any two.0 in
      let here : HasStemWord new =
      record { word = word; not_empty = some_length new.letters some; short = ltb-false MOST_FORM_LETTERS (length new.letters) one.0 } in
      subst (All HasStemWord) pushed (All-push HasStemWord stems new so_far here)

  by_class : (number : ℕ) (stems after : List Stem) (letters : List ℕ) (class : Option ℕ) → IsWord letters → letters ≢ []
      → take_class classes number stems letters class ≡ Ok after → All HasStemWord stems → All HasStemWord after
  by_class number stems after letters None word some h so_far = absurd (cc)
  by_class number stems after letters (Some class) word some h so_far =
      classed number stems after (record { letters = letters; class = class }) word some h so_far

  by_reading : (number : ℕ) (stems after : List Stem) (text : List ℕ) (reading : Reading) (name : List ℕ) → word_of_slp1 text ≡ reading
      → take_letters classes number stems (some_word reading) name ≡ Ok after → All HasStemWord stems → All HasStemWord after
  by_reading number stems after text (Ok []) name is h so_far = absurd (cc)
  by_reading number stems after text (Ok (letter ∷ word)) name is h so_far =
      by_class number stems after (letter ∷ word) (position (has_name name) classes) (word_from_read text (letter ∷ word) is) (λ e. cc) h so_far
  by_reading number stems after text (Err fault) name is h so_far = absurd (cc)

  stem_taken : (number : ℕ) (stems after : List Stem) (fields : List (List ℕ)) → take_stem classes number stems fields ≡ Ok after
      → All HasStemWord stems → All HasStemWord after
  unfolding take_stem
  stem_taken number stems after (letters ∷ name ∷ []) h so_far = by_reading number stems after letters (word_of_slp1 letters) name refl h so_far
  stem_taken number stems after fields h so_far = absurd (cc)

  pub stems_are_words : (bytes : List ℕ) (stems : List Stem) → stems_of classes bytes ≡ Ok stems → All HasStemWord stems
  unfolding stems_of
  stems_are_words bytes stems h =
      kept (take_stem classes) (All HasStemWord) stem_taken (records_of bytes) 1 [] stems (All-nil HasStemWord) h
