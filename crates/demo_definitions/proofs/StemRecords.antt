-- The records of the stem file are the stems with their class: the bytes of a stem are no marks of the format, so its record is
-- written as csv writes it.
use Rattle.std.proofs.Common.{◌≡◌, ℕ, zero, suc, ◌+◌, ◌*◌, ◌<◌, ◌≤◌, true, false, not, Some, None, List, [], ◌∷◌, ◌++◌, length, map, refl, sym, ap, subst, arith, append_assoc, length-append}
use Rattle.std.specs.Prelude.{codes, ◌==◌}
use Rattle.std.specs.List.{AllByRecursion, list_any, list_all, flat_map}
use Rattle.std.proofs.lemmas.Bool.{and_parts, not-true}
use Rattle.csv.specs.Machine.{next_record}
use Rattle.csv.specs.Reading.{default_config, records_from, strip_bom}
use Rattle.csv.specs.Writing.{default_writer, needs_byte, row_text, fields_text, is_blank}
use Rattle.csv.specs.declared.parser.State.TheVariants as st
use Rattle.csv.proofs.RoundTrip.{read-write-many}
use Rattle.paradigm_file_definitions.specs.Records.{records_of}
use Rattle.demo_definitions.specs.DrawnStems.{stems_of_number}
use Rattle.demo_definitions.specs.SourceTexts.{stem_record, demo_stems}
use Rattle.demo_definitions.proofs.DemoBytes.{is_demo_byte, passes}
use Rattle.demo_definitions.proofs.StemTexts.{IsStemText, stems_are_texts}

-- no byte calls for quotes
no_mark : (byte : ℕ) → is_demo_byte byte ≡ true → needs_byte default_writer byte ≡ false
no_mark byte h = not-true _ (passes (λ b. not (needs_byte default_writer b)) (codes "kgcjtdpbmyaiuAeHno") byte refl h)

no_marks : (text : List ℕ) → list_all is_demo_byte text ≡ true → list_any (needs_byte default_writer) text ≡ false
no_marks [] h = refl
no_marks (byte ∷ text) h =
    let parts = and_parts (is_demo_byte byte) (list_all is_demo_byte text) h in
    rw (no_mark byte parts.0, no_marks text parts.1) refl

-- the fields of a stem's record
abbrev pub stem_fields : List ℕ → List (List ℕ)
stem_fields stem = stem ∷ codes "a" ∷ []

-- a stem's record is written so
written : (stem : List ℕ) → IsStemText stem → row_text default_writer (stem_fields stem) ≡ stem_record stem
unfolding fields_text is_blank
written stem is = rw (no_marks stem is.bytes) (append_assoc stem (44 ∷ 97 ∷ []) (10 ∷ []))

next_is : (stem tail : List ℕ) → IsStemText stem
    → next_record default_config st.StartRecord [] [] (stem_record stem ++ tail) ≡ Some (stem_fields stem, st.StartRecord, tail)
next_is stem tail is =
    subst (λ (text : List ℕ). next_record default_config st.StartRecord [] [] (text ++ tail) ≡ Some (stem_fields stem, st.StartRecord, tail))
    (written stem is) (read-write-many stem (codes "a") [] tail)

no_record : next_record default_config st.StartRecord [] [] [] ≡ None
unfolding next_record
no_record = refl

-- the records of stems, where as many may be read
records_are : (stems : List (List ℕ)) (more : ℕ) → AllByRecursion IsStemText stems → length stems < more
    → records_from default_config more st.StartRecord (flat_map stem_record stems) ≡ map stem_fields stems
unfolding records_from
records_are stems zero all enough = absurd (omega arith)
records_are [] (suc more) all enough = rw no_record refl
records_are (stem ∷ stems) (suc more) all enough =
    rw (next_is stem (flat_map stem_record stems) all.0)
    (ap (λ (rows : List (List (List ℕ))). stem_fields stem ∷ rows) (records_are stems more all.1 (omega arith)))

-- a file is longer than it has records
longer : (stems : List (List ℕ)) → length stems ≤ length (flat_map stem_record stems)
longer [] = omega arith
longer (stem ∷ stems) =
    let rest = longer stems in
    omega (arith, length-append (stem_record stem) (flat_map stem_record stems), length-append stem (codes ",a\n"))

no_mark_before : (byte : ℕ) → is_demo_byte byte ≡ true → (byte == 239) ≡ false
no_mark_before byte h = not-true _ (passes (λ b. not (b == 239)) (codes "kgcjtdpbmyaiuAeHno") byte refl h)

no_bom : (stems : List (List ℕ)) → AllByRecursion IsStemText stems → strip_bom (flat_map stem_record stems) ≡ flat_map stem_record stems
unfolding strip_bom
no_bom [] all = refl
no_bom (stem ∷ stems) all =
    let is = all.0 in
    let text = is.first ∷ is.second ∷ is.third ∷ is.fourth ∷ is.fifth ∷ is.last ∷ [] in
    let bytes : list_all is_demo_byte text ≡ true = subst (λ (t : List ℕ). list_all is_demo_byte t ≡ true) is.is is.bytes in
    let other = no_mark_before is.first (and_parts (is_demo_byte is.first) _ bytes).0 in
    subst (λ (t : List ℕ). strip_bom (flat_map stem_record (t ∷ stems)) ≡ flat_map stem_record (t ∷ stems)) (sym is.is) (rw other refl)

pub stem_records : (stems : List (List ℕ)) → AllByRecursion IsStemText stems → records_of (flat_map stem_record stems) ≡ map stem_fields stems
stem_records stems all =
    rw (no_bom stems all) (records_are stems (length (flat_map stem_record stems) + 1) all (let long = longer stems in omega arith))

-- a record has nine bytes
nine_each : (stems : List (List ℕ)) → AllByRecursion IsStemText stems → length (flat_map stem_record stems) ≡ 9 * length stems
nine_each [] all = refl
nine_each (stem ∷ stems) all =
    let rest = nine_each stems all.1 in
    let six : length stem ≡ 6 = ap length all.0.is in
    omega (arith, length-append (stem_record stem) (flat_map stem_record stems), length-append stem (codes ",a\n"))

-- so the stem file is short
pub short_file : (number : ℕ) → length (demo_stems number) ≤ 9000
unfolding demo_stems
short_file number =
    let texts = stems_are_texts number in
    let nine = nine_each (stems_of_number number) texts.each in
    let few = texts.few in
    omega arith
