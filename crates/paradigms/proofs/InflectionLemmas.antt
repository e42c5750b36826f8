-- The entries of each stem, put one after another, are those of all stems; list by list.
use Rattle.std.proofs.Common.{◌≡◌, ℕ, ◌<◌, ◌≤◌, ◌+◌, List, [], ◌∷◌, ◌++◌, length, map, get_or, take, All, Result, Ok, Err, sym, ◌∙◌, ap, subst, arith}
use Rattle.std.specs.Result.{IfOk, MatchResult}
use Rattle.std.specs.List.{Contains}
use Rattle.std.specs.List.{AllZip, flat_map}
use Rattle.std.proofs.lemmas.List.{get_or-map, length-map, map-append, take_more}
use Rattle.std.proofs.lemmas.Slice.Zip.{all_zipped_more}
use Rattle.form_tags.specs.declared.entry.Entry.{Entry}
use Rattle.form_tags.specs.Entries.{text_entry}
use Rattle.lexicon_definitions.specs.FormEntries.{Entry as TextEntry}
use Rattle.morphology_definitions.specs.Inflection as inflection
use Rattle.morphology_definitions.specs.Inflection.{AreAllInflected, AreInflected, Class, IsInflectable, IsInflectableStem, IsInflected, rows_of, rows_with}
use Rattle.paradigms.specs.declared.row.Row.{Row}
use Rattle.paradigms.specs.declared.stem.Stem.{Stem}
use Rattle.paradigms.specs.Rows.{text_row, text_stem}
use Rattle.lexicon_definitions.proofs.FirstPlaces.{mapped_at}

-- ---- lists side by side

pub zip-mapped : {A B X Y : Type 0} (R : X → Y → Type 0) (f : A → X) (g : B → Y) (xs : List A) (ys : List B) → AllZip (λ x y. R (f x) (g y)) xs ys → AllZip R (map f xs) (map g ys)
zip-mapped R f g [] [] h = tt
zip-mapped R f g [] (y ∷ ys) h = absurd h
zip-mapped R f g (x ∷ xs) [] h = absurd h
zip-mapped R f g (x ∷ xs) (y ∷ ys) h = (h.0, zip-mapped R f g xs ys h.1)

zip-append : {X Y : Type 0} (R : X → Y → Type 0) (xs more : List X) (ys others : List Y) → AllZip R xs ys → AllZip R more others → AllZip R (xs ++ more) (ys ++ others)
zip-append R [] more [] others h k = k
zip-append R [] more (y ∷ ys) others h k = absurd h
zip-append R (x ∷ xs) more [] others h k = absurd h
zip-append R (x ∷ xs) more (y ∷ ys) others h k = (h.0, zip-append R xs more ys others h.1 k)

-- ---- one stem

-- a row whose form is one has no more letters to cut than the stem has
pub cut_fits : (stem : List ℕ) (rows : List Row) (i : ℕ) (row : Row) → All (IsInflectable stem) (map text_row rows) → i < length (map text_row rows) → i < length rows → row ≡ get_or rows i row
    → row.cut ≤ length stem
cut_fits stem rows i row all inside below is =
    let one = all i (text_row row) inside in
    (subst (IsInflectable stem) (mapped_at text_row rows i row (text_row row) below is) one).cut

-- one entry more
pub entry_more : (stem : List ℕ) (rows : List Row) (entries after : List Entry) (i : ℕ) (row : Row) (entry : Entry) → AllZip (λ row entry. IsInflected (text_row row) stem (text_entry entry)) (take i rows) entries
    → i < length rows → row ≡ get_or rows i row → IsInflected (text_row row) stem (text_entry entry) → after ≡ entries ++ entry ∷ []
    → AllZip (λ row entry. IsInflected (text_row row) stem (text_entry entry)) (take (i + 1) rows) after
entry_more stem rows entries after i row entry told inside is one pushed =
    let longer : take (i + 1) rows ≡ take i rows ++ row ∷ [] = take_more rows i row inside ∙ ap (λ row. take i rows ++ row ∷ []) (sym is) in
    subst (λ rows. AllZip (λ row entry. IsInflected (text_row row) stem (text_entry entry)) rows after) (sym longer)
    (subst (AllZip (λ row entry. IsInflected (text_row row) stem (text_entry entry)) (take i rows ++ row ∷ [])) (sym pushed)
    (all_zipped_more (λ row entry. IsInflected (text_row row) stem (text_entry entry)) (take i rows) entries row entry told one))

-- ---- all stems

-- the entries of one stem, row by row with the stem
with_stem : (stem : List ℕ) (rows : List inflection.Row) (entries : List TextEntry) → AreInflected rows stem entries
    → AllZip (λ (pair : inflection.Row × List ℕ) (entry : TextEntry). IsInflected pair.0 pair.1 entry) (map (λ row. (row, stem)) rows) entries
with_stem stem [] [] h = tt
with_stem stem [] (entry ∷ entries) h = absurd h
with_stem stem (row ∷ rows) [] h = absurd h
with_stem stem (row ∷ rows) (entry ∷ entries) h = (h.0, with_stem stem rows entries h.1)

pub all_inflected : {P : Type 0} (items : P → List Entry) (classes : List Class) (stems : List Stem) (parts : List P)
    → AllZip (λ stem part. AreInflected (rows_of classes stem.class) stem.letters (map text_entry (items part))) stems parts
    → AreAllInflected classes (map text_stem stems) (map text_entry (flat_map items parts))
all_inflected items classes [] [] h = tt
all_inflected items classes [] (part ∷ parts) h = absurd h
all_inflected items classes (stem ∷ stems) [] h = absurd h
all_inflected items classes (stem ∷ stems) (part ∷ parts) h =
    subst (AllZip (λ (pair : inflection.Row × List ℕ) (entry : TextEntry). IsInflected pair.0 pair.1 entry) (flat_map (rows_with classes) (map text_stem (stem ∷ stems))))
    (sym (map-append text_entry (items part) (flat_map items parts)))
    (zip-append (λ (pair : inflection.Row × List ℕ) (entry : TextEntry). IsInflected pair.0 pair.1 entry) (rows_with classes (text_stem stem)) (flat_map (rows_with classes) (map text_stem stems))
    (map text_entry (items part)) (map text_entry (flat_map items parts)) (with_stem stem.letters (rows_of classes stem.class) (map text_entry (items part)) h.0) (all_inflected items classes stems parts h.1))

-- ---- what several threads answer

-- each stem of a slice is one that is known of
pub stem_ready : (classes : List Class) (stems slice : List Stem) → slice ≡ stems → All (IsInflectableStem classes) (map text_stem stems) → (k : ℕ) (d x : Stem) → k < length slice → x ≡ get_or slice k d
    → IsInflectableStem classes (text_stem x)
stem_ready classes stems slice same all k d x inside is =
    let within : k < length stems = subst (λ (slice : List Stem). k < length slice) same inside in
    let long = length-map stems text_stem in
    let mapped : k < length (map text_stem stems) = omega (arith, within, long) in
    let here : x ≡ get_or stems k d = is ∙ ap (λ slice. get_or slice k d) same in
    subst (IsInflectableStem classes) (get_or-map text_stem stems k d (text_stem d) within ∙ ap text_stem (sym here)) (all k (text_stem d) mapped)

values_ok : {X T : Type 0} (E : Type 0) (R : X → T → Type 0) (xs : List X) (values : List T) → AllZip (λ x (result : Result T E). IfOk result (R x)) xs (map Ok values) → AllZip R xs values
values_ok E R [] [] h = tt
values_ok E R [] (value ∷ values) h = absurd h
values_ok E R (x ∷ xs) [] h = absurd h
values_ok E R (x ∷ xs) (value ∷ values) h = (h.0, values_ok E R xs values h.1)

-- where no answer is an error, the answers' values stand side by side with the stems
pub all_ok : {X T E : Type 0} (R : X → T → Type 0) (xs : List X) (results : List (Result T E)) (values : List T) → AllZip (λ x result. IfOk result (R x)) xs results → results ≡ map Ok values
    → AllZip R xs values
all_ok {E = E} R xs results values h same = values_ok E R xs values (subst (AllZip (λ x result. IfOk result (R x)) xs) same h)

-- what several threads answer, gathered
pub gathered : {X T E V : Type 0} (items : V → List T) (R : X → T → Type 0) (xs : List X) (results : List (Result T E)) (whole : Result V E) → AllZip (λ x result. IfOk result (R x)) xs results
    → MatchResult whole (λ v. (ys : List T) × (results ≡ map Ok ys) × (items v ≡ ys)) (λ e. Contains results (Err e)) → IfOk whole (λ v. AllZip R xs (items v))
gathered items R xs results (Ok v) h m = subst (AllZip R xs) (sym m.2) (all_ok R xs results m.0 h m.1)
gathered items R xs results (Err e) h m = tt
