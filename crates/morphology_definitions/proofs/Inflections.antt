-- A row and a stem have one entry since their joined word is one, and there is one since there is a joined word; lists row by row.
use Rattle.std.proofs.Common.{◌≡◌, ℕ, List, [], ◌∷◌, length, refl, sym, ◌∙◌}
use Rattle.std.specs.List.{AllZip, flat_map}
use Rattle.lexicon_definitions.specs.FormEntries.{Entry}
use Rattle.morphology_definitions.specs.Inflection.{Row, Class, Stem, IsInflected, AreAllInflected, front_of, form_length, rows_with}
use Rattle.morphology_definitions.proofs.JoinedWord.{IsJoined-once, length-IsJoined}
use Rattle.morphology_definitions.proofs.JoinedExists.{IsJoined-exists}

pub inflected-once : (row : Row) (stem : List ℕ) (left right : Entry) → IsInflected row stem left → IsInflected row stem right → left ≡ right
inflected-once row stem left right l r =
    let phases : left.phase ≡ right.phase = l.phase ∙ sym r.phase in
    let analyses = l.analysis ∙ sym r.analysis in
    let forms = IsJoined-once (front_of row stem) row.ending left.letters right.letters l.form r.form in
    λ i. record { phase = phases i; letters = forms i; analysis = analyses i }

pub inflected-length : (row : Row) (stem : List ℕ) (entry : Entry) → IsInflected row stem entry → length entry.letters ≡ form_length row stem
inflected-length row stem entry h = length-IsJoined (front_of row stem) row.ending entry.letters h.form

-- the entry that there is
inflected-entry : (row : Row) (stem : List ℕ) → (entry : Entry) × IsInflected row stem entry
inflected-entry row stem =
    let joined = IsJoined-exists (front_of row stem) row.ending in (
      record { phase = row.phase; letters = joined.0; analysis = record { stem = stem; tag = row.tag } },
      record { phase = refl; analysis = refl; form = joined.1 },
    )

-- what holds of each pair makes the lists one, and gives a list
zipped-once : {A B : Type 0} (R : A → B → Type 0) → ((x : A) (y z : B) → R x y → R x z → y ≡ z) → (xs : List A) (ys zs : List B) → AllZip R xs ys → AllZip R xs zs → ys ≡ zs
zipped-once R one [] [] [] l r = refl
zipped-once R one [] [] (z ∷ zs) l r = absurd r
zipped-once R one [] (y ∷ ys) zs l r = absurd l
zipped-once R one (x ∷ xs) [] zs l r = absurd l
zipped-once R one (x ∷ xs) (y ∷ ys) [] l r = absurd r
zipped-once R one (x ∷ xs) (y ∷ ys) (z ∷ zs) l r = λ i. one x y z l.0 r.0 i ∷ zipped-once R one xs ys zs l.1 r.1 i

zipped-exists : {A B : Type 0} (R : A → B → Type 0) → ((x : A) → (y : B) × R x y) → (xs : List A) → (ys : List B) × AllZip R xs ys
zipped-exists R some [] = ([], tt)
zipped-exists R some (x ∷ xs) =
    let first = some x in
    let rest = zipped-exists R some xs in
    (first.0 ∷ rest.0, (first.1, rest.1))

pub all_inflected-once : (classes : List Class) (stems : List Stem) (left right : List Entry) → AreAllInflected classes stems left → AreAllInflected classes stems right → left ≡ right
all_inflected-once classes stems left right l r =
    zipped-once (λ (pair : Row × List ℕ) (entry : Entry). IsInflected pair.0 pair.1 entry) (λ pair one other. inflected-once pair.0 pair.1 one other) (flat_map (rows_with classes) stems) left right l r

pub all_inflected-exists : (classes : List Class) (stems : List Stem) → (entries : List Entry) × AreAllInflected classes stems entries
all_inflected-exists classes stems =
    zipped-exists (λ (pair : Row × List ℕ) (entry : Entry). IsInflected pair.0 pair.1 entry) (λ pair. inflected-entry pair.0 pair.1) (flat_map (rows_with classes) stems)
