-- A drawn word is a form of its stem: no letter of it is one that internal sandhi changes, or that changes another, so front and
-- ending are joined as they stand.
use Rattle.std.proofs.Common.{◌≡◌, ℕ, zero, suc, ◌-◌, ◌/◌, ◌^◌, ◌<◌, inl, inr, Bool, true, false, not, ◌&&◌, List, [], ◌∷◌, ◌++◌, length, map, get_or, refl, sym, ◌∙◌, ap, subst, arith}
use Rattle.std.specs.Prelude.{codes, ◌==◌, slice_index, Contains}
use Rattle.std.specs.List.{list_all}
use Rattle.std.proofs.lemmas.Bool.{and_parts}
use Rattle.std.proofs.lemmas.List.{map-append}
use Rattle.std.proofs.lemmas.List.Elements.{Contains-get_or}
use Rattle.list_laws.proofs.Sorted.{Contains-first, Contains-later}
use Rattle.text_definitions.specs.Slp1.{slp1_table}
use Rattle.morphology_definitions.specs.InternalSandhi.{IsJoined, IsTurningNasal, TurnsLaterNasal}
use Rattle.morphology_definitions.specs.Inflection.{Row, Stem, without_last, front_of, rows_of}
use Rattle.demo_definitions.specs.Draws.{next_seed, drawn_of}
use Rattle.demo_definitions.specs.DrawnStems.{stems_of_number}
use Rattle.demo_definitions.specs.DrawnTexts.{endings, word_drawn}
use Rattle.demo_definitions.specs.SourceContents.{demo_classes, letters_spelled, stem_spelled, stems_spelled}
use Rattle.demo_definitions.proofs.DemoBytes.{is_demo_byte, passes, code_of, letters_are, all_appended, all_taken, remainder_below}
use Rattle.demo_definitions.proofs.StemTexts.{IsStemText, stems_are_texts, some_stems}
use Rattle.demo_definitions.proofs.StemsRead.{six_letters}
use Rattle.demo_definitions.proofs.DrawnWords.{IsText, stem_at, ending_at}

-- ---- letters that stay

-- the letter is not s, z, r, f or F
abbrev stays : ℕ → Bool
stays letter = not (letter == 48) && not (letter == 47) && not (letter == 43) && not (letter == 7) && not (letter == 8)

code_stays : (byte : ℕ) → is_demo_byte byte ≡ true → stays (code_of byte) ≡ true
unfolding slp1_table
code_stays byte h = passes (λ b. stays (code_of b)) (codes "kgcjtdpbmyaiuAeHno") byte refl h

letters_stay : (text : List ℕ) → list_all is_demo_byte text ≡ true → list_all stays (map code_of text) ≡ true
letters_stay [] h = refl
letters_stay (byte ∷ text) h =
    let parts = and_parts (is_demo_byte byte) (list_all is_demo_byte text) h in
    rw (code_stays byte parts.0, letters_stay text parts.1) refl

at_any : (word : List ℕ) (at : ℕ) → list_all stays word ≡ true → stays (slice_index word at) ≡ true
at_any [] at h = refl
at_any (letter ∷ word) zero h = (and_parts (stays letter) (list_all stays word) h).0
at_any (letter ∷ word) (suc at) h = at_any word at (and_parts (stays letter) (list_all stays word) h).1

-- a letter that stays is not one of them
is_not : (letter other : ℕ) → stays letter ≡ true → letter ≡ other → stays other ≡ false → ⊥
is_not letter other h e changes =
    let same : stays other ≡ true = subst (λ (n : ℕ). stays n ≡ true) e h in
    cc

module _ (front ending : List ℕ) (all : list_all stays (front ++ ending) ≡ true) where
  word : List ℕ
  word = front ++ ending

  no_turner : (at : ℕ) → TurnsLaterNasal (slice_index word at) → ⊥
  unfolding word
  no_turner at (inl e) = is_not _ 47 (at_any (front ++ ending) at all) e refl
  no_turner at (inr (inl e)) = is_not _ 43 (at_any (front ++ ending) at all) e refl
  no_turner at (inr (inr (inl e))) = is_not _ 7 (at_any (front ++ ending) at all) e refl
  no_turner at (inr (inr (inr e))) = is_not _ 8 (at_any (front ++ ending) at all) e refl

  no_nasal : (at : ℕ) → IsTurningNasal (length front) word word at → ⊥
  unfolding word
  no_nasal at (nasal, inl turned) =
      let was = turned.was in
      let now = turned.is_now in
      omega arith
  no_nasal at (nasal, inr (follows, reached)) = no_turner reached.place reached.turner

  -- what is joined is the one and then the other
  pub joined_as_they_stand : IsJoined front ending (front ++ ending)
  unfolding word
  joined_as_they_stand = record {
    after_sibilants = front ++ ending;
    after_stops = front ++ ending;
    sibilants = record {
      same_length = refl;
      front = λ i below. refl;
      turns = λ i from turning. absurd (is_not _ 48 (at_any (front ++ ending) i all) turning.sibilant refl);
      stays = λ i keeps. refl;
    };
    stops = record {
      same_length = refl;
      front = λ i below. refl;
      turns = λ i from turning. absurd (is_not _ 47 (at_any (front ++ ending) (i - 1) all) turning.after_z refl);
      stays = λ i keeps. refl;
    };
    nasals = record {
      same_length = refl;
      front = λ i below. refl;
      turns = λ i from turning. absurd (no_nasal i turning);
      stays = λ i keeps. refl;
    };
  }

-- ---- the forms of a stem

-- the rows of the class a
abbrev no_row : Row
no_row = record { tag = []; phase = 0; prefix = []; cut = 0; ending = [] }

abbrev row_at : ℕ → Row
row_at row = get_or (rows_of demo_classes 0) row no_row

-- a row of the first four joins the ending that its text spells to the stem without its last letter
row_is : (row : ℕ) (stem : List ℕ) → row < 4
    → (row_at row).ending ≡ map code_of (get_or endings row []) × (front_of (row_at row) stem ≡ without_last 1 stem) × (row < length (rows_of demo_classes 0))
unfolding demo_classes slp1_table
row_is zero stem below = (refl, refl, omega arith)
row_is (suc zero) stem below = (refl, refl, omega arith)
row_is (suc (suc zero)) stem below = (refl, refl, omega arith)
row_is (suc (suc (suc zero))) stem below = (refl, refl, omega arith)
row_is (suc (suc (suc (suc row)))) stem below = absurd (omega arith)

spelled_at : (texts : List (List ℕ)) (at : ℕ) → at < length texts → Contains (map stem_spelled texts) (stem_spelled (get_or texts at []))
spelled_at [] at below = absurd (omega arith)
spelled_at (text ∷ texts) zero below = Contains-first (stem_spelled text) (map stem_spelled texts)
spelled_at (text ∷ texts) (suc at) below =
    Contains-later (stem_spelled text) (map stem_spelled texts) (stem_spelled (get_or texts at [])) (spelled_at texts at (omega arith))

module _ (stem ending : List ℕ) (is : IsStemText stem) (end : IsText 3 ending) where
  base_bytes : list_all is_demo_byte (without_last 1 stem) ≡ true
  base_bytes = all_taken is_demo_byte (length stem - 1) stem is.bytes

  base_letters : map code_of (without_last 1 stem) ≡ without_last 1 (letters_spelled stem)
  base_letters = ap (λ (text : List ℕ). map code_of (without_last 1 text)) is.is ∙ sym (ap (without_last 1) (six_letters stem is))

  word_letters : letters_spelled (without_last 1 stem ++ ending) ≡ without_last 1 (letters_spelled stem) ++ map code_of ending
  word_letters =
      letters_are (without_last 1 stem ++ ending) (all_appended is_demo_byte (without_last 1 stem) ending base_bytes end.bytes)
      ∙ map-append code_of (without_last 1 stem) ending
      ∙ ap (λ (front : List ℕ). front ++ map code_of ending) base_letters

  all_stay : list_all stays (without_last 1 (letters_spelled stem) ++ map code_of ending) ≡ true
  all_stay =
      all_appended stays (without_last 1 (letters_spelled stem)) (map code_of ending)
      (subst (λ (letters : List ℕ). list_all stays letters ≡ true) base_letters (letters_stay (without_last 1 stem) base_bytes))
      (letters_stay ending end.bytes)

  formed : IsJoined (without_last 1 (letters_spelled stem)) (map code_of ending) (letters_spelled (without_last 1 stem ++ ending))
  formed =
      subst (λ (word : List ℕ). IsJoined (without_last 1 (letters_spelled stem)) (map code_of ending) word) (sym word_letters)
      (joined_as_they_stand (without_last 1 (letters_spelled stem)) (map code_of ending) all_stay)

-- a drawn word is the form of a drawn stem in one of the first four rows
pub word_is_form : (number seed : ℕ) → (row : Row) × (stem : Stem) × Contains (rows_of demo_classes 0) row × Contains (stems_spelled number) stem
    × IsJoined (front_of row stem.letters) row.ending (letters_spelled (word_drawn (stems_of_number number) seed))
unfolding word_drawn stems_spelled
word_is_form number seed =
    let stems = stems_of_number number in
    let at = drawn_of (length stems) seed in
    let row = drawn_of 4 (next_seed seed) in
    let below : at < length stems = remainder_below (length stems) (next_seed seed / 2 ^ 33) (some_stems number) in
    let low : row < 4 = remainder_below 4 (next_seed (next_seed seed) / 2 ^ 33) (omega arith) in
    let text = get_or stems at [] in
    let rows = row_is row (letters_spelled text) low in (
      row_at row,
      stem_spelled text,
      Contains-get_or (rows_of demo_classes 0) row no_row rows.2,
      spelled_at stems at below,
      subst (λ (end : List ℕ). IsJoined (front_of (row_at row) (letters_spelled text)) end (letters_spelled (without_last 1 text ++ get_or endings row []))) (sym rows.0)
          (subst (λ (front : List ℕ). IsJoined front (map code_of (get_or endings row [])) (letters_spelled (without_last 1 text ++ get_or endings row []))) (sym rows.1)
          (formed text (get_or endings row []) (stem_at stems at (stems_are_texts number).each below) (ending_at row low))),
    )
