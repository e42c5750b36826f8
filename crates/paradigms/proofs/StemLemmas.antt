-- The tests of a stem one after another, over the program's rows; a stem that is new goes last in the set of stems.
use Rattle.std.proofs.Common.{◌≡◌, ℕ, ◌+◌, Bool, true, false, cond, not, nat_lt, ◌||◌, List, [], ◌∷◌, ◌++◌, length, map, refl, sym, ◌∙◌, ap, arith, Ok, Err}
use Rattle.std.specs.List.{list_any}
use Rattle.std.proofs.lemmas.List.{length-map, map-append}
use Rattle.lexicon_definitions.specs.declared.limits.TheConstants.{MOST_FORM_LETTERS}
use Rattle.morphology_definitions.specs.Inflection as inflection
use Rattle.morphology_definitions.specs.Inflection.{Class, rows_of}
use Rattle.paradigm_file_definitions.specs.declared.limits.TheConstants.{MOST_STEM_RECORDS, MOST_INFLECTIONS}
use Rattle.paradigm_file_definitions.specs.StemFaults as stems
use Rattle.paradigm_file_definitions.specs.StemFiles.{is_too_short, is_too_long, is_same_stem, count_inflections, passes_stem_limits, take_classed}
use Rattle.paradigms.specs.contracts.stem.StemPartialEq.TheImpl.{eq-value as stem_eq}
use Rattle.paradigms.specs.declared.row.Row.{Row}
use Rattle.paradigms.specs.declared.stem.Stem.{Stem}
use Rattle.paradigms.specs.Rows.{text_row, text_stem}
use Rattle.paradigms.proofs.RowEquality.{same_stem}
use Rattle.list_laws.proofs.Booleans.{when_true, when_false, not_of_each_other}

any-map : {X Y : Type 0} (p : Y → Bool) (f : X → Y) (xs : List X) → list_any (λ x. p (f x)) xs ≡ list_any p (map f xs)
any-map p f [] = refl
any-map p f (x ∷ xs) = ap (λ b. p (f x) || b) (any-map p f xs)

any_stem : (new : Stem) (keys : List Stem) → list_any (stem_eq.it new) keys ≡ list_any (is_same_stem (text_stem new)) (map text_stem keys)
any_stem new [] = refl
any_stem new (stem ∷ keys) = λ i. same_stem new stem i || any_stem new keys i

module _ (classes : List Class) (number : ℕ) (told : List inflection.Stem) (new : inflection.Stem) (rows : List Row) (are : map text_row rows ≡ rows_of classes new.class) where
  pub short_told : list_any (λ row. is_too_short new.letters (text_row row)) rows ≡ list_any (is_too_short new.letters) (rows_of classes new.class)
  short_told = any-map (is_too_short new.letters) text_row rows ∙ ap (list_any (is_too_short new.letters)) are

  pub too_short : list_any (λ row. is_too_short new.letters (text_row row)) rows ≡ true → take_classed classes number told new ≡ Err stems.Short
  too_short h = when_true (list_any (is_too_short new.letters) (rows_of classes new.class)) _ _ _ (sym short_told ∙ h) refl

  module _ (forms : ℕ) (count : forms ≡ count_inflections classes told + length rows) where
    -- the tests of the limits say the same
    pub limits_told : (nat_lt MOST_FORM_LETTERS (length new.letters) || list_any (λ row. is_too_long new.letters (text_row row)) rows || nat_lt MOST_STEM_RECORDS number || nat_lt MOST_INFLECTIONS forms)
        ≡ passes_stem_limits classes number told new
    limits_told =
        let long = any-map (is_too_long new.letters) text_row rows ∙ ap (list_any (is_too_long new.letters)) are in
        let same = length-map rows text_row in
        let all = ap length are in
        let full : forms ≡ count_inflections classes told + length (rows_of classes new.class) = omega (arith, same, all, count) in
        λ i. nat_lt MOST_FORM_LETTERS (length new.letters) || long i || nat_lt MOST_STEM_RECORDS number || nat_lt MOST_INFLECTIONS (full i)

    module _ (short : list_any (λ row. is_too_short new.letters (text_row row)) rows ≡ false) (limits : Bool)
        (passes : limits ≡ (nat_lt MOST_FORM_LETTERS (length new.letters) || list_any (λ row. is_too_long new.letters (text_row row)) rows || nat_lt MOST_STEM_RECORDS number || nat_lt MOST_INFLECTIONS forms)) where
      pub over_limit : limits ≡ true → take_classed classes number told new ≡ Err stems.Limit
      over_limit h =
          when_false (list_any (is_too_short new.letters) (rows_of classes new.class)) _ _ _ (sym short_told ∙ short)
          (when_true (passes_stem_limits classes number told new) _ _ _ (sym limits_told ∙ sym passes ∙ h) refl)

      pub stem_twice : limits ≡ false → list_any (is_same_stem new) told ≡ true → take_classed classes number told new ≡ Err stems.Twice
      stem_twice h twin =
          when_false (list_any (is_too_short new.letters) (rows_of classes new.class)) _ _ _ (sym short_told ∙ short)
          (when_false (passes_stem_limits classes number told new) _ _ _ (sym limits_told ∙ sym passes ∙ h) (when_true (list_any (is_same_stem new) told) _ _ _ twin refl))

      pub stem_added : limits ≡ false → list_any (is_same_stem new) told ≡ false → take_classed classes number told new ≡ Ok (told ++ new ∷ [])
      stem_added h twin =
          when_false (list_any (is_too_short new.letters) (rows_of classes new.class)) _ _ _ (sym short_told ∙ short)
          (when_false (passes_stem_limits classes number told new) _ _ _ (sym limits_told ∙ sym passes ∙ h) (when_false (list_any (is_same_stem new) told) _ _ _ twin refl))

-- ---- the set of stems

module _ (new : Stem) (keys : List Stem) (told : List inflection.Stem) (is : map text_stem keys ≡ told) (is_new : Bool) (added : is_new ≡ not (list_any (stem_eq.it new) keys)) where
  twin_told : list_any (is_same_stem (text_stem new)) told ≡ list_any (stem_eq.it new) keys
  twin_told = ap (list_any (is_same_stem (text_stem new))) (sym is) ∙ sym (any_stem new keys)

  pub has_twin : is_new ≡ false → list_any (is_same_stem (text_stem new)) told ≡ true
  has_twin h = twin_told ∙ not_of_each_other (list_any (stem_eq.it new) keys) is_new added ∙ ap not h

  pub has_none : is_new ≡ true → list_any (is_same_stem (text_stem new)) told ≡ false
  has_none h = twin_told ∙ not_of_each_other (list_any (stem_eq.it new) keys) is_new added ∙ ap not h

  pub stem_pushed : (after : List Stem) → is_new ≡ true → after ≡ (cond (list_any (stem_eq.it new) keys) keys (keys ++ new ∷ [])) → map text_stem after ≡ told ++ text_stem new ∷ []
  stem_pushed after h put =
      let absent : list_any (stem_eq.it new) keys ≡ false = not_of_each_other (list_any (stem_eq.it new) keys) is_new added ∙ ap not h in
      ap (map text_stem) (put ∙ ap (λ b. cond b keys (keys ++ new ∷ [])) absent) ∙ map-append text_stem keys (new ∷ []) ∙ ap (λ told. told ++ text_stem new ∷ []) is
