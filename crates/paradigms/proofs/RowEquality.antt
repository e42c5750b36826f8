-- Rows are equal for the program exactly where their parts are, field by field, down to the enums of a tag, whose derived equality
-- tells their variants; and so are stems.
use Rattle.std.proofs.Common.{◌≡◌, ℕ, Bool, true, false, ◌&&◌, List, refl, ◌∙◌, subst, nat_eq}
use Rattle.std.specs.Prelude.{◌==◌}
use Rattle.std.specs.Cmp.Lexicographic.{pointwise}
use Rattle.std.specs.Str.{bytes_eq}
use Rattle.std.proofs.lemmas.Bool.Decides.{Decides-eqb}
use Rattle.std.proofs.lemmas.Slice.Eq.{slice_eq-Decides}
use Rattle.form_tags.specs.declared.tag.Tag.{Tag}
use Rattle.form_tags.specs.contracts.tag.TagPartialEq.TheImpl.{eq-value as tag_eq}
use Rattle.form_tags.specs.contracts.tag.TagEq.TheImpl.Laws.{laws-law as tag_laws}
use Rattle.form_tags.specs.TagTexts.{tag_text}
use Rattle.form_tags.proofs.TagsByText.{tag_text-once}
use Rattle.paradigm_file_definitions.specs.TableFiles.{is_same_row}
use Rattle.paradigm_file_definitions.specs.StemFiles.{is_same_stem}
use Rattle.paradigms.specs.contracts.row.RowPartialEq.TheImpl.{eq-value as row_eq}
use Rattle.paradigms.specs.contracts.stem.StemPartialEq.TheImpl.{eq-value as stem_eq}
use Rattle.paradigms.specs.declared.row.Row.{Row}
use Rattle.paradigms.specs.declared.stem.Stem.{Stem}
use Rattle.paradigms.specs.Rows.{text_row, text_stem}
use Rattle.list_laws.proofs.Texts.{bytes_same, bytes_itself}
use Rattle.std.specs.Cmp.{both_ways}
use Rattle.form_tags.proofs.TagEquality.{tag_one}

-- ---- tags

-- tags are equal where their texts are
same_tags : (new old : Tag) → tag_eq.it new old ≡ bytes_eq (tag_text new) (tag_text old)
same_tags new old =
    both_ways (tag_eq.it new old) (bytes_eq (tag_text new) (tag_text old))
    (λ e. subst (λ (tag : Tag). bytes_eq (tag_text new) (tag_text tag) ≡ true) (tag_one new old e) (bytes_itself (tag_text new)))
    (λ e. subst (λ (tag : Tag). tag_eq.it new tag ≡ true) (tag_text-once new old (bytes_same (tag_text new) (tag_text old) e)) (tag_laws.refl new))

-- ---- words

-- both tests of words say the same
pub same_words : (x y : List ℕ) → pointwise nat_eq x y ≡ bytes_eq x y
same_words x y =
    let decides = slice_eq-Decides Decides-eqb x y (pointwise nat_eq x y) refl in
    both_ways (pointwise nat_eq x y) (bytes_eq x y)
    (λ e. subst (λ w. bytes_eq x w ≡ true) (decides.0 e) (bytes_itself x))
    (λ e. decides.1 (bytes_same x y e))

-- ---- rows and stems

regrouped : (a b c d e : Bool) → (a && (b && (c && (d && e)))) ≡ (a && b && c && d && e)
regrouped true true c d e = go c d e
  where
    go : (c d e : Bool) → (c && (d && e)) ≡ (c && d && e)
    go true d e = refl
    go false d e = refl
regrouped true false c d e = refl
regrouped false b c d e = refl

pub same_row : (new row : Row) → row_eq.it new row ≡ is_same_row (text_row new) (text_row row)
same_row new row =
    regrouped (tag_eq.it new.tag row.tag) (nat_eq new.phase row.phase) (pointwise nat_eq new.prefix row.prefix) (nat_eq new.cut row.cut) (pointwise nat_eq new.ending row.ending)
    ∙ (λ i. same_tags new.tag row.tag i && new.phase == row.phase && same_words new.prefix row.prefix i && new.cut == row.cut && same_words new.ending row.ending i)

pub same_stem : (new stem : Stem) → stem_eq.it new stem ≡ is_same_stem (text_stem new) (text_stem stem)
same_stem new stem = λ i. same_words new.letters stem.letters i && new.class == stem.class
