-- A bookmark is read as it is written: its five fields one after another, and then its bounds.
use Rattle.std.proofs.Common.{◌≡◌, ℕ, ◌*◌, ◌<◌, ◌↔◌, Bool, true, false, cond, not, ◌&&◌, List, [], ◌∷◌, length, map, eqb, leb, codes, Option, Some, None, refl, sym, ◌∙◌, ap, subst, arith}
use Rattle.std.specs.List.{AllByRecursion, slice_split, join_with_byte}
use Rattle.std.specs.Fmt.{decimal}
use Rattle.std.specs.Str.{bytes_eq}
use Rattle.std.proofs.lemmas.Bool.{and_parts, and_from, not_from_false, ne_eqb, eq-eqb, eqb-true, leb-true, le-leb}
use Rattle.std.proofs.lemmas.List.Elements.{recursion_from_All, All-from_recursion}
use Rattle.std.proofs.lemmas.List.Splits.{join_with_byte-slice_split}
use Rattle.std.proofs.lemmas.Slice.Eq.{bytes_eq-Decides}
use Rattle.text_definitions.specs.Lines.{Line}
use Rattle.text_definitions.specs.Slp1.{slp1_table}
use Rattle.text_definitions.proofs.SpelledWords.{is_no_letter}
use Rattle.segmentation_definitions.specs.declared.limits.TheConstants.{LAST_ANSWER_NUMBER, MOST_CHOICES}
use Rattle.segmentation_definitions.specs.Items.{Choice}
use Rattle.segmentation_definitions.specs.Listings.{Key}
use Rattle.list_laws.proofs.Marks.{is_free}
use Rattle.bookmark_definitions.specs.Bookmarks.{Bookmark, IsBookmark, IsKeyWithinBounds}
use Rattle.bookmark_definitions.specs.BookmarkTexts.{text_of_line, text_of_choice, text_of_key, text_of_bookmark}
use Rattle.bookmark_definitions.specs.BookmarkReadings.{number_up_to, each_read, parts_of_list, line_of, choice_of, key_of_text, has_keys_if_printed, bookmark_with, bookmark_of_fields, bookmark_of_text}
use Rattle.bookmark_definitions.proofs.JoinedTexts.{AreFree, split_joined, free_joined, parts_joined, parts_of_joined, each_tells, each_back, each_written}
use Rattle.bookmark_definitions.proofs.NumbersAndWords.{number_tells, number_back, number_free}
use Rattle.bookmark_definitions.proofs.WrittenLines.{line_tells, line_back, line_free}
use Rattle.bookmark_definitions.proofs.WrittenParts.{IsChoiceWithinBounds, choice_tells, choice_back, choice_free, choice_some, key_tells, key_back, key_free, key_some}
use Rattle.std.proofs.lemmas.Option.{cond_some}

-- ---- no keys exactly where nothing was printed

not_printed : (printed : ℕ) → not (eqb printed 0) ≡ true → printed ≡ 0 → ⊥
not_printed printed h e = let test = eq-eqb printed 0 e in let both = ap not test in cc

keys_tell : (printed : ℕ) (keys : List Key) → has_keys_if_printed printed keys ≡ true → (keys ≡ []) ↔ (printed ≡ 0)
keys_tell printed [] h = (λ e. eqb-true printed 0 h, λ e. refl)
keys_tell printed (key ∷ keys) h = (λ e. absurd (cc), λ e. absurd (not_printed printed h e))

keys_told : (printed : ℕ) (keys : List Key) → ((keys ≡ []) ↔ (printed ≡ 0)) → has_keys_if_printed printed keys ≡ true
keys_told printed [] h = eq-eqb printed 0 (h.0 refl)
keys_told printed (key ∷ keys) h = not_from_false (eqb printed 0) (ne_eqb printed 0 (λ e. let none = h.1 e in cc))

-- ---- what is read

abbrev fields_of : Bookmark → List (List ℕ)
fields_of mark =
    codes "1" ∷ text_of_line mark.line ∷ join_with_byte 44 (map text_of_choice mark.choices) ∷ decimal mark.printed
    ∷ join_with_byte 44 (map text_of_key mark.keys) ∷ []

abbrev FieldsTell : List (List ℕ) → Bookmark → Type 0
FieldsTell fields mark = (fields ≡ fields_of mark) × IsBookmark mark

mark_by : (line choices printed keys : List ℕ) (l : Option Line) (c : Option (List Choice)) (p : Option ℕ) (k : Option (List Key)) (mark : Bookmark)
    → line_of line ≡ l → each_read choice_of (parts_of_list choices) ≡ c → number_up_to LAST_ANSWER_NUMBER printed ≡ p
    → each_read key_of_text (parts_of_list keys) ≡ k → bookmark_with l c p k ≡ Some mark
    → FieldsTell (codes "1" ∷ line ∷ choices ∷ printed ∷ keys ∷ []) mark
mark_by line choices printed keys None c p k mark e f g i h = absurd (cc)
mark_by line choices printed keys (Some l) None p k mark e f g i h = absurd (cc)
mark_by line choices printed keys (Some l) (Some c) None k mark e f g i h = absurd (cc)
mark_by line choices printed keys (Some l) (Some c) (Some p) None mark e f g i h = absurd (cc)
mark_by line choices printed keys (Some l) (Some c) (Some p) (Some k) mark e f g h i =
    let found = cond_some (leb (length c) MOST_CHOICES && leb (length k) (2 * length l.letters) && has_keys_if_printed p k) (record { line = l; choices = c; printed = p; keys = k }) mark i in
    let tests = and_parts (leb (length c) MOST_CHOICES && leb (length k) (2 * length l.letters)) (has_keys_if_printed p k) found.0 in
    let lengths = and_parts (leb (length c) MOST_CHOICES) (leb (length k) (2 * length l.letters)) tests.0 in
    let first = line_tells line l e in
    let second = each_tells choice_of text_of_choice IsChoiceWithinBounds choice_tells (parts_of_list choices) c f in
    let third = number_tells LAST_ANSWER_NUMBER (omega arith) printed p g in
    let fourth = each_tells key_of_text text_of_key IsKeyWithinBounds key_tells (parts_of_list keys) k h in
    let choices_text : choices ≡ join_with_byte 44 (map text_of_choice c) = parts_joined choices ∙ ap (join_with_byte 44) second.0 in
    let keys_text : keys ≡ join_with_byte 44 (map text_of_key k) = parts_joined keys ∙ ap (join_with_byte 44) fourth.0 in
    subst (FieldsTell (codes "1" ∷ line ∷ choices ∷ printed ∷ keys ∷ [])) found.1 (
      (λ j. codes "1" ∷ first.0 j ∷ choices_text j ∷ third.0 j ∷ keys_text j ∷ []),
      record {
        line = first.1;
        few_choices = leb-true (length c) MOST_CHOICES lengths.0;
        items = All-from_recursion IsChoiceWithinBounds c second.1;
        printed = third.1;
        few_keys = leb-true (length k) (2 * length l.letters) lengths.1;
        keys = All-from_recursion IsKeyWithinBounds k fourth.1;
        no_keys = keys_tell p k tests.1;
      },
    )

version_by : (version line choices printed keys : List ℕ) (test : Bool) (mark : Bookmark) → bytes_eq version (codes "1") ≡ test
    → cond test (bookmark_with (line_of line) (each_read choice_of (parts_of_list choices)) (number_up_to LAST_ANSWER_NUMBER printed) (each_read key_of_text (parts_of_list keys))) None ≡ Some mark
    → FieldsTell (version ∷ line ∷ choices ∷ printed ∷ keys ∷ []) mark
version_by version line choices printed keys false mark e h = absurd (cc)
version_by version line choices printed keys true mark e h =
    let same : codes "1" ≡ version = sym ((bytes_eq-Decides version (codes "1")).0 e) in
    subst (λ (v : List ℕ). FieldsTell (v ∷ line ∷ choices ∷ printed ∷ keys ∷ []) mark) same
    (mark_by line choices printed keys _ _ _ _ mark refl refl refl refl h)

fields_tell : (fields : List (List ℕ)) (mark : Bookmark) → bookmark_of_fields fields ≡ Some mark → FieldsTell fields mark
fields_tell [] mark h = absurd (cc)
fields_tell (version ∷ []) mark h = absurd (cc)
fields_tell (version ∷ line ∷ []) mark h = absurd (cc)
fields_tell (version ∷ line ∷ choices ∷ []) mark h = absurd (cc)
fields_tell (version ∷ line ∷ choices ∷ printed ∷ []) mark h = absurd (cc)
fields_tell (version ∷ line ∷ choices ∷ printed ∷ keys ∷ []) mark h =
    version_by version line choices printed keys (bytes_eq version (codes "1")) mark refl h
fields_tell (version ∷ line ∷ choices ∷ printed ∷ keys ∷ other ∷ fields) mark h = absurd (cc)

-- what is read is a bookmark, and this is its text
pub bookmark_tells : (text : List ℕ) (mark : Bookmark) → bookmark_of_text text ≡ Some mark → (text ≡ text_of_bookmark mark) × IsBookmark mark
unfolding text_of_bookmark bookmark_of_text
bookmark_tells text mark h =
    let told = fields_tell (slice_split (λ byte. eqb byte 59) text) mark h in
    (sym (join_with_byte-slice_split 59 text) ∙ ap (join_with_byte 59) told.0, told.1)

-- ---- what is written

no_letter_end : is_no_letter slp1_table 59 ≡ true
unfolding slp1_table
no_letter_end = refl

no_letter_comma : is_no_letter slp1_table 44 ≡ true
unfolding slp1_table
no_letter_comma = refl

module _ (mark : Bookmark) (b : IsBookmark mark) where
  items : AllByRecursion IsChoiceWithinBounds mark.choices
  items = recursion_from_All IsChoiceWithinBounds mark.choices b.items

  keys : AllByRecursion IsKeyWithinBounds mark.keys
  keys = recursion_from_All IsKeyWithinBounds mark.keys b.keys

  choices_text_free : is_free 59 (join_with_byte 44 (map text_of_choice mark.choices)) ≡ true
  choices_text_free =
      free_joined 44 59 refl (map text_of_choice mark.choices)
      (each_written choice_of text_of_choice IsChoiceWithinBounds (λ text. is_free 59 text ≡ true) (choice_free 59 refl refl refl refl no_letter_end) mark.choices items)

  keys_text_free : is_free 59 (join_with_byte 44 (map text_of_key mark.keys)) ≡ true
  keys_text_free =
      free_joined 44 59 refl (map text_of_key mark.keys)
      (each_written key_of_text text_of_key IsKeyWithinBounds (λ text. is_free 59 text ≡ true) (key_free 59 refl refl) mark.keys keys)

  fields_free : AreFree 59 (fields_of mark)
  fields_free =
      (refl, (line_free 59 refl no_letter_end mark.line b.line, (choices_text_free, (number_free 59 refl mark.printed (omega (arith, b.printed)), (keys_text_free, tt)))))

  choices_back : each_read choice_of (parts_of_list (join_with_byte 44 (map text_of_choice mark.choices))) ≡ Some mark.choices
  choices_back =
      ap (each_read choice_of) (parts_of_joined (map text_of_choice mark.choices)
      (each_written choice_of text_of_choice IsChoiceWithinBounds (λ text. is_free 44 text ≡ true) (choice_free 44 refl refl refl refl no_letter_comma) mark.choices items)
      (each_written choice_of text_of_choice IsChoiceWithinBounds (λ text. 0 < length text) (λ choice c. choice_some choice) mark.choices items))
      ∙ each_back choice_of text_of_choice IsChoiceWithinBounds choice_back mark.choices items

  keys_back : each_read key_of_text (parts_of_list (join_with_byte 44 (map text_of_key mark.keys))) ≡ Some mark.keys
  keys_back =
      ap (each_read key_of_text) (parts_of_joined (map text_of_key mark.keys)
      (each_written key_of_text text_of_key IsKeyWithinBounds (λ text. is_free 44 text ≡ true) (key_free 44 refl refl) mark.keys keys)
      (each_written key_of_text text_of_key IsKeyWithinBounds (λ text. 0 < length text) (λ key k. key_some key) mark.keys keys))
      ∙ each_back key_of_text text_of_key IsKeyWithinBounds key_back mark.keys keys

  within : (leb (length mark.choices) MOST_CHOICES && leb (length mark.keys) (2 * length mark.line.letters) && has_keys_if_printed mark.printed mark.keys) ≡ true
  within =
      and_from _ _ (and_from _ _ (le-leb (length mark.choices) MOST_CHOICES b.few_choices) (le-leb (length mark.keys) (2 * length mark.line.letters) b.few_keys))
      (keys_told mark.printed mark.keys b.no_keys)

  -- the text of a bookmark is read as this bookmark
  pub bookmark_back : bookmark_of_text (text_of_bookmark mark) ≡ Some mark
  unfolding text_of_bookmark bookmark_of_text
  bookmark_back =
      let fields = split_joined 59 (fields_of mark) (omega arith) fields_free in
      let line = line_back mark.line b.line in
      let printed = number_back LAST_ANSWER_NUMBER (omega arith) mark.printed b.printed in
      ap bookmark_of_fields fields
      ∙ (λ i. bookmark_with (line i) (choices_back i) (printed i) (keys_back i))
      ∙ ap (λ (test : Bool). cond test (Some mark) None) within
