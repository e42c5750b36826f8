-- Items, choices and keys are read as they are written: field by field, each of them a number or a word.
use Rattle.std.proofs.Common.{◌≡◌, ℕ, ◌<◌, Bool, true, false, cond, List, [], ◌∷◌, ◌++◌, length, eqb, codes, Option, Some, None, refl, sym, ◌∙◌, ap, subst, arith, length-append}
use Rattle.std.specs.Prelude.{option_map}
use Rattle.std.specs.List.{slice_split, join_with_byte}
use Rattle.std.specs.Fmt.{decimal}
use Rattle.std.specs.Char.{is_ascii_digit}
use Rattle.std.proofs.lemmas.Bool.{eqb-true}
use Rattle.std.proofs.lemmas.List.Splits.{join_with_byte-slice_split}
use Rattle.text_definitions.specs.declared.limits.TheConstants.{MOST_LINE_LETTERS}
use Rattle.text_definitions.specs.Slp1.{slp1_table, word_of_slp1, slp1_of_word}
use Rattle.text_definitions.proofs.SpelledWords.{is_no_letter}
use Rattle.lexicon_definitions.specs.declared.limits.TheConstants.{MOST_RULES, MOST_RULE_LETTERS, MOST_FORM_LETTERS}
use Rattle.segmentation_definitions.specs.Items.{Item, Choice}
use Rattle.segmentation_definitions.specs.Listings.{Key}
use Rattle.list_laws.proofs.Marks.{is_free, free_append}
use Rattle.bookmark_definitions.specs.Bookmarks.{last_phase, IsItemWithinBounds, IsKeyWithinBounds}
use Rattle.bookmark_definitions.specs.BookmarkTexts.{text_of_item, text_of_choice, text_of_key}
use Rattle.bookmark_definitions.specs.BookmarkReadings.{number_up_to, word_up_to, item_with, item_of_fields, choice_with, choice_of, key_with, key_of_fields, key_of_text}
use Rattle.bookmark_definitions.proofs.JoinedTexts.{AreFree, split_joined, free_joined}
use Rattle.bookmark_definitions.proofs.NumbersAndWords.{number_tells, number_back, number_free, word_tells, word_back, word_free}

no_letter_dot : is_no_letter slp1_table 46 ≡ true
unfolding slp1_table
no_letter_dot = refl

-- ---- items

abbrev item_fields : Item → List (List ℕ)
item_fields item = decimal item.at ∷ decimal item.lead ∷ decimal item.phase ∷ slp1_of_word item.form ∷ []

abbrev ItemTells : List (List ℕ) → Item → Type 0
ItemTells fields item = (fields ≡ item_fields item) × IsItemWithinBounds item

item_by : (at lead phase form : List ℕ) (a b c : Option ℕ) (d : Option (List ℕ)) (item : Item)
    → number_up_to MOST_LINE_LETTERS at ≡ a → number_up_to MOST_RULE_LETTERS lead ≡ b → number_up_to last_phase phase ≡ c
    → word_up_to MOST_FORM_LETTERS (word_of_slp1 form) ≡ d → item_with a b c d ≡ Some item
    → ItemTells (at ∷ lead ∷ phase ∷ form ∷ []) item
item_by at lead phase form None b c d item p q r s h = absurd (cc)
item_by at lead phase form (Some x) None c d item p q r s h = absurd (cc)
item_by at lead phase form (Some x) (Some y) None d item p q r s h = absurd (cc)
item_by at lead phase form (Some x) (Some y) (Some z) None item p q r s h = absurd (cc)
item_by at lead phase form (Some x) (Some y) (Some z) (Some w) item p q r s h =
    let same : record { at = x; lead = y; phase = z; form = w } ≡ item = cc in
    let first = number_tells MOST_LINE_LETTERS (omega arith) at x p in
    let second = number_tells MOST_RULE_LETTERS (omega arith) lead y q in
    let third = number_tells last_phase (omega arith) phase z r in
    let word = word_tells MOST_FORM_LETTERS form w s in
    subst (ItemTells (at ∷ lead ∷ phase ∷ form ∷ [])) same (
      (λ i. first.0 i ∷ second.0 i ∷ third.0 i ∷ word.0 i ∷ []),
      record {
        at = first.1;
        lead = second.1;
        phase = third.1;
        word = word.1.word_itself;
        not_empty = word.1.not_empty;
        short = word.1.short;
      },
    )

item_tells : (fields : List (List ℕ)) (item : Item) → item_of_fields fields ≡ Some item → ItemTells fields item
item_tells [] item h = absurd (cc)
item_tells (at ∷ []) item h = absurd (cc)
item_tells (at ∷ lead ∷ []) item h = absurd (cc)
item_tells (at ∷ lead ∷ phase ∷ []) item h = absurd (cc)
item_tells (at ∷ lead ∷ phase ∷ form ∷ []) item h = item_by at lead phase form _ _ _ _ item refl refl refl refl h
item_tells (at ∷ lead ∷ phase ∷ form ∷ other ∷ fields) item h = absurd (cc)

item_free : (mark : ℕ) → is_ascii_digit mark ≡ false → is_no_letter slp1_table mark ≡ true → (item : Item) → IsItemWithinBounds item
    → AreFree mark (item_fields item)
item_free mark no_digit no_letter item b =
    (number_free mark no_digit item.at (omega (arith, b.at)), (number_free mark no_digit item.lead (omega (arith, b.lead)), (number_free mark no_digit item.phase (omega (arith, b.phase)), (word_free mark no_letter item.form b.word, tt))))

item_back : (item : Item) → IsItemWithinBounds item → item_of_fields (slice_split (λ byte. eqb byte 46) (text_of_item item)) ≡ Some item
item_back item b =
    let fields = split_joined 46 (item_fields item) (omega arith) (item_free 46 refl no_letter_dot item b) in
    let at = number_back MOST_LINE_LETTERS (omega arith) item.at b.at in
    let lead = number_back MOST_RULE_LETTERS (omega arith) item.lead b.lead in
    let phase = number_back last_phase (omega arith) item.phase b.phase in
    let form = word_back MOST_FORM_LETTERS item.form (record { word_itself = b.word; not_empty = b.not_empty; short = b.short }) in
    ap item_of_fields fields ∙ (λ i. item_with (at i) (lead i) (phase i) (form i))

-- ---- choices

abbrev pub IsChoiceWithinBounds : Choice → Type 0
IsChoiceWithinBounds choice = IsItemWithinBounds choice.item

-- what the text after the sign says of the choice
abbrev RestTells : Bool → List ℕ → Choice → Type 0
RestTells kept text choice = (kept ≡ choice.kept) × (text ≡ text_of_item choice.item) × IsItemWithinBounds choice.item

rest_by : (kept : Bool) (text : List ℕ) (found : Option Item) (choice : Choice) → item_of_fields (slice_split (λ byte. eqb byte 46) text) ≡ found
    → option_map (λ (item : Item). record { kept = kept; item = item }) found ≡ Some choice → RestTells kept text choice
rest_by kept text None choice e h = absurd (cc)
rest_by kept text (Some item) choice e h =
    let same : record { kept = kept; item = item } ≡ choice = cc in
    let told = item_tells (slice_split (λ byte. eqb byte 46) text) item e in
    subst (RestTells kept text) same (refl, (sym (join_with_byte-slice_split 46 text) ∙ ap (join_with_byte 46) told.0), told.1)

rest_tells : (kept : Bool) (text : List ℕ) (choice : Choice) → choice_with kept text ≡ Some choice → RestTells kept text choice
rest_tells kept text choice h = rest_by kept text (item_of_fields (slice_split (λ byte. eqb byte 46) text)) choice refl h

signed : (kept : Bool) (sign mark : ℕ) (text : List ℕ) (choice : Choice) → sign ≡ mark → mark ∷ [] ≡ cond kept (codes "+") (codes "-") → RestTells kept text choice
    → (sign ∷ text ≡ text_of_choice choice) × IsChoiceWithinBounds choice
signed kept sign mark text choice e m (same, told, bounds) =
    ((λ i. e i ∷ text) ∙ (λ i. m i ++ text) ∙ (λ i. cond (same i) (codes "+") (codes "-") ++ told i), bounds)

choice_by : (sign : ℕ) (text : List ℕ) (plus minus : Bool) (choice : Choice) → eqb sign 43 ≡ plus → eqb sign 45 ≡ minus
    → cond plus (choice_with true text) (cond minus (choice_with false text) None) ≡ Some choice
    → (sign ∷ text ≡ text_of_choice choice) × IsChoiceWithinBounds choice
choice_by sign text true minus choice p m h = signed true sign 43 text choice (eqb-true sign 43 p) refl (rest_tells true text choice h)
choice_by sign text false true choice p m h = signed false sign 45 text choice (eqb-true sign 45 m) refl (rest_tells false text choice h)
choice_by sign text false false choice p m h = absurd (cc)

pub choice_tells : (text : List ℕ) (choice : Choice) → choice_of text ≡ Some choice → (text ≡ text_of_choice choice) × IsChoiceWithinBounds choice
choice_tells [] choice h = absurd (cc)
choice_tells (sign ∷ text) choice h = choice_by sign text (eqb sign 43) (eqb sign 45) choice refl refl h

back_by : (kept : Bool) (item : Item) → IsItemWithinBounds item
    → choice_of (cond kept (codes "+") (codes "-") ++ text_of_item item) ≡ Some (record { kept = kept; item = item })
back_by true item b = ap (option_map (λ (item : Item). record { kept = true; item = item })) (item_back item b)
back_by false item b = ap (option_map (λ (item : Item). record { kept = false; item = item })) (item_back item b)

pub choice_back : (choice : Choice) → IsChoiceWithinBounds choice → choice_of (text_of_choice choice) ≡ Some choice
choice_back choice b = back_by choice.kept choice.item b

free_sign : (mark : ℕ) (kept : Bool) → eqb 43 mark ≡ false → eqb 45 mark ≡ false → is_free mark (cond kept (codes "+") (codes "-")) ≡ true
free_sign mark true p m = ap (λ test. cond test false true) p
free_sign mark false p m = ap (λ test. cond test false true) m

-- a choice's text is free of each mark that it does not use
pub choice_free : (mark : ℕ) → eqb 43 mark ≡ false → eqb 45 mark ≡ false → eqb 46 mark ≡ false → is_ascii_digit mark ≡ false → is_no_letter slp1_table mark ≡ true
    → (choice : Choice) → IsChoiceWithinBounds choice → is_free mark (text_of_choice choice) ≡ true
choice_free mark plus minus dot no_digit no_letter choice b =
    free_append mark (cond choice.kept (codes "+") (codes "-")) (text_of_item choice.item) (free_sign mark choice.kept plus minus)
    (free_joined 46 mark dot (item_fields choice.item) (item_free mark no_digit no_letter choice.item b))

some_sign : (kept : Bool) (text : List ℕ) → 0 < length (cond kept (codes "+") (codes "-") ++ text)
some_sign true text = omega arith
some_sign false text = omega arith

pub choice_some : (choice : Choice) → 0 < length (text_of_choice choice)
choice_some choice = some_sign choice.kept (text_of_item choice.item)

-- ---- keys

abbrev key_fields : Key → List (List ℕ)
key_fields key = decimal key.phase ∷ decimal key.taken ∷ decimal key.rule ∷ []

abbrev KeyTells : List (List ℕ) → Key → Type 0
KeyTells fields key = (fields ≡ key_fields key) × IsKeyWithinBounds key

key_by : (phase taken rule : List ℕ) (a b c : Option ℕ) (key : Key) → number_up_to last_phase phase ≡ a
    → number_up_to MOST_FORM_LETTERS taken ≡ b → number_up_to MOST_RULES rule ≡ c → key_with a b c ≡ Some key → KeyTells (phase ∷ taken ∷ rule ∷ []) key
key_by phase taken rule None b c key p q r h = absurd (cc)
key_by phase taken rule (Some x) None c key p q r h = absurd (cc)
key_by phase taken rule (Some x) (Some y) None key p q r h = absurd (cc)
key_by phase taken rule (Some x) (Some y) (Some z) key p q r h =
    let same : record { phase = x; taken = y; rule = z } ≡ key = cc in
    let first = number_tells last_phase (omega arith) phase x p in
    let second = number_tells MOST_FORM_LETTERS (omega arith) taken y q in
    let third = number_tells MOST_RULES (omega arith) rule z r in
    subst (KeyTells (phase ∷ taken ∷ rule ∷ [])) same
    ((λ i. first.0 i ∷ second.0 i ∷ third.0 i ∷ []), record { phase = first.1; taken = second.1; rule = third.1 })

fields_tell : (fields : List (List ℕ)) (key : Key) → key_of_fields fields ≡ Some key → KeyTells fields key
fields_tell [] key h = absurd (cc)
fields_tell (phase ∷ []) key h = absurd (cc)
fields_tell (phase ∷ taken ∷ []) key h = absurd (cc)
fields_tell (phase ∷ taken ∷ rule ∷ []) key h = key_by phase taken rule _ _ _ key refl refl refl h
fields_tell (phase ∷ taken ∷ rule ∷ other ∷ fields) key h = absurd (cc)

pub key_tells : (text : List ℕ) (key : Key) → key_of_text text ≡ Some key → (text ≡ text_of_key key) × IsKeyWithinBounds key
key_tells text key h =
    let told = fields_tell (slice_split (λ byte. eqb byte 46) text) key h in
    (sym (join_with_byte-slice_split 46 text) ∙ ap (join_with_byte 46) told.0, told.1)

key_fields_free : (mark : ℕ) → is_ascii_digit mark ≡ false → (key : Key) → IsKeyWithinBounds key → AreFree mark (key_fields key)
key_fields_free mark no_digit key b =
    (number_free mark no_digit key.phase (omega (arith, b.phase)), (number_free mark no_digit key.taken (omega (arith, b.taken)), (number_free mark no_digit key.rule (omega (arith, b.rule)), tt)))

pub key_back : (key : Key) → IsKeyWithinBounds key → key_of_text (text_of_key key) ≡ Some key
key_back key b =
    let fields = split_joined 46 (key_fields key) (omega arith) (key_fields_free 46 refl key b) in
    let phase = number_back last_phase (omega arith) key.phase b.phase in
    let taken = number_back MOST_FORM_LETTERS (omega arith) key.taken b.taken in
    let rule = number_back MOST_RULES (omega arith) key.rule b.rule in
    ap key_of_fields fields ∙ (λ i. key_with (phase i) (taken i) (rule i))

pub key_free : (mark : ℕ) → eqb 46 mark ≡ false → is_ascii_digit mark ≡ false → (key : Key) → IsKeyWithinBounds key → is_free mark (text_of_key key) ≡ true
key_free mark dot no_digit key b = free_joined 46 mark dot (key_fields key) (key_fields_free mark no_digit key b)

pub key_some : (key : Key) → 0 < length (text_of_key key)
key_some key = omega (arith, length-append (decimal key.phase) (46 ∷ join_with_byte 46 (decimal key.taken ∷ decimal key.rule ∷ [])))
