-- A form with its phase, and a rule between brackets, are read back from their texts, and what is read is written so: by cutting at the
-- marks, which neither a word nor a name has.
use Rattle.std.proofs.Common.{◌≡◌, ◌≢◌, ℕ, ◌⊎◌, inl, inr, Bool, true, false, cond, ◌&&◌, Option, Some, None, Result, Ok, Err, List, [], ◌∷◌, ◌++◌, eqb, refl, sym, ◌∙◌, ap, subst, append_assoc}
use Rattle.std.specs.Prelude.{codes, option_and_then}
use Rattle.std.specs.List.{AllByRecursion, list_all}
use Rattle.std.proofs.lemmas.Bool.{and_parts, or_left, false_from_ne_true, eqb-true}
use Rattle.std.proofs.lemmas.List.Elements.{recursion_from_All}
use Rattle.list_laws.specs.Cuts.{cut}
use Rattle.list_laws.specs.EmptyLists.{is_empty}
use Rattle.list_laws.proofs.Booleans.{when_true}
use Rattle.list_laws.proofs.Marks.{is_free, free_append}
use Rattle.list_laws.proofs.CutLaws.{cut_at, cut_as, IsCut}
use Rattle.text_definitions.specs.Letters.{IsLetter}
use Rattle.text_definitions.specs.Words.{IsWord}
use Rattle.text_definitions.specs.Spellings.{Reading}
use Rattle.text_definitions.specs.Slp1.{slp1_table, slp1_of_word, word_of_slp1}
use Rattle.text_definitions.proofs.SpelledWords.{spelled_from_read, word_from_read, read_from_spelled, free_word, free_of_blank, free_of_bar, free_of_sign}
use Rattle.lexicon_definitions.specs.GrammarTexts.{is_name_byte}
use Rattle.lexicon_definitions.specs.Lexicons.{IsPhaseName}
use Rattle.lexicon_definitions.specs.PhaseNames.{is_phase_name}
use Rattle.lexicon_definitions.proofs.NameTests.{name_from_test, test_from_name}
use Rattle.chain_definitions.specs.ChainTexts.{Triple, WrittenForm, any_word, some_word, closed_part, closed_by, form_with, form_of_parts, form_of_text, triple_with, triple_of_parts, triple_of_halves, triple_of_notation, triple_of_text}

-- ---- words

some_by : (word : List ℕ) → word ≢ [] → some_word (Ok word) ≡ Some word
some_by [] some = absurd (some refl)
some_by (x ∷ word) some = refl

any_back : (word : List ℕ) → IsWord word → any_word (word_of_slp1 (slp1_of_word word)) ≡ Some word
any_back word is = ap any_word (read_from_spelled (slp1_of_word word) word is refl)

some_back : (word : List ℕ) → IsWord word → word ≢ [] → some_word (word_of_slp1 (slp1_of_word word)) ≡ Some word
some_back word is some = ap some_word (read_from_spelled (slp1_of_word word) word is refl) ∙ some_by word some

any_read : (reading : Reading) (word : List ℕ) → any_word reading ≡ Some word → reading ≡ Ok word
any_read (Ok read) word e = let same : read ≡ word = cc in ap Ok same
any_read (Err fault) word e = absurd (cc)

some_read : (reading : Reading) (word : List ℕ) → some_word reading ≡ Some word → (reading ≡ Ok word) × (word ≢ [])
some_read (Ok []) word e = absurd (cc)
some_read (Ok (x ∷ read)) word e = let same : x ∷ read ≡ word = cc in (ap Ok same, λ none. absurd (cc))
some_read (Err fault) word e = absurd (cc)

-- what is read as a word is its spelling
any_tells : (text word : List ℕ) → any_word (word_of_slp1 text) ≡ Some word → IsWord word × (slp1_of_word word ≡ text)
any_tells text word e =
    let read = any_read (word_of_slp1 text) word e in
    (word_from_read text word read, spelled_from_read text word read)

some_tells : (text word : List ℕ) → some_word (word_of_slp1 text) ≡ Some word → IsWord word × (word ≢ []) × (slp1_of_word word ≡ text)
some_tells text word e =
    let read = some_read (word_of_slp1 text) word e in
    (word_from_read text word read.0, read.1, spelled_from_read text word read.0)

-- ---- marks

free_of_open : (word : List ℕ) → IsWord word → is_free 91 (slp1_of_word word) ≡ true
unfolding slp1_of_word slp1_table
free_of_open word w = free_word slp1_table 91 refl word (recursion_from_All IsLetter word w)

free_of_close : (word : List ℕ) → IsWord word → is_free 41 (slp1_of_word word) ≡ true
unfolding slp1_of_word slp1_table
free_of_close word w = free_word slp1_table 41 refl word (recursion_from_All IsLetter word w)

name_byte_free : (mark byte : ℕ) → is_name_byte mark ≡ false → is_name_byte byte ≡ true → eqb byte mark ≡ false
name_byte_free mark byte n h = false_from_ne_true (eqb byte mark) (λ e. let same : byte ≡ mark = (eqb-true byte mark e) in let both = ap is_name_byte same in cc)

name_bytes_free : (mark : ℕ) (bytes : List ℕ) → is_name_byte mark ≡ false → list_all is_name_byte bytes ≡ true → is_free mark bytes ≡ true
name_bytes_free mark [] n h = refl
name_bytes_free mark (byte ∷ bytes) n h =
    let parts = and_parts (is_name_byte byte) (list_all is_name_byte bytes) h in
    ap (λ test. cond test false (is_free mark bytes)) (name_byte_free mark byte n parts.0) ∙ name_bytes_free mark bytes n parts.1

-- a name is free of each byte that no name has
pub free_name : (mark : ℕ) (name : List ℕ) → is_name_byte mark ≡ false → IsPhaseName name → is_free mark name ≡ true
free_name mark [] n h = refl
free_name mark (byte ∷ bytes) n h =
    let first : is_name_byte byte ≡ true = or_left _ _ (or_left _ _ h.0) in
    ap (λ test. cond test false (is_free mark bytes)) (name_byte_free mark byte n first) ∙ name_bytes_free mark bytes n h.2

closed_back : (mark : ℕ) (front : List ℕ) → is_free mark front ≡ true → closed_by mark (front ++ mark ∷ []) ≡ Some front
closed_back mark front h = ap closed_part (cut_at mark front [] h)

if_last : (mark : ℕ) (text front before after : List ℕ) → text ≡ before ++ mark ∷ after
    → cond (is_empty after) (Some before) None ≡ Some front → text ≡ front ++ mark ∷ []
if_last mark text front before [] e h = let same : before ≡ front = cc in e ∙ ap (λ t. t ++ mark ∷ []) same
if_last mark text front before (x ∷ after) e h = absurd (cc)

closed_read : (mark : ℕ) (text front : List ℕ) (parts : Option (List ℕ × List ℕ)) → cut mark text ≡ parts → closed_part parts ≡ Some front
    → text ≡ front ++ mark ∷ []
closed_read mark text front None e h = absurd (cc)
closed_read mark text front (Some parts) e h = if_last mark text front parts.0 parts.1 (cut_as mark text (Some parts) e).0 h

closed_tells : (mark : ℕ) (text front : List ℕ) → closed_by mark text ≡ Some front → text ≡ front ++ mark ∷ []
closed_tells mark text front h = closed_read mark text front (cut mark text) refl h

-- ---- forms

-- a form with a name is one that may be written
pub record IsWritable (form : WrittenForm) : Type 0 where
  pub word : IsWord form.letters
  pub some : form.letters ≢ []
  pub name : IsPhaseName form.name

abbrev pub text_of_form : WrittenForm → List ℕ
text_of_form form = slp1_of_word form.letters ++ codes "[" ++ form.name ++ codes "]"

bracketed : (word name : List ℕ) → word ++ codes "[" ++ name ++ codes "]" ≡ word ++ 91 ∷ (name ++ 93 ∷ [])
bracketed word name = append_assoc (word ++ 91 ∷ []) name (93 ∷ []) ∙ append_assoc word (91 ∷ []) (name ++ 93 ∷ [])

pub form_back : (form : WrittenForm) → IsWritable form → form_of_text (text_of_form form) ≡ Some form
unfolding form_of_text
form_back form is =
    ap form_of_text (bracketed (slp1_of_word form.letters) form.name)
    ∙ ap form_of_parts (cut_at 91 (slp1_of_word form.letters) (form.name ++ 93 ∷ []) (free_of_open form.letters is.word))
    ∙ ap (λ w. form_with w (closed_by 93 (form.name ++ 93 ∷ []))) (some_back form.letters is.word is.some)
    ∙ ap (form_with (Some form.letters)) (closed_back 93 form.name (free_name 93 form.name refl is.name))
    ∙ ap (λ test. cond test (Some form) None) (test_from_name form.name is.name)

by_name_test : (letters name : List ℕ) (form : WrittenForm) (test : Bool) → is_phase_name name ≡ test
    → cond test (Some (record { letters = letters; name = name })) None ≡ Some form
    → (is_phase_name name ≡ true) × (letters ≡ form.letters) × (name ≡ form.name)
by_name_test letters name form true e h =
    let same : record { letters = letters; name = name } ≡ form = cc in
    (e, ap (λ (f : WrittenForm). f.letters) same, ap (λ (f : WrittenForm). f.name) same)
by_name_test letters name form false e h = absurd (cc)

form_if_read : (text before after : List ℕ) (form : WrittenForm) (letters name : Option (List ℕ)) → text ≡ before ++ 91 ∷ after
    → some_word (word_of_slp1 before) ≡ letters → closed_by 93 after ≡ name → form_with letters name ≡ Some form
    → IsWritable form × (text ≡ text_of_form form)
form_if_read text before after form None None e l n h = absurd (cc)
form_if_read text before after form None (Some name) e l n h = absurd (cc)
form_if_read text before after form (Some letters) None e l n h = absurd (cc)
form_if_read text before after form (Some letters) (Some name) e l n h =
    let read = some_tells before letters l in
    let closed = closed_tells 93 after name n in
    let tested = by_name_test letters name form (is_phase_name name) refl h in (
      record {
        word = subst IsWord tested.1 read.0;
        some = subst (λ (w : List ℕ). w ≢ []) tested.1 read.1;
        name = subst IsPhaseName tested.2 (name_from_test name tested.0);
      },
      e ∙ ap (λ b. b ++ 91 ∷ after) (sym read.2) ∙ ap (λ a. slp1_of_word letters ++ 91 ∷ a) closed
          ∙ sym (bracketed (slp1_of_word letters) name)
          ∙ ap (λ l. slp1_of_word l ++ codes "[" ++ name ++ codes "]") tested.1
          ∙ ap (λ n. slp1_of_word form.letters ++ codes "[" ++ n ++ codes "]") tested.2,
    )

form_if_parted : (text : List ℕ) (form : WrittenForm) (parts : Option (List ℕ × List ℕ)) → cut 91 text ≡ parts → form_of_parts parts ≡ Some form
    → IsWritable form × (text ≡ text_of_form form)
form_if_parted text form None e h = absurd (cc)
form_if_parted text form (Some parts) e h =
    form_if_read text parts.0 parts.1 form (some_word (word_of_slp1 parts.0)) (closed_by 93 parts.1) (cut_as 91 text (Some parts) e).0 refl refl h

pub form_tells : (text : List ℕ) (form : WrittenForm) → form_of_text text ≡ Some form → IsWritable form × (text ≡ text_of_form form)
unfolding form_of_text
form_tells text form h = form_if_parted text form (cut 91 text) refl h

-- ---- rules

-- the words of a rule, of which v alone may be empty
pub record AreRuleWords (triple : Triple) : Type 0 where
  pub u : IsWord triple.u
  pub v : IsWord triple.v
  pub w : IsWord triple.w
  pub some_u : triple.u ≢ []
  pub some_w : triple.w ≢ []

abbrev pub notation_of : Triple → List ℕ
notation_of triple = slp1_of_word triple.u ++ codes "|" ++ slp1_of_word triple.v ++ codes ">" ++ slp1_of_word triple.w

marked : (u v w : List ℕ) → u ++ codes "|" ++ v ++ codes ">" ++ w ≡ u ++ 124 ∷ (v ++ 62 ∷ w)
marked u v w =
    append_assoc (u ++ 124 ∷ [] ++ v) (62 ∷ []) w ∙ append_assoc (u ++ 124 ∷ []) v (62 ∷ w) ∙ append_assoc u (124 ∷ []) (v ++ 62 ∷ w)

three_read : (u v w : Option (List ℕ)) (x y z : List ℕ) → u ≡ Some x → v ≡ Some y → w ≡ Some z
    → triple_with u v w ≡ Some (record { u = x; v = y; w = z })
three_read u v w x y z e f g = ap (λ t. triple_with t v w) e ∙ ap (λ t. triple_with (Some x) t w) f ∙ ap (triple_with (Some x) (Some y)) g

notation_back : (triple : Triple) → AreRuleWords triple → triple_of_notation (notation_of triple) ≡ Some triple
notation_back triple is =
    ap triple_of_notation (marked (slp1_of_word triple.u) (slp1_of_word triple.v) (slp1_of_word triple.w))
    ∙ ap triple_of_halves (cut_at 124 (slp1_of_word triple.u) (slp1_of_word triple.v ++ 62 ∷ slp1_of_word triple.w) (free_of_bar triple.u is.u))
    ∙ ap (triple_of_parts (slp1_of_word triple.u)) (cut_at 62 (slp1_of_word triple.v) (slp1_of_word triple.w) (free_of_sign triple.v is.v))
    ∙ three_read _ _ _ triple.u triple.v triple.w (some_back triple.u is.u is.some_u) (any_back triple.v is.v) (some_back triple.w is.w is.some_w)

-- a rule's notation is free of each mark that no word has, and that is neither `|` nor `>`
notation_free : (mark : ℕ) (triple : Triple) → is_free mark (124 ∷ []) ≡ true → is_free mark (62 ∷ []) ≡ true
    → is_free mark (slp1_of_word triple.u) ≡ true → is_free mark (slp1_of_word triple.v) ≡ true → is_free mark (slp1_of_word triple.w) ≡ true
    → is_free mark (notation_of triple) ≡ true
notation_free mark triple bar sign u v w =
    free_append mark _ (slp1_of_word triple.w) (free_append mark _ (62 ∷ []) (free_append mark _ (slp1_of_word triple.v)
    (free_append mark (slp1_of_word triple.u) (124 ∷ []) u bar) v) sign) w

pub notation_free_of_blank : (triple : Triple) → AreRuleWords triple → is_free 32 (notation_of triple) ≡ true
notation_free_of_blank triple is =
    notation_free 32 triple refl refl (free_of_blank triple.u is.u) (free_of_blank triple.v is.v) (free_of_blank triple.w is.w)

abbrev pub text_of_triple : Triple → List ℕ
text_of_triple triple = codes "(" ++ notation_of triple ++ codes ")"

pub triple_back : (triple : Triple) → AreRuleWords triple → triple_of_text (text_of_triple triple) ≡ Some triple
unfolding triple_of_text
triple_back triple is =
    ap (option_and_then triple_of_notation)
    (closed_back 41 (notation_of triple)
    (notation_free 41 triple refl refl (free_of_close triple.u is.u) (free_of_close triple.v is.v) (free_of_close triple.w is.w)))
    ∙ notation_back triple is

three_tell : (before middle after : List ℕ) (triple : Triple) (u v w : Option (List ℕ)) → some_word (word_of_slp1 before) ≡ u
    → any_word (word_of_slp1 middle) ≡ v → some_word (word_of_slp1 after) ≡ w → triple_with u v w ≡ Some triple
    → AreRuleWords triple × (before ≡ slp1_of_word triple.u) × (middle ≡ slp1_of_word triple.v) × (after ≡ slp1_of_word triple.w)
three_tell before middle after triple None None None e f g h = absurd (cc)
three_tell before middle after triple None None (Some w) e f g h = absurd (cc)
three_tell before middle after triple None (Some v) None e f g h = absurd (cc)
three_tell before middle after triple None (Some v) (Some w) e f g h = absurd (cc)
three_tell before middle after triple (Some u) None None e f g h = absurd (cc)
three_tell before middle after triple (Some u) None (Some w) e f g h = absurd (cc)
three_tell before middle after triple (Some u) (Some v) None e f g h = absurd (cc)
three_tell before middle after triple (Some u) (Some v) (Some w) e f g h =
    let same : record { u = u; v = v; w = w } ≡ triple = cc in
    let first = some_tells before u e in
    let second = any_tells middle v f in
    let third = some_tells after w g in
    subst (λ (t : Triple). AreRuleWords t × (before ≡ slp1_of_word t.u) × (middle ≡ slp1_of_word t.v) × (after ≡ slp1_of_word t.w)) same
    (record { u = first.0; v = second.0; w = third.0; some_u = first.1; some_w = third.1 }, sym first.2, sym second.1, sym third.2)

halves_tell : (text before rest : List ℕ) (triple : Triple) (parts : Option (List ℕ × List ℕ)) → text ≡ before ++ 124 ∷ rest
    → cut 62 rest ≡ parts → triple_of_parts before parts ≡ Some triple → AreRuleWords triple × (text ≡ notation_of triple)
halves_tell text before rest triple None e f h = absurd (cc)
halves_tell text before rest triple (Some parts) e f h =
    let read = three_tell before parts.0 parts.1 triple _ _ _ refl refl refl h in
    let whole = (cut_as 62 rest (Some parts) f).0 in (
      read.0,
      e ∙ ap (λ r. before ++ 124 ∷ r) whole ∙ ap (λ b. b ++ 124 ∷ (parts.0 ++ 62 ∷ parts.1)) read.1
          ∙ ap (λ m. slp1_of_word triple.u ++ 124 ∷ (m ++ 62 ∷ parts.1)) read.2 ∙ ap (λ a. slp1_of_word triple.u ++ 124 ∷ (slp1_of_word triple.v ++ 62 ∷ a)) read.3
          ∙ sym (marked (slp1_of_word triple.u) (slp1_of_word triple.v) (slp1_of_word triple.w)),
    )

notation_read : (text : List ℕ) (triple : Triple) (halves : Option (List ℕ × List ℕ)) → cut 124 text ≡ halves → triple_of_halves halves ≡ Some triple
    → AreRuleWords triple × (text ≡ notation_of triple)
notation_read text triple None e h = absurd (cc)
notation_read text triple (Some halves) e h =
    halves_tell text halves.0 halves.1 triple (cut 62 halves.1) (cut_as 124 text (Some halves) e).0 refl h

closed_triple : (text : List ℕ) (triple : Triple) (front : Option (List ℕ)) → closed_by 41 text ≡ front
    → option_and_then triple_of_notation front ≡ Some triple → AreRuleWords triple × (text ≡ notation_of triple ++ codes ")")
closed_triple text triple None e h = absurd (cc)
closed_triple text triple (Some front) e h =
    let read = notation_read front triple (cut 124 front) refl h in
    (read.0, closed_tells 41 text front e ∙ ap (λ f. f ++ 41 ∷ []) read.1)

by_first_byte : (byte : ℕ) (text : List ℕ) (triple : Triple) (test : Bool) → eqb byte 40 ≡ test
    → cond test (option_and_then triple_of_notation (closed_by 41 text)) None ≡ Some triple
    → AreRuleWords triple × (byte ∷ text ≡ text_of_triple triple)
by_first_byte byte text triple true e h =
    let read = closed_triple text triple (closed_by 41 text) refl h in
    (read.0, ap (λ b. b ∷ text) (eqb-true byte 40 e) ∙ ap (λ t. 40 ∷ t) read.1)
by_first_byte byte text triple false e h = absurd (cc)

pub triple_tells : (text : List ℕ) (triple : Triple) → triple_of_text text ≡ Some triple → AreRuleWords triple × (text ≡ text_of_triple triple)
unfolding triple_of_text
triple_tells [] triple h = absurd (cc)
triple_tells (byte ∷ text) triple h = by_first_byte byte text triple (eqb byte 40) refl h
