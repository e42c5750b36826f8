-- Rows that a line tells are told by it: a line is cut at its blanks, its fields at `,`, and each part at its marks, none of which stands in
-- a number, a word or a tag.
use Rattle.std.proofs.Common.{◌≡◌, ℕ, ◌<◌, ◌^◌, inl, inr, true, false, cond, List, [], ◌∷◌, ◌++◌, map, eqb, refl, sym, ◌∙◌, ap}
use Rattle.std.specs.Prelude.{decimal, codes}
use Rattle.std.specs.Char.{is_ascii_digit}
use Rattle.std.specs.Str.{bytes_eq, all_ascii_digits}
use Rattle.std.specs.List.{AllByRecursion, list_all, slice_split, join_with_byte}
use Rattle.std.proofs.lemmas.Bool.{and_parts, eqb-true, false_from_ne_true}
use Rattle.std.proofs.lemmas.Fmt.{decimal_injective, digits_decimal}
use Rattle.std.proofs.lemmas.List.{append_assoc, append_cancel_left}
use Rattle.std.proofs.lemmas.List.Elements.{recursion_from_All}
use Rattle.list_laws.proofs.Marks.{is_free, free_append, cut_once, no_cut}
use Rattle.list_laws.proofs.Texts.{bytes_apart}
use Rattle.text_definitions.specs.Letters.{IsLetter}
use Rattle.text_definitions.specs.Words.{IsWord}
use Rattle.text_definitions.specs.Slp1.{slp1_table, slp1_of_word}
use Rattle.text_definitions.proofs.DecimalDigits.{digits_tell}
use Rattle.text_definitions.proofs.SpelledWords.{same_spelling, is_no_letter, free_word}
use Rattle.text_definitions.proofs.WrittenWords.{letter_is_word}
use Rattle.lexicon_definitions.specs.Deltas.{Delta}
use Rattle.lexicon_definitions.specs.Tags.{IsOneOf, IsTagText, IsVerbalText, tenses, voices, persons, numbers, lone_words}
use Rattle.lexicon_definitions.specs.Tries.{Row}
use Rattle.lexicon_text_definitions.proofs.LineCuts.{split_at, split_none}
use Rattle.lexicon_text_definitions.proofs.TagTests.{free_nominal}
use Rattle.trie_text_definitions.specs.NodeLines.{listed, delta_text, child_text, node_line}
use Rattle.trie_text_definitions.specs.NodeFields.{texts_of}
use Rattle.trie_text_definitions.specs.PrintableRows.{IsPrintableDelta, IsPrintableChild, IsPrintable}

-- ---- marks that stand in no part

digits_free : (mark : ℕ) (text : List ℕ) → is_ascii_digit mark ≡ false → all_ascii_digits text ≡ true → is_free mark text ≡ true
digits_free mark [] n h = refl
digits_free mark (byte ∷ text) n h =
    let parts = and_parts (is_ascii_digit byte) (all_ascii_digits text) h in
    let other : eqb byte mark ≡ false = false_from_ne_true (eqb byte mark) (λ e. let same : byte ≡ mark = eqb-true byte mark e in let both = ap is_ascii_digit same in cc) in
    ap (λ test. cond test false (is_free mark text)) other ∙ digits_free mark text n parts.1

-- a number has no byte but digits
pub number_free : (mark : ℕ) → is_ascii_digit mark ≡ false → (n : ℕ) → n < 2 ^ 64 → is_free mark (decimal n) ≡ true
number_free mark other n below = digits_free mark (decimal n) other (digits_decimal digits_tell n below)

-- a word's spelling has no byte but those of letters
pub word_free : (mark : ℕ) → is_no_letter slp1_table mark ≡ true → (word : List ℕ) → IsWord word → is_free mark (slp1_of_word word) ≡ true
unfolding slp1_of_word
word_free mark h word w = free_word slp1_table mark h word (recursion_from_All IsLetter word w)

pub one_free : (mark : ℕ) (words : List (List ℕ)) (text : List ℕ) → list_all (is_free mark) words ≡ true → IsOneOf words text → is_free mark text ≡ true
one_free mark [] text f h = absurd h
one_free mark (word ∷ words) text f (inl e) = ap (is_free mark) e ∙ (and_parts (is_free mark word) (list_all (is_free mark) words) f).0
one_free mark (word ∷ words) text f (inr h) = one_free mark words text (and_parts (is_free mark word) (list_all (is_free mark) words) f).1 h

pub verbal_free : (mark : ℕ) (text : List ℕ) → is_free mark (46 ∷ []) ≡ true → list_all (is_free mark) tenses ≡ true
    → list_all (is_free mark) voices ≡ true → list_all (is_free mark) persons ≡ true → list_all (is_free mark) numbers ≡ true → IsVerbalText text → is_free mark text ≡ true
verbal_free mark text d t v p n h =
    let dotted : (word rest : List ℕ) → is_free mark word ≡ true → is_free mark rest ≡ true → is_free mark (word ++ 46 ∷ rest) ≡ true =
    λ word rest w r. free_append mark word (46 ∷ rest) w (free_append mark (46 ∷ []) rest d r) in
    ap (is_free mark) h.is_text
    ∙ dotted h.tense _ (one_free mark tenses h.tense t h.is_tense) (dotted h.voice _ (one_free mark voices h.voice v h.is_voice)
    (dotted h.person h.number (one_free mark persons h.person p h.is_person) (one_free mark numbers h.number n h.is_number)))

-- no tag has a comma, a colon or a blank
pub tag_free_of_comma : (text : List ℕ) → IsTagText text → is_free 44 text ≡ true
tag_free_of_comma text (inl h) = free_nominal 44 text refl refl refl refl h
tag_free_of_comma text (inr (inl h)) = verbal_free 44 text refl refl refl refl refl h
tag_free_of_comma text (inr (inr h)) = one_free 44 lone_words text refl h

pub tag_free_of_blank : (text : List ℕ) → IsTagText text → is_free 32 text ≡ true
tag_free_of_blank text (inl h) = free_nominal 32 text refl refl refl refl h
tag_free_of_blank text (inr (inl h)) = verbal_free 32 text refl refl refl refl refl h
tag_free_of_blank text (inr (inr h)) = one_free 32 lone_words text refl h

-- ---- parts of a field

-- a delta as its parts with marks between
pub delta_parts : (delta : Delta) → delta_text delta ≡ decimal delta.cut ++ 58 ∷ (slp1_of_word delta.append ++ 58 ∷ delta.tag)
delta_parts delta =
    let regroup : (a b c : List ℕ) → (((a ++ 58 ∷ []) ++ b) ++ 58 ∷ []) ++ c ≡ a ++ 58 ∷ (b ++ 58 ∷ c) = λ a b c. simp append_assoc in
    regroup (decimal delta.cut) (slp1_of_word delta.append) delta.tag

pub child_parts : (child : ℕ × ℕ) → child_text child ≡ slp1_of_word (child.0 ∷ []) ++ 61 ∷ decimal child.1
child_parts child = append_assoc (slp1_of_word (child.0 ∷ [])) (61 ∷ []) (decimal child.1)

pub parts_free : (mark other : ℕ) (left right : List ℕ) → is_free mark left ≡ true → is_free mark (other ∷ []) ≡ true → is_free mark right ≡ true
    → is_free mark (left ++ other ∷ right) ≡ true
parts_free mark other left right l o r = free_append mark left (other ∷ right) l (free_append mark (other ∷ []) right o r)

pub delta_free : (mark : ℕ) (delta : Delta) → is_ascii_digit mark ≡ false → is_no_letter slp1_table mark ≡ true → is_free mark (58 ∷ []) ≡ true
    → is_free mark delta.tag ≡ true → IsPrintableDelta delta → is_free mark (delta_text delta) ≡ true
delta_free mark delta d w c t h =
    ap (is_free mark) (delta_parts delta)
    ∙ parts_free mark 58 (decimal delta.cut) _ (number_free mark d delta.cut h.cut) c (parts_free mark 58 (slp1_of_word delta.append) delta.tag (word_free mark w delta.append h.word) c t)

pub child_free : (mark : ℕ) (child : ℕ × ℕ) → is_ascii_digit mark ≡ false → is_no_letter slp1_table mark ≡ true → is_free mark (61 ∷ []) ≡ true
    → IsPrintableChild child → is_free mark (child_text child) ≡ true
child_free mark child d w c h =
    ap (is_free mark) (child_parts child)
    ∙ parts_free mark 61 (slp1_of_word (child.0 ∷ [])) (decimal child.1) (word_free mark w (child.0 ∷ []) (letter_is_word child.0 h.letter)) c (number_free mark d child.1 h.number)

-- a delta is told by its text
same_delta : (left right : Delta) → IsPrintableDelta left → IsPrintableDelta right → delta_text left ≡ delta_text right → left ≡ right
unfolding slp1_table
same_delta left right l r e =
    let whole = sym (delta_parts left) ∙ e ∙ delta_parts right in
    let first = cut_once 58 (decimal left.cut) _ (decimal right.cut) _ (number_free 58 refl left.cut l.cut) (number_free 58 refl right.cut r.cut) whole in
    let second = cut_once 58 (slp1_of_word left.append) left.tag (slp1_of_word right.append) right.tag (word_free 58 refl left.append l.word) (word_free 58 refl right.append r.word) first.1 in
    let cuts = decimal_injective left.cut right.cut l.cut r.cut first.0 in
    let appends = same_spelling left.append right.append l.word r.word second.0 in
    λ i. record { cut = cuts i; append = appends i; tag = second.1 i }

-- so is a child
same_child : (left right : ℕ × ℕ) → IsPrintableChild left → IsPrintableChild right → child_text left ≡ child_text right → left ≡ right
unfolding slp1_table
same_child left right l r e =
    let whole = sym (child_parts left) ∙ e ∙ child_parts right in
    let parts = cut_once 61 (slp1_of_word (left.0 ∷ [])) (decimal left.1) (slp1_of_word (right.0 ∷ [])) (decimal right.1) (word_free 61 refl (left.0 ∷ []) (letter_is_word left.0 l.letter))
    (word_free 61 refl (right.0 ∷ []) (letter_is_word right.0 r.letter)) whole in
    let letters : left.0 ∷ [] ≡ right.0 ∷ [] = same_spelling (left.0 ∷ []) (right.0 ∷ []) (letter_is_word left.0 l.letter) (letter_is_word right.0 r.letter) parts.0 in
    let letter : left.0 ≡ right.0 = cc in
    let number = decimal_injective left.1 right.1 l.number r.number parts.1 in
    λ i. (letter i, number i)

-- ---- fields

-- texts that do not have the mark
abbrev AreFree : ℕ → List (List ℕ) → Type 0
AreFree mark texts = AllByRecursion (λ text. is_free mark text ≡ true) texts

pub split_joined : (mark : ℕ) (first : List ℕ) (texts : List (List ℕ)) → AreFree mark (first ∷ texts)
    → slice_split (λ byte. eqb byte mark) (join_with_byte mark (first ∷ texts)) ≡ first ∷ texts
split_joined mark first [] h = split_none mark first h.0
split_joined mark first (next ∷ texts) h =
    split_at mark first (join_with_byte mark (next ∷ texts)) h.0 ∙ ap (◌∷◌ first) (split_joined mark next texts h.1)

joined_free : (mark other : ℕ) → eqb mark other ≡ false → (texts : List (List ℕ)) → AreFree other texts → is_free other (join_with_byte mark texts) ≡ true
joined_free mark other e [] h = refl
joined_free mark other e (text ∷ []) h = h.0
joined_free mark other e (text ∷ next ∷ texts) h =
    free_append other text (mark ∷ join_with_byte mark (next ∷ texts)) h.0
    (ap (λ test. cond test false (is_free other (join_with_byte mark (next ∷ texts)))) e ∙ joined_free mark other e (next ∷ texts) h.1)

pub listed_free : (other : ℕ) → is_free other (codes "-") ≡ true → eqb 44 other ≡ false → (texts : List (List ℕ)) → AreFree other texts → is_free other (listed texts) ≡ true
listed_free other d e [] h = d
listed_free other d e (text ∷ texts) h = joined_free 44 other e (text ∷ texts) h

-- a text with the mark
abbrev HasMark : ℕ → List ℕ → Type 0
HasMark mark text = (left : List ℕ) × (right : List ℕ) × (text ≡ left ++ mark ∷ right)

joined_has : (mark : ℕ) (first : List ℕ) (texts : List (List ℕ)) → HasMark mark first → HasMark mark (join_with_byte 44 (first ∷ texts))
joined_has mark first [] h = h
joined_has mark first (next ∷ texts) (left, right, e) =
    let rest = 44 ∷ join_with_byte 44 (next ∷ texts) in
    (left, right ++ rest, ap (λ (text : List ℕ). text ++ rest) e ∙ append_assoc left (mark ∷ right) rest)

-- the texts of a field are read again, where none has a comma, and each has a mark that `-` has not
pub texts_back : (mark : ℕ) → is_free mark (codes "-") ≡ true → (texts : List (List ℕ)) → AreFree 44 texts → AllByRecursion (HasMark mark) texts
    → texts_of (listed texts) ≡ texts
texts_back mark d [] h k = refl
texts_back mark d (first ∷ texts) h k =
    let (left, right, e) = joined_has mark first texts k.0 in
    let other : bytes_eq (join_with_byte 44 (first ∷ texts)) (codes "-") ≡ false =
    bytes_apart (join_with_byte 44 (first ∷ texts)) (codes "-") (λ same. no_cut mark (codes "-") left right d (sym same ∙ e)) in
    ap (λ test. cond test [] (slice_split (λ byte. eqb byte 44) (join_with_byte 44 (first ∷ texts)))) other ∙ split_joined 44 first texts h

module _ {X : Type 0} (P : X → Type 0) (write : X → List ℕ) (told : (x y : X) → P x → P y → write x ≡ write y → x ≡ y) where
  same_each : (xs ys : List X) → AllByRecursion P xs → AllByRecursion P ys → map write xs ≡ map write ys → xs ≡ ys
  same_each [] [] h k e = refl
  same_each [] (y ∷ ys) h k e = absurd (cc)
  same_each (x ∷ xs) [] h k e = absurd (cc)
  same_each (x ∷ xs) (y ∷ ys) h k e =
      let firsts : write x ≡ write y = cc in
      let rests : map write xs ≡ map write ys = cc in
      let first = told x y h.0 k.0 firsts in
      let rest = same_each xs ys h.1 k.1 rests in
      λ i. first i ∷ rest i

  written : (Q : List ℕ → Type 0) → ((x : X) → P x → Q (write x)) → (xs : List X) → AllByRecursion P xs → AllByRecursion Q (map write xs)
  written Q q [] h = tt
  written Q q (x ∷ xs) h = (q x h.0, written Q q xs h.1)

-- ---- lines

delta_marked : (delta : Delta) → HasMark 58 (delta_text delta)
delta_marked delta = (decimal delta.cut, slp1_of_word delta.append ++ 58 ∷ delta.tag, delta_parts delta)

child_marked : (child : ℕ × ℕ) → HasMark 61 (child_text child)
child_marked child = (slp1_of_word (child.0 ∷ []), decimal child.1, child_parts child)

pub deltas_back : (deltas : List Delta) → AllByRecursion IsPrintableDelta deltas → texts_of (listed (map delta_text deltas)) ≡ map delta_text deltas
unfolding slp1_table
deltas_back deltas h =
    texts_back 58 refl (map delta_text deltas)
    (written IsPrintableDelta delta_text same_delta (λ text. is_free 44 text ≡ true) (λ d p. delta_free 44 d refl refl refl (tag_free_of_comma d.tag p.tag) p) deltas h)
    (written IsPrintableDelta delta_text same_delta (HasMark 58) (λ d p. delta_marked d) deltas h)

pub children_back : (children : List (ℕ × ℕ)) → AllByRecursion IsPrintableChild children → texts_of (listed (map child_text children)) ≡ map child_text children
unfolding slp1_table
children_back children h =
    texts_back 61 refl (map child_text children)
    (written IsPrintableChild child_text same_child (λ text. is_free 44 text ≡ true) (λ c p. child_free 44 c refl refl refl p) children h)
    (written IsPrintableChild child_text same_child (HasMark 61) (λ c p. child_marked c) children h)

pub deltas_free_of_blank : (deltas : List Delta) → AllByRecursion IsPrintableDelta deltas → is_free 32 (listed (map delta_text deltas)) ≡ true
unfolding slp1_table
deltas_free_of_blank deltas h =
    listed_free 32 refl refl (map delta_text deltas)
    (written IsPrintableDelta delta_text same_delta (λ text. is_free 32 text ≡ true) (λ d p. delta_free 32 d refl refl refl (tag_free_of_blank d.tag p.tag) p) deltas h)

pub line_parts : (row : Row) → node_line row ≡ codes "node " ++ (listed (map delta_text row.deltas) ++ 32 ∷ listed (map child_text row.children))
line_parts row = ap (λ (fields : List ℕ). codes "node " ++ fields) (append_assoc (listed (map delta_text row.deltas)) (32 ∷ []) (listed (map child_text row.children)))

-- rows that lines tell are the same where their lines are
pub same_row : (left right : Row) → IsPrintable left → IsPrintable right → node_line left ≡ node_line right → left ≡ right
same_row left right l r e =
    let left_deltas = recursion_from_All IsPrintableDelta left.deltas l.deltas in
    let right_deltas = recursion_from_All IsPrintableDelta right.deltas r.deltas in
    let left_children = recursion_from_All IsPrintableChild left.children l.children in
    let right_children = recursion_from_All IsPrintableChild right.children r.children in
    let fields = append_cancel_left (codes "node ") _ _ (sym (line_parts left) ∙ e ∙ line_parts right) in
    let parts = cut_once 32 (listed (map delta_text left.deltas)) (listed (map child_text left.children)) (listed (map delta_text right.deltas)) (listed (map child_text right.children))
    (deltas_free_of_blank left.deltas left_deltas) (deltas_free_of_blank right.deltas right_deltas) fields in
    let deltas = same_each IsPrintableDelta delta_text same_delta left.deltas right.deltas left_deltas right_deltas
    (sym (deltas_back left.deltas left_deltas) ∙ ap texts_of parts.0 ∙ deltas_back right.deltas right_deltas) in
    let children = same_each IsPrintableChild child_text same_child left.children right.children left_children right_children
    (sym (children_back left.children left_children) ∙ ap texts_of parts.1 ∙ children_back right.children right_children) in
    λ i. record { deltas = deltas i; children = children i }
