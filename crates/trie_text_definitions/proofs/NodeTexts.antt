-- What the fields of a node's line tell is written again as these fields: each part undoes its test or its cut, and lists go text by
-- text.
use Rattle.std.proofs.Common.{◌≡◌, ℕ, ◌≤◌, Bool, true, false, cond, ◌&&◌, leb, eqb, Option, Some, None, Ok, Err, List, [], ◌∷◌, ◌++◌, length, map, refl, sym, ◌∙◌, ap, subst}
use Rattle.std.specs.Prelude.{option_map, option_and_then, decimal, codes}
use Rattle.std.specs.Str.{bytes_eq}
use Rattle.std.specs.Str.Parse.{digits_value}
use Rattle.std.specs.List.{AllByRecursion, slice_split, join_with_byte}
use Rattle.std.proofs.lemmas.Bool.{and_parts, leb-true}
use Rattle.std.proofs.lemmas.Option.{cond_some}
use Rattle.std.proofs.lemmas.List.{append_assoc}
use Rattle.std.proofs.lemmas.List.Splits.{join_with_byte-slice_split}
use Rattle.std.proofs.lemmas.List.Elements.{All-head}
use Rattle.list_laws.proofs.Elements.{all_of_map}
use Rattle.list_laws.proofs.Texts.{bytes_same}
use Rattle.text_definitions.specs.Letters.{IsLetter}
use Rattle.text_definitions.specs.Words.{IsWord}
use Rattle.text_definitions.specs.Spellings.{Reading}
use Rattle.text_definitions.specs.Slp1.{word_of_slp1, slp1_of_word}
use Rattle.text_definitions.proofs.SpelledWords.{spelled_from_read, word_from_read}
use Rattle.lexicon_definitions.specs.declared.limits.TheConstants.{MOST_FORM_LETTERS}
use Rattle.lexicon_definitions.specs.Deltas.{Delta}
use Rattle.lexicon_definitions.specs.Tags.{IsTagText}
use Rattle.lexicon_text_definitions.specs.FileContents.{is_tag_text}
use Rattle.lexicon_text_definitions.specs.FileSteps.{one_letter}
use Rattle.lexicon_text_definitions.proofs.LineCuts.{two_parts, three_parts}
use Rattle.lexicon_text_definitions.proofs.TagTests.{tag_from_test}
use Rattle.trie_text_definitions.specs.LimitedRules.{all_there}
use Rattle.trie_text_definitions.specs.NodeLines.{listed, delta_text, child_text}
use Rattle.trie_text_definitions.specs.NodeFields.{most_node_digits, number_of, node_number, texts_of, DeltaShape, ChildShape, delta_with, delta_of_parts, delta_shape, child_of_parts, child_shape, delta_shapes, child_shapes, word_read, delta_spelled, child_spelled}

-- ---- values that are there

pub if_some : {A : Type 0} (test : Bool) (x : Option A) (y : A) → cond test x None ≡ Some y → (test ≡ true) × (x ≡ Some y)
if_some true x y h = (refl, h)
if_some false x y h = absurd (cc)

pub map_some : {A B : Type 0} (f : A → B) (x : Option A) (y : B) → option_map f x ≡ Some y → (a : A) × (x ≡ Some a) × (f a ≡ y)
map_some f None y h = absurd (cc)
map_some f (Some a) y h = (a, refl, cc)

pub then_some : {A B : Type 0} (f : A → Option B) (x : Option A) (y : B) → option_and_then f x ≡ Some y → (a : A) × (x ≡ Some a) × (f a ≡ Some y)
then_some f None y h = absurd (cc)
then_some f (Some a) y h = (a, refl, h)

module _ {A B : Type 0} (read : A → Option B) (write : B → A) (P : B → Type 0) where
  -- what is read of each is written as these, where that is so of each
  pub all_told : ((x : A) (y : B) → read x ≡ Some y → (x ≡ write y) × P y) → (xs : List A) (ys : List B)
      → all_there (map read xs) ≡ Some ys → (xs ≡ map write ys) × AllByRecursion P ys
  all_told tells [] ys h = let same : [] ≡ ys = cc in subst (λ (zs : List B). ([] ≡ map write zs) × AllByRecursion P zs) same (refl, tt)
  all_told tells (x ∷ xs) ys h =
      let (first, e, f) = then_some (λ first. option_map (λ rest. first ∷ rest) (all_there (map read xs))) (read x) ys h in
      let (rest, g, same) = map_some (λ rest. first ∷ rest) (all_there (map read xs)) ys f in
      let one = tells x first e in
      let others = all_told tells xs rest g in
      subst (λ (zs : List B). (x ∷ xs ≡ map write zs) × AllByRecursion P zs) same ((λ i. one.0 i ∷ others.0 i), (one.1, others.1))

-- ---- numbers

pub number_told : (text : List ℕ) (n : ℕ) → number_of text ≡ Some n → text ≡ decimal n
number_told text n h =
    let found = cond_some (bytes_eq text (decimal (digits_value 10 text))) (digits_value 10 text) n h in
    bytes_same text (decimal (digits_value 10 text)) found.0 ∙ ap decimal found.1

-- the number of a node has not too many digits
abbrev pub HasFewDigits : ℕ → Type 0
HasFewDigits n = length (decimal n) ≤ most_node_digits

pub node_told : (text : List ℕ) (n : ℕ) → node_number text ≡ Some n → (text ≡ decimal n) × HasFewDigits n
node_told text n h =
    let found = if_some (leb (length text) most_node_digits) (number_of text) n h in
    let is = number_told text n found.1 in
    (is, subst (λ (t : List ℕ). length t ≤ most_node_digits) is (leb-true (length text) most_node_digits found.0))

-- ---- shapes

abbrev shape_text : DeltaShape → List ℕ
shape_text shape = decimal shape.cut ++ 58 ∷ (shape.append ++ 58 ∷ shape.tag)

-- a cut that is not too great, and a tag
abbrev IsDeltaShape : DeltaShape → Type 0
IsDeltaShape shape = (shape.cut ≤ MOST_FORM_LETTERS) × IsTagText shape.tag

delta_by_parts : (text : List ℕ) (parts : List (List ℕ)) (shape : DeltaShape) → slice_split (λ byte. eqb byte 58) text ≡ parts
    → delta_of_parts parts ≡ Some shape → (text ≡ shape_text shape) × IsDeltaShape shape
delta_by_parts text [] shape e h = absurd (cc)
delta_by_parts text (cut ∷ []) shape e h = absurd (cc)
delta_by_parts text (cut ∷ append ∷ []) shape e h = absurd (cc)
delta_by_parts text (cut ∷ append ∷ tag ∷ []) shape e h =
    let (n, is, f) = then_some (delta_with append tag) (number_of cut) shape h in
    let whole : DeltaShape = record { cut = n; append = append; tag = tag } in
    let found = cond_some (leb n MOST_FORM_LETTERS && is_tag_text tag) whole shape f in
    let both = and_parts (leb n MOST_FORM_LETTERS) (is_tag_text tag) found.0 in
    subst (λ (s : DeltaShape). (text ≡ shape_text s) × IsDeltaShape s) found.1 (
      three_parts 58 text cut append tag e ∙ ap (λ (c : List ℕ). c ++ 58 ∷ (append ++ 58 ∷ tag)) (number_told cut n is),
      (leb-true n MOST_FORM_LETTERS both.0, tag_from_test tag both.1),
    )
delta_by_parts text (cut ∷ append ∷ tag ∷ more ∷ parts) shape e h = absurd (cc)

abbrev child_shape_text : ChildShape → List ℕ
child_shape_text shape = shape.letter ++ 61 ∷ decimal shape.node

child_by_parts : (text : List ℕ) (parts : List (List ℕ)) (shape : ChildShape) → slice_split (λ byte. eqb byte 61) text ≡ parts
    → child_of_parts parts ≡ Some shape → (text ≡ child_shape_text shape) × HasFewDigits shape.node
child_by_parts text [] shape e h = absurd (cc)
child_by_parts text (letter ∷ []) shape e h = absurd (cc)
child_by_parts text (letter ∷ node ∷ []) shape e h =
    let (n, is, same) = map_some (λ number. record { letter = letter; node = number }) (node_number node) shape h in
    let told = node_told node n is in
    subst (λ (s : ChildShape). (text ≡ child_shape_text s) × HasFewDigits s.node) same (
      two_parts 61 text letter node e ∙ ap (λ (c : List ℕ). letter ++ 61 ∷ c) told.0,
      told.1,
    )
child_by_parts text (letter ∷ node ∷ more ∷ parts) shape e h = absurd (cc)

-- ---- letters

word_by : (reading : Reading) (word : List ℕ) → word_read reading ≡ Some word → reading ≡ Ok word
word_by (Ok word) other h = cc
word_by (Err fault) word h = absurd (cc)

letter_by : (reading : Reading) (letter : ℕ) → one_letter reading ≡ Some letter → reading ≡ Ok (letter ∷ [])
letter_by (Ok []) letter h = absurd (cc)
letter_by (Ok (first ∷ [])) letter h = cc
letter_by (Ok (first ∷ second ∷ word)) letter h = absurd (cc)
letter_by (Err fault) letter h = absurd (cc)

abbrev shape_of_delta : Delta → DeltaShape
shape_of_delta delta = record { cut = delta.cut; append = slp1_of_word delta.append; tag = delta.tag }

abbrev shape_of_child : ℕ × ℕ → ChildShape
shape_of_child child = record { letter = slp1_of_word (child.0 ∷ []); node = child.1 }

delta_told : (shape : DeltaShape) (delta : Delta) → delta_spelled shape ≡ Some delta → (shape ≡ shape_of_delta delta) × IsWord delta.append
delta_told shape delta h =
    let (word, e, same) = map_some (λ append. record { cut = shape.cut; append = append; tag = shape.tag }) (word_read (word_of_slp1 shape.append)) delta h in
    let read = word_by (word_of_slp1 shape.append) word e in
    let spelled = sym (spelled_from_read shape.append word read) in
    subst (λ (d : Delta). (shape ≡ shape_of_delta d) × IsWord d.append) same (
      (λ i. record { cut = shape.cut; append = spelled i; tag = shape.tag }),
      word_from_read shape.append word read,
    )

child_told : (shape : ChildShape) (child : ℕ × ℕ) → child_spelled shape ≡ Some child → (shape ≡ shape_of_child child) × IsLetter child.0
child_told shape child h =
    let (letter, e, same) = map_some (λ (letter : ℕ). (letter, shape.node)) (one_letter (word_of_slp1 shape.letter)) child h in
    let read = letter_by (word_of_slp1 shape.letter) letter e in
    let spelled = sym (spelled_from_read shape.letter (letter ∷ []) read) in
    subst (λ (c : ℕ × ℕ). (shape ≡ shape_of_child c) × IsLetter c.0) same (
      (λ i. record { letter = spelled i; node = shape.node }),
      All-head IsLetter letter [] (word_from_read shape.letter (letter ∷ []) read),
    )

-- ---- lists

listed_parts : (field : List ℕ) (parts : List (List ℕ)) → slice_split (λ byte. eqb byte 44) field ≡ parts → field ≡ listed parts
listed_parts [] [] e = absurd (cc)
listed_parts (byte ∷ field) [] e = let joined = sym (join_with_byte-slice_split 44 (byte ∷ field)) ∙ ap (join_with_byte 44) e in absurd (cc)
listed_parts field (part ∷ parts) e = sym (join_with_byte-slice_split 44 field) ∙ ap (join_with_byte 44) e

texts_by : (field : List ℕ) (test : Bool) → bytes_eq field (codes "-") ≡ test
    → field ≡ listed (cond test [] (slice_split (λ byte. eqb byte 44) field))
texts_by field true e = bytes_same field (codes "-") e
texts_by field false e = listed_parts field (slice_split (λ byte. eqb byte 44) field) refl

texts_told : (field : List ℕ) → field ≡ listed (texts_of field)
texts_told field = texts_by field (bytes_eq field (codes "-")) refl

-- ---- deltas and children of a line

-- a delta of a line: its cut and its letters are not too many, and its tag is one
pub record IsNodeDelta (delta : Delta) : Type 0 where
  pub cut : delta.cut ≤ MOST_FORM_LETTERS
  pub word : IsWord delta.append
  pub tag : IsTagText delta.tag

-- a child of a line: its letter is one, and its number has not too many digits
pub record IsNodeChild (child : ℕ × ℕ) : Type 0 where
  pub letter : IsLetter child.0
  pub digits : HasFewDigits child.1

delta_is : (delta : Delta) → shape_text (shape_of_delta delta) ≡ delta_text delta
delta_is delta =
    let regroup : (a b c : List ℕ) → a ++ 58 ∷ (b ++ 58 ∷ c) ≡ (((a ++ 58 ∷ []) ++ b) ++ 58 ∷ []) ++ c = λ a b c. simp append_assoc in
    regroup (decimal delta.cut) (slp1_of_word delta.append) delta.tag

child_is : (child : ℕ × ℕ) → child_shape_text (shape_of_child child) ≡ child_text child
child_is child = sym (append_assoc (slp1_of_word (child.0 ∷ [])) (61 ∷ []) (decimal child.1))

pub same_map : {A B : Type 0} (f g : A → B) → ((x : A) → f x ≡ g x) → (xs : List A) → map f xs ≡ map g xs
same_map f g e [] = refl
same_map f g e (x ∷ xs) = λ i. e x i ∷ same_map f g e xs i

pub map_twice : {A B C : Type 0} (f : A → B) (g : B → C) (xs : List A) → map g (map f xs) ≡ map (λ x. g (f x)) xs
map_twice f g [] = refl
map_twice f g (x ∷ xs) = ap (◌∷◌ (g (f x))) (map_twice f g xs)

pub both_of : {A : Type 0} (P Q R : A → Type 0) → ((x : A) → P x → Q x → R x) → (xs : List A) → AllByRecursion P xs → AllByRecursion Q xs → AllByRecursion R xs
both_of P Q R f [] h k = tt
both_of P Q R f (x ∷ xs) h k = (f x h.0 k.0, both_of P Q R f xs h.1 k.1)

pub deltas_told : (field : List ℕ) (shapes : List DeltaShape) (deltas : List Delta) → delta_shapes field ≡ Some shapes
    → all_there (map delta_spelled shapes) ≡ Some deltas → (field ≡ listed (map delta_text deltas)) × AllByRecursion IsNodeDelta deltas
deltas_told field shapes deltas h k =
    let first = all_told delta_shape shape_text IsDeltaShape (λ text shape e. delta_by_parts text (slice_split (λ byte. eqb byte 58) text) shape refl e) (texts_of field) shapes h in
    let second = all_told delta_spelled shape_of_delta (λ delta. IsWord delta.append) delta_told shapes deltas k in
    let shaped = all_of_map IsDeltaShape shape_of_delta deltas (subst (AllByRecursion IsDeltaShape) second.0 first.1) in (
      texts_told field ∙ ap listed (first.0 ∙ ap (map shape_text) second.0 ∙ map_twice shape_of_delta shape_text deltas ∙ same_map (λ d. shape_text (shape_of_delta d)) delta_text delta_is deltas),
      both_of (λ d. IsDeltaShape (shape_of_delta d)) (λ d. IsWord d.append) IsNodeDelta (λ d s w. record { cut = s.0; word = w; tag = s.1 }) deltas shaped second.1,
    )

pub children_told : (field : List ℕ) (shapes : List ChildShape) (children : List (ℕ × ℕ)) → child_shapes field ≡ Some shapes
    → all_there (map child_spelled shapes) ≡ Some children → (field ≡ listed (map child_text children)) × AllByRecursion IsNodeChild children
children_told field shapes children h k =
    let first = all_told child_shape child_shape_text (λ s. HasFewDigits s.node) (λ text shape e. child_by_parts text (slice_split (λ byte. eqb byte 61) text) shape refl e) (texts_of field) shapes h in
    let second = all_told child_spelled shape_of_child (λ child. IsLetter child.0) child_told shapes children k in
    let shaped = all_of_map (λ s. HasFewDigits s.node) shape_of_child children (subst (AllByRecursion (λ s. HasFewDigits s.node)) second.0 first.1) in (
      texts_told field ∙ ap listed (first.0 ∙ ap (map child_shape_text) second.0 ∙ map_twice shape_of_child child_shape_text children ∙ same_map (λ c. child_shape_text (shape_of_child c)) child_text child_is children),
      both_of (λ c. HasFewDigits (shape_of_child c).node) (λ c. IsLetter c.0) IsNodeChild (λ c d l. record { letter = l; digits = d }) children shaped second.1,
    )
