-- The fields of a node's line are read again as its deltas and its children: a field is cut at `,`, each part at its marks, and a number, a word
-- and a tag are read as they were written.
use Rattle.std.proofs.Common.{◌≡◌, ℕ, ◌<◌, ◌≤◌, ◌^◌, inl, inr, true, ◌&&◌, leb, eqb, Option, Some, List, [], ◌∷◌, ◌++◌, length, map, refl, ◌∙◌, ap, arith}
use Rattle.std.specs.Prelude.{option_map, option_and_then, decimal}
use Rattle.std.specs.Str.{bytes_eq}
use Rattle.std.specs.Str.Parse.{digits_value}
use Rattle.std.specs.List.{AllByRecursion, slice_split}
use Rattle.std.proofs.lemmas.Bool.{and_from, le-leb}
use Rattle.std.proofs.lemmas.Fmt.{digits_value-decimal, length-decimal-le}
use Rattle.list_laws.proofs.Booleans.{when_true}
use Rattle.list_laws.proofs.Marks.{is_free}
use Rattle.list_laws.proofs.Texts.{bytes_itself}
use Rattle.text_definitions.specs.Letters.{IsLetter}
use Rattle.text_definitions.specs.Slp1.{slp1_of_word, slp1_table}
use Rattle.text_definitions.proofs.DecimalDigits.{digits_tell}
use Rattle.text_definitions.proofs.SpelledWords.{read_from_spelled}
use Rattle.text_definitions.proofs.WrittenWords.{letter_is_word}
use Rattle.lexicon_definitions.specs.declared.limits.TheConstants.{MOST_FORM_LETTERS}
use Rattle.lexicon_definitions.specs.Deltas.{Delta}
use Rattle.lexicon_definitions.specs.Tags.{IsTagText, lone_words}
use Rattle.lexicon_text_definitions.specs.FileContents.{is_tag_text}
use Rattle.lexicon_text_definitions.specs.FileSteps.{one_letter}
use Rattle.lexicon_text_definitions.proofs.LineCuts.{split_at, split_none}
use Rattle.lexicon_text_definitions.proofs.TagTests.{free_nominal, test_from_tag}
use Rattle.trie_text_definitions.specs.LimitedRules.{all_there}
use Rattle.trie_text_definitions.specs.NodeLines.{listed, delta_text, child_text}
use Rattle.trie_text_definitions.specs.NodeFields.{most_node_digits, number_of, node_number, DeltaShape, ChildShape, delta_with, delta_of_parts, delta_shape, child_of_parts, child_shape, delta_shapes, child_shapes, word_read, delta_spelled, child_spelled}
use Rattle.trie_text_definitions.specs.PrintableRows.{IsPrintableDelta, IsPrintableChild}
use Rattle.trie_text_definitions.proofs.NodeLinesApart.{number_free, word_free, one_free, verbal_free, delta_parts, child_parts, deltas_back, children_back}
use Rattle.trie_text_definitions.proofs.NodeTexts.{IsNodeDelta}

-- ---- numbers

pub number_back : (n : ℕ) → n < 2 ^ 64 → number_of (decimal n) ≡ Some n
number_back n below =
    let value : digits_value 10 (decimal n) ≡ n = digits_value-decimal digits_tell n below in
    let same : bytes_eq (decimal n) (decimal (digits_value 10 (decimal n))) ≡ true = ap (λ (m : ℕ). bytes_eq (decimal n) (decimal m)) value ∙ bytes_itself (decimal n) in
    when_true _ _ _ _ same (ap Some value)

-- the number of a node that is printed with few digits
abbrev pub IsSmallNumber : ℕ → Type 0
IsSmallNumber n = n < 10 ^ 9

pub few_digits : (n : ℕ) → IsSmallNumber n → length (decimal n) ≤ most_node_digits
few_digits n small = length-decimal-le 9 n (omega arith) small (omega (arith, small))

pub node_back : (n : ℕ) → IsSmallNumber n → node_number (decimal n) ≡ Some n
node_back n small =
    when_true (leb (length (decimal n)) most_node_digits) _ _ _ (le-leb (length (decimal n)) most_node_digits (few_digits n small)) (number_back n (omega (arith, small)))

-- ---- parts

abbrev pub shape_of_delta : Delta → DeltaShape
shape_of_delta delta = record { cut = delta.cut; append = slp1_of_word delta.append; tag = delta.tag }

abbrev pub shape_of_child : ℕ × ℕ → ChildShape
shape_of_child child = record { letter = slp1_of_word (child.0 ∷ []); node = child.1 }

tag_free_of_colon : (text : List ℕ) → IsTagText text → is_free 58 text ≡ true
tag_free_of_colon text (inl h) = free_nominal 58 text refl refl refl refl h
tag_free_of_colon text (inr (inl h)) = verbal_free 58 text refl refl refl refl refl h
tag_free_of_colon text (inr (inr h)) = one_free 58 lone_words text refl h

delta_back : (delta : Delta) → IsNodeDelta delta → delta_shape (delta_text delta) ≡ Some (shape_of_delta delta)
unfolding slp1_table
delta_back delta d =
    let low : delta.cut < 2 ^ 64 = let cut = d.cut in omega (arith, cut) in
    let append = slp1_of_word delta.append in
    ap (λ (text : List ℕ). delta_of_parts (slice_split (λ byte. eqb byte 58) text)) (delta_parts delta)
    ∙ ap delta_of_parts (split_at 58 (decimal delta.cut) (append ++ 58 ∷ delta.tag) (number_free 58 refl delta.cut low)
    ∙ ap (◌∷◌ (decimal delta.cut)) (split_at 58 append delta.tag (word_free 58 refl delta.append d.word)
    ∙ ap (◌∷◌ append) (split_none 58 delta.tag (tag_free_of_colon delta.tag d.tag))))
    ∙ ap (option_and_then (delta_with append delta.tag)) (number_back delta.cut low)
    ∙ when_true (leb delta.cut MOST_FORM_LETTERS && is_tag_text delta.tag) _ _ _ (and_from _ _ (le-leb delta.cut MOST_FORM_LETTERS d.cut) (test_from_tag delta.tag d.tag)) refl

-- the letter of a child, and its number
pub record IsSmallChild (child : ℕ × ℕ) : Type 0 where
  pub letter : IsLetter child.0
  pub small : IsSmallNumber child.1

child_back : (child : ℕ × ℕ) → IsSmallChild child → child_shape (child_text child) ≡ Some (shape_of_child child)
unfolding slp1_table
child_back child c =
    let low : child.1 < 2 ^ 64 = let small = c.small in omega (arith, small) in
    let letter = slp1_of_word (child.0 ∷ []) in
    ap (λ (text : List ℕ). child_of_parts (slice_split (λ byte. eqb byte 61) text)) (child_parts child)
    ∙ ap child_of_parts (split_at 61 letter (decimal child.1) (word_free 61 refl (child.0 ∷ []) (letter_is_word child.0 c.letter))
    ∙ ap (◌∷◌ letter) (split_none 61 (decimal child.1) (number_free 61 refl child.1 low)))
    ∙ ap (option_map (λ number. record { letter = letter; node = number })) (node_back child.1 c.small)

delta_letters : (delta : Delta) → IsNodeDelta delta → delta_spelled (shape_of_delta delta) ≡ Some delta
delta_letters delta d =
    ap (λ reading. option_map (λ append. record { cut = delta.cut; append = append; tag = delta.tag }) (word_read reading))
    (read_from_spelled (slp1_of_word delta.append) delta.append d.word refl)

child_letter : (child : ℕ × ℕ) → IsSmallChild child → child_spelled (shape_of_child child) ≡ Some child
child_letter child c =
    ap (λ reading. option_map (λ (letter : ℕ). (letter, child.1)) (one_letter reading))
    (read_from_spelled (slp1_of_word (child.0 ∷ [])) (child.0 ∷ []) (letter_is_word child.0 c.letter) refl)

-- ---- lists

module _ {A B X : Type 0} (read : A → Option B) (write : X → A) (value : X → B) (P : X → Type 0) (back : (x : X) → P x → read (write x) ≡ Some (value x)) where
  pub all_back : (xs : List X) → AllByRecursion P xs → all_there (map read (map write xs)) ≡ Some (map value xs)
  all_back [] h = refl
  all_back (x ∷ xs) h = λ i. option_and_then (λ first. option_map (λ rest. first ∷ rest) (all_back xs h.1 i)) (back x h.0 i)

pub map_itself : {X : Type 0} (xs : List X) → map (λ x. x) xs ≡ xs
map_itself [] = refl
map_itself (x ∷ xs) = ap (◌∷◌ x) (map_itself xs)

pub each_weaker : {X : Type 0} (P Q : X → Type 0) → ((x : X) → P x → Q x) → (xs : List X) → AllByRecursion P xs → AllByRecursion Q xs
each_weaker P Q f [] h = tt
each_weaker P Q f (x ∷ xs) h = (f x h.0, each_weaker P Q f xs h.1)

pub delta_printed : (delta : Delta) → IsNodeDelta delta → IsPrintableDelta delta
delta_printed delta d = record { cut = let cut = d.cut in omega (arith, cut); word = d.word; tag = d.tag }

pub child_printed : (child : ℕ × ℕ) → IsSmallChild child → IsPrintableChild child
child_printed child c = record { letter = c.letter; number = let small = c.small in omega (arith, small) }

pub delta_shapes_back : (deltas : List Delta) → AllByRecursion IsNodeDelta deltas → delta_shapes (listed (map delta_text deltas)) ≡ Some (map shape_of_delta deltas)
delta_shapes_back deltas d =
    ap (λ texts. all_there (map delta_shape texts)) (deltas_back deltas (each_weaker IsNodeDelta IsPrintableDelta delta_printed deltas d))
    ∙ all_back delta_shape delta_text shape_of_delta IsNodeDelta delta_back deltas d

pub child_shapes_back : (children : List (ℕ × ℕ)) → AllByRecursion IsSmallChild children → child_shapes (listed (map child_text children)) ≡ Some (map shape_of_child children)
child_shapes_back children c =
    ap (λ texts. all_there (map child_shape texts)) (children_back children (each_weaker IsSmallChild IsPrintableChild child_printed children c))
    ∙ all_back child_shape child_text shape_of_child IsSmallChild child_back children c

pub deltas_spelled : (deltas : List Delta) → AllByRecursion IsNodeDelta deltas → all_there (map delta_spelled (map shape_of_delta deltas)) ≡ Some deltas
deltas_spelled deltas d = all_back delta_spelled shape_of_delta (λ delta. delta) IsNodeDelta delta_letters deltas d ∙ ap Some (map_itself deltas)

pub children_spelled : (children : List (ℕ × ℕ)) → AllByRecursion IsSmallChild children → all_there (map child_spelled (map shape_of_child children)) ≡ Some children
children_spelled children c = all_back child_spelled shape_of_child (λ child. child) IsSmallChild child_letter children c ∙ ap Some (map_itself children)
