-- A JSON value whose numbers are small and whose texts are UTF-8 is read back from its compact text with a line feed after it: the
-- text is that of the value's tokens, whose grammar gives the value, member by member.
use Rattle.std.proofs.Common.{◌≡◌, ℕ, ◌^◌, ◌<◌, ◌≤◌, Bool, true, false, cond, Option, Some, None, option_map, option_and_then, List, [], ◌∷◌, ◌++◌, decimal, IsUtf8, refl, sym, ap, ◌∙◌, append-nil}
use Rattle.std.specs.Prelude.{⊤}
use Rattle.std.proofs.lemmas.Str.{IsUtf8-append, IsUtf8-from_ascii, is_utf8-from_IsUtf8}
use Rattle.std.proofs.lemmas.Fmt.{IsAscii-decimal}
use Rattle.json.specs.Token.{Token}
use Rattle.json.specs.Lex.{tokens}
use Rattle.json.specs.Json as json
use Rattle.json.specs.Print.{quoted}
use Rattle.json.specs.Tree as tree
use Rattle.json.specs.Tree.{json_tokens}
use Rattle.json.proofs.Printed.Decimals.{IsNumber-decimal}
use Rattle.json.proofs.Printed.Trees.{value-json_tokens, ArePrintable-json_tokens}
use Rattle.json.proofs.Printed.Utf8.{IsUtf8-are_ascii, IsUtf8-quoted, IsUtf8-boolean}
use Rattle.serde_json.specs.Data.{Data, null, boolean, number, unsigned, negative, float, string, array, object, Items, no_items, item, Members, no_members, member, put}
use Rattle.serde_json.specs.Read.{of_json, of_items, of_members, max_depth, read}
use Rattle.serde_json.specs.Written.{outline, items_outline, members_outline, compact_text, items_text, members_text}
use Rattle.serde_json.proofs.Numbers.{number_of-decimal}
use Rattle.serde_json.proofs.Texts.{print-outline}
use Rattle.segmentation_definitions.specs.PrintedAnswers.{output_line}
use Rattle.note_definitions.specs.NoteReadings.{value_of_bytes}
use Rattle.note_definitions.proofs.EndedTexts.{tokens_ended}

-- these members, put one after another into those that were found
abbrev pub put_onto : Members → Members → Members
put_onto no_members found = found
put_onto (member name held rest) found = put_onto rest (put name held found)

-- the numbers are small, the texts are UTF-8, and the members are in order
abbrev mutual
  pub IsPlainValue : Data → Type 0
  IsPlainValue null = ⊤
  IsPlainValue (boolean b) = ⊤
  IsPlainValue (number (unsigned n)) = n < 2 ^ 64
  IsPlainValue (number (negative z)) = ⊥
  IsPlainValue (number (float x)) = ⊥
  IsPlainValue (string s) = IsUtf8 s
  IsPlainValue (array ds) = ArePlainItems ds
  IsPlainValue (object ms) = ArePlainMembers ms × (put_onto ms no_members ≡ ms)

  pub ArePlainItems : Items → Type 0
  ArePlainItems no_items = ⊤
  ArePlainItems (item d ds) = IsPlainValue d × ArePlainItems ds

  pub ArePlainMembers : Members → Type 0
  ArePlainMembers no_members = ⊤
  ArePlainMembers (member k d ms) = IsUtf8 k × IsPlainValue d × ArePlainMembers ms

-- ---- the value of the outline

mutual
  value_back : (d : Data) → IsPlainValue d → of_json (outline d) ≡ Some d
  value_back null h = refl
  value_back (boolean b) h = refl
  value_back (number (unsigned n)) h = ap (option_map number) (number_of-decimal n h)
  value_back (number (negative z)) h = absurd h
  value_back (number (float x)) h = absurd h
  value_back (string s) h = refl
  value_back (array ds) h = ap (option_map array) (items_back ds h)
  value_back (object ms) h = ap (option_map object) (members_back ms no_members h.0 ∙ ap Some h.1)

  items_back : (ds : Items) → ArePlainItems ds → of_items (items_outline ds) ≡ Some ds
  items_back no_items h = refl
  items_back (item d ds) h =
      ap (option_and_then (λ (e : Data). option_map (item e) (of_items (items_outline ds)))) (value_back d h.0)
      ∙ ap (option_map (item d)) (items_back ds h.1)

  members_back : (ms found : Members) → ArePlainMembers ms → of_members (members_outline ms) found ≡ Some (put_onto ms found)
  members_back no_members found h = refl
  members_back (member k d ms) found h =
      ap (option_and_then (λ (e : Data). of_members (members_outline ms) (put k e found))) (value_back d h.1)
      ∙ members_back ms (put k d found) h.2

-- ---- the numbers of the outline

mutual
  numbers_written : (d : Data) → IsPlainValue d → tree.HasNumbers (outline d)
  numbers_written null h = tt
  numbers_written (boolean b) h = tt
  numbers_written (number (unsigned n)) h = IsNumber-decimal n h
  numbers_written (number (negative z)) h = absurd h
  numbers_written (number (float x)) h = absurd h
  numbers_written (string s) h = tt
  numbers_written (array ds) h = item_numbers ds h
  numbers_written (object ms) h = member_numbers ms h.0

  item_numbers : (ds : Items) → ArePlainItems ds → tree.ItemsHaveNumbers (items_outline ds)
  item_numbers no_items h = tt
  item_numbers (item d ds) h = (numbers_written d h.0, item_numbers ds h.1)

  member_numbers : (ms : Members) → ArePlainMembers ms → tree.MembersHaveNumbers (members_outline ms)
  member_numbers no_members h = tt
  member_numbers (member k d ms) h = (numbers_written d h.1, member_numbers ms h.2)

-- ---- the bytes of the text

ascii_before : (byte : ℕ) (text : List ℕ) → IsUtf8 (byte ∷ []) → IsUtf8 text → IsUtf8 (byte ∷ text)
ascii_before byte text h k = IsUtf8-append (byte ∷ []) text h k

-- a member before others
member_utf8 : (name held rest : List ℕ) → IsUtf8 name → IsUtf8 held → IsUtf8 rest → IsUtf8 (quoted name ++ 58 ∷ (held ++ rest))
member_utf8 name held rest n h r =
    IsUtf8-append (quoted name) (58 ∷ (held ++ rest)) (IsUtf8-quoted name n)
    (ascii_before 58 (held ++ rest) (IsUtf8-are_ascii _ refl) (IsUtf8-append held rest h r))

mutual
  value_utf8 : (d : Data) → IsPlainValue d → IsUtf8 (compact_text d)
  value_utf8 null h = IsUtf8-are_ascii _ refl
  value_utf8 (boolean b) h = IsUtf8-boolean b
  value_utf8 (number (unsigned n)) h = IsUtf8-from_ascii (decimal n) (IsAscii-decimal n h)
  value_utf8 (number (negative z)) h = absurd h
  value_utf8 (number (float x)) h = absurd h
  value_utf8 (string s) h = IsUtf8-quoted s h
  value_utf8 (array ds) h = ascii_before 91 (items_text false ds) (IsUtf8-are_ascii _ refl) (items_utf8 false ds h)
  value_utf8 (object ms) h = ascii_before 123 (members_text false ms) (IsUtf8-are_ascii _ refl) (members_utf8 false ms h.0)

  items_utf8 : (later : Bool) (ds : Items) → ArePlainItems ds → IsUtf8 (items_text later ds)
  items_utf8 later no_items h = IsUtf8-are_ascii _ refl
  items_utf8 true (item d ds) h =
      ascii_before 44 _ (IsUtf8-are_ascii _ refl) (IsUtf8-append (compact_text d) (items_text true ds) (value_utf8 d h.0) (items_utf8 true ds h.1))
  items_utf8 false (item d ds) h = IsUtf8-append (compact_text d) (items_text true ds) (value_utf8 d h.0) (items_utf8 true ds h.1)

  members_utf8 : (later : Bool) (ms : Members) → ArePlainMembers ms → IsUtf8 (members_text later ms)
  members_utf8 later no_members h = IsUtf8-are_ascii _ refl
  members_utf8 true (member k d ms) h = ascii_before 44 _ (IsUtf8-are_ascii _ refl) (member_utf8 k (compact_text d) (members_text true ms) h.0 (value_utf8 d h.1) (members_utf8 true ms h.2))
  members_utf8 false (member k d ms) h = member_utf8 k (compact_text d) (members_text true ms) h.0 (value_utf8 d h.1) (members_utf8 true ms h.2)

-- ---- the whole text

-- what stands after a value is nothing
abbrev whole : Option (json.Json × List Token) → Option Data
whole found = option_and_then of_json (option_and_then (λ p. json.if_last p.0 p.1) found)

read_ended : (d : Data) → IsPlainValue d → tree.depth (outline d) ≤ max_depth → read (output_line (compact_text d)) ≡ Some d
read_ended d h shallow =
    let ts = json_tokens (outline d) in
    let same : tokens (output_line (compact_text d)) ≡ ts =
    ap (λ (text : List ℕ). tokens (text ++ 10 ∷ [])) (sym (print-outline d)) ∙ tokens_ended ts (ArePrintable-json_tokens (outline d) (numbers_written d h)) in
    ap (λ (us : List Token). whole (json.value max_depth us)) (same ∙ sym (append-nil ts))
    ∙ ap whole (value-json_tokens (outline d) max_depth [] shallow) ∙ value_back d h

-- a plain value that is not too deep is read from its text with a line feed after it
pub value_read : (d : Data) → IsPlainValue d → tree.depth (outline d) ≤ max_depth → value_of_bytes (output_line (compact_text d)) ≡ Some d
value_read d h shallow =
    let utf8 = is_utf8-from_IsUtf8 (output_line (compact_text d)) (IsUtf8-append (compact_text d) (10 ∷ []) (value_utf8 d h) (IsUtf8-are_ascii _ refl)) in
    ap (λ (test : Bool). cond test (read (output_line (compact_text d))) None) utf8 ∙ read_ended d h shallow
