-- The lines of versions 2 and 3 are ASCII and have no line end, part by part.
use Rattle.std.proofs.Common.{◌≡◌, ℕ, ◌<◌, ◌^◌, Bool, true, false, cond, eqb, List, [], ◌∷◌, ◌++◌, length, map, refl, arith}
use Rattle.std.specs.Prelude.{All, codes, decimal}
use Rattle.std.specs.Char.{is_ascii_digit}
use Rattle.std.specs.Str.{all_ascii_digits}
use Rattle.std.specs.List.{AllByRecursion, join_with_byte}
use Rattle.std.proofs.lemmas.Bool.{and_parts, and_from, leb-true, lt-ltb, ne_eqb, not_from_false}
use Rattle.std.proofs.lemmas.Fmt.{digits_decimal}
use Rattle.std.proofs.lemmas.List.Elements.{recursion_from_All}
use Rattle.text_definitions.specs.Letters.{IsLetter}
use Rattle.text_definitions.specs.Slp1.{slp1_of_word}
use Rattle.text_definitions.proofs.DecimalDigits.{digits_tell}
use Rattle.text_definitions.proofs.WrittenWords.{letter_is_word}
use Rattle.lexicon_definitions.specs.Deltas.{Delta}
use Rattle.lexicon_definitions.specs.Lexicons.{IsPhaseName}
use Rattle.lexicon_definitions.specs.Rules.{Rule, IsRule, all_phases}
use Rattle.lexicon_definitions.specs.Tries.{Row}
use Rattle.lexicon_text_definitions.specs.LexiconTexts.{plain_line, rule_line}
use Rattle.lexicon_text_definitions.proofs.CleanBytes.{is_clean, IsClean, clean_append, clean_name, clean_word, clean_tag}
use Rattle.trie_text_definitions.specs.LimitedRules.{names_from, phases_text, phases_after_text, limited_rule_line}
use Rattle.trie_text_definitions.specs.NodeLines.{listed, delta_text, child_text, node_line}
use Rattle.trie_text_definitions.specs.TrieTexts.{root_line, rule_line_in}
use Rattle.trie_text_definitions.specs.Versions.{Version, Second, Third}
use Rattle.trie_text_definitions.proofs.NodeSteps.{IsRowDelta}
use Rattle.trie_text_definitions.proofs.NodeTexts.{IsNodeDelta}
use Rattle.trie_text_laws.proofs.LimitedRulesRead.{names_of_set}
use Rattle.trie_text_laws.proofs.NodeFieldsRead.{IsSmallNumber, IsSmallChild}

-- ---- parts

clean_digit : (byte : ℕ) → is_ascii_digit byte ≡ true → is_clean byte ≡ true
clean_digit byte h =
    let parts = and_parts _ _ h in
    let above = leb-true 48 byte parts.0 in
    let below = leb-true byte 57 parts.1 in
    and_from _ _ (lt-ltb byte 128 (omega (arith, below))) (not_from_false (eqb byte 10) (ne_eqb byte 10 (λ e. omega (arith, above, e))))

clean_digits : (text : List ℕ) → all_ascii_digits text ≡ true → IsClean text
clean_digits [] h = refl
clean_digits (byte ∷ text) h =
    let parts = and_parts (is_ascii_digit byte) (all_ascii_digits text) h in
    and_from _ _ (clean_digit byte parts.0) (clean_digits text parts.1)

clean_number : (n : ℕ) → n < 2 ^ 64 → IsClean (decimal n)
clean_number n below = clean_digits (decimal n) (digits_decimal digits_tell n below)

clean_joined : (texts : List (List ℕ)) → AllByRecursion IsClean texts → IsClean (join_with_byte 44 texts)
clean_joined [] h = refl
clean_joined (text ∷ []) h = h.0
clean_joined (text ∷ next ∷ texts) h = clean_append text (44 ∷ join_with_byte 44 (next ∷ texts)) h.0 (and_from _ _ refl (clean_joined (next ∷ texts) h.1))

clean_listed : (texts : List (List ℕ)) → AllByRecursion IsClean texts → IsClean (listed texts)
clean_listed [] h = refl
clean_listed (text ∷ texts) h = clean_joined (text ∷ texts) h

-- ---- nodes and roots

clean_delta : (delta : Delta) → IsNodeDelta delta → IsClean (delta_text delta)
clean_delta delta d =
    let cut = decimal delta.cut in
    let append = slp1_of_word delta.append in
    let number = clean_number delta.cut (let low = d.cut in omega (arith, low)) in
    clean_append (((cut ++ codes ":") ++ append) ++ codes ":") delta.tag
    (clean_append ((cut ++ codes ":") ++ append) (codes ":") (clean_append (cut ++ codes ":") append (clean_append cut (codes ":") number refl) (clean_word delta.append d.word)) refl)
    (clean_tag delta.tag d.tag)

clean_child : (child : ℕ × ℕ) → IsSmallChild child → IsClean (child_text child)
clean_child child c =
    let letter = slp1_of_word (child.0 ∷ []) in
    clean_append (letter ++ codes "=") (decimal child.1)
    (clean_append letter (codes "=") (clean_word (child.0 ∷ []) (letter_is_word child.0 c.letter)) refl)
    (clean_number child.1 (let low = c.small in omega (arith, low)))

clean_deltas : (deltas : List Delta) → AllByRecursion IsRowDelta deltas → AllByRecursion IsClean (map delta_text deltas)
clean_deltas [] h = tt
clean_deltas (delta ∷ deltas) h = (clean_delta delta h.0.0, clean_deltas deltas h.1)

clean_children : (children : List (ℕ × ℕ)) → AllByRecursion IsSmallChild children → AllByRecursion IsClean (map child_text children)
clean_children [] h = tt
clean_children (child ∷ children) h = (clean_child child h.0, clean_children children h.1)

pub clean_node_line : (row : Row) → AllByRecursion IsRowDelta row.deltas → AllByRecursion IsSmallChild row.children → IsClean (node_line row)
clean_node_line row d c =
    let deltas = listed (map delta_text row.deltas) in
    clean_append ((codes "node " ++ deltas) ++ codes " ") (listed (map child_text row.children))
    (clean_append (codes "node " ++ deltas) (codes " ") (clean_append (codes "node ") deltas refl (clean_listed (map delta_text row.deltas) (clean_deltas row.deltas d))) refl)
    (clean_listed (map child_text row.children) (clean_children row.children c))

pub clean_root_line : (name : List ℕ) (root : ℕ) → IsPhaseName name → IsSmallNumber root → IsClean (root_line name root)
clean_root_line name root n small =
    clean_append ((codes "root " ++ name) ++ codes " ") (decimal root)
    (clean_append (codes "root " ++ name) (codes " ") (clean_append (codes "root ") name refl (clean_name name n)) refl)
    (clean_number root (omega (arith, small)))

-- ---- pairs and rules

pub clean_pair_line : (pair : ℕ × ℕ) → IsLetter pair.0 → IsLetter pair.1 → IsClean (plain_line pair)
clean_pair_line pair l r =
    let left = slp1_of_word (pair.0 ∷ []) in
    clean_append ((codes "plain " ++ left) ++ codes " ") (slp1_of_word (pair.1 ∷ []))
    (clean_append (codes "plain " ++ left) (codes " ") (clean_append (codes "plain ") left refl (clean_word (pair.0 ∷ []) (letter_is_word pair.0 l))) refl)
    (clean_word (pair.1 ∷ []) (letter_is_word pair.1 r))

clean_rule : (count : ℕ) (rule : Rule) → IsRule count rule → IsClean (rule_line rule)
clean_rule count rule r =
    let u = slp1_of_word rule.u in
    let v = slp1_of_word rule.v in
    clean_append ((((codes "rule " ++ u) ++ codes "|") ++ v) ++ codes ">") (slp1_of_word rule.w)
    (clean_append (((codes "rule " ++ u) ++ codes "|") ++ v) (codes ">")
    (clean_append ((codes "rule " ++ u) ++ codes "|") v
    (clean_append (codes "rule " ++ u) (codes "|") (clean_append (codes "rule ") u refl (clean_word rule.u r.u_is_word)) refl) (clean_word rule.v r.v_is_word)) refl)
    (clean_word rule.w r.w_is_word)

names_clean : (names : List (List ℕ)) → AllByRecursion IsPhaseName names → AllByRecursion IsClean names
names_clean [] h = tt
names_clean (name ∷ names) h = (clean_name name h.0, names_clean names h.1)

clean_set : (names : List (List ℕ)) → All IsPhaseName names → (set : ℕ) → IsClean (phases_text names set)
clean_set names each set = by (eqb set (all_phases (length names)))
  where
    by : (test : Bool) → IsClean (cond test (codes "*") (join_with_byte 44 (names_from set 0 names)))
    by true = refl
    by false = clean_joined (names_from set 0 names) (names_of_set IsClean set 0 names (names_clean names (recursion_from_All IsPhaseName names each)))

clean_after : (names : List (List ℕ)) → All IsPhaseName names → (v : List ℕ) (set : ℕ) → IsClean (phases_after_text names v set)
clean_after names each [] set = refl
clean_after names each (letter ∷ v) set = clean_set names each set

clean_limited : (names : List (List ℕ)) → All IsPhaseName names → (rule : Rule) → IsRule (length names) rule → IsClean (limited_rule_line names rule)
clean_limited names each rule r =
    let before = phases_text names rule.before in
    clean_append (((rule_line rule ++ codes " ") ++ before) ++ codes " ") (phases_after_text names rule.v rule.after)
    (clean_append ((rule_line rule ++ codes " ") ++ before) (codes " ")
    (clean_append (rule_line rule ++ codes " ") before (clean_append (rule_line rule) (codes " ") (clean_rule (length names) rule r) refl) (clean_set names each rule.before)) refl)
    (clean_after names each rule.v rule.after)

pub clean_rule_line_in : (version : Version) (names : List (List ℕ)) → All IsPhaseName names → (rule : Rule) → IsRule (length names) rule → IsClean (rule_line_in version names rule)
clean_rule_line_in Second names each rule r = clean_rule (length names) rule r
clean_rule_line_in Third names each rule r = clean_limited names each rule r
