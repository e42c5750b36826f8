-- The parts of a text as they are written one after another are the text: one list of lines more is written at each part.
use Rattle.std.proofs.Common.{◌≡◌, ℕ, ◌+◌, ◌<◌, ◌≤◌, List, [], ◌∷◌, ◌++◌, length, map, refl, sym, ◌∙◌, ap, arith}
use Rattle.std.proofs.lemmas.List.{append_assoc, length-append}
use Rattle.std.proofs.lemmas.Grind.{flat_map-append}
use Rattle.lexicon_definitions.specs.Lexicons.{Lexicon}
use Rattle.lexicon_definitions.specs.Tries.{Trie}
use Rattle.lexicon_text_definitions.specs.LexiconTexts as first
use Rattle.lexicon_text_definitions.specs.LexiconTexts.{text_of_lines, phase_line, grammar_line, plain_line, rule_line, forms_lines, end_line, text_of}
use Rattle.lexicon_text_definitions.specs.TextsOf.{HasText, IsTextOf}
use Rattle.trie_text_definitions.specs.NodeLines.{node_line}
use Rattle.trie_text_definitions.specs.TrieTexts.{rule_line_in, root_lines, text_in}
use Rattle.trie_text_definitions.specs.Versions.{Second}
use Rattle.trie_text_definitions.specs.VersionTexts.{IsOrderedTrieOf, IsNewestText}
use Rattle.shared_trie.specs.CanonicalNodes.{number_in, rows_of_nodes, trie_of_nodes}
use Rattle.lexicon_file.specs.Writing.{HasNewestText, IsHead, front_lines, head_lines, tail_lines}

-- a text of two lists of lines
two_texts : (a b : List (List ℕ)) → text_of_lines (a ++ b) ≡ text_of_lines a ++ text_of_lines b
two_texts a b = flat_map-append _ a b

-- ---- version 1

-- what is written part after part is the text of version 1
pub first_text : (lexicon : Lexicon) (at_head at_front at_rules at_forms at_end : List ℕ) → HasText lexicon
    → at_head ≡ first.head_line ++ 10 ∷ []
    → at_front ≡ at_head ++ text_of_lines (front_lines lexicon.rules)
    → at_rules ≡ at_front ++ text_of_lines (map (rule_line_in Second lexicon.rules.names) lexicon.rules.rules)
    → at_forms ≡ at_rules ++ text_of_lines (forms_lines lexicon.rules.names lexicon.phases)
    → at_end ≡ at_forms ++ (end_line ++ 10 ∷ [])
    → IsTextOf lexicon at_end
unfolding text_of
first_text lexicon at_head at_front at_rules at_forms at_end has a b c d e =
    let h = first.head_line ∷ [] in
    let f = front_lines lexicon.rules in
    let r = map rule_line lexicon.rules.rules in
    let s = forms_lines lexicon.rules.names lexicon.phases in
    let t = end_line ∷ [] in
    let front : at_front ≡ text_of_lines (h ++ f) = b ∙ ap (λ text. text ++ text_of_lines f) a ∙ sym (two_texts h f) in
    let rules : at_rules ≡ text_of_lines (h ++ f ++ r) = c ∙ ap (λ text. text ++ text_of_lines r) front ∙ sym (two_texts (h ++ f) r) in
    let forms : at_forms ≡ text_of_lines (h ++ f ++ r ++ s) = d ∙ ap (λ text. text ++ text_of_lines s) rules ∙ sym (two_texts (h ++ f ++ r) s) in
    record { has_text = has; text = e ∙ ap (λ text. text ++ text_of_lines t) forms ∙ sym (two_texts (h ++ f ++ r ++ s) t) }

-- ---- the newest text

module _ (lexicon : Lexicon) (trie : Trie) (nodes : List ℕ) (has : HasNewestText lexicon) (ordered : IsOrderedTrieOf (trie_of_nodes trie nodes) lexicon.phases) where
  abbrev pub nodes_text : List ℕ
  nodes_text = text_of_lines (map node_line (rows_of_nodes trie.rows nodes))

  abbrev pub tail_text : List ℕ
  tail_text = text_of_lines (tail_lines lexicon.rules (map (number_in nodes) trie.roots))

  -- what is written part after part is the newest text
  pub newest_text : (head tail at_nodes at_end : List ℕ) → IsHead lexicon.rules head → tail ≡ tail_text → at_nodes ≡ head ++ nodes_text → at_end ≡ at_nodes ++ tail
      → IsNewestText lexicon at_end
  unfolding text_in
  newest_text head tail at_nodes at_end is tail_is a b =
      let h = head_lines is.version lexicon.rules in
      let n = map node_line (rows_of_nodes trie.rows nodes) in
      let t = tail_lines lexicon.rules (map (number_in nodes) trie.roots) in (
        is.version,
        record {
          has_text = record { lexicon_itself = has.lexicon_itself; limits = has.limits; rules = is.has_rules; stems = has.stems };
          trie = trie_of_nodes trie nodes;
          ordered = ordered;
          text =
              b ∙ (λ i. a i ++ tail_is i) ∙ ap (λ text. text ++ text_of_lines n ++ text_of_lines t) is.text
              ∙ ap (λ text. text ++ text_of_lines t) (sym (two_texts h n)) ∙ sym (two_texts (h ++ n) t)
              ∙ ap text_of_lines (sym (append_assoc (h ++ n) (root_lines lexicon.rules.names (map (number_in nodes) trie.roots)) (end_line ∷ [])));
        },
      )

  long : (head tail at_nodes at_end : List ℕ) → tail ≡ tail_text → at_nodes ≡ head ++ nodes_text → at_end ≡ at_nodes ++ tail → length at_end ≡ length head + length nodes_text + length tail
  long head tail at_nodes at_end tail_is a b = ap length b ∙ length-append at_nodes tail ∙ ap (λ n. n + length tail) (ap length a ∙ length-append head nodes_text)

  -- it has more bytes than these, where its parts have
  pub too_long : (head tail : List ℕ) (most : ℕ) → IsHead lexicon.rules head → tail ≡ tail_text → most < length head + length nodes_text + length tail
      → (bytes : List ℕ) × IsNewestText lexicon bytes × (most < length bytes)
  too_long head tail most is tail_is more =
      let count = long head tail (head ++ nodes_text) ((head ++ nodes_text) ++ tail) tail_is refl refl in
      ((head ++ nodes_text) ++ tail, newest_text head tail (head ++ nodes_text) ((head ++ nodes_text) ++ tail) is tail_is refl refl, omega (arith, more, count))

  -- and no more, where its parts have not
  pub not_too_long : (head tail at_nodes at_end : List ℕ) (most : ℕ) → IsHead lexicon.rules head → tail ≡ tail_text → at_nodes ≡ head ++ nodes_text → at_end ≡ at_nodes ++ tail
      → length head + length nodes_text + length tail ≤ most → IsNewestText lexicon at_end × (length at_end ≤ most)
  not_too_long head tail at_nodes at_end most is tail_is a b few =
      let count = long head tail at_nodes at_end tail_is a b in
      (newest_text head tail at_nodes at_end is tail_is a b, omega (arith, few, count))
