-- A printed answer is UTF-8: words in SLP1 are ASCII by the table of letters, and the names of phases are texts.
use Rattle.std.proofs.Common.{◌≡◌, ℕ, zero, suc, ◌-◌, ◌<◌, inl, inr, Bool, true, false, nat_lt, ◌==◌, if◌then◌else◌, List, [], ◌∷◌, ◌++◌, map, get_or, IsUtf8, String, Global, string_bytes, codes, refl, sym, ap, subst, arith}
use Rattle.std.specs.Prelude.{slice_index, slice_index_or}
use Rattle.std.specs.List.{list_all}
use Rattle.std.proofs.lemmas.Bool.{cases_lt, and_parts, and_from, ltb-true}
use Rattle.std.proofs.lemmas.List.{get_or_past}
use Rattle.std.proofs.lemmas.Str.{IsUtf8-append, IsUtf8-nil, IsUtf8-from_ascii, IsUtf8-string_bytes}
use Rattle.text_definitions.specs.Spellings.{byte_of_letter}
use Rattle.text_definitions.specs.Slp1.{slp1_table, slp1_of_word}
use Rattle.text_definitions.proofs.Tables.{passes_at}
use Rattle.lexicon_definitions.specs.Lexicons.{RuleSet, rule_of}
use Rattle.lexicon_definitions.specs.Rules.{Rule, printed_rule}
use Rattle.segmentation_definitions.specs.Derivations.{Step}
use Rattle.segmentation_definitions.specs.PrintedAnswers.{name_of, printed_form, printed_joint, printed_end, printed_steps}
use Rattle.answer_printing.specs.Texts.{PrintedWith}
use Rattle.search_split.specs.PrintedPages.{text_after_number}

-- ---- bytes below 128

abbrev is_small : ℕ → Bool
is_small byte = nat_lt byte 128

small_at : (text : List ℕ) → list_all is_small text ≡ true → (i : ℕ) → get_or text i 0 < 128
small_at [] h i = omega arith
small_at (byte ∷ text) h zero = ltb-true byte 128 (and_parts (is_small byte) (list_all is_small text) h).0
small_at (byte ∷ text) h (suc i) = small_at text (and_parts (is_small byte) (list_all is_small text) h).1 i

small_utf8 : (text : List ℕ) → list_all is_small text ≡ true → IsUtf8 text
small_utf8 text h = IsUtf8-from_ascii text (small_at text h)

letter_small : (n : ℕ) → is_small (byte_of_letter slp1_table n) ≡ true
unfolding slp1_table
letter_small n = elim (cases_lt (n - 1) 50) [
  | inl below ↦ passes_at 50 (λ k. is_small (slice_index slp1_table k)) refl (n - 1) below
  | inr above ↦ ap is_small (get_or_past slp1_table (n - 1) 0 above)
]

word_small : (word : List ℕ) → list_all is_small (map (byte_of_letter slp1_table) word) ≡ true
word_small [] = refl
word_small (n ∷ word) = and_from _ _ (letter_small n) (word_small word)

word_utf8 : (word : List ℕ) → IsUtf8 (slp1_of_word word)
unfolding slp1_of_word
word_utf8 word = small_utf8 _ (word_small word)

-- ---- names

-- the names of phases are those of texts, and past them there is the empty one
pub names_utf8 : (phases : List (String Global)) (names : List (List ℕ)) → map string_bytes phases ≡ names → (phase : ℕ) → IsUtf8 (slice_index_or names phase [])
names_utf8 phases names same phase = subst (λ ns. IsUtf8 (slice_index_or ns phase [])) same (each phases phase)
  where
    each : (texts : List (String Global)) (place : ℕ) → IsUtf8 (slice_index_or (map string_bytes texts) place [])
    each [] place = IsUtf8-nil
    each (text ∷ texts) zero = IsUtf8-string_bytes text
    each (text ∷ texts) (suc place) = each texts place

-- so with the rules of a printer
pub names_of_printer : (printer : PrintedWith) (rules : RuleSet) → printer.rules ≡ rules → ((phase : ℕ) → IsUtf8 (slice_index_or rules.names phase []))
    → (phase : ℕ) → IsUtf8 (name_of printer.rules phase)
names_of_printer printer rules same names = subst (λ (rs : RuleSet). (phase : ℕ) → IsUtf8 (name_of rs phase)) (sym same) names

-- ---- answers

module _ (rules : RuleSet) (names : (phase : ℕ) → IsUtf8 (name_of rules phase)) where
  rule_utf8 : (rule : Rule) → IsUtf8 (printed_rule rule)
  rule_utf8 rule =
      IsUtf8-append (slp1_of_word rule.u ++ codes "|" ++ slp1_of_word rule.v ++ codes ">") (slp1_of_word rule.w)
      (IsUtf8-append (slp1_of_word rule.u ++ codes "|" ++ slp1_of_word rule.v) (codes ">")
      (IsUtf8-append (slp1_of_word rule.u ++ codes "|") (slp1_of_word rule.v)
      (IsUtf8-append (slp1_of_word rule.u) (codes "|") (word_utf8 rule.u) (small_utf8 _ refl)) (word_utf8 rule.v)) (small_utf8 _ refl)) (word_utf8 rule.w)

  form_utf8 : (step : Step) → IsUtf8 (printed_form rules step)
  form_utf8 step =
      IsUtf8-append (slp1_of_word step.form ++ codes "[" ++ name_of rules step.phase) (codes "]")
      (IsUtf8-append (slp1_of_word step.form ++ codes "[") (name_of rules step.phase)
      (IsUtf8-append (slp1_of_word step.form) (codes "[") (word_utf8 step.form) (small_utf8 _ refl)) (names step.phase)) (small_utf8 _ refl)

  -- a rule between other bytes
  within_utf8 : (before after : List ℕ) (number : ℕ) → IsUtf8 before → IsUtf8 after → IsUtf8 (before ++ printed_rule (rule_of rules number) ++ after)
  within_utf8 before after number h k =
      IsUtf8-append (before ++ printed_rule (rule_of rules number)) after (IsUtf8-append before (printed_rule (rule_of rules number)) h (rule_utf8 (rule_of rules number))) k

  one_utf8 : (test : Bool) (left right : List ℕ) → IsUtf8 left → IsUtf8 right → IsUtf8 (if test then left else right)
  one_utf8 true left right h k = h
  one_utf8 false left right h k = k

  joint_utf8 : (number : ℕ) → IsUtf8 (printed_joint rules number)
  joint_utf8 number =
      one_utf8 (number == 0) (codes " + ") (codes " (" ++ printed_rule (rule_of rules number) ++ codes ") ") (small_utf8 _ refl)
      (within_utf8 (codes " (") (codes ") ") number (small_utf8 _ refl) (small_utf8 _ refl))

  end_utf8 : (number : ℕ) → IsUtf8 (printed_end rules number)
  end_utf8 number =
      one_utf8 (number == 0) [] (codes " (" ++ printed_rule (rule_of rules number) ++ codes ")") IsUtf8-nil
      (within_utf8 (codes " (") (codes ")") number (small_utf8 _ refl) (small_utf8 _ refl))

  steps_utf8 : (steps : List Step) → IsUtf8 (printed_steps rules steps)
  steps_utf8 [] = IsUtf8-nil
  steps_utf8 (step ∷ []) = IsUtf8-append (printed_form rules step) (printed_end rules step.rule) (form_utf8 step) (end_utf8 step.rule)
  steps_utf8 (step ∷ next ∷ steps) =
      IsUtf8-append (printed_form rules step ++ printed_joint rules step.rule) (printed_steps rules (next ∷ steps))
      (IsUtf8-append (printed_form rules step) (printed_joint rules step.rule) (form_utf8 step) (joint_utf8 step.rule)) (steps_utf8 (next ∷ steps))

  pub text_utf8 : (steps : List Step) → IsUtf8 (text_after_number rules steps)
  text_utf8 steps = IsUtf8-append (codes ": ") (printed_steps rules steps) (small_utf8 _ refl) (steps_utf8 steps)
