-- What the keys of a document hold, by what is found at them.
use Rattle.std.proofs.Common.{◌≡◌, ℕ, Bool, true, false, cond, is_some, option_map, codes, IsUtf8, Option, Some, None, List, refl, ◌∙◌, ap}
use Rattle.std.specs.Str.{is_utf8}
use Rattle.std.proofs.lemmas.Str.{IsUtf8-from_is_utf8, is_utf8-from_IsUtf8}
use Rattle.toml.specs.Parse.{parse_document}
use Rattle.toml.specs.Data.{Members, get_member}
use Rattle.rule_file_definitions.specs.RuleTexts.{document_of, as_texts, as_text, as_classes, has_known_keys, texts_with, texts_of_document}

-- ---- the document of the bytes

pub document_read : (bytes : List ℕ) (root : Members) → IsUtf8 bytes → parse_document bytes ≡ Some root → document_of bytes ≡ Some root
document_read bytes root u e = ap (λ b. cond b (parse_document bytes) None) (is_utf8-from_IsUtf8 bytes u) ∙ e

refused_by : (bytes : List ℕ) (test : Bool) → is_utf8 bytes ≡ test → (IsUtf8 bytes → parse_document bytes ≡ None) → cond test (parse_document bytes) None ≡ None
refused_by bytes true t h = h (IsUtf8-from_is_utf8 bytes t)
refused_by bytes false t h = refl

pub document_refused : (bytes : List ℕ) → (IsUtf8 bytes → parse_document bytes ≡ None) → document_of bytes ≡ None
document_refused bytes h = refused_by bytes (is_utf8 bytes) refl h

pub some_alike : {A B : Type 0} (f : A → B) (found : Option A) (held : Option B) → option_map f found ≡ held → is_some found ≡ is_some held
some_alike f None held e = ap is_some e
some_alike f (Some x) held e = ap is_some e

-- ---- the whole document

module _ (root : Members) where
  abbrev phases_held : Option (List (List ℕ))
  phases_held = as_texts (get_member (codes "phases") root)

  abbrev grammar_held : Option (List ℕ)
  grammar_held = as_text (get_member (codes "grammar") root)

  abbrev plain_held : Option (List (List ℕ))
  plain_held = as_texts (get_member (codes "plain") root)

  abbrev rules_held : Option (List (List ℕ))
  rules_held = as_texts (get_member (codes "rules") root)

  abbrev classes_held : Option Members
  classes_held = as_classes (get_member (codes "classes") root)

  none_by : (test : Bool) (phases : Option (List (List ℕ))) (grammar : Option (List ℕ)) (plain rules : Option (List (List ℕ))) (classes : Option Members)
      → texts_with phases grammar plain rules classes ≡ None → cond test (texts_with phases grammar plain rules classes) None ≡ None
  none_by true phases grammar plain rules classes h = h
  none_by false phases grammar plain rules classes h = refl

  pub unknown_key : has_known_keys root ≡ false → texts_of_document root ≡ None
  unfolding texts_of_document
  unknown_key e = ap (λ b. cond b (texts_with phases_held grammar_held plain_held rules_held classes_held) None) e

  without_phases : (phases : Option (List (List ℕ))) (grammar : Option (List ℕ)) (plain rules : Option (List (List ℕ))) (classes : Option Members) → phases ≡ None
      → texts_with phases grammar plain rules classes ≡ None
  without_phases None grammar plain rules classes e = refl
  without_phases (Some phases) grammar plain rules classes e = absurd (cc)

  without_grammar : (phases : Option (List (List ℕ))) (grammar : Option (List ℕ)) (plain rules : Option (List (List ℕ))) (classes : Option Members) → grammar ≡ None
      → texts_with phases grammar plain rules classes ≡ None
  without_grammar None grammar plain rules classes e = refl
  without_grammar (Some phases) None plain rules classes e = refl
  without_grammar (Some phases) (Some grammar) plain rules classes e = absurd (cc)

  without_plain : (phases : Option (List (List ℕ))) (grammar : Option (List ℕ)) (plain rules : Option (List (List ℕ))) (classes : Option Members) → plain ≡ None
      → texts_with phases grammar plain rules classes ≡ None
  without_plain None grammar plain rules classes e = refl
  without_plain (Some phases) None plain rules classes e = refl
  without_plain (Some phases) (Some grammar) None rules classes e = refl
  without_plain (Some phases) (Some grammar) (Some plain) rules classes e = absurd (cc)

  without_rules : (phases : Option (List (List ℕ))) (grammar : Option (List ℕ)) (plain rules : Option (List (List ℕ))) (classes : Option Members) → rules ≡ None
      → texts_with phases grammar plain rules classes ≡ None
  without_rules None grammar plain rules classes e = refl
  without_rules (Some phases) None plain rules classes e = refl
  without_rules (Some phases) (Some grammar) None rules classes e = refl
  without_rules (Some phases) (Some grammar) (Some plain) None classes e = refl
  without_rules (Some phases) (Some grammar) (Some plain) (Some rules) classes e = absurd (cc)

  without_classes : (phases : Option (List (List ℕ))) (grammar : Option (List ℕ)) (plain rules : Option (List (List ℕ))) (classes : Option Members) → classes ≡ None
      → texts_with phases grammar plain rules classes ≡ None
  without_classes None grammar plain rules classes e = refl
  without_classes (Some phases) None plain rules classes e = refl
  without_classes (Some phases) (Some grammar) None rules classes e = refl
  without_classes (Some phases) (Some grammar) (Some plain) None classes e = refl
  without_classes (Some phases) (Some grammar) (Some plain) (Some rules) None e = refl
  without_classes (Some phases) (Some grammar) (Some plain) (Some rules) (Some classes) e = absurd (cc)

  pub no_phases : phases_held ≡ None → texts_of_document root ≡ None
  unfolding texts_of_document
  no_phases e = none_by (has_known_keys root) _ _ _ _ _ (without_phases phases_held grammar_held plain_held rules_held classes_held e)

  pub no_grammar : grammar_held ≡ None → texts_of_document root ≡ None
  unfolding texts_of_document
  no_grammar e = none_by (has_known_keys root) _ _ _ _ _ (without_grammar phases_held grammar_held plain_held rules_held classes_held e)

  pub no_plain : plain_held ≡ None → texts_of_document root ≡ None
  unfolding texts_of_document
  no_plain e = none_by (has_known_keys root) _ _ _ _ _ (without_plain phases_held grammar_held plain_held rules_held classes_held e)

  pub no_rules : rules_held ≡ None → texts_of_document root ≡ None
  unfolding texts_of_document
  no_rules e = none_by (has_known_keys root) _ _ _ _ _ (without_rules phases_held grammar_held plain_held rules_held classes_held e)

  pub bad_classes : classes_held ≡ None → texts_of_document root ≡ None
  unfolding texts_of_document
  bad_classes e = none_by (has_known_keys root) _ _ _ _ _ (without_classes phases_held grammar_held plain_held rules_held classes_held e)

  pub texts_made : (phases : List (List ℕ)) (grammar : List ℕ) (plain rules : List (List ℕ)) (classes : Members) → has_known_keys root ≡ true
      → phases_held ≡ Some phases → grammar_held ≡ Some grammar → plain_held ≡ Some plain → rules_held ≡ Some rules → classes_held ≡ Some classes
      → texts_of_document root ≡ Some (record { phases = phases; grammar = grammar; plain = plain; rules = rules; classes = classes })
  unfolding texts_of_document
  texts_made phases grammar plain rules classes k a b c d e = λ i. cond (k i) (texts_with (a i) (b i) (c i) (d i) (e i)) None
