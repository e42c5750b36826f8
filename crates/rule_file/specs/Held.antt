-- What the program's values hold, in the words of the definitions.
use Rattle.std.specs.Prelude.{◌≡◌, ℕ, Bool, true, false, Option, Some, None, Ok, Err, List, ◌++◌, map, string_bytes, String}
use Rattle.std.specs.declared.alloc.Global.{Global}
use Rattle.toml.specs.Data.{Members}
use Rattle.list_laws.specs.RisingSets.{with_elements}
use Rattle.lexicon_definitions.specs.Rules.{Rule}
use Rattle.lexicon_definitions.specs.Lexicons.{RuleSet, compare_pairs}
use Rattle.text_definitions.specs.Spellings.{Reading}
use Rattle.rule_file_definitions.specs.RuleTexts.{RuleTexts}
use Rattle.rule_file.specs.declared.document.Texts.{Texts}

-- the texts of a file: those of its phases, its grammar, its plain pairs and its rules, and its classes
abbrev pub texts_of : List (String Global) → List ℕ → List (String Global) → List (String Global) → Members → RuleTexts
texts_of phases grammar plain rules classes =
    record { phases = map string_bytes phases; grammar = grammar; plain = map string_bytes plain; rules = map string_bytes rules; classes = classes }

abbrev pub texts_with_classes : Texts → Members → RuleTexts
texts_with_classes texts classes = texts_of texts.phases.items (string_bytes texts.grammar) texts.plain.items texts.rules.items classes

-- the rule set with these phases and this grammar, plain pairs and rules
abbrev pub set_of : List (String Global) → List ℕ → List (ℕ × ℕ) → List Rule → RuleSet
set_of phases grammar plain rules = record { names = map string_bytes phases; grammar = grammar; plain = plain; rules = rules }

-- texts before others, where these are texts
abbrev pub with_texts : List (List ℕ) → Option (List (List ℕ)) → Option (List (List ℕ))
with_texts front None = None
with_texts front (Some texts) = Some (front ++ texts)

-- the word of a reading, where it has one
abbrev pub word_of : Reading → Option (List ℕ)
word_of (Ok word) = Some word
word_of (Err fault) = None

-- the pairs with those of an entry, where it is one, as this test says
abbrev pub AreAdded : Option (List (ℕ × ℕ)) → List (ℕ × ℕ) → Bool → List (ℕ × ℕ) → Type 0
AreAdded None old is_entry new = is_entry ≡ false
AreAdded (Some more) old is_entry new = (is_entry ≡ true) × (new ≡ with_elements compare_pairs old more)
