-- The texts of a rule file: what its TOML document holds under the keys of such a file (TOML 1.1; the keys are own).
use Rattle.std.specs.Prelude.{ℕ, ◌&&◌, Bool, true, false, if◌then◌else◌, Option, Some, None, Result, Ok, Err, List, [], ◌∷◌, codes}
use Rattle.std.specs.List.{list_any}
use Rattle.std.specs.Str.{bytes_eq, is_utf8}
use Rattle.toml.specs.Data.{Data, string, array, table, Items, no_items, item, Members, no_members, member, get_member}
use Rattle.toml.specs.Parse.{parse_document}
use Rattle.rule_file_definitions.specs.RuleFileFaults.{Fault, Toml, Shape}

-- what the keys of a rule file hold; the classes are a table, whose keys rise
pub record RuleTexts : Type 0 where
  pub phases : List (List ℕ)
  pub grammar : List ℕ
  pub plain : List (List ℕ)
  pub rules : List (List ℕ)
  pub classes : Members

-- a text before others, where these are texts
abbrev pub with_text : List ℕ → Option (List (List ℕ)) → Option (List (List ℕ))
with_text text None = None
with_text text (Some texts) = Some (text ∷ texts)

-- the texts of an array in which each item is a string
abbrev pub texts_of : Items → Option (List (List ℕ))
texts_of no_items = Some []
texts_of (item (string text) rest) = with_text text (texts_of rest)
texts_of (item other rest) = None

-- each member of the table is a string
abbrev pub are_texts : Members → Bool
are_texts no_members = true
are_texts (member name (string text) rest) = are_texts rest
are_texts (member name other rest) = false

-- what a key holds, where it is an array of strings
abbrev pub as_texts : Option Data → Option (List (List ℕ))
as_texts (Some (array items)) = texts_of items
as_texts held = None

-- what a key holds, where it is a string
abbrev pub as_text : Option Data → Option (List ℕ)
as_text (Some (string text)) = Some text
as_text held = None

-- what a key holds, where it is a table of strings; where there is no such key there are no classes
abbrev pub as_classes : Option Data → Option Members
as_classes None = Some no_members
as_classes (Some (table members)) = if are_texts members then Some members else None
as_classes held = None

-- the keys that a rule file may have
abbrev pub known_keys : List (List ℕ)
known_keys = codes "phases" ∷ codes "grammar" ∷ codes "plain" ∷ codes "rules" ∷ codes "classes" ∷ []

-- each key of the table is one of them
abbrev pub has_known_keys : Members → Bool
has_known_keys no_members = true
has_known_keys (member key held rest) = list_any (bytes_eq key) known_keys && has_known_keys rest

-- the texts, where each key holds what it should
abbrev pub texts_with : Option (List (List ℕ)) → Option (List ℕ) → Option (List (List ℕ)) → Option (List (List ℕ)) → Option Members
    → Option RuleTexts
texts_with (Some phases) (Some grammar) (Some plain) (Some rules) (Some classes) =
    Some (record { phases = phases; grammar = grammar; plain = plain; rules = rules; classes = classes })
texts_with phases grammar plain rules classes = None

-- the texts of a document: its keys are exactly phases, grammar, plain, rules and optionally classes, of the right types
unfoldable pub texts_of_document : Members → Option RuleTexts
texts_of_document root =
    if has_known_keys root
    then
    texts_with (as_texts (get_member (codes "phases") root)) (as_text (get_member (codes "grammar") root))
    (as_texts (get_member (codes "plain") root)) (as_texts (get_member (codes "rules") root))
    (as_classes (get_member (codes "classes") root))
    else None

-- the document of a file that is UTF-8
abbrev pub document_of : List ℕ → Option Members
document_of bytes = if is_utf8 bytes then parse_document bytes else None

abbrev pub texts_or_shape : Option RuleTexts → Result RuleTexts Fault
texts_or_shape None = Err Shape
texts_or_shape (Some texts) = Ok texts

abbrev pub texts_or_toml : Option Members → Result RuleTexts Fault
texts_or_toml None = Err Toml
texts_or_toml (Some root) = texts_or_shape (texts_of_document root)

-- the texts of a file, or its fault Toml or Shape
unfoldable pub read_texts : List ℕ → Result RuleTexts Fault
read_texts bytes = texts_or_toml (document_of bytes)
