-- The rules of a rule file: the rules that each entry stands for, one for each letter of its class, and its first reason to
-- be refused (own; rules after Huet 2005).
use Rattle.std.specs.Prelude.{ℕ, ◌+◌, ◌++◌, ◌||◌, nat_lt, Bool, true, false, if◌then◌else◌, Option, Some, None, Result, Ok, Err, List, [], ◌∷◌, length, map}
use Rattle.std.specs.List.{list_any}
use Rattle.toml.specs.Data.{Members}
use Rattle.list_laws.specs.EmptyLists.{is_empty}
use Rattle.lexicon_definitions.specs.declared.limits.TheConstants.{MOST_RULES, MOST_RULE_LETTERS, MOST_LEADS}
use Rattle.lexicon_definitions.specs.Rules.{Rule, is_twin}
use Rattle.lexicon_definitions.specs.Leads.{leads_of}
use Rattle.rule_file_definitions.specs.EntryWhys.{Why, Shape, Spelling, Class as UnknownClass, Phase, Strict, Long, Twice, Limit}
use Rattle.rule_file_definitions.specs.RuleFileFaults as faults
use Rattle.rule_file_definitions.specs.RuleFileFaults.{Fault}
use Rattle.rule_file_definitions.specs.SoundClasses.{letters_named}
use Rattle.rule_file_definitions.specs.RuleNotations.{Gap, Notation, Pattern, notation_of, pattern_of}
use Rattle.rule_file_definitions.specs.EntryPhases.{Fields, Phases, fields_of, is_final, phases_told}

-- ---- the rules of an entry

-- what is put in place of the class: one of its letters, or nothing where there is no class
abbrev pub letters_put : Option ℕ → List ℕ
letters_put None = []
letters_put (Some letter) = letter ∷ []

abbrev pub put_in : Bool → Option ℕ → List ℕ
put_in true filling = letters_put filling
put_in false filling = []

-- the word of a part with the class filled so
abbrev pub filled : Gap → Option ℕ → List ℕ
filled gap filling = gap.before ++ put_in gap.has_class filling ++ gap.after

-- the rule of the pattern between these phases, with the class filled so: x is written before u and before w
abbrev pub rule_with : Phases → Pattern → Option ℕ → Rule
rule_with phases pattern filling =
    record { u = pattern.x ++ pattern.u; v = filled pattern.v filling; w = pattern.x ++ filled pattern.w filling; before = phases.before; after = phases.after }

-- each letter of the class in turn; None where the class is unknown
abbrev pub some_fillings : Option (List ℕ) → Option (List (Option ℕ))
some_fillings None = None
some_fillings (Some letters) = Some (map Some letters)

abbrev pub fillings_of : Members → Option (List ℕ) → Option (List (Option ℕ))
fillings_of classes None = Some (None ∷ [])
fillings_of classes (Some name) = some_fillings (letters_named classes name)

-- u or w is empty
abbrev pub is_not_strict : Rule → Bool
is_not_strict rule = is_empty rule.u || is_empty rule.w

-- a part is too long
abbrev pub is_long : Rule → Bool
is_long rule =
    nat_lt MOST_RULE_LETTERS (length rule.u) || nat_lt MOST_RULE_LETTERS (length rule.v) || nat_lt MOST_RULE_LETTERS (length rule.w)

-- the rules, where each is strict and no part of any is too long
abbrev pub strict_and_short : List Rule → Result (List Rule) Why
strict_and_short rules =
    if list_any is_not_strict rules then Err Strict else if list_any is_long rules then Err Long else Ok rules

-- the rules of the pattern, filled in each of these ways, between these phases; None where they are not told
abbrev pub rules_filled : Option Phases → Pattern → Option (List (Option ℕ)) → Result (List Rule) Why
rules_filled phases pattern None = Err UnknownClass
rules_filled None pattern (Some fillings) = Err Phase
rules_filled (Some phases) pattern (Some fillings) = strict_and_short (map (rule_with phases pattern) fillings)

abbrev pub rules_of_pattern : List (List ℕ) → Members → Option (List ℕ × List ℕ) → Option (List ℕ) → Option Pattern
    → Result (List Rule) Why
rules_of_pattern names classes limits class None = Err Spelling
rules_of_pattern names classes limits class (Some pattern) =
    rules_filled (phases_told names (is_final pattern.v) limits) pattern (fillings_of classes class)

abbrev pub rules_of_notation : List (List ℕ) → Members → Option (List ℕ × List ℕ) → Option Notation → Result (List Rule) Why
rules_of_notation names classes limits None = Err Shape
rules_of_notation names classes limits (Some notation) =
    rules_of_pattern names classes limits notation.v.class (pattern_of notation)

abbrev pub rules_of_fields : List (List ℕ) → Members → Option Fields → Result (List Rule) Why
rules_of_fields names classes None = Err Shape
rules_of_fields names classes (Some fields) = rules_of_notation names classes fields.limits (notation_of fields.notation)

-- the rules that an entry stands for over the phases with these names, or its first reason that has to do with it alone
unfoldable pub rules_of_entry : List (List ℕ) → Members → List ℕ → Result (List Rule) Why
rules_of_entry names classes entry = rules_of_fields names classes (fields_of entry)

-- ---- the rules of a file

-- one of these has the triple of one before it, or of one of the earlier rules
abbrev pub have_twins : List Rule → List Rule → Bool
have_twins earlier [] = false
have_twins earlier (rule ∷ rules) = list_any (is_twin rule) earlier || have_twins (earlier ++ rule ∷ []) rules

-- there are too many rules, or too many different pairs of a v that is not empty and the phases after it
abbrev pub pass_limits : List Rule → Bool
pass_limits rules = nat_lt MOST_RULES (length rules) || nat_lt MOST_LEADS (length (leads_of rules))

-- the earlier rules with these too
unfoldable pub add_rules : List Rule → List Rule → Result (List Rule) Why
add_rules earlier rules =
    if have_twins earlier rules then Err Twice else if pass_limits (earlier ++ rules) then Err Limit else Ok (earlier ++ rules)

abbrev pub add_read : List Rule → Result (List Rule) Why → Result (List Rule) Why
add_read earlier (Ok rules) = add_rules earlier rules
add_read earlier (Err why) = Err why

-- the earlier rules with those of this entry too, or its first reason to be refused
unfoldable pub add_entry : List (List ℕ) → Members → List Rule → List ℕ → Result (List Rule) Why
add_entry names classes earlier entry = add_read earlier (rules_of_entry names classes entry)

-- the rules of one entry more, and then what follows; or the number and the reason of an entry that is refused
abbrev pub then_entries : ℕ → Result (List Rule) Why → (List Rule → Result (List Rule) Fault) → Result (List Rule) Fault
then_entries number (Ok rules) following = following rules
then_entries number (Err why) following = Err (faults.Rule number why)

-- the rules with those of these entries, the first of which has this number
abbrev pub add_entries : List (List ℕ) → Members → List Rule → ℕ → List (List ℕ) → Result (List Rule) Fault
add_entries names classes rules number [] = Ok rules
add_entries names classes rules number (entry ∷ entries) =
    then_entries number (add_entry names classes rules entry) (λ more. add_entries names classes more (number + 1) entries)

-- the rules of all entries, over the phases with these names
unfoldable pub read_entries : List (List ℕ) → Members → List (List ℕ) → Result (List Rule) Fault
read_entries names classes entries = add_entries names classes [] 1 entries
