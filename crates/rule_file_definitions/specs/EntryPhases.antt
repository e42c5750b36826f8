-- How an entry of the rules limits them to phases (own): `NOTATION`, or `NOTATION BEFORE AFTER`, where BEFORE names the phases
-- that a form before the rule may have, and AFTER those of a form after it.
use Rattle.std.specs.Prelude.{ℕ, ◌==◌, ◌&&◌, not, Bool, true, false, Option, Some, None, List, [], ◌∷◌, length}
use Rattle.std.specs.List.{slice_split}
use Rattle.list_laws.specs.EmptyLists.{is_empty}
use Rattle.lexicon_definitions.specs.Rules.{all_phases}
use Rattle.trie_text_definitions.specs.LimitedRules.{set_told, set_after_told}
use Rattle.rule_file_definitions.specs.RuleNotations.{Gap}

-- the notation of an entry, and the fields BEFORE and AFTER, where it has them
pub record Fields : Type 0 where
  pub notation : List ℕ
  pub limits : Option (List ℕ × List ℕ)

abbrev pub fields_with : List (List ℕ) → Option Fields
fields_with (notation ∷ []) = Some (record { notation = notation; limits = None })
fields_with (notation ∷ before ∷ after ∷ []) = Some (record { notation = notation; limits = Some (before, after) })
fields_with fields = None

-- the one or three fields of an entry, with one blank between
unfoldable pub fields_of : List ℕ → Option Fields
fields_of entry = fields_with (slice_split (λ byte. byte == 32) entry)

-- the sets of the phases before and after a rule
pub record Phases : Type 0 where
  pub before : ℕ
  pub after : ℕ

-- v is empty, whatever letter is put in place of a class, so that the rules are final
abbrev pub is_final : Gap → Bool
is_final v = is_empty v.before && not v.has_class && is_empty v.after

-- the sets of a rule that is not limited: all phases, and none after it where it is final
abbrev pub unlimited : ℕ → Bool → Phases
unlimited count true = record { before = all_phases count; after = 0 }
unlimited count false = record { before = all_phases count; after = all_phases count }

-- the set that AFTER tells: of a final rule, whose v is empty, or of an inner one
abbrev pub after_told : List (List ℕ) → Bool → List ℕ → Option ℕ
after_told names true field = set_after_told names [] field
after_told names false field = set_told names field

abbrev pub phases_with : Option ℕ → Option ℕ → Option Phases
phases_with (Some before) (Some after) = Some (record { before = before; after = after })
phases_with before after = None

-- the sets of phases that BEFORE and AFTER tell, over the phases with these names; without them the rules are not limited
abbrev pub phases_told : List (List ℕ) → Bool → Option (List ℕ × List ℕ) → Option Phases
phases_told names is_final None = Some (unlimited (length names) is_final)
phases_told names is_final (Some limits) = phases_with (set_told names limits.0) (after_told names is_final limits.1)
