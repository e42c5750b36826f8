-- The sets of phases of an entry, from what its fields tell.
use Rattle.std.proofs.Common.{◌≡◌, ℕ, Bool, true, false, Option, Some, List, [], ◌∷◌, refl, sym, ◌∙◌, ap}
use Rattle.list_laws.specs.EmptyLists.{is_empty}
use Rattle.trie_text_definitions.specs.LimitedRules.{set_told, set_after_told}
use Rattle.rule_file_definitions.specs.EntryPhases.{after_told, phases_with, phases_told}

module _ (names : List (List ℕ)) where
  after_is : (final : Bool) (field : List ℕ) (told : Option ℕ) → ((v : List ℕ) → is_empty v ≡ final → told ≡ set_after_told names v field)
      → told ≡ after_told names final field
  after_is true field told h = h [] refl
  after_is false field told h = h (0 ∷ []) refl

  pub with_limits : (final : Bool) (limits : Option (List ℕ × List ℕ)) (before_field after_field : List ℕ) (before after : Option ℕ)
      → limits ≡ Some (before_field, after_field) → before ≡ set_told names before_field
      → ((v : List ℕ) → is_empty v ≡ final → after ≡ set_after_told names v after_field) → phases_with before after ≡ phases_told names final limits
  with_limits final limits before_field after_field before after e f g =
      (λ i. phases_with (f i) (after_is final after_field after g i)) ∙ ap (phases_told names final) (sym e)
