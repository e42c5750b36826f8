-- The answers to the line of a root: its name and its number decide one after another.
use Rattle.std.proofs.Common.{◌≡◌, ℕ, Bool, true, false, Some, None, Ok, Err, List, [], ◌∷◌, ◌++◌, length, refl, sym, ◌∙◌, ap}
use Rattle.std.specs.Prelude.{slice_index_or}
use Rattle.std.specs.Str.{bytes_eq}
use Rattle.list_laws.proofs.Booleans.{when_true, when_false}
use Rattle.trie_text_definitions.specs.NodeFields.{node_number}
use Rattle.trie_text_definitions.specs.VersionFaults as faults
use Rattle.trie_text_definitions.specs.VersionSteps.{Told, Root, is_root, take_root_number, take_root}
use Rattle.form_file.specs.Fields.{two_of}

pub no_fields : (told : Told) (fields : List (List ℕ)) → two_of fields ≡ None → take_root told fields ≡ Err faults.Field
unfolding take_root
no_fields told [] h = refl
no_fields told (field ∷ []) h = refl
no_fields told (first ∷ second ∷ []) h = absurd (cc)
no_fields told (first ∷ second ∷ third ∷ fields) h = refl

module _ (kept told : Told) (view : kept ≡ told) (fields : List (List ℕ)) (name root : List ℕ) (cut : fields ≡ name ∷ root ∷ []) where
  -- whether it is the name whose turn it is, as it is kept
  abbrev is_named : Bool
  is_named = bytes_eq name (slice_index_or kept.front.names (length kept.roots) [])

  other_by : is_named ≡ false → take_root kept (name ∷ root ∷ []) ≡ Err faults.Field
  unfolding take_root
  other_by h = when_false is_named _ _ _ h refl

  named_by : is_named ≡ true → take_root kept (name ∷ root ∷ []) ≡ take_root_number kept (node_number root)
  unfolding take_root
  named_by h = when_true is_named _ _ _ h refl

  as_kept : take_root told fields ≡ take_root kept (name ∷ root ∷ [])
  as_kept = λ i. take_root (sym view i) (cut i)

  pub other_name : is_named ≡ false → take_root told fields ≡ Err faults.Field
  other_name h = as_kept ∙ other_by h

  module _ (named : is_named ≡ true) where
    pub no_number : None ≡ node_number root → take_root told fields ≡ Err faults.Field
    no_number h = as_kept ∙ named_by named ∙ ap (take_root_number kept) (sym h)

    module _ (n : ℕ) (number : Some n ≡ node_number root) where
      number_taken : take_root told fields ≡ take_root_number kept (Some n)
      number_taken = as_kept ∙ named_by named ∙ ap (take_root_number kept) (sym number)

      pub no_root : is_root kept.rows n ≡ false → take_root told fields ≡ Err faults.Child
      no_root h = number_taken ∙ when_false (is_root kept.rows n) _ _ _ h refl

      pub root_taken : is_root kept.rows n ≡ true → take_root told fields ≡ Ok (record kept { last = Root; roots = kept.roots ++ n ∷ [] })
      root_taken h = number_taken ∙ when_true (is_root kept.rows n) _ _ _ h refl
