-- What the two fields of a node's line tell: nothing where a text has not its shape; and no list where the letters of some are none.
use Rattle.std.specs.Prelude.{◌≡◌, ℕ, ◌++◌, Bool, true, false, Option, Some, None, option_map, Result, Ok, Err, List, [], ◌∷◌, map}
use Rattle.std.specs.Global.{Vec}
use Rattle.form_tags.specs.declared.delta.Delta.{Delta}
use Rattle.form_tags.specs.Analyses.{text_delta}
use Rattle.lexicon_definitions.specs.Deltas as texts
use Rattle.trie_text_definitions.specs.LimitedRules.{all_there}
use Rattle.trie_text_definitions.specs.NodeFields.{DeltaShape, ChildShape, delta_shape, child_shape, delta_shapes, child_shapes, delta_spelled, child_spelled}
use Rattle.lexicon_file.specs.declared.error.FileWhy.TheVariants.{Field}
use Rattle.lexicon_file.specs.declared.take_error.TakeError.{TakeError}
use Rattle.lexicon_file.specs.declared.take_error.TakeError.TheVariants.{Why, Memory}

-- what is told is the value, as it is seen; the only reason to refuse is that nothing is told; memory may be wanting
abbrev pub IsTold : {A B : Type 0} → Option B → Result A TakeError → (A → B) → Type 0
IsTold told (Ok value) seen = told ≡ Some (seen value)
IsTold told (Err (Why why)) seen = (why ≡ Field) × (told ≡ None)
IsTold told (Err Memory) seen = Unit {0}

-- ---- deltas

abbrev pub delta_told : List ℕ → Option (Option texts.Delta)
delta_told text = option_map delta_spelled (delta_shape text)

abbrev pub deltas_told : List ℕ → Option (Option (List texts.Delta))
deltas_told field = option_map (λ (shapes : List DeltaShape). all_there (map delta_spelled shapes)) (delta_shapes field)

-- the deltas, if they are there, with their tags' texts
abbrev pub deltas_in : Option (Vec Delta) → Option (List texts.Delta)
deltas_in deltas = option_map (λ (ds : Vec Delta). map text_delta ds.items) deltas

-- ---- children

abbrev pub child_told : List ℕ → Option (Option (ℕ × ℕ))
child_told text = option_map child_spelled (child_shape text)

abbrev pub children_told : List ℕ → Option (Option (List (ℕ × ℕ)))
children_told field = option_map (λ (shapes : List ChildShape). all_there (map child_spelled shapes)) (child_shapes field)

-- the children, if each has a letter
abbrev pub children_in : Bool → List (ℕ × ℕ) → Option (List (ℕ × ℕ))
children_in true children = Some children
children_in false children = None

-- ---- lists

-- the list with one more, where both are there
abbrev pub with_one : {X : Type 0} → Option (List X) → Option X → Option (List X)
with_one None one = None
with_one (Some xs) None = None
with_one (Some xs) (Some x) = Some (xs ++ x ∷ [])
