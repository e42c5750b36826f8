-- The answers to the line of a node, by its two fields; and a line that is told is that of its row.
use Rattle.std.proofs.Common.{◌≡◌, ℕ, ◌≤◌, Option, Some, None, Err, List, [], ◌∷◌, ◌++◌, codes, length, map, refl, sym, ◌∙◌, ap, arith}
use Rattle.std.specs.Prelude.{All, option_map}
use Rattle.std.specs.List.{AllByRecursion}
use Rattle.std.proofs.lemmas.List.{append_assoc, length-append}
use Rattle.std.proofs.lemmas.List.Elements.{All-from_recursion}
use Rattle.text_definitions.specs.Letters.{IsLetter}
use Rattle.lexicon_definitions.specs.Deltas.{Delta}
use Rattle.lexicon_text_definitions.specs.FileLines.{fields_of}
use Rattle.lexicon_text_definitions.proofs.LineCuts.{two_parts}
use Rattle.trie_text_definitions.specs.LimitedRules.{all_there}
use Rattle.trie_text_definitions.specs.NodeFields.{DeltaShape, ChildShape, delta_shapes, child_shapes, delta_spelled, child_spelled}
use Rattle.trie_text_definitions.specs.NodeLines.{node_line, listed, delta_text, child_text}
use Rattle.trie_text_definitions.specs.VersionFaults as faults
use Rattle.trie_text_definitions.specs.VersionSteps.{Told, Taken, take_row, take_spelled, take_shapes, take_node}
use Rattle.trie_text_definitions.proofs.NodeTexts.{map_some, IsNodeChild}
use Rattle.trie_text_definitions.proofs.NodeTexts as texts
use Rattle.form_file.specs.Fields.{two_of}
use Rattle.lexicon_file.specs.Fields.{IsTold, deltas_told, children_told}
use Rattle.lexicon_file.specs.declared.error.FileWhy.{FileWhy}
use Rattle.lexicon_file.specs.Faults.{why_of}
use Rattle.lexicon_file.specs.declared.take_error.TakeError.{TakeError}
use Rattle.lexicon_file.specs.declared.take_error.TakeError.TheVariants.{Why, Memory}
use Rattle.lexicon_file.specs.Told.{IsAnswer}

-- ---- the line

-- nothing is told but by shapes
shapes_by : {S X : Type 0} (spelled : S → Option X) (shapes : Option (List S)) (xs : List X) → option_map (λ (ss : List S). all_there (map spelled ss)) shapes ≡ Some (Some xs)
    → (ss : List S) × (shapes ≡ Some ss) × (all_there (map spelled ss) ≡ Some xs)
shapes_by {S = S} spelled shapes xs h = map_some (λ (ss : List S). all_there (map spelled ss)) shapes (Some xs) h

module _ (text first second : List ℕ) (cut : fields_of (Some text) ≡ first ∷ second ∷ []) where
  -- the fields fit where the text does
  pub fields_fit : (length first ≤ length text) × (length second ≤ length text)
  fields_fit =
      let whole = ap length (two_parts 32 text first second cut) in
      let long = length-append first (32 ∷ second) in
      (omega (arith, whole, long), omega (arith, whole, long))

  module _ (deltas : List Delta) (children : List (ℕ × ℕ)) (d : deltas_told first ≡ Some (Some deltas)) (c : children_told second ≡ Some (Some children)) where
    -- the line is that of the row that it tells
    pub line_told : (line : List ℕ) → line ≡ codes "node " ++ text → line ≡ node_line (record { deltas = deltas; children = children })
    line_told line e =
        let (delta_parts, delta_shaped, delta_read) = shapes_by delta_spelled (delta_shapes first) deltas d in
        let (child_parts, child_shaped, child_read) = shapes_by child_spelled (child_shapes second) children c in
        let one = (texts.deltas_told first delta_parts deltas delta_shaped delta_read).0 in
        let other = (texts.children_told second child_parts children child_shaped child_read).0 in
        e ∙ ap (λ (t : List ℕ). codes "node " ++ t) (two_parts 32 text first second cut ∙ (λ i. one i ++ 32 ∷ other i))
        ∙ sym (append_assoc (codes "node " ++ listed (map delta_text deltas)) (codes " ") (listed (map child_text children))
        ∙ append_assoc (codes "node ") (listed (map delta_text deltas)) (32 ∷ listed (map child_text children)))

letters_by : (children : List (ℕ × ℕ)) → AllByRecursion IsNodeChild children → AllByRecursion (λ (child : ℕ × ℕ). IsLetter child.0) children
letters_by [] h = tt
letters_by (child ∷ children) h = (h.0.letter, letters_by children h.1)

-- each child that is told has a letter
pub letters_told : (field : List ℕ) (children : List (ℕ × ℕ)) → children_told field ≡ Some (Some children) → All (λ (child : ℕ × ℕ). IsLetter child.0) children
letters_told field children c =
    let (parts, shaped, read) = shapes_by child_spelled (child_shapes field) children c in
    let each = (texts.children_told field parts children shaped read).1 in
    All-from_recursion (λ (child : ℕ × ℕ). IsLetter child.0) children (letters_by children each)

-- ---- the answers

-- the answer to what the fields tell
abbrev take_told : Told → List ℕ → Option (Option (List Delta)) → Option (Option (List (ℕ × ℕ))) → Taken
take_told told bytes (Some deltas) (Some children) = take_spelled told bytes deltas children
take_told told bytes deltas children = Err faults.Field

told_by : (told : Told) (bytes : List ℕ) (deltas : Option (List DeltaShape)) (children : Option (List ChildShape)) → take_shapes told bytes deltas children
    ≡ take_told told bytes (option_map (λ (shapes : List DeltaShape). all_there (map delta_spelled shapes)) deltas) (option_map (λ (shapes : List ChildShape). all_there (map child_spelled shapes)) children)
told_by told bytes None children = refl
told_by told bytes (Some deltas) None = refl
told_by told bytes (Some deltas) (Some children) = refl

pub no_fields : (told : Told) (bytes : List ℕ) (fields : List (List ℕ)) → two_of fields ≡ None → take_node told bytes fields ≡ Err faults.Field
unfolding take_node
no_fields told bytes [] h = refl
no_fields told bytes (field ∷ []) h = refl
no_fields told bytes (first ∷ second ∷ []) h = absurd (cc)
no_fields told bytes (first ∷ second ∷ third ∷ fields) h = refl

by_fields : (told : Told) (bytes first second : List ℕ) → take_node told bytes (first ∷ second ∷ []) ≡ take_shapes told bytes (delta_shapes first) (child_shapes second)
unfolding take_node
by_fields told bytes first second = refl

no_children : (told : Told) (bytes : List ℕ) (deltas : Option (Option (List Delta))) → take_told told bytes deltas None ≡ Err faults.Field
no_children told bytes None = refl
no_children told bytes (Some deltas) = refl

no_letters : (told : Told) (bytes : List ℕ) (deltas : Option (List Delta)) → take_spelled told bytes deltas None ≡ Err faults.Spelling
no_letters told bytes None = refl
no_letters told bytes (Some deltas) = refl

-- where the fields of a list refuse, the line is refused for a field, or memory is wanting
refused_by : (A B X : Type 0) (fields : Option X) (seen : A → X) (error : TakeError) (taken : Taken) (after : Told) → IsTold fields (Err error) seen → (fields ≡ None → taken ≡ Err faults.Field)
    → IsAnswer {A = B} taken (Err error) after
refused_by A B X fields seen Memory taken after r h = tt
refused_by A B X fields seen (Why why) taken after r h = h r.1 ∙ ap (λ (w : FileWhy). Err (why_of w)) (sym r.0)

module _ (told : Told) (bytes text first second : List ℕ) (cut : fields_of (Some text) ≡ first ∷ second ∷ []) where
  taken_by : take_node told bytes (fields_of (Some text)) ≡ take_told told bytes (deltas_told first) (children_told second)
  taken_by = ap (take_node told bytes) cut ∙ by_fields told bytes first second ∙ told_by told bytes (delta_shapes first) (child_shapes second)

  pub deltas_refused : (A B : Type 0) (seen : A → Option (List Delta)) (error : TakeError) (after : Told) → IsTold (deltas_told first) (Err error) seen
      → IsAnswer {A = B} (take_node told bytes (fields_of (Some text))) (Err error) after
  deltas_refused A B seen error after r =
      refused_by A B (Option (List Delta)) (deltas_told first) seen error (take_node told bytes (fields_of (Some text))) after r
      (λ e. taken_by ∙ ap (λ (ds : Option (Option (List Delta))). take_told told bytes ds (children_told second)) e)

  pub children_refused : (A B : Type 0) (seen : A → Option (List (ℕ × ℕ))) (error : TakeError) (after : Told) → IsTold (children_told second) (Err error) seen
      → IsAnswer {A = B} (take_node told bytes (fields_of (Some text))) (Err error) after
  children_refused A B seen error after r =
      refused_by A B (Option (List (ℕ × ℕ))) (children_told second) seen error (take_node told bytes (fields_of (Some text))) after r
      (λ e. taken_by ∙ ap (take_told told bytes (deltas_told first)) e ∙ no_children told bytes (deltas_told first))

  module _ (deltas : Option (List Delta)) (children : Option (List (ℕ × ℕ))) (d : deltas_told first ≡ Some deltas) (c : children_told second ≡ Some children) where
    both_told : take_node told bytes (fields_of (Some text)) ≡ take_spelled told bytes deltas children
    both_told = taken_by ∙ (λ i. take_told told bytes (d i) (c i))

    pub deltas_misspelled : deltas ≡ None → take_node told bytes (fields_of (Some text)) ≡ Err faults.Spelling
    deltas_misspelled e = both_told ∙ ap (λ (ds : Option (List Delta)). take_spelled told bytes ds children) e

    pub children_misspelled : children ≡ None → take_node told bytes (fields_of (Some text)) ≡ Err faults.Spelling
    children_misspelled e = both_told ∙ ap (take_spelled told bytes deltas) e ∙ no_letters told bytes deltas

    pub row_decides : (ds : List Delta) (cs : List (ℕ × ℕ)) → deltas ≡ Some ds → children ≡ Some cs
        → take_row told bytes (record { deltas = ds; children = cs }) ≡ take_node told bytes (fields_of (Some text))
    row_decides ds cs e f = sym (both_told ∙ (λ i. take_spelled told bytes (e i) (f i)))
