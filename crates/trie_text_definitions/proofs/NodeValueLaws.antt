-- The values of nodes: rows are cut in two, so one more row adds one more value, and the value of a node is made of those of the nodes
-- before; what depends on children alone is the same over all values as over those before the node.
use Rattle.std.proofs.Common.{◌≡◌, ℕ, zero, suc, ◌+◌, ◌<◌, List, [], ◌∷◌, ◌++◌, length, take, drop, get_or, max, arith, refl, sym, ◌∙◌, ap}
use Rattle.std.specs.List.{AllByRecursion}
use Rattle.std.proofs.lemmas.List.{append_assoc, append-nil, length_push, length-take, get_or_push, get_or_append_left}
use Rattle.lexicon_definitions.specs.Tries.{Row, row_of, empty_row}
use Rattle.trie_text_definitions.specs.NodeValues.{values_from, values_of, height_over}

-- a list is cut at a place into what comes before, the element there, and what comes after
split_at : {X : Type 0} (xs : List X) (k : ℕ) (d : X) → k < length xs → xs ≡ take k xs ++ get_or xs k d ∷ drop (suc k) xs
split_at [] k d h = absurd (omega (arith, h))
split_at (x ∷ xs) zero d h = refl
split_at (x ∷ xs) (suc k) d h = ap (◌∷◌ x) (split_at xs k d (omega (arith, h)))

module _ {X : Type 0} (make : List X → Row → X) where
  -- the values of rows and then of more
  values_append : (values : List X) (rows more : List Row) → values_from make values (rows ++ more) ≡ values_from make (values_from make values rows) more
  values_append values [] more = refl
  values_append values (row ∷ rows) more = values_append (values ++ make values row ∷ []) rows more

  -- with one more row there is one more value, made of those before
  pub values_push : (rows : List Row) (row : Row)
      → values_of make (rows ++ row ∷ []) ≡ values_of make rows ++ make (values_of make rows) row ∷ []
  values_push rows row = values_append [] rows (row ∷ [])

  -- the values that were there stay in front
  values_front : (values : List X) (rows : List Row) → (rest : List X) × (values_from make values rows ≡ values ++ rest)
  values_front values [] = ([], sym (append-nil values))
  values_front values (row ∷ rows) =
      let (rest, e) = values_front (values ++ make values row ∷ []) rows in
      (make values row ∷ rest, e ∙ append_assoc values (make values row ∷ []) rest)

  length-values_from : (values : List X) (rows : List Row) → length (values_from make values rows) ≡ length values + length rows
  length-values_from values [] = omega arith
  length-values_from values (row ∷ rows) =
      let later = length-values_from (values ++ make values row ∷ []) rows in
      let long = length_push values (make values row) in
      omega (arith, later, long)

  -- there are as many values as rows
  pub length-values : (rows : List Row) → length (values_of make rows) ≡ length rows
  length-values rows = let long = length-values_from [] rows in omega (arith, long)

  -- the values of the first rows are the first values
  values_parted : (rows : List Row) (k : ℕ) → k < length rows
      → (rest : List X) × (values_of make rows ≡ (values_of make (take k rows) ++ make (values_of make (take k rows)) (row_of rows k) ∷ []) ++ rest)
  values_parted rows k below =
      let (rest, e) = values_front (values_of make (take k rows) ++ make (values_of make (take k rows)) (row_of rows k) ∷ []) (drop (suc k) rows) in
      (rest, ap (values_of make) (split_at rows k empty_row below) ∙ values_append [] (take k rows) (row_of rows k ∷ drop (suc k) rows) ∙ e)

  pub length-before : (rows : List Row) (k : ℕ) → k < length rows → length (values_of make (take k rows)) ≡ k
  length-before rows k below = let long = length-values (take k rows) in let short = length-take k rows in omega (arith, long, short, below)

  -- the value of a node is made of those of the nodes before
  pub value_at : (rows : List Row) (k : ℕ) (d : X) → k < length rows
      → get_or (values_of make rows) k d ≡ make (values_of make (take k rows)) (row_of rows k)
  value_at rows k d below =
      let (rest, e) = values_parted rows k below in
      let before = values_of make (take k rows) in
      let new = make before (row_of rows k) in
      let long = length-before rows k below in
      let more = length_push before new in
      ap (λ (xs : List X). get_or xs k d) e ∙ get_or_append_left (before ++ new ∷ []) rest d k (omega (arith, long, more)) ∙ get_or_push before new d k long

  -- the value of a node before is the same among the first values
  pub value_before : (rows : List Row) (j k : ℕ) (d : X) → j < k → k < length rows
      → get_or (values_of make (take k rows)) j d ≡ get_or (values_of make rows) j d
  value_before rows j k d first below =
      let (rest, e) = values_parted rows k below in
      let before = values_of make (take k rows) in
      let new = make before (row_of rows k) in
      let long = length-before rows k below in
      let more = length_push before new in
      sym (ap (λ (xs : List X). get_or xs j d) e ∙ get_or_append_left (before ++ new ∷ []) rest d j (omega (arith, long, more, first))
      ∙ get_or_append_left before (new ∷ []) d j (omega (arith, long, first)))

-- ---- heights

-- heights over lists that agree at the children are the same
pub same_heights : (left right : List ℕ) (children : List (ℕ × ℕ)) → AllByRecursion (λ (child : ℕ × ℕ). get_or left child.1 0 ≡ get_or right child.1 0) children
    → height_over left children ≡ height_over right children
same_heights left right [] h = refl
same_heights left right (child ∷ children) h = λ i. max (h.0 i + 1) (same_heights left right children h.1 i)
