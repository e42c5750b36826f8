-- A walk along the first letters of a word, one letter more at a time: each goes on from where those before it led, so a longer
-- front can be walked only where the shorter ones can.
use Rattle.std.proofs.Common.{◌≡◌, ◌≢◌, ℕ, ◌+◌, ◌<◌, ◌≤◌, inl, inr, Option, Some, None, List, [], ◌∷◌, ◌++◌, length, take, drop, get_or, set, refl, sym, ◌∙◌, ap, subst, arith, add-one, length-append, true≢false}
use Rattle.std.specs.Prelude.{IsSome, is_some, option_and_then}
use Rattle.std.proofs.lemmas.Bool.{cases_lt}
use Rattle.std.proofs.lemmas.List.{take-append-drop, take-take, length-take-le, get_or-set_same, get_or-set_other}
use Rattle.std.proofs.Math.Seq.{take-suc}
use Rattle.lexicon_definitions.specs.Tries.{Row, child_in, walk}
use Rattle.lexicon_definitions.proofs.TrieGrowth.{walk-child, walk-none}
use Rattle.lexicon_definitions.proofs.TrieWalks.{walk-two}

-- each number of first letters below the count leads from the node to that at its place
pub record AreWalked (rows : List Row) (node : ℕ) (letters nodes : List ℕ) (count : ℕ) : Type 0 where
  pub each : (taken : ℕ) → taken < count → walk rows node (take taken letters) ≡ Some (get_or nodes taken 0)

-- what an option leads to, which leads to itself
and_then_some : (o : Option ℕ) → option_and_then (λ (x : ℕ). Some x) o ≡ o
and_then_some None = refl
and_then_some (Some x) = refl

-- one letter more leads where it leads from the node that is reached
pub walk_next : (rows : List Row) (node reached : ℕ) (letters : List ℕ) (i letter : ℕ) → walk rows node (take i letters) ≡ Some reached
    → i < length letters → letter ≡ get_or letters i letter → walk rows node (take (i + 1) letters) ≡ child_in rows reached letter
walk_next rows node reached letters i letter walked low here =
    let next : take (i + 1) letters ≡ take i letters ++ letter ∷ [] =
    ap (λ (n : ℕ). take n letters) (add-one i) ∙ take-suc letters i letter low ∙ ap (λ (x : ℕ). take i letters ++ x ∷ []) (sym here) in
    ap (walk rows node) next ∙ walk-two rows (take i letters) (letter ∷ []) node reached walked ∙ and_then_some (child_in rows reached letter)

-- where a word leads is where its rest leads from the node that is reached
pub walk_rest : (rows : List Row) (node reached : ℕ) (letters : List ℕ) (i : ℕ) → walk rows node (take i letters) ≡ Some reached
    → walk rows node letters ≡ walk rows reached (drop i letters)
walk_rest rows node reached letters i walked =
    ap (walk rows node) (sym (take-append-drop i letters)) ∙ walk-two rows (take i letters) (drop i letters) node reached walked

-- a node that so many letters lead to has a place among as many as the longest word has, and one more
pub has_place : (rows : List Row) (node child : ℕ) (letters : List ℕ) (count room : ℕ) → walk rows node (take count letters) ≡ Some child
    → count ≤ length letters → ((word : List ℕ) → IsSome (walk rows node word) → length word < room) → count < room
has_place rows node child letters count room walked low short =
    let long = length-take-le count letters low in
    let bound = short (take count letters) (ap is_some walked) in
    omega (arith, long, bound)

-- where a word leads nowhere, no longer one leads anywhere
pub walk_nowhere : (rows : List Row) (word rest : List ℕ) (node : ℕ) → walk rows node word ≡ None → walk rows node (word ++ rest) ≡ None
walk_nowhere rows [] rest node none = absurd cc
walk_nowhere rows (letter ∷ word) rest node none =
    let go : (o : Option ℕ) → child_in rows node letter ≡ o → walk rows node (letter ∷ word ++ rest) ≡ None =
    elim [
      | None ↦ λ e. walk-none rows node letter (word ++ rest) e
      | Some child ↦ λ e. walk-child rows node letter child (word ++ rest) e ∙ walk_nowhere rows word rest child (sym (walk-child rows node letter child word e) ∙ none)
    ]
    in go (child_in rows node letter) refl

-- where the first letters lead nowhere, only fewer of them lead anywhere
pub walked_below : (rows : List Row) (node : ℕ) (letters : List ℕ) (count taken : ℕ) → walk rows node (take count letters) ≡ None
    → IsSome (walk rows node (take taken letters)) → taken < count
walked_below rows node letters count taken none walks =
    elim (cases_lt taken count) [
      | inl l ↦ l
      | inr more ↦
          let longer : take taken letters ≡ take count letters ++ drop count (take taken letters) =
          sym (take-append-drop count (take taken letters)) ∙ ap (λ (front : List ℕ). front ++ drop count (take taken letters)) (take-take count taken letters more) in
          let nowhere = ap (walk rows node) longer ∙ walk_nowhere rows (take count letters) (drop count (take taken letters)) node none in
          absurd (true≢false (sym walks ∙ ap is_some nowhere))
    ]

-- the first node
pub first_walked : (rows : List Row) (node : ℕ) (letters nodes : List ℕ) → 0 < length nodes → AreWalked rows node letters (set nodes 0 node) 1
first_walked rows node letters nodes low =
    record {
      each = λ taken l.
          let none : taken ≡ 0 = omega (arith, l) in
          let here : get_or (set nodes 0 node) 0 0 ≡ node = get_or-set_same nodes 0 node 0 low in
          ap (λ (t : ℕ). walk rows node (take t letters)) none ∙ ap Some (sym here) ∙ ap (λ (p : ℕ). Some (get_or (set nodes 0 node) p 0)) (sym none);
    }

-- one node more
pub more_walked : (rows : List Row) (node child : ℕ) (letters nodes : List ℕ) (count : ℕ) → AreWalked rows node letters nodes count
    → count < length nodes → walk rows node (take count letters) ≡ Some child → AreWalked rows node letters (set nodes count child) (count + 1)
more_walked rows node child letters nodes count are low walked =
    record {
      each = λ taken l.
          elim (cases_lt taken count) [
            | inl less ↦
                let apart : taken ≢ count = omega (arith, less) in
                are.each taken less ∙ ap Some (sym (get_or-set_other nodes count taken child 0 apart))
            | inr more ↦
                let last : taken ≡ count = omega (arith, l, more) in
                subst (λ (t : ℕ). walk rows node (take t letters) ≡ Some (get_or (set nodes count child) t 0)) (sym last)
                (walked ∙ ap Some (sym (get_or-set_same nodes count child 0 low)))
          ];
    }

-- where a word leads nowhere, it leads nowhere with more letters after it
pub nowhere_after : (rows : List Row) (word rest : List ℕ) (node : ℕ) → walk rows node word ≡ None → IsSome (walk rows node (word ++ rest)) → ⊥
nowhere_after rows word rest node none walks = true≢false (sym walks ∙ ap is_some (walk_nowhere rows word rest node none))

-- what is walked from where a word leads is no longer than what is walked with the word before it
pub short_after : (rows : List Row) (word : List ℕ) (node reached room : ℕ) → walk rows node word ≡ Some reached
    → ((other : List ℕ) → IsSome (walk rows node other) → length other < room)
    → (rest : List ℕ) → IsSome (walk rows reached rest) → length rest < room
short_after rows word node reached room walked short rest walks =
    let whole = short (word ++ rest) (subst IsSome (sym (walk-two rows word rest node reached walked)) walks) in
    let long = length-append word rest in
    omega (arith, whole, long)
