-- Numbers in a list of nodes: by induction on the list, the place of the first that is the node.
use Rattle.std.proofs.Common.{◌≡◌, ◌≢◌, ◌⊎◌, inl, inr, ℕ, suc, ◌+◌, ◌<◌, Bool, true, false, cond, eqb, List, [], ◌∷◌, ◌++◌, length, get_or, refl, sym, ◌∙◌, ap, arith}
use Rattle.std.specs.Prelude.{AllPairs, Contains}
use Rattle.std.proofs.lemmas.Bool.{cases_lt, eqb-true, eq-eqb, ne_eqb}
use Rattle.std.proofs.lemmas.List.Elements.{Contains-get_or}
use Rattle.list_laws.proofs.Sorted.{Contains-cons_cases, Contains-later, not_Contains-nil}
use Rattle.shared_trie.specs.CanonicalNodes.{number_in}

-- ---- one element

here : (first : ℕ) (nodes : List ℕ) (node : ℕ) → first ≡ node → number_in (first ∷ nodes) node ≡ 0
unfolding number_in
here first nodes node e = ap (λ test. cond test 0 (number_in nodes node + 1)) (eq-eqb first node e)

later : (first : ℕ) (nodes : List ℕ) (node : ℕ) → first ≢ node → number_in (first ∷ nodes) node ≡ number_in nodes node + 1
unfolding number_in
later first nodes node n = ap (λ test. cond test 0 (number_in nodes node + 1)) (ne_eqb first node n)

same_or_not : (m n : ℕ) (test : Bool) → eqb m n ≡ test → (m ≡ n) ⊎ (m ≢ n)
same_or_not m n true e = inl (eqb-true m n e)
same_or_not m n false e = inr (λ same. let yes = eq-eqb m n same in cc)

-- ---- nodes that are there

-- the number of a node that is there is its place
pub number_at : (nodes : List ℕ) (node : ℕ) → Contains nodes node → (number_in nodes node < length nodes) × (get_or nodes (number_in nodes node) 0 ≡ node)
number_at [] node m = absurd (not_Contains-nil node m)
number_at (first ∷ nodes) node m =
    elim (same_or_not first node (eqb first node) refl) [
      | inl e ↦
          let zero_is = here first nodes node e in
          (omega (arith, zero_is), ap (λ k. get_or (first ∷ nodes) k 0) zero_is ∙ e)
      | inr n ↦ elim (Contains-cons_cases first nodes node m) [
        | inl e ↦ absurd (n e)
        | inr rest ↦
            let more = later first nodes node n in
            let (below, is) = number_at nodes node rest in
            let next : number_in (first ∷ nodes) node ≡ suc (number_in nodes node) = omega (arith, more) in
            (omega (arith, more, below), ap (λ k. get_or (first ∷ nodes) k 0) next ∙ is)
      ]
    ]

-- nodes with one number are one
pub same_number : (nodes : List ℕ) (left right : ℕ) → Contains nodes left → Contains nodes right → number_in nodes left ≡ number_in nodes right → left ≡ right
same_number nodes left right l r e = sym (number_at nodes left l).1 ∙ ap (λ k. get_or nodes k 0) e ∙ (number_at nodes right r).1

-- other nodes after these change nothing
pub number_append : (nodes more : List ℕ) (node : ℕ) → Contains nodes node → number_in (nodes ++ more) node ≡ number_in nodes node
number_append [] more node m = absurd (not_Contains-nil node m)
number_append (first ∷ nodes) more node m =
    elim (same_or_not first node (eqb first node) refl) [
      | inl e ↦ here first (nodes ++ more) node e ∙ sym (here first nodes node e)
      | inr n ↦ elim (Contains-cons_cases first nodes node m) [
        | inl e ↦ absurd (n e)
        | inr rest ↦ later first (nodes ++ more) node n ∙ ap (λ k. k + 1) (number_append nodes more node rest) ∙ sym (later first nodes node n)
      ]
    ]

-- a node that was not there has the next number
pub number_push : (nodes : List ℕ) (node : ℕ) → (Contains nodes node → ⊥) → number_in (nodes ++ node ∷ []) node ≡ length nodes
number_push [] node n = here node [] node refl
number_push (first ∷ nodes) node n =
    let other : first ≢ node = λ e. n (0, omega arith, e) in
    let rest = number_push nodes node (λ m. n (Contains-later first nodes node m)) in
    let more = later first (nodes ++ node ∷ []) node other in
    omega (arith, more, rest)

-- where no node is there twice, the number of a node is its place
pub number_of_place : (nodes : List ℕ) → AllPairs (λ left right. left ≢ right) nodes → (k : ℕ) → k < length nodes → number_in nodes (get_or nodes k 0) ≡ k
number_of_place nodes apart k below =
    let node = get_or nodes k 0 in
    let (within, is) = number_at nodes node (Contains-get_or nodes k 0 below) in
    elim (cases_lt (number_in nodes node) k) [
      | inl less ↦ absurd (apart (number_in nodes node) k 0 less below is)
      | inr above ↦ elim (cases_lt k (number_in nodes node)) [
        | inl less ↦ absurd (apart k (number_in nodes node) 0 less within (sym is))
        | inr same ↦ omega (arith, above, same)
      ]
    ]
