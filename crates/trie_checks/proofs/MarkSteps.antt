-- One mark more: the node is marked, and all others are as they were.
use Rattle.std.proofs.Common.{◌≡◌, ℕ, ◌<◌, ◌↔◌, ◌⊎◌, inl, inr, Bool, true, false, List, [], ◌∷◌, ◌++◌, length, take, drop, get_or, set, sym, ◌∙◌, ap, subst, arith}
use Rattle.std.specs.Prelude.{Contains}
use Rattle.std.proofs.lemmas.Bool.{cases_eq}
use Rattle.std.proofs.lemmas.List.{get_or-set_same, get_or-set_other, append-nil, take_all, drop_all}
use Rattle.std.proofs.lemmas.List.Elements.{Contains-append_left, Contains-push, Contains-push_cases}
use Rattle.trie_checks.specs.Marks.{IsMarked, LeadTo}

mark_more : (marks : List Bool) (place node : ℕ) → place < length marks → IsMarked (set marks place true) node ↔ (IsMarked marks node ⊎ (place ≡ node))
mark_more marks place node low =
    elim (cases_eq node place) [
      | inl same ↦ (
        λ h. inr (sym same),
        λ h. ap (λ n. get_or (set marks place true) n false) same ∙ get_or-set_same marks place true false low,
      )
      | inr apart ↦
          let kept = get_or-set_other marks place node true false apart in (
            λ h. inl (sym kept ∙ h),
            elim [ inl h ↦ kept ∙ h | inr same ↦ absurd (apart (sym same)) ],
          )
    ]

-- one node more
pub node_marked : (before marks : List Bool) (nodes : List ℕ) (item place : ℕ) → place ≡ item → item < length marks → (node : ℕ)
    → IsMarked marks node ↔ (IsMarked before node ⊎ Contains nodes node)
    → IsMarked (set marks place true) node ↔ (IsMarked before node ⊎ Contains (nodes ++ item ∷ []) node)
node_marked before marks nodes item place is low node known =
    let step = mark_more marks place node (omega (arith, is, low)) in (
      λ h. elim (step.0 h) [
        | inl old ↦ elim (known.0 old) [
          | inl first ↦ inl first
          | inr m ↦ inr (Contains-append_left nodes (item ∷ []) node m)
        ]
        | inr here ↦ inr (subst (Contains (nodes ++ item ∷ [])) (sym is ∙ here) (Contains-push nodes item))
      ],
      elim [
        | inl first ↦ step.1 (inl (known.1 (inl first)))
        | inr m ↦ elim (Contains-push_cases nodes item node m) [
          | inl old ↦ step.1 (inl (known.1 (inr old)))
          | inr same ↦ step.1 (inr (is ∙ same))
        ]
      ],
    )

-- one child more
pub child_marked : (before marks : List Bool) (children : List (ℕ × ℕ)) (child : ℕ × ℕ) (place : ℕ) → place ≡ child.1 → child.1 < length marks → (node : ℕ)
    → IsMarked marks node ↔ (IsMarked before node ⊎ LeadTo children node)
    → IsMarked (set marks place true) node ↔ (IsMarked before node ⊎ LeadTo (children ++ child ∷ []) node)
child_marked before marks children child place is low node known =
    let step = mark_more marks place node (omega (arith, is, low)) in (
      λ h. elim (step.0 h) [
        | inl old ↦ elim (known.0 old) [
          | inl first ↦ inl first
          | inr m ↦ inr (m.0, Contains-append_left children (child ∷ []) (m.0, node) m.1)
        ]
        | inr here ↦
            let same : child.1 ≡ node = sym is ∙ here in
            inr (child.0, subst (λ n. Contains (children ++ child ∷ []) (child.0, n)) same (Contains-push children child))
      ],
      elim [
        | inl first ↦ step.1 (inl (known.1 (inl first)))
        | inr m ↦ elim (Contains-push_cases children child (m.0, node) m.1) [
          | inl old ↦ step.1 (inl (known.1 (inr (m.0, old))))
          | inr same ↦ step.1 (inr (is ∙ ap (λ (x : ℕ × ℕ). x.1) same))
        ]
      ],
    )

-- a slice that is written back as a whole
pub written_back : {X : Type 0} (count : ℕ) (new old : List X) → length old ≡ count → length new ≡ length old → take count (new ++ drop (length new) old) ≡ new
written_back count new old many long =
    let none = drop_all (length new) old (omega (arith, long)) in
    ap (λ rest. take count (new ++ rest)) none ∙ ap (take count) (append-nil new) ∙ take_all count new (omega (arith, many, long))
