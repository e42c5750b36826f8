-- The positions of the whole tree, with position 0 before it: each step of the positions is a link of the grammar, by cases on
-- whether it begins at position 0.
use Rattle.std.proofs.Common.{◌≡◌, ◌≢◌, ℕ, zero, suc, ◌+◌, ◌<◌, ◌≤◌, ◌↔◌, ◌⊎◌, inl, inr, IsTrue, List, [], ◌∷◌, ◌++◌, length, set, refl, sym, ap, ◌∙◌, arith, subst, get_or-set_same, get_or-set_other, length-set}
use Rattle.std.specs.List.{AllByRecursion}
use Rattle.std.proofs.lemmas.Bool.{cases_lt}
use Rattle.lexicon_definitions.specs.Grammars.{Grammar, Name, Sequence, Either, AnyTimes, OnceOrMore, AtMostOnce, Mark, count_names, Reads}
use Rattle.lexicon_definitions.specs.GrammarMarks.{IsLink, IsFinal}
use Rattle.lexicon_definitions.proofs.GrammarLists.{all_append, all_at}
use Rattle.lexicon_definitions.proofs.GrammarPositions.{IsPositionOf, positions_within, all_of_joined}
use Rattle.phase_automaton.specs.declared.position_set.PositionSet.{PositionSet}
use Rattle.phase_automaton.specs.declared.position.Position.{Position}
use Rattle.phase_automaton.specs.declared.piece.Piece.{Piece}
use Rattle.phase_automaton.specs.PositionSets.{HasPosition}
use Rattle.phase_automaton.specs.Names.{opening_position}
use Rattle.phase_automaton.specs.Pieces.{position_at, Follows, HasPhases, IsPiece}
use Rattle.phase_automaton.specs.Readers.{IsStep, IsNet}
use Rattle.phase_automaton.proofs.PieceTrees.{ends_within}

-- a mark has the phase of its position
AgreesWith : List Position → Mark → Type 0
AgreesWith positions mark = mark.phase ≡ (position_at positions mark.position).phase

phases_agree : (positions : List Position) (g : Grammar) (from : ℕ) (marks : List Mark) → HasPhases positions g from → Reads g from marks
    → AllByRecursion (AgreesWith positions) marks
unfolding AgreesWith
phases_agree positions (Name phase) from marks p h =
    subst (λ ms. AllByRecursion (AgreesWith positions) ms) (sym h) (sym p, tt)
phases_agree positions (Sequence first second) from marks p h =
    subst (λ ms. AllByRecursion (AgreesWith positions) ms) (sym h.2)
    (all_append (AgreesWith positions) h.0 h.1 (phases_agree positions first from h.0 p.0 h.3)
    (phases_agree positions second (from + count_names first) h.1 p.1 h.4))
phases_agree positions (Either left right) from marks p h = elim h [
  | inl k ↦ phases_agree positions left from marks p.0 k
  | inr k ↦ phases_agree positions right (from + count_names left) marks p.1 k
]
phases_agree positions (AnyTimes inner) from marks p h =
    subst (λ ms. AllByRecursion (AgreesWith positions) ms) (sym h.1)
    (all_of_joined (AgreesWith positions) (Reads inner from) (λ part. phases_agree positions inner from part p) h.0 h.2)
phases_agree positions (OnceOrMore inner) from marks p h =
    subst (λ ms. AllByRecursion (AgreesWith positions) ms) (sym h.2)
    (all_of_joined (AgreesWith positions) (Reads inner from) (λ part. phases_agree positions inner from part p) h.0 h.3)
phases_agree positions (AtMostOnce inner) from marks p h = elim h [
  | inl e ↦ subst (λ ms. AllByRecursion (AgreesWith positions) ms) (sym e) tt
  | inr k ↦ phases_agree positions inner from marks p k
]

-- of a reading that is cut at a mark
mark_phase : (positions : List Position) (g : Grammar) (from : ℕ) (front : List Mark) (m : Mark) (rest : List Mark) → HasPhases positions g from
    → Reads g from (front ++ m ∷ rest) → m.phase ≡ (position_at positions m.position).phase
unfolding AgreesWith
mark_phase positions g from front m rest p h =
    all_at (AgreesWith positions) front m rest (phases_agree positions g from (front ++ m ∷ rest) p h)

mark_within : (g : Grammar) (front : List Mark) (m : Mark) (rest : List Mark) → Reads g 1 (front ++ m ∷ rest)
    → (0 < m.position) × (m.position < 1 + count_names g)
mark_within g front m rest h =
    let w = all_at (IsPositionOf g 1) front m rest (positions_within g 1 (front ++ m ∷ rest) h) in
    (omega (arith, w.0), w.1)

module _ (all old : List Position) (piece : Piece) (ends : PositionSet) (g : Grammar) (some : 0 < length old)
    (none : (before position : ℕ) → Follows all before position → ⊥) (whole : IsPiece old piece g 1)
    (rest : (position : ℕ) → 1 + count_names g ≤ position → position_at old position ≡ position_at all position)
    (end : (position : ℕ) → HasPosition ends position ↔ (HasPosition piece.last position ⊎ (IsTrue piece.optional × (position ≡ 0))))
  where
    abbrev opened : List Position
    opened = set old 0 (record { phase = 0; follow = piece.first })

    other : (k : ℕ) → 0 < k → position_at opened k ≡ position_at old k
    other k above =
        let d : k ≢ 0 = omega arith in
        get_or-set_other old 0 k (record { phase = 0; follow = piece.first }) opening_position d

    first_step : (phase position : ℕ) → IsStep opened 0 phase position ↔ IsLink g 0 phase position
    first_step phase position = (
      (λ h.
          let m = (whole.first position).0 (subst (λ (p : Position). HasPosition p.follow position) same h.0) in (
            m.0,
            m.1,
            mark_phase old g 1 [] m.0 m.1.0 whole.phases m.1.1
                ∙ (ap (λ k. (position_at old k).phase) m.2
                ∙ (ap (λ (p : Position). p.phase) (sym (other position (let w = mark_within g [] m.0 m.1.0 m.1.1 in omega (arith, w.0, m.2)))) ∙ h.1)),
            m.2,
          )),
      (λ h. (
        subst (λ (p : Position). HasPosition p.follow position) (sym same) ((whole.first position).1 (h.0, h.1, h.3)),
        ap (λ (p : Position). p.phase) (other position (let w = mark_within g [] h.0 h.1.0 h.1.1 in omega (arith, w.0, h.3)))
            ∙ (ap (λ k. (position_at old k).phase) (sym h.3) ∙ (sym (mark_phase old g 1 [] h.0 h.1.0 whole.phases h.1.1) ∙ h.2)),
      )),
    )
      where
        same : position_at opened 0 ≡ record { phase = 0; follow = piece.first }
        same = get_or-set_same old 0 (record { phase = 0; follow = piece.first }) opening_position some

    later_step : (before phase position : ℕ) → IsStep opened (suc before) phase position ↔ IsLink g (suc before) phase position
    later_step before phase position = ((λ h. to (subst (λ (p : Position). HasPosition p.follow position) same h.0) h.1), (λ h. back h.0 h.1 h.2.0 h.2.1 h.2.2 h.3 h.4 h.5))
      where
        same : position_at opened (suc before) ≡ position_at old (suc before)
        same = other (suc before) (omega arith)

        inside : suc before < 1 + count_names g → Follows old (suc before) position → (position_at opened position).phase ≡ phase → IsLink g (suc before) phase position
        inside within h e =
            let x = (whole.follow (suc before) position (omega arith) within).0 h in
            let reads : Reads g 1 ((x.2.0 ++ x.0 ∷ []) ++ x.1 ∷ x.2.1) = subst (λ ms. Reads g 1 ms) (regroup x.2.0 x.0 (x.1 ∷ x.2.1)) x.2.2 in (
              x.0,
              x.1,
              x.2,
              x.3,
              mark_phase old g 1 (x.2.0 ++ x.0 ∷ []) x.1 x.2.1 whole.phases reads
                  ∙ (ap (λ k. (position_at old k).phase) x.4
                  ∙ (ap (λ (p : Position). p.phase) (sym (other position (let w = mark_within g (x.2.0 ++ x.0 ∷ []) x.1 x.2.1 reads in omega (arith, w.0, x.4)))) ∙ e)),
              x.4,
            )
          where
            regroup : (f : List Mark) (a : Mark) (r : List Mark) → f ++ a ∷ r ≡ (f ++ a ∷ []) ++ r
            regroup [] a r = refl
            regroup (y ∷ f) a r = ap (λ ms. y ∷ ms) (regroup f a r)

        to : Follows old (suc before) position → (position_at opened position).phase ≡ phase → IsLink g (suc before) phase position
        to h e = elim (cases_lt (suc before) (1 + count_names g)) [
          | inl within ↦ inside within h e
          | inr past ↦ absurd (none (suc before) position (subst (λ (p : Position). HasPosition p.follow position) (rest (suc before) past) h))
        ]

        back : (a b : Mark) (f r : List Mark) → Reads g 1 (f ++ a ∷ b ∷ r) → a.position ≡ suc before → b.phase ≡ phase → b.position ≡ position
            → IsStep opened (suc before) phase position
        back a b f r reads e p k =
            let w = mark_within g f a (b ∷ r) reads in
            let reads' : Reads g 1 ((f ++ a ∷ []) ++ b ∷ r) = subst (λ ms. Reads g 1 ms) (regroup f a (b ∷ r)) reads in
            let v = mark_within g (f ++ a ∷ []) b r reads' in (
              subst (λ (p : Position). HasPosition p.follow position) (sym same)
                  ((whole.follow (suc before) position (omega arith) (omega (arith, w.1, e))).1 (a, b, (f, r, reads), e, k)),
              ap (λ (p : Position). p.phase) (other position (omega (arith, v.0, k)))
                  ∙ (ap (λ n. (position_at old n).phase) (sym k) ∙ (sym (mark_phase old g 1 (f ++ a ∷ []) b r whole.phases reads') ∙ p)),
            )
          where
            regroup : (f : List Mark) (a : Mark) (r : List Mark) → f ++ a ∷ r ≡ (f ++ a ∷ []) ++ r
            regroup [] a r = refl
            regroup (y ∷ f) a r = ap (λ ms. y ∷ ms) (regroup f a r)

    all_steps : (before phase position : ℕ) → IsStep opened before phase position ↔ IsLink g before phase position
    all_steps zero phase position = first_step phase position
    all_steps (suc before) phase position = later_step before phase position

    all_finals : (position : ℕ) → HasPosition ends position ↔ IsFinal g position
    all_finals zero = (
      (λ h. elim ((end 0).0 h) [
        | inl x ↦ absurd (let w = ends_within g 1 0 ((whole.last 0).0 x) in omega (arith, w.0))
        | inr x ↦ whole.optional.0 x.0
      ]),
      (λ h. (end 0).1 (inr (whole.optional.1 h, refl))),
    )
    all_finals (suc position) = (
      (λ h. elim ((end (suc position)).0 h) [
        | inl x ↦ (whole.last (suc position)).0 x
        | inr x ↦ absurd (omega (arith, x.1))
      ]),
      (λ h. (end (suc position)).1 (inl ((whole.last (suc position)).1 h))),
    )

    link_below : (before phase position : ℕ) → IsLink g before phase position → position < 1 + count_names g
    link_below zero phase position h = let w = mark_within g [] h.0 h.1.0 h.1.1 in omega (arith, w.1, h.3)
    link_below (suc before) phase position h =
        let w = mark_within g (h.2.0 ++ h.0 ∷ []) h.1 h.2.1 (subst (λ ms. Reads g 1 ms) (regroup h.2.0 h.0 (h.1 ∷ h.2.1)) h.2.2) in
        omega (arith, w.1, h.5)
      where
        regroup : (f : List Mark) (a : Mark) (r : List Mark) → f ++ a ∷ r ≡ (f ++ a ∷ []) ++ r
        regroup [] a r = refl
        regroup (y ∷ f) a r = ap (λ ms. y ∷ ms) (regroup f a r)

    pub opened_net : IsNet opened ends g
    opened_net = record {
      step = all_steps;
      final = all_finals;
      within = λ before position h.
          let w = link_below before (position_at opened position).phase position ((all_steps before (position_at opened position).phase position).0 (h, refl)) in
          omega (arith, w, whole.within, length-set old 0 (record { phase = 0; follow = piece.first }));
    }
