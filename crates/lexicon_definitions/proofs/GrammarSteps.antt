-- The positions after a list and one phase more follow from the positions after the list, by exchanging what is read after a
-- position; so do the words that end and the words that go on.
use Rattle.std.proofs.Common.{◌≡◌, inl, inr, ℕ, zero, suc, ◌<◌, ◌↔◌, List, [], ◌∷◌, ◌++◌, refl, sym, ap, ◌∙◌, append_assoc, arith, subst}
use Rattle.std.proofs.lemmas.List.{append-nil, map-append, same_from_push}
use Rattle.lexicon_definitions.specs.Grammars.{Grammar, Accepts, Mark, Reads, phases_of, IsPositionAfter, HaveSamePositions}
use Rattle.lexicon_definitions.specs.GrammarMarks.{IsLast, IsPair, IsPositionIn, IsLink, IsFinal}
use Rattle.lexicon_definitions.proofs.GrammarLists.{all_at, last_of}
use Rattle.lexicon_definitions.proofs.GrammarPositions.{IsPositionOf, positions_within, reads_accepts, accepts_reads, exchange, front_of, position_of}
use Rattle.lexicon_definitions.proofs.GrammarFollows.{some_reading}
use Rattle.list_laws.proofs.Elements.{some_by_last}

-- a position of a reading is above 0
read_position : (g : Grammar) (front : List Mark) (m : Mark) (rest : List Mark) → Reads g 1 (front ++ m ∷ rest) → 0 < m.position
read_position g front m rest h =
    let k = all_at (IsPositionOf g 1) front m rest (positions_within g 1 (front ++ m ∷ rest) h) in
    omega (arith, k.0)

pub position_above : (g : Grammar) (phases : List ℕ) (position : ℕ) → IsPositionAfter g phases position → 0 < position
position_above g phases position h = let k = read_position g h.0 h.1 h.2 h.3 in omega (arith, k, h.5)

link_of : (g : Grammar) (position phase after : ℕ) (x y : Mark) → 0 < position → IsPair g 1 x y → x.position ≡ position → y.phase ≡ phase
    → y.position ≡ after → IsLink g position phase after
link_of g zero phase after x y h pair a b c = absurd (omega (arith, h))
link_of g (suc position) phase after x y h pair a b c = (x, y, pair, a, b, c)

final_of : (g : Grammar) (position : ℕ) (m : Mark) → 0 < position → IsLast g 1 m → m.position ≡ position → IsFinal g position
final_of g zero m h last e = absurd (omega (arith, h))
final_of g (suc position) m h last e = (m, last, e)

phases_push : (marks : List Mark) (m : Mark) → phases_of (marks ++ m ∷ []) ≡ phases_of marks ++ m.phase ∷ []
phases_push marks m = map-append (λ (mark : Mark). mark.phase) marks (m ∷ [])

-- ---- the first phase
first_step : (g : Grammar) (k q : ℕ) → IsPositionIn g (k ∷ []) q ↔ ((p : ℕ) × IsPositionIn g [] p × IsLink g p k q)
first_step g k q = ((λ h. to h.0 h.1 h.2 h.3 h.4 h.5), (λ h. back h.0 h.1 h.2))
  where
    to : (front : List Mark) (last : Mark) (rest : List Mark) → Reads g 1 (front ++ last ∷ rest)
        → k ∷ [] ≡ phases_of (front ++ last ∷ []) → last.position ≡ q → (p : ℕ) × IsPositionIn g [] p × IsLink g p k q
    to [] last rest reads e position = (0, refl, (last, (rest, reads), (cc), position))
    to (x ∷ front) last rest reads e position =
        let none : [] ≡ phases_of (front ++ last ∷ []) = cc in
        absurd (some_by_last (phases_of front) last.phase (sym (phases_push front last) ∙ sym none))

    back : (p : ℕ) → p ≡ 0 → IsLink g p k q → IsPositionIn g (k ∷ []) q
    back zero e h = ([], h.0, h.1.0, h.1.1, (let phase = h.2 in cc), h.3)
    back (suc p) e h = absurd (omega (arith, e))

-- ---- one phase more
more_step : (g : Grammar) (j : ℕ) (js : List ℕ) (k q : ℕ) → IsPositionIn g (j ∷ (js ++ k ∷ [])) q
    ↔ ((p : ℕ) × IsPositionIn g (j ∷ js) p × IsLink g p k q)
more_step g j js k q = ((λ h. to h.0 h.1 h.2 h.3 h.4 h.5), (λ h. back h.0 h.1 h.2))
  where
    to : (front : List Mark) (last : Mark) (rest : List Mark) → Reads g 1 (front ++ last ∷ rest)
        → (j ∷ js) ++ k ∷ [] ≡ phases_of (front ++ last ∷ []) → last.position ≡ q
        → (p : ℕ) × IsPositionIn g (j ∷ js) p × IsLink g p k q
    to [] last rest reads e position =
        let none : js ++ k ∷ [] ≡ [] = cc in
        absurd (some_by_last js k none)
    to (x ∷ front) last rest reads e position =
        let before = last_of x front in
        let same = same_from_push (j ∷ js) (phases_of (x ∷ front)) k last.phase (e ∙ phases_push (x ∷ front) last) in
        let reads' : Reads g 1 (before.0 ++ before.1 ∷ last ∷ rest) =
        subst (λ ms. Reads g 1 ms) (ap (λ ms. ms ++ last ∷ rest) before.2 ∙ append_assoc before.0 (before.1 ∷ []) (last ∷ rest)) reads in (
          before.1.position,
          (before.0, before.1, last ∷ rest, reads', same.0 ∙ ap phases_of before.2, refl),
          link_of g before.1.position k q before.1 last (read_position g before.0 before.1 (last ∷ rest) reads')
              (before.0, rest, reads') refl (sym same.1) position,
        )

    back : (p : ℕ) → IsPositionAfter g (j ∷ js) p → IsLink g p k q → IsPositionAfter g (j ∷ (js ++ k ∷ [])) q
    back zero h l = absurd (let above = position_above g (j ∷ js) 0 h in omega (arith, above))
    back (suc p) h l =
        let x = exchange g 1 h.1 l.0 (h.5 ∙ sym l.3) h.0 h.2 l.2.0 (l.1 ∷ l.2.1) h.3 l.2.2 in (
          h.0 ++ h.1 ∷ [],
          l.1,
          l.2.1,
          subst (λ ms. Reads g 1 ms) (sym (append_assoc h.0 (h.1 ∷ []) (l.1 ∷ l.2.1))) x.reads,
          ap (λ ps. ps ++ k ∷ []) h.4 ∙ (ap (λ phase. phases_of (h.0 ++ h.1 ∷ []) ++ phase ∷ []) (sym l.4) ∙ sym (phases_push (h.0 ++ h.1 ∷ []) l.1)),
          l.5,
        )

pub position_step : (g : Grammar) (ks : List ℕ) (k q : ℕ)
    → IsPositionIn g (ks ++ k ∷ []) q ↔ ((p : ℕ) × IsPositionIn g ks p × IsLink g p k q)
position_step g [] k q = first_step g k q
position_step g (j ∷ js) k q = more_step g j js k q

-- a list with no phases has no marks
no_marks : (marks : List Mark) → phases_of marks ≡ [] → marks ≡ []
no_marks [] e = refl
no_marks (x ∷ marks) e = cc

-- ---- the words that end
pub accepts_final : (g : Grammar) (ks : List ℕ) → Accepts g ks ↔ ((p : ℕ) × IsPositionIn g ks p × IsFinal g p)
accepts_final g [] = (to, (λ h. back h.0 h.1 h.2))
  where
    to : Accepts g [] → (p : ℕ) × IsPositionIn g [] p × IsFinal g p
    to h =
        let r = accepts_reads g 1 [] h in
        (0, refl, subst (λ ms. Reads g 1 ms) (no_marks r.marks r.phases_are) r.reads)

    back : (p : ℕ) → p ≡ 0 → IsFinal g p → Accepts g []
    back zero e h = reads_accepts g 1 [] h
    back (suc p) e h = absurd (omega (arith, e))
accepts_final g (k ∷ ks) = (to, (λ h. back h.0 h.1 h.2))
  where
    to : Accepts g (k ∷ ks) → (p : ℕ) × IsPositionIn g (k ∷ ks) p × IsFinal g p
    to h =
        let f = front_of g (k ∷ ks) [] (λ e. cc) (subst (λ w. Accepts g w) (sym (append-nil (k ∷ ks))) h) in (
          f.last.position,
          position_of g (k ∷ ks) [] f,
          final_of g f.last.position f.last (read_position g f.front f.last f.rest f.reads)
              (f.front, subst (λ ms. Reads g 1 (f.front ++ f.last ∷ ms)) (no_marks f.rest f.r_is) f.reads) refl,
        )

    back : (p : ℕ) → IsPositionAfter g (k ∷ ks) p → IsFinal g p → Accepts g (k ∷ ks)
    back zero h l = absurd (let above = position_above g (k ∷ ks) 0 h in omega (arith, above))
    back (suc p) h l =
        let x = exchange g 1 h.1 l.0 (h.5 ∙ sym l.2) h.0 h.2 l.1.0 [] h.3 l.1.1 in
        subst (λ w. Accepts g w) (sym h.4) (reads_accepts g 1 (h.0 ++ h.1 ∷ []) x.reads)

-- ---- the words that go on
pub live_position : (g : Grammar) (ks : List ℕ) → ((rest : List ℕ) × Accepts g (ks ++ rest)) ↔ ((p : ℕ) × IsPositionIn g ks p)
live_position g [] = (
  (λ h. (0, refl)),
  (λ h. let r = some_reading g 1 in (phases_of r.0, reads_accepts g 1 r.0 r.1)),
)
live_position g (k ∷ ks) = (
  (λ h. let f = front_of g (k ∷ ks) h.0 (λ e. cc) h.1 in (f.last.position, position_of g (k ∷ ks) h.0 f)),
  (λ h. go h.1.0 h.1.1 h.1.2 h.1.3 h.1.4),
)
  where
    go : (front : List Mark) (last : Mark) (rest : List Mark) → Reads g 1 (front ++ last ∷ rest)
        → k ∷ ks ≡ phases_of (front ++ last ∷ []) → (rest : List ℕ) × Accepts g ((k ∷ ks) ++ rest)
    go front last rest reads e = (
      phases_of rest,
      subst (λ w. Accepts g w)
          (ap phases_of (sym (append_assoc front (last ∷ []) rest))
          ∙ (map-append (λ (mark : Mark). mark.phase) (front ++ last ∷ []) rest ∙ ap (λ ps. ps ++ phases_of rest) (sym e)))
          (reads_accepts g 1 (front ++ last ∷ rest) reads),
    )

-- ---- the same positions
pub same_positions : (g : Grammar) (p q : List ℕ)
    → HaveSamePositions g p q ↔ ((position : ℕ) → IsPositionIn g p position ↔ IsPositionIn g q position)
same_positions g [] [] = ((λ h position. ((λ e. e), (λ e. e))), (λ h. inl (refl, refl)))
same_positions g [] (k ∷ q) =
    ((λ h. absurd (differ h)), (λ h. absurd (let above = position_above g (k ∷ q) 0 ((h 0).0 refl) in omega (arith, above))))
  where
    differ : HaveSamePositions g [] (k ∷ q) → ⊥
    differ (inl both) = let e = both.1 in cc
    differ (inr same) = same.0 refl
same_positions g (k ∷ p) [] =
    ((λ h. absurd (differ h)), (λ h. absurd (let above = position_above g (k ∷ p) 0 ((h 0).1 refl) in omega (arith, above))))
  where
    differ : HaveSamePositions g (k ∷ p) [] → ⊥
    differ (inl both) = let e = both.0 in cc
    differ (inr same) = same.1 refl
same_positions g (k ∷ p) (j ∷ q) = (to, (λ h. inr ((λ e. cc), (λ e. cc), h)))
  where
    to : HaveSamePositions g (k ∷ p) (j ∷ q) → (position : ℕ) → IsPositionIn g (k ∷ p) position ↔ IsPositionIn g (j ∷ q) position
    to (inl both) = let e = both.0 in cc
    to (inr same) = same.2
