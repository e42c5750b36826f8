-- The table row by row: a row more keeps the rows before it, whose states keep their numbers.
use Rattle.std.proofs.Common.{◌≡◌, ℕ, ◌+◌, ◌-◌, ◌*◌, ◌<◌, ◌≤◌, ◌↔◌, inl, inr, Bool, false, IsTrue, Option, Some, None, List, [], ◌∷◌, ◌++◌, length, get_or, refl, sym, ap, ◌∙◌, arith, subst, length-append}
use Rattle.std.proofs.lemmas.Bool.{cases_lt}
use Rattle.std.proofs.lemmas.Nat.{mul-add-lt}
use Rattle.std.proofs.lemmas.List.{get_or_append_left, get_or_push, length_push, get_or_past, get_or-append-add, get_or-append_right}
use Rattle.phase_automaton.specs.declared.position_set.PositionSet.{PositionSet}
use Rattle.phase_automaton.specs.declared.position.Position.{Position}
use Rattle.phase_automaton.specs.PositionSets.{HasPosition}
use Rattle.phase_automaton.specs.Tables.{Table, IsBelow, machine_of}
use Rattle.phase_automaton.specs.Subsets.{AreStates, IsSubsetMachine, IsSetStep, set_at, StandsFor, Extends, AddsRow}
use Rattle.phase_automaton.proofs.MachineTables.{machine_phases, machine_count, machine_row, machine_next, machine_accepting}
use Rattle.phase_automaton.proofs.SubsetSteps.{stands_extends}

-- the rows of the first states
pub record AreRows (positions : List Position) (phases : ℕ) (sets : List PositionSet) (steps : List (Option ℕ)) (count : ℕ) : Type 0 where
  pub size : length steps ≡ count * phases
  pub stand : (i k : ℕ) → i < count → k < phases
      → StandsFor sets (get_or steps (i * phases + k) None) (IsSetStep positions (set_at sets i) k)
  pub below : (at : ℕ) → IsBelow (length sets) (get_or steps at None)

-- which of the first sets meet the ends
abbrev pub AreEnds : PositionSet → List PositionSet → List Bool → Type 0
AreEnds ends sets accepting =
    (i : ℕ) → i < length accepting
    → IsTrue (get_or accepting i false) ↔ ((position : ℕ) × HasPosition (set_at sets i) position × HasPosition ends position)

pub no_rows : (positions : List Position) (phases : ℕ) (sets : List PositionSet) (steps : List (Option ℕ)) → steps ≡ []
    → AreRows positions phases sets steps 0
no_rows positions phases sets steps e = record {
  size = ap length e ∙ omega arith;
  stand = λ i k h l. absurd (omega (arith, h));
  below = λ position. subst (λ s. IsBelow (length sets) (get_or s position None)) (sym e) tt;
}

below_from_stands : (sets : List PositionSet) (state : Option ℕ) (Has : ℕ → Type 0) → StandsFor sets state Has → IsBelow (length sets) state
below_from_stands sets None Has h = tt
below_from_stands sets (Some n) Has h = h.0

below_more : (a b : ℕ) (state : Option ℕ) → a ≤ b → IsBelow a state → IsBelow b state
below_more a b None h k = tt
below_more a b (Some n) h k = omega (arith, h, k)

pub rows_more : (positions : List Position) (phases : ℕ) (old new : List PositionSet) (steps after : List (Option ℕ)) (count : ℕ)
    → count < length old → Extends old new → AddsRow positions new (set_at old count) steps after phases
    → AreRows positions phases old steps count → AreRows positions phases new after (count + 1)
rows_more positions phases old new steps after count within e row h =
    subst (λ s. AreRows positions phases new s (count + 1)) (sym row.1)
    (record {
      size = length-append steps row.0 ∙ omega (arith, h.size, row.2);
      stand = stand;
      below = below;
    })
  where
    stand : (i k : ℕ) → i < count + 1 → k < phases
        → StandsFor new (get_or (steps ++ row.0) (i * phases + k) None) (IsSetStep positions (set_at new i) k)
    stand i k a b = elim (cases_lt i count) [
      | inl below ↦
          let inside : i * phases + k < length steps = omega (arith, h.size, mul-add-lt i phases k count below b) in
          subst (λ s. StandsFor new s (IsSetStep positions (set_at new i) k)) (sym (get_or_append_left steps row.0 None (i * phases + k) inside))
          (subst (λ s. StandsFor new (get_or steps (i * phases + k) None) (IsSetStep positions s k)) (sym (e.same i (omega arith)))
          (stands_extends old new (get_or steps (i * phases + k) None) (IsSetStep positions (set_at old i) k) e (h.stand i k below b)))
      | inr past ↦
          let last : i ≡ count = omega arith in
          let at : i * phases + k ≡ length steps + k = ap (λ n. n * phases + k) last ∙ omega (arith, h.size) in
          subst (λ n. StandsFor new (get_or (steps ++ row.0) n None) (IsSetStep positions (set_at new i) k)) (sym at)
          (subst (λ s. StandsFor new s (IsSetStep positions (set_at new i) k)) (sym (get_or-append-add steps row.0 k None))
          (subst (λ s. StandsFor new (get_or row.0 k None) (IsSetStep positions s k)) (sym (ap (set_at new) last ∙ e.same count within))
          (row.3 k (omega (arith, row.2, b)))))
    ]

    below : (position : ℕ) → IsBelow (length new) (get_or (steps ++ row.0) position None)
    below position = elim (cases_lt position (length steps)) [
      | inl inside ↦ subst (λ s. IsBelow (length new) s) (sym (get_or_append_left steps row.0 None position inside))
          (below_more (length old) (length new) (get_or steps position None) e.longer (h.below position))
      | inr past ↦ subst (λ s. IsBelow (length new) s) (sym (get_or-append_right steps row.0 (length steps) position None refl past))
          (elim (cases_lt (position - length steps) (length row.0)) [
            | inl inside ↦ below_from_stands new (get_or row.0 (position - length steps) None) (IsSetStep positions (set_at old count) (position - length steps)) (row.3 (position - length steps) inside)
            | inr out ↦ subst (λ s. IsBelow (length new) s) (sym (get_or_past row.0 (position - length steps) None out)) tt
          ])
    ]

pub ends_more : (ends : PositionSet) (old new : List PositionSet) (accepting : List Bool) (meets : Bool) → length accepting < length old
    → Extends old new
    → (IsTrue meets ↔ ((position : ℕ) × HasPosition (set_at old (length accepting)) position × HasPosition ends position))
    → AreEnds ends old accepting → AreEnds ends new (accepting ++ meets ∷ [])
ends_more ends old new accepting meets within e here h i inside = elim (cases_lt i (length accepting)) [
  | inl below ↦
      subst (λ b. IsTrue b ↔ ((position : ℕ) × HasPosition (set_at new i) position × HasPosition ends position)) (sym (get_or_append_left accepting (meets ∷ []) false i below))
      (subst (λ s. IsTrue (get_or accepting i false) ↔ ((position : ℕ) × HasPosition s position × HasPosition ends position)) (sym (e.same i (omega arith))) (h i below))
  | inr past ↦
      let last : i ≡ length accepting = omega (arith, inside, length_push accepting meets) in
      subst (λ b. IsTrue b ↔ ((position : ℕ) × HasPosition (set_at new i) position × HasPosition ends position)) (sym (ap (λ n. get_or (accepting ++ meets ∷ []) n false) last ∙ get_or_push accepting meets false (length accepting) refl))
      (subst (λ s. IsTrue meets ↔ ((position : ℕ) × HasPosition s position × HasPosition ends position)) (sym (ap (set_at new) last ∙ e.same (length accepting) within)) here)
]

-- where each set has its row, the table is that of the sets
pub all_rows : (positions : List Position) (ends : PositionSet) (sets : List PositionSet) (table : Table) → AreStates positions sets
    → length table.accepting ≡ length sets → AreRows positions table.phases sets table.steps (length table.accepting)
    → AreEnds ends sets table.accepting → IsSubsetMachine positions ends (machine_of table)
all_rows positions ends sets table states count rows meets = record {
  sets = sets;
  states = states;
  count = machine_count table ∙ count;
  each_phase = λ number h. machine_row table number (omega (arith, count, h)) ∙ sym (machine_phases table);
  steps = λ number phase h k.
      let inside : number < length table.accepting = omega (arith, count, h) in
      let small : phase < table.phases = omega (arith, k, machine_phases table) in
      subst (λ s. StandsFor sets s (IsSetStep positions (set_at sets number) phase)) (sym (machine_next table number phase inside small))
      (rows.stand number phase inside small);
  accepting = λ number h.
      let inside : number < length table.accepting = omega (arith, count, h) in
      subst (λ b. IsTrue b ↔ ((position : ℕ) × HasPosition (set_at sets number) position × HasPosition ends position))
      (sym (machine_accepting table number inside)) (meets number inside);
}
