-- What a chart says of a place is whether its entrance is one of the program's and its state is in the set there.
use Rattle.std.proofs.Common.{◌≡◌, ◌≢◌, ℕ, ◌↔◌, Bool, true, false, nat_eq, nat_lt, IsTrue, Option, Some, None, refl, sym, subst, arith}
use Rattle.std.specs.Prelude.{not, if◌then◌else◌}
use Rattle.std.proofs.lemmas.Bool.{eq-eqb, ne_eqb, lt-ltb, ltb-true, and_parts, false≢true}
use Rattle.derivation.specs.declared.entrance.Entrance.{Entrance}
use Rattle.derivation.specs.declared.entrance.Entrance.TheVariants.{Start, Plain, Lead as ByLead}
use Rattle.search_frames.specs.declared.configuration.Configuration.{Configuration}
use Rattle.summary_chart.specs.declared.state_set.StateSet.{StateSet}
use Rattle.summary_chart.specs.declared.table.Table.{Table}
use Rattle.summary_chart.specs.StateSets.{HasState}
use Rattle.summary_chart.specs.Tables.{IsEntrance, IsIn, HasThisState, set_at}
use Rattle.summary_chart.specs.Charts.{has_state, is_entrance, says_of}

-- ---- truth values

same_truth : (left right : Bool) → (IsTrue left → IsTrue right) → (IsTrue right → IsTrue left) → left ≡ right
same_truth true true there back = refl
same_truth true false there back = absurd (false≢true (there refl))
same_truth false true there back = absurd (false≢true (back refl))
same_truth false false there back = refl

if_both : (left right : Bool) → IsTrue left → IsTrue right → IsTrue (if left then right else false)
if_both true right l r = r
if_both false right l r = absurd (false≢true l)

both_if : (left right : Bool) → IsTrue (if left then right else false) → IsTrue left × IsTrue right
both_if true right t = (refl, t)
both_if false right t = absurd (false≢true t)

-- a number that is not 0 is told so
not_zero : (n : ℕ) → n ≢ 0 → IsTrue (not (nat_eq n 0))
not_zero n some = rw (ne_eqb n 0 some) refl

some_if_told : (n : ℕ) → IsTrue (not (nat_eq n 0)) → n ≢ 0
some_if_told n told zero = let e : nat_eq n 0 ≡ true = eq-eqb n 0 zero in false≢true (subst (λ (b : Bool). IsTrue (not b)) e told)

-- ---- entrances and states

told_entrance : (entrance : Entrance) → IsEntrance entrance → IsTrue (is_entrance entrance)
told_entrance Start proper = refl
told_entrance (Plain letter) proper =
    let low : nat_lt 0 letter ≡ true = lt-ltb 0 letter (omega arith) in
    let high : nat_lt letter 51 ≡ true = lt-ltb letter 51 (omega arith) in
    rw (low, high) refl
told_entrance (ByLead place) proper = refl

entrance_if_told : (entrance : Entrance) → IsTrue (is_entrance entrance) → IsEntrance entrance
entrance_if_told Start told = tt
entrance_if_told (Plain letter) told =
    let parts = and_parts (nat_lt 0 letter) (nat_lt letter 51) told in
    let low = ltb-true 0 letter parts.0 in
    let high = ltb-true letter 51 parts.1 in
    (omega (arith, low), omega (arith, high))
entrance_if_told (ByLead place) told = tt

told_state : (set : StateSet) (state : Option ℕ) → HasThisState set state → IsTrue (has_state set state)
told_state set None has = absurd has
told_state set (Some number) has = not_zero _ has

state_if_told : (set : StateSet) (state : Option ℕ) → IsTrue (has_state set state) → HasThisState set state
state_if_told set None told = absurd (false≢true told)
state_if_told set (Some number) told = some_if_told _ told

-- ---- places

-- the chart says true of just the places of its table
pub says_if_in : (table : Table) (place : Configuration) → IsIn table place → IsTrue (says_of table place.at place.entrance place.state)
says_if_in table place inside =
    if_both (is_entrance place.entrance) (has_state (set_at table place.at place.entrance) place.state)
    (told_entrance place.entrance inside.entrance) (told_state (set_at table place.at place.entrance) place.state inside.state)

pub in_if_says : (table : Table) (place : Configuration) → IsTrue (says_of table place.at place.entrance place.state) → IsIn table place
in_if_says table place told =
    let parts = both_if (is_entrance place.entrance) (has_state (set_at table place.at place.entrance) place.state) told in
    record {
      entrance = entrance_if_told place.entrance parts.0;
      state = state_if_told (set_at table place.at place.entrance) place.state parts.1;
    }

-- what the set tells of a numbered state is what the chart says
pub says_by_set : (table : Table) (at : ℕ) (entrance : Entrance) (set : StateSet) (number : ℕ) (result : Bool) → IsEntrance entrance
    → set ≡ set_at table at entrance → (IsTrue result ↔ HasState set number) → result ≡ says_of table at entrance (Some number)
says_by_set table at entrance set number result proper same has =
    let place : Configuration = record { at = at; entrance = entrance; state = Some number } in
    same_truth result (says_of table at entrance (Some number))
    (λ t. says_if_in table place (record { entrance = proper; state = subst (λ (s : StateSet). HasState s number) same (has.0 t) }))
    (λ t. has.1 (subst (λ (s : StateSet). HasState s number) (sym same) (in_if_says table place t).state))
