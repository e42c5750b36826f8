-- The tests of a phase's name one after another.
use Rattle.std.proofs.Common.{◌≡◌, ℕ, ◌<◌, ◌≤◌, Bool, true, false, not, ◌&&◌, nat_lt, eqb, List, [], ◌∷◌, length, Err, refl, arith}
use Rattle.std.specs.List.{list_any}
use Rattle.std.specs.Str.{bytes_eq}
use Rattle.std.proofs.lemmas.Bool.Decides.{nat_tests}
use Rattle.lexicon_definitions.specs.declared.limits.TheConstants.{MOST_PHASES}
use Rattle.rule_file_definitions.specs.RuleFileFaults.{Phase}
use Rattle.lexicon_definitions.specs.PhaseNames.{is_phase_name}
use Rattle.rule_file_definitions.specs.SoundClasses.{may_come_next, name_phases, read_phases}

first_false : (a b c : Bool) → a ≡ false → false ≡ (a && b && c)
first_false true b c e = absurd (cc)
first_false false b c e = refl

second_false : (a b c : Bool) → b ≡ false → false ≡ (a && b && c)
second_false true true c e = absurd (cc)
second_false true false c e = refl
second_false false b c e = refl

third_alone : (a b c : Bool) → a ≡ true → b ≡ true → c ≡ (a && b && c)
third_alone true true c e f = refl
third_alone true false c e f = absurd (cc)
third_alone false b c e f = absurd (cc)

full : (names : List (List ℕ)) → MOST_PHASES ≤ length names → nat_lt (length names) MOST_PHASES ≡ false
full names h = grind (arith, nat_tests)

room : (names : List (List ℕ)) → length names < MOST_PHASES → nat_lt (length names) MOST_PHASES ≡ true
room names h = grind (arith, nat_tests)

module _ (names : List (List ℕ)) (name : List ℕ) where
  pub not_name : is_phase_name name ≡ false → false ≡ may_come_next names name
  unfolding may_come_next
  not_name e = first_false (is_phase_name name) (nat_lt (length names) MOST_PHASES) (not (list_any (bytes_eq name) names)) e

  pub no_room : is_phase_name name ≡ true → MOST_PHASES ≤ length names → false ≡ may_come_next names name
  unfolding may_come_next
  no_room e h = second_false (is_phase_name name) (nat_lt (length names) MOST_PHASES) (not (list_any (bytes_eq name) names)) (full names h)

  pub by_room : is_phase_name name ≡ true → length names < MOST_PHASES → not (list_any (bytes_eq name) names) ≡ may_come_next names name
  unfolding may_come_next
  by_room e h = third_alone (is_phase_name name) (nat_lt (length names) MOST_PHASES) (not (list_any (bytes_eq name) names)) e (room names h)

pub no_phase : (names : List (List ℕ)) → length names ≡ 0 → read_phases names ≡ Err (Phase 0)
unfolding read_phases
no_phase [] e = refl
no_phase (name ∷ names) e = absurd (omega arith)

pub some_phase : (names : List (List ℕ)) → 0 < length names → name_phases [] 1 names ≡ read_phases names
unfolding read_phases
some_phase [] h = absurd (omega arith)
some_phase (name ∷ names) h = refl

pub is_none : (count : ℕ) → eqb count 0 ≡ true → count ≡ 0
is_none count h = grind (arith, nat_tests)

pub is_some : (count : ℕ) → eqb count 0 ≡ false → 0 < count
is_some count h = grind (arith, nat_tests)
