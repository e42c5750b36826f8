-- One turn of the loop over nasals: whether n turns at a place is told by the two flags and by the letter after it, and a write at the place changes nothing of what was decided before it.
use Rattle.std.proofs.Common.{◌≡◌, ℕ, ◌+◌, ◌-◌, ◌<◌, ◌≤◌, ◌⊎◌, ◌↔◌, Bool, true, false, IsTrue, List, length, slice_index, slice_set, arith, inl, inr, ⊎_elim, ◌∙◌, sym, refl, ap, get_or}
use Rattle.std.proofs.lemmas.Bool.{cases_lt, false≢true}
use Rattle.std.proofs.lemmas.List.{get_or-set_same, get_or-set_other, get_or_past, get_or_read}
use Rattle.morphology_definitions.specs.InternalSandhi.{IsTurningNasal, IsAfterTurned, IsReached, TurnsLaterNasal, LetsNasalTurn, FollowsTurningNasal, letter_n, letter_R}
use Rattle.morphology_definitions.proofs.NasalReach.{SameBelow, IsReached-along, IsTurningNasal-along}
use Rattle.internal_sandhi.proofs.Turning.{IsTurnedBelow, SameTurns, IsTurnedBelow-turn, IsTurnedBelow-stay}

abbrev pub NasalsTurned : ℕ → ℕ → List ℕ → List ℕ → Type 0
NasalsTurned start place old now = IsTurnedBelow start place (IsTurningNasal start old now) (λ _. letter_R) old now

-- the loop before it looks at a place: what it has done, and what its flags mean
pub record Flags (start place : ℕ) (after_turned reached : Bool) (old now : List ℕ) : Type 0 where
  pub done : NasalsTurned start place old now
  pub turned_means : IsTrue after_turned ↔ IsAfterTurned start old now place
  pub reached_means : IsTrue reached ↔ IsReached old now place

-- what the flags and the next letter say of n at a place
abbrev pub TurnsByFlags : ℕ → ℕ → Bool → Bool → List ℕ → Type 0
TurnsByFlags start place after_turned reached now =
    (start ≤ place) × (slice_index now place ≡ letter_n) × (IsTrue after_turned ⊎ (IsTrue reached × FollowsTurningNasal (slice_index now (place + 1))))

-- a write at a place changes nothing of what turns up to it
written : (start place v : ℕ) (old now : List ℕ) → SameTurns place (IsTurningNasal start old now) (IsTurningNasal start old (slice_set now place v))
written start place v old now =
    let new = slice_set now place v in
    let other : (l : ℕ) → l < place → slice_index new l ≡ slice_index now l = λ l lt. get_or-set_other now place l v 0 (omega arith) in
    record {
      there = λ i le. IsTurningNasal-along start i old now new (record { same = λ l lt. other l (omega arith) });
      back = λ i le. IsTurningNasal-along start i old new now (record { same = λ l lt. sym (other l (omega arith)) });
    }

-- the flags tell whether n turns
turns_by_flags : (start place : ℕ) (after_turned reached : Bool) (old now : List ℕ) → Flags start place after_turned reached old now → TurnsByFlags start place after_turned reached now → IsTurningNasal start old now place
turns_by_flags start place after_turned reached old now f t = (
  rw (← f.done.after place (omega arith)) t.1,
  ⊎_elim (λ a. inl (f.turned_means.0 a)) (λ r. inr (rw (← f.done.after (place + 1) (omega arith)) r.1, f.reached_means.0 r.0)) t.2,
)

flags_by_turns : (start place : ℕ) (after_turned reached : Bool) (old now : List ℕ) → Flags start place after_turned reached old now → start ≤ place → IsTurningNasal start old now place → TurnsByFlags start place after_turned reached now
flags_by_turns start place after_turned reached old now f in_ending t = (
  in_ending,
  f.done.after place (omega arith) ∙ t.0,
  ⊎_elim (λ a. inl (f.turned_means.1 a)) (λ r. inr (f.reached_means.1 r.1, rw (f.done.after (place + 1) (omega arith)) r.0)) t.1,
)

-- a place is reached where the letter before it turns n, or was reached and lets n turn
reached_more : (place : ℕ) (old now new : List ℕ) (reached reached' : Bool)
    → SameBelow place now new
    → (TurnsLaterNasal (slice_index new place) ↔ TurnsLaterNasal (slice_index old place))
    → (IsTrue reached ↔ IsReached old now place)
    → (IsTrue reached' ↔ (TurnsLaterNasal (slice_index new place) ⊎ (IsTrue reached × LetsNasalTurn (slice_index new place))))
    → IsTrue reached' ↔ IsReached old new (place + 1)
reached_more place old now new reached reached' same turner before is = (
  λ t. ⊎_elim
      (λ h. record { place = place; before = omega arith; turner = turner.0 h; between = λ l a b. absurd (omega arith) })
      (λ h. let r : IsReached old new place = IsReached-along place old now new same (before.0 h.0) in
      record { place = r.place; before = omega arith; turner = r.turner; between = λ l a b. ⊎_elim (λ below. r.between l a below) (λ here. let e : l ≡ place = omega arith in rw e h.1) (cases_lt l place) })
      (is.0 t),
  λ r. is.1 (⊎_elim
      (λ below. inr (before.1 (IsReached-along place old new now (record { same = λ l lt. sym (same.same l lt) }) (record { place = r.place; before = below; turner = r.turner; between = λ l a b. r.between l a (omega arith) })), r.between place below (omega arith)))
      (λ here. let e : r.place ≡ place = omega (arith, r.before) in inl (turner.1 (rw e at r.turner)))
      (cases_lt r.place place)),
)

no_turner : TurnsLaterNasal letter_R → ⊥
no_turner h = grind arith

no_turner' : TurnsLaterNasal letter_n → ⊥
no_turner' h = grind arith

-- n turns at the place
flags_turn : (start place : ℕ) (after_turned reached reached' : Bool) (old now : List ℕ)
    → Flags start place after_turned reached old now → TurnsByFlags start place after_turned reached now → place < length now
    → (IsTrue reached' ↔ (TurnsLaterNasal letter_R ⊎ (IsTrue reached × LetsNasalTurn letter_R)))
    → Flags start (place + 1) true reached' old (slice_set now place letter_R)
flags_turn start place after_turned reached reached' old now f t inside is =
    let was : slice_index old place ≡ letter_n = sym (f.done.after place (omega arith)) ∙ t.1 in
    let new : slice_index (slice_set now place letter_R) place ≡ letter_R = get_or-set_same now place letter_R 0 inside in
    let back : place + 1 - 1 ≡ place = omega arith in
    record {
      done = IsTurnedBelow-turn start place letter_R (IsTurningNasal start old now) (IsTurningNasal start old (slice_set now place letter_R)) (λ _. letter_R) old now f.done (written start place letter_R old now) t.0 inside (turns_by_flags start place after_turned reached old now f t) refl;
      turned_means = (λ _. record { in_ending = omega (arith, t.0); was = rw back was; is_now = rw back new }, λ _. refl);
      reached_means = reached_more place old now (slice_set now place letter_R) reached reached' (record { same = λ l lt. get_or-set_other now place l letter_R 0 (omega arith) }) (λ h. absurd (no_turner (rw new at h)), λ h. absurd (no_turner' (rw was at h))) f.reached_means (rw new is);
    }

-- the letter at the place stays
flags_stay : (start place : ℕ) (after_turned reached reached' : Bool) (old now : List ℕ)
    → Flags start place after_turned reached old now → (TurnsByFlags start place after_turned reached now → ⊥)
    → (IsTrue reached' ↔ (TurnsLaterNasal (slice_index now place) ⊎ (IsTrue reached × LetsNasalTurn (slice_index now place))))
    → Flags start (place + 1) false reached' old now
flags_stay start place after_turned reached reached' old now f stays is =
    let same : slice_index now place ≡ slice_index old place = f.done.after place (omega arith) in
    let back : place + 1 - 1 ≡ place = omega arith in
    let stayed : IsAfterTurned start old now (place + 1) → ⊥ = λ a. cc (rw back at a.was, rw back at a.is_now) in
    record {
      done = IsTurnedBelow-stay start place (IsTurningNasal start old now) (λ _. letter_R) old now f.done (λ from t. stays (flags_by_turns start place after_turned reached old now f from t));
      turned_means = (λ h. absurd (false≢true h), λ a. absurd (stayed a));
      reached_means = reached_more place old now now reached reached' (record { same = λ l lt. refl }) (λ h. rw (← same) h, λ h. rw same h) f.reached_means is;
    }

-- an n that turns stands within the word
pub nasal_within : (start : ℕ) (old now : List ℕ) (i : ℕ) → IsTurningNasal start old now i → i < length old
nasal_within start old now i t =
    ⊎_elim (λ lt. lt) (λ ge. absurd (omega (arith, get_or_past old i 0 ge, t.0))) (cases_lt i (length old))

-- one turn of the loop, whether n turns or not
pub flags_more : (start place letter : ℕ) (after_turned reached after_turned' reached' : Bool) (old now new : List ℕ)
    → Flags start place after_turned reached old now → place < length now → length new ≡ length now
    → (IsTrue after_turned' ↔ TurnsByFlags start place after_turned reached now)
    → (((after_turned' ≡ true) × (new ≡ slice_set now place letter_R)) ⊎ ((after_turned' ≡ false) × (new ≡ now)))
    → letter ≡ get_or new place letter
    → (IsTrue reached' ↔ (TurnsLaterNasal letter ⊎ (IsTrue reached × LetsNasalTurn letter)))
    → Flags start (place + 1) after_turned' reached' old new
flags_more start place letter after_turned reached after_turned' reached' old now new f inside same turns way read is =
    let at : letter ≡ slice_index new place = get_or_read new place letter (omega arith) read 0 in
    ⊎_elim
    (λ w. let t = turns.0 w.0 in
    let e : letter ≡ letter_R = at ∙ ap (λ xs. slice_index xs place) w.1 ∙ get_or-set_same now place letter_R 0 inside in
    rw (w.0, w.1) (flags_turn start place after_turned reached reached' old now f t inside (rw e at is)))
    (λ w. let no : TurnsByFlags start place after_turned reached now → ⊥ = λ t. false≢true (sym w.0 ∙ turns.1 t) in
    let e : letter ≡ slice_index now place = at ∙ ap (λ xs. slice_index xs place) w.1 in
    rw (w.0, w.1) (flags_stay start place after_turned reached reached' old now f no (rw e at is)))
    way
