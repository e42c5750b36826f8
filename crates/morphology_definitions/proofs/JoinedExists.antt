-- A joined word exists: each step is made place by place, since whether a letter turns can be decided, and rests on the new word below its place alone.
use Rattle.std.proofs.Common.{◌≡◌, ◌≢◌, ℕ, zero, suc, ◌+◌, ◌-◌, ◌<◌, ◌≤◌, ◌⊎◌, ◌==◌, if◌then◌else◌, List, [], ◌∷◌, ◌++◌, length, slice_index, refl, arith, inl, inr, ⊎_elim, ◌∙◌, sym}
use Rattle.std.proofs.lemmas.Bool.{cases_lt}
use Rattle.std.proofs.lemmas.List.{get_or_append_left, get_or_past, get_or_push, length_push}
use Rattle.text_definitions.specs.Letters.{IsVowel}
use Rattle.morphology_definitions.specs.InternalSandhi.{TurnsFrom, TurnsNextSibilant, KeepsSibilant, IsAfterTurner, IsTurningSibilant, IsTurningStop, TurnsLaterNasal, LetsNasalTurn, FollowsTurningNasal, IsReached, IsAfterTurned, IsTurningNasal, IsJoined, letter_a, letter_A, letter_f, letter_F, letter_M, letter_H, letter_k, letter_w, letter_W, letter_R, letter_t, letter_T, letter_n, letter_m, letter_y, letter_r, letter_v, letter_z, letter_s}
use Rattle.morphology_definitions.proofs.NasalReach.{SameBelow, IsTurningNasal-along}

abbrev Decided : Type 0 → Type 0
Decided P = P ⊎ (P → ⊥)

both : {P Q : Type 0} → Decided P → Decided Q → Decided (P × Q)
both (inl p) (inl q) = inl (p, q)
both (inl p) (inr n) = inr (λ h. n h.1)
both (inr n) q = inr (λ h. n h.0)

both3 : {P Q R : Type 0} → Decided P → Decided Q → Decided R → Decided (P × Q × R)
both3 (inl p) (inl q) (inl r) = inl (p, q, r)
both3 (inl p) (inl q) (inr n) = inr (λ h. n h.2)
both3 (inl p) (inr n) r = inr (λ h. n h.1)
both3 (inr n) q r = inr (λ h. n h.0)

either : {P Q : Type 0} → Decided P → Decided Q → Decided (P ⊎ Q)
either (inl p) q = inl (inl p)
either (inr n) (inl q) = inl (inr q)
either (inr n) (inr m) = inr (λ h. ⊎_elim n m h)

not_decided : {P : Type 0} → Decided P → Decided (P → ⊥)
not_decided (inl p) = inr (λ n. n p)
not_decided (inr n) = inl n

by_iff : {P Q : Type 0} → (P → Q) → (Q → P) → Decided P → Decided Q
by_iff there back (inl p) = inl (there p)
by_iff there back (inr n) = inr (λ q. n (back q))

lt : (m n : ℕ) → Decided (m < n)
lt m n = ⊎_elim (λ h. inl h) (λ h. inr (λ k. omega arith)) (cases_lt m n)

le : (m n : ℕ) → Decided (m ≤ n)
le m n = ⊎_elim (λ h. inr (λ k. omega arith)) (λ h. inl h) (cases_lt n m)

eq : (m n : ℕ) → Decided (m ≡ n)
eq m n =
    ⊎_elim (λ a. inr (λ e. omega arith)) (λ a. ⊎_elim (λ b. inr (λ e. omega arith)) (λ b. inl (omega arith)) (cases_lt n m)) (cases_lt m n)

-- a step in the middle: the new word up to a place
record Made (start n : ℕ) (Turns : List ℕ → ℕ → Type 0) (turned : ℕ → ℕ) (old : List ℕ) : Type 0 where
  word : List ℕ
  len : length word ≡ n
  front : (i : ℕ) → i < n → i < start → slice_index word i ≡ slice_index old i
  turns : (i : ℕ) → i < n → start ≤ i → Turns word i → slice_index word i ≡ turned (slice_index old i)
  stays : (i : ℕ) → i < n → (Turns word i → ⊥) → slice_index word i ≡ slice_index old i

-- whether a letter turns is decided, and rests on the new word below its place
record IsLocal (Turns : List ℕ → ℕ → Type 0) : Type 0 where
  decided : (now : List ℕ) (i : ℕ) → Decided (Turns now i)
  along : (now new : List ℕ) (i : ℕ) → SameBelow i now new → Turns now i → Turns new i

module _ (start : ℕ) (Turns : List ℕ → ℕ → Type 0) (turned : ℕ → ℕ) (old : List ℕ) (h : IsLocal Turns) where
  pushed : (n : ℕ) (m : Made start n Turns turned old) (letter : ℕ)
      → (n < start → letter ≡ slice_index old n)
      → (start ≤ n → Turns m.word n → letter ≡ turned (slice_index old n))
      → ((Turns m.word n → ⊥) → letter ≡ slice_index old n)
      → Made start (suc n) Turns turned old
  pushed n m letter in_front in_turn in_stay =
      let new = m.word ++ letter ∷ [] in
      let below : (l : ℕ) → l < n → slice_index new l ≡ slice_index m.word l = λ l lt. get_or_append_left m.word (letter ∷ []) 0 l (omega (arith, m.len)) in
      let here : slice_index new n ≡ letter = get_or_push m.word letter 0 n m.len in
      let there : (i : ℕ) → i ≤ n → Turns m.word i → Turns new i = λ i le. h.along m.word new i (record { same = λ l lt. below l (omega arith) }) in
      let back : (i : ℕ) → i ≤ n → Turns new i → Turns m.word i = λ i le. h.along new m.word i (record { same = λ l lt. sym (below l (omega arith)) }) in
      record {
        word = new;
        len = length_push m.word letter ∙ omega (arith, m.len);
        front = λ i lt f. ⊎_elim (λ b. below i b ∙ m.front i b f) (λ g. let e : i ≡ n = omega arith in rw e (here ∙ in_front (omega arith))) (cases_lt i n);
        turns = λ i lt f t. ⊎_elim (λ b. below i b ∙ m.turns i b f (back i (omega arith) t)) (λ g. let e : i ≡ n = omega arith in rw e (here ∙ in_turn (omega arith) (back n (omega arith) (rw e at t)))) (cases_lt i n);
        stays = λ i lt s. ⊎_elim (λ b. below i b ∙ m.stays i b (λ t. s (there i (omega arith) t))) (λ g. let e : i ≡ n = omega arith in let s' : Turns new n → ⊥ = rw e at s in rw e (here ∙ in_stay (λ t. s' (there n (omega arith) t)))) (cases_lt i n);
      }

  made : (n : ℕ) → Made start n Turns turned old
  made zero = record { word = []; len = refl; front = λ i lt. absurd (omega arith); turns = λ i lt. absurd (omega arith); stays = λ i lt. absurd (omega arith) }
  made (suc n) =
      let m = made n in
      ⊎_elim
      (λ f. pushed n m (slice_index old n) (λ _. refl) (λ g. absurd (omega arith)) (λ _. refl))
      (λ g. ⊎_elim
      (λ t. pushed n m (turned (slice_index old n)) (λ f. absurd (omega arith)) (λ _ _. refl) (λ s. absurd (s t)))
      (λ s. pushed n m (slice_index old n) (λ _. refl) (λ _ t. absurd (s t)) (λ _. refl))
      (h.decided m.word n))
      (cases_lt n start)

  -- the step can be made, where only letters of the word turn
  step_exists : ((now : List ℕ) (i : ℕ) → Turns now i → i < length old) → (new : List ℕ) × TurnsFrom start (Turns new) turned old new
  step_exists inside =
      let m = made (length old) in
      let past : (i : ℕ) → length old ≤ i → slice_index m.word i ≡ slice_index old i = λ i le. get_or_past m.word i 0 (omega (arith, m.len)) ∙ sym (get_or_past old i 0 le) in (
        m.word,
        record {
          same_length = m.len;
          front = λ i f. ⊎_elim (λ b. m.front i b f) (λ p. past i p) (cases_lt i (length old));
          turns = λ i f t. m.turns i (inside m.word i t) f t;
          stays = λ i s. ⊎_elim (λ b. m.stays i b s) (λ p. past i p) (cases_lt i (length old));
        },
      )

-- a letter of a word that is not 0 stands within it
within : (word : List ℕ) (i : ℕ) → slice_index word i ≢ 0 → i < length word
within word i some = ⊎_elim (λ lt. lt) (λ ge. absurd (some (get_or_past word i 0 ge))) (cases_lt i (length word))

vowel : (n : ℕ) → Decided (IsVowel n)
vowel n = both (le 1 n) (le n 13)

turns_next : (n : ℕ) → Decided (TurnsNextSibilant n)
turns_next n =
    either (both3 (vowel n) (not_decided (eq n letter_a)) (not_decided (eq n letter_A))) (either (eq n letter_k) (eq n letter_r))

after_turner : (word : List ℕ) (i : ℕ) → Decided (IsAfterTurner word i)
after_turner word i =
    either (both (le 1 i) (turns_next (slice_index word (i - 1))))
    (both3 (le 2 i) (either (eq (slice_index word (i - 1)) letter_M) (eq (slice_index word (i - 1)) letter_H)) (turns_next (slice_index word (i - 2))))

keeps : (n : ℕ) → Decided (KeepsSibilant n)
keeps n = either (eq n letter_r) (either (eq n letter_f) (eq n letter_F))

sibilant : (word : List ℕ) (i : ℕ) → Decided (IsTurningSibilant word i)
sibilant word i =
    by_iff (λ h. record { sibilant = h.0.0; not_last = h.0.1; right = h.1.0; left = h.1.1 }) (λ t. ((t.sibilant, t.not_last), (t.right, t.left)))
    (both (both (eq (slice_index word i) letter_s) (lt (i + 1) (length word))) (both (not_decided (keeps (slice_index word (i + 1)))) (after_turner word i)))

stop : (word : List ℕ) (i : ℕ) → Decided (IsTurningStop word i)
stop word i =
    by_iff (λ h. record { stop = h.0; not_first = h.1.0; after_z = h.1.1 }) (λ t. (t.stop, (t.not_first, t.after_z)))
    (both (either (eq (slice_index word i) letter_t) (eq (slice_index word i) letter_T)) (both (le 1 i) (eq (slice_index word (i - 1)) letter_z)))

follows : (n : ℕ) → Decided (FollowsTurningNasal n)
follows n = either (vowel n) (either (eq n letter_n) (either (eq n letter_m) (either (eq n letter_y) (eq n letter_v))))

lets : (n : ℕ) → Decided (LetsNasalTurn n)
lets n =
    either (vowel n) (either (both (le 14 n) (le n 16)) (either (both (le 17 n) (le n 21)) (either (both (le 37 n) (le n 41)) (either (both (le 49 n) (le n 49)) (either (eq n letter_y) (eq n letter_v))))))

turner : (n : ℕ) → Decided (TurnsLaterNasal n)
turner n = either (eq n letter_z) (either (eq n letter_r) (either (eq n letter_f) (eq n letter_F)))

-- reached at the next place: by the letter here, or by an earlier one across it
reached : (old new : List ℕ) (i : ℕ) → Decided (IsReached old new i)
reached old new zero = inr (λ r. absurd (omega (arith, r.before)))
reached old new (suc i) =
    by_iff
    (λ h. ⊎_elim
    (λ t. record { place = i; before = omega arith; turner = t; between = λ l a b. absurd (omega arith) })
    (λ k. record { place = k.0.place; before = omega (arith, k.0.before); turner = k.0.turner; between = λ l a b. ⊎_elim (λ c. k.0.between l a c) (λ c. let e : l ≡ i = omega arith in rw e k.1) (cases_lt l i) })
    h)
    (λ r. ⊎_elim
    (λ c. inr (record { place = r.place; before = c; turner = r.turner; between = λ l a b. r.between l a (omega arith) }, r.between i c (omega arith)))
    (λ c. let e : r.place ≡ i = omega (arith, r.before) in inl (rw e at r.turner))
    (cases_lt r.place i))
    (either (turner (slice_index old i)) (both (reached old new i) (lets (slice_index new i))))

after_turned : (start : ℕ) (old new : List ℕ) (i : ℕ) → Decided (IsAfterTurned start old new i)
after_turned start old new i =
    by_iff (λ h. record { in_ending = h.0; was = h.1.0; is_now = h.1.1 }) (λ a. (a.in_ending, (a.was, a.is_now)))
    (both (lt start i) (both (eq (slice_index old (i - 1)) letter_n) (eq (slice_index new (i - 1)) letter_R)))

nasal : (start : ℕ) (old new : List ℕ) (i : ℕ) → Decided (IsTurningNasal start old new i)
nasal start old new i =
    both (eq (slice_index old i) letter_n) (either (after_turned start old new i) (both (follows (slice_index old (i + 1))) (reached old new i)))

-- a front and an ending have a joined word
pub IsJoined-exists : (front ending : List ℕ) → (result : List ℕ) × IsJoined front ending result
IsJoined-exists front ending =
    let n = length front in
    let whole = front ++ ending in
    let one = step_exists n (λ _. IsTurningSibilant whole) (λ _. letter_z) whole (record { decided = λ now i. sibilant whole i; along = λ now new i b t. t }) (λ now i t. within whole i (λ e. absurd (omega (arith, t.sibilant, e)))) in
    let two = step_exists n (λ _. IsTurningStop one.0) (λ m. if m == letter_t then letter_w else letter_W) one.0 (record { decided = λ now i. stop one.0 i; along = λ now new i b t. t }) (λ now i t. within one.0 i (λ e. ⊎_elim (λ p. absurd (omega (arith, p, e))) (λ p. absurd (omega (arith, p, e))) t.stop)) in
    let three = step_exists n (IsTurningNasal n two.0) (λ _. letter_R) two.0 (record { decided = nasal n two.0; along = λ now new i b t. IsTurningNasal-along n i two.0 now new b t }) (λ now i t. within two.0 i (λ e. absurd (omega (arith, t.0, e)))) in
    (three.0, record { after_sibilants = one.0; after_stops = two.0; sibilants = one.1; stops = two.1; nasals = three.1 })
