-- The joined word is one: where two new words agree below a place, each has turned there exactly where the other has, and so they agree at it.
-- No step decides whether a letter turns: two numbers that cannot differ are equal.
use Rattle.std.proofs.Common.{◌≡◌, ◌≢◌, ℕ, zero, suc, ◌+◌, ◌<◌, List, length, slice_index, arith, ⊎_elim, ◌∙◌, sym, length-append}
use Rattle.std.proofs.lemmas.Bool.{cases_lt}
use Rattle.std.proofs.lemmas.List.{ext_get_or, get_or_append_left}
use Rattle.morphology_definitions.specs.InternalSandhi.{TurnsFrom, TurnsNasals, IsTurningNasal, IsJoined, letter_R}
use Rattle.morphology_definitions.proofs.NasalReach.{SameBelow, IsTurningNasal-along}

-- two numbers that cannot differ are equal
stable : (m n : ℕ) → (m ≢ n → ⊥) → m ≡ n
stable m n same =
    ⊎_elim (λ lt. absurd (same (omega arith)))
    (λ le. ⊎_elim (λ gt. absurd (same (omega arith))) (λ ge. omega arith) (cases_lt n m))
    (cases_lt m n)

-- a place at which a letter turns in both words, or in neither, has the same letter in both
turned_once : (start i : ℕ) (Turns Turns' : ℕ → Type 0) (turned : ℕ → ℕ) (old left right : List ℕ)
    → TurnsFrom start Turns turned old left → TurnsFrom start Turns' turned old right → (Turns i → Turns' i) → (Turns' i → Turns i)
    → slice_index left i ≡ slice_index right i
turned_once start i Turns Turns' turned old left right a b there back =
    ⊎_elim (λ front. a.front i front ∙ sym (b.front i front))
    (λ from. stable (slice_index left i) (slice_index right i) (λ differ.
    let stays : Turns i → ⊥ = λ t. differ (a.turns i from t ∙ sym (b.turns i from (there t))) in
    differ (a.stays i stays ∙ sym (b.stays i (λ t. stays (back t))))))
    (cases_lt i start)

-- a step over one old word has one new word at most
TurnsFrom-once : (start : ℕ) (Turns : ℕ → Type 0) (turned : ℕ → ℕ) (old left right : List ℕ)
    → TurnsFrom start Turns turned old left → TurnsFrom start Turns turned old right → left ≡ right
TurnsFrom-once start Turns turned old left right a b =
    ext_get_or 0 left right (a.same_length ∙ sym b.same_length) (λ i lt. turned_once start i Turns Turns turned old left right a b (λ t. t) (λ t. t))

nasals_agree : (start : ℕ) (old left right : List ℕ) → TurnsNasals start old left → TurnsNasals start old right → (n : ℕ) → SameBelow n left right
nasals_agree start old left right a b zero = record { same = λ l lt. absurd (omega arith) }
nasals_agree start old left right a b (suc n) =
    let below : SameBelow n left right = nasals_agree start old left right a b n in
    let back : SameBelow n right left = record { same = λ l lt. sym (below.same l lt) } in
    let here : slice_index left n ≡ slice_index right n = turned_once start n (IsTurningNasal start old left) (IsTurningNasal start old right) (λ _. letter_R) old left right a b (IsTurningNasal-along start n old left right below) (IsTurningNasal-along start n old right left back) in
    record { same = λ l lt. ⊎_elim (λ lt'. below.same l lt') (λ ge. let e : l ≡ n = omega arith in rw e (sym here)) (cases_lt l n) }

TurnsNasals-once : (start : ℕ) (old left right : List ℕ) → TurnsNasals start old left → TurnsNasals start old right → left ≡ right
TurnsNasals-once start old left right a b =
    ext_get_or 0 left right (a.same_length ∙ sym b.same_length) (λ i lt. sym ((nasals_agree start old left right a b (suc i)).same i (omega arith)))

-- a front and an ending have one joined word at most
pub IsJoined-once : (front ending left right : List ℕ) → IsJoined front ending left → IsJoined front ending right → left ≡ right
IsJoined-once front ending left right a b =
    let n = length front in
    let one : a.after_sibilants ≡ b.after_sibilants = TurnsFrom-once n _ _ _ _ _ a.sibilants b.sibilants in
    let two : a.after_stops ≡ b.after_stops = TurnsFrom-once n _ _ _ _ _ (rw one at a.stops) b.stops in
    TurnsNasals-once n _ _ _ (rw two at a.nasals) b.nasals

-- the joined word is as long as the front and the ending together
pub length-IsJoined : (front ending result : List ℕ) → IsJoined front ending result → length result ≡ length front + length ending
length-IsJoined front ending result h =
    h.nasals.same_length ∙ h.stops.same_length ∙ h.sibilants.same_length ∙ length-append front ending

-- the letters of the front never change
pub IsJoined-front : (front ending result : List ℕ) → IsJoined front ending result → (i : ℕ) → i < length front → slice_index result i ≡ slice_index front i
IsJoined-front front ending result h i lt =
    h.nasals.front i lt ∙ h.stops.front i lt ∙ h.sibilants.front i lt ∙ get_or_append_left front ending 0 i lt
