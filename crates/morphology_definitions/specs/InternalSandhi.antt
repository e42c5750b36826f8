-- Internal sandhi: how the letters of an ending change where it is joined to a front.
-- After Whitney, Sanskrit Grammar, sections 180 to 197, in this project's own profile: three steps, each over the word that the one before gave.
use Rattle.std.specs.Prelude.{◌≡◌, ◌≢◌, ℕ, ◌+◌, ◌-◌, ◌<◌, ◌≤◌, ◌⊎◌, ◌==◌, if◌then◌else◌, List, ◌++◌, length, slice_index}
use Rattle.text_definitions.specs.Letters.{IsVowel, IsMark, IsGuttural, IsLabial, IsBreath}

-- letters by their codes, with the names that SLP1 has for them
abbrev pub letter_a : ℕ
letter_a = 1

abbrev pub letter_A : ℕ
letter_A = 2

abbrev pub letter_f : ℕ
letter_f = 7

abbrev pub letter_F : ℕ
letter_F = 8

abbrev pub letter_M : ℕ
letter_M = 14

abbrev pub letter_H : ℕ
letter_H = 16

abbrev pub letter_k : ℕ
letter_k = 17

abbrev pub letter_w : ℕ
letter_w = 27

abbrev pub letter_W : ℕ
letter_W = 28

abbrev pub letter_R : ℕ
letter_R = 31

abbrev pub letter_t : ℕ
letter_t = 32

abbrev pub letter_T : ℕ
letter_T = 33

abbrev pub letter_n : ℕ
letter_n = 36

abbrev pub letter_m : ℕ
letter_m = 41

abbrev pub letter_y : ℕ
letter_y = 42

abbrev pub letter_r : ℕ
letter_r = 43

abbrev pub letter_v : ℕ
letter_v = 45

abbrev pub letter_z : ℕ
letter_z = 47

abbrev pub letter_s : ℕ
letter_s = 48

-- the new word is the old one but for the letters of the ending that turn: a letter that turns becomes what `turned` gives for it
pub record TurnsFrom (start : ℕ) (Turns : ℕ → Type 0) (turned : ℕ → ℕ) (old new : List ℕ) : Type 0 where
  pub same_length : length new ≡ length old
  pub front : (i : ℕ) → i < start → slice_index new i ≡ slice_index old i
  pub turns : (i : ℕ) → start ≤ i → Turns i → slice_index new i ≡ turned (slice_index old i)
  pub stays : (i : ℕ) → ¬ Turns i → slice_index new i ≡ slice_index old i

-- the letters after which s turns: every vowel but a and A, and k and r (Whitney 180)
abbrev pub TurnsNextSibilant : ℕ → Type 0
TurnsNextSibilant n = (IsVowel n × (n ≢ letter_a) × (n ≢ letter_A)) ⊎ (n ≡ letter_k) ⊎ (n ≡ letter_r)

-- an anusvara or a visarga between does not keep s from turning (Whitney 183)
abbrev pub LetsSibilantTurn : ℕ → Type 0
LetsSibilantTurn n = (n ≡ letter_M) ⊎ (n ≡ letter_H)

-- s does not turn before r, f and F (Whitney 181)
abbrev pub KeepsSibilant : ℕ → Type 0
KeepsSibilant n = (n ≡ letter_r) ⊎ (n ≡ letter_f) ⊎ (n ≡ letter_F)

-- the letter to the left of a place turns s: the letter just before, or the one before an M or H that stands just before
abbrev pub IsAfterTurner : List ℕ → ℕ → Type 0
IsAfterTurner word i =
    ((1 ≤ i) × TurnsNextSibilant (slice_index word (i - 1)))
    ⊎ ((2 ≤ i) × LetsSibilantTurn (slice_index word (i - 1)) × TurnsNextSibilant (slice_index word (i - 2)))

-- the letter at a place is an s that turns: it is not the last letter, and what stands to its left and its right lets it (Whitney 180 to 184)
pub record IsTurningSibilant (word : List ℕ) (i : ℕ) : Type 0 where
  pub sibilant : slice_index word i ≡ letter_s
  pub not_last : i + 1 < length word
  pub right : ¬ KeepsSibilant (slice_index word (i + 1))
  pub left : IsAfterTurner word i

-- the first step: in the ending each s that turns becomes z, all at once
abbrev pub TurnsSibilants : ℕ → List ℕ → List ℕ → Type 0
TurnsSibilants start old new = TurnsFrom start (IsTurningSibilant old) (λ _. letter_z) old new

-- the letter at a place is a t or T with z just before it (Whitney 197)
pub record IsTurningStop (word : List ℕ) (i : ℕ) : Type 0 where
  pub stop : (slice_index word i ≡ letter_t) ⊎ (slice_index word i ≡ letter_T)
  pub not_first : 1 ≤ i
  pub after_z : slice_index word (i - 1) ≡ letter_z

-- the second step: in the ending each t that turns becomes w, and each T that turns becomes W
abbrev pub TurnsStops : ℕ → List ℕ → List ℕ → Type 0
TurnsStops start old new =
    TurnsFrom start (IsTurningStop old) (λ n. if n == letter_t then letter_w else letter_W) old new

-- the letters that turn a later n: z r f F (Whitney 189)
abbrev pub TurnsLaterNasal : ℕ → Type 0
TurnsLaterNasal n = (n ≡ letter_z) ⊎ (n ≡ letter_r) ⊎ (n ≡ letter_f) ⊎ (n ≡ letter_F)

-- the letters across which n still turns: vowels, marks, gutturals, labials, y, v and h (Whitney 189)
abbrev pub LetsNasalTurn : ℕ → Type 0
LetsNasalTurn n =
    IsVowel n ⊎ IsMark n ⊎ IsGuttural n ⊎ IsLabial n ⊎ IsBreath n ⊎ (n ≡ letter_y) ⊎ (n ≡ letter_v)

-- the letters before which n turns: vowels and n, m, y, v (Whitney 189)
abbrev pub FollowsTurningNasal : ℕ → Type 0
FollowsTurningNasal n =
    IsVowel n ⊎ (n ≡ letter_n) ⊎ (n ≡ letter_m) ⊎ (n ≡ letter_y) ⊎ (n ≡ letter_v)

-- a letter that turns n stands before the place, in the old word, and across all letters between, in the new word, n still turns
pub record IsReached (old new : List ℕ) (i : ℕ) : Type 0 where
  pub place : ℕ
  pub before : place < i
  pub turner : TurnsLaterNasal (slice_index old place)
  pub between : (l : ℕ) → place < l → l < i → LetsNasalTurn (slice_index new l)

-- the letter before the place is an n of the ending that has become R
pub record IsAfterTurned (start : ℕ) (old new : List ℕ) (i : ℕ) : Type 0 where
  pub in_ending : start < i
  pub was : slice_index old (i - 1) ≡ letter_n
  pub is_now : slice_index new (i - 1) ≡ letter_R

-- the letter at a place is an n that turns: after a turned n, or reached from before where a letter stands next that lets it turn (Whitney 189)
abbrev pub IsTurningNasal : ℕ → List ℕ → List ℕ → ℕ → Type 0
IsTurningNasal start old new i =
    (slice_index old i ≡ letter_n)
    × (IsAfterTurned start old new i ⊎ (FollowsTurningNasal (slice_index old (i + 1)) × IsReached old new i))

-- the third step, from left to right: in the ending each n that turns becomes R
abbrev pub TurnsNasals : ℕ → List ℕ → List ℕ → Type 0
TurnsNasals start old new = TurnsFrom start (IsTurningNasal start old new) (λ _. letter_R) old new

-- the word that internal sandhi makes of a front and an ending, through the two words in between
pub record IsJoined (front ending result : List ℕ) : Type 0 where
  pub after_sibilants : List ℕ
  pub after_stops : List ℕ
  pub sibilants : TurnsSibilants (length front) (front ++ ending) after_sibilants
  pub stops : TurnsStops (length front) after_sibilants after_stops
  pub nasals : TurnsNasals (length front) after_stops result
