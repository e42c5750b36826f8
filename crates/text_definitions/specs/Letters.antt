-- The fifty letters, by their codes, and the groups that they fall into.
-- The letters are those of SLP1 (Scharf and Hyman); the groups are those of the Sanskrit grammarians.
use Rattle.std.specs.Prelude.{ℕ, ◌≤◌}

-- a letter is a number from 1 to 50
abbrev pub IsLetter : ℕ → Type 0
IsLetter n = (1 ≤ n) × (n ≤ 50)

-- the codes 1 to 13 are the vowels: a A i I u U f F x e E o O
abbrev pub IsVowel : ℕ → Type 0
IsVowel n = (1 ≤ n) × (n ≤ 13)

-- 14 to 16 are the marks M ~ H: anusvara, candrabindu, visarga
abbrev pub IsMark : ℕ → Type 0
IsMark n = (14 ≤ n) × (n ≤ 16)

-- 17 to 21 are the gutturals k K g G N
abbrev pub IsGuttural : ℕ → Type 0
IsGuttural n = (17 ≤ n) × (n ≤ 21)

-- 22 to 26 are the palatals c C j J Y
abbrev pub IsPalatal : ℕ → Type 0
IsPalatal n = (22 ≤ n) × (n ≤ 26)

-- 27 to 31 are the linguals w W q Q R
abbrev pub IsLingual : ℕ → Type 0
IsLingual n = (27 ≤ n) × (n ≤ 31)

-- 32 to 36 are the dentals t T d D n
abbrev pub IsDental : ℕ → Type 0
IsDental n = (32 ≤ n) × (n ≤ 36)

-- 37 to 41 are the labials p P b B m
abbrev pub IsLabial : ℕ → Type 0
IsLabial n = (37 ≤ n) × (n ≤ 41)

-- 42 to 45 are the semivowels y r l v
abbrev pub IsSemivowel : ℕ → Type 0
IsSemivowel n = (42 ≤ n) × (n ≤ 45)

-- 46 to 48 are the sibilants S z s
abbrev pub IsSibilant : ℕ → Type 0
IsSibilant n = (46 ≤ n) × (n ≤ 48)

-- 49 is the breath h
abbrev pub IsBreath : ℕ → Type 0
IsBreath n = (49 ≤ n) × (n ≤ 49)

-- 50 is the avagraha
abbrev pub IsAvagraha : ℕ → Type 0
IsAvagraha n = (50 ≤ n) × (n ≤ 50)
