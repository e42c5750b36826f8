-- A text falls into a part before a dot and a rest in one way where the part has no dot, and a text without a dot does not.
use Rattle.std.proofs.Common.{◌≡◌, ◌≢◌, ℕ, ◌==◌, ◌&&◌, Bool, true, not, List, [], ◌∷◌, refl, ⊎_elim, arith}
use Rattle.std.proofs.lemmas.List.Elements.{All-cons, All-head, All-tail}
use Rattle.std.proofs.lemmas.Bool.Decides.{nat_tests}
use Rattle.lexicon_definitions.specs.Tags.{IsOneOf, before_dot}
use Rattle.form_tags.specs.Dots.{IsDotless}

pub before_dot-once : (part part' rest rest' : List ℕ) → IsDotless part → IsDotless part' → before_dot part rest ≡ before_dot part' rest' → (part ≡ part') × (rest ≡ rest')
before_dot-once [] [] rest rest' h h' e = (refl, cc)
before_dot-once [] (x ∷ part') rest rest' h h' e = absurd (All-head (λ byte. byte ≢ 46) x part' h' cc)
before_dot-once (x ∷ part) [] rest rest' h h' e = absurd (All-head (λ byte. byte ≢ 46) x part h cc)
before_dot-once (x ∷ part) (y ∷ part') rest rest' h h' e =
    let tail : before_dot part rest ≡ before_dot part' rest' = cc in
    let both = before_dot-once part part' rest rest' (All-tail (λ byte. byte ≢ 46) x part h) (All-tail (λ byte. byte ≢ 46) y part' h') tail in
    let head : x ≡ y = cc in
    (cc, both.1)

pub before_dot-has_dot : (part rest : List ℕ) → IsDotless (before_dot part rest) → ⊥
before_dot-has_dot [] rest h = All-head (λ byte. byte ≢ 46) 46 rest h refl
before_dot-has_dot (x ∷ part) rest h = before_dot-has_dot part rest (All-tail (λ byte. byte ≢ 46) x (before_dot part rest) h)

abbrev is_dotless : List ℕ → Bool
is_dotless [] = true
is_dotless (byte ∷ bytes) = not (byte == 46) && is_dotless bytes

abbrev are_dotless : List (List ℕ) → Bool
are_dotless [] = true
are_dotless (word ∷ words) = is_dotless word && are_dotless words

IsDotless-from_test : (text : List ℕ) → is_dotless text ≡ true → IsDotless text
IsDotless-from_test [] h = λ k d lt. absurd (omega arith)
IsDotless-from_test (byte ∷ bytes) h =
    All-cons (λ b. b ≢ 46) byte bytes (grind (arith, nat_tests)) (IsDotless-from_test bytes (grind (arith, nat_tests)))

-- a word of a table without dots has no dot
pub IsOneOf-dotless : (words : List (List ℕ)) → are_dotless words ≡ true → (text : List ℕ) → IsOneOf words text → IsDotless text
IsOneOf-dotless [] t text h = absurd h
IsOneOf-dotless (word ∷ words) t text h =
    ⊎_elim
    (λ e. rw e (IsDotless-from_test word (grind (arith, nat_tests))))
    (λ later. IsOneOf-dotless words (grind (arith, nat_tests)) text later)
    h
