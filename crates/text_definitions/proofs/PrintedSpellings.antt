-- What is printed with separators is read as the same word: by induction on the word, since each spelling is the longest where it stands.
use Rattle.std.proofs.Common.{◌≡◌, ℕ, ◌+◌, ◌<◌, ◌≤◌, Bool, true, false, cond, List, [], ◌∷◌, ◌++◌, length, Option, Some, None, Ok, is_some, length-append, append-nil, arith, ap, ◌∙◌, refl}
use Rattle.std.proofs.Math.Seq.{drop-append_seam}
use Rattle.std.specs.List.{AllByRecursion}
use Rattle.text_definitions.specs.Letters.{IsLetter}
use Rattle.text_definitions.specs.Spellings.{with_letter}
use Rattle.text_definitions.specs.Longest.{word_at, word_of_spellings, has_length, gap_before, spellings_of_word}
use Rattle.text_definitions.proofs.Longest.{at_front}

-- each letter's spelling is the longest at the front, alone and before the next letter, and no spelling begins with the separator
pub record Separates (front : List ℕ → Option (ℕ × ℕ)) (spelling : ℕ → List ℕ) : Type 0 where
  pub never : (rest : List ℕ) → front (95 ∷ rest) ≡ None
  pub some : (n : ℕ) → IsLetter n → 0 < length (spelling n)
  pub alone : (n : ℕ) → IsLetter n → front (spelling n) ≡ Some (n, length (spelling n))
  pub before : (n m : ℕ) (rest : List ℕ) → IsLetter n → IsLetter m → front (spelling n ++ (gap_before front spelling (Some n) m ++ spelling m ++ rest)) ≡ Some (n, length (spelling n))

module _ (front : List ℕ → Option (ℕ × ℕ)) (spelling : ℕ → List ℕ) (separates : Separates front spelling) where
  begins : (n : ℕ) (word : List ℕ) → IsLetter n → AllByRecursion IsLetter word → front (spelling n ++ spellings_of_word front spelling (Some n) word) ≡ Some (n, length (spelling n))
  begins n [] l ls = ap front (append-nil (spelling n)) ∙ separates.alone n l
  begins n (m ∷ word) l ls = separates.before n m (spellings_of_word front spelling (Some m) word) l ls.0

  -- the spelling of a letter with what follows is read as the letter with what that spells
  first_letter : (place n : ℕ) (word : List ℕ) (spelled : Bool) → IsLetter n → AllByRecursion IsLetter word → word_of_spellings front (place + length (spelling n)) 0 true (spellings_of_word front spelling (Some n) word) ≡ Ok word → word_of_spellings front place 0 spelled (spelling n ++ spellings_of_word front spelling (Some n) word) ≡ Ok (n ∷ word)
  first_letter place n word spelled l ls reads =
      let rest = spellings_of_word front spelling (Some n) word in
      let fits : length (spelling n) ≤ length (spelling n ++ rest) = omega (arith, length-append (spelling n) rest) in
      at_front front place (spelling n ++ rest) (n, length (spelling n)) spelled (begins n word l ls) (separates.some n l) fits
      ∙ ap (λ t. with_letter n (word_of_spellings front (place + length (spelling n)) 0 true t)) (drop-append_seam (spelling n) rest)
      ∙ ap (with_letter n) reads

  -- the same, whether it comes after a separator or not
  following_gap : (gap : Bool) (place n : ℕ) (word : List ℕ) → IsLetter n → AllByRecursion IsLetter word → ((p : ℕ) → word_of_spellings front p 0 true (spellings_of_word front spelling (Some n) word) ≡ Ok word) → word_of_spellings front place 0 true (cond gap [] (95 ∷ []) ++ spelling n ++ spellings_of_word front spelling (Some n) word) ≡ Ok (n ∷ word)
  following_gap true place n word l ls reads = first_letter place n word true l ls (reads _)
  following_gap false place n word l ls reads =
      let rest = spelling n ++ spellings_of_word front spelling (Some n) word in
      let following = λ (inside : ℕ) (after : Bool). word_of_spellings front (place + 1) inside after rest in
      ap (λ f. word_at place f (is_some (front rest)) following) (separates.never rest)
      ∙ ap (λ f. word_at place None (is_some f) following) (begins n word l ls)
      ∙ first_letter (place + 1) n word false l ls (reads _)

  after_letter : (place previous : ℕ) (word : List ℕ) → AllByRecursion IsLetter word → word_of_spellings front place 0 true (spellings_of_word front spelling (Some previous) word) ≡ Ok word
  after_letter place previous [] ls = refl
  after_letter place previous (n ∷ word) ls =
      following_gap (has_length (front (spelling previous ++ spelling n)) (length (spelling previous))) place n word ls.0 ls.1 (λ p. after_letter p n word ls.1)

  pub printed_is_read : (word : List ℕ) → AllByRecursion IsLetter word → word_of_spellings front 0 0 false (spellings_of_word front spelling None word) ≡ Ok word
  printed_is_read [] ls = refl
  printed_is_read (n ∷ word) ls = first_letter 0 n word false ls.0 ls.1 (after_letter _ n word ls.1)
