-- One draw more, one stem more and one word more, over plain values.
use Rattle.std.proofs.Common.{◌≡◌, ℕ, zero, suc, ◌+◌, ◌*◌, ◌-◌, ◌<◌, List, [], ◌∷◌, ◌++◌, length, take, get_or, sym, ◌∙◌, ap, arith}
use Rattle.std.specs.Prelude.{codes}
use Rattle.morphology_definitions.specs.Inflection.{without_last}
use Rattle.demo_definitions.specs.Draws.{next_seed, seed_after, drawn_of}
use Rattle.demo_definitions.specs.DrawnStems.{letter_drawn, consonants, vowels, stem_drawn, with_stem, stems_drawn}
use Rattle.demo_definitions.specs.DrawnTexts.{endings, word_drawn, with_word, text_drawn}

-- draws after others are all of them
seeds_added : (seed before count : ℕ) → seed_after (seed_after seed before) count ≡ seed_after seed (before + count)
unfolding seed_after
seeds_added seed before zero = ap (seed_after seed) (omega arith)
seeds_added seed before (suc count) =
    ap next_seed (seeds_added seed before count) ∙ sym (ap (seed_after seed) (let e : before + suc count ≡ suc (before + count) = omega arith in e))

-- so many draws more, for one thing more that takes as many
pub seeds_more : (seed each count now next : ℕ) → now ≡ seed_after seed (each * count) → next ≡ seed_after now each
    → next ≡ seed_after seed (each * (count + 1))
seeds_more seed each count now next was is =
    is ∙ ap (λ (s : ℕ). seed_after s each) was ∙ seeds_added seed (each * count) each ∙ ap (seed_after seed) (omega arith)

pub two_draws : (seed now next : ℕ) → now ≡ next_seed seed → next ≡ next_seed now → next ≡ seed_after seed 2
unfolding seed_after
two_draws seed now next e f = f ∙ ap next_seed e

-- five letters are a stem
module _ (seed second third fourth fifth after : ℕ) (e : second ≡ next_seed seed) (f : third ≡ next_seed second) (g : fourth ≡ next_seed third)
    (h : fifth ≡ next_seed fourth) (k : after ≡ next_seed fifth) where
  third_is : third ≡ seed_after seed 2
  third_is = two_draws seed second third e f

  fourth_is : fourth ≡ seed_after seed 3
  unfolding seed_after
  fourth_is = g ∙ ap next_seed third_is

  fifth_is : fifth ≡ seed_after seed 4
  unfolding seed_after
  fifth_is = h ∙ ap next_seed fourth_is

  pub five_draws : after ≡ seed_after seed 5
  unfolding seed_after
  five_draws = k ∙ ap next_seed fifth_is

  pub letters_of_stem : (a b c d l : ℕ) → a ≡ letter_drawn consonants seed → b ≡ letter_drawn vowels second → c ≡ letter_drawn consonants third
      → d ≡ letter_drawn vowels fourth → l ≡ letter_drawn consonants fifth → a ∷ b ∷ c ∷ d ∷ l ∷ 97 ∷ [] ≡ stem_drawn seed
  unfolding stem_drawn seed_after
  letters_of_stem a b c d l is_a is_b is_c is_d is_l =
      let b_is = is_b ∙ ap (letter_drawn vowels) e in
      let c_is = is_c ∙ ap (letter_drawn consonants) third_is in
      let d_is = is_d ∙ ap (letter_drawn vowels) fourth_is in
      let l_is = is_l ∙ ap (letter_drawn consonants) fifth_is in
      λ i. is_a i ∷ b_is i ∷ c_is i ∷ d_is i ∷ l_is i ∷ 97 ∷ []

-- one stem more
pub stems_more : (seed count now : ℕ) (before after : List (List ℕ)) (stem : List ℕ) → now ≡ seed_after seed (5 * count) → before ≡ stems_drawn seed count
    → stem ≡ stem_drawn now → after ≡ with_stem before stem → after ≡ stems_drawn seed (count + 1)
unfolding stems_drawn
stems_more seed count now before after stem at was is added =
    added ∙ (λ i. with_stem (was i) ((is ∙ ap stem_drawn at) i))
    ∙ ap (stems_drawn seed) (let e : suc count ≡ count + 1 = omega arith in e)

-- one word more
pub words_more : (stems : List (List ℕ)) (seed count now : ℕ) (before after word : List ℕ) → now ≡ seed_after seed (2 * count)
    → before ≡ text_drawn stems seed count → word ≡ word_drawn stems now → after ≡ with_word before word → after ≡ text_drawn stems seed (count + 1)
unfolding text_drawn
words_more stems seed count now before after word at was is added =
    added ∙ (λ i. with_word (was i) ((is ∙ ap (word_drawn stems) at) i))
    ∙ ap (text_drawn stems seed) (let e : suc count ≡ count + 1 = omega arith in e)

-- four values that are the endings, by number
pub four_endings : {X : Type 0} (value : X → List ℕ) (a b c d none : X) → value a ≡ codes "aH" → value b ≡ codes "ena" → value c ≡ codes "Aya"
    → value d ≡ codes "e" → (number : ℕ) → number < 4 → value (get_or (a ∷ b ∷ c ∷ d ∷ []) number none) ≡ get_or endings number []
four_endings value a b c d none is_a is_b is_c is_d zero below = is_a
four_endings value a b c d none is_a is_b is_c is_d (suc zero) below = is_b
four_endings value a b c d none is_a is_b is_c is_d (suc (suc zero)) below = is_c
four_endings value a b c d none is_a is_b is_c is_d (suc (suc (suc zero))) below = is_d
four_endings value a b c d none is_a is_b is_c is_d (suc (suc (suc (suc number)))) below = absurd (omega arith)

-- a word is put together
pub word_made : (stems : List (List ℕ)) (seed now at number : ℕ) (base ending word : List ℕ) → at ≡ drawn_of (length stems) seed → now ≡ next_seed seed
    → number ≡ drawn_of 4 now → length (get_or stems at []) ≡ 6 → base ≡ take 5 (get_or stems at []) → ending ≡ get_or endings number []
    → word ≡ base ++ ending → word ≡ word_drawn stems seed
unfolding word_drawn
word_made stems seed now at number base ending word place next choice six front end put =
    let cut : 5 ≡ length (get_or stems at []) - 1 = omega arith in
    let base_is : base ≡ without_last 1 (get_or stems (drawn_of (length stems) seed) []) =
    front ∙ ap (λ (n : ℕ). take n (get_or stems at [])) cut ∙ ap (λ (k : ℕ). without_last 1 (get_or stems k [])) place in
    let ending_is : ending ≡ get_or endings (drawn_of 4 (next_seed seed)) [] =
    end ∙ ap (λ (k : ℕ). get_or endings k []) (choice ∙ ap (drawn_of 4) next) in
    put ∙ (λ i. base_is i ++ ending_is i)
