-- The text has few letters, but some, and each of its bytes is a letter: by induction on the words.
use Rattle.std.proofs.Common.{◌≡◌, ℕ, zero, suc, ◌+◌, ◌*◌, ◌-◌, ◌/◌, ◌^◌, ◌<◌, ◌≤◌, true, ◌&&◌, nat_eq, List, [], ◌∷◌, ◌++◌, length, take, get_or, refl, ap, inl, inr, arith, length-append}
use Rattle.std.specs.Prelude.{codes}
use Rattle.std.specs.List.{AllByRecursion, list_all, ends_with}
use Rattle.std.proofs.lemmas.Bool.{cases_Bool}
use Rattle.std.proofs.lemmas.List.{length-take}
use Rattle.morphology_definitions.specs.Inflection.{without_last}
use Rattle.demo_definitions.specs.declared.limits.TheConstants.{STEM_DRAWS, TEXT_WORDS}
use Rattle.demo_definitions.specs.Draws.{next_seed, seed_after, drawn_of}
use Rattle.demo_definitions.specs.DrawnStems.{stems_of_number}
use Rattle.demo_definitions.specs.DrawnTexts.{endings, word_drawn, begins_voiced, with_word, text_drawn, text_of_number}
use Rattle.demo_definitions.proofs.DemoBytes.{is_demo_byte, all_appended, all_taken, remainder_below}
use Rattle.demo_definitions.proofs.StemTexts.{IsStemText, stems_are_texts, some_drawn}

-- bytes of stems and texts, some but not more than so many
pub record IsText (most : ℕ) (text : List ℕ) : Type 0 where
  pub bytes : list_all is_demo_byte text ≡ true
  pub some : 0 < length text
  pub few : length text ≤ most

pub stem_at : (stems : List (List ℕ)) (at : ℕ) → AllByRecursion IsStemText stems → at < length stems → IsStemText (get_or stems at [])
stem_at [] at all below = absurd (omega arith)
stem_at (stem ∷ stems) zero all below = all.0
stem_at (stem ∷ stems) (suc at) all below = stem_at stems at all.1 (omega arith)

pub ending_at : (at : ℕ) → at < 4 → IsText 3 (get_or endings at [])
ending_at zero below = record { bytes = refl; some = omega arith; few = omega arith }
ending_at (suc zero) below = record { bytes = refl; some = omega arith; few = omega arith }
ending_at (suc (suc zero)) below = record { bytes = refl; some = omega arith; few = omega arith }
ending_at (suc (suc (suc zero))) below = record { bytes = refl; some = omega arith; few = omega arith }
ending_at (suc (suc (suc (suc at)))) below = absurd (omega arith)

-- a word has at most eight letters
stem_and_ending : (stem ending : List ℕ) → IsStemText stem → IsText 3 ending → IsText 8 (without_last 1 stem ++ ending)
stem_and_ending stem ending is end =
    let six : length stem ≡ 6 = ap length is.is in
    let base = take (length stem - 1) stem in
    let five : length base ≡ 5 = omega (arith, length-take (length stem - 1) stem) in
    let some = end.some in
    let few = end.few in
    let both = length-append base ending in
    record {
      bytes = all_appended is_demo_byte base ending (all_taken is_demo_byte (length stem - 1) stem is.bytes) end.bytes;
      some = omega arith;
      few = omega arith;
    }

word_is_text : (stems : List (List ℕ)) (seed : ℕ) → AllByRecursion IsStemText stems → 0 < length stems → IsText 8 (word_drawn stems seed)
unfolding word_drawn
word_is_text stems seed all some =
    stem_and_ending _ _
    (stem_at stems (drawn_of (length stems) seed) all (remainder_below (length stems) (next_seed seed / 2 ^ 33) some))
    (ending_at (drawn_of 4 (next_seed seed)) (remainder_below 4 (next_seed (next_seed seed) / 2 ^ 33) (omega arith)))

one_more : (most : ℕ) (text word : List ℕ) → list_all is_demo_byte text ≡ true → length text ≤ most → IsText 8 word → IsText (most + 9) (with_word text word)
one_more most text word bytes few is =
    let some = is.some in
    let more = is.few in
    let front = take (length text - 2) text in
    let shorter = length-take (length text - 2) text in
    elim (cases_Bool (ends_with nat_eq text (codes "aH") && begins_voiced word)) [
      | inl joined ↦ rw joined (record {
        bytes =
            all_appended is_demo_byte (front ++ codes "o") word
            (all_appended is_demo_byte front (codes "o") (all_taken is_demo_byte (length text - 2) text bytes) refl) is.bytes;
        some = omega (arith, length-append (front ++ codes "o") word);
        few = omega (arith, length-append (front ++ codes "o") word, length-append front (codes "o"));
      })
      | inr apart ↦ rw apart (record {
        bytes = all_appended is_demo_byte text word bytes is.bytes;
        some = omega (arith, length-append text word);
        few = omega (arith, length-append text word);
      })
    ]

module _ (stems : List (List ℕ)) (all : AllByRecursion IsStemText stems) (some : 0 < length stems) where
  words_are : (seed count : ℕ) → (list_all is_demo_byte (text_drawn stems seed count) ≡ true) × (length (text_drawn stems seed count) ≤ 9 * count)
  unfolding text_drawn
  words_are seed zero = (refl, omega arith)
  words_are seed (suc count) =
      let before = words_are seed count in
      let text = one_more (9 * count) (text_drawn stems seed count) (word_drawn stems (seed_after seed (2 * count))) before.0 before.1
      (word_is_text stems (seed_after seed (2 * count)) all some) in
      let few = text.few in
      (text.bytes, omega arith)

  some_words : (seed count : ℕ) → 0 < count → IsText (9 * count) (text_drawn stems seed count)
  unfolding text_drawn
  some_words seed zero more = absurd (omega arith)
  some_words seed (suc count) more =
      let before = words_are seed count in
      let text = one_more (9 * count) (text_drawn stems seed count) (word_drawn stems (seed_after seed (2 * count))) before.0 before.1
      (word_is_text stems (seed_after seed (2 * count)) all some) in
      let few = text.few in
      record { bytes = text.bytes; some = text.some; few = omega arith }

pub text_is : (number : ℕ) → IsText 270 (text_of_number number)
unfolding text_of_number stems_of_number
text_is number =
    some_words (stems_of_number number) (stems_are_texts number).each (some_drawn number STEM_DRAWS (omega arith)) (seed_after number (5 * STEM_DRAWS)) TEXT_WORDS (omega arith)
