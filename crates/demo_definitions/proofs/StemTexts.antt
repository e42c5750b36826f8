-- Each drawn stem has six letters, and no stem comes twice; by induction on how many are drawn.
use Rattle.std.proofs.Common.{◌≡◌, ℕ, zero, suc, ◌*◌, ◌/◌, ◌^◌, ◌<◌, ◌≤◌, true, false, List, [], ◌∷◌, ◌++◌, length, refl, sym, subst, inl, inr, arith, append_assoc, length-append}
use Rattle.std.specs.List.{AllByRecursion, list_any, list_all}
use Rattle.std.specs.Str.{bytes_eq}
use Rattle.std.proofs.lemmas.Bool.{cases_Bool, and_from}
use Rattle.std.proofs.lemmas.List.{append-nil}
use Rattle.demo_definitions.specs.declared.limits.TheConstants.{STEM_DRAWS}
use Rattle.demo_definitions.specs.Draws.{next_seed, seed_after, drawn_of}
use Rattle.demo_definitions.specs.DrawnStems.{letter_drawn, consonants, vowels, stem_drawn, with_stem, stems_drawn, stems_of_number}
use Rattle.demo_definitions.proofs.DemoBytes.{is_demo_byte, passes_at, remainder_below}

-- six letters that are bytes of stems and texts
pub record IsStemText (stem : List ℕ) : Type 0 where
  pub first : ℕ
  pub second : ℕ
  pub third : ℕ
  pub fourth : ℕ
  pub fifth : ℕ
  pub last : ℕ
  pub is : stem ≡ first ∷ second ∷ third ∷ fourth ∷ fifth ∷ last ∷ []
  pub bytes : list_all is_demo_byte stem ≡ true

consonant : (seed : ℕ) → is_demo_byte (letter_drawn consonants seed) ≡ true
consonant seed = passes_at is_demo_byte consonants (drawn_of (length consonants) seed) refl (remainder_below 10 (next_seed seed / 2 ^ 33) (omega arith))

vowel : (seed : ℕ) → is_demo_byte (letter_drawn vowels seed) ≡ true
vowel seed = passes_at is_demo_byte vowels (drawn_of (length vowels) seed) refl (remainder_below 3 (next_seed seed / 2 ^ 33) (omega arith))

pub drawn_is_text : (seed : ℕ) → IsStemText (stem_drawn seed)
unfolding stem_drawn
drawn_is_text seed = record {
  first = letter_drawn consonants seed;
  second = letter_drawn vowels (seed_after seed 1);
  third = letter_drawn consonants (seed_after seed 2);
  fourth = letter_drawn vowels (seed_after seed 3);
  fifth = letter_drawn consonants (seed_after seed 4);
  last = 97;
  is = refl;
  bytes =
      and_from _ _ (consonant seed)
      (and_from _ _ (vowel (seed_after seed 1))
      (and_from _ _ (consonant (seed_after seed 2))
      (and_from _ _ (vowel (seed_after seed 3)) (and_from _ _ (consonant (seed_after seed 4)) refl))));
}

-- each of these differs from those before it and from the earlier ones
abbrev pub AreNewAfter : List (List ℕ) → List (List ℕ) → Type 0
AreNewAfter earlier [] = Unit {0}
AreNewAfter earlier (stem ∷ stems) = (list_any (bytes_eq stem) earlier ≡ false) × AreNewAfter (earlier ++ stem ∷ []) stems

one_more_new : (earlier stems : List (List ℕ)) (stem : List ℕ) → AreNewAfter earlier stems → list_any (bytes_eq stem) (earlier ++ stems) ≡ false
    → AreNewAfter earlier (stems ++ stem ∷ [])
one_more_new earlier [] stem h new = (subst (λ (before : List (List ℕ)). list_any (bytes_eq stem) before ≡ false) (append-nil earlier) new, tt)
one_more_new earlier (first ∷ stems) stem h new = (
  h.0,
  one_more_new (earlier ++ first ∷ []) stems stem h.1
      (subst (λ (before : List (List ℕ)). list_any (bytes_eq stem) before ≡ false) (sym (append_assoc earlier (first ∷ []) stems)) new),
)

pub all_pushed : (P : List ℕ → Type 0) (stems : List (List ℕ)) (stem : List ℕ) → AllByRecursion P stems → P stem → AllByRecursion P (stems ++ stem ∷ [])
all_pushed P [] stem all here = (here, tt)
all_pushed P (first ∷ stems) stem all here = (all.0, all_pushed P stems stem all.1 here)

-- the stems are as they should be, and at most so many
pub record AreStemTexts (count : ℕ) (stems : List (List ℕ)) : Type 0 where
  pub each : AllByRecursion IsStemText stems
  pub new : AreNewAfter [] stems
  pub few : length stems ≤ count

one_more : (count : ℕ) (stems : List (List ℕ)) (stem : List ℕ) → AreStemTexts count stems → IsStemText stem → AreStemTexts (suc count) (with_stem stems stem)
one_more count stems stem are is = elim (cases_Bool (list_any (bytes_eq stem) stems)) [
  | inl there ↦ rw there (record { each = are.each; new = are.new; few = let few = are.few in omega arith })
  | inr new ↦ rw new (record {
    each = all_pushed IsStemText stems stem are.each is;
    new = one_more_new [] stems stem are.new new;
    few = let few = are.few in omega (arith, length-append stems (stem ∷ []));
  })
]

drawn_are_texts : (seed count : ℕ) → AreStemTexts count (stems_drawn seed count)
unfolding stems_drawn
drawn_are_texts seed zero = record { each = tt; new = tt; few = omega arith }
drawn_are_texts seed (suc count) =
    one_more count (stems_drawn seed count) (stem_drawn (seed_after seed (5 * count))) (drawn_are_texts seed count) (drawn_is_text (seed_after seed (5 * count)))

-- with each stem there is one at least
some_more : (stems : List (List ℕ)) (stem : List ℕ) → 0 < length (with_stem stems stem)
some_more [] stem = omega arith
some_more (first ∷ stems) stem = elim (cases_Bool (list_any (bytes_eq stem) (first ∷ stems))) [
  | inl there ↦ rw there (omega arith)
  | inr new ↦ rw new (omega (arith, length-append (first ∷ stems) (stem ∷ [])))
]

pub some_drawn : (seed count : ℕ) → 0 < count → 0 < length (stems_drawn seed count)
unfolding stems_drawn
some_drawn seed zero some = absurd (omega arith)
some_drawn seed (suc count) some = some_more (stems_drawn seed count) (stem_drawn (seed_after seed (5 * count)))

pub stems_are_texts : (number : ℕ) → AreStemTexts 1000 (stems_of_number number)
unfolding stems_of_number
stems_are_texts number = drawn_are_texts number STEM_DRAWS

pub some_stems : (number : ℕ) → 0 < length (stems_of_number number)
unfolding stems_of_number
some_stems number = some_drawn number STEM_DRAWS (omega arith)
