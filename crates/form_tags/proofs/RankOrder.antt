-- Two of some words are ordered as their ranks among these are, and so tags are ordered as the ranks of their words.
use Rattle.std.proofs.Common.{◌≡◌, ℕ, ◌<◌, ◌≤◌, List, [], ◌∷◌, cond, refl, ap, sym, ◌∙◌, arith, ⊎_elim}
use Rattle.std.specs.declared.cmp.Ordering.{Ordering}
use Rattle.std.specs.declared.cmp.Ordering.TheVariants.{Less, Equal, Greater}
use Rattle.std.specs.Ordering.{nat_cmp, is_lt, ordering_then, ordering_reverse}
use Rattle.std.specs.Cmp.Lexicographic.{slice_cmp}
use Rattle.std.specs.Cmp.{nat_cmp_is}
use Rattle.std.proofs.lemmas.Cmp.{nat_list_cmp_total, tied_itself}
use Rattle.std.proofs.lemmas.Map.Lookups.{exact_bytes}
use Rattle.lexicon_definitions.specs.Tags.{IsOneOf, genders, numbers, cases, tenses, voices, persons}
use Rattle.form_tags.specs.declared.gender.Gender.{Gender}
use Rattle.form_tags.specs.declared.number.Number.{Number}
use Rattle.form_tags.specs.declared.case.Case.{Case}
use Rattle.form_tags.specs.declared.tense.Tense.{Tense}
use Rattle.form_tags.specs.declared.voice.Voice.{Voice}
use Rattle.form_tags.specs.declared.person.Person.{Person}
use Rattle.form_tags.specs.declared.tag.Tag.TheVariants.{Nominal, Verbal}
use Rattle.form_tags.specs.TagTexts.{tag_text, gender_text, number_text, case_text, tense_text, voice_text, person_text}
use Rattle.form_tags.specs.Ranks.{rank_among}
use Rattle.form_tags.proofs.TagsByText.{gender_text-is, number_text-is, case_text-is, tense_text-is, voice_text-is, person_text-is}
use Rattle.form_tags.proofs.TagOrder.{compare_tags, then_equal}

abbrev compare_texts : List ℕ → List ℕ → Ordering
compare_texts left right = slice_cmp nat_cmp left right

-- 1 for a word that is below the text, and else 0
abbrev counted : Ordering → ℕ
counted order = cond (is_lt order) 1 0

counted_rises : (left right : Ordering) → (left ≡ Less → right ≡ Less) → counted left ≤ counted right
counted_rises Less right h = rw (h refl) (omega arith)
counted_rises Equal right h = omega arith
counted_rises Greater right h = omega arith

-- a word below the smaller text is below the larger too
word_counted : (word left right : List ℕ) → compare_texts left right ≡ Less → counted (compare_texts word left) ≤ counted (compare_texts word right)
word_counted word left right h =
    counted_rises (compare_texts word left) (compare_texts word right) (λ below. nat_list_cmp_total.trans word left right below h)

rank_rises : (words : List (List ℕ)) (left right : List ℕ) → compare_texts left right ≡ Less → rank_among words left ≤ rank_among words right
rank_rises [] left right h = omega arith
rank_rises (word ∷ words) left right h =
    let first = word_counted word left right h in
    let rest = rank_rises words left right h in
    omega arith

-- one of the words is not below itself, and is below a larger text
rank_less : (words : List (List ℕ)) (left right : List ℕ) → IsOneOf words left → compare_texts left right ≡ Less → rank_among words left < rank_among words right
rank_less [] left right one h = absurd one
rank_less (word ∷ words) left right one h =
    ⊎_elim
    (λ (same : left ≡ word).
    let itself : compare_texts word left ≡ Equal = ap (λ text. compare_texts text left) (sym same) ∙ tied_itself nat_list_cmp_total left in
    let below : compare_texts word right ≡ Less = ap (λ text. compare_texts text right) (sym same) ∙ h in
    let rest = rank_rises words left right h in
    rw (itself, below) (omega arith))
    (λ later.
    let first = word_counted word left right h in
    let rest = rank_less words left right later h in
    omega arith)
    one

-- the order of two texts' ranks
abbrev compare_ranks : List (List ℕ) → List ℕ → List ℕ → Ordering
compare_ranks words left right = nat_cmp (rank_among words left) (rank_among words right)

by_rank : (words : List (List ℕ)) (left right : List ℕ) → IsOneOf words left → IsOneOf words right → compare_texts left right ≡ compare_ranks words left right
by_rank words left right one other = by (compare_texts left right) refl
  where
    by : (order : Ordering) → compare_texts left right ≡ order → order ≡ compare_ranks words left right
    by Less e = nat_cmp_is _ _ Less (rank_less words left right one e)
    by Equal e = nat_cmp_is _ _ Equal (ap (rank_among words) (exact_bytes left right e))
    by Greater e = nat_cmp_is _ _ Greater (rank_less words right left other (nat_list_cmp_total.antisymm right left ∙ ap ordering_reverse e))

-- tags of nouns are ordered as the ranks of their words, one after the other
pub compare_nominals : (gender : Gender) (number : Number) (gcase : Case) (other_gender : Gender) (other_number : Number) (other_gcase : Case)
    → compare_texts (tag_text (Nominal gender number gcase)) (tag_text (Nominal other_gender other_number other_gcase))
    ≡ ordering_then (ordering_then (compare_ranks genders (gender_text gender) (gender_text other_gender)) (compare_ranks numbers (number_text number) (number_text other_number))) (compare_ranks cases (case_text gcase) (case_text other_gcase))
compare_nominals gender number gcase other_gender other_number other_gcase =
    compare_tags (Nominal gender number gcase) (Nominal other_gender other_number other_gcase)
    ∙ then_equal _
    ∙ rw (by_rank genders _ _ (gender_text-is gender) (gender_text-is other_gender), by_rank numbers _ _ (number_text-is number) (number_text-is other_number), by_rank cases _ _ (case_text-is gcase) (case_text-is other_gcase))

-- and so are those of verbs
pub compare_verbals : (tense : Tense) (voice : Voice) (person : Person) (number : Number) (other_tense : Tense) (other_voice : Voice) (other_person : Person) (other_number : Number)
    → compare_texts (tag_text (Verbal tense voice person number)) (tag_text (Verbal other_tense other_voice other_person other_number))
    ≡ ordering_then (ordering_then (ordering_then (compare_ranks tenses (tense_text tense) (tense_text other_tense)) (compare_ranks voices (voice_text voice) (voice_text other_voice))) (compare_ranks persons (person_text person) (person_text other_person))) (compare_ranks numbers (number_text number) (number_text other_number))
compare_verbals tense voice person number other_tense other_voice other_person other_number =
    compare_tags (Verbal tense voice person number) (Verbal other_tense other_voice other_person other_number)
    ∙ rw (by_rank tenses _ _ (tense_text-is tense) (tense_text-is other_tense), by_rank voices _ _ (voice_text-is voice) (voice_text-is other_voice), by_rank persons _ _ (person_text-is person) (person_text-is other_person), by_rank numbers _ _ (number_text-is number) (number_text-is other_number))
