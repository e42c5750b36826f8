-- Texts of words joined by dots are ordered as the words are: a dot is below each byte of a word, so a word that ends first is smaller with what follows too.
use Rattle.std.proofs.Common.{◌≡◌, ℕ, ◌<◌, Bool, true, ◌&&◌, nat_lt, List, [], ◌∷◌, ◌++◌, refl, ap, sym, ◌∙◌, arith, append-nil}
use Rattle.std.specs.declared.cmp.Ordering.{Ordering}
use Rattle.std.specs.declared.cmp.Ordering.TheVariants.{Less, Equal, Greater}
use Rattle.std.specs.Ordering.{nat_cmp, ordering_then}
use Rattle.std.specs.Cmp.Lexicographic.{slice_cmp}
use Rattle.std.specs.Cmp.{nat_cmp_is}
use Rattle.std.proofs.lemmas.Bool.Decides.{nat_tests}
use Rattle.form_tags.specs.declared.gender.Gender.{Gender}
use Rattle.form_tags.specs.declared.gender.Gender.TheVariants.{M, F, N}
use Rattle.form_tags.specs.declared.number.Number.{Number}
use Rattle.form_tags.specs.declared.number.Number.TheVariants.{Sg, Du, Pl}
use Rattle.form_tags.specs.declared.case.Case.{Case}
use Rattle.form_tags.specs.declared.case.Case.TheVariants.{Nom, Acc, Ins, Dat, Abl, Gen, Loc, Voc}
use Rattle.form_tags.specs.declared.tense.Tense.{Tense}
use Rattle.form_tags.specs.declared.tense.Tense.TheVariants.{Pr, Impf, Imp, Opt, Fut, Perf, Aor}
use Rattle.form_tags.specs.declared.voice.Voice.{Voice}
use Rattle.form_tags.specs.declared.voice.Voice.TheVariants.{Ac, Md, Ps}
use Rattle.form_tags.specs.declared.person.Person.{Person}
use Rattle.form_tags.specs.declared.person.Person.TheVariants.{First, Second, Third}
use Rattle.form_tags.specs.declared.tag.Tag.{Tag}
use Rattle.form_tags.specs.declared.tag.Tag.TheVariants.{Nominal, Verbal, Iic, Pv, Ind}
use Rattle.form_tags.specs.TagTexts.{tag_text, gender_text, number_text, case_text, tense_text, voice_text, person_text}
use Rattle.form_tags.specs.TagWords.{tag_words}

abbrev compare_texts : List ℕ → List ℕ → Ordering
compare_texts left right = slice_cmp nat_cmp left right

-- each byte is above a dot
abbrev is_above_dot : List ℕ → Bool
is_above_dot [] = true
is_above_dot (byte ∷ bytes) = nat_lt 46 byte && is_above_dot bytes

-- a word that follows a dot, and nothing where there is no word
abbrev dotted : List ℕ → List ℕ → List ℕ
dotted [] rest = []
dotted (byte ∷ bytes) rest = 46 ∷ ((byte ∷ bytes) ++ rest)

-- what follows a word: nothing, or a dot and more
data IsRest : List ℕ → Type 0 where
  nothing : IsRest []
  more : {rest : List ℕ} → IsRest (46 ∷ rest)

IsRest-dotted : (word rest : List ℕ) → IsRest (dotted word rest)
IsRest-dotted [] rest = nothing
IsRest-dotted (byte ∷ bytes) rest = more

above : (byte : ℕ) (bytes : List ℕ) → is_above_dot (byte ∷ bytes) ≡ true → 46 < byte
above byte bytes h = grind (arith, nat_tests)

above_tail : (byte : ℕ) (bytes : List ℕ) → is_above_dot (byte ∷ bytes) ≡ true → is_above_dot bytes ≡ true
above_tail byte bytes h = grind (arith, nat_tests)

less_than : (byte : ℕ) (bytes : List ℕ) → is_above_dot (byte ∷ bytes) ≡ true → nat_cmp 46 byte ≡ Less
less_than byte bytes h = sym (nat_cmp_is 46 byte Less (above byte bytes h))

greater_than : (byte : ℕ) (bytes : List ℕ) → is_above_dot (byte ∷ bytes) ≡ true → nat_cmp byte 46 ≡ Greater
greater_than byte bytes h = sym (nat_cmp_is byte 46 Greater (above byte bytes h))

-- a dot and more is smaller than a word, and a word is larger
rest_first : (y : ℕ) (ys r : List ℕ) → is_above_dot (y ∷ ys) ≡ true → IsRest r → (tail : List ℕ) → compare_texts r (y ∷ tail) ≡ Less
rest_first y ys r a nothing tail = refl
rest_first y ys r a more tail = rw (less_than y ys a)

rest_second : (x : ℕ) (xs r : List ℕ) → is_above_dot (x ∷ xs) ≡ true → IsRest r → (tail : List ℕ) → compare_texts (x ∷ tail) r ≡ Greater
rest_second x xs r a nothing tail = refl
rest_second x xs r a more tail = rw (greater_than x xs a)

-- what one word decides is decided, and else the rest decides
then_assoc : (a b c : Ordering) → ordering_then a (ordering_then b c) ≡ ordering_then (ordering_then a b) c
then_assoc Less b c = refl
then_assoc Equal b c = refl
then_assoc Greater b c = refl

pub then_equal : (a : Ordering) → ordering_then a Equal ≡ a
then_equal Less = refl
then_equal Equal = refl
then_equal Greater = refl

-- a word and what follows it
compare_first : (w w' r r' : List ℕ) → is_above_dot w ≡ true → is_above_dot w' ≡ true → IsRest r → IsRest r'
    → compare_texts (w ++ r) (w' ++ r') ≡ ordering_then (compare_texts w w') (compare_texts r r')
compare_first [] [] r r' a a' s s' = refl
compare_first [] (y ∷ w') r r' a a' s s' = rest_first y w' r a' s (w' ++ r')
compare_first (x ∷ w) [] r r' a a' s s' = rest_second x w r' a s' (w ++ r)
compare_first (x ∷ w) (y ∷ w') r r' a a' s s' =
    ap (ordering_then (nat_cmp x y)) (compare_first w w' r r' (above_tail x w a) (above_tail y w' a') s s')
    ∙ then_assoc (nat_cmp x y) (compare_texts w w') (compare_texts r r')

-- nothing follows where a word is empty
pub record EndsWith (word rest : List ℕ) : Type 0 where
  pub ends : word ≡ [] → rest ≡ []

-- a word after a dot and what follows it, or nothing
compare_dotted : (w w' r r' : List ℕ) → is_above_dot w ≡ true → is_above_dot w' ≡ true → IsRest r → IsRest r' → EndsWith w r → EndsWith w' r'
    → compare_texts (dotted w r) (dotted w' r') ≡ ordering_then (compare_texts w w') (compare_texts r r')
compare_dotted [] [] r r' a a' s s' e e' = rw (e.ends refl, e'.ends refl)
compare_dotted [] (y ∷ w') r r' a a' s s' e e' = refl
compare_dotted (x ∷ w) [] r r' a a' s s' e e' = refl
compare_dotted (x ∷ w) (y ∷ w') r r' a a' s s' e e' = compare_first (x ∷ w) (y ∷ w') r r' a a' s s'

-- four words, of which those after an empty one are empty
pub record AreWords (a b c d : List ℕ) : Type 0 where
  pub first : is_above_dot a ≡ true
  pub second : is_above_dot b ≡ true
  pub third : is_above_dot c ≡ true
  pub fourth : is_above_dot d ≡ true
  pub after_second : b ≡ [] → c ≡ []
  pub after_third : c ≡ [] → d ≡ []

abbrev text_of_words : List ℕ → List ℕ → List ℕ → List ℕ → List ℕ
text_of_words a b c d = a ++ dotted b (dotted c (dotted d []))

compare_words : (a b c d a' b' c' d' : List ℕ) → AreWords a b c d → AreWords a' b' c' d'
    → compare_texts (text_of_words a b c d) (text_of_words a' b' c' d')
    ≡ ordering_then (ordering_then (ordering_then (compare_texts a a') (compare_texts b b')) (compare_texts c c')) (compare_texts d d')
compare_words a b c d a' b' c' d' h h' =
    let two = dotted c (dotted d []) in
    let two' = dotted c' (dotted d' []) in
    let no_word : (w : List ℕ) → w ≡ [] → (rest : List ℕ) → dotted w rest ≡ [] = λ w e rest. rw e in
    compare_first a a' (dotted b two) (dotted b' two') h.first h'.first (IsRest-dotted b two) (IsRest-dotted b' two')
    ∙ ap (ordering_then (compare_texts a a'))
    (compare_dotted b b' two two' h.second h'.second (IsRest-dotted c (dotted d [])) (IsRest-dotted c' (dotted d' []))
    (record { ends = λ e. no_word c (h.after_second e) (dotted d []) }) (record { ends = λ e. no_word c' (h'.after_second e) (dotted d' []) })
    ∙ ap (ordering_then (compare_texts b b'))
    (compare_dotted c c' (dotted d []) (dotted d' []) h.third h'.third (IsRest-dotted d []) (IsRest-dotted d' [])
    (record { ends = λ e. no_word d (h.after_third e) [] }) (record { ends = λ e. no_word d' (h'.after_third e) [] })
    ∙ ap (ordering_then (compare_texts c c'))
    (compare_dotted d d' [] [] h.fourth h'.fourth nothing nothing (record { ends = λ e. refl }) (record { ends = λ e. refl })
    ∙ then_equal (compare_texts d d'))))
    ∙ then_assoc (compare_texts a a') (compare_texts b b') (ordering_then (compare_texts c c') (compare_texts d d'))
    ∙ then_assoc (ordering_then (compare_texts a a') (compare_texts b b')) (compare_texts c c') (compare_texts d d')

gender_above : (gender : Gender) → is_above_dot (gender_text gender) ≡ true
gender_above M = refl
gender_above F = refl
gender_above N = refl

number_above : (number : Number) → is_above_dot (number_text number) ≡ true
number_above Sg = refl
number_above Du = refl
number_above Pl = refl

case_above : (gcase : Case) → is_above_dot (case_text gcase) ≡ true
case_above Nom = refl
case_above Acc = refl
case_above Ins = refl
case_above Dat = refl
case_above Abl = refl
case_above Gen = refl
case_above Loc = refl
case_above Voc = refl

tense_above : (tense : Tense) → is_above_dot (tense_text tense) ≡ true
tense_above Pr = refl
tense_above Impf = refl
tense_above Imp = refl
tense_above Opt = refl
tense_above Fut = refl
tense_above Perf = refl
tense_above Aor = refl

voice_above : (voice : Voice) → is_above_dot (voice_text voice) ≡ true
voice_above Ac = refl
voice_above Md = refl
voice_above Ps = refl

person_above : (person : Person) → is_above_dot (person_text person) ≡ true
person_above First = refl
person_above Second = refl
person_above Third = refl

number_dotted : (number : Number) (rest : List ℕ) → dotted (number_text number) rest ≡ 46 ∷ (number_text number ++ rest)
number_dotted Sg rest = refl
number_dotted Du rest = refl
number_dotted Pl rest = refl

case_dotted : (gcase : Case) (rest : List ℕ) → dotted (case_text gcase) rest ≡ 46 ∷ (case_text gcase ++ rest)
case_dotted Nom rest = refl
case_dotted Acc rest = refl
case_dotted Ins rest = refl
case_dotted Dat rest = refl
case_dotted Abl rest = refl
case_dotted Gen rest = refl
case_dotted Loc rest = refl
case_dotted Voc rest = refl

voice_dotted : (voice : Voice) (rest : List ℕ) → dotted (voice_text voice) rest ≡ 46 ∷ (voice_text voice ++ rest)
voice_dotted Ac rest = refl
voice_dotted Md rest = refl
voice_dotted Ps rest = refl

person_dotted : (person : Person) (rest : List ℕ) → dotted (person_text person) rest ≡ 46 ∷ (person_text person ++ rest)
person_dotted First rest = refl
person_dotted Second rest = refl
person_dotted Third rest = refl

number_some : (number : Number) → number_text number ≡ [] → ⊥
number_some Sg e = cc
number_some Du e = cc
number_some Pl e = cc

voice_some : (voice : Voice) → voice_text voice ≡ [] → ⊥
voice_some Ac e = cc
voice_some Md e = cc
voice_some Ps e = cc

person_some : (person : Person) → person_text person ≡ [] → ⊥
person_some First e = cc
person_some Second e = cc
person_some Third e = cc

tag_text-words : (tag : Tag) → tag_text tag ≡ text_of_words (tag_words tag).0 (tag_words tag).1 (tag_words tag).2 (tag_words tag).3
tag_text-words (Nominal gender number gcase) = rw (number_dotted number, case_dotted gcase, append-nil (case_text gcase))
tag_text-words (Verbal tense voice person number) = rw (voice_dotted voice, person_dotted person, number_dotted number, append-nil (number_text number))
tag_text-words Iic = refl
tag_text-words Pv = refl
tag_text-words Ind = refl

tag_words-AreWords : (tag : Tag) → AreWords (tag_words tag).0 (tag_words tag).1 (tag_words tag).2 (tag_words tag).3
tag_words-AreWords (Nominal gender number gcase) = record { first = gender_above gender; second = number_above number; third = case_above gcase; fourth = refl; after_second = λ e. absurd (number_some number e); after_third = λ _. refl }
tag_words-AreWords (Verbal tense voice person number) = record { first = tense_above tense; second = voice_above voice; third = person_above person; fourth = number_above number; after_second = λ e. absurd (voice_some voice e); after_third = λ e. absurd (person_some person e) }
tag_words-AreWords Iic = record { first = refl; second = refl; third = refl; fourth = refl; after_second = λ _. refl; after_third = λ _. refl }
tag_words-AreWords Pv = record { first = refl; second = refl; third = refl; fourth = refl; after_second = λ _. refl; after_third = λ _. refl }
tag_words-AreWords Ind = record { first = refl; second = refl; third = refl; fourth = refl; after_second = λ _. refl; after_third = λ _. refl }

-- tags' texts are ordered as their four words, one after the other
pub compare_tags : (left right : Tag) → compare_texts (tag_text left) (tag_text right)
    ≡ (let l = tag_words left in let r = tag_words right in
    ordering_then (ordering_then (ordering_then (compare_texts l.0 r.0) (compare_texts l.1 r.1)) (compare_texts l.2 r.2)) (compare_texts l.3 r.3))
compare_tags left right =
    rw (tag_text-words left, tag_text-words right) (compare_words _ _ _ _ _ _ _ _ (tag_words-AreWords left) (tag_words-AreWords right))
