-- What passed is sound: names of phases, letters of classes and plain pairs, each by induction on the entries.
use Rattle.std.proofs.Common.{◌≡◌, ◌≢◌, ℕ, ◌+◌, ◌<◌, ◌≤◌, Bool, true, false, cond, not, ◌&&◌, nat_lt, Option, Some, None, Ok, Err, List, [], ◌∷◌, ◌++◌, length, map, All, AllPairs, refl, ap, subst, arith, inl, inr}
use Rattle.std.specs.List.{AllByRecursion, Contains, list_any}
use Rattle.std.specs.List.Sorted.{IsStrictlySortedBy}
use Rattle.std.specs.Str.{bytes_eq}
use Rattle.std.proofs.lemmas.Bool.{and_parts, not-true}
use Rattle.std.proofs.lemmas.Bool.Decides.{nat_tests}
use Rattle.std.proofs.lemmas.List.{length_push}
use Rattle.std.proofs.lemmas.List.Elements.{All-push, All-append, All-nil, All-from_recursion, recursion_from_All}
use Rattle.std.proofs.lemmas.List.Quantifiers.{all_pairs_push}
use Rattle.list_laws.specs.RisingSets.{with_elements}
use Rattle.list_laws.proofs.RisingSetLaws.{Contains-with_elements, sorted-with_elements}
use Rattle.list_laws.proofs.Sorted.{All-from_Contains}
use Rattle.toml.specs.Data.{Data, string, Members, get_member}
use Rattle.text_definitions.specs.Letters.{IsLetter}
use Rattle.text_definitions.specs.Words.{IsWord}
use Rattle.text_definitions.specs.Spellings.{Reading}
use Rattle.text_definitions.specs.Slp1.{word_of_slp1}
use Rattle.text_definitions.proofs.SpelledWords.{word_from_read}
use Rattle.lexicon_definitions.specs.declared.limits.TheConstants.{MOST_PHASES}
use Rattle.lexicon_definitions.specs.Lexicons.{IsPhaseName, compare_pairs}
use Rattle.rule_file_definitions.specs.RuleFileFaults.{Phase}
use Rattle.lexicon_definitions.specs.PhaseNames.{is_phase_name}
use Rattle.rule_file_definitions.specs.SoundClasses.{may_come_next, name_phases, read_phases, are_new, different_letters, class_letters, is_sound_class_name, letters_in, letters_named}
use Rattle.list_laws.specs.Cuts.{cut}
use Rattle.rule_file_definitions.specs.PlainEntries.{name_between, side_as, side_letters, pairs_between, pairs_with, pairs_of_sides, pairs_of, with_pairs, add_plain, read_plain}
use Rattle.lexicon_definitions.proofs.NameTests.{name_from_test}
use Rattle.list_laws.proofs.Booleans.{if_passed}
use Rattle.list_laws.proofs.Texts.{none_same}
use Rattle.lexicon_definitions.proofs.PlainPairs.{pairs_total, pairs_exact}

-- ---- phases

pub record AreNamed (names : List (List ℕ)) : Type 0 where
  pub each : All IsPhaseName names
  pub apart : AllPairs (λ left right. left ≢ right) names
  pub few : length names ≤ MOST_PHASES

named_next : (names : List (List ℕ)) (name : List ℕ) → may_come_next names name ≡ true → AreNamed names → AreNamed (names ++ name ∷ [])
unfolding may_come_next
named_next names name t h =
    let parts = and_parts (is_phase_name name && nat_lt (length names) MOST_PHASES) (not (list_any (bytes_eq name) names)) t in
    let first = and_parts (is_phase_name name) (nat_lt (length names) MOST_PHASES) parts.0 in
    let room : length names < MOST_PHASES = let test = first.1 in grind (arith, nat_tests) in
    let new = none_same name names (not-true _ parts.1) in
    record {
      each = All-push IsPhaseName names name h.each (name_from_test name first.0);
      apart = all_pairs_push (λ left right. left ≢ right) names name h.apart new;
      few = omega (arith, length_push names name);
    }

named_from : (names : List (List ℕ)) (number : ℕ) (entries out : List (List ℕ)) → name_phases names number entries ≡ Ok out → AreNamed names
    → AreNamed out × (length names + length entries ≡ length out)
named_from names number [] out e h =
    let same : names ≡ out = cc in
    (subst AreNamed same h, ap (λ (n : ℕ). n) (omega (arith, ap length same)))
named_from names number (name ∷ entries) out e h =
    let passed = if_passed (may_come_next names name) (name_phases (names ++ name ∷ []) (number + 1) entries) (Phase number) out e in
    let later = named_from (names ++ name ∷ []) (number + 1) entries out passed.1 (named_next names name passed.0 h) in
    (later.0, omega (arith, later.1, length_push names name))

-- the phases that are read have names, and there is one
pub named : (entries out : List (List ℕ)) → read_phases entries ≡ Ok out → AreNamed out × (0 < length out)
unfolding read_phases
named [] out e = absurd (cc)
named (name ∷ entries) out e =
    let none : AreNamed [] = record { each = All-nil IsPhaseName; apart = λ i j d l m. absurd (omega arith); few = omega arith } in
    let later = named_from [] 1 (name ∷ entries) out e none in
    (later.0, omega (arith, later.1))

-- ---- letters

abbrev pub AreLetters : Option (List ℕ) → Type 0
AreLetters None = Unit {0}
AreLetters (Some word) = IsWord word × (word ≢ [])

letters_by : (b : Bool) (letter : ℕ) (word : List ℕ) → IsWord (letter ∷ word) → AreLetters (cond b (Some (letter ∷ word)) None)
letters_by true letter word h = (h, λ e. cc)
letters_by false letter word h = tt

different_by : (text : List ℕ) (reading : Reading) → word_of_slp1 text ≡ reading → AreLetters (different_letters reading)
different_by text (Ok []) e = tt
different_by text (Ok (letter ∷ word)) e = letters_by (are_new [] (letter ∷ word)) letter word (word_from_read text (letter ∷ word) e)
different_by text (Err fault) e = tt

class_sound : (text : List ℕ) → AreLetters (class_letters text)
unfolding class_letters
class_sound text = different_by text (word_of_slp1 text) refl

in_sound : (held : Option Data) → AreLetters (letters_in held)
in_sound (Some (string text)) = class_sound text
in_sound held = tt

by_name : (b : Bool) (letters : Option (List ℕ)) → AreLetters letters → AreLetters (cond b letters None)
by_name true letters h = h
by_name false letters h = tt

-- the letters of a class are letters, and there is one
pub named_sound : (classes : Members) (name : List ℕ) → AreLetters (letters_named classes name)
unfolding letters_named
named_sound classes name = by_name (is_sound_class_name name) (letters_in (get_member name classes)) (in_sound (get_member name classes))

-- ---- plain pairs

abbrev pub IsPair : ℕ × ℕ → Type 0
IsPair pair = IsLetter pair.0 × IsLetter pair.1

chosen_sound : (classes : Members) (name : Option (List ℕ)) → AreLetters (elim name as (λ n. Option (List ℕ)) [ None ↦ None | Some n ↦ letters_named classes n ])
chosen_sound classes None = tt
chosen_sound classes (Some name) = named_sound classes name

side_by : (classes : Members) (side : List ℕ) (reading : Reading) → word_of_slp1 side ≡ reading → AreLetters (side_as classes side reading)
side_by classes side (Ok (letter ∷ [])) e = (word_from_read side (letter ∷ []) e, λ e. cc)
side_by classes side (Ok []) e = chosen_sound classes (name_between side)
side_by classes side (Ok (letter ∷ next ∷ word)) e = chosen_sound classes (name_between side)
side_by classes side (Err fault) e = chosen_sound classes (name_between side)

side_sound : (classes : Members) (side : List ℕ) → AreLetters (side_letters classes side)
unfolding side_letters
side_sound classes side = side_by classes side (word_of_slp1 side) refl

row_sound : (x : ℕ) (right : List ℕ) → IsLetter x → AllByRecursion IsLetter right → AllByRecursion IsPair (map (λ y. (x, y)) right)
row_sound x [] l h = tt
row_sound x (y ∷ right) l h = ((l, h.0), row_sound x right l h.1)

between_sound : (left right : List ℕ) → AllByRecursion IsLetter left → IsWord right → All IsPair (pairs_between left right)
between_sound [] right h k = All-nil IsPair
between_sound (x ∷ left) right h k =
    All-append IsPair (map (λ y. (x, y)) right) (pairs_between left right)
    (All-from_recursion IsPair _ (row_sound x right h.0 (recursion_from_All IsLetter right k))) (between_sound left right h.1 k)

abbrev ArePairs : Option (List (ℕ × ℕ)) → Type 0
ArePairs None = Unit {0}
ArePairs (Some pairs) = All IsPair pairs

with_sound : (left right : Option (List ℕ)) → AreLetters left → AreLetters right → ArePairs (pairs_with left right)
with_sound (Some left) (Some right) h k = between_sound left right (recursion_from_All IsLetter left h.0) k.0
with_sound None right h k = tt
with_sound (Some left) None h k = tt

sides_sound : (classes : Members) (sides : Option (List ℕ × List ℕ)) → ArePairs (pairs_of_sides classes sides)
sides_sound classes None = tt
sides_sound classes (Some sides) = with_sound _ _ (side_sound classes sides.0) (side_sound classes sides.1)

pairs_sound : (classes : Members) (entry : List ℕ) → ArePairs (pairs_of classes entry)
unfolding pairs_of
pairs_sound classes entry = sides_sound classes (cut 32 entry)

-- a rising set of pairs of letters
pub record IsPairSet (pairs : List (ℕ × ℕ)) : Type 0 where
  pub letters : All IsPair pairs
  pub rising : IsStrictlySortedBy compare_pairs pairs

all_in : (pairs : List (ℕ × ℕ)) (pair : ℕ × ℕ) → All IsPair pairs → Contains pairs pair → IsPair pair
all_in pairs pair h (k, below, is) = subst IsPair is (h k pair below)

more_pairs : (pairs more : List (ℕ × ℕ)) → IsPairSet pairs → All IsPair more → IsPairSet (with_elements compare_pairs pairs more)
more_pairs pairs more h k = record {
  letters = All-from_Contains IsPair (with_elements compare_pairs pairs more) (λ pair inside.
      elim ((Contains-with_elements pairs_total pairs_exact pairs more pair).0 inside) [
        | inl old ↦ all_in pairs pair h.letters old
        | inr new ↦ all_in more pair k new
      ]);
  rising = sorted-with_elements pairs_total pairs_exact pairs more h.rising;
}

plain_by : (classes : Members) (pairs : List (ℕ × ℕ)) (number : ℕ) (entries : List (List ℕ)) (out : List (ℕ × ℕ)) (more : Option (List (ℕ × ℕ)))
    → ((next : List (ℕ × ℕ)) → add_plain classes next (number + 1) entries ≡ Ok out → IsPairSet next → IsPairSet out)
    → ArePairs more → IsPairSet pairs → with_pairs pairs number more (λ next. add_plain classes next (number + 1) entries) ≡ Ok out → IsPairSet out
plain_by classes pairs number entries out None later k h e = absurd (cc)
plain_by classes pairs number entries out (Some more) later k h e = later (with_elements compare_pairs pairs more) e (more_pairs pairs more h k)

plain_from : (classes : Members) (pairs : List (ℕ × ℕ)) (number : ℕ) (entries : List (List ℕ)) (out : List (ℕ × ℕ))
    → add_plain classes pairs number entries ≡ Ok out → IsPairSet pairs → IsPairSet out
plain_from classes pairs number [] out e h = let same : pairs ≡ out = cc in subst IsPairSet same h
plain_from classes pairs number (entry ∷ entries) out e h =
    plain_by classes pairs number entries out (pairs_of classes entry) (λ next. plain_from classes next (number + 1) entries out) (pairs_sound classes entry) h e

no_pairs : IsPairSet []
unfolding IsStrictlySortedBy
no_pairs = record { letters = All-nil IsPair; rising = tt }

-- the plain pairs that are read are a rising set of pairs of letters
pub paired : (classes : Members) (entries : List (List ℕ)) (out : List (ℕ × ℕ)) → read_plain classes entries ≡ Ok out → IsPairSet out
unfolding read_plain
paired classes entries out e = plain_from classes [] 1 entries out e no_pairs
