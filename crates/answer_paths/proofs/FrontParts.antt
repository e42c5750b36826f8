-- Lists of steps that are cut in two, or have one step more: what is covered, placed, entered and tested, by recursion on
-- the first part.
use Rattle.std.proofs.Common.{◌≡◌, ◌≢◌, ℕ, ◌+◌, ◌≤◌, Bool, true, false, List, [], ◌∷◌, ◌++◌, length, map, drop, All, inl, inr, refl, sym, ap, ◌∙◌, length-append, arith}
use Rattle.std.specs.List.{AllByRecursion}
use Rattle.std.proofs.lemmas.List.{map-append, drop_at}
use Rattle.lexicon_definitions.specs.Lexicons.{RuleSet}
use Rattle.segmentation_definitions.specs.Derivations.{Step, rule_after, AreJoined, Covers}
use Rattle.segmentation_definitions.specs.Items.{Placed, Choice, placed, placed_from, covered_from, next_at}
use Rattle.segmentation_definitions.specs.Listings.{key_of, keys_of}
use Rattle.segmentation_definitions.specs.LocalTests.{HasNoBlankAfterLast, AllAllow}
use Rattle.segmentation_definitions.specs.Configurations.{Entrance, Start, Plain, Lead, entrance_after, entrance_after_step, GoesOn}
use Rattle.segmentation_definitions.proofs.Fronts.{lead_after, covered, placed-append, lead_of, lead_of_entrance, no_start_after}
use Rattle.segmentation_definitions.proofs.KeyLists.{key_at, same_cons}
use Rattle.answer_paths.specs.Fronts.{supplied}
use Rattle.answer_paths.specs.Following.{is_start}

-- ---- lists

pub all_left : {A : Type 0} (P : A → Type 0) (xs ys : List A) → AllByRecursion P (xs ++ ys) → AllByRecursion P xs
all_left P [] ys h = tt
all_left P (x ∷ xs) ys h = (h.0, all_left P xs ys h.1)

pub same_last : {A : Type 0} (xs : List A) (a b : A) → xs ++ a ∷ [] ≡ xs ++ b ∷ [] → a ≡ b
same_last [] a b e = (same_cons a b [] [] e).0
same_last (x ∷ xs) a b e = same_last xs a b (same_cons x x (xs ++ a ∷ []) (xs ++ b ∷ []) e).1

-- ---- what is covered, and the lead, the entrance and the keys after the steps

pub covered-append : (rules : RuleSet) (start : ℕ) (lead : List ℕ) (left right : List Step)
    → covered_from rules start lead (left ++ right) ≡ covered_from rules (covered_from rules start lead left) (lead_after rules lead left) right
covered-append rules start lead [] right = refl
covered-append rules start lead (step ∷ left) right =
    covered-append rules (next_at rules start lead step) (rule_after rules step).v left right

pub lead-append : (rules : RuleSet) (lead : List ℕ) (left : List Step) (step : Step)
    → lead_after rules lead (left ++ step ∷ []) ≡ (rule_after rules step).v
lead-append rules lead [] step = refl
lead-append rules lead (first ∷ left) step = lead-append rules (rule_after rules first).v left step

pub entrance-append : (rules : RuleSet) (entrance : Entrance) (left right : List Step)
    → entrance_after rules entrance (left ++ right) ≡ entrance_after rules (entrance_after rules entrance left) right
entrance-append rules entrance [] right = refl
entrance-append rules entrance (step ∷ left) right = entrance-append rules (entrance_after_step rules step) left right

pub supplied_after : (rules : RuleSet) (front : List Step) → lead_after rules [] front ≡ supplied (entrance_after rules Start front)
supplied_after rules front = lead_of_entrance rules Start front ∙ sym (same (entrance_after rules Start front))
  where
    same : (entrance : Entrance) → supplied entrance ≡ lead_of entrance
    same Start = refl
    same (Plain letter) = refl
    same (Lead v after) = refl

pub keys-append : (rules : RuleSet) (front : List Step) (step : Step)
    → keys_of rules (front ++ step ∷ []) ≡ keys_of rules front ++ key_at rules (lead_after rules [] front) step ∷ []
keys-append rules front step =
    ap (map key_of) (placed-append rules 0 [] front (step ∷ []))
    ∙ map-append key_of (placed rules front) (placed_from rules (covered_from rules 0 [] front) (lead_after rules [] front) (step ∷ []))

-- what is left of the word after steps that cover a front of it
pub record IsLeft (rules : RuleSet) (front : List Step) (word rest : List ℕ) : Type 0 where
  pub all : covered_from rules 0 [] front + length rest ≡ length word
  pub is : rest ≡ drop (covered_from rules 0 [] front) word

pub left_after : (rules : RuleSet) (front : List Step) (word rest : List ℕ) → Covers rules [] front word rest → IsLeft rules front word rest
left_after rules front word rest covers =
    let c = covered rules 0 [] front word rest covers in
    let at = covered_from rules 0 [] front in
    let count : length c.front ≡ at = omega (arith, c.count) in
    record {
      all = omega (arith, c.count, ap length c.word_is, length-append c.front rest);
      is = sym (ap (drop at) c.word_is ∙ drop_at c.front rest at count);
    }

-- ---- how steps are joined

pub joined_left : (rules : RuleSet) (left right : List Step) → AreJoined rules (left ++ right) → AreJoined rules left
joined_left rules [] right h = tt
joined_left rules (step ∷ []) right h = tt
joined_left rules (step ∷ next ∷ left) right h = (h.0, joined_left rules (next ∷ left) right h.1)

pub joined_right : (rules : RuleSet) (left right : List Step) → AreJoined rules (left ++ right) → AreJoined rules right
joined_right rules [] right h = h
joined_right rules (step ∷ []) [] h = tt
joined_right rules (step ∷ []) (next ∷ right) h = h.1
joined_right rules (step ∷ next ∷ left) right h = joined_right rules (next ∷ left) right h.1

-- steps that meet a further one may go on
pub goes_on_left : (rules : RuleSet) (left : List Step) (next : Step) (steps : List Step) → AreJoined rules (left ++ next ∷ steps) → GoesOn rules left
goes_on_left rules [] next steps h = tt
goes_on_left rules (step ∷ []) next steps h = elim h.0 [ inl plain ↦ inl plain.0 | inr inner ↦ inr inner.0 ]
goes_on_left rules (step ∷ second ∷ left) next steps h = goes_on_left rules (second ∷ left) next steps h.1

pub goes_on_last : (rules : RuleSet) (left : List Step) (step : Step) → GoesOn rules (left ++ step ∷ []) → GoesOn rules (step ∷ [])
goes_on_last rules [] step h = h
goes_on_last rules (first ∷ []) step h = h
goes_on_last rules (first ∷ second ∷ left) step h = goes_on_last rules (second ∷ left) step h

pub goes_on_join : (rules : RuleSet) (left : List Step) (step : Step) → GoesOn rules (step ∷ []) → GoesOn rules (left ++ step ∷ [])
goes_on_join rules [] step h = h
goes_on_join rules (first ∷ []) step h = h
goes_on_join rules (first ∷ second ∷ left) step h = goes_on_join rules (second ∷ left) step h

-- ---- tests

-- what stands after some steps is not first
abbrev pub first_after : Bool → List Placed → Bool
first_after is_first [] = is_first
first_after is_first (p ∷ ps) = false

module _ (rules : RuleSet) (letters : ℕ) (choices : List Choice) where
  pub allow_split : (is_first : Bool) (ps qs : List Placed) → AllAllow rules letters choices is_first (ps ++ qs)
      → AllAllow rules letters choices is_first ps × AllAllow rules letters choices (first_after is_first ps) qs
  allow_split is_first [] qs h = (tt, h)
  allow_split is_first (p ∷ []) qs h = ((h.0, tt), h.1)
  allow_split is_first (p ∷ second ∷ ps) qs h = let rest = allow_split false (second ∷ ps) qs h.1 in ((h.0, rest.0), rest.1)

  pub allow_join : (is_first : Bool) (ps qs : List Placed) → AllAllow rules letters choices is_first ps
      → AllAllow rules letters choices (first_after is_first ps) qs → AllAllow rules letters choices is_first (ps ++ qs)
  allow_join is_first [] qs h k = k
  allow_join is_first (p ∷ []) qs h k = (h.0, k)
  allow_join is_first (p ∷ second ∷ ps) qs h k = (h.0, allow_join false (second ∷ ps) qs h.1 k)

-- whether a step after these is the first is told by the entrance
pub first_by_entrance : (rules : RuleSet) (front : List Step) → first_after true (placed rules front) ≡ is_start (entrance_after rules Start front)
first_by_entrance rules [] = refl
first_by_entrance rules (step ∷ front) = sym (not_start (entrance_after rules Start (step ∷ front)) (no_start_after rules step front))
  where
    not_start : (entrance : Entrance) → entrance ≢ Start → is_start entrance ≡ false
    not_start Start some = absurd (some refl)
    not_start (Plain letter) some = refl
    not_start (Lead v after) some = refl

pub blanks_before_last : (blanks : List ℕ) (ps : List Placed) (p : Placed) → HasNoBlankAfterLast blanks (ps ++ p ∷ []) → All (λ blank. blank ≤ p.at) blanks
blanks_before_last blanks [] p h = h
blanks_before_last blanks (first ∷ []) p h = h
blanks_before_last blanks (first ∷ second ∷ ps) p h = blanks_before_last blanks (second ∷ ps) p h

pub no_blank_after_last : (blanks : List ℕ) (ps : List Placed) (p : Placed) → All (λ blank. blank ≤ p.at) blanks → HasNoBlankAfterLast blanks (ps ++ p ∷ [])
no_blank_after_last blanks [] p h = h
no_blank_after_last blanks (first ∷ []) p h = h
no_blank_after_last blanks (first ∷ second ∷ ps) p h = no_blank_after_last blanks (second ∷ ps) p h
