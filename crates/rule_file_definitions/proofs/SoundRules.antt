-- The rules that are read are sound: each is made of words that were read, passed the tests, and has a triple of its own; by
-- induction on the entries, and on the rules of an entry.
use Rattle.std.proofs.Common.{◌≡◌, ◌≢◌, ℕ, ◌+◌, ◌<◌, ◌≤◌, ◌^◌, ◌↔◌, Bool, true, false, cond, not, ◌&&◌, ◌||◌, nat_lt, Option, Some, None, Result, Ok, Err, List, [], ◌∷◌, ◌++◌, length, map, All, AllPairs, refl, sym, subst, arith}
use Rattle.std.specs.Prelude.{codes}
use Rattle.std.specs.List.{AllByRecursion, list_any}
use Rattle.std.specs.Str.{bytes_eq}
use Rattle.std.proofs.lemmas.Nat.{pow_pos}
use Rattle.std.proofs.lemmas.Bool.{or_parts, ltb-false}
use Rattle.std.proofs.lemmas.List.{append-nil, append_assoc}
use Rattle.std.proofs.lemmas.List.Elements.{All-append, All-nil, All-cons, All-from_recursion, recursion_from_All}
use Rattle.std.proofs.lemmas.List.Quantifiers.{all_pairs_push}
use Rattle.std.proofs.Math.Pow.{ones_lt}
use Rattle.toml.specs.Data.{Members}
use Rattle.text_definitions.specs.Letters.{IsLetter}
use Rattle.text_definitions.specs.Words.{IsWord}
use Rattle.text_definitions.specs.Spellings.{Reading}
use Rattle.text_definitions.specs.Slp1.{word_of_slp1}
use Rattle.text_definitions.proofs.SpelledWords.{word_from_read}
use Rattle.lexicon_definitions.specs.declared.limits.TheConstants.{MOST_RULES, MOST_RULE_LETTERS, MOST_LEADS}
use Rattle.lexicon_definitions.specs.Rules.{Rule, IsRule, all_phases, is_twin}
use Rattle.lexicon_definitions.specs.Leads.{leads_of}
use Rattle.lexicon_definitions.specs.Limits.{IsShortRule}
use Rattle.rule_file_definitions.specs.EntryWhys.{Why, Strict, Long, Twice, Limit}
use Rattle.rule_file_definitions.specs.SoundClasses.{letters_named}
use Rattle.rule_file_definitions.specs.RuleNotations.{Part, Notation, Gap, Pattern, notation_of, is_some_class, gap_with, gap_of, pattern_with, pattern_of}
use Rattle.list_laws.specs.EmptyLists.{is_empty}
use Rattle.rule_file_definitions.specs.RuleEntries.{put_in, filled, rule_with, some_fillings, fillings_of, is_not_strict, is_long, rules_filled, rules_of_pattern, rules_of_notation, rules_of_fields, rules_of_entry, have_twins, pass_limits, add_rules, add_read, add_entry, add_entries, read_entries, then_entries}
use Rattle.rule_file_definitions.specs.EntryPhases.{Fields, Phases, fields_of, is_final, unlimited, after_told, phases_with, phases_told}
use Rattle.trie_text_definitions.specs.LimitedRules.{set_told}
use Rattle.trie_text_definitions.proofs.PhaseSets.{IsSetWithin, set_field_told}
use Rattle.rule_file_definitions.proofs.SmallTests.{IsOther, others_from_test}
use Rattle.rule_file_definitions.proofs.SoundEntries.{AreLetters, named_sound}
use Rattle.list_laws.proofs.Booleans.{if_refused}
use Rattle.lexicon_definitions.proofs.WrittenRules.{some_phases}

-- ---- the words of a pattern

record AreGapWords (gap : Gap) : Type 0 where
  before : IsWord gap.before
  after : IsWord gap.after

record ArePatternWords (pattern : Pattern) : Type 0 where
  x : IsWord pattern.x
  u : IsWord pattern.u
  v : AreGapWords pattern.v
  w : AreGapWords pattern.w

-- the part that is read of one with a class or without one, as this test says
abbrev IsGapRead : Bool → Option Gap → Type 0
IsGapRead has_class None = Unit {0}
IsGapRead has_class (Some gap) = AreGapWords gap × (gap.has_class ≡ has_class)

abbrev IsPatternRead : Bool → Option Pattern → Type 0
IsPatternRead has_class None = Unit {0}
IsPatternRead has_class (Some pattern) = ArePatternWords pattern × (pattern.v.has_class ≡ has_class)

gap_by : (has_class : Bool) (first second : List ℕ) (before after : Reading) → word_of_slp1 first ≡ before → word_of_slp1 second ≡ after
    → IsGapRead has_class (gap_with has_class before after)
gap_by has_class first second (Ok before) (Ok after) e f = (record { before = word_from_read first before e; after = word_from_read second after f }, refl)
gap_by has_class first second (Ok before) (Err fault) e f = tt
gap_by has_class first second (Err fault) after e f = tt

gap_read : (part : Part) → IsGapRead (is_some_class part.class) (gap_of part)
gap_read part = gap_by (is_some_class part.class) part.before part.after (word_of_slp1 part.before) (word_of_slp1 part.after) refl refl

pattern_by : (in_v in_w : Bool) (first second : List ℕ) (x u : Reading) (v w : Option Gap) → word_of_slp1 first ≡ x → word_of_slp1 second ≡ u
    → IsGapRead in_v v → IsGapRead in_w w → IsPatternRead in_v (pattern_with x u v w)
pattern_by in_v in_w first second (Ok x) (Ok u) (Some v) (Some w) e f g h =
    (record { x = word_from_read first x e; u = word_from_read second u f; v = g.0; w = h.0 }, g.1)
pattern_by in_v in_w first second (Err fault) u v w e f g h = tt
pattern_by in_v in_w first second (Ok x) (Err fault) v w e f g h = tt
pattern_by in_v in_w first second (Ok x) (Ok u) None w e f g h = tt
pattern_by in_v in_w first second (Ok x) (Ok u) (Some v) None e f g h = tt

pattern_read : (notation : Notation) → IsPatternRead (is_some_class notation.v.class) (pattern_of notation)
unfolding pattern_of
pattern_read notation =
    pattern_by (is_some_class notation.v.class) (is_some_class notation.w.class) notation.x notation.u (word_of_slp1 notation.x) (word_of_slp1 notation.u)
    (gap_of notation.v) (gap_of notation.w) refl refl (gap_read notation.v) (gap_read notation.w)

-- ---- sets of phases

-- the sets of phases before and after a rule, which is final or not
record ArePhases (count : ℕ) (final : Bool) (phases : Phases) : Type 0 where
  before : IsSetWithin count phases.before
  none : final ≡ true → phases.after ≡ 0
  some : final ≡ false → IsSetWithin count phases.after

all_within : (count : ℕ) → 0 < count → IsSetWithin count (all_phases count)
all_within count n = record { some = some_phases count n; within = ones_lt count }

module _ (names : List (List ℕ)) (n : 0 < length names) where
  abbrev ArePhasesTold : Bool → Option Phases → Type 0
  ArePhasesTold final None = Unit {0}
  ArePhasesTold final (Some phases) = ArePhases (length names) final phases

  unlimited_sound : (final : Bool) → ArePhases (length names) final (unlimited (length names) final)
  unlimited_sound true = record { before = all_within (length names) n; none = λ e. refl; some = λ e. absurd (cc) }
  unlimited_sound false = record { before = all_within (length names) n; none = λ e. absurd (cc); some = λ e. all_within (length names) n }

  told_within : (field : List ℕ) (set : ℕ) → set_told names field ≡ Some set → IsSetWithin (length names) set
  told_within field set e = (set_field_told names field set n e).1

  after_none : (field : List ℕ) (set : ℕ) (test : Bool) → cond test (Some 0) None ≡ Some set → set ≡ 0
  after_none field set true e = cc
  after_none field set false e = absurd (cc)

  limits_sound : (final : Bool) (limits : List ℕ × List ℕ) (before after : Option ℕ) → set_told names limits.0 ≡ before
      → after_told names final limits.1 ≡ after → ArePhasesTold final (phases_with before after)
  limits_sound true limits (Some before) (Some after) e f =
      record { before = told_within limits.0 before e; none = λ g. after_none limits.1 after (bytes_eq limits.1 (codes "-")) f; some = λ g. absurd (cc) }
  limits_sound false limits (Some before) (Some after) e f =
      record { before = told_within limits.0 before e; none = λ g. absurd (cc); some = λ g. told_within limits.1 after f }
  limits_sound final limits None after e f = tt
  limits_sound final limits (Some before) None e f = tt

  phases_sound : (final : Bool) (limits : Option (List ℕ × List ℕ)) → ArePhasesTold final (phases_told names final limits)
  phases_sound final None = unlimited_sound final
  phases_sound final (Some limits) = limits_sound final limits (set_told names limits.0) (after_told names final limits.1) refl refl

-- ---- one rule

-- a letter may be put in place of a class, and nothing where there is none
abbrev IsFilling : Bool → Option ℕ → Type 0
IsFilling has_class None = has_class ≡ false
IsFilling has_class (Some letter) = IsLetter letter

put_word : (in_v has_class : Bool) (filling : Option ℕ) → IsFilling in_v filling → IsWord (put_in has_class filling)
put_word in_v true None h = All-nil IsLetter
put_word in_v true (Some letter) h = All-cons IsLetter letter [] h (All-nil IsLetter)
put_word in_v false filling h = All-nil IsLetter

filled_word : (in_v : Bool) (gap : Gap) (filling : Option ℕ) → AreGapWords gap → IsFilling in_v filling → IsWord (filled gap filling)
filled_word in_v gap filling g h =
    All-append IsLetter (gap.before ++ put_in gap.has_class filling) gap.after
    (All-append IsLetter gap.before (put_in gap.has_class filling) g.before (put_word in_v gap.has_class filling h)) g.after

-- v is empty exactly where the pattern is one of final rules
final_by : (before : List ℕ) (has_class : Bool) (after : List ℕ) (filling : Option ℕ) → is_empty before && not has_class && is_empty after ≡ true
    → before ++ put_in has_class filling ++ after ≡ []
final_by [] false [] filling e = refl
final_by (letter ∷ before) has_class after filling e = absurd (cc)
final_by [] true after filling e = absurd (cc)
final_by [] false (letter ∷ after) filling e = absurd (cc)

inner_by : (before : List ℕ) (has_class : Bool) (after : List ℕ) (filling : Option ℕ) → IsFilling has_class filling
    → is_empty before && not has_class && is_empty after ≡ false → before ++ put_in has_class filling ++ after ≢ []
inner_by (letter ∷ before) has_class after filling f e = λ g. cc
inner_by [] true after (Some letter) f e = λ g. cc
inner_by [] true after None f e = absurd (cc)
inner_by [] false (letter ∷ after) filling f e = λ g. cc
inner_by [] false [] filling f e = absurd (cc)

-- a rule of a file: one over so many phases, and short
pub record IsFileRule (count : ℕ) (rule : Rule) : Type 0 where
  pub rule_itself : IsRule count rule
  pub short : IsShortRule rule

not_empty : (word : List ℕ) → is_empty word ≡ false → word ≢ []
not_empty [] h e = cc
not_empty (letter ∷ word) h e = cc

after_below : (count set : ℕ) (final : Bool) → (final ≡ true → set ≡ 0) → (final ≡ false → IsSetWithin count set) → set < 2 ^ count
after_below count set true none some = let is = none refl in let room = pow_pos count in omega (arith, is, room)
after_below count set false none some = (some refl).within

after_zero : (count set : ℕ) (v : List ℕ) (final : Bool) → (final ≡ true → set ≡ 0) → (final ≡ false → IsSetWithin count set) → (final ≡ true → v ≡ [])
    → (final ≡ false → v ≢ []) → (set ≡ 0) ↔ (v ≡ [])
after_zero count set v true none some empty inner = (λ e. empty refl, λ e. none refl)
after_zero count set v false none some empty inner =
    (λ e. let above = (some refl).some in absurd (omega (arith, e, above)), λ e. absurd (inner refl e))

module _ (count : ℕ) (phases : Phases) (pattern : Pattern) where
  one_sound : (filling : Option ℕ) → ArePhases count (is_final pattern.v) phases → ArePatternWords pattern → IsFilling pattern.v.has_class filling
      → is_not_strict (rule_with phases pattern filling) ≡ false → is_long (rule_with phases pattern filling) ≡ false
      → IsFileRule count (rule_with phases pattern filling)
  one_sound filling p q f s l =
      let rule = rule_with phases pattern filling in
      let strict = or_parts (is_empty rule.u) (is_empty rule.w) s in
      let long = or_parts (nat_lt MOST_RULE_LETTERS (length rule.u) || nat_lt MOST_RULE_LETTERS (length rule.v)) (nat_lt MOST_RULE_LETTERS (length rule.w)) l in
      let longs = or_parts (nat_lt MOST_RULE_LETTERS (length rule.u)) (nat_lt MOST_RULE_LETTERS (length rule.v)) long.0 in
      record {
        rule_itself = record {
          u_is_word = All-append IsLetter pattern.x pattern.u q.x q.u;
          v_is_word = filled_word pattern.v.has_class pattern.v filling q.v f;
          w_is_word = All-append IsLetter pattern.x (filled pattern.w filling) q.x (filled_word pattern.v.has_class pattern.w filling q.w f);
          strict = (not_empty rule.u strict.0, not_empty rule.w strict.1);
          before_some = p.before.some;
          before_within = p.before.within;
          after_within = after_below count phases.after (is_final pattern.v) p.none p.some;
          after_none = after_zero count phases.after rule.v (is_final pattern.v) p.none p.some
              (final_by pattern.v.before pattern.v.has_class pattern.v.after filling)
              (inner_by pattern.v.before pattern.v.has_class pattern.v.after filling f);
        };
        short = record {
          u = ltb-false MOST_RULE_LETTERS (length rule.u) longs.0;
          v = ltb-false MOST_RULE_LETTERS (length rule.v) longs.1;
          w = ltb-false MOST_RULE_LETTERS (length rule.w) long.1;
        };
      }

  all_sound : (fillings : List (Option ℕ)) → ArePhases count (is_final pattern.v) phases → ArePatternWords pattern
      → AllByRecursion (IsFilling pattern.v.has_class) fillings
      → list_any is_not_strict (map (rule_with phases pattern) fillings) ≡ false → list_any is_long (map (rule_with phases pattern) fillings) ≡ false
      → AllByRecursion (IsFileRule count) (map (rule_with phases pattern) fillings)
  all_sound [] p q h s l = tt
  all_sound (filling ∷ fillings) p q h s l =
      let strict = or_parts (is_not_strict (rule_with phases pattern filling)) (list_any is_not_strict (map (rule_with phases pattern) fillings)) s in
      let long = or_parts (is_long (rule_with phases pattern filling)) (list_any is_long (map (rule_with phases pattern) fillings)) l in
      (one_sound filling p q h.0 strict.0 long.0, all_sound fillings p q h.1 strict.1 long.1)

-- ---- the rules of an entry

module _ (names : List (List ℕ)) (n : 0 < length names) where
  abbrev AreSound : Result (List Rule) Why → Type 0
  AreSound (Ok rules) = AllByRecursion (IsFileRule (length names)) rules
  AreSound (Err why) = Unit {0}

  passed_by : (rules : List Rule) (strict long : Bool) → list_any is_not_strict rules ≡ strict → list_any is_long rules ≡ long
      → (list_any is_not_strict rules ≡ false → list_any is_long rules ≡ false → AllByRecursion (IsFileRule (length names)) rules)
      → AreSound (cond strict (Err Strict) (cond long (Err Long) (Ok rules)))
  passed_by rules true long s l h = tt
  passed_by rules false true s l h = tt
  passed_by rules false false s l h = h s l

  each_filling : (has_class : Bool) (letters : List ℕ) → AllByRecursion IsLetter letters → AllByRecursion (IsFilling has_class) (map Some letters)
  each_filling has_class [] h = tt
  each_filling has_class (letter ∷ letters) h = (h.0, each_filling has_class letters h.1)

  abbrev AreFillings : Bool → Option (List (Option ℕ)) → Type 0
  AreFillings has_class None = Unit {0}
  AreFillings has_class (Some fillings) = AllByRecursion (IsFilling has_class) fillings

  fillings_by : (has_class : Bool) (letters : Option (List ℕ)) → AreLetters letters → AreFillings has_class (some_fillings letters)
  fillings_by has_class None h = tt
  fillings_by has_class (Some letters) h = each_filling has_class letters (recursion_from_All IsLetter letters h.0)

  fillings_sound : (classes : Members) (class : Option (List ℕ)) → AreFillings (is_some_class class) (fillings_of classes class)
  fillings_sound classes None = (refl, tt)
  fillings_sound classes (Some name) = fillings_by true (letters_named classes name) (named_sound classes name)

  filled_sound : (phases : Option Phases) (pattern : Pattern) (fillings : Option (List (Option ℕ))) → ArePhasesTold names n (is_final pattern.v) phases
      → ArePatternWords pattern → AreFillings pattern.v.has_class fillings → AreSound (rules_filled phases pattern fillings)
  filled_sound phases pattern None p q h = tt
  filled_sound None pattern (Some fillings) p q h = tt
  filled_sound (Some phases) pattern (Some fillings) p q h =
      passed_by (map (rule_with phases pattern) fillings) _ _ refl refl (all_sound (length names) phases pattern fillings p q h)

  pattern_sound : (classes : Members) (limits : Option (List ℕ × List ℕ)) (class : Option (List ℕ)) (pattern : Option Pattern)
      → IsPatternRead (is_some_class class) pattern → AreSound (rules_of_pattern names classes limits class pattern)
  pattern_sound classes limits class None p = tt
  pattern_sound classes limits class (Some pattern) p =
      filled_sound (phases_told names (is_final pattern.v) limits) pattern (fillings_of classes class) (phases_sound names n (is_final pattern.v) limits) p.0
      (subst (λ (test : Bool). AreFillings test (fillings_of classes class)) (sym p.1) (fillings_sound classes class))

  notation_sound : (classes : Members) (limits : Option (List ℕ × List ℕ)) (notation : Option Notation) → AreSound (rules_of_notation names classes limits notation)
  notation_sound classes limits None = tt
  notation_sound classes limits (Some notation) = pattern_sound classes limits notation.v.class (pattern_of notation) (pattern_read notation)

  fields_sound : (classes : Members) (fields : Option Fields) → AreSound (rules_of_fields names classes fields)
  fields_sound classes None = tt
  fields_sound classes (Some fields) = notation_sound classes fields.limits (notation_of fields.notation)

  entry_sound : (classes : Members) (entry : List ℕ) → AreSound (rules_of_entry names classes entry)
  unfolding rules_of_entry
  entry_sound classes entry = fields_sound classes (fields_of entry)

  -- ---- the rules of a file

  apart_with : (earlier rules : List Rule) → AllPairs IsOther earlier → have_twins earlier rules ≡ false → AllPairs IsOther (earlier ++ rules)
  apart_with earlier [] h e = subst (AllPairs IsOther) (sym (append-nil earlier)) h
  apart_with earlier (rule ∷ rules) h e =
      let parts = or_parts (list_any (is_twin rule) earlier) (have_twins (earlier ++ rule ∷ []) rules) e in
      let more = all_pairs_push IsOther earlier rule h (others_from_test rule earlier parts.0) in
      subst (AllPairs IsOther) (append_assoc earlier (rule ∷ []) rules) (apart_with (earlier ++ rule ∷ []) rules more parts.1)

  -- rules of a file, within the limits
  pub record AreFileRules (rules : List Rule) : Type 0 where
    pub each : All (IsFileRule (length names)) rules
    pub apart : AllPairs IsOther rules
    pub few : length rules ≤ MOST_RULES
    pub leads : length (leads_of rules) ≤ MOST_LEADS

  more_rules : (earlier rules out : List Rule) → AreFileRules earlier → AllByRecursion (IsFileRule (length names)) rules → add_rules earlier rules ≡ Ok out
      → AreFileRules out
  unfolding add_rules
  more_rules earlier rules out h k e =
      let apart = if_refused (have_twins earlier rules) _ Twice out e in
      let limits = if_refused (pass_limits (earlier ++ rules)) _ Limit out apart.1 in
      let parts = or_parts (nat_lt MOST_RULES (length (earlier ++ rules))) (nat_lt MOST_LEADS (length (leads_of (earlier ++ rules)))) limits.0 in
      let same : earlier ++ rules ≡ out = cc in
      subst AreFileRules same (record {
        each = All-append (IsFileRule (length names)) earlier rules h.each (All-from_recursion (IsFileRule (length names)) rules k);
        apart = apart_with earlier rules h.apart apart.0;
        few = ltb-false MOST_RULES (length (earlier ++ rules)) parts.0;
        leads = ltb-false MOST_LEADS (length (leads_of (earlier ++ rules))) parts.1;
      })

  more_read : (earlier out : List Rule) (read : Result (List Rule) Why) → AreFileRules earlier → AreSound read → add_read earlier read ≡ Ok out → AreFileRules out
  more_read earlier out (Ok rules) h k e = more_rules earlier rules out h k e
  more_read earlier out (Err why) h k e = absurd (cc)

  entry_added : (classes : Members) (earlier out : List Rule) (entry : List ℕ) → AreFileRules earlier → add_entry names classes earlier entry ≡ Ok out → AreFileRules out
  unfolding add_entry
  entry_added classes earlier out entry h e = more_read earlier out (rules_of_entry names classes entry) h (entry_sound classes entry) e

  entries_by : (classes : Members) (number : ℕ) (entries : List (List ℕ)) (out : List Rule) (added : Result (List Rule) Why)
      → ((next : List Rule) → add_entries names classes next (number + 1) entries ≡ Ok out → AreFileRules next → AreFileRules out)
      → ((next : List Rule) → added ≡ Ok next → AreFileRules next)
      → then_entries number added (λ next. add_entries names classes next (number + 1) entries) ≡ Ok out → AreFileRules out
  entries_by classes number entries out (Ok next) later h e = later next e (h next refl)
  entries_by classes number entries out (Err why) later h e = absurd (cc)

  entries_from : (classes : Members) (rules : List Rule) (number : ℕ) (entries : List (List ℕ)) (out : List Rule)
      → add_entries names classes rules number entries ≡ Ok out → AreFileRules rules → AreFileRules out
  entries_from classes rules number [] out e h = let same : rules ≡ out = cc in subst AreFileRules same h
  entries_from classes rules number (entry ∷ entries) out e h =
      entries_by classes number entries out (add_entry names classes rules entry) (λ next. entries_from classes next (number + 1) entries out)
      (λ next a. entry_added classes rules next entry h a) e

  no_rules : AreFileRules []
  no_rules = record { each = All-nil (IsFileRule (length names)); apart = λ i j d l m. absurd (omega arith); few = omega arith; leads = omega arith }

  -- what is read of all entries
  pub ruled : (classes : Members) (entries : List (List ℕ)) (out : List Rule) → read_entries names classes entries ≡ Ok out → AreFileRules out
  unfolding read_entries
  ruled classes entries out e = entries_from classes [] 1 entries out e no_rules
