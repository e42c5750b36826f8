-- When a rule line of version 3 is taken, and what is told after it: the tests one after another, by cases of each.
use Rattle.std.proofs.Common.{◌≡◌, ◌≢◌, ℕ, ◌<◌, ◌≤◌, false, ◌||◌, Option, Some, None, Ok, Err, List, [], ◌∷◌, ◌++◌, length, refl, sym, ◌∙◌, ap, arith}
use Rattle.std.specs.Prelude.{All, codes}
use Rattle.std.specs.List.{list_any}
use Rattle.std.specs.Str.{bytes_eq}
use Rattle.std.proofs.lemmas.Bool.{or_parts, leb-false, ltb-false}
use Rattle.std.proofs.lemmas.Option.{cond_some}
use Rattle.list_laws.specs.EmptyLists.{is_empty}
use Rattle.list_laws.proofs.Booleans.{if_refused}
use Rattle.list_laws.proofs.Texts.{bytes_same}
use Rattle.text_definitions.specs.Words.{IsWord}
use Rattle.text_definitions.specs.Spellings.{Reading}
use Rattle.text_definitions.specs.Slp1.{word_of_slp1, slp1_of_word}
use Rattle.text_definitions.proofs.SpelledWords.{spelled_from_read, word_from_read, length-spelling}
use Rattle.lexicon_definitions.specs.declared.limits.TheConstants.{MOST_RULES, MOST_RULE_LETTERS, MOST_LEADS}
use Rattle.lexicon_definitions.specs.Rules.{Rule}
use Rattle.lexicon_definitions.specs.Leads.{with_lead, leads_of}
use Rattle.lexicon_definitions.specs.Limits.{IsShortRule}
use Rattle.lexicon_text_definitions.specs.FileContents.{has_triple}
use Rattle.lexicon_text_definitions.specs.FileLines as lines
use Rattle.lexicon_text_definitions.specs.FileLines.{Shape, shape_of}
use Rattle.lexicon_text_definitions.proofs.LineCuts.{field_with, field_from_shape}
use Rattle.lexicon_text_definitions.proofs.LineSteps.{rule_field}
use Rattle.lexicon_text_definitions.proofs.LineTests.{IsOther, others_from_test}
use Rattle.trie_text_definitions.specs.LimitedRules.{phases_after_text, set_told, set_after_told}
use Rattle.trie_text_definitions.specs.VersionFaults.{Strict, Limit, Twice}
use Rattle.trie_text_definitions.specs.VersionSteps.{Rules, Told, passes_limits, take_limited, take_words, take_sets, take_shape, take_limited_rule}
use Rattle.trie_text_definitions.proofs.PhaseSets.{IsSetWithin, set_field_told}

-- what is told with a limited rule more
abbrev pub with_limited : Told → Rule → Told
with_limited told rule = record told { last = Rules; front = record told.front { last = lines.Rule; rules = told.front.rules ++ rule ∷ [] } }

pub record MayLimited (told : Told) (rule : Rule) : Type 0 where
  pub u_word : IsWord rule.u
  pub v_word : IsWord rule.v
  pub w_word : IsWord rule.w
  pub u_some : rule.u ≢ []
  pub w_some : rule.w ≢ []
  pub few : length told.front.rules < MOST_RULES
  pub leads : length (with_lead (leads_of told.front.rules) rule.v rule.after) ≤ MOST_LEADS
  pub short : IsShortRule rule
  pub other : All (λ other. IsOther other rule) told.front.rules

some_by : (word : List ℕ) → is_empty word ≡ false → word ≢ []
some_by [] h = absurd (cc)
some_by (letter ∷ word) h = λ e. cc

limited_by : (told after : Told) (rule : Rule) → IsWord rule.u → IsWord rule.v → IsWord rule.w → take_limited told rule ≡ Ok after
    → MayLimited told rule × (with_limited told rule ≡ after)
limited_by told after rule a b c h =
    let strict = if_refused (is_empty rule.u || is_empty rule.w) _ Strict after h in
    let some = or_parts (is_empty rule.u) (is_empty rule.w) strict.0 in
    let limits = if_refused (passes_limits told.front.rules rule) _ Limit after strict.1 in
    let other = if_refused (list_any (has_triple rule.u rule.v rule.w) told.front.rules) _ Twice after limits.1 in
    let w_part = or_parts _ _ limits.0 in
    let v_part = or_parts _ _ w_part.0 in
    let u_part = or_parts _ _ v_part.0 in
    let counts = or_parts _ _ u_part.0 in (
      record {
        u_word = a;
        v_word = b;
        w_word = c;
        u_some = some_by rule.u some.0;
        w_some = some_by rule.w some.1;
        few = leb-false MOST_RULES (length told.front.rules) counts.0;
        leads = ltb-false MOST_LEADS (length (with_lead (leads_of told.front.rules) rule.v rule.after)) counts.1;
        short = record {
          u = ltb-false MOST_RULE_LETTERS (length rule.u) u_part.1;
          v = ltb-false MOST_RULE_LETTERS (length rule.v) v_part.1;
          w = ltb-false MOST_RULE_LETTERS (length rule.w) w_part.1;
        };
        other = others_from_test rule told.front.rules other.0;
      },
      (cc (other.1)),
    )

-- a rule line that is taken: its three fields, the last two of which tell the rule's sets of phases
pub record LimitedTaken (told after : Told) (fields : List (List ℕ)) : Type 0 where
  pub rule : Rule
  pub before : List ℕ
  pub after_text : List ℕ
  pub v_text : List ℕ
  pub is_v : v_text ≡ slp1_of_word rule.v
  pub are : fields ≡ rule_field rule.u rule.v rule.w ∷ before ∷ after_text ∷ []
  pub is_before : set_told told.front.names before ≡ Some rule.before
  pub is_after : set_after_told told.front.names v_text after_text ≡ Some rule.after
  pub may : MayLimited told rule
  pub is : with_limited told rule ≡ after

words_taken : (told after : Told) (k m : ℕ) (u v w : Reading) → take_words told k m u v w ≡ Ok after
    → (a : List ℕ) × (b : List ℕ) × (c : List ℕ) × (u ≡ Ok a) × (v ≡ Ok b) × (w ≡ Ok c)
    × (take_limited told (record { u = a; v = b; w = c; before = k; after = m }) ≡ Ok after)
words_taken told after k m (Err fault) v w h = absurd (cc)
words_taken told after k m (Ok u) (Err fault) w h = absurd (cc)
words_taken told after k m (Ok u) (Ok v) (Err fault) h = absurd (cc)
words_taken told after k m (Ok u) (Ok v) (Ok w) h = (u, v, w, refl, refl, refl, h)

module _ (told after : Told) (field before after_text : List ℕ) where
  abbrev Taken : Type 0
  Taken = LimitedTaken told after (field ∷ before ∷ after_text ∷ [])

  sets_taken : (shape : Shape) (b a : Option ℕ) → field ≡ field_with shape → set_told told.front.names before ≡ b
      → set_after_told told.front.names shape.v after_text ≡ a → take_sets told shape b a ≡ Ok after → Taken
  sets_taken shape None a f d e h = absurd (cc)
  sets_taken shape (Some k) None f d e h = absurd (cc)
  sets_taken shape (Some k) (Some m) f d e h =
      let (u, v, w, i, j, l, t) = words_taken told after k m (word_of_slp1 shape.u) (word_of_slp1 shape.v) (word_of_slp1 shape.w) h in
      let rule : Rule = record { u = u; v = v; w = w; before = k; after = m } in
      let both = limited_by told after rule (word_from_read shape.u u i) (word_from_read shape.v v j) (word_from_read shape.w w l) t in
      let first = sym (spelled_from_read shape.u u i) in
      let second = sym (spelled_from_read shape.v v j) in
      let third = sym (spelled_from_read shape.w w l) in
      record {
        rule = rule;
        before = before;
        after_text = after_text;
        v_text = shape.v;
        is_v = second;
        are = λ n. (f ∙ (λ o. first o ++ 124 ∷ (second o ++ 62 ∷ third o))) n ∷ before ∷ after_text ∷ [];
        is_before = d;
        is_after = e;
        may = both.0;
        is = both.1;
      }

  shape_taken : (shape : Option Shape) → shape_of field ≡ shape → take_shape told before after_text shape ≡ Ok after → Taken
  shape_taken None e h = absurd (cc)
  shape_taken (Some shape) e h =
      sets_taken shape (set_told told.front.names before) (set_after_told told.front.names shape.v after_text) (field_from_shape field shape e) refl refl h

pub took_limited : (told after : Told) (fields : List (List ℕ)) → take_limited_rule told fields ≡ Ok after → LimitedTaken told after fields
unfolding take_limited_rule
took_limited told after [] h = absurd (cc)
took_limited told after (field ∷ []) h = absurd (cc)
took_limited told after (field ∷ before ∷ []) h = absurd (cc)
took_limited told after (field ∷ before ∷ after_text ∷ []) h = shape_taken told after field before after_text (shape_of field) refl h
took_limited told after (field ∷ before ∷ after_text ∷ more ∷ fields) h = absurd (cc)

-- ---- the sets of phases

-- the set after a rule: none for a final rule, else one of some phases
pub record IsAfterSet (count : ℕ) (v : List ℕ) (set : ℕ) : Type 0 where
  pub none : v ≡ [] → set ≡ 0
  pub some : v ≢ [] → IsSetWithin count set

pub after_told : (names : List (List ℕ)) (text v field : List ℕ) (set : ℕ) → 0 < length names → text ≡ slp1_of_word v → set_after_told names text field ≡ Some set
    → (field ≡ phases_after_text names v set) × IsAfterSet (length names) v set
after_told names [] [] field set n e h =
    let found = cond_some (bytes_eq field (codes "-")) 0 set h in
    (bytes_same field (codes "-") found.0, record { none = λ x. sym found.1; some = λ x. absurd (x refl) })
after_told names [] (letter ∷ v) field set n e h = let long = ap length e in let same = length-spelling (letter ∷ v) in absurd (omega (arith, long, same))
after_told names (byte ∷ text) [] field set n e h = let long = ap length e in let same = length-spelling [] in absurd (omega (arith, long, same))
after_told names (byte ∷ text) (letter ∷ v) field set n e h =
    let told = set_field_told names field set n h in
    (told.0, record { none = λ x. absurd (cc); some = λ x. told.1 })
