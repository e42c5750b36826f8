-- Rules that are written out are rules, within the limits: each part of what is asked of them computes.
use Rattle.std.proofs.Common.{◌≡◌, ◌≢◌, ℕ, ◌<◌, ◌≤◌, ◌^◌, List, [], length, true, refl, arith}
use Rattle.std.proofs.Math.Pow.{pow-lt}
use Rattle.text_definitions.proofs.WrittenWords.{are_letters, letters_are_word}
use Rattle.lexicon_definitions.specs.Rules.{Rule, IsRule, all_phases}
use Rattle.lexicon_definitions.specs.Limits.{IsShortRule}

pub inner_is : (count : ℕ) (u v w : List ℕ) (before after : ℕ) → are_letters u ≡ true → are_letters v ≡ true → are_letters w ≡ true
    → u ≢ [] → v ≢ [] → w ≢ [] → 0 < before → before < 2 ^ count → 0 < after → after < 2 ^ count
    → IsRule count (record { u = u; v = v; w = w; before = before; after = after })
inner_is count u v w before after e f g some_u some_v some_w low high some_after within = record {
  u_is_word = letters_are_word u e;
  v_is_word = letters_are_word v f;
  w_is_word = letters_are_word w g;
  strict = (some_u, some_w);
  before_some = low;
  before_within = high;
  after_within = within;
  after_none = (λ z. absurd (omega arith), λ z. absurd (some_v z));
}

pub final_is : (count : ℕ) (u w : List ℕ) (before : ℕ) → are_letters u ≡ true → are_letters w ≡ true
    → u ≢ [] → w ≢ [] → 0 < before → before < 2 ^ count
    → IsRule count (record { u = u; v = []; w = w; before = before; after = 0 })
final_is count u w before e g some_u some_w low high = record {
  u_is_word = letters_are_word u e;
  v_is_word = letters_are_word [] refl;
  w_is_word = letters_are_word w g;
  strict = (some_u, some_w);
  before_some = low;
  before_within = high;
  after_within = omega arith;
  after_none = (λ z. refl, λ z. refl);
}

pub short_rule : (rule : Rule) → length rule.u ≤ 8 → length rule.v ≤ 8 → length rule.w ≤ 8 → IsShortRule rule
short_rule rule u v w = record { u = u; v = v; w = w }

-- the set of all phases, where there are some, is not empty
pub some_phases : (count : ℕ) → 0 < count → 0 < all_phases count
some_phases count n = let up = pow-lt {i = 0} {j = count} n in omega (arith, up)
