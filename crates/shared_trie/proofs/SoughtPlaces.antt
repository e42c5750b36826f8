-- The last number with a hash is sought along its bucket: from the last number there, or from the one before a number with the hash.
use Rattle.std.proofs.Common.{◌≡◌, ◌≢◌, ℕ, ◌-◌, ◌<◌, ◌≤◌, inl, inr, Option, None, Some, List, length, get_or, unwrap_or, refl, sym, ◌∙◌, ap, subst, arith}
use Rattle.std.specs.Prelude.{IfSome}
use Rattle.std.proofs.lemmas.Bool.{cases_lt, cases_eq}
use Rattle.shared_trie.specs.Chains.{AreChained, IsLastIn, IsLastWith, bucket_in}
use Rattle.shared_trie.proofs.ChainLaws.{IsSought}

-- a number of another bucket has another hash
sought_in : (buckets : ℕ) (hashes : List ℕ) (hash bucket bound place : ℕ) → bucket ≡ bucket_in buckets hash → IsLastIn buckets hashes bucket bound place → IsSought buckets hashes hash bound place
sought_in buckets hashes hash bucket bound place is last = record {
  below = last.below;
  has = λ some. last.has some ∙ is;
  none_after = λ k from to e. last.none_after k from to (ap (bucket_in buckets) e ∙ sym is);
}

-- from the last number in the bucket
pub sought_first : (heads hashes befores : List ℕ) (hash bucket place : ℕ) → AreChained heads hashes befores → bucket < length heads → bucket ≡ bucket_in (length heads) hash
    → place ≡ get_or heads bucket 0 → IsSought (length heads) hashes hash (length hashes) place
sought_first heads hashes befores hash bucket place are low is at =
    sought_in (length heads) hashes hash bucket (length hashes) place is (subst (IsLastIn (length heads) hashes bucket (length hashes)) (sym at) (are.firsts bucket low))

-- from the one before a number with the hash
pub sought_before : (heads hashes befores : List ℕ) (hash number place : ℕ) → AreChained heads hashes befores → number < length hashes → get_or hashes number 0 ≡ hash
    → place ≡ get_or befores number 0 → IsSought (length heads) hashes hash number place
sought_before heads hashes befores hash number place are low is at =
    sought_in (length heads) hashes hash (bucket_in (length heads) (get_or hashes number 0)) number place (ap (bucket_in (length heads)) is)
    (subst (IsLastIn (length heads) hashes (bucket_in (length heads) (get_or hashes number 0)) number) (sym at) (are.each number low))

-- a number that is looked for before another one is among all
pub bound_within : (hashes : List ℕ) (hash : ℕ) (before : Option ℕ) → IfSome before (λ number. (number < length hashes) × (get_or hashes number 0 ≡ hash)) → unwrap_or before (length hashes) ≤ length hashes
bound_within hashes hash None has = omega arith
bound_within hashes hash (Some number) has = omega (arith, has.0)

-- the number at the place has another hash
pub sought_next : (heads hashes befores : List ℕ) (hash bound place next : ℕ) → AreChained heads hashes befores → bound ≤ length hashes → IsSought (length heads) hashes hash bound place
    → 0 < place → get_or hashes (place - 1) 0 ≢ hash → next ≡ get_or befores (place - 1) 0 → IsSought (length heads) hashes hash bound next
sought_next heads hashes befores hash bound place next are few is some other at =
    let below = is.below in
    let rest = sought_before heads hashes befores (get_or hashes (place - 1) 0) (place - 1) next are (omega (arith, below, few, some)) refl at in
    let last = are.each (place - 1) (omega (arith, below, few, some)) in
    let lower = rest.below in
    let none : (k : ℕ) → next ≤ k → k < place - 1 → get_or hashes k 0 ≢ hash =
    λ k from to e. last.none_after k (subst (λ (n : ℕ). n ≤ k) at from) to (ap (bucket_in (length heads)) e ∙ sym (is.has some)) in
    record {
      below = omega (arith, lower, below);
      has = λ one. rest.has one ∙ is.has some;
      none_after = λ k from to.
          elim (cases_lt k (place - 1)) [
            | inl l ↦ none k from l
            | inr g ↦ elim (cases_eq k (place - 1)) [
              | inl e ↦ subst (λ (n : ℕ). get_or hashes n 0 ≢ hash) (sym e) other
              | inr n ↦ is.none_after k (omega (arith, g, n, some)) to
            ]
          ];
    }

-- the number at the place has the hash
pub sought_found : (buckets : ℕ) (hashes : List ℕ) (hash bound place found : ℕ) → IsSought buckets hashes hash bound place → 0 < place → get_or hashes (place - 1) 0 ≡ hash → found ≡ place - 1
    → IsLastWith hashes hash bound (Some found)
sought_found buckets hashes hash bound place found is some here at =
    let below = is.below in (
      omega (arith, below, some, at),
      ap (λ (n : ℕ). get_or hashes n 0) at ∙ here,
      λ k from to. is.none_after k (omega (arith, from, some, at)) to,
    )

-- no number is left
pub sought_none : (buckets : ℕ) (hashes : List ℕ) (hash bound place : ℕ) → IsSought buckets hashes hash bound place → place ≤ 0 → IsLastWith hashes hash bound None
sought_none buckets hashes hash bound place is none k to = is.none_after k (omega (arith, none)) to

-- without buckets there are no numbers
pub none_chained : (heads hashes befores : List ℕ) (hash bound : ℕ) → AreChained heads hashes befores → length heads ≡ 0 → bound ≤ length hashes → IsLastWith hashes hash bound None
none_chained heads hashes befores hash bound are none few k to =
    let some = are.bucketed (omega (arith, few, to)) in absurd (omega (arith, some, none))
