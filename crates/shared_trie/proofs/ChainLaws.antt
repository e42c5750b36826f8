-- One number more is the last in its bucket, and knows the one that was; the others stay.
use Rattle.std.proofs.Common.{◌≡◌, ◌≢◌, ℕ, ◌+◌, ◌-◌, ◌<◌, ◌≤◌, ◌^◌, inl, inr, Option, None, Some, List, [], ◌∷◌, ◌++◌, length, get_or, set, sym, ◌∙◌, ap, subst, arith}
use Rattle.std.proofs.lemmas.Bool.{cases_lt, cases_eq}
use Rattle.std.proofs.lemmas.List.{get_or-set_other, get_or-set_same, get_or_append_left, get_or_push, length-set, length_push}
use Rattle.shared_trie.specs.Chains.{AreChained, IsLastIn, bucket_in}

-- what is last below a bound stays when numbers are added after it
IsLastIn-append : (buckets : ℕ) (hashes more : List ℕ) (bucket bound place : ℕ) → bound ≤ length hashes
    → IsLastIn buckets hashes bucket bound place → IsLastIn buckets (hashes ++ more) bucket bound place
IsLastIn-append buckets hashes more bucket bound place low is =
    let below = is.below in
    let same : (k : ℕ) → k < bound → get_or (hashes ++ more) k 0 ≡ get_or hashes k 0 = λ k l. get_or_append_left hashes more 0 k (omega (arith, l, low)) in
    record {
      below = is.below;
      has = λ some. ap (bucket_in buckets) (same (place - 1) (omega (arith, some, below))) ∙ is.has some;
      none_after = λ k from to e. is.none_after k from to (sym (ap (bucket_in buckets) (same k to)) ∙ e);
    }

-- what is last among all stays where the next one is of another bucket
IsLastIn-push : (buckets : ℕ) (hashes : List ℕ) (hash bucket place : ℕ) → bucket_in buckets hash ≢ bucket
    → IsLastIn buckets hashes bucket (length hashes) place → IsLastIn buckets (hashes ++ hash ∷ []) bucket (length hashes + 1) place
IsLastIn-push buckets hashes hash bucket place other is =
    let old = IsLastIn-append buckets hashes (hash ∷ []) bucket (length hashes) place (omega arith) is in
    let below = is.below in
    record {
      below = omega (arith, below);
      has = old.has;
      none_after = λ k from to.
          elim (cases_lt k (length hashes)) [
            | inl l ↦ old.none_after k from l
            | inr g ↦
                let here : length hashes ≡ k = omega (arith, g, to) in
                λ e. other (sym (ap (bucket_in buckets) (get_or_push hashes hash 0 k here)) ∙ e)
          ];
    }

-- one number more
pub chained_push : (heads hashes befores : List ℕ) (hash bucket before place : ℕ) → AreChained heads hashes befores → bucket < length heads
    → length hashes + 1 < 2 ^ 32 → bucket ≡ bucket_in (length heads) hash → before ≡ get_or heads bucket 0 → place ≡ length hashes + 1
    → AreChained (set heads bucket place) (hashes ++ hash ∷ []) (befores ++ before ∷ [])
chained_push heads hashes befores hash bucket before place are within room is_bucket is_before is_place =
    let buckets = length heads in
    let size : length (set heads bucket place) ≡ buckets = length-set heads bucket place in
    let long = length_push hashes hash in
    let longer = length_push befores before in
    let count = are.count in
    let all = hashes ++ hash ∷ [] in
    let whole : length all ≡ length hashes + 1 = omega (arith, long) in
    let last : IsLastIn buckets all bucket (length hashes + 1) place =
    record {
      below = omega (arith, is_place);
      has = λ some. ap (bucket_in buckets) (get_or_push hashes hash 0 (place - 1) (omega (arith, is_place))) ∙ sym is_bucket;
      none_after = λ k from to. absurd (omega (arith, from, to, is_place));
    } in
    let firsts : (b : ℕ) → b < buckets → IsLastIn buckets all b (length all) (get_or (set heads bucket place) b 0) =
    λ b low.
    elim (cases_eq b bucket) [
      | inl e ↦
          subst (λ (n : ℕ). IsLastIn buckets all n (length all) (get_or (set heads bucket place) n 0)) (sym e)
          (subst (λ (n : ℕ). IsLastIn buckets all bucket n (get_or (set heads bucket place) bucket 0)) (sym whole)
          (subst (IsLastIn buckets all bucket (length hashes + 1)) (sym (get_or-set_same heads bucket place 0 within)) last))
      | inr other ↦
          subst (λ (n : ℕ). IsLastIn buckets all b n (get_or (set heads bucket place) b 0)) (sym whole)
          (subst (IsLastIn buckets all b (length hashes + 1)) (sym (get_or-set_other heads bucket b place 0 other))
          (IsLastIn-push buckets hashes hash b (get_or heads b 0) (λ e. other (sym e ∙ sym is_bucket)) (are.firsts b low)))
    ]
    in
    let each : (k : ℕ) → k < length all → IsLastIn buckets all (bucket_in buckets (get_or all k 0)) k (get_or (befores ++ before ∷ []) k 0) =
    λ k low.
    elim (cases_lt k (length hashes)) [
      | inl l ↦
          subst (λ (n : ℕ). IsLastIn buckets all (bucket_in buckets n) k (get_or (befores ++ before ∷ []) k 0)) (sym (get_or_append_left hashes (hash ∷ []) 0 k l))
          (subst (IsLastIn buckets all (bucket_in buckets (get_or hashes k 0)) k) (sym (get_or_append_left befores (before ∷ []) 0 k (omega (arith, l, count))))
          (IsLastIn-append buckets hashes (hash ∷ []) (bucket_in buckets (get_or hashes k 0)) k (get_or befores k 0) (omega (arith, l)) (are.each k l)))
      | inr g ↦
          let here : length hashes ≡ k = omega (arith, g, low, long) in
          subst (λ (n : ℕ). IsLastIn buckets all (bucket_in buckets n) k (get_or (befores ++ before ∷ []) k 0)) (sym (get_or_push hashes hash 0 k here))
          (subst (IsLastIn buckets all (bucket_in buckets hash) k) (sym (get_or_push befores before 0 k (omega (arith, here, count))))
          (subst (λ (n : ℕ). IsLastIn buckets all (bucket_in buckets hash) n before) here
          (subst (λ (n : ℕ). IsLastIn buckets all n (length hashes) before) is_bucket
          (IsLastIn-append buckets hashes (hash ∷ []) bucket (length hashes) before (omega arith)
          (subst (IsLastIn buckets hashes bucket (length hashes)) (sym is_before) (are.firsts bucket within))))))
    ]
    in
    record {
      few = omega (arith, long, room);
      count = omega (arith, long, longer, count);
      bucketed = λ some. omega (arith, size, within);
      firsts = λ b low.
          subst (λ (n : ℕ). IsLastIn n all b (length all) (get_or (set heads bucket place) b 0)) (sym size) (firsts b (omega (arith, low, size)));
      each = λ k low.
          subst (λ (n : ℕ). IsLastIn n all (bucket_in n (get_or all k 0)) k (get_or (befores ++ before ∷ []) k 0)) (sym size) (each k low);
    }

-- from the place on no number below the bound has the hash, and what comes before it is in the hash's bucket
pub record IsSought (buckets : ℕ) (hashes : List ℕ) (hash bound place : ℕ) : Type 0 where
  pub below : place ≤ bound
  pub has : 0 < place → bucket_in buckets (get_or hashes (place - 1) 0) ≡ bucket_in buckets hash
  pub none_after : (k : ℕ) → place ≤ k → k < bound → get_or hashes k 0 ≢ hash

-- how many numbers are left, where the last one is found among them
abbrev pub left_of : Option ℕ → ℕ
left_of None = 0
left_of (Some number) = number + 1

-- the number that is found has the hash
abbrev pub HasHash : List ℕ → ℕ → Option ℕ → Type 0
HasHash hashes hash None = Unit {0}
HasHash hashes hash (Some number) = (number < length hashes) × (get_or hashes number 0 ≡ hash)
