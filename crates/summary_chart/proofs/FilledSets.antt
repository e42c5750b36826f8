-- Sets that are empty since their bits are not set: from an index up to the next bit of its word, and from the last bit before an index;
-- and a set and its bit that are put.
use Rattle.std.proofs.Common.{◌≡◌, ◌≢◌, ℕ, ◌+◌, ◌-◌, ◌*◌, ◌/◌, ◌%◌, ◌^◌, ◌<◌, ◌≤◌, inl, inr, List, length, slice_index_or, slice_set, bit_and, bit_or, sym, ap, subst, ◌∙◌, arith}
use Rattle.std.specs.Int.{IsBitSet, bit_at, bit_not, trailing_zeros, leading_zeros, w64}
use Rattle.std.proofs.Math.Nat.{div-le_self}
use Rattle.std.proofs.lemmas.Bool.{cases_eq, cases_lt}
use Rattle.std.proofs.lemmas.List.{length-set, get_or-set_same, get_or-set_other}
use Rattle.std.proofs.lemmas.Nat.Bits.{bit_at-zero, bit_at_above, bit_at-trailing_zeros, bit_at_set_same, bit_at_set_other, bit_at_clear_other}
use Rattle.summary_chart.specs.declared.state_set.StateSet.{StateSet}
use Rattle.summary_chart.specs.StateSets.{HasState}
use Rattle.summary_chart.specs.Tables.{AreMarked, HaveBits, AreEmptyBetween}
use Rattle.summary_chart.proofs.SetBits.{bit_is, bit_of_right_shift, bit_of_left_shift, none_leading, leading_below}

-- the sets from the first index up to before the second are empty; the second may be past the last set
pub record AreEmptyFrom (sets : List StateSet) (from until : ℕ) : Type 0 where
  pub rises : from ≤ until
  pub empty : (index number : ℕ) → from ≤ index → index < until → HasState (slice_index_or sets index (record { bits = 0 })) number → ⊥

module _ (sets : List StateSet) where
  pub none_yet : (from : ℕ) → AreEmptyFrom sets from from
  none_yet from = record { rises = omega arith; empty = λ index number above below. absurd (omega (arith, above, below)) }

  side_by_side : (from middle until : ℕ) → AreEmptyFrom sets from middle → AreEmptyFrom sets middle until → AreEmptyFrom sets from until
  side_by_side from middle until first second = record {
    rises = (let low = first.rises in let high = second.rises in omega (arith, low, high));
    empty = λ index number above below. elim (cases_lt index middle) [
      | inl earlier ↦ first.empty index number above earlier
      | inr later ↦ second.empty index number later below
    ];
  }

  -- sets that are empty up to an index are so up to one before it, among those that there are
  pub up_to : (from until least : ℕ) → AreEmptyFrom sets from until → from ≤ least → least ≤ until → least ≤ length sets
      → AreEmptyBetween sets from least
  up_to from until least is rises low within = record {
    rises = rises;
    within = within;
    empty = λ index number above below. is.empty index number above (omega (arith, below, low));
  }

  module _ (filled : List ℕ) (have : HaveBits sets filled) where
    -- a set whose bit is not set is empty
    empty_there : (index number : ℕ) → bit_at (slice_index_or filled (index / 64) 0) (index % 64) ≡ 0
        → HasState (slice_index_or sets index (record { bits = 0 })) number → ⊥
    empty_there index number none has =
        let word = slice_index_or filled (index / 64) 0 in
        let set : bit_at word (index % 64) ≡ 1 = (bit_is word (index % 64)).0 (have.marked.each index number has) in
        absurd (omega (arith, none, set))

    -- ---- onwards: the word of the index is shifted down, so that the index has the lowest bit

    module _ (from index word : ℕ) (word_is : word ≡ slice_index_or filled (index / 64) 0) (so_far : AreEmptyFrom sets from index) where
      empty_on : (other number : ℕ) → index ≤ other → other / 64 ≡ index / 64 → bit_at (word / 2 ^ (index % 64)) (other - index) ≡ 0
          → HasState (slice_index_or sets other (record { bits = 0 })) number → ⊥
      empty_on other number above same none =
          let place : index % 64 + (other - index) ≡ other % 64 = omega (arith, above, same) in
          let bit : bit_at (slice_index_or filled (other / 64) 0) (other % 64) ≡ 0 =
          ap (λ n. bit_at (slice_index_or filled n 0) (other % 64)) same ∙ ap (λ n. bit_at n (other % 64)) (sym word_is)
          ∙ ap (bit_at word) (sym place) ∙ sym (bit_of_right_shift word (index % 64) (other - index)) ∙ none in
          empty_there other number bit

      -- no bit is left in the word
      pub word_passed : word / 2 ^ (index % 64) ≡ 0 → AreEmptyFrom sets from (index + (64 - index % 64))
      word_passed nothing = side_by_side from index (index + (64 - index % 64)) so_far (record {
        rises = omega arith;
        empty = λ other number above below.
            empty_on other number above (omega (arith, above, below))
            (ap (λ n. bit_at n (other - index)) nothing ∙ bit_at-zero (other - index));
      })

      -- up to the next bit that is set
      pub next_bit : word < 2 ^ 64 → word / 2 ^ (index % 64) ≢ 0
          → AreEmptyFrom sets from (index + trailing_zeros w64 (word / 2 ^ (index % 64)))
      next_bit small some =
          let bits = word / 2 ^ (index % 64) in
          let positive : 0 < bits = omega (arith, some) in
          let no_more : bits ≤ word = div-le_self word (2 ^ (index % 64)) in
          let lowest = bit_at-trailing_zeros w64 bits positive (omega (arith, small, no_more)) in
          let first = trailing_zeros w64 bits in
          let set : bit_at word (index % 64 + first) ≡ 1 = sym (bit_of_right_shift word (index % 64) first) ∙ lowest.1 in
          let inside : index % 64 + first < 64 = elim (cases_lt (index % 64 + first) 64) [
            | inl low ↦ low
            | inr high ↦ (let none = bit_at_above word 64 (index % 64 + first) small high in absurd (omega (arith, none, set)))
          ] in
          side_by_side from index (index + first) so_far (record {
            rises = omega arith;
            empty = λ other number above below.
                empty_on other number above (omega (arith, above, below, inside)) (lowest.2 (other - index) (omega (arith, above, below)));
          })

    -- ---- backwards: the word of the last index is shifted up, so that this has the highest bit

    module _ (last until word : ℕ) (word_is : word ≡ slice_index_or filled (last / 64) 0)
        (so_far : AreEmptyFrom sets (last + 1) until) where
      empty_back : (other number : ℕ) → other ≤ last → other / 64 ≡ last / 64
          → bit_at (word * 2 ^ (63 - last % 64) % 2 ^ 64) (63 - (last - other)) ≡ 0
          → HasState (slice_index_or sets other (record { bits = 0 })) number → ⊥
      empty_back other number below same none =
          let place : 63 - last % 64 + other % 64 ≡ 63 - (last - other) = omega (arith, below, same) in
          let bit : bit_at (slice_index_or filled (other / 64) 0) (other % 64) ≡ 0 =
          ap (λ n. bit_at (slice_index_or filled n 0) (other % 64)) same ∙ ap (λ n. bit_at n (other % 64)) (sym word_is)
          ∙ sym (bit_of_left_shift word (63 - last % 64) (other % 64) (omega (arith, place)))
          ∙ ap (bit_at (word * 2 ^ (63 - last % 64) % 2 ^ 64)) place ∙ none in
          empty_there other number bit

      -- no bit is before in the word
      pub word_passed_back : word * 2 ^ (63 - last % 64) % 2 ^ 64 ≡ 0 → AreEmptyFrom sets (last - last % 64) until
      word_passed_back nothing = side_by_side (last - last % 64) (last + 1) until (record {
        rises = omega arith;
        empty = λ other number above below. empty_back other number (omega (arith, below)) (omega (arith, above, below))
            (ap (λ n. bit_at n (63 - (last - other))) nothing ∙ bit_at-zero (63 - (last - other)));
      }) so_far

      -- the last bit before is as many places before as there are leading zeros
      pub few_leading : word * 2 ^ (63 - last % 64) % 2 ^ 64 ≢ 0 → leading_zeros w64 (word * 2 ^ (63 - last % 64) % 2 ^ 64) ≤ last % 64
      few_leading some = let below = leading_below word (63 - last % 64) (omega arith) some in omega (arith, below)

      pub last_bit : word * 2 ^ (63 - last % 64) % 2 ^ 64 ≢ 0
          → AreEmptyFrom sets (last + 1 - leading_zeros w64 (word * 2 ^ (63 - last % 64) % 2 ^ 64)) until
      last_bit some =
          let bits = word * 2 ^ (63 - last % 64) % 2 ^ 64 in
          let zeros = leading_zeros w64 bits in
          let few : zeros ≤ last % 64 = few_leading some in
          let small : bits < 2 ^ 64 = omega arith in
          side_by_side (last + 1 - zeros) (last + 1) until (record {
            rises = omega arith;
            empty = λ other number above below. empty_back other number (omega (arith, below)) (omega (arith, above, below, few))
                (none_leading bits (63 - (last - other)) small (omega (arith, above, below, few)));
          }) so_far

-- a set is put at an index, with a word that has the set's bit where the set has a state, and the other bits that were set
pub marked_with : (sets : List StateSet) (filled : List ℕ) (index word put : ℕ) (states : StateSet) → AreMarked sets filled → index < length sets
    → index / 64 < length filled → word ≡ slice_index_or filled (index / 64) 0
    → ((number : ℕ) → HasState states number → bit_at put (index % 64) ≡ 1)
    → ((place : ℕ) → place < 64 → place ≢ index % 64 → bit_at put place ≡ bit_at word place)
    → AreMarked (slice_set sets index states) (slice_set filled (index / 64) put)
marked_with sets filled index word put states marked below there word_is here others =
    let sets_long = length-set sets index states in
    let new = slice_set filled (index / 64) put in
    -- another bit of the word is what it was
    let kept : (other : ℕ) → other / 64 ≡ index / 64 → other ≢ index
    → bit_at (slice_index_or new (other / 64) 0) (other % 64) ≡ bit_at (slice_index_or filled (other / 64) 0) (other % 64) =
    λ other same apart.
    let differ : other % 64 ≢ index % 64 = λ e. apart (omega (arith, e, same)) in
    let read : slice_index_or new (other / 64) 0 ≡ put =
    ap (λ n. slice_index_or new n 0) same ∙ get_or-set_same filled (index / 64) put 0 there in
    let old : word ≡ slice_index_or filled (other / 64) 0 = word_is ∙ ap (λ n. slice_index_or filled n 0) (sym same) in
    ap (λ n. bit_at n (other % 64)) read ∙ others (other % 64) (omega arith) differ ∙ ap (λ n. bit_at n (other % 64)) old in
    record {
      each = λ other number has. elim (cases_eq other index) [
        | inl same ↦
            let put_there : HasState states number =
            subst (λ (s : StateSet). HasState s number) (ap (λ n. slice_index_or (slice_set sets index states) n (record { bits = 0 })) same
            ∙ get_or-set_same sets index states (record { bits = 0 }) below) has in
            subst (λ (n : ℕ). IsBitSet (slice_index_or new (n / 64) 0) (n % 64)) (sym same)
            ((bit_is (slice_index_or new (index / 64) 0) (index % 64)).1
            (ap (λ n. bit_at n (index % 64)) (get_or-set_same filled (index / 64) put 0 there) ∙ here number put_there))
        | inr apart ↦
            let was = marked.each other number
            (subst (λ (s : StateSet). HasState s number) (get_or-set_other sets index other states (record { bits = 0 }) apart) has) in
            elim (cases_eq (other / 64) (index / 64)) [
              | inl same ↦
                  (bit_is (slice_index_or new (other / 64) 0) (other % 64)).1
                  (kept other same apart ∙ (bit_is (slice_index_or filled (other / 64) 0) (other % 64)).0 was)
              | inr elsewhere ↦
                  subst (λ (n : ℕ). IsBitSet n (other % 64)) (sym (get_or-set_other filled (index / 64) (other / 64) put 0 elsewhere)) was
            ]
      ];
      within = λ other set.
          let was : other < length sets = elim (cases_eq other index) [
            | inl same ↦ omega (arith, same, below)
            | inr apart ↦ elim (cases_eq (other / 64) (index / 64)) [
              | inl same ↦
                  marked.within other ((bit_is (slice_index_or filled (other / 64) 0) (other % 64)).1
                  (sym (kept other same apart) ∙ (bit_is (slice_index_or new (other / 64) 0) (other % 64)).0 set))
              | inr elsewhere ↦
                  marked.within other
                  (subst (λ (n : ℕ). IsBitSet n (other % 64)) (get_or-set_other filled (index / 64) (other / 64) put 0 elsewhere) set)
            ]
          ] in
          omega (arith, was, sets_long);
    }

-- and all sets have their bits
with_word : (sets : List StateSet) (filled : List ℕ) (index word put : ℕ) (states : StateSet) → HaveBits sets filled → index < length sets
    → word ≡ slice_index_or filled (index / 64) 0
    → ((number : ℕ) → HasState states number → bit_at put (index % 64) ≡ 1)
    → ((place : ℕ) → place < 64 → place ≢ index % 64 → bit_at put place ≡ bit_at word place)
    → HaveBits (slice_set sets index states) (slice_set filled (index / 64) put)
with_word sets filled index word put states have below word_is here others =
    let count = have.count in
    record {
      count = (
          let sets_long = length-set sets index states in
          let filled_long = length-set filled (index / 64) put in
          omega (arith, count, sets_long, filled_long)
          );
      marked = marked_with sets filled index word put states have.marked below (omega (arith, below, count)) word_is here others;
    }

-- where no set has a state and no bit is set, the sets have their bits
pub none_marked : (sets : List StateSet) (filled : List ℕ)
    → ((index number : ℕ) → HasState (slice_index_or sets index (record { bits = 0 })) number → ⊥)
    → ((word : ℕ) → slice_index_or filled word 0 ≡ 0) → AreMarked sets filled
none_marked sets filled none zero = record {
  each = λ index number has. absurd (none index number has);
  within = λ index set.
      let word = slice_index_or filled (index / 64) 0 in
      let one : bit_at word (index % 64) ≡ 1 = (bit_is word (index % 64)).0 set in
      let no_bit : bit_at word (index % 64) ≡ 0 = ap (λ n. bit_at n (index % 64)) (zero (index / 64)) ∙ bit_at-zero (index % 64) in
      absurd (omega (arith, one, no_bit));
}

-- a set is put at an index, and its bit is set
pub bit_set : (sets : List StateSet) (filled : List ℕ) (index word : ℕ) (states : StateSet) → HaveBits sets filled → index < length sets
    → word ≡ slice_index_or filled (index / 64) 0
    → HaveBits (slice_set sets index states) (slice_set filled (index / 64) (bit_or word (1 * 2 ^ (index % 64) % 2 ^ 64)))
bit_set sets filled index word states have below word_is =
    with_word sets filled index word (bit_or word (1 * 2 ^ (index % 64) % 2 ^ 64)) states have below word_is
    (λ number has. bit_at_set_same w64 word (index % 64) (omega arith))
    (λ place low apart. bit_at_set_other w64 word (index % 64) (omega arith) place apart)

-- a set without states is put at an index, and its bit is taken away
pub bit_cleared : (sets : List StateSet) (filled : List ℕ) (index word : ℕ) (states : StateSet) → HaveBits sets filled → index < length sets
    → word ≡ slice_index_or filled (index / 64) 0 → ((number : ℕ) → HasState states number → ⊥)
    → HaveBits (slice_set sets index states) (slice_set filled (index / 64) (bit_and word (bit_not w64 (1 * 2 ^ (index % 64) % 2 ^ 64))))
bit_cleared sets filled index word states have below word_is none =
    with_word sets filled index word (bit_and word (bit_not w64 (1 * 2 ^ (index % 64) % 2 ^ 64))) states have below word_is
    (λ number has. absurd (none number has))
    (λ place low apart. bit_at_clear_other w64 word (index % 64) (omega arith) place low apart)
