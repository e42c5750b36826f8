-- Sets that are emptied bit by bit of a word, from its lowest bit on, and word by word; and what is a table, or was one, can be emptied.
use Rattle.std.proofs.Common.{◌≡◌, ◌≢◌, ℕ, ◌+◌, ◌*◌, ◌/◌, ◌%◌, ◌^◌, ◌<◌, ◌≤◌, inl, inr, List, length, slice_index_or, slice_set, bit_and, sym, ap, subst, ◌∙◌, arith}
use Rattle.std.specs.Int.{bit_at, bit_not, trailing_zeros, w64}
use Rattle.std.proofs.lemmas.Bool.{cases_lt}
use Rattle.std.proofs.lemmas.List.{length-set, get_or_past, get_or-set_same, get_or-set_other, set-set, set-get_or}
use Rattle.std.proofs.lemmas.Nat.{and_le_l}
use Rattle.std.proofs.lemmas.Nat.Bits.{bit_at-zero, bit_at-trailing_zeros, bit_at_clear_same, bit_at_clear_other}
use Rattle.lexicon_definitions.specs.Leads.{Lead}
use Rattle.summary_chart.specs.declared.state_set.StateSet.{StateSet}
use Rattle.summary_chart.specs.declared.table.Table.{Table}
use Rattle.summary_chart.specs.StateSets.{HasState}
use Rattle.summary_chart.specs.Tables.{AreEntrances, AreMarked, CanBeEmptied, IsTable}
use Rattle.summary_chart.proofs.SetBits.{bit_is}
use Rattle.summary_chart.proofs.FilledSets.{marked_with}
use Rattle.summary_chart.proofs.TableStates.{same_leads}

-- the word without its lowest bit
abbrev pub without_first : ℕ → ℕ
without_first bits = bit_and bits (bit_not w64 (1 * 2 ^ trailing_zeros w64 bits % 2 ^ 64))

module _ (sets : List StateSet) (filled : List ℕ) (word bits : ℕ) (there : word < length filled)
    (marked : AreMarked sets (slice_set filled word bits)) (some : bits ≢ 0) (small : bits < 2 ^ 64) where
  abbrev index : ℕ
  index = word * 64 + trailing_zeros w64 bits

  lowest : (trailing_zeros w64 bits < 64) × (bit_at bits (trailing_zeros w64 bits) ≡ 1)
  lowest = (let first = bit_at-trailing_zeros w64 bits (omega (arith, some)) small in (first.0, first.1))

  in_word : index / 64 ≡ word
  in_word = let low = lowest.0 in omega (arith, low)

  at_bit : index % 64 ≡ trailing_zeros w64 bits
  at_bit = let low = lowest.0 in omega (arith, low)

  read : slice_index_or (slice_set filled word bits) (index / 64) 0 ≡ bits
  read = ap (λ n. slice_index_or (slice_set filled word bits) n 0) in_word ∙ get_or-set_same filled word bits 0 there

  -- there is a set of the lowest bit
  pub first_within : index < length sets
  first_within =
      marked.within index ((bit_is (slice_index_or (slice_set filled word bits) (index / 64) 0) (index % 64)).1
      (ap (λ n. bit_at n (index % 64)) read ∙ ap (bit_at bits) at_bit ∙ lowest.1))

  -- it is emptied, and its bit is taken away
  pub first_emptied : (empty : StateSet) → ((number : ℕ) → HasState empty number → ⊥)
      → AreMarked (slice_set sets index empty) (slice_set filled word (without_first bits))
  first_emptied empty none =
      let long = length-set filled word bits in
      let put = without_first bits in
      let one_less = marked_with sets (slice_set filled word bits) index bits put empty marked first_within
      (let same = in_word in omega (arith, same, there, long)) (sym read)
      (λ number has. absurd (none number has))
      (λ place low apart. bit_at_clear_other w64 bits (trailing_zeros w64 bits) lowest.0 place low (λ e. apart (e ∙ sym at_bit))) in
      subst (AreMarked (slice_set sets index empty))
      (ap (λ n. slice_set (slice_set filled word bits) n put) in_word ∙ set-set filled word bits put) one_less

  -- and the word has become less
  pub fewer_bits : without_first bits < bits
  fewer_bits =
      let put = without_first bits in
      let cleared : bit_at put (trailing_zeros w64 bits) ≡ 0 = bit_at_clear_same w64 bits (trailing_zeros w64 bits) lowest.0 in
      let lower : put ≤ bits = and_le_l bits (bit_not w64 (1 * 2 ^ trailing_zeros w64 bits % 2 ^ 64)) in
      let one = lowest.1 in
      let differ : put ≢ bits = λ e. omega (arith, cleared, one, ap (λ n. bit_at n (trailing_zeros w64 bits)) e) in
      omega (arith, lower, differ)

-- a word with the bits that it has
pub same_word : (sets : List StateSet) (filled : List ℕ) (word bits : ℕ) → bits ≡ slice_index_or filled word 0 → AreMarked sets filled
    → AreMarked sets (slice_set filled word bits)
same_word sets filled word bits is marked =
    subst (AreMarked sets) (sym (ap (slice_set filled word) is ∙ set-get_or filled word 0)) marked

-- where no bit is set, all sets are empty
pub all_emptied : (sets : List StateSet) (filled : List ℕ) → AreMarked sets filled → ((word : ℕ) → slice_index_or filled word 0 ≡ 0)
    → (index number : ℕ) → HasState (slice_index_or sets index (record { bits = 0 })) number → ⊥
all_emptied sets filled marked zero index number has =
    let word = slice_index_or filled (index / 64) 0 in
    let one : bit_at word (index % 64) ≡ 1 = (bit_is word (index % 64)).0 (marked.each index number has) in
    let no_bit : bit_at word (index % 64) ≡ 0 = ap (λ n. bit_at n (index % 64)) (zero (index / 64)) ∙ bit_at-zero (index % 64) in
    omega (arith, one, no_bit)

-- one word more that is 0, or becomes it
pub zero_here : (filled : List ℕ) (count : ℕ) → slice_index_or filled count 0 ≡ 0 → ((word : ℕ) → word < count → slice_index_or filled word 0 ≡ 0)
    → (word : ℕ) → word < count + 1 → slice_index_or filled word 0 ≡ 0
zero_here filled count here zero word below = elim (cases_lt word count) [
  | inl low ↦ zero word low
  | inr high ↦ (let same : word ≡ count = omega (arith, below, high) in ap (λ n. slice_index_or filled n 0) same ∙ here)
]

pub zero_more : (filled : List ℕ) (count : ℕ) → count < length filled → ((word : ℕ) → word < count → slice_index_or filled word 0 ≡ 0)
    → (word : ℕ) → word < count + 1 → slice_index_or (slice_set filled count 0) word 0 ≡ 0
zero_more filled count there zero =
    zero_here (slice_set filled count 0) count (get_or-set_same filled count 0 0 there)
    (λ word low. get_or-set_other filled count word 0 0 (λ e. omega (arith, e, low)) ∙ zero word low)

-- words that are 0 up to the last one are all 0
pub all_zero : (filled : List ℕ) (count : ℕ) → length filled ≤ count → ((word : ℕ) → word < count → slice_index_or filled word 0 ≡ 0)
    → (word : ℕ) → slice_index_or filled word 0 ≡ 0
all_zero filled count enough zero word = elim (cases_lt word count) [
  | inl low ↦ zero word low
  | inr high ↦ get_or_past filled word 0 (omega (arith, enough, high))
]

-- sets that are empty, and others after them that are
pub resized_none : (old new : List StateSet) (empty : StateSet) → ((number : ℕ) → HasState empty number → ⊥)
    → ((index number : ℕ) → HasState (slice_index_or old index (record { bits = 0 })) number → ⊥)
    → ((index : ℕ) → index < length old → index < length new
    → slice_index_or new index (record { bits = 0 }) ≡ slice_index_or old index (record { bits = 0 }))
    → ((index : ℕ) → length old ≤ index → index < length new → slice_index_or new index (record { bits = 0 }) ≡ empty)
    → (index number : ℕ) → HasState (slice_index_or new index (record { bits = 0 })) number → ⊥
resized_none old new empty none were kept added index number has = elim (cases_lt index (length new)) [
  | inl there ↦ elim (cases_lt index (length old)) [
    | inl before ↦ were index number (subst (λ (s : StateSet). HasState s number) (kept index before there) has)
    | inr after ↦ none number (subst (λ (s : StateSet). HasState s number) (added index after there) has)
  ]
  | inr past ↦
      let no_set = subst (λ (s : StateSet). HasState s number) (get_or_past new index (record { bits = 0 }) past) has in
      let one : bit_at 0 number ≡ 1 = (bit_is 0 number).0 no_set in
      let no_bit : bit_at 0 number ≡ 0 = bit_at-zero number in
      omega (arith, one, no_bit)
]

-- words that are 0, and others after them that are
pub resized_zero : (old new : List ℕ) → ((word : ℕ) → slice_index_or old word 0 ≡ 0)
    → ((word : ℕ) → word < length old → word < length new → slice_index_or new word 0 ≡ slice_index_or old word 0)
    → ((word : ℕ) → length old ≤ word → word < length new → slice_index_or new word 0 ≡ 0)
    → (word : ℕ) → slice_index_or new word 0 ≡ 0
resized_zero old new were kept added word = elim (cases_lt word (length new)) [
  | inl there ↦ elim (cases_lt word (length old)) [
    | inl before ↦ kept word before there ∙ were word
    | inr after ↦ added word after there
  ]
  | inr past ↦ get_or_past new word 0 past
]

-- a table can be emptied
pub can_be_emptied : (leads : List Lead) (letters : ℕ) (table : Table) → IsTable leads letters table → CanBeEmptied table
can_be_emptied leads letters table is = record {
  marked = is.bits.marked;
  entrances = λ wide. subst (λ (n : ℕ). AreEntrances n table.entrances.items) (sym (same_leads leads letters table is)) is.entrances;
}
