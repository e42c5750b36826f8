-- The entrances of a table column by column: each that is pushed stands in the next one; and an index is of a row and a column.
use Rattle.std.proofs.Common.{◌≡◌, inl, inr, ℕ, ◌+◌, ◌*◌, ◌/◌, ◌%◌, ◌^◌, ◌<◌, ◌≤◌, List, [], ◌∷◌, ◌++◌, length, get_or, refl, sym, ◌∙◌, ap, subst, arith}
use Rattle.std.proofs.Math.Nat.{mul_comm}
use Rattle.std.proofs.lemmas.Bool.{cases_lt}
use Rattle.std.proofs.lemmas.Nat.{div_below, mul-lt}
use Rattle.std.proofs.lemmas.List.{get_or_append_left, get_or_at, length_push}
use Rattle.text_definitions.specs.Letters.{IsLetter}
use Rattle.text_definitions.specs.declared.limits.TheConstants.{MOST_LINE_LETTERS}
use Rattle.lexicon_definitions.specs.declared.limits.TheConstants.{MOST_LEADS}
use Rattle.lexicon_definitions.specs.Leads.{Lead}
use Rattle.derivation.specs.Guides.{IsEntranceOver}
use Rattle.derivation.specs.declared.entrance.Entrance.{Entrance}
use Rattle.derivation.specs.declared.entrance.Entrance.TheVariants.{Start, Plain, Lead as ByLead}
use Rattle.summary_chart.specs.declared.table.Table.{Table}
use Rattle.summary_chart.specs.Tables.{IsTable, AreEntrances, IsEntrance, IsIndexed, width_over, column_of}

-- the entrance is the one of this column
pub record StandsIn (leads column : ℕ) (entrance : Entrance) : Type 0 where
  pub is : column_of leads entrance ≡ column
  pub proper : IsEntrance entrance
  pub over : (place : ℕ) → entrance ≡ ByLead place → place < leads

-- these are the entrances of the first columns
pub record AreColumns (leads count : ℕ) (entrances : List Entrance) : Type 0 where
  pub count_is : length entrances ≡ count
  pub each : (column : ℕ) → column < count → StandsIn leads column (get_or entrances column Start)

pub lead_stands : (leads place : ℕ) → place < leads → StandsIn leads place (ByLead place)
lead_stands leads place below = record {
  is = refl;
  proper = tt;
  over = λ other same. let there : place ≡ other = cc in omega (arith, there, below);
}

pub start_stands : (leads : ℕ) → StandsIn leads leads Start
start_stands leads = record { is = refl; proper = tt; over = λ place same. absurd (cc (same)) }

letter_stands : (leads letter : ℕ) → IsLetter letter → StandsIn leads (leads + letter) (Plain letter)
letter_stands leads letter is = record { is = refl; proper = is; over = λ place same. absurd (cc (same)) }

pub no_columns : (leads : ℕ) → AreColumns leads 0 []
no_columns leads = record { count_is = refl; each = λ column below. absurd (omega (arith, below)) }

-- one entrance more
pub one_more : (leads count : ℕ) (entrances : List Entrance) (entrance : Entrance) → AreColumns leads count entrances → StandsIn leads count entrance
    → AreColumns leads (count + 1) (entrances ++ entrance ∷ [])
one_more leads count entrances entrance are stands =
    let count_is = are.count_is in
    record {
      count_is = length_push entrances entrance ∙ ap (λ (n : ℕ). n + 1) count_is;
      each = λ column below. elim (cases_lt column count) [
        | inl before ↦
            let inside : column < length entrances = omega (arith, before, count_is) in
            subst (StandsIn leads column) (sym (get_or_append_left entrances (entrance ∷ []) Start column inside)) (are.each column before)
        | inr last ↦
            let here : count ≡ column = omega (arith, last, below) in
            subst (StandsIn leads column) (sym (get_or_at entrances entrance [] Start column (count_is ∙ here)))
            (subst (λ (n : ℕ). StandsIn leads n entrance) here stands)
      ];
    }

-- one letter more
pub one_letter_more : (leads code letter : ℕ) (entrances : List Entrance) → AreColumns leads (leads + code) entrances → letter ≡ code → IsLetter letter
    → AreColumns leads (leads + (code + 1)) (entrances ++ Plain letter ∷ [])
one_letter_more leads code letter entrances are same is =
    let next : leads + code + 1 ≡ leads + (code + 1) = omega arith in
    subst (λ (n : ℕ). AreColumns leads n (entrances ++ Plain letter ∷ [])) next
    (one_more leads (leads + code) entrances (Plain letter) are
    (subst (λ (n : ℕ). StandsIn leads (leads + n) (Plain letter)) same (letter_stands leads letter is)))

-- all columns have their entrances
pub all_columns : (leads count : ℕ) (entrances : List Entrance) → count ≡ width_over leads → AreColumns leads count entrances → AreEntrances leads entrances
all_columns leads count entrances width are = record {
  width = are.count_is ∙ width;
  columns = λ column below. (are.each column (omega (arith, below, width))).is;
  each = λ column below. (are.each column (omega (arith, below, width))).proper;
  over = λ column place below same. (are.each column (omega (arith, below, width))).over place same;
}

-- the sets of a table are not too many to be counted
pub count_fits : (letters width : ℕ) → letters ≤ MOST_LINE_LETTERS → width ≤ width_over MOST_LEADS → (letters + 1) * width < 2 ^ 64
count_fits letters width short narrow =
    let below = mul-lt (letters + 1) width (MOST_LINE_LETTERS + 2) (width_over MOST_LEADS + 1) (omega (arith, short)) (omega (arith, narrow)) in
    omega (arith, below)

-- ---- the row and the column of an index

is_over : (leads : List Lead) (entrance : Entrance) → ((place : ℕ) → entrance ≡ ByLead place → place < length leads) → IsEntranceOver leads entrance
is_over leads Start within = tt
is_over leads (Plain letter) within = tt
is_over leads (ByLead place) within = within place refl

-- the set at an index is that of the letters of its row, at the entrance of its column
pub indexed_at : (leads : List Lead) (letters index width : ℕ) (table : Table) (entrance : Entrance) → IsTable leads letters table → index < length table.sets.items
    → width ≡ length table.entrances.items → entrance ≡ get_or table.entrances.items (index % width) Start
    → IsIndexed leads letters index (index / width) entrance
indexed_at leads letters index width table entrance is there width_is entrance_is =
    let wide = is.entrances.width in
    let count = is.count in
    let some : 0 < width = omega (arith, width_is, wide) in
    let same_width : width ≡ width_over (length leads) = width_is ∙ wide in
    let column : index % width < width_over (length leads) = omega (arith, some, same_width) in
    let below : index < (letters + 1) * width = subst (λ (w : ℕ). index < (letters + 1) * w) (sym same_width) (omega (arith, there, count)) in
    let row = div_below index width (letters + 1) some below in
    let whole : width * (index / width) + index % width ≡ index = omega (arith, some) in
    let turned : index / width * width ≡ width * (index / width) = mul_comm (index / width) width in
    let column_is : column_of (length leads) entrance ≡ index % width =
    ap (column_of (length leads)) entrance_is ∙ is.entrances.columns (index % width) column in
    record {
      is = subst (λ (w : ℕ). index / width * w + column_of (length leads) entrance ≡ index) same_width (omega (arith, whole, turned, column_is));
      within = omega (arith, row);
      over = is_over leads entrance (λ place same. is.entrances.over (index % width) place column (sym entrance_is ∙ same));
      proper = subst IsEntrance (sym entrance_is) (is.entrances.each (index % width) column);
    }
