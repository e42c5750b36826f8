-- In a table the index of a place tells its letters and its entrance, and rises with the rank: by cases on the entrances, whose
-- columns are below the width of a row.
use Rattle.std.proofs.Common.{◌≡◌, ℕ, suc, ◌+◌, ◌*◌, ◌<◌, ◌≤◌, ◌⊎◌, inl, inr, List, [], length, refl, ap, arith}
use Rattle.std.proofs.Math.Nat.{suc-mul, mul-le-mul_right}
use Rattle.std.proofs.lemmas.Bool.{cases_lt}
use Rattle.std.proofs.lemmas.List.Elements.{Contains-get_or}
use Rattle.text_definitions.specs.Lines.{Line}
use Rattle.lexicon_definitions.specs.Leads.{Lead, leads_of}
use Rattle.lexicon_definitions.specs.Rules.{Rule}
use Rattle.lexicon_definitions.proofs.LeadLaws.{Contains-leads_of}
use Rattle.segmentation_definitions.specs.Items.{after_lead}
use Rattle.segmentation_definitions.proofs.Coverings.{some_letters}
use Rattle.segmentation_definitions.proofs.RisingRanks.{after_lead_cases}
use Rattle.derivation.specs.Guides.{IsEntranceOver, entrance_of, lead_at}
use Rattle.derivation.specs.declared.entrance.Entrance.{Entrance}
use Rattle.derivation.specs.declared.entrance.Entrance.TheVariants.{Start, Plain, Lead as ByLead}
use Rattle.answer_paths.specs.Fronts.{supplied}
use Rattle.annotated_trie.specs.Searched.{SearchedLexicon}
use Rattle.search_frames.specs.declared.configuration.Configuration.{Configuration}
use Rattle.search_frames.specs.Configurations.{rules_in}
use Rattle.search_frames.specs.Frames.{IsConfigurationIn, numbered_of}
use Rattle.search_frames.specs.Reached.{rank}
use Rattle.summary_chart.specs.Tables.{IsEntrance, width_over, column_of, index_of}
use Rattle.summary_chart.specs.Spreading.{leads_in}
use Rattle.summary_chart.specs.Charts.{index_of_place}

-- ---- columns

pub column_within : (leads : List Lead) (entrance : Entrance) → IsEntrance entrance → IsEntranceOver leads entrance
    → column_of (length leads) entrance < width_over (length leads)
column_within leads Start proper over = omega arith
column_within leads (Plain letter) proper over = omega arith
column_within leads (ByLead place) proper over = omega arith

pub same_column : (leads : List Lead) (entrance other : Entrance) → IsEntrance entrance → IsEntrance other → IsEntranceOver leads entrance
    → IsEntranceOver leads other → column_of (length leads) entrance ≡ column_of (length leads) other → entrance ≡ other
same_column leads Start Start proper other_proper over other_over same = refl
same_column leads Start (Plain letter) proper other_proper over other_over same = absurd (omega arith)
same_column leads Start (ByLead place) proper other_proper over other_over same = absurd (omega arith)
same_column leads (Plain letter) Start proper other_proper over other_over same = absurd (omega arith)
same_column leads (Plain letter) (Plain other) proper other_proper over other_over same =
    let e : letter ≡ other = omega arith in ap Plain e
same_column leads (Plain letter) (ByLead place) proper other_proper over other_over same = absurd (omega arith)
same_column leads (ByLead place) Start proper other_proper over other_over same = absurd (omega arith)
same_column leads (ByLead place) (Plain letter) proper other_proper over other_over same = absurd (omega arith)
same_column leads (ByLead place) (ByLead other) proper other_proper over other_over same = ap ByLead same

-- ---- rows

-- rows that begin at multiples of the width do not overlap
pub row_after : (width a b : ℕ) → a < b → a * width + width ≤ b * width
row_after width a b low =
    let more = suc-mul a width in
    let le : suc a ≤ b = omega arith in
    let most = mul-le-mul_right width le in
    omega (arith, more, most)

pub record IsSameCell (a b column other : ℕ) : Type 0 where
  pub row : a ≡ b
  pub column_is : column ≡ other

pub same_cell : (width a b column other : ℕ) → column < width → other < width → a * width + column ≡ b * width + other
    → IsSameCell a b column other
same_cell width a b column other within other_within same = elim (cases_lt a b) [
  | inl low ↦ (let after = row_after width a b low in absurd (omega (arith, after)))
  | inr high ↦ elim (cases_lt b a) [
    | inl low ↦ (let after = row_after width b a low in absurd (omega (arith, after)))
    | inr same_row ↦
        let row : a ≡ b = omega arith in
        let begins = ap (λ (n : ℕ). n * width) row in
        record { row = row; column_is = omega (arith, begins) }
  ]
]

-- ---- places

-- the index of a place tells its letters and its entrance
pub record IsSamePlace (at other_at : ℕ) (entrance other : Entrance) : Type 0 where
  pub at_is : at ≡ other_at
  pub entrance_is : entrance ≡ other

pub same_index : (leads : List Lead) (at other_at : ℕ) (entrance other : Entrance) → IsEntrance entrance → IsEntrance other
    → IsEntranceOver leads entrance → IsEntranceOver leads other → index_of (length leads) at entrance ≡ index_of (length leads) other_at other
    → IsSamePlace at other_at entrance other
same_index leads at other_at entrance other proper other_proper over other_over same =
    let cell = same_cell (width_over (length leads)) at other_at (column_of (length leads) entrance) (column_of (length leads) other)
    (column_within leads entrance proper over) (column_within leads other other_proper other_over) same in
    record { at_is = cell.row; entrance_is = same_column leads entrance other proper other_proper over other_over cell.column_is }

-- the v of a lead is not empty
lead_has_letters : (rules : List Rule) (place : ℕ) → place < length (leads_of rules) → 0 < length (lead_at (leads_of rules) place).v
lead_has_letters rules place over =
    let lead = lead_at (leads_of rules) place in
    let (rule, among, inner, v, after) = (Contains-leads_of rules lead).0 (Contains-get_or (leads_of rules) place (record { v = []; after = 0 }) over) in
    let some = some_letters inner in
    let same = ap length v in
    omega (arith, some, same)

-- the leads come first in a row, and only with them a rule supplies letters
column_cases : (rules : List Rule) (entrance : Entrance) → IsEntranceOver (leads_of rules) entrance
    → ((column_of (length (leads_of rules)) entrance < length (leads_of rules)) × (after_lead (length (supplied (entrance_of (leads_of rules) entrance))) ≡ 0))
    ⊎ ((length (leads_of rules) ≤ column_of (length (leads_of rules)) entrance) × (after_lead (length (supplied (entrance_of (leads_of rules) entrance))) ≡ 1))
column_cases rules Start over = inr (omega arith, refl)
column_cases rules (Plain letter) over = inr (omega arith, refl)
column_cases rules (ByLead place) over =
    inl (
      over,
      elim (after_lead_cases (length (lead_at (leads_of rules) place).v)) [
        | inl (none, is) ↦ (let some = lead_has_letters rules place over in absurd (omega (arith, some, none)))
        | inr (some, is) ↦ is
      ],
    )

-- a place of higher rank stands later
pub later_place : (searched : SearchedLexicon) (line : Line) (place other : Configuration) → IsEntrance place.entrance → IsConfigurationIn searched line place
    → IsConfigurationIn searched line other → rank (numbered_of searched place) < rank (numbered_of searched other)
    → index_of_place searched place < index_of_place searched other
later_place searched line place other proper within other_within higher =
    let rules = (rules_in searched).rules in
    let width = width_over (length (leads_in searched)) in
    let column = column_within (leads_in searched) place.entrance proper within.over in
    let here = column_cases rules place.entrance within.over in
    let there = column_cases rules other.entrance other_within.over in
    elim (cases_lt place.at other.at) [
      | inl low ↦ (let after = row_after width place.at other.at low in omega (arith, after, column))
      | inr high ↦
          let row : place.at ≡ other.at = elim here [ inl h ↦ elim there [ inl t ↦ omega arith | inr t ↦ omega arith ] | inr h ↦ elim there [ inl t ↦ omega arith | inr t ↦ omega arith ] ] in
          let begins = ap (λ (n : ℕ). n * width) row in
          elim here [
            | inl h ↦ elim there [ inl t ↦ absurd (omega arith) | inr t ↦ omega (arith, begins, row, h.0, t.0) ]
            | inr h ↦ elim there [ inl t ↦ absurd (omega arith) | inr t ↦ absurd (omega arith) ]
          ]
    ]
