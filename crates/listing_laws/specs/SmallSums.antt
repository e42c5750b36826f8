-- A small case: the ways to write a number as a sum.
use Rattle.std.specs.Prelude.{◌≡◌, ℕ, zero, suc, ◌+◌, ◌-◌, ◌<◌, List, [], ◌∷◌, Some, None}
use Rattle.std.specs.Ordering.{nat_cmp}
use Rattle.listing_laws.specs.Ways.{Ways}
use Rattle.listing_laws.specs.Listings.{Edge}

-- a configuration is the sum so far, and a branch is the next summand: it leads on below the total, and ends there
abbrev pub sums : ℕ → Ways ℕ ℕ
sums total = record {
  compare = nat_cmp;
  ends = λ at summand. (0 < summand) × (at + summand ≡ total);
  leads = λ at summand next. (0 < summand) × (next ≡ at + summand) × (next < total);
}

-- the edges with this summand and greater ones, of which this many lead on
abbrev pub edges_from : ℕ → ℕ → ℕ → List (Edge ℕ ℕ)
edges_from at summand zero = record { branch = summand; next = None } ∷ []
edges_from at summand (suc more) = record { branch = summand; next = Some (at + summand) } ∷ edges_from at (suc summand) more

-- the edges where this much is missing
abbrev pub edges_missing : ℕ → ℕ → List (Edge ℕ ℕ)
edges_missing at zero = []
edges_missing at (suc more) = edges_from at 1 more

-- the edges at each sum so far
abbrev pub edges_of_sums : ℕ → ℕ → List (Edge ℕ ℕ)
edges_of_sums total at = edges_missing at (total - at)
