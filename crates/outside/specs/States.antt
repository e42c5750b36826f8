-- What contracts see of a device in memory.
use Rattle.std.specs.Prelude.{ℕ, List, Contains, refl}
use Rattle.std.specs.Coded.{Coded, code_by, coded×, coded_ℕ, coded_list}
use Rattle.std.specs.FinMap as map
use Rattle.outside.specs.Counts.{one_more}
use Rattle.outside.specs.Files.{Files}

-- the next call is one of those that are to fail; calls are counted from 1, up to 2 ^ 64 - 1
abbrev pub NextFails : List ℕ → ℕ → Type 0
NextFails failing calls = Contains failing (one_more calls)

-- a sink in memory: the bytes written, the most that a call takes, the numbers of the calls that are to fail,
-- how many calls there were, and how many of them failed
pub record SinkState : Type 0 where
  pub written : List ℕ
  pub piece : ℕ
  pub failing : List ℕ
  pub calls : ℕ
  pub faults : ℕ

-- a source in memory: the bytes left, and the rest as of a sink
pub record SourceState : Type 0 where
  pub left : List ℕ
  pub piece : ℕ
  pub failing : List ℕ
  pub calls : ℕ
  pub faults : ℕ

-- a shelf in memory: the files, the numbers of the calls that are to fail, how many calls there were, and how many
-- reads and writes among them failed
pub record ShelfState : Type 0 where
  pub files : Files
  pub failing : List ℕ
  pub calls : ℕ
  pub failed_reads : ℕ
  pub failed_writes : ℕ

-- it is stored as the tuple of its fields
abbrev pub shelf_code : Coded ShelfState
shelf_code =
    code_by (Files × (List ℕ × (ℕ × (ℕ × ℕ))))
    (coded× (map.code (coded_list coded_ℕ) (coded_list coded_ℕ)) (coded× (coded_list coded_ℕ) (coded× coded_ℕ (coded× coded_ℕ coded_ℕ))))
    (λ s. (s.files, (s.failing, (s.calls, (s.failed_reads, s.failed_writes)))))
    (λ p. record { files = p.0; failing = p.1.0; calls = p.1.1.0; failed_reads = p.1.1.1.0; failed_writes = p.1.1.1.1 })
    (λ _. refl)
