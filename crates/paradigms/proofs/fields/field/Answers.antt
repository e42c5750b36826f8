use Rattle.std.proofs.Common.{◌≡◌, Option, Some, None, List, ℕ, Bor, rules, sym}
use Rattle.std.specs.Option.{IsSome, option_map}
use Rattle.csv.specs.Records.{fields_of, field_at}
use Rattle.csv.proofs.RecordFacts.{field-there}
use Rattle.paradigms.proofs.fields.field.Goals as goal

is_there : (o : Option (Bor (List ℕ))) (b : Option (List ℕ)) → option_map (λ (s : Bor (List ℕ)). s.now) o ≡ b → (b ≡ None → ⊥) → IsSome o
is_there None b e n = absurd (n (sym e))
is_there (Some field) b e n = search rules

pub unwrap-requires : goal.unwrap-requires
unwrap-requires c =
    is_there c.get.result (field_at (fields_of c.args.csv_record.now) c.args.place) c.get.ensures.value (field-there (fields_of c.args.csv_record.now) c.args.place c.requires)
