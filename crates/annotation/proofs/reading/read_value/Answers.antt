-- By what the reader of JSON says.
use Rattle.std.proofs.Common.{refl}
use Rattle.annotation.proofs.NotesRead.{value_told, no_value_told}
use Rattle.annotation.proofs.reading.read_value.Goals as goal

pub returns-in-Ok-clause-value : goal.returns-in-Ok-clause-value
returns-in-Ok-clause-value c = value_told c.args.bytes.now _ c.in-Ok.ensures.ok.0 c.in-Ok.ensures.ok.1

pub returns-in-Err-2-clause-value : goal.returns-in-Err-2-clause-value
returns-in-Err-2-clause-value c =
    (refl, no_value_told c.args.bytes.now (c.in-Err.ensures.err (λ memory. let no = c.if-is_memory.ensures.1 memory in absurd (cc))))
