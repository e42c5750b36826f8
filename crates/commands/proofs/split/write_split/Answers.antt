-- The page is written, or the fault of the text.
use Rattle.std.proofs.Common.{refl}
use Rattle.text_definitions.specs.Schemes.{Slp1}
use Rattle.text_definitions.specs.LineTexts.{line_of_text}
use Rattle.text_line.proofs.FaultsTold.{fault_told}
use Rattle.commands.specs.Ends.{Silently, InWords, Nothing, Something}
use Rattle.commands.specs.Splits.{Page, OfText}
use Rattle.commands.proofs.split.write_split.Goals as goal

pub returns-in-Ok-fault : goal.returns-in-Ok-fault
returns-in-Ok-fault g c =
    let misspelled = fault_told c.in-Err.error c.in-Ok-fault.fault (line_of_text Slp1 c.as_bytes.result.now) c.in-Ok-fault.ensures c.in-Err.ensures.fault in
    elim c.refuse_text.ensures [
      | Silently memory same ↦ Nothing memory same
      | InWords finishes ↦ Something _ _ (OfText c.in-Ok-fault.fault refl (rw c.as_bytes.ensures.value at misspelled) refl) finishes
    ]

pub returns-in-Ok-print_split : goal.returns-in-Ok-print_split
returns-in-Ok-print_split g c =
    Something _ _ (Page c.in-Ok.line refl (rw c.as_bytes.ensures.value at c.in-Ok.ensures.ok) c.in-Ok-print_split.ensures.ok)
    (rw (← c.as_bytes-in-Ok-print_split.ensures.value) c.finish.ensures)
