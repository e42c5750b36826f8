-- A file is read in one way: the lines decide all but the grammar's text, which has one first fault at most.
use Rattle.std.proofs.Common.{◌≡◌, ℕ, inl, inr, List, sym, ◌∙◌, ap}
use Rattle.lexicon_text_definitions.specs.FileFaults as faults
use Rattle.lexicon_text_definitions.specs.FileReadings.{Reading, Content, Fault as FaultAt, Asks, FileResult, fault_at, IsResult, IsReadAs}
use Rattle.lexicon_definitions.proofs.GrammarFaultCases.{one_first_fault}

one_result : (reading : Reading) (left right : FileResult) → IsResult reading left → IsResult reading right → left ≡ right
one_result (Content told) left right h k = h ∙ sym k
one_result (FaultAt line why) left right h k = h ∙ sym k
one_result (Asks line told after) left right (inl h) (inl k) = one_result after left right h.1 k.1
one_result (Asks line told after) left right (inl h) (inr (fault, first, e)) = absurd (h.0 fault first)
one_result (Asks line told after) left right (inr (fault, first, e)) (inl k) = absurd (k.0 fault first)
one_result (Asks line told after) left right (inr (fault, first, e)) (inr (other, second, f)) =
    e ∙ ap (λ found. fault_at line (faults.Grammar found)) (one_first_fault told.names told.grammar fault other first second) ∙ sym f

pub one_reading : (bytes : List ℕ) (left right : FileResult) → IsReadAs bytes left → IsReadAs bytes right → left ≡ right
one_reading bytes left right h k = one_result _ left right h k
