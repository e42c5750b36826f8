-- A file of any version is read in one way: its first line tells the version, and its lines decide all but the grammar's text, which
-- has one first fault at most.
use Rattle.std.proofs.Common.{◌≡◌, ℕ, inl, inr, Option, Some, None, List, sym, ◌∙◌, ap}
use Rattle.lexicon_definitions.proofs.GrammarFaultCases.{one_first_fault}
use Rattle.lexicon_text_definitions.proofs.OneReading as first
use Rattle.trie_text_definitions.specs.Versions.{Version, version_of}
use Rattle.trie_text_definitions.specs.VersionFaults as faults
use Rattle.trie_text_definitions.specs.VersionFaults.{FileResult, fault_at, same_result}
use Rattle.trie_text_definitions.specs.VersionReadings.{Reading, Content, Fault as FaultAt, Asks, IsResult, IsReadIn, IsReadAs}

one_result : (reading : Reading) (left right : FileResult) → IsResult reading left → IsResult reading right → left ≡ right
one_result (Content told) left right h k = h ∙ sym k
one_result (FaultAt line why) left right h k = h ∙ sym k
one_result (Asks line told after) left right (inl h) (inl k) = one_result after left right h.1 k.1
one_result (Asks line told after) left right (inl h) (inr (fault, found, e)) = absurd (h.0 fault found)
one_result (Asks line told after) left right (inr (fault, found, e)) (inl k) = absurd (k.0 fault found)
one_result (Asks line told after) left right (inr (fault, found, e)) (inr (other, second, f)) =
    e ∙ ap (λ why. fault_at line (faults.Grammar why)) (one_first_fault told.front.names told.front.grammar fault other found second) ∙ sym f

one_in : (version : Option Version) (bytes : List ℕ) (left right : FileResult) → IsReadIn version bytes left → IsReadIn version bytes right → left ≡ right
one_in None bytes left right (told, h, e) (other, k, f) = e ∙ ap same_result (first.one_reading bytes told other h k) ∙ sym f
one_in (Some version) bytes left right h k = one_result _ left right h k

pub one_version_reading : (bytes : List ℕ) (left right : FileResult) → IsReadAs bytes left → IsReadAs bytes right → left ≡ right
one_version_reading bytes left right h k = one_in (version_of bytes) bytes left right h k
