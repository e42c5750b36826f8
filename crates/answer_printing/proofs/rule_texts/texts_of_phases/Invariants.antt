-- The texts so far are those of the names so far.
use Rattle.std.proofs.Common.{◌≡◌, map, take, string_bytes}
use Rattle.answer_printing.specs.Texts.{joined_phase_text}
use Rattle.answer_printing.proofs.rule_texts.texts_of_phases.Given as goal

abbrev pub invariant-loop-name : goal.invariant-loop-name
invariant-loop-name l = record { so_far : map string_bytes l.texts.items ≡ map joined_phase_text (map string_bytes (take l.name-index l.names)) }
