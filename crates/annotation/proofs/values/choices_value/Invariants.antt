-- The values so far are the texts of the choices so far.
use Rattle.std.proofs.Common.{◌≡◌, map, take}
use Rattle.serde_json.specs.Data.{string}
use Rattle.serde_json.specs.View.{view}
use Rattle.bookmark_definitions.specs.BookmarkTexts.{text_of_choice}
use Rattle.annotation.proofs.values.choices_value.Given as goal

abbrev pub invariant-loop-choice : goal.invariant-loop-choice
invariant-loop-choice l = map view l.list.items ≡ map string (map text_of_choice (take l.choice-index l.choices))
