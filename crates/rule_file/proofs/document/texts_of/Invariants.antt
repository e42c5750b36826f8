use Rattle.std.proofs.Common.{◌≡◌, drop, map, Global}
use Rattle.std.specs.String.{string_bytes}
use Rattle.toml.specs.View.{items_view}
use Rattle.rule_file_definitions.specs.RuleTexts.{texts_of}
use Rattle.rule_file.specs.Held.{with_texts}
use Rattle.rule_file.proofs.document.texts_of.Given as goal

abbrev pub invariant-loop-item : goal.invariant-loop-item
invariant-loop-item l =
    with_texts (map (string_bytes {Z = Global}) l.texts.items) (texts_of (items_view (drop l.item-index l.item-items))) ≡ texts_of (items_view l.item-items)
