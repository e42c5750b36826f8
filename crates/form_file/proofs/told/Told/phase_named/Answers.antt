-- The place among the names, as the view shows them.
use Rattle.std.proofs.Common.{map, ◌∙◌, ap, Global}
use Rattle.std.specs.List.{position}
use Rattle.std.specs.Str.{bytes_eq}
use Rattle.std.specs.String.{string_bytes}
use Rattle.lexicon_text_definitions.specs.FileContents.{Told}
use Rattle.form_file.proofs.told.Told.phase_named.Goals as goal

pub returns-clause-named : goal.returns-clause-named
returns-clause-named c =
    c.phase_named.ensures.named
    ∙ ap (position (bytes_eq c.args.name.now)) (ap (map (string_bytes {Z = Global})) c.as_slice.ensures.value ∙ ap (λ (told : Told). told.names) c.self.view_is)
