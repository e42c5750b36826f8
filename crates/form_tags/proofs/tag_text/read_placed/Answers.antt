-- The three parts are the text's.
use Rattle.std.proofs.Common.{rules, ◌≡◌, ◌-◌, IfSome, length, take, drop}
use Rattle.lexicon_definitions.specs.Tags.{before_dot}
use Rattle.form_tags.specs.TagTexts.{tag_text}
use Rattle.form_tags.proofs.PlacedDots.{placed_parts}
use Rattle.form_tags.proofs.tag_text.read_placed.Goals as goal

pub returns : goal.returns
returns c =
    let text = c.args.text.now in
    let whole = placed_parts text c.in-46.len_at_least (search rules) (search rules) in
    let read : IfSome c.read_nominal.result (λ tag. tag_text tag ≡ before_dot (take 1 text) (before_dot (take 2 (drop 2 text)) (take (length text - 5) (drop 5 text)))) =
    c.read_nominal.ensures.value in
    rw whole at read
