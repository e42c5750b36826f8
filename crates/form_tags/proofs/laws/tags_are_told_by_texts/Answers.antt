use Rattle.form_tags.proofs.TagsByText.{tag_text-is, tag_text-once}
use Rattle.form_tags.proofs.laws.tags_are_told_by_texts.Goals as goal

pub returns : goal.returns
returns c = record { text = tag_text-is; once = tag_text-once }
