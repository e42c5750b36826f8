-- A word has letters, and a tag's text is one.
use Rattle.std.proofs.Common.{arith}
use Rattle.form_tags.proofs.TagsByText.{tag_text-is}
use Rattle.shared_trie.proofs.canonical_lines.push_delta.Goals as goal

pub returns-clause-printable : goal.returns-clause-printable
returns-clause-printable c = record { cut = omega arith; word = c.as_slice.ensures.word; tag = tag_text-is c.args.delta.now.tag }
