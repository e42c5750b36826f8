-- The text is read as the note, and as nothing else.
use Rattle.annotation.proofs.NotesRead.{read_back}
use Rattle.annotation.proofs.laws.what_is_written_is_read.Goals as goal

pub returns : goal.returns
returns c = λ lexicon line choices bytes result is limits is_line few over written h.
    let back = c.a_note_is_read_back.ensures.written lexicon line choices bytes.items is limits is_line few over written in
    read_back lexicon line choices bytes.items back.0 result (λ other. c.a_note_is_read_in_one_way.ensures lexicon bytes.items _ other back.1) h
