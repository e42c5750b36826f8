-- Why a text is not read as a note (own).

-- the reasons, in the order in which a text is tested for them: it is no JSON text; its members are not those of a note, or
-- hold something of another kind; its text is no line; its choices are not such as the lexicon may have, or too many; its
-- line and choices have no answer, or several; its value is not that of their note
pub data Why : Type 0 where
  Json : Why
  Shape : Why
  Text : Why
  Choice : Why
  NotOnly : Why
  Segments : Why
