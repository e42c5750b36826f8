-- `unfolding mark_bytes` lets the check compute with which mark some bytes begin.
use Rattle.std.specs.Char.{encode_utf8}
use Rattle.conversion_definitions.specs.Marks.{latin_marks, devanagari_marks, marks_to_latin, marks_to_devanagari}

unfoldable pub mark_bytes : Unit {0}
unfolding latin_marks devanagari_marks marks_to_latin marks_to_devanagari encode_utf8
mark_bytes = tt
