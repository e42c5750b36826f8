-- A line of a form that is taken is ASCII: its name, its words and its tag are.
use Rattle.std.proofs.Common.{◌≡◌, ℕ, true, Some, Ok, List, [], ◌∷◌, ◌++◌, codes, All, refl, sym, ◌∙◌, ap, subst}
use Rattle.std.specs.List.{join_with_byte}
use Rattle.std.specs.Str.{is_utf8}
use Rattle.std.proofs.lemmas.List.Elements.{All-get_or}
use Rattle.std.proofs.lemmas.List.Splits.{join_with_byte-slice_split}
use Rattle.text_definitions.specs.Slp1.{slp1_of_word}
use Rattle.lexicon_definitions.specs.Lexicons.{IsPhaseName}
use Rattle.lexicon_text_definitions.specs.FileLines.{fields_of}
use Rattle.lexicon_text_definitions.specs.FileContents.{Told}
use Rattle.lexicon_text_definitions.specs.FileSteps.{take_form}
use Rattle.lexicon_text_definitions.proofs.CleanBytes.{IsClean, clean_append, clean_utf8, clean_name, clean_word, clean_tag}
use Rattle.lexicon_text_definitions.proofs.LineSteps.{took_form, name_at}

-- a field before a blank and others
before_others : (field others : List ℕ) → IsClean field → IsClean others → IsClean (field ++ 32 ∷ others)
before_others field others f o = clean_append field (32 ∷ others) f (clean_append (32 ∷ []) others refl o)

pub form_utf8 : (told after : Told) (line text : List ℕ) → All IsPhaseName told.names → line ≡ codes "form " ++ text → take_form told (fields_of (Some text)) ≡ Ok after
    → is_utf8 line ≡ true
form_utf8 told after line text names e h =
    let (name, entry, f, m, is) = took_form told after (fields_of (Some text)) h in
    let form = slp1_of_word entry.letters in
    let stem = slp1_of_word entry.analysis.stem in
    let tag = entry.analysis.tag in
    let joined : name ++ 32 ∷ (form ++ 32 ∷ (stem ++ 32 ∷ tag)) ≡ text = ap (join_with_byte 32) (sym f) ∙ join_with_byte-slice_split 32 text in
    let at = name_at told.names name entry.phase m.at in
    let named : IsPhaseName name = subst IsPhaseName (sym at.1) (All-get_or IsPhaseName told.names entry.phase [] at.0 names) in
    let third = before_others stem tag (clean_word entry.analysis.stem m.line_itself.stem) (clean_tag tag m.line_itself.tag) in
    let second = before_others form (stem ++ 32 ∷ tag) (clean_word entry.letters m.line_itself.word) third in
    let first = before_others name (form ++ 32 ∷ (stem ++ 32 ∷ tag)) (clean_name name named) second in
    clean_utf8 line (subst IsClean (sym e) (clean_append (codes "form ") text refl (subst IsClean joined first)))
