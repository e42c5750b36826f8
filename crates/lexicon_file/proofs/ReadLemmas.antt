-- One line more: what is read from the next line on is what is read from this one on, unless it is refused; and what was told at the end is
-- a lexicon with a shared trie.
use Rattle.std.proofs.Common.{◌≡◌, ℕ, ◌+◌, ◌⊎◌, inl, inr, Ok, Err, List, [], ◌∷◌, refl, sym, ◌∙◌, ap, subst}
use Rattle.lexicon_definitions.specs.GrammarFaults.{IsGrammarTextWithinLimits}
use Rattle.lexicon_definitions.specs.Lexicons.{IsRuleSet}
use Rattle.lexicon_definitions.specs.Limits.{IsRuleSetWithinLimits}
use Rattle.lexicon_definitions.specs.Tries.{IsTrieOf}
use Rattle.lexicon_text_definitions.specs.FileContents.{rules_told}
use Rattle.lexicon_text_definitions.specs.FileLines.{Line, lines_of_bytes}
use Rattle.trie_text_definitions.specs.TrieForms.{phases_of}
use Rattle.trie_text_definitions.specs.Versions.{Version}
use Rattle.trie_text_definitions.specs.VersionFaults as faults
use Rattle.trie_text_definitions.specs.VersionFaults.{NoEnd, FileResult, fault_at}
use Rattle.trie_text_definitions.specs.VersionReadings.{Reading, Content, asking, read_on, read_lines, at_end, lexicon_told, IsResult}
use Rattle.trie_text_definitions.specs.VersionSteps.{Kind, Head, Phase, Grammar, Plain, Rules, Node, Root, End, Told, Taken, head_told, trie_told, take_line}
use Rattle.trie_text_definitions.proofs.LexiconsTold.{lexicon_itself, limits}
use Rattle.trie_text_definitions.proofs.TrieTextsRead.{ordered}
use Rattle.trie_text_definitions.proofs.VersionsTold.{Tells, IsRead, read_all, head_lawful}
use Rattle.lexicon_file.specs.Contents.{error_of, IfFault}
use Rattle.lexicon_file.specs.Faults.{why_of}
use Rattle.lexicon_file.specs.Told.{IsGrammarFault, IsLineAnswer, IsNoEnd}
use Rattle.lexicon_file.specs.declared.error.FileError.{FileError}
use Rattle.lexicon_file.specs.declared.error.FileWhy.{FileWhy}
use Rattle.lexicon_file.specs.declared.take_error.TakeError.{TakeError}
use Rattle.lexicon_file.specs.declared.take_error.TakeError.TheVariants.{Why, Memory}

-- the text of a grammar, told in the last line, is one within the limits
abbrev HasGoodGrammar : Told → Type 0
HasGoodGrammar after = after.last ≡ Grammar → IsGrammarTextWithinLimits after.front.names after.front.grammar

by_kind : (last : Kind) (number : ℕ) (after : Told) (rest : Reading) (result : FileResult) → (last ≡ Grammar → IsGrammarTextWithinLimits after.front.names after.front.grammar)
    → IsResult rest result → IsResult (asking last number after rest) result
by_kind Grammar number after rest result g r = inl (g refl, r)
by_kind last number after rest result g r = r

told_by_kind : (version : Version) (last : Kind) (number : ℕ) (after : Told) (rest : Reading) (content : Told) → (last ≡ Grammar → IsGrammarTextWithinLimits after.front.names after.front.grammar)
    → Tells IsGrammarTextWithinLimits version rest content → Tells IsGrammarTextWithinLimits version (asking last number after rest) content
told_by_kind version Grammar number after rest content g r = (g refl, r)
told_by_kind version last number after rest content g r = r

asked_by : (last : Kind) (number : ℕ) (rest : Reading) (why : faults.Why) (taken : Taken) → (h : IsGrammarFault taken why) → h.told.last ≡ last → IsResult (asking last number h.told rest) (fault_at number why)
asked_by Grammar number rest why taken h e = inr (h.fault, h.first, ap (fault_at number) h.is)
asked_by Head number rest why taken h e = absurd (cc (e, h.grammar_line))
asked_by Phase number rest why taken h e = absurd (cc (e, h.grammar_line))
asked_by Plain number rest why taken h e = absurd (cc (e, h.grammar_line))
asked_by Rules number rest why taken h e = absurd (cc (e, h.grammar_line))
asked_by Node number rest why taken h e = absurd (cc (e, h.grammar_line))
asked_by Root number rest why taken h e = absurd (cc (e, h.grammar_line))
asked_by End number rest why taken h e = absurd (cc (e, h.grammar_line))

-- after the last line
ended_by : (last : Kind) (told : Told) (number : ℕ) → last ≡ End → at_end last number told ≡ Content told
ended_by last told number e = ap (λ (last : Kind). at_end last number told) e

not_ended : (last : Kind) (told : Told) (number : ℕ) → (last ≡ End → ⊥) → IsResult (at_end last number told) (fault_at number NoEnd)
not_ended End told number n = absurd (n refl)
not_ended last told number n = refl

module _ (version : Version) (whole : Reading) where
  -- what is read from here on is what is read in all
  abbrev pub Reads : Told → ℕ → List ℕ → Type 0
  Reads told number rest = (result : FileResult) → IsResult (read_lines version told number (lines_of_bytes rest)) result → IsResult whole result

  -- and what is told
  abbrev pub GoesOn : Told → ℕ → List ℕ → Type 0
  GoesOn told number rest =
      (content : Told) → Tells IsGrammarTextWithinLimits version (read_lines version told number (lines_of_bytes rest)) content → Tells IsGrammarTextWithinLimits version whole content

  module _ (told : Told) (number : ℕ) (rest following : List ℕ) (line : Line) (cut : lines_of_bytes rest ≡ line ∷ lines_of_bytes following) where
    abbrev read_by : Taken → Reading
    read_by taken = read_on number taken (λ (after : Told). read_lines version after (number + 1) (lines_of_bytes following))

    by_line : (taken : Taken) → take_line version told line ≡ taken → read_by taken ≡ read_lines version told number (lines_of_bytes rest)
    by_line taken e = ap read_by (sym e) ∙ ap (read_lines version told number) (sym cut)

    pub reads_on : (after : Told) → Reads told number rest → take_line version told line ≡ Ok after → HasGoodGrammar after → Reads after (number + 1) following
    reads_on after h e g result r =
        h result (subst (λ (reading : Reading). IsResult reading result) (by_line (Ok after) e) (by_kind after.last number after _ result g r))

    pub tells_on : (after : Told) → GoesOn told number rest → take_line version told line ≡ Ok after → HasGoodGrammar after → GoesOn after (number + 1) following
    tells_on after h e g content r =
        h content (subst (λ (reading : Reading). Tells IsGrammarTextWithinLimits version reading content) (by_line (Ok after) e) (told_by_kind version after.last number after _ content g r))

    -- a refused line is the first fault
    pub refused : (why : faults.Why) → Reads told number rest → (take_line version told line ≡ Err why) ⊎ IsGrammarFault (take_line version told line) why → IsResult whole (fault_at number why)
    refused why h (inl e) = h (fault_at number why) (subst (λ (reading : Reading). IsResult reading (fault_at number why)) (by_line (Err why) e) refl)
    refused why h (inr g) =
        h (fault_at number why) (subst (λ (reading : Reading). IsResult reading (fault_at number why)) (by_line (Ok g.told) g.taken_so) (asked_by g.told.last number _ why (take_line version told line) g refl))

  module _ (told : Told) (number : ℕ) (rest : List ℕ) (none : rest ≡ []) where
    at_last : at_end told.last number told ≡ read_lines version told number (lines_of_bytes rest)
    at_last = ap (λ (bytes : List ℕ). read_lines version told number (lines_of_bytes bytes)) (sym none)

    -- so is the end that is missing
    pub end_missing : Reads told number rest → (told.last ≡ End → ⊥) → IsResult whole (fault_at number NoEnd)
    end_missing h n = h (fault_at number NoEnd) (subst (λ (reading : Reading). IsResult reading (fault_at number NoEnd)) at_last (not_ended told.last told number n))

    pub read_at_end : Reads told number rest → told.last ≡ End → IsResult whole (Ok (lexicon_told told))
    read_at_end h last = h (Ok (lexicon_told told)) (subst (λ (reading : Reading). IsResult reading (Ok (lexicon_told told))) (sym (ended_by told.last told number last) ∙ at_last) refl)

    pub told_at_end : GoesOn told number rest → told.last ≡ End → Tells IsGrammarTextWithinLimits version whole told
    told_at_end h last = h told (subst (λ (reading : Reading). Tells IsGrammarTextWithinLimits version reading told) (sym (ended_by told.last told number last) ∙ at_last) refl)

-- ---- faults

-- a line that is refused is where the first fault is; want of memory says nothing
pub line_fault : (A : Type 0) (version : Version) (whole : Reading) (told after : Told) (number : ℕ) (rest following : List ℕ) (line : Line) (error : TakeError) (fault : FileError)
    → lines_of_bytes rest ≡ line ∷ lines_of_bytes following → Reads version whole told number rest → IsLineAnswer {A = A} (take_line version told line) (Err error) after
    → fault ≡ error_of number error → IfFault fault (λ fault. IsResult whole (Err fault))
line_fault A version whole told after number rest following line (Why why) fault cut h taken e =
    subst (λ (f : FileError). IfFault f (λ fault. IsResult whole (Err fault))) (sym e) (refused version whole told number rest following line cut (why_of why) h taken)
line_fault A version whole told after number rest following line Memory fault cut h taken e =
    subst (λ (f : FileError). IfFault f (λ fault. IsResult whole (Err fault))) (sym e) tt

-- and so is the end that is missing
pub end_fault : (version : Version) (whole : Reading) (told : Told) (number : ℕ) (rest : List ℕ) (error : TakeError) (fault : FileError) → rest ≡ [] → Reads version whole told number rest
    → IsNoEnd error (told.last ≡ End) → fault ≡ error_of number error → IfFault fault (λ fault. IsResult whole (Err fault))
end_fault version whole told number rest (Why why) fault none h missing e =
    subst (λ (f : FileError). IfFault f (λ fault. IsResult whole (Err fault))) (ap (λ (w : FileWhy). error_of number (Why w)) (sym missing.0) ∙ sym e)
    (end_missing version whole told number rest none h missing.1)
end_fault version whole told number rest Memory fault none h missing e =
    subst (λ (f : FileError). IfFault f (λ fault. IsResult whole (Err fault))) (sym e) tt

-- ---- at the end

module _ (version : Version) (bytes : List ℕ) (told : Told) (tells : Tells IsGrammarTextWithinLimits version (read_lines version head_told 2 (lines_of_bytes bytes)) told) where
  all_told : IsRead IsGrammarTextWithinLimits version head_told (lines_of_bytes bytes) told
  all_told = read_all IsGrammarTextWithinLimits version told head_told 2 (lines_of_bytes bytes) (head_lawful version) (refl, refl, refl, refl, refl) tt tt tells

  pub rule_set_told : IsRuleSet (rules_told told.front)
  rule_set_told = (lexicon_itself version head_told told (lines_of_bytes bytes) all_told).rules

  pub limits_told : IsRuleSetWithinLimits (rules_told told.front)
  limits_told = (limits version head_told told (lines_of_bytes bytes) all_told).rule_set

  -- the lines are those after the first line of some bytes
  pub shared_trie_told : IsTrieOf (trie_told told) (phases_of (trie_told told))
  shared_trie_told = (ordered version (10 ∷ bytes) told all_told).is_trie
