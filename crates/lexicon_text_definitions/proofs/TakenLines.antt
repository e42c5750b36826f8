-- A line that is taken is one of the format's lines, and says what it tells: its kind by its name, its fields by the blanks
-- between them; and the other way round.
use Rattle.std.proofs.Common.{◌≡◌, ℕ, true, false, cond, not, Option, Some, None, Ok, Err, List, [], ◌∷◌, ◌++◌, length, codes, refl, sym, ◌∙◌, ap}
use Rattle.std.specs.Str.{bytes_eq, is_utf8}
use Rattle.std.proofs.lemmas.Bool.{not-false}
use Rattle.std.proofs.lemmas.List.{append_assoc}
use Rattle.text_definitions.specs.Words.{IsWord}
use Rattle.text_definitions.specs.Slp1.{slp1_of_word}
use Rattle.text_definitions.proofs.SpelledWords.{free_of_blank}
use Rattle.lexicon_definitions.specs.Lexicons.{IsPhaseName}
use Rattle.lexicon_text_definitions.specs.LexiconTexts.{head_line, phase_line, grammar_line, plain_line, rule_line, form_line, end_line}
use Rattle.lexicon_text_definitions.specs.FileFaults as faults
use Rattle.lexicon_text_definitions.specs.FileFaults.{Trailing, NoEnd, NotUtf8, Order}
use Rattle.lexicon_text_definitions.specs.FileLines.{Line, parts_of, fields_of, Kind, Opening, Head, Phase, Grammar, Plain, Rule, Form, End, kind_named, may_follow}
use Rattle.lexicon_definitions.specs.Rules.{unlimited_rule}
use Rattle.lexicon_text_definitions.specs.FileContents.{Told}
use Rattle.lexicon_definitions.specs.FormEntries.{Entry}
use Rattle.lexicon_text_definitions.specs.FileSteps.{take_phase, take_plain, take_rule, take_form, take_kind, take_named, take_parts, take_head, take_bytes, is_last, take_line}
use Rattle.list_laws.proofs.Marks.{is_free, free_append}
use Rattle.lexicon_text_definitions.proofs.CleanBytes.{clean_utf8}
use Rattle.lexicon_text_definitions.proofs.LineTests.{free_name}
use Rattle.lexicon_text_definitions.proofs.LineCuts.{split_at, split_none, one_part, two_parts, four_parts, kind_name, named_kind, line_with, line_from_parts}
use Rattle.lexicon_text_definitions.proofs.TagTests.{tag_free_of_blank}
use Rattle.lexicon_text_definitions.proofs.LineSteps.{with_name, with_grammar, with_pair, with_rule, with_line, with_end, MayName, MayPair, MayRule, MayLine, rule_field, took_phase, takes_phase, took_grammar, takes_grammar, took_plain, takes_plain, took_rule, takes_rule, took_form, takes_form, took_end, takes_end}
use Rattle.list_laws.proofs.Booleans.{if_passed, if_refused, when_true, when_false}
use Rattle.list_laws.proofs.Texts.{bytes_same}
use Rattle.text_definitions.proofs.WrittenWords.{letter_is_word}

-- the line with these bytes is taken, where these told what was told before it and after it
pub data Took (told after : Told) (bytes : List ℕ) : Type 0 where
  a_head : told.last ≡ Opening → bytes ≡ head_line → record told { last = Head } ≡ after → Took told after bytes
  a_name : (name : List ℕ) → may_follow told.last Phase ≡ true → bytes ≡ phase_line name → MayName told name → with_name told name ≡ after → Took told after bytes
  a_grammar : (text : List ℕ) → may_follow told.last Grammar ≡ true → bytes ≡ grammar_line text → with_grammar told text ≡ after → Took told after bytes
  a_pair : (pair : ℕ × ℕ) → may_follow told.last Plain ≡ true → bytes ≡ plain_line pair → MayPair told pair → with_pair told pair ≡ after → Took told after bytes
  a_rule : (u v w : List ℕ) → may_follow told.last Rule ≡ true → bytes ≡ rule_line (unlimited_rule 0 u v w) → MayRule told u v w
      → with_rule told (unlimited_rule (length told.names) u v w) ≡ after → Took told after bytes
  a_form : (name : List ℕ) → (line : Entry) → may_follow told.last Form ≡ true → bytes ≡ form_line name line.letters line.analysis → MayLine told name line
      → with_line told line ≡ after → Took told after bytes
  the_end : may_follow told.last End ≡ true → bytes ≡ end_line → with_end told ≡ after → Took told after bytes

-- ---- the lines in the form in which they are cut

regroup_three : (a b c : List ℕ) (m n : ℕ) → (((a ++ m ∷ []) ++ b) ++ n ∷ []) ++ c ≡ a ++ m ∷ (b ++ n ∷ c)
regroup_three a b c m n = simp append_assoc

regroup_four : (a b c d : List ℕ) (m n o : ℕ) → (((((a ++ m ∷ []) ++ b) ++ n ∷ []) ++ c) ++ o ∷ []) ++ d ≡ a ++ m ∷ (b ++ n ∷ (c ++ o ∷ d))
regroup_four a b c d m n o = simp append_assoc

abbrev pair_fields : ℕ × ℕ → List ℕ
pair_fields pair = slp1_of_word (pair.0 ∷ []) ++ 32 ∷ slp1_of_word (pair.1 ∷ [])

plain_is : (pair : ℕ × ℕ) → plain_line pair ≡ line_with (codes "plain") (Some (pair_fields pair))
plain_is pair = ap (λ fields. codes "plain " ++ fields) (append_assoc (slp1_of_word (pair.0 ∷ [])) (32 ∷ []) (slp1_of_word (pair.1 ∷ [])))

rule_is : (u v w : List ℕ) → rule_line (unlimited_rule 0 u v w) ≡ line_with (codes "rule") (Some (rule_field u v w))
rule_is u v w = ap (λ field. codes "rule " ++ field) (regroup_three (slp1_of_word u) (slp1_of_word v) (slp1_of_word w) 124 62)

abbrev line_fields : List ℕ → Entry → List ℕ
line_fields name line = name ++ 32 ∷ (slp1_of_word line.letters ++ 32 ∷ (slp1_of_word line.analysis.stem ++ 32 ∷ line.analysis.tag))

form_is : (name : List ℕ) (line : Entry) → form_line name line.letters line.analysis ≡ line_with (codes "form") (Some (line_fields name line))
form_is name line = ap (λ fields. codes "form " ++ fields) (regroup_four name (slp1_of_word line.letters) (slp1_of_word line.analysis.stem) line.analysis.tag 32 32 32)

-- ---- fields

one_field : (rest : Option (List ℕ)) (first : List ℕ) → fields_of rest ≡ first ∷ [] → rest ≡ Some first
one_field None first e = absurd (cc)
one_field (Some text) first e = ap Some (one_part 32 text first e)

two_fields : (rest : Option (List ℕ)) (first second : List ℕ) → fields_of rest ≡ first ∷ second ∷ [] → rest ≡ Some (first ++ 32 ∷ second)
two_fields None first second e = absurd (cc)
two_fields (Some text) first second e = ap Some (two_parts 32 text first second e)

four_fields : (rest : Option (List ℕ)) (first second third fourth : List ℕ) → fields_of rest ≡ first ∷ second ∷ third ∷ fourth ∷ []
    → rest ≡ Some (first ++ 32 ∷ (second ++ 32 ∷ (third ++ 32 ∷ fourth)))
four_fields None first second third fourth e = absurd (cc)
four_fields (Some text) first second third fourth e = ap Some (four_parts 32 text first second third fourth e)

-- ---- what a line that is taken says

module _ (told after : Told) (bytes : List ℕ) where
  took_kind : (kind : Kind) (rest : Option (List ℕ)) → may_follow told.last kind ≡ true → bytes ≡ line_with (kind_name kind) rest → take_kind told kind rest ≡ Ok after → Took told after bytes
  took_kind Opening rest f b h = absurd (cc)
  took_kind Head rest f b h = absurd (cc)
  took_kind Phase rest f b h =
      let (name, e, m, is) = took_phase told after (fields_of rest) h in
      a_name name f (b ∙ ap (line_with (codes "phase")) (one_field rest name e)) m is
  took_kind Grammar rest f b h =
      let (text, e, is) = took_grammar told after rest h in
      a_grammar text f (b ∙ ap (line_with (codes "grammar")) e) is
  took_kind Plain rest f b h =
      let (pair, e, m, is) = took_plain told after (fields_of rest) h in
      a_pair pair f (b ∙ ap (line_with (codes "plain")) (two_fields rest _ _ e) ∙ sym (plain_is pair)) m is
  took_kind Rule rest f b h =
      let (u, v, w, e, m, is) = took_rule told after (fields_of rest) h in
      a_rule u v w f (b ∙ ap (line_with (codes "rule")) (one_field rest (rule_field u v w) e) ∙ sym (rule_is u v w)) m is
  took_kind Form rest f b h =
      let (name, line, e, m, is) = took_form told after (fields_of rest) h in
      a_form name line f (b ∙ ap (line_with (codes "form")) (four_fields rest _ _ _ _ e) ∙ sym (form_is name line)) m is
  took_kind End rest f b h =
      let both = took_end told after rest h in
      the_end f (b ∙ ap (line_with (codes "end")) both.0) both.1

  took_named : (name : List ℕ) (rest : Option (List ℕ)) (kind : Option Kind) → kind_named name ≡ kind → bytes ≡ line_with name rest → take_named told kind rest ≡ Ok after → Took told after bytes
  took_named name rest None e b h = absurd (cc)
  took_named name rest (Some kind) e b h =
      let follows = if_passed (may_follow told.last kind) (take_kind told kind rest) Order after h in
      took_kind kind rest follows.0 (b ∙ ap (λ text. line_with text rest) (named_kind name kind e)) follows.1

  took_parts : take_parts told (parts_of bytes) ≡ Ok after → Took told after bytes
  took_parts h = took_named (parts_of bytes).kind (parts_of bytes).rest (kind_named (parts_of bytes).kind) refl (line_from_parts bytes) h

  took_head : told.last ≡ Opening → take_head told bytes ≡ Ok after → Took told after bytes
  took_head e h =
      let same = if_passed (bytes_eq bytes head_line) (Ok (record told { last = Head })) faults.Head after h in
      a_head e (bytes_same bytes head_line same.0) (cc (same.1))

  took_bytes : (last : Kind) → told.last ≡ last → take_bytes last told bytes ≡ Ok after → Took told after bytes
  took_bytes Opening e h = took_head e h
  took_bytes last e h = took_parts h

pub took_line : (told after : Told) (line : Line) → take_line told line ≡ Ok after → (line.ended ≡ true) × Took told after line.bytes
unfolding take_line
took_line told after line h =
    let last = if_refused (is_last told.last) _ Trailing after h in
    let ended = if_refused (not line.ended) _ NoEnd after last.1 in
    let utf8 = if_refused (not (is_utf8 line.bytes)) _ NotUtf8 after ended.1 in
    (not-false line.ended ended.0, took_bytes told after line.bytes told.last refl utf8.1)

-- ---- a line that says so is taken

not_last : (last kind : Kind) → may_follow last kind ≡ true → is_last last ≡ false
not_last End kind h = absurd (cc)
not_last last kind h = refl

by_parts : (last kind : Kind) (told : Told) (bytes : List ℕ) → may_follow last kind ≡ true → take_bytes last told bytes ≡ take_parts told (parts_of bytes)
by_parts Opening kind told bytes h = absurd (cc)
by_parts last kind told bytes h = refl

-- the line of this kind, with what follows its name
taken_by : (told after : Told) (bytes : List ℕ) (kind : Kind) (rest : Option (List ℕ)) → may_follow told.last kind ≡ true → is_utf8 bytes ≡ true
    → kind_named (parts_of bytes).kind ≡ Some kind → (parts_of bytes).rest ≡ rest → take_kind told kind rest ≡ Ok after
    → take_line told (record { bytes = bytes; ended = true }) ≡ Ok after
unfolding take_line
taken_by told after bytes kind rest f u n r h =
    when_false (is_last told.last) _ _ _ (not_last told.last kind f)
    (when_false (not (is_utf8 bytes)) _ _ _ (ap not u)
    (by_parts told.last kind told bytes f ∙ (λ i. take_named told (n i) (r i)) ∙ when_true (may_follow told.last kind) _ _ _ f h))

head_utf8 : is_utf8 head_line ≡ true
head_utf8 = clean_utf8 head_line refl

end_utf8 : is_utf8 end_line ≡ true
end_utf8 = clean_utf8 end_line refl

pub takes_head : (told : Told) → told.last ≡ Opening → take_line told (record { bytes = head_line; ended = true }) ≡ Ok (record told { last = Head })
unfolding take_line
takes_head told e =
    ap (λ last. cond (is_last last) (Err Trailing) (cond (not (is_utf8 head_line)) (Err NotUtf8) (take_bytes last told head_line))) e
    ∙ when_false (not (is_utf8 head_line)) _ _ _ (ap not head_utf8) refl

-- a line of each kind
pub takes_name_line : (told : Told) (name : List ℕ) → may_follow told.last Phase ≡ true → is_utf8 (phase_line name) ≡ true → MayName told name
    → take_line told (record { bytes = phase_line name; ended = true }) ≡ Ok (with_name told name)
takes_name_line told name f u m =
    taken_by told (with_name told name) (phase_line name) Phase (Some name) f u refl refl
    (ap (take_phase told) (split_none 32 name (free_name 32 name refl m.name_itself)) ∙ takes_phase told name m)

pub takes_grammar_line : (told : Told) (text : List ℕ) → may_follow told.last Grammar ≡ true → is_utf8 (grammar_line text) ≡ true
    → take_line told (record { bytes = grammar_line text; ended = true }) ≡ Ok (with_grammar told text)
takes_grammar_line told text f u = taken_by told (with_grammar told text) (grammar_line text) Grammar (Some text) f u refl refl (takes_grammar told text)

pub takes_end_line : (told : Told) → may_follow told.last End ≡ true → take_line told (record { bytes = end_line; ended = true }) ≡ Ok (with_end told)
takes_end_line told f = taken_by told (with_end told) end_line End None f end_utf8 refl refl (takes_end told)

pub takes_pair_line : (told : Told) (pair : ℕ × ℕ) → may_follow told.last Plain ≡ true → is_utf8 (plain_line pair) ≡ true → MayPair told pair
    → take_line told (record { bytes = plain_line pair; ended = true }) ≡ Ok (with_pair told pair)
takes_pair_line told pair f u m =
    let left = slp1_of_word (pair.0 ∷ []) in
    let right = slp1_of_word (pair.1 ∷ []) in
    let is = plain_is pair in
    ap (λ bytes. take_line told (record { bytes = bytes; ended = true })) is
    ∙ taken_by told (with_pair told pair) (line_with (codes "plain") (Some (pair_fields pair))) Plain (Some (pair_fields pair)) f (sym (ap is_utf8 is) ∙ u) refl refl
    (ap (take_plain told) (split_at 32 left right (free_of_blank (pair.0 ∷ []) (letter_is_word pair.0 m.left))
    ∙ ap (◌∷◌ left) (split_none 32 right (free_of_blank (pair.1 ∷ []) (letter_is_word pair.1 m.right)))) ∙ takes_plain told pair m)

blank_free_field : (u v w : List ℕ) → IsWord u → IsWord v → IsWord w → is_free 32 (rule_field u v w) ≡ true
blank_free_field u v w a b c =
    free_append 32 (slp1_of_word u) (124 ∷ (slp1_of_word v ++ 62 ∷ slp1_of_word w)) (free_of_blank u a)
    (free_append 32 (124 ∷ []) (slp1_of_word v ++ 62 ∷ slp1_of_word w) refl
    (free_append 32 (slp1_of_word v) (62 ∷ slp1_of_word w) (free_of_blank v b) (free_append 32 (62 ∷ []) (slp1_of_word w) refl (free_of_blank w c))))

pub takes_rule_line : (told : Told) (u v w : List ℕ) → may_follow told.last Rule ≡ true → is_utf8 (rule_line (unlimited_rule 0 u v w)) ≡ true → MayRule told u v w
    → take_line told (record { bytes = rule_line (unlimited_rule 0 u v w); ended = true }) ≡ Ok (with_rule told (unlimited_rule (length told.names) u v w))
takes_rule_line told u v w f e m =
    let is = rule_is u v w in
    ap (λ bytes. take_line told (record { bytes = bytes; ended = true })) is
    ∙ taken_by told (with_rule told (unlimited_rule (length told.names) u v w)) (line_with (codes "rule") (Some (rule_field u v w))) Rule (Some (rule_field u v w)) f (sym (ap is_utf8 is) ∙ e) refl refl
    (ap (take_rule told) (split_none 32 (rule_field u v w) (blank_free_field u v w m.u_word m.v_word m.w_word)) ∙ takes_rule told u v w m)

pub takes_form_line : (told : Told) (name : List ℕ) (line : Entry) → may_follow told.last Form ≡ true → is_utf8 (form_line name line.letters line.analysis) ≡ true
    → IsPhaseName name → MayLine told name line
    → take_line told (record { bytes = form_line name line.letters line.analysis; ended = true }) ≡ Ok (with_line told line)
takes_form_line told name line f u n m =
    let form = slp1_of_word line.letters in
    let stem = slp1_of_word line.analysis.stem in
    let tag = line.analysis.tag in
    let is = form_is name line in
    ap (λ bytes. take_line told (record { bytes = bytes; ended = true })) is
    ∙ taken_by told (with_line told line) (line_with (codes "form") (Some (line_fields name line))) Form (Some (line_fields name line)) f (sym (ap is_utf8 is) ∙ u) refl refl
    (ap (take_form told) (split_at 32 name (form ++ 32 ∷ (stem ++ 32 ∷ tag)) (free_name 32 name refl n)
    ∙ ap (◌∷◌ name) (split_at 32 form (stem ++ 32 ∷ tag) (free_of_blank line.letters m.line_itself.word)
    ∙ ap (◌∷◌ form) (split_at 32 stem tag (free_of_blank line.analysis.stem m.line_itself.stem)
    ∙ ap (◌∷◌ stem) (split_none 32 tag (tag_free_of_blank tag m.line_itself.tag))))) ∙ takes_form told name line m)
