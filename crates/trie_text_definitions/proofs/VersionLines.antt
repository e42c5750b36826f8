-- A line of version 2 or 3 that is taken is one of the format's lines, and says what it tells: its kind by its name, and what version 1
-- tells of the lines that both have.
use Rattle.std.proofs.Common.{◌≡◌, ℕ, Bool, true, false, cond, not, Option, Some, None, Ok, Err, List, [], ◌∷◌, ◌++◌, length, codes, refl, sym, ◌∙◌, ap}
use Rattle.std.specs.Prelude.{slice_index_or}
use Rattle.std.specs.Str.{bytes_eq, is_utf8}
use Rattle.std.proofs.lemmas.Bool.{not-false}
use Rattle.list_laws.proofs.Booleans.{if_passed, if_refused}
use Rattle.list_laws.proofs.Texts.{bytes_same}
use Rattle.lexicon_definitions.specs.Tries.{Row}
use Rattle.lexicon_text_definitions.specs.FileContents as first
use Rattle.lexicon_text_definitions.specs.FileSteps as steps
use Rattle.lexicon_text_definitions.specs.FileLines.{Line, parts_of, fields_of}
use Rattle.lexicon_text_definitions.specs.LexiconTexts.{phase_line, grammar_line, plain_line, rule_line, end_line}
use Rattle.lexicon_definitions.specs.Rules.{unlimited_rule}
use Rattle.lexicon_text_definitions.proofs.LineCuts.{one_part, line_with, line_from_parts}
use Rattle.lexicon_text_definitions.proofs.LineSteps as lines
use Rattle.lexicon_text_definitions.proofs.LineSteps.{MayName, MayPair, MayRule, rule_field, took_phase, took_grammar, took_plain, took_rule}
use Rattle.text_definitions.specs.Slp1.{slp1_of_word}
use Rattle.std.proofs.lemmas.List.{append_assoc}
use Rattle.trie_text_definitions.specs.Versions.{Version, Second, Third}
use Rattle.trie_text_definitions.specs.VersionFaults.{Trailing, NoEnd, NotUtf8, Order}
use Rattle.trie_text_definitions.specs.NodeLines.{node_line}
use Rattle.trie_text_definitions.specs.TrieTexts.{root_line}
use Rattle.trie_text_definitions.specs.VersionSteps.{Kind, Head, Phase, Grammar, Plain, Rules, Node, Root, End, Told, with_front, take_limited_rule, take_end, kind_named, may_follow, are_rooted, take_kind, take_named, is_last, take_line}
use Rattle.trie_text_definitions.proofs.NodeSteps.{with_row, MayNode, took_node, with_root, MayRoot, took_root, two_fields}

-- what is told with another front
abbrev pub with_told : Told → Kind → first.Told → Told
with_told told kind front = record told { last = kind; front = front }

abbrev pub with_end : Told → Told
with_end told = record told { last = End }

-- a line of this kind may come next
abbrev pub MayCome : Told → Kind → Type 0
MayCome told kind = may_follow (are_rooted told) told.last kind ≡ true

-- the line with these bytes is taken, where these told what was told before it and after it
pub data Took (version : Version) (told after : Told) (bytes : List ℕ) : Type 0 where
  a_name : (name : List ℕ) → MayCome told Phase → bytes ≡ phase_line name → MayName told.front name
      → with_told told Phase (lines.with_name told.front name) ≡ after → Took version told after bytes
  a_grammar : (text : List ℕ) → MayCome told Grammar → bytes ≡ grammar_line text
      → with_told told Grammar (lines.with_grammar told.front text) ≡ after → Took version told after bytes
  a_pair : (pair : ℕ × ℕ) → MayCome told Plain → bytes ≡ plain_line pair → MayPair told.front pair
      → with_told told Plain (lines.with_pair told.front pair) ≡ after → Took version told after bytes
  a_rule : version ≡ Second → (u v w : List ℕ) → MayCome told Rules → bytes ≡ rule_line (unlimited_rule 0 u v w) → MayRule told.front u v w
      → with_told told Rules (lines.with_rule told.front (unlimited_rule (length told.front.names) u v w)) ≡ after → Took version told after bytes
  a_limited : version ≡ Third → (rest : Option (List ℕ)) → MayCome told Rules → bytes ≡ line_with (codes "rule") rest
      → take_limited_rule told (fields_of rest) ≡ Ok after → Took version told after bytes
  a_node : (row : Row) → MayCome told Node → bytes ≡ node_line row → MayNode told row → with_row told row ≡ after → Took version told after bytes
  a_root : (root : ℕ) → MayCome told Root → bytes ≡ root_line (slice_index_or told.front.names (length told.roots) []) root → MayRoot told root
      → with_root told root ≡ after → Took version told after bytes
  the_end : MayCome told End → bytes ≡ end_line → take_end version told None ≡ Ok after → Took version told after bytes

-- ---- the kind of a line

-- the name of a kind, where it has one
abbrev pub kind_name : Kind → List ℕ
kind_name Phase = codes "phase"
kind_name Grammar = codes "grammar"
kind_name Plain = codes "plain"
kind_name Rules = codes "rule"
kind_name Node = codes "node"
kind_name Root = codes "root"
kind_name End = codes "end"
kind_name kind = []

named_by : (name text : List ℕ) (kind found : Kind) (test : Bool) (rest : Option Kind) → bytes_eq name text ≡ test
    → cond test (Some kind) rest ≡ Some found → kind_name kind ≡ text → (rest ≡ Some found → name ≡ kind_name found) → name ≡ kind_name found
named_by name text kind found true rest e h n later = let same : kind ≡ found = cc in bytes_same name text e ∙ sym n ∙ ap kind_name same
named_by name text kind found false rest e h n later = later h

pub named_kind : (name : List ℕ) (found : Kind) → kind_named name ≡ Some found → name ≡ kind_name found
named_kind name found h =
    named_by name (codes "phase") Phase found _ _ refl h refl
    (λ h. named_by name (codes "grammar") Grammar found _ _ refl h refl
    (λ h. named_by name (codes "plain") Plain found _ _ refl h refl
    (λ h. named_by name (codes "rule") Rules found _ _ refl h refl
    (λ h. named_by name (codes "node") Node found _ _ refl h refl
    (λ h. named_by name (codes "root") Root found _ _ refl h refl
    (λ h. named_by name (codes "end") End found _ _ refl h refl (λ h. absurd (cc))))))))

-- ---- lines that version 1 has too

front_taken : (told after : Told) (kind : Kind) (taken : steps.Taken) → with_front told kind taken ≡ Ok after
    → (front : first.Told) × (taken ≡ Ok front) × (with_told told kind front ≡ after)
front_taken told after kind (Ok front) h = (front, refl, cc)
front_taken told after kind (Err why) h = absurd (cc)

one_field : (rest : Option (List ℕ)) (field : List ℕ) → fields_of rest ≡ field ∷ [] → rest ≡ Some field
one_field None field e = absurd (cc)
one_field (Some text) field e = ap Some (one_part 32 text field e)

plain_is : (pair : ℕ × ℕ) → plain_line pair ≡ line_with (codes "plain") (Some (slp1_of_word (pair.0 ∷ []) ++ 32 ∷ slp1_of_word (pair.1 ∷ [])))
plain_is pair = ap (λ fields. codes "plain " ++ fields) (append_assoc (slp1_of_word (pair.0 ∷ [])) (32 ∷ []) (slp1_of_word (pair.1 ∷ [])))

regroup_three : (a b c : List ℕ) (m n : ℕ) → (((a ++ m ∷ []) ++ b) ++ n ∷ []) ++ c ≡ a ++ m ∷ (b ++ n ∷ c)
regroup_three a b c m n = simp append_assoc

pub rule_is : (u v w : List ℕ) → rule_line (unlimited_rule 0 u v w) ≡ line_with (codes "rule") (Some (rule_field u v w))
rule_is u v w = ap (λ field. codes "rule " ++ field) (regroup_three (slp1_of_word u) (slp1_of_word v) (slp1_of_word w) 124 62)

module _ (told after : Told) (bytes : List ℕ) where
  took_second_rule : (rest : Option (List ℕ)) → MayCome told Rules → bytes ≡ line_with (codes "rule") rest
      → with_front told Rules (steps.take_rule told.front (fields_of rest)) ≡ Ok after → Took Second told after bytes
  took_second_rule rest f b h =
      let (front, e, same) = front_taken told after Rules (steps.take_rule told.front (fields_of rest)) h in
      let (u, v, w, g, m, is) = took_rule told.front front (fields_of rest) e in
      a_rule refl u v w f (b ∙ ap (line_with (codes "rule")) (one_field rest (rule_field u v w) g) ∙ sym (rule_is u v w)) m
      (ap (with_told told Rules) is ∙ same)

  no_fields : (version : Version) (rest : List ℕ) → take_end version told (Some rest) ≡ Ok after → ⊥
  unfolding take_end
  no_fields version rest h = cc

  took_kind : (version : Version) (kind : Kind) (rest : Option (List ℕ)) → MayCome told kind → bytes ≡ line_with (kind_name kind) rest
      → take_kind version told bytes kind rest ≡ Ok after → Took version told after bytes
  took_kind version Head rest f b h = absurd (cc)
  took_kind version Phase rest f b h =
      let (front, e, same) = front_taken told after Phase (steps.take_phase told.front (fields_of rest)) h in
      let (name, g, m, is) = took_phase told.front front (fields_of rest) e in
      a_name name f (b ∙ ap (line_with (codes "phase")) (one_field rest name g)) m (ap (with_told told Phase) is ∙ same)
  took_kind version Grammar rest f b h =
      let (front, e, same) = front_taken told after Grammar (steps.take_grammar told.front rest) h in
      let (text, g, is) = took_grammar told.front front rest e in
      a_grammar text f (b ∙ ap (line_with (codes "grammar")) g) (ap (with_told told Grammar) is ∙ same)
  took_kind version Plain rest f b h =
      let (front, e, same) = front_taken told after Plain (steps.take_plain told.front (fields_of rest)) h in
      let (pair, g, m, is) = took_plain told.front front (fields_of rest) e in
      a_pair pair f (b ∙ ap (line_with (codes "plain")) (two_fields rest _ _ g) ∙ sym (plain_is pair)) m (ap (with_told told Plain) is ∙ same)
  took_kind Second Rules rest f b h = took_second_rule rest f b h
  took_kind Third Rules rest f b h = a_limited refl rest f b h
  took_kind version Node rest f b h =
      let (row, e, m, is) = took_node told after bytes rest b h in a_node row f e m is
  took_kind version Root rest f b h =
      let (root, e, m, is) = took_root told after bytes rest b h in a_root root f e m is
  took_kind version End None f b h = the_end f b h
  took_kind version End (Some rest) f b h = absurd (no_fields version rest h)

  took_named : (version : Version) (name : List ℕ) (rest : Option (List ℕ)) (kind : Option Kind) → kind_named name ≡ kind → bytes ≡ line_with name rest
      → take_named version told bytes kind rest ≡ Ok after → Took version told after bytes
  took_named version name rest None e b h = absurd (cc)
  took_named version name rest (Some kind) e b h =
      let follows = if_passed (may_follow (are_rooted told) told.last kind) (take_kind version told bytes kind rest) Order after h in
      took_kind version kind rest follows.0 (b ∙ ap (λ text. line_with text rest) (named_kind name kind e)) follows.1

pub took_line : (version : Version) (told after : Told) (line : Line) → take_line version told line ≡ Ok after
    → (line.ended ≡ true) × Took version told after line.bytes
unfolding take_line
took_line version told after line h =
    let last = if_refused (is_last told.last) _ Trailing after h in
    let ended = if_refused (not line.ended) _ NoEnd after last.1 in
    let utf8 = if_refused (not (is_utf8 line.bytes)) _ NotUtf8 after ended.1 in
    let parts = parts_of line.bytes in
    (not-false line.ended ended.0, took_named told after line.bytes version parts.kind parts.rest (kind_named parts.kind) refl (line_from_parts line.bytes) utf8.1)
