-- A line that says what it is to say is taken: by its kind, and the lines that version 1 has too by what version 1 takes.
use Rattle.std.proofs.Common.{◌≡◌, ℕ, Bool, true, false, not, Option, Some, None, Ok, List, [], ◌∷◌, ◌++◌, length, codes, refl, sym, ◌∙◌, ap}
use Rattle.std.specs.Str.{is_utf8}
use Rattle.std.proofs.lemmas.List.{append_assoc}
use Rattle.list_laws.proofs.Booleans.{when_true, when_false}
use Rattle.list_laws.proofs.Marks.{is_free, free_append}
use Rattle.text_definitions.specs.Words.{IsWord}
use Rattle.text_definitions.specs.Slp1.{slp1_of_word}
use Rattle.text_definitions.proofs.SpelledWords.{free_of_blank}
use Rattle.text_definitions.proofs.WrittenWords.{letter_is_word}
use Rattle.lexicon_definitions.specs.Rules.{unlimited_rule}
use Rattle.lexicon_text_definitions.specs.FileLines.{parts_of}
use Rattle.lexicon_text_definitions.specs.FileSteps as steps
use Rattle.lexicon_text_definitions.specs.LexiconTexts.{phase_line, grammar_line, plain_line, rule_line, end_line}
use Rattle.lexicon_text_definitions.proofs.CleanBytes.{clean_utf8}
use Rattle.lexicon_text_definitions.proofs.LineCuts.{ended_line, split_at, split_none, line_with}
use Rattle.lexicon_text_definitions.proofs.LineSteps.{with_name, with_grammar, with_pair, with_rule, MayName, MayPair, MayRule, rule_field, takes_phase, takes_grammar, takes_plain, takes_rule}
use Rattle.lexicon_text_definitions.proofs.LineTests.{free_name}
use Rattle.trie_text_definitions.specs.Versions.{Version, Second}
use Rattle.trie_text_definitions.specs.VersionSteps.{Kind, Phase, Grammar, Plain, Rules, End, Told, with_front, kind_named, may_follow, are_rooted, take_kind, take_named, take_end, is_last, take_line}
use Rattle.trie_text_definitions.proofs.VersionLines.{with_told, with_end, MayCome, rule_is}

not_last : (rooted : Bool) (last kind : Kind) → may_follow rooted last kind ≡ true → is_last last ≡ false
not_last rooted End kind h = absurd (cc)
not_last rooted last kind h = refl

-- the line of this kind, with what follows its name
pub taken_by : (version : Version) (told after : Told) (bytes : List ℕ) (kind : Kind) (rest : Option (List ℕ)) → MayCome told kind → is_utf8 bytes ≡ true
    → kind_named (parts_of bytes).kind ≡ Some kind → (parts_of bytes).rest ≡ rest → take_kind version told bytes kind rest ≡ Ok after
    → take_line version told (ended_line bytes) ≡ Ok after
unfolding take_line
taken_by version told after bytes kind rest f u n r h =
    when_false (is_last told.last) _ _ _ (not_last (are_rooted told) told.last kind f)
    (when_false (not (is_utf8 bytes)) _ _ _ (ap not u)
    ((λ i. take_named version told bytes (n i) (r i)) ∙ when_true (may_follow (are_rooted told) told.last kind) _ _ _ f h))

module _ (version : Version) (told : Told) where
  pub takes_name_line : (name : List ℕ) → MayCome told Phase → is_utf8 (phase_line name) ≡ true → MayName told.front name
      → take_line version told (ended_line (phase_line name)) ≡ Ok (with_told told Phase (with_name told.front name))
  takes_name_line name f u m =
      taken_by version told (with_told told Phase (with_name told.front name)) (phase_line name) Phase (Some name) f u refl refl
      (ap (λ fields. with_front told Phase (steps.take_phase told.front fields)) (split_none 32 name (free_name 32 name refl m.name_itself))
      ∙ ap (with_front told Phase) (takes_phase told.front name m))

  pub takes_grammar_line : (text : List ℕ) → MayCome told Grammar → is_utf8 (grammar_line text) ≡ true
      → take_line version told (ended_line (grammar_line text)) ≡ Ok (with_told told Grammar (with_grammar told.front text))
  takes_grammar_line text f u =
      taken_by version told (with_told told Grammar (with_grammar told.front text)) (grammar_line text) Grammar (Some text) f u refl refl
      (ap (with_front told Grammar) (takes_grammar told.front text))

  plain_is : (pair : ℕ × ℕ) → plain_line pair ≡ line_with (codes "plain") (Some (slp1_of_word (pair.0 ∷ []) ++ 32 ∷ slp1_of_word (pair.1 ∷ [])))
  plain_is pair = ap (λ (fields : List ℕ). codes "plain " ++ fields) (append_assoc (slp1_of_word (pair.0 ∷ [])) (32 ∷ []) (slp1_of_word (pair.1 ∷ [])))

  pub takes_pair_line : (pair : ℕ × ℕ) → MayCome told Plain → is_utf8 (plain_line pair) ≡ true → MayPair told.front pair
      → take_line version told (ended_line (plain_line pair)) ≡ Ok (with_told told Plain (with_pair told.front pair))
  takes_pair_line pair f u m =
      let left = slp1_of_word (pair.0 ∷ []) in
      let right = slp1_of_word (pair.1 ∷ []) in
      let is = plain_is pair in
      ap (λ bytes. take_line version told (ended_line bytes)) is
      ∙ taken_by version told (with_told told Plain (with_pair told.front pair)) (line_with (codes "plain") (Some (left ++ 32 ∷ right))) Plain (Some (left ++ 32 ∷ right)) f (sym (ap is_utf8 is) ∙ u) refl refl
      (ap (λ fields. with_front told Plain (steps.take_plain told.front fields)) (split_at 32 left right (free_of_blank (pair.0 ∷ []) (letter_is_word pair.0 m.left))
      ∙ ap (◌∷◌ left) (split_none 32 right (free_of_blank (pair.1 ∷ []) (letter_is_word pair.1 m.right)))) ∙ ap (with_front told Plain) (takes_plain told.front pair m))

-- a rule's field has no blank
pub field_free_of_blank : (u v w : List ℕ) → IsWord u → IsWord v → IsWord w → is_free 32 (rule_field u v w) ≡ true
field_free_of_blank u v w a b c =
    free_append 32 (slp1_of_word u) (124 ∷ (slp1_of_word v ++ 62 ∷ slp1_of_word w)) (free_of_blank u a)
    (free_append 32 (124 ∷ []) (slp1_of_word v ++ 62 ∷ slp1_of_word w) refl
    (free_append 32 (slp1_of_word v) (62 ∷ slp1_of_word w) (free_of_blank v b) (free_append 32 (62 ∷ []) (slp1_of_word w) refl (free_of_blank w c))))

-- a rule of version 2
pub takes_second_rule_line : (told : Told) (u v w : List ℕ) → MayCome told Rules → is_utf8 (rule_line (unlimited_rule 0 u v w)) ≡ true → MayRule told.front u v w
    → take_line Second told (ended_line (rule_line (unlimited_rule 0 u v w))) ≡ Ok (with_told told Rules (with_rule told.front (unlimited_rule (length told.front.names) u v w)))
takes_second_rule_line told u v w f e m =
    let is = rule_is u v w in
    ap (λ bytes. take_line Second told (ended_line bytes)) is
    ∙ taken_by Second told (with_told told Rules (with_rule told.front (unlimited_rule (length told.front.names) u v w))) (line_with (codes "rule") (Some (rule_field u v w))) Rules (Some (rule_field u v w)) f (sym (ap is_utf8 is) ∙ e) refl refl
    (ap (λ fields. with_front told Rules (steps.take_rule told.front fields)) (split_none 32 (rule_field u v w) (field_free_of_blank u v w m.u_word m.v_word m.w_word))
    ∙ ap (with_front told Rules) (takes_rule told.front u v w m))

-- the last line, where it passes its tests
pub takes_end_line : (version : Version) (told : Told) → MayCome told End → take_end version told None ≡ Ok (with_end told)
    → take_line version told (ended_line end_line) ≡ Ok (with_end told)
takes_end_line version told f h = taken_by version told (with_end told) end_line End None f (clean_utf8 end_line refl) refl refl h
