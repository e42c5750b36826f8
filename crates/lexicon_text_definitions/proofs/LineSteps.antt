-- When a line of each kind is taken, and what is told after it: the tests one after another, by cases of each; and the other way
-- round, by their answers.
use Rattle.std.proofs.Common.{◌≡◌, ◌≢◌, ℕ, ◌<◌, ◌≤◌, false, cond, ◌||◌, Option, Some, None, Ok, Err, List, [], ◌∷◌, ◌++◌, length, get_or, ltb, All, AllPairs, refl, sym, ◌∙◌, ap, arith}
use Rattle.std.specs.List.{list_any, position, position_or_len}
use Rattle.std.specs.Str.{bytes_eq}
use Rattle.std.specs.declared.cmp.Ordering.{Ordering}
use Rattle.std.specs.declared.cmp.Ordering.TheVariants.{Less, Equal, Greater}
use Rattle.std.proofs.lemmas.Bool.{or_parts, or_from, leb-false, lt-leb, ltb-false, le-ltb, lt-ltb}
use Rattle.std.proofs.lemmas.List.Sums.{position_or_len_is}
use Rattle.std.proofs.lemmas.List.Quantifiers.{position-Some}
use Rattle.std.proofs.lemmas.List.Elements.{All-head, All-cons, All-nil}
use Rattle.text_definitions.specs.Letters.{IsLetter}
use Rattle.text_definitions.specs.Words.{IsWord}
use Rattle.text_definitions.specs.Spellings.{Reading}
use Rattle.text_definitions.specs.Slp1.{word_of_slp1, slp1_of_word}
use Rattle.text_definitions.proofs.SpelledWords.{spelled_from_read, word_from_read, read_from_spelled, free_of_bar, free_of_sign}
use Rattle.lexicon_definitions.specs.declared.limits.TheConstants.{MOST_PHASES, MOST_RULES, MOST_RULE_LETTERS, MOST_LEADS, MOST_FORM_LETTERS, MOST_FORM_LINES}
use Rattle.lexicon_definitions.specs.Rules.{Rule as RuleValue, unlimited_rule}
use Rattle.lexicon_definitions.specs.Lexicons.{IsPhaseName, compare_pairs}
use Rattle.lexicon_text_definitions.specs.FileFaults.{Field, Strict, Limit, Twice}
use Rattle.lexicon_text_definitions.specs.FileLines.{Phase, Grammar, Plain, Rule, Form, End, has_mark, Shape, shape_of}
use Rattle.lexicon_definitions.specs.PhaseNames.{is_phase_name}
use Rattle.list_laws.specs.EmptyLists.{is_empty}
use Rattle.lexicon_text_definitions.specs.FileContents.{compare_entries, Told, is_tag_text, compare_last, has_triple, with_v, different_v}
use Rattle.lexicon_definitions.specs.FormEntries.{Entry}
use Rattle.lexicon_text_definitions.specs.FileSteps.{if_rising, take_name, take_phase, take_grammar, one_letter, take_letters, take_plain, passes_rule_limits, take_triple, take_words, take_shape, take_rule, some_word, passes_form_limits, take_form_line, take_analysis, take_entry, take_form, take_end}
use Rattle.lexicon_definitions.proofs.NameTests.{name_from_test, test_from_name}
use Rattle.lexicon_text_definitions.proofs.LineTests.{IsOther, others_from_test, test_from_others}
use Rattle.lexicon_text_definitions.proofs.LineCuts.{field_with, field_from_shape, shape_of_field, unmarked}
use Rattle.lexicon_text_definitions.proofs.TagTests.{tag_from_test, test_from_tag}
use Rattle.lexicon_text_definitions.proofs.FormPhases.{IsFormLine}
use Rattle.list_laws.proofs.Booleans.{if_passed, if_refused, when_true, when_false}
use Rattle.list_laws.proofs.Texts.{bytes_same, bytes_itself, bytes_apart, none_same, any_false}

-- what is told with a name, a grammar's text, a pair, a rule or a form's line more
abbrev pub with_name : Told → List ℕ → Told
with_name told name = record told { last = Phase; names = told.names ++ name ∷ [] }

abbrev pub with_grammar : Told → List ℕ → Told
with_grammar told text = record told { last = Grammar; grammar = text }

abbrev pub with_pair : Told → ℕ × ℕ → Told
with_pair told pair = record told { last = Plain; plain = told.plain ++ pair ∷ [] }

abbrev pub with_rule : Told → RuleValue → Told
with_rule told rule = record told { last = Rule; rules = told.rules ++ rule ∷ [] }

abbrev pub with_line : Told → Entry → Told
with_line told line = record told { last = Form; forms = told.forms ++ line ∷ [] }

abbrev pub with_end : Told → Told
with_end told = record told { last = End }

rises : (order : Ordering) (told after : Told) → if_rising order told ≡ Ok after → (order ≡ Less) × (told ≡ after)
rises Less told after h = (refl, cc)
rises Equal told after h = absurd (cc)
rises Greater told after h = absurd (cc)

-- ---- a phase

pub record MayName (told : Told) (name : List ℕ) : Type 0 where
  pub name_itself : IsPhaseName name
  pub few : length told.names < MOST_PHASES
  pub new : All (λ other. other ≢ name) told.names

pub took_phase : (told after : Told) (fields : List (List ℕ)) → take_phase told fields ≡ Ok after
    → (name : List ℕ) × (fields ≡ name ∷ []) × MayName told name × (with_name told name ≡ after)
unfolding take_phase
took_phase told after [] h = absurd (cc)
took_phase told after (name ∷ []) h =
    let itself = if_passed (is_phase_name name) (take_name told name) Field after h in
    let few = if_refused _ _ Limit after itself.1 in
    let new = if_refused _ _ Twice after few.1 in (
      name,
      refl,
      record { name_itself = name_from_test name itself.0; few = leb-false MOST_PHASES (length told.names) few.0; new = none_same name told.names new.0 },
      (cc (new.1)),
    )
took_phase told after (name ∷ other ∷ fields) h = absurd (cc)

pub takes_phase : (told : Told) (name : List ℕ) → MayName told name → take_phase told (name ∷ []) ≡ Ok (with_name told name)
unfolding take_phase
takes_phase told name m =
    when_true (is_phase_name name) _ _ _ (test_from_name name m.name_itself)
    (when_false _ _ _ _ (lt-leb MOST_PHASES (length told.names) m.few) (when_false _ _ _ _ (any_false name told.names m.new) refl))

-- ---- the grammar

pub took_grammar : (told after : Told) (rest : Option (List ℕ)) → take_grammar told rest ≡ Ok after → (text : List ℕ) × (rest ≡ Some text) × (with_grammar told text ≡ after)
unfolding take_grammar
took_grammar told after None h = absurd (cc)
took_grammar told after (Some text) h = (text, refl, cc)

pub takes_grammar : (told : Told) (text : List ℕ) → take_grammar told (Some text) ≡ Ok (with_grammar told text)
unfolding take_grammar
takes_grammar told text = refl

-- ---- a plain pair

pub record MayPair (told : Told) (pair : ℕ × ℕ) : Type 0 where
  pub left : IsLetter pair.0
  pub right : IsLetter pair.1
  pub above : compare_last compare_pairs told.plain pair ≡ Less

letter_by : (reading : Reading) (letter : ℕ) → one_letter reading ≡ Some letter → reading ≡ Ok (letter ∷ [])
letter_by (Ok []) letter h = absurd (cc)
letter_by (Ok (first ∷ [])) letter h = cc
letter_by (Ok (first ∷ second ∷ word)) letter h = absurd (cc)
letter_by (Err fault) letter h = absurd (cc)

letter_read : (text : List ℕ) (letter : ℕ) → one_letter (word_of_slp1 text) ≡ Some letter → IsLetter letter × (text ≡ slp1_of_word (letter ∷ []))
letter_read text letter h =
    let read = letter_by (word_of_slp1 text) letter h in
    (All-head IsLetter letter [] (word_from_read text (letter ∷ []) read), sym (spelled_from_read text (letter ∷ []) read))

letters_taken : (told after : Told) (x y : Option ℕ) → take_letters told x y ≡ Ok after
    → (pair : ℕ × ℕ) × (x ≡ Some pair.0) × (y ≡ Some pair.1) × (compare_last compare_pairs told.plain pair ≡ Less) × (with_pair told pair ≡ after)
letters_taken told after None y h = absurd (cc)
letters_taken told after (Some x) None h = absurd (cc)
letters_taken told after (Some x) (Some y) h = let up = rises (compare_last compare_pairs told.plain (x, y)) (with_pair told (x, y)) after h in ((x, y), refl, refl, up.0, up.1)

pub took_plain : (told after : Told) (fields : List (List ℕ)) → take_plain told fields ≡ Ok after
    → (pair : ℕ × ℕ) × (fields ≡ slp1_of_word (pair.0 ∷ []) ∷ slp1_of_word (pair.1 ∷ []) ∷ []) × MayPair told pair × (with_pair told pair ≡ after)
unfolding take_plain
took_plain told after [] h = absurd (cc)
took_plain told after (x ∷ []) h = absurd (cc)
took_plain told after (x ∷ y ∷ []) h =
    let (pair, l, r, up, is) = letters_taken told after (one_letter (word_of_slp1 x)) (one_letter (word_of_slp1 y)) h in
    let left = letter_read x pair.0 l in
    let right = letter_read y pair.1 r in
    (pair, λ i. left.1 i ∷ right.1 i ∷ [], record { left = left.0; right = right.0; above = up }, is)
took_plain told after (x ∷ y ∷ z ∷ fields) h = absurd (cc)

letter_spelled : (letter : ℕ) → IsLetter letter → one_letter (word_of_slp1 (slp1_of_word (letter ∷ []))) ≡ Some letter
letter_spelled letter l = ap one_letter (read_from_spelled (slp1_of_word (letter ∷ [])) (letter ∷ []) (All-cons IsLetter letter [] l (All-nil IsLetter)) refl)

pub takes_plain : (told : Told) (pair : ℕ × ℕ) → MayPair told pair → take_plain told (slp1_of_word (pair.0 ∷ []) ∷ slp1_of_word (pair.1 ∷ []) ∷ []) ≡ Ok (with_pair told pair)
unfolding take_plain
takes_plain told pair m =
    (λ i. take_letters told (letter_spelled pair.0 m.left i) (letter_spelled pair.1 m.right i)) ∙ ap (λ order. if_rising order (with_pair told pair)) m.above

-- ---- a rule

pub record MayRule (told : Told) (u v w : List ℕ) : Type 0 where
  pub u_word : IsWord u
  pub v_word : IsWord v
  pub w_word : IsWord w
  pub u_some : u ≢ []
  pub w_some : w ≢ []
  pub few : length told.rules < MOST_RULES
  pub leads : length (with_v (different_v told.rules) v) ≤ MOST_LEADS
  pub u_short : length u ≤ MOST_RULE_LETTERS
  pub v_short : length v ≤ MOST_RULE_LETTERS
  pub w_short : length w ≤ MOST_RULE_LETTERS
  pub other : All (λ rule. IsOther rule (unlimited_rule (length told.names) u v w)) told.rules

some_by : (word : List ℕ) → is_empty word ≡ false → word ≢ []
some_by [] h e = cc
some_by (letter ∷ word) h e = cc

by_some : (word : List ℕ) → word ≢ [] → is_empty word ≡ false
by_some [] n = absurd (n refl)
by_some (letter ∷ word) n = refl

triple_taken : (told after : Told) (u v w : List ℕ) → IsWord u → IsWord v → IsWord w → take_triple told u v w ≡ Ok after
    → MayRule told u v w × (with_rule told (unlimited_rule (length told.names) u v w) ≡ after)
triple_taken told after u v w a b c h =
    let strict = if_refused (is_empty u || is_empty w) _ Strict after h in
    let some = or_parts (is_empty u) (is_empty w) strict.0 in
    let limits = if_refused (passes_rule_limits told u v w) _ Limit after strict.1 in
    let other = if_refused (list_any (has_triple u v w) told.rules) _ Twice after limits.1 in
    let w_part = or_parts _ _ limits.0 in
    let v_part = or_parts _ _ w_part.0 in
    let u_part = or_parts _ _ v_part.0 in
    let counts = or_parts _ _ u_part.0 in (
      record {
        u_word = a;
        v_word = b;
        w_word = c;
        u_some = some_by u some.0;
        w_some = some_by w some.1;
        few = leb-false MOST_RULES (length told.rules) counts.0;
        leads = ltb-false MOST_LEADS (length (with_v (different_v told.rules) v)) counts.1;
        u_short = ltb-false MOST_RULE_LETTERS (length u) u_part.1;
        v_short = ltb-false MOST_RULE_LETTERS (length v) v_part.1;
        w_short = ltb-false MOST_RULE_LETTERS (length w) w_part.1;
        other = others_from_test (unlimited_rule (length told.names) u v w) told.rules other.0;
      },
      cc (other.1),
    )

words_taken : (told after : Told) (u v w : Reading) → take_words told u v w ≡ Ok after
    → (a : List ℕ) × (b : List ℕ) × (c : List ℕ) × (u ≡ Ok a) × (v ≡ Ok b) × (w ≡ Ok c) × (take_triple told a b c ≡ Ok after)
words_taken told after (Err fault) v w h = absurd (cc)
words_taken told after (Ok u) (Err fault) w h = absurd (cc)
words_taken told after (Ok u) (Ok v) (Err fault) h = absurd (cc)
words_taken told after (Ok u) (Ok v) (Ok w) h = (u, v, w, refl, refl, refl, h)

-- the field of a rule
abbrev pub rule_field : List ℕ → List ℕ → List ℕ → List ℕ
rule_field u v w = field_with (record { u = slp1_of_word u; v = slp1_of_word v; w = slp1_of_word w })

shape_taken : (told after : Told) (field : List ℕ) (shape : Option Shape) → shape_of field ≡ shape → take_shape told shape ≡ Ok after
    → (u : List ℕ) × (v : List ℕ) × (w : List ℕ) × (field ≡ rule_field u v w) × MayRule told u v w × (with_rule told (unlimited_rule (length told.names) u v w) ≡ after)
shape_taken told after field None e h = absurd (cc)
shape_taken told after field (Some shape) e h =
    let (u, v, w, a, b, c, t) = words_taken told after (word_of_slp1 shape.u) (word_of_slp1 shape.v) (word_of_slp1 shape.w) h in
    let taken = triple_taken told after u v w (word_from_read shape.u u a) (word_from_read shape.v v b) (word_from_read shape.w w c) t in
    let first = spelled_from_read shape.u u a in
    let second = spelled_from_read shape.v v b in
    let third = spelled_from_read shape.w w c in (
      u,
      v,
      w,
      field_from_shape field shape e ∙ sym (λ i. field_with (record { u = first i; v = second i; w = third i })),
      taken.0,
      taken.1,
    )

pub took_rule : (told after : Told) (fields : List (List ℕ)) → take_rule told fields ≡ Ok after
    → (u : List ℕ) × (v : List ℕ) × (w : List ℕ) × (fields ≡ rule_field u v w ∷ []) × MayRule told u v w × (with_rule told (unlimited_rule (length told.names) u v w) ≡ after)
unfolding take_rule
took_rule told after [] h = absurd (cc)
took_rule told after (field ∷ []) h =
    let (u, v, w, e, m, is) = shape_taken told after field (shape_of field) refl h in
    (u, v, w, ap (λ first. first ∷ []) e, m, is)
took_rule told after (field ∷ other ∷ fields) h = absurd (cc)

spelled : (word : List ℕ) → IsWord word → word_of_slp1 (slp1_of_word word) ≡ Ok word
spelled word w = read_from_spelled (slp1_of_word word) word w refl

unmarked_word : (word : List ℕ) → IsWord word → has_mark (slp1_of_word word) ≡ false
unmarked_word word w = unmarked (slp1_of_word word) (free_of_bar word w) (free_of_sign word w)

no_limit : (told : Told) (u v w : List ℕ) → MayRule told u v w → passes_rule_limits told u v w ≡ false
no_limit told u v w m =
    or_from _ _ (or_from _ _ (or_from _ _ (or_from _ _ (lt-leb MOST_RULES (length told.rules) m.few) (le-ltb MOST_LEADS (length (with_v (different_v told.rules) v)) m.leads))
    (le-ltb MOST_RULE_LETTERS (length u) m.u_short)) (le-ltb MOST_RULE_LETTERS (length v) m.v_short)) (le-ltb MOST_RULE_LETTERS (length w) m.w_short)

pub takes_rule : (told : Told) (u v w : List ℕ) → MayRule told u v w → take_rule told (rule_field u v w ∷ []) ≡ Ok (with_rule told (unlimited_rule (length told.names) u v w))
unfolding take_rule
takes_rule told u v w m =
    ap (take_shape told) (shape_of_field (record { u = slp1_of_word u; v = slp1_of_word v; w = slp1_of_word w })
    (unmarked_word u m.u_word) (unmarked_word v m.v_word) (unmarked_word w m.w_word))
    ∙ (λ i. take_words told (spelled u m.u_word i) (spelled v m.v_word i) (spelled w m.w_word i))
    ∙ when_false (is_empty u || is_empty w) _ _ _ (or_from _ _ (by_some u m.u_some) (by_some w m.w_some))
    (when_false (passes_rule_limits told u v w) _ _ _ (no_limit told u v w m)
    (when_false (list_any (has_triple u v w) told.rules) _ _ _ (test_from_others (unlimited_rule (length told.names) u v w) told.rules m.other) refl))

-- ---- a form

pub record MayLine (told : Told) (name : List ℕ) (line : Entry) : Type 0 where
  pub at : position (bytes_eq name) told.names ≡ Some line.phase
  pub line_itself : IsFormLine (length told.names) line
  pub few : length told.forms < MOST_FORM_LINES
  pub above : compare_last compare_entries told.forms line ≡ Less

-- a name's place
pub name_at : (names : List (List ℕ)) (name : List ℕ) (phase : ℕ) → position (bytes_eq name) names ≡ Some phase → (phase < length names) × (name ≡ get_or names phase [])
name_at names name phase h =
    let (below, same, before) = position-Some (bytes_eq name) names phase [] h in
    (below, bytes_same name (get_or names phase []) same)

place_is : (names : List (List ℕ)) (name : List ℕ) (phase place : ℕ) → place ≡ phase → phase < length names → cond (ltb place (length names)) (Some place) None ≡ Some phase
place_is names name phase place e below =
    when_true (ltb place (length names)) (Some place) None (Some phase) (lt-ltb place (length names) (omega arith)) (ap Some e)

-- among different names
pub place_of_name : (names : List (List ℕ)) (phase : ℕ) → AllPairs (λ left right. left ≢ right) names → phase < length names
    → position (bytes_eq (get_or names phase [])) names ≡ Some phase
place_of_name names phase apart below =
    let first = position_or_len_is (bytes_eq (get_or names phase [])) names phase [] (omega arith)
    (λ k under. bytes_apart (get_or names phase []) (get_or names k []) (λ e. apart k phase [] under below (sym e)))
    (λ inside. bytes_itself (get_or names phase [])) in
    place_is names (get_or names phase []) phase (position_or_len (bytes_eq (get_or names phase [])) names) first below

word_by : (reading : Reading) (word : List ℕ) → some_word reading ≡ Some word → (reading ≡ Ok word) × (word ≢ [])
word_by (Ok []) word h = absurd (cc)
word_by (Ok (letter ∷ letters)) word h = let same : letter ∷ letters ≡ word = cc in (cc, λ none. cc (same, none))
word_by (Err fault) word h = absurd (cc)

line_taken : (told after : Told) (line : Entry) → take_form_line told line ≡ Ok after
    → (length told.forms < MOST_FORM_LINES) × (length line.letters ≤ MOST_FORM_LETTERS) × (length line.analysis.stem ≤ MOST_FORM_LETTERS)
    × (compare_last compare_entries told.forms line ≡ Less) × (with_line told line ≡ after)
line_taken told after line h =
    let limits = if_refused (passes_form_limits told line) _ Limit after h in
    let stem = or_parts _ _ limits.0 in
    let counts = or_parts _ _ stem.0 in
    let up = rises (compare_last compare_entries told.forms line) (with_line told line) after limits.1 in (
      leb-false MOST_FORM_LINES (length told.forms) counts.0,
      ltb-false MOST_FORM_LETTERS (length line.letters) counts.1,
      ltb-false MOST_FORM_LETTERS (length line.analysis.stem) stem.1,
      up.0,
      up.1,
    )

-- what is told of the letters and the stem
record WordsTaken (told after : Told) (phase : ℕ) (tag : List ℕ) (letters stem : Option (List ℕ)) : Type 0 where
  form : List ℕ
  form_stem : List ℕ
  is_form : letters ≡ Some form
  is_stem : stem ≡ Some form_stem
  taken : take_form_line told (record { phase = phase; letters = form; analysis = record { stem = form_stem; tag = tag } }) ≡ Ok after

analysis_taken : (told after : Told) (phase : ℕ) (tag : List ℕ) (letters stem : Option (List ℕ)) → take_analysis told phase tag letters stem ≡ Ok after
    → WordsTaken told after phase tag letters stem
analysis_taken told after phase tag None stem h = absurd (cc)
analysis_taken told after phase tag (Some letters) None h = absurd (cc)
analysis_taken told after phase tag (Some letters) (Some stem) h = record { form = letters; form_stem = stem; is_form = refl; is_stem = refl; taken = h }

-- a line of a form that is taken
pub record FormTaken (told after : Told) (name letters stem tag : List ℕ) : Type 0 where
  pub line : Entry
  pub may : MayLine told name line
  pub is_letters : letters ≡ slp1_of_word line.letters
  pub is_stem : stem ≡ slp1_of_word line.analysis.stem
  pub is_tag : tag ≡ line.analysis.tag
  pub is : with_line told line ≡ after

entry_taken : (told after : Told) (name : List ℕ) (phase : Option ℕ) (letters stem tag : List ℕ) → position (bytes_eq name) told.names ≡ phase
    → take_entry told phase letters stem tag ≡ Ok after → FormTaken told after name letters stem tag
entry_taken told after name None letters stem tag e h = absurd (cc)
entry_taken told after name (Some phase) letters stem tag e h =
    let tagged = if_passed (is_tag_text tag) _ Field after h in
    let words = analysis_taken told after phase tag (some_word (word_of_slp1 letters)) (some_word (word_of_slp1 stem)) tagged.1 in
    let form = word_by (word_of_slp1 letters) words.form words.is_form in
    let root = word_by (word_of_slp1 stem) words.form_stem words.is_stem in
    let line : Entry = record { phase = phase; letters = words.form; analysis = record { stem = words.form_stem; tag = tag } } in
    let (few, short, short_stem, up, is) = line_taken told after line words.taken in
    record {
      line = line;
      may = record {
        at = e;
        line_itself = record {
          phase = (name_at told.names name phase e).0;
          word = word_from_read letters words.form form.0;
          some = form.1;
          short = short;
          stem = word_from_read stem words.form_stem root.0;
          some_stem = root.1;
          short_stem = short_stem;
          tag = tag_from_test tag tagged.0;
        };
        few = few;
        above = up;
      };
      is_letters = sym (spelled_from_read letters words.form form.0);
      is_stem = sym (spelled_from_read stem words.form_stem root.0);
      is_tag = refl;
      is = is;
    }

pub took_form : (told after : Told) (fields : List (List ℕ)) → take_form told fields ≡ Ok after
    → (name : List ℕ) × (line : Entry) × (fields ≡ name ∷ slp1_of_word line.letters ∷ slp1_of_word line.analysis.stem ∷ line.analysis.tag ∷ []) × MayLine told name line
    × (with_line told line ≡ after)
unfolding take_form
took_form told after [] h = absurd (cc)
took_form told after (name ∷ []) h = absurd (cc)
took_form told after (name ∷ letters ∷ []) h = absurd (cc)
took_form told after (name ∷ letters ∷ stem ∷ []) h = absurd (cc)
took_form told after (name ∷ letters ∷ stem ∷ tag ∷ []) h =
    let taken = entry_taken told after name (position (bytes_eq name) told.names) letters stem tag refl h in
    (name, taken.line, λ i. name ∷ taken.is_letters i ∷ taken.is_stem i ∷ taken.is_tag i ∷ [], taken.may, taken.is)
took_form told after (name ∷ letters ∷ stem ∷ tag ∷ more ∷ fields) h = absurd (cc)

some_itself : (word : List ℕ) → word ≢ [] → some_word (Ok word) ≡ Some word
some_itself [] n = absurd (n refl)
some_itself (letter ∷ word) n = refl

some_spelled : (word : List ℕ) → IsWord word → word ≢ [] → some_word (word_of_slp1 (slp1_of_word word)) ≡ Some word
some_spelled word w n = ap some_word (spelled word w) ∙ some_itself word n

pub takes_form : (told : Told) (name : List ℕ) (line : Entry) → MayLine told name line
    → take_form told (name ∷ slp1_of_word line.letters ∷ slp1_of_word line.analysis.stem ∷ line.analysis.tag ∷ []) ≡ Ok (with_line told line)
unfolding take_form
takes_form told name line m =
    let l = m.line_itself in
    ap (λ phase. take_entry told phase (slp1_of_word line.letters) (slp1_of_word line.analysis.stem) line.analysis.tag) m.at
    ∙ when_true (is_tag_text line.analysis.tag) _ _ _ (test_from_tag line.analysis.tag l.tag)
    ((λ i. take_analysis told line.phase line.analysis.tag (some_spelled line.letters l.word l.some i) (some_spelled line.analysis.stem l.stem l.some_stem i))
    ∙ when_false (passes_form_limits told line) _ _ _
    (or_from _ _ (or_from _ _ (lt-leb MOST_FORM_LINES (length told.forms) m.few) (le-ltb MOST_FORM_LETTERS (length line.letters) l.short)) (le-ltb MOST_FORM_LETTERS (length line.analysis.stem) l.short_stem))
    (ap (λ order. if_rising order (with_line told line)) m.above))

-- ---- the end

pub took_end : (told after : Told) (rest : Option (List ℕ)) → take_end told rest ≡ Ok after → (rest ≡ None) × (with_end told ≡ after)
unfolding take_end
took_end told after None h = (refl, cc)
took_end told after (Some rest) h = absurd (cc)

pub takes_end : (told : Told) → take_end told None ≡ Ok (with_end told)
unfolding take_end
takes_end told = refl
