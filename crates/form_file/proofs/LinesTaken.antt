-- What a line is taken as, by its tests one after another; and an answer to a line that is no grammar's.
use Rattle.std.proofs.Common.{◌≡◌, ◌≢◌, ℕ, ◌<◌, ◌^◌, inl, true, false, not, Option, Some, None, IfSome, Result, Ok, Err, List, [], ◌++◌, codes, length, refl, sym, ◌∙◌, ap, subst, arith, Bor}
use Rattle.std.specs.Result.{is_err, MatchResult}
use Rattle.std.specs.Str.{is_utf8, IsUtf8}
use Rattle.std.proofs.lemmas.Bool.{false_from_ne_true}
use Rattle.std.proofs.lemmas.Str.{IsUtf8-from_is_utf8, is_utf8-from_IsUtf8}
use Rattle.lexicon_text_definitions.specs.FileFaults as faults
use Rattle.list_laws.specs.Cuts.{cut}
use Rattle.lexicon_text_definitions.specs.FileLines as lines
use Rattle.lexicon_text_definitions.specs.FileLines.{Line, Parts, parts_of, parts_or_all, fields_of, kind_named, may_follow}
use Rattle.lexicon_text_definitions.specs.FileContents.{Told}
use Rattle.lexicon_text_definitions.specs.FileSteps.{Taken, take_phase, take_grammar, take_plain, take_rule, take_form, take_end, take_kind, take_named, take_parts, take_head, take_bytes, is_last, take_line}
use Rattle.lexicon_text_definitions.proofs.LineSteps.{took_phase, took_plain, took_rule, took_form, took_end}
use Rattle.form_file.specs.declared.kind.Kind.{Kind}
use Rattle.form_file.specs.declared.kind.Kind.TheVariants.{Opening, Head, Phase, Grammar, Plain, Rule, Form, End}
use Rattle.form_file.specs.declared.take_error.TakeError.{TakeError}
use Rattle.form_file.specs.declared.take_error.TakeError.TheVariants.{Why, Memory}
use Rattle.form_file.specs.declared.error.FileWhy.{FileWhy}
use Rattle.form_file.specs.Faults.{why_of}
use Rattle.form_file.specs.Fields.{text_of_rest}
use Rattle.form_file.specs.Kinds.{kind_of}
use Rattle.form_file.specs.Told.{IsAnswer, IsLineAnswer}
use Rattle.form_file.proofs.CutLemmas.{cut_shorter}
use Rattle.list_laws.proofs.Booleans.{if_passed, when_true, when_false}

-- ---- answers

-- refused for this reason
pub line_refused : (A : Type 0) (taken : Taken) (error : TakeError) (why : FileWhy) (after : Told) → error ≡ Why why → taken ≡ Err (why_of why) → IsLineAnswer {A = A} taken (Err error) after
line_refused A taken error why after e t = subst (λ (err : TakeError). IsLineAnswer {A = A} taken (Err err) after) (sym e) (inl t)

-- the answer to a line after which the last is no grammar's
answer_line : (A : Type 0) (taken : Taken) (result : Result A TakeError) (after : Told) → (taken ≡ Ok after → after.last ≢ lines.Grammar) → IsAnswer {A = A} taken result after
    → IsLineAnswer {A = A} taken result after
answer_line A taken (Ok done) after n h = (h, λ g. absurd (n h g))
answer_line A taken (Err (Why why)) after n h = inl h
answer_line A taken (Err Memory) after n h = tt

-- the answer to a line that is taken as another one
pub answer_as : (A : Type 0) (taken other : Taken) (result : Result A TakeError) (after : Told) → taken ≡ other → IsLineAnswer {A = A} other result after → IsLineAnswer {A = A} taken result after
answer_as A taken other result after e h = subst (λ (t : Taken). IsLineAnswer {A = A} t result after) (sym e) h

-- ---- a line of each kind

module _ (A : Type 0) (told after : Told) (result : Result A TakeError) where
  of_kind : (kind : Kind) (is_kind : Kind) (rest : Option (Bor (List ℕ))) (text : Bor (List ℕ)) → kind ≡ is_kind → rest ≡ Some text
      → IsLineAnswer {A = A} (take_kind told (kind_of is_kind) (Some text.now)) result after → IsLineAnswer {A = A} (take_kind told (kind_of kind) (text_of_rest rest)) result after
  of_kind kind is_kind rest text k r h =
      answer_as A _ _ result after ((λ i. take_kind told (kind_of (k i)) (text_of_rest (r i)))) h

  pub phase_answer : (kind : Kind) (rest : Option (Bor (List ℕ))) (text : Bor (List ℕ)) → kind ≡ Phase → rest ≡ Some text
      → IsAnswer {A = A} (take_phase told (fields_of (Some text.now))) result after → IsLineAnswer {A = A} (take_kind told (kind_of kind) (text_of_rest rest)) result after
  phase_answer kind rest text k r h =
      of_kind kind Phase rest text k r (answer_line A _ result after
      (λ t g. let (name, e, m, is) = took_phase told after (fields_of (Some text.now)) t in let last = ap (λ (t : Told). t.last) is in cc) h)

  pub grammar_answer : (kind : Kind) (rest : Option (Bor (List ℕ))) (text : Bor (List ℕ)) → kind ≡ Grammar → rest ≡ Some text
      → IsLineAnswer {A = A} (take_grammar told (Some text.now)) result after → IsLineAnswer {A = A} (take_kind told (kind_of kind) (text_of_rest rest)) result after
  grammar_answer kind rest text k r h = of_kind kind Grammar rest text k r h

  pub plain_answer : (kind : Kind) (rest : Option (Bor (List ℕ))) (text : Bor (List ℕ)) → kind ≡ Plain → rest ≡ Some text
      → IsAnswer {A = A} (take_plain told (fields_of (Some text.now))) result after → IsLineAnswer {A = A} (take_kind told (kind_of kind) (text_of_rest rest)) result after
  plain_answer kind rest text k r h =
      of_kind kind Plain rest text k r (answer_line A _ result after
      (λ t g. let (pair, e, m, is) = took_plain told after (fields_of (Some text.now)) t in let last = ap (λ (t : Told). t.last) is in cc) h)

  pub rule_answer : (kind : Kind) (rest : Option (Bor (List ℕ))) (text : Bor (List ℕ)) → kind ≡ Rule → rest ≡ Some text
      → IsAnswer {A = A} (take_rule told (fields_of (Some text.now))) result after → IsLineAnswer {A = A} (take_kind told (kind_of kind) (text_of_rest rest)) result after
  rule_answer kind rest text k r h =
      of_kind kind Rule rest text k r (answer_line A _ result after
      (λ t g. let (u, v, w, e, m, is) = took_rule told after (fields_of (Some text.now)) t in let last = ap (λ (t : Told). t.last) is in cc) h)

  pub form_answer : (kind : Kind) (rest : Option (Bor (List ℕ))) (text : Bor (List ℕ)) → kind ≡ Form → rest ≡ Some text
      → IsAnswer {A = A} (take_form told (fields_of (Some text.now))) result after → IsLineAnswer {A = A} (take_kind told (kind_of kind) (text_of_rest rest)) result after
  form_answer kind rest text k r h =
      of_kind kind Form rest text k r (answer_line A _ result after
      (λ t g. let (name, line, e, m, is) = took_form told after (fields_of (Some text.now)) t in let last = ap (λ (t : Told). t.last) is in cc) h)

  pub end_answer : (kind : Kind) (rest : Option (Bor (List ℕ))) → kind ≡ End
      → IsAnswer {A = A} (take_end told (text_of_rest rest)) result after → IsLineAnswer {A = A} (take_kind told (kind_of kind) (text_of_rest rest)) result after
  end_answer kind rest k h =
      answer_as A _ _ result after (ap (λ kind. take_kind told (kind_of kind) (text_of_rest rest)) k) (answer_line A _ result after
      (λ t g. let both = took_end told after (text_of_rest rest) t in let last = ap (λ (t : Told). t.last) both.1 in cc) h)

  pub head_answer : (bytes : List ℕ) → IsAnswer {A = A} (take_head told bytes) result after → IsLineAnswer {A = A} (take_head told bytes) result after
  head_answer bytes h =
      answer_line A _ result after
      (λ t g. let both = if_passed _ (Ok (record told { last = lines.Head })) faults.Head after t in let last = ap (λ (t : Result Told faults.Why). t) both.1 in cc) h

-- a line of the body that is no end has a text
no_fields : (told : Told) → (take_phase told [] ≡ Err faults.Field) × (take_grammar told None ≡ Err faults.Field) × (take_plain told [] ≡ Err faults.Field)
    × (take_rule told [] ≡ Err faults.Field) × (take_form told [] ≡ Err faults.Field)
unfolding take_phase take_grammar take_plain take_rule take_form
no_fields told = (refl, refl, refl, refl, refl)

-- no line is an opening or a head by its name
pub never_opening : (last : lines.Kind) → may_follow last lines.Opening ≡ false
never_opening lines.Opening = refl
never_opening lines.Head = refl
never_opening lines.Phase = refl
never_opening lines.Grammar = refl
never_opening lines.Plain = refl
never_opening lines.Rule = refl
never_opening lines.Form = refl
never_opening lines.End = refl

pub never_head : (last : lines.Kind) → may_follow last lines.Head ≡ false
never_head lines.Opening = refl
never_head lines.Head = refl
never_head lines.Phase = refl
never_head lines.Grammar = refl
never_head lines.Plain = refl
never_head lines.Rule = refl
never_head lines.Form = refl
never_head lines.End = refl

bare : (told : Told) (last : lines.Kind) (kind : Kind) → may_follow last (kind_of kind) ≡ true → kind ≢ End → take_kind told (kind_of kind) None ≡ Err faults.Field
bare told last Opening f n = absurd (cc (f, never_opening last))
bare told last Head f n = absurd (cc (f, never_head last))
bare told last Phase f n = (no_fields told).0
bare told last Grammar f n = (no_fields told).1
bare told last Plain f n = (no_fields told).2
bare told last Rule f n = (no_fields told).3
bare told last Form f n = (no_fields told).4
bare told last End f n = absurd (n refl)

pub no_text : (told : Told) (last : lines.Kind) (kind : Kind) (rest : Option (Bor (List ℕ))) → may_follow last (kind_of kind) ≡ true → kind ≢ End → rest ≡ None
    → take_kind told (kind_of kind) (text_of_rest rest) ≡ Err faults.Field
no_text told last kind rest f n r = ap (λ r. take_kind told (kind_of kind) (text_of_rest r)) r ∙ bare told last kind f n

-- ---- the tests of a line

-- what comes after the blank is shorter than the line
rest_by : (line name : List ℕ) (text : List ℕ) (parts : Option (List ℕ × List ℕ)) → cut 32 line ≡ parts → parts_or_all line parts ≡ record { kind = name; rest = Some text }
    → length text < length line
rest_by line name text None e h = let none : None ≡ Some text = ap (λ (p : Parts). p.rest) h in absurd (cc)
rest_by line name text (Some parts) e h =
    let some : Some parts.1 ≡ Some text = ap (λ (p : Parts). p.rest) h in
    let same : parts.1 ≡ text = cc in
    subst (λ t. length t < length line) same (cut_shorter 32 line parts.0 parts.1 e)

pub rest_fits : (line name : List ℕ) (rest : Option (Bor (List ℕ))) → parts_of line ≡ record { kind = name; rest = text_of_rest rest } → length line < 2 ^ 32
    → IfSome rest (λ text. length text.now < 2 ^ 32)
rest_fits line name None h l = tt
rest_fits line name (Some text) h l = let less = rest_by line name text.now (cut 32 line) refl h in omega arith

module _ (told : Told) (bytes name : List ℕ) (rest : Option (List ℕ)) where
  pub unnamed : parts_of bytes ≡ record { kind = name; rest = rest } → kind_named name ≡ None → take_parts told (parts_of bytes) ≡ Err faults.Order
  unnamed e k = ap (take_parts told) e ∙ ap (λ kind. take_named told kind rest) k

  pub not_following : (kind : lines.Kind) → parts_of bytes ≡ record { kind = name; rest = rest } → kind_named name ≡ Some kind → may_follow told.last kind ≡ false
      → take_parts told (parts_of bytes) ≡ Err faults.Order
  not_following kind e k f = ap (take_parts told) e ∙ ap (λ kind. take_named told kind rest) k ∙ when_false (may_follow told.last kind) _ _ _ f refl

  pub following : (kind : lines.Kind) → parts_of bytes ≡ record { kind = name; rest = rest } → kind_named name ≡ Some kind → may_follow told.last kind ≡ true
      → take_parts told (parts_of bytes) ≡ take_kind told kind rest
  following kind e k f = ap (take_parts told) e ∙ ap (λ kind. take_named told kind rest) k ∙ when_true (may_follow told.last kind) _ _ _ f refl

not_last : (last : lines.Kind) → (last ≢ lines.End) → is_last last ≡ false
not_last lines.End n = absurd (n refl)
not_last last n = refl

not_first : (last : lines.Kind) (told : Told) (bytes : List ℕ) → last ≢ lines.Opening → take_bytes last told bytes ≡ take_parts told (parts_of bytes)
not_first lines.Opening told bytes n = absurd (n refl)
not_first last told bytes n = refl

module _ (told : Told) (line : Line) where
  pub trailing : told.last ≡ lines.End → take_line told line ≡ Err faults.Trailing
  unfolding take_line
  trailing e = when_true (is_last told.last) _ _ _ (ap is_last e) refl

  pub no_end : told.last ≢ lines.End → line.ended ≡ false → take_line told line ≡ Err faults.NoEnd
  unfolding take_line
  no_end n e = when_false (is_last told.last) _ _ _ (not_last told.last n) (when_true (not line.ended) _ _ _ (ap not e) refl)

  pub not_utf8 : told.last ≢ lines.End → line.ended ≡ true → is_utf8 line.bytes ≡ false → take_line told line ≡ Err faults.NotUtf8
  unfolding take_line
  not_utf8 n e u =
      when_false (is_last told.last) _ _ _ (not_last told.last n) (when_false (not line.ended) _ _ _ (ap not e) (when_true (not (is_utf8 line.bytes)) _ _ _ (ap not u) refl))

  bytes_taken : told.last ≢ lines.End → line.ended ≡ true → is_utf8 line.bytes ≡ true → take_line told line ≡ take_bytes told.last told line.bytes
  unfolding take_line
  bytes_taken n e u =
      when_false (is_last told.last) _ _ _ (not_last told.last n) (when_false (not line.ended) _ _ _ (ap not e) (when_false (not (is_utf8 line.bytes)) _ _ _ (ap not u) refl))

  pub head_line : told.last ≡ lines.Opening → line.ended ≡ true → is_utf8 line.bytes ≡ true → take_line told line ≡ take_head told line.bytes
  head_line o e u = bytes_taken (λ h. cc) e u ∙ ap (λ last. take_bytes last told line.bytes) o

  pub later_line : told.last ≢ lines.End → told.last ≢ lines.Opening → line.ended ≡ true → is_utf8 line.bytes ≡ true → take_line told line ≡ take_parts told (parts_of line.bytes)
  later_line n o e u = bytes_taken n e u ∙ not_first told.last told line.bytes o

-- a line of a form after another
another_form : (told : Told) (line text : List ℕ) → told.last ≡ lines.Form → line ≡ codes "form " ++ text → is_utf8 line ≡ true
    → take_line told (record { bytes = line; ended = true }) ≡ take_form told (fields_of (Some text))
another_form told line text l e u =
    later_line told (record { bytes = line; ended = true }) (λ h. cc) (λ h. cc) refl u
    ∙ ap (λ bytes. take_parts told (parts_of bytes)) e
    ∙ following told (codes "form " ++ text) (codes "form") (Some text) lines.Form refl refl (ap (λ last. may_follow last lines.Form) l)

pub next_answer : (A : Type 0) (told after : Told) (result : Result A TakeError) (line : List ℕ) (text : Bor (List ℕ)) → told.last ≡ lines.Form → line ≡ codes "form " ++ text.now
    → is_utf8 line ≡ true → IsAnswer {A = A} (take_form told (fields_of (Some text.now))) result after
    → IsLineAnswer {A = A} (take_line told (record { bytes = line; ended = true })) result after
next_answer A told after result line text l e u h =
    answer_as A _ _ result after (another_form told line text.now l e u) (form_answer A told after result Form (Some text) text refl refl h)

-- ---- the last kind

end_by : (kind : Kind) → kind_of kind ≡ lines.End → kind ≡ End
end_by Opening e = absurd (cc)
end_by Head e = absurd (cc)
end_by Phase e = absurd (cc)
end_by Grammar e = absurd (cc)
end_by Plain e = absurd (cc)
end_by Rule e = absurd (cc)
end_by Form e = absurd (cc)
end_by End e = refl

opening_by : (kind : Kind) → kind_of kind ≡ lines.Opening → kind ≡ Opening
opening_by Opening e = refl
opening_by Head e = absurd (cc)
opening_by Phase e = absurd (cc)
opening_by Grammar e = absurd (cc)
opening_by Plain e = absurd (cc)
opening_by Rule e = absurd (cc)
opening_by Form e = absurd (cc)
opening_by End e = absurd (cc)

module _ (kept told : Told) (kind : Kind) where
  pub last_is : (other : Kind) → kept ≡ told → kept.last ≡ kind_of kind → kind ≡ other → told.last ≡ kind_of other
  last_is other view k e = sym (ap (λ (t : Told). t.last) view) ∙ k ∙ ap kind_of e

  pub last_not_end : kept ≡ told → kept.last ≡ kind_of kind → (kind ≢ End) → told.last ≢ lines.End
  last_not_end view k n e = n (end_by kind (sym k ∙ ap (λ (t : Told). t.last) view ∙ e))

  pub last_not_opening : kept ≡ told → kept.last ≡ kind_of kind → (kind ≢ Opening) → told.last ≢ lines.Opening
  last_not_opening view k n e = n (opening_by kind (sym k ∙ ap (λ (t : Told). t.last) view ∙ e))

-- ---- whether the bytes are UTF-8

module _ (T E : Type 0) (bytes : List ℕ) where
  pub utf8_bad : (read : Result T E) (P : T → Type 0) (Q : E → Type 0) → MatchResult read P Q → ((e : E) → Q e → IsUtf8 bytes → ⊥) → is_err read ≡ true → is_utf8 bytes ≡ false
  utf8_bad (Ok text) P Q h n e = absurd (cc)
  utf8_bad (Err fault) P Q h n e = false_from_ne_true (is_utf8 bytes) (λ u. n fault h (IsUtf8-from_is_utf8 bytes u))

  pub utf8_good : (read : Result T E) (P : T → Type 0) (Q : E → Type 0) → MatchResult read P Q → ((text : T) → P text → IsUtf8 bytes) → is_err read ≡ false → is_utf8 bytes ≡ true
  utf8_good (Ok text) P Q h n e = is_utf8-from_IsUtf8 bytes (n text h)
  utf8_good (Err fault) P Q h n e = absurd (cc)
