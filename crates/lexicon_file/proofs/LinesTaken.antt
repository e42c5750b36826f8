-- What a line is taken as, by its tests one after another; and an answer to a line that is no grammar's.
use Rattle.std.proofs.Common.{rules, ◌≡◌, ◌≢◌, ℕ, inl, Bool, true, false, not, Option, Some, None, Result, Ok, Err, List, [], ◌∷◌, ◌++◌, codes, true≢false, refl, sym, ◌∙◌, ap, subst, Bor}
use Rattle.std.specs.Str.{is_utf8}
use denote.Enum.Bare.{sameb, differs_true, differs_false}
use Rattle.list_laws.proofs.Booleans.{when_true, when_false}
use Rattle.lexicon_text_definitions.specs.FileLines.{Line, Parts, parts_of, fields_of}
use Rattle.lexicon_text_definitions.proofs.LineCuts as cuts
use Rattle.lexicon_text_definitions.specs.FileSteps as steps
use Rattle.lexicon_text_definitions.specs.FileFaults as first_faults
use Rattle.trie_text_definitions.specs.Versions.{Version, Second, Third}
use Rattle.trie_text_definitions.specs.VersionFaults as faults
use Rattle.trie_text_definitions.specs.VersionSteps as lines_told
use Rattle.trie_text_definitions.specs.VersionSteps.{Told, Taken, Phase, Grammar, Plain, Rules, Node, Root, End, with_front, may_follow, take_rule, take_limited_rule, take_node, take_root, take_end, kind_named, take_kind, take_parts, is_last, take_line}
use Rattle.trie_text_definitions.proofs.LimitedRuleSteps.{with_limited, took_limited}
use Rattle.trie_text_definitions.proofs.NodeSteps.{with_row, took_node, with_root, took_root}
use Rattle.trie_text_definitions.proofs.VersionLines as named_as
use Rattle.trie_text_definitions.proofs.VersionLines.{with_end}
use Rattle.trie_text_definitions.proofs.VersionsTold.{end_taken}
use Rattle.form_file.specs.Fields.{text_of_rest}
use Rattle.lexicon_file.specs.contracts.kind.Kind.{the_type}
use Rattle.lexicon_file.specs.declared.kind.Kind as kinds
use Rattle.lexicon_file.specs.declared.kind.Kind.TheVariants as named
use Rattle.lexicon_file.specs.declared.error.FileWhy.{FileWhy}
use Rattle.lexicon_file.specs.declared.error.FileWhy.TheVariants as named_whys
use Rattle.lexicon_file.specs.declared.take_error.TakeError.{TakeError}
use Rattle.lexicon_file.specs.declared.take_error.TakeError.TheVariants.{Why, Memory}
use Rattle.lexicon_file.specs.Faults.{why_of}
use Rattle.lexicon_file.specs.Kinds.{kind_of}
use Rattle.lexicon_file.specs.Told.{IsAnswer, IsLineAnswer, IsNoEnd, kind_name, line_with}

-- ---- answers

-- refused for this reason
pub line_refused : (A : Type 0) (taken : Taken) (error : TakeError) (why : FileWhy) (after : Told) → error ≡ Why why → taken ≡ Err (why_of why) → IsLineAnswer {A = A} taken (Err error) after
line_refused A taken error why after e t = subst (λ (err : TakeError). IsLineAnswer {A = A} taken (Err err) after) (sym e) (inl t)

-- the answer to a line after which the last is no grammar's
answer_line : (A : Type 0) (taken : Taken) (result : Result A TakeError) (after : Told) → (taken ≡ Ok after → after.last ≢ Grammar) → IsAnswer {A = A} taken result after
    → IsLineAnswer {A = A} taken result after
answer_line A taken (Ok done) after n h = (h, λ g. absurd (n h g))
answer_line A taken (Err (Why why)) after n h = inl h
answer_line A taken (Err Memory) after n h = tt

-- the answer to a line that is taken as another one
pub answer_as : (A : Type 0) (taken other : Taken) (result : Result A TakeError) (after : Told) → taken ≡ other → IsLineAnswer {A = A} other result after → IsLineAnswer {A = A} taken result after
answer_as A taken other result after e h = subst (λ (t : Taken). IsLineAnswer {A = A} t result after) (sym e) h

-- ---- a line of each kind

no_grammar : (after other : Told) → other ≡ after → other.last ≢ Grammar → after.last ≢ Grammar
no_grammar after other e n g = n (ap (λ (t : Told). t.last) e ∙ g)

front_last : (told after : Told) (taken : steps.Taken) → with_front told Rules taken ≡ Ok after → after.last ≢ Grammar
front_last told after (Ok front) h = let same : record told { last = Rules; front = front } ≡ after = cc in no_grammar after _ same (λ e. cc)
front_last told after (Err why) h = absurd (cc)

rule_last : (version : Version) (told after : Told) (rest : Option (List ℕ)) → take_rule version told (fields_of rest) ≡ Ok after → after.last ≢ Grammar
rule_last Second told after rest h = front_last told after (steps.take_rule told.front (fields_of rest)) h
rule_last Third told after rest h = let taken = took_limited told after (fields_of rest) h in no_grammar after (with_limited told taken.rule) taken.is (λ e. cc)

end_last : (version : Version) (told after : Told) (rest : Option (List ℕ)) → take_end version told rest ≡ Ok after → after.last ≢ Grammar
unfolding take_end
end_last version told after None h = no_grammar after (with_end told) (end_taken version told after h).1 (λ e. cc)
end_last version told after (Some text) h = absurd (cc)

module _ (A : Type 0) (version : Version) (told after : Told) (bytes : List ℕ) (result : Result A TakeError) where
  of_kind : (kind : kinds.Kind) (is_kind : kinds.Kind) (rest : Option (Bor (List ℕ))) (text : Bor (List ℕ)) → kind ≡ is_kind → rest ≡ Some text
      → IsLineAnswer {A = A} (take_kind version told bytes (kind_of is_kind) (Some text.now)) result after → IsLineAnswer {A = A} (take_kind version told bytes (kind_of kind) (text_of_rest rest)) result after
  of_kind kind is_kind rest text k r h =
      answer_as A _ _ result after (λ i. take_kind version told bytes (kind_of (k i)) (text_of_rest (r i))) h

  pub rule_answer : (kind : kinds.Kind) (rest : Option (Bor (List ℕ))) (text : Bor (List ℕ)) → kind ≡ named.Rule → rest ≡ Some text
      → IsAnswer {A = A} (take_rule version told (fields_of (Some text.now))) result after → IsLineAnswer {A = A} (take_kind version told bytes (kind_of kind) (text_of_rest rest)) result after
  rule_answer kind rest text k r h =
      of_kind kind named.Rule rest text k r (answer_line A _ result after (rule_last version told after (Some text.now)) h)

  module _ (kind : kinds.Kind) (rest : Option (Bor (List ℕ))) (line : bytes ≡ line_with (kind_name (kind_of kind)) (text_of_rest rest)) where
    line_as : (is_kind : kinds.Kind) (text : Bor (List ℕ)) → kind ≡ is_kind → rest ≡ Some text → bytes ≡ kind_name (kind_of is_kind) ++ 32 ∷ text.now
    line_as is_kind text k r = line ∙ (λ i. line_with (kind_name (kind_of (k i))) (text_of_rest (r i)))

    pub node_line_is : (text : Bor (List ℕ)) → kind ≡ named.Node → rest ≡ Some text → bytes ≡ codes "node " ++ text.now
    node_line_is text k r = line_as named.Node text k r

    pub node_answer : (text : Bor (List ℕ)) → kind ≡ named.Node → rest ≡ Some text
        → IsAnswer {A = A} (take_node told bytes (fields_of (Some text.now))) result after → IsLineAnswer {A = A} (take_kind version told bytes (kind_of kind) (text_of_rest rest)) result after
    node_answer text k r h =
        of_kind kind named.Node rest text k r (answer_line A _ result after
        (λ t. let (row, e, m, is) = took_node told after bytes (Some text.now) (line_as named.Node text k r) t in no_grammar after (with_row told row) is (λ e. cc)) h)

    pub root_answer : (text : Bor (List ℕ)) → kind ≡ named.Root → rest ≡ Some text
        → IsAnswer {A = A} (take_root told (fields_of (Some text.now))) result after → IsLineAnswer {A = A} (take_kind version told bytes (kind_of kind) (text_of_rest rest)) result after
    root_answer text k r h =
        of_kind kind named.Root rest text k r (answer_line A _ result after
        (λ t. let (root, e, m, is) = took_root told after bytes (Some text.now) (line_as named.Root text k r) t in no_grammar after (with_root told root) is (λ e. cc)) h)

  pub end_answer : (kind : kinds.Kind) (rest : Option (Bor (List ℕ))) → kind ≡ named.End
      → IsAnswer {A = A} (take_end version told (text_of_rest rest)) result after → IsLineAnswer {A = A} (take_kind version told bytes (kind_of kind) (text_of_rest rest)) result after
  end_answer kind rest k h =
      answer_as A _ _ result after (ap (λ (k : kinds.Kind). take_kind version told bytes (kind_of k) (text_of_rest rest)) k)
      (answer_line A _ result after (end_last version told after (text_of_rest rest)) h)

-- a line of the body that is no end has a text
no_fields : (version : Version) (told : Told) (bytes : List ℕ) → (steps.take_phase told.front [] ≡ Err first_faults.Field) × (steps.take_grammar told.front None ≡ Err first_faults.Field)
    × (steps.take_plain told.front [] ≡ Err first_faults.Field) × (steps.take_rule told.front [] ≡ Err first_faults.Field) × (take_limited_rule told [] ≡ Err faults.Field)
    × (take_node told bytes [] ≡ Err faults.Field) × (take_root told [] ≡ Err faults.Field)
unfolding steps.take_phase steps.take_grammar steps.take_plain steps.take_rule take_limited_rule take_node take_root
no_fields version told bytes = (refl, refl, refl, refl, refl, refl, refl)

-- no line is a head by its name
never_head : (rooted : Bool) (last : lines_told.Kind) → may_follow rooted last lines_told.Head ≡ false
never_head rooted lines_told.Head = refl
never_head rooted lines_told.Phase = refl
never_head rooted lines_told.Grammar = refl
never_head rooted lines_told.Plain = refl
never_head rooted lines_told.Rules = refl
never_head rooted lines_told.Node = refl
never_head rooted lines_told.Root = refl
never_head rooted lines_told.End = refl

bare_rule : (version : Version) (told : Told) → take_rule version told [] ≡ Err faults.Field
bare_rule Second told = ap (with_front told Rules) (no_fields Second told []).3
bare_rule Third told = (no_fields Third told []).4

bare : (version : Version) (told : Told) (bytes : List ℕ) (rooted : Bool) (last : lines_told.Kind) (kind : kinds.Kind) → may_follow rooted last (kind_of kind) ≡ true → kind ≢ named.End
    → take_kind version told bytes (kind_of kind) None ≡ Err faults.Field
bare version told bytes rooted last named.Head f n = absurd (true≢false (sym f ∙ never_head rooted last))
bare version told bytes rooted last named.Phase f n = ap (with_front told Phase) (no_fields version told bytes).0
bare version told bytes rooted last named.Grammar f n = ap (with_front told Grammar) (no_fields version told bytes).1
bare version told bytes rooted last named.Plain f n = ap (with_front told Plain) (no_fields version told bytes).2
bare version told bytes rooted last named.Rule f n = bare_rule version told
bare version told bytes rooted last named.Node f n = (no_fields version told bytes).5
bare version told bytes rooted last named.Root f n = (no_fields version told bytes).6
bare version told bytes rooted last named.End f n = absurd (n refl)

pub no_text : (version : Version) (told : Told) (bytes : List ℕ) (rooted : Bool) (last : lines_told.Kind) (kind : kinds.Kind) (rest : Option (Bor (List ℕ))) → may_follow rooted last (kind_of kind) ≡ true
    → kind ≢ named.End → rest ≡ None → take_kind version told bytes (kind_of kind) (text_of_rest rest) ≡ Err faults.Field
no_text version told bytes rooted last kind rest f n r =
    ap (λ (r : Option (Bor (List ℕ))). take_kind version told bytes (kind_of kind) (text_of_rest r)) r ∙ bare version told bytes rooted last kind f n

-- ---- the tests of a line

same_name : (kind : lines_told.Kind) → named_as.kind_name kind ≡ kind_name kind
same_name lines_told.Head = refl
same_name lines_told.Phase = refl
same_name lines_told.Grammar = refl
same_name lines_told.Plain = refl
same_name lines_told.Rules = refl
same_name lines_told.Node = refl
same_name lines_told.Root = refl
same_name lines_told.End = refl

same_line : (name : List ℕ) (rest : Option (List ℕ)) → cuts.line_with name rest ≡ line_with name rest
same_line name None = refl
same_line name (Some rest) = refl

-- a line with a kind's name is cut so
pub line_of_kind : (line name : List ℕ) (kind : lines_told.Kind) (rest : Option (List ℕ)) → parts_of line ≡ record { kind = name; rest = rest } → kind_named name ≡ Some kind
    → line ≡ line_with (kind_name kind) rest
line_of_kind line name kind rest e k =
    cuts.line_from_parts line ∙ ap (λ (p : Parts). cuts.line_with p.kind p.rest) e ∙ same_line name rest ∙ ap (λ (n : List ℕ). line_with n rest) (named_as.named_kind name kind k ∙ same_name kind)

not_last : (last : lines_told.Kind) → last ≢ End → is_last last ≡ false
not_last End n = absurd (n refl)
not_last last n = refl

module _ (version : Version) (told : Told) (line : Line) where
  pub trailing : told.last ≡ End → take_line version told line ≡ Err faults.Trailing
  unfolding take_line
  trailing e = when_true (is_last told.last) _ _ _ (ap is_last e) refl

  module _ (before : told.last ≢ End) where
    pub no_end : line.ended ≡ false → take_line version told line ≡ Err faults.NoEnd
    unfolding take_line
    no_end e = when_false (is_last told.last) _ _ _ (not_last told.last before) (when_true (not line.ended) _ _ _ (ap not e) refl)

    pub not_utf8 : line.ended ≡ true → is_utf8 line.bytes ≡ false → take_line version told line ≡ Err faults.NotUtf8
    unfolding take_line
    not_utf8 e u =
        when_false (is_last told.last) _ _ _ (not_last told.last before) (when_false (not line.ended) _ _ _ (ap not e) (when_true (not (is_utf8 line.bytes)) _ _ _ (ap not u) refl))

    pub parts_taken : line.ended ≡ true → is_utf8 line.bytes ≡ true → take_line version told line ≡ take_parts version told line.bytes (parts_of line.bytes)
    unfolding take_line
    parts_taken e u =
        when_false (is_last told.last) _ _ _ (not_last told.last before) (when_false (not line.ended) _ _ _ (ap not e) (when_false (not (is_utf8 line.bytes)) _ _ _ (ap not u) refl))

-- ---- the last kind

end_by : (kind : kinds.Kind) → kind_of kind ≡ End → kind ≡ named.End
end_by named.Head e = absurd (cc)
end_by named.Phase e = absurd (cc)
end_by named.Grammar e = absurd (cc)
end_by named.Plain e = absurd (cc)
end_by named.Rule e = absurd (cc)
end_by named.Node e = absurd (cc)
end_by named.Root e = absurd (cc)
end_by named.End e = refl

pub ended : (kind : kinds.Kind) → false ≡ not (sameb the_type kind named.End) → kind_of kind ≡ End
ended kind h = ap kind_of (differs_false the_type (search rules) kind named.End (sym h))

pub not_ended : (kind : kinds.Kind) → true ≡ not (sameb the_type kind named.End) → kind_of kind ≢ End
not_ended kind h e = differs_true the_type kind named.End (sym h) (end_by kind e)

-- so the end is missing
pub end_missing : (error : TakeError) (Ended : Type 0) → error ≡ Why named_whys.NoEnd → (Ended → ⊥) → IsNoEnd error Ended
end_missing error Ended e n = subst (λ (err : TakeError). IsNoEnd err Ended) (sym e) (refl, n)

module _ (kept told : Told) (kind : kinds.Kind) (view : kept ≡ told) (last : kept.last ≡ kind_of kind) where
  pub last_is : (other : kinds.Kind) → kind ≡ other → told.last ≡ kind_of other
  last_is other e = sym (ap (λ (t : Told). t.last) view) ∙ last ∙ ap kind_of e

  pub last_not_end : (kind ≢ named.End) → told.last ≢ End
  last_not_end n e = n (end_by kind (sym last ∙ ap (λ (t : Told). t.last) view ∙ e))
