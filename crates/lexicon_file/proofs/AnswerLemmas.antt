-- Answers to a line: a refusal for one reason, and what version 1 answers to the lines that it has too.
use Rattle.std.proofs.Common.{◌≡◌, ℕ, Bool, true, false, cond, ◌||◌, Option, Ok, Err, List, [], ◌∷◌, ◌++◌, refl, sym, ◌∙◌, ap, subst}
use Rattle.std.specs.List.{list_any}
use Rattle.list_laws.specs.EmptyLists.{is_empty}
use Rattle.lexicon_definitions.specs.GrammarFaults.{IsGrammarTextWithinLimits}
use Rattle.lexicon_definitions.specs.Rules.{Rule}
use Rattle.lexicon_text_definitions.specs.FileContents as first
use Rattle.lexicon_text_definitions.specs.FileContents.{has_triple}
use Rattle.lexicon_text_definitions.specs.FileFaults as first_faults
use Rattle.lexicon_text_definitions.specs.FileLines as lines
use Rattle.lexicon_text_definitions.specs.FileSteps as steps
use Rattle.lexicon_text_definitions.proofs.LineSteps.{took_grammar}
use Rattle.trie_text_definitions.specs.VersionFaults as faults
use Rattle.trie_text_definitions.specs.VersionFaults.{same_why}
use Rattle.trie_text_definitions.specs.VersionSteps.{Kind, Grammar, Rules, Told, Taken, with_front, passes_limits, take_limited}
use Rattle.form_file.specs.declared.error.FileWhy as forms
use Rattle.form_file.specs.declared.error.FileWhy.TheVariants as form_whys
use Rattle.form_file.specs.declared.take_error.TakeError as form_errors
use Rattle.form_file.specs.declared.take_error.TakeError.TheVariants as form_error_cases
use Rattle.form_file.specs.Faults as form_faults
use Rattle.form_file.specs.LimitedRules as form_rules
use Rattle.form_file.specs.Told as form_told
use Rattle.lexicon_file.specs.declared.error.FileWhy.{FileWhy}
use Rattle.lexicon_file.specs.declared.take_error.TakeError.{TakeError}
use Rattle.lexicon_file.specs.declared.take_error.TakeError.TheVariants.{Why}
use Rattle.lexicon_file.specs.Faults.{why_of, why_from, take_error_from}
use Rattle.lexicon_file.specs.Told.{IsAnswer}

-- refused for this reason
pub refused_for : (A : Type 0) (taken : Taken) (error : TakeError) (why : FileWhy) (after : Told) → error ≡ Why why → taken ≡ Err (why_of why) → IsAnswer {A = A} taken (Err error) after
refused_for A taken error why after e t = subst (λ (err : TakeError). IsAnswer {A = A} taken (Err err) after) (sym e) t

-- a reason of version 1 means the same among those of any version
pub same_whys : (why : forms.FileWhy) → same_why (form_faults.why_of why) ≡ why_of (why_from why)
same_whys form_whys.Trailing = refl
same_whys form_whys.NoEnd = refl
same_whys form_whys.NotUtf8 = refl
same_whys form_whys.Head = refl
same_whys form_whys.Order = refl
same_whys form_whys.Field = refl
same_whys form_whys.Spelling = refl
same_whys form_whys.Strict = refl
same_whys (form_whys.Grammar fault) = refl
same_whys form_whys.Limit = refl
same_whys form_whys.Twice = refl
same_whys form_whys.Falling = refl

-- what version 1 refuses is refused for the same reason
pub front_refused : (A B : Type 0) (told after : Told) (kind : Kind) (taken : steps.Taken) (error : form_errors.TakeError) (front : first.Told) → form_told.IsAnswer {A = A} taken (Err error) front
    → IsAnswer {A = B} (with_front told kind taken) (Err (take_error_from error)) after
front_refused A B told after kind taken (form_error_cases.Why why) front h = ap (with_front told kind) h ∙ ap (λ w. Err w) (same_whys why)
front_refused A B told after kind taken form_error_cases.Memory front h = tt

-- ---- limited rules

by_tests : (told : Told) (rule : Rule) (strict limit twice : Bool)
    → cond strict (Err faults.Strict) (cond limit (Err faults.Limit) (cond twice (Err faults.Twice) (Ok (record told { last = Rules; front = record told.front { last = lines.Rule; rules = told.front.rules ++ rule ∷ [] } }))))
    ≡ with_front told Rules (cond strict (Err first_faults.Strict) (cond limit (Err first_faults.Limit) (cond twice (Err first_faults.Twice) (Ok (record told.front { last = lines.Rule; rules = told.front.rules ++ rule ∷ [] })))))
by_tests told rule true limit twice = refl
by_tests told rule false true twice = refl
by_tests told rule false false true = refl
by_tests told rule false false false = refl

-- a rule with its sets of phases is taken by what the front tells alone
pub limited_front : (told : Told) (rule : Rule) → take_limited told rule ≡ with_front told Rules (form_rules.take_limited told.front rule)
limited_front told rule =
    by_tests told rule (is_empty rule.u || is_empty rule.w) (passes_limits told.front.rules rule) (list_any (has_triple rule.u rule.v rule.w) told.front.rules)

-- where the told is what is kept
pub limited_refused : (A B : Type 0) (kept told after : Told) (rule : Rule) (error : form_errors.TakeError) (front : first.Told) → kept ≡ told
    → form_told.IsAnswer {A = A} (form_rules.take_limited kept.front rule) (Err error) front → IsAnswer {A = B} (take_limited told rule) (Err (take_error_from error)) after
limited_refused A B kept told after rule error front view h =
    subst (λ (t : Told). IsAnswer {A = B} (take_limited t rule) (Err (take_error_from error)) after) view
    (subst (λ (taken : Taken). IsAnswer {A = B} taken (Err (take_error_from error)) after) (sym (limited_front kept rule))
    (front_refused A B kept after Rules (form_rules.take_limited kept.front rule) error front h))

pub limited_taken : (kept told : Told) (rule : Rule) (front : first.Told) → kept ≡ told → form_rules.take_limited kept.front rule ≡ Ok front
    → take_limited told rule ≡ Ok (record kept { last = Rules; front = front })
limited_taken kept told rule front view h =
    ap (λ (t : Told). take_limited t rule) (sym view) ∙ limited_front kept rule ∙ ap (with_front kept Rules) h

-- ---- grammars

-- a grammar that is taken has a text within the limits
pub grammar_taken : (kept told : Told) (front : first.Told) (rest : Option (List ℕ)) → kept ≡ told → steps.take_grammar kept.front rest ≡ Ok front
    → (front.last ≡ lines.Grammar → IsGrammarTextWithinLimits front.names front.grammar)
    → (with_front told Grammar (steps.take_grammar told.front rest) ≡ Ok (record kept { last = Grammar; front = front }))
    × (Grammar ≡ Grammar → IsGrammarTextWithinLimits front.names front.grammar)
grammar_taken kept told front rest view taken within =
    let (text, e, same) = took_grammar kept.front front rest taken in
    let last : front.last ≡ lines.Grammar = ap (λ (t : first.Told). t.last) (sym same) in (
      ap (λ (t : Told). with_front t Grammar (steps.take_grammar t.front rest)) (sym view) ∙ ap (with_front kept Grammar) taken,
      λ g. within last,
    )
