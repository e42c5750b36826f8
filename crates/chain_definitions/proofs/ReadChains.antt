-- What is read is a chain with this text, and a chain is read back from its printed steps: by the three rounds.
use Rattle.std.proofs.Common.{◌≡◌, ◌≢◌, ℕ, zero, suc, ◌+◌, ◌<◌, ◌≤◌, ◌⊎◌, inl, inr, Option, Some, None, Result, Ok, Err, List, [], ◌∷◌, length, map, eqb, refl, sym, ◌∙◌, ap, subst, arith}
use Rattle.std.specs.List.{slice_split, join_with_byte}
use Rattle.std.proofs.lemmas.List.{length-map}
use Rattle.std.proofs.lemmas.List.Splits.{join_with_byte-slice_split}
use Rattle.list_laws.proofs.Elements.{some_by_length}
use Rattle.lexicon_definitions.specs.Rules.{HasPhase}
use Rattle.lexicon_definitions.specs.Lexicons.{Lexicon, RuleSet, IsForm, IsRuleSet, IsLexicon, rule_of}
use Rattle.segmentation_definitions.specs.Derivations.{Step, rule_after, IsRuleNumber, IsPlainSeam, Meets, AreForms, AreJoined, EndsWell}
use Rattle.segmentation_definitions.specs.PrintedAnswers.{printed_steps}
use Rattle.segmentation_definitions.proofs.Coverings.{rule_at_number, form_not_empty, phase_within}
use Rattle.chain_definitions.specs.Chains.{FitsBefore, AreFitting, IsChain}
use Rattle.chain_definitions.specs.ChainFaults.{Fault}
use Rattle.chain_definitions.specs.ChainTexts.{Triple, WrittenStep, steps_of_words, steps_of_text}
use Rattle.chain_definitions.specs.ChainReadings.{AllowsPhases, MeetsNext, AreMeeting, IsReadAfterNames, IsReadAfterShape, IsChainRead, steps_named}
use Rattle.chain_definitions.proofs.AnswerChains.{form_is_word, number_if_first}
use Rattle.chain_definitions.proofs.WrittenParts.{IsWritable, AreRuleWords}
use Rattle.chain_definitions.proofs.WrittenChains.{triple_of, change_of, written_of, IsInnerChange, IsFinalChange, AreWritable, words_of, words_in, words_back, words_tell, split_steps}
use Rattle.chain_definitions.proofs.NamedChains.{AreNameable, HaveRules, AreNamedSteps, steps_back, steps_tell}

-- ---- a chain is read back

low_phase : (lexicon : Lexicon) (phase : ℕ) (form : List ℕ) → IsLexicon lexicon → IsForm lexicon phase form → phase < length lexicon.rules.names
low_phase lexicon phase form is of_phase =
    let within = phase_within lexicon phase form of_phase in let count = is.count in omega (arith, within, count)

nameable : (lexicon : Lexicon) (steps : List Step) → IsLexicon lexicon → AreForms lexicon steps → AreJoined lexicon.rules steps
    → EndsWell lexicon.rules steps → AreNameable lexicon steps
nameable lexicon [] is forms joined ends = absurd ends
nameable lexicon (step ∷ []) is forms joined ends =
    (low_phase lexicon step.phase step.form is forms.0, forms.0, number_if_first lexicon.rules step [] joined ends, tt)
nameable lexicon (step ∷ next ∷ steps) is forms joined ends = (
  low_phase lexicon step.phase step.form is forms.0,
  forms.0,
  number_if_first lexicon.rules step (next ∷ steps) joined ends,
  nameable lexicon (next ∷ steps) is forms.1 joined.1 ends,
)

rule_words : (rules : RuleSet) (number : ℕ) → IsRuleSet rules → IsRuleNumber rules number → AreRuleWords (triple_of (rule_of rules number))
rule_words rules number set within =
    let rule = rule_at_number rules number set within in
    record { u = rule.u_is_word; v = rule.v_is_word; w = rule.w_is_word; some_u = rule.strict.0; some_w = rule.strict.1 }

inner_change : (rules : RuleSet) (number : ℕ) → IsRuleSet rules → (number ≡ 0) ⊎ (IsRuleNumber rules number × ((rule_of rules number).v ≢ []))
    → IsInnerChange (change_of rules number)
inner_change rules zero set h = tt
inner_change rules (suc number) set h = elim h [
  | inl none ↦ absurd (omega (arith, none))
  | inr inner ↦ (rule_words rules (suc number) set inner.0, inner.1)
]

final_change : (rules : RuleSet) (number : ℕ) → IsRuleSet rules → (number ≡ 0) ⊎ (IsRuleNumber rules number × ((rule_of rules number).v ≡ []))
    → IsFinalChange (change_of rules number)
final_change rules zero set h = tt
final_change rules (suc number) set h = elim h [
  | inl none ↦ absurd (omega (arith, none))
  | inr final_ ↦ (rule_words rules (suc number) set final_.0, final_.1)
]

writable_form : (lexicon : Lexicon) (step : Step) → IsLexicon lexicon → IsForm lexicon step.phase step.form
    → IsWritable (written_of lexicon.rules step).form
writable_form lexicon step is form = record {
  word = form_is_word lexicon step.phase step.form is form;
  some = some_by_length step.form (form_not_empty lexicon step.phase step.form is form);
  name = is.rules.names_are_names step.phase [] (low_phase lexicon step.phase step.form is form);
}

writable : (lexicon : Lexicon) (steps : List Step) → IsLexicon lexicon → AreForms lexicon steps → AreJoined lexicon.rules steps
    → EndsWell lexicon.rules steps → AreWritable (map (written_of lexicon.rules) steps)
writable lexicon [] is forms joined ends = absurd ends
writable lexicon (step ∷ []) is forms joined ends = (
  writable_form lexicon step is forms.0,
  final_change lexicon.rules step.rule is.rules (elim ends [ inl none ↦ inl none | inr final_ ↦ inr (final_.0, final_.1) ]),
)
writable lexicon (step ∷ next ∷ steps) is forms joined ends = (
  writable_form lexicon step is forms.0,
  inner_change lexicon.rules step.rule is.rules (elim joined.0 [ inl plain ↦ inl plain.0 | inr inner ↦ inr (inner.0.0, inner.0.1) ]),
  writable lexicon (next ∷ steps) is forms.1 joined.1 ends,
)

meeting : (rules : RuleSet) (steps : List Step) → AreJoined rules steps → EndsWell rules steps → AreFitting rules steps → AreMeeting rules steps
meeting rules [] joined ends fitting = tt
meeting rules (step ∷ []) joined ends fitting =
    ((λ some. elim ends [ inl none ↦ absurd (some none) | inr final_ ↦ final_.2 ]), fitting.0, tt)
meeting rules (step ∷ next ∷ steps) joined ends fitting = (
  (λ some. elim joined.0 [ inl plain ↦ absurd (some plain.0) | inr inner ↦ (inner.0.2, inner.1) ]),
  (fitting.0, (λ none. elim joined.0 [ inl plain ↦ plain.1 | inr inner ↦ absurd (let some = inner.0.0.0 in omega (arith, some, none)) ])),
  meeting rules (next ∷ steps) joined.1 ends fitting.1,
)

after_names : (rules : RuleSet) (told : Result (List Step) Fault) (steps : List Step) → told ≡ Ok steps → AreMeeting rules steps
    → IsReadAfterNames rules told (Ok steps)
after_names rules told steps e met = subst (λ (t : Result (List Step) Fault). IsReadAfterNames rules t (Ok steps)) (sym e) (refl, met)

after_shape : (lexicon : Lexicon) (told : Option (List WrittenStep)) (written : List WrittenStep) (steps : List Step) → told ≡ Some written
    → steps_named lexicon 1 written ≡ Ok steps → AreMeeting lexicon.rules steps → IsReadAfterShape lexicon told (Ok steps)
after_shape lexicon told written steps e named met =
    subst (λ (t : Option (List WrittenStep)). IsReadAfterShape lexicon t (Ok steps)) (sym e)
    (after_names lexicon.rules (steps_named lexicon 1 written) steps named met)

shape_back : (lexicon : Lexicon) (steps : List Step) → AreWritable (map (written_of lexicon.rules) steps)
    → steps_of_text (printed_steps lexicon.rules steps) ≡ Some (map (written_of lexicon.rules) steps)
unfolding steps_of_text
shape_back lexicon steps are =
    ap steps_of_words (split_steps lexicon.rules steps are) ∙ words_back (map (written_of lexicon.rules) steps) are

pub chain_back : (lexicon : Lexicon) (steps : List Step) → IsLexicon lexicon → IsChain lexicon steps
    → IsChainRead lexicon (printed_steps lexicon.rules steps) (Ok steps)
chain_back lexicon steps is chain =
    after_shape lexicon (steps_of_text (printed_steps lexicon.rules steps)) (map (written_of lexicon.rules) steps) steps
    (shape_back lexicon steps (writable lexicon steps is chain.forms chain.joined chain.ends))
    (steps_back lexicon 1 steps is.rules (nameable lexicon steps is chain.forms chain.joined chain.ends))
    (meeting lexicon.rules steps chain.joined chain.ends chain.fitting)

-- ---- what is read is a chain

inner_rule : (rules : RuleSet) (number : ℕ) → IsInnerChange (change_of rules number) → number ≢ 0 → (rule_of rules number).v ≢ []
inner_rule rules zero h some = absurd (some refl)
inner_rule rules (suc number) h some = h.1

final_rule : (rules : RuleSet) (number : ℕ) → IsFinalChange (change_of rules number) → number ≢ 0 → (rule_of rules number).v ≡ []
final_rule rules zero h some = absurd (some refl)
final_rule rules (suc number) h some = h.1

some_number : (rules : RuleSet) (number : ℕ) → IsRuleNumber rules number → number ≢ 0
some_number rules number within none = omega (arith, within.0, none)

joined_from : (rules : RuleSet) (steps : List Step) → AreWritable (map (written_of rules) steps) → HaveRules rules steps → AreMeeting rules steps
    → AreJoined rules steps
joined_from rules [] are have met = tt
joined_from rules (step ∷ []) are have met = tt
joined_from rules (step ∷ next ∷ steps) are have met = (
  elim have.0 [
    | inl none ↦ inl (none, met.1.1 none)
    | inr number ↦
        let some = some_number rules step.rule number in
        let allowed = met.0 some in
        inr ((number, inner_rule rules step.rule are.1 some, allowed.0), allowed.1)
  ],
  joined_from rules (next ∷ steps) are.2 have.1 met.2,
)

ends_from : (rules : RuleSet) (steps : List Step) → AreWritable (map (written_of rules) steps) → HaveRules rules steps → AreMeeting rules steps
    → EndsWell rules steps
ends_from rules [] are have met = are
ends_from rules (step ∷ []) are have met = elim have.0 [
  | inl none ↦ inl none
  | inr number ↦ let some = some_number rules step.rule number in inr (number, final_rule rules step.rule are.1 some, met.0 some)
]
ends_from rules (step ∷ next ∷ steps) are have met = ends_from rules (next ∷ steps) are.2 have.1 met.2

fitting_from : (rules : RuleSet) (steps : List Step) → AreMeeting rules steps → AreFitting rules steps
fitting_from rules [] met = tt
fitting_from rules (step ∷ []) met = (met.1, tt)
fitting_from rules (step ∷ next ∷ steps) met = (met.1.0, fitting_from rules (next ∷ steps) met.2)

-- what is told of a text that is read as these steps
pub record IsReadChain (lexicon : Lexicon) (text : List ℕ) (steps : List Step) : Type 0 where
  pub chain : IsChain lexicon steps
  pub printed : text ≡ printed_steps lexicon.rules steps

-- texts with the same words are the same
same_words : (left right : List ℕ) → words_in left ≡ words_in right → left ≡ right
same_words left right e =
    sym (join_with_byte-slice_split 32 left) ∙ ap (join_with_byte 32) e ∙ join_with_byte-slice_split 32 right

read_if_named : (lexicon : Lexicon) (text : List ℕ) (written : List WrittenStep) (steps : List Step) → AreWritable written → words_in text ≡ words_of written
    → AreNamedSteps lexicon written steps → AreMeeting lexicon.rules steps → IsReadChain lexicon text steps
read_if_named lexicon text written steps are words named met =
    let writable : AreWritable (map (written_of lexicon.rules) steps) = subst AreWritable named.are_written are in
    record {
      chain = record {
        forms = named.forms;
        joined = joined_from lexicon.rules steps writable named.numbers met;
        ends = ends_from lexicon.rules steps writable named.numbers met;
        fitting = fitting_from lexicon.rules steps met;
      };
      printed = same_words text (printed_steps lexicon.rules steps)
          (words ∙ ap words_of named.are_written ∙ sym (split_steps lexicon.rules steps writable));
    }

named_if_read : (lexicon : Lexicon) (text : List ℕ) (written : List WrittenStep) (steps : List Step) (told : Result (List Step) Fault)
    → AreWritable written → words_in text ≡ words_of written → steps_named lexicon 1 written ≡ told → IsReadAfterNames lexicon.rules told (Ok steps)
    → IsReadChain lexicon text steps
named_if_read lexicon text written steps (Err fault) are words e h = absurd (cc)
named_if_read lexicon text written steps (Ok named) are words e h =
    read_if_named lexicon text written steps are words
    (subst (AreNamedSteps lexicon written) (sym h.0) (steps_tell lexicon 1 written named e)) (subst (AreMeeting lexicon.rules) (sym h.0) h.1)

shape_if_read : (lexicon : Lexicon) (text : List ℕ) (steps : List Step) (told : Option (List WrittenStep)) → steps_of_words (words_in text) ≡ told
    → IsReadAfterShape lexicon told (Ok steps) → IsReadChain lexicon text steps
shape_if_read lexicon text steps None e h = absurd (cc)
shape_if_read lexicon text steps (Some written) e h =
    let told = words_tell (words_in text) written e in
    named_if_read lexicon text written steps (steps_named lexicon 1 written) told.0 told.1 refl h

pub chain_if_read : (lexicon : Lexicon) (text : List ℕ) (steps : List Step) → IsChainRead lexicon text (Ok steps) → IsReadChain lexicon text steps
unfolding steps_of_text
chain_if_read lexicon text steps h = shape_if_read lexicon text steps (steps_of_words (words_in text)) refl h
