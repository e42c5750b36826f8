-- What a key does at a place, told by what the line tells of all forms that begin there and by what its rule does after its letters.
use Rattle.std.proofs.Common.{◌≡◌, ℕ, zero, suc, ◌+◌, ◌<◌, ◌≤◌, ◌↔◌, inl, inr, IsTrue, IfSome, Bool, true, false, Contains, Option, None, Some, List, [], ◌++◌, All, length, take, drop, get_or, refl, sym, ap, subst, ◌∙◌, add-zero, arith, length-drop, length-append}
use Rattle.std.proofs.lemmas.Bool.{ne_eqb, cases_lt}
use Rattle.std.proofs.lemmas.List.{get_or_append_left, get_or-take, get_or-drop, get_or_past, length-take-le}
use Rattle.std.proofs.lemmas.List.Elements.{All-contains}
use Rattle.text_definitions.specs.Lines.{Line}
use Rattle.lexicon_definitions.specs.declared.limits.TheConstants.{MOST_RULE_LETTERS}
use Rattle.lexicon_definitions.specs.Rules.{Rule, rule_at, no_change}
use Rattle.lexicon_definitions.specs.Lexicons.{RuleSet, rule_of, IsForm, IsPlain}
use Rattle.lexicon_definitions.specs.Limits.{IsShortRule, IsRuleSetWithinLimits}
use Rattle.segmentation_definitions.specs.Derivations.{Step, rule_after}
use Rattle.segmentation_definitions.specs.Items.{Choice}
use Rattle.segmentation_definitions.specs.Listings.{Key}
use Rattle.segmentation_definitions.specs.LocalTests.{Allows, IsLast}
use Rattle.segmentation_definitions.specs.Configurations.{Entrance, Start, Plain, Lead, entrance_after_step}
use Rattle.segmentation_definitions.proofs.Coverings.{form_not_empty, unchanged_at_zero}
use Rattle.annotated_trie.specs.Searched.{SearchedLexicon, IsSearchedLexicon}
use Rattle.reader_choices.specs.Freedom.{LeaveFree}
use Rattle.answer_paths.specs.Fronts.{supplied}
use Rattle.answer_paths.specs.Following.{MayEnter, MayStand, is_start, step_at, placed_at}
use Rattle.search_frames.specs.declared.ahead.Ahead.{Ahead}
use Rattle.search_frames.specs.declared.letter_testing.LetterTest.{LetterTest}
use Rattle.search_frames.specs.declared.letter_testing.LetterTest.TheVariants as test
use Rattle.search_frames.specs.Ahead.{AllowsWhicheverRule, IsAhead, FitsPlace, LetIn, LetsLetterIn, LetsRuleIn, MayBegin, RuleStands, RuleFails, IsRuleTest}
use Rattle.search_frames.specs.Configurations.{NumberedConfiguration, IsPossible, rules_in}
use Rattle.search_frames.specs.LetterTests.{DoAsRules, DoAsTheseRules, NoneStands, MayNeither, IsLetterTestOf}
use Rattle.list_laws.proofs.Elements.{written_within}

-- a form has a letter
pub some_letter : (searched : SearchedLexicon) (phase : ℕ) (form : List ℕ) → IsSearchedLexicon searched → IsForm searched.lexicon phase form
    → 0 < length form
some_letter searched phase form is of_phase = form_not_empty searched.lexicon phase form is.lexicon of_phase

-- the first letter of a form that takes a letter of the line is the line's next one
first_taken : (letters u : List ℕ) (at taken : ℕ) → at + taken ≤ length letters → 0 < taken
    → get_or (([] ++ take taken (drop at letters)) ++ u) 0 0 ≡ get_or letters at 0
first_taken letters u at taken within some =
    let left = length-drop at letters in
    let count : length (take taken (drop at letters)) ≡ taken = length-take-le taken (drop at letters) (omega (arith, left, within)) in
    get_or_append_left (take taken (drop at letters)) u 0 0 (omega (arith, count, some))
    ∙ get_or-take taken (drop at letters) 0 0 some
    ∙ get_or-drop at letters 0 0
    ∙ ap (λ (n : ℕ). get_or letters n 0) (add-zero at)

-- the form of a key that takes a letter may be entered where the line's next letter may
pub enters_with_letter : (rules : RuleSet) (line : Line) (at : ℕ) (entrance : Entrance) (key : Key) (enters : Bool)
    → at + key.taken ≤ length line.letters → 0 < key.taken → MayBegin entrance key.phase → IsTrue enters ↔ LetsLetterIn rules line at entrance
    → IsTrue enters ↔ MayEnter rules entrance (step_at rules line at entrance key)
enters_with_letter rules line at Start key enters within some begins says = says
enters_with_letter rules line at (Plain letter) key enters within some begins says =
    let is = first_taken line.letters (rule_of rules key.rule).u at key.taken within some in (
      λ t. subst (IsPlain rules letter) (sym is) (says.0 t (omega (arith, within, some))),
      λ h. says.1 (λ low. subst (IsPlain rules letter) is h),
    )
enters_with_letter rules line at (Lead v after) key enters within some begins says = (λ t. begins, λ h. says.1 tt)

-- the form of a key that takes no letter may be entered where the u of its rule may
pub enters_with_rule : (rules : RuleSet) (line : Line) (at : ℕ) (entrance : Entrance) (key : Key) (enters : Bool)
    → key.taken ≡ 0 → 0 < length (step_at rules line at entrance key).form → MayBegin entrance key.phase → IsTrue enters ↔ LetsRuleIn rules entrance key.rule
    → IsTrue enters ↔ MayEnter rules entrance (step_at rules line at entrance key)
enters_with_rule rules line at Start key enters none some begins says = says
enters_with_rule rules line at (Plain letter) key enters none some begins says =
    let u = (rule_of rules key.rule).u in
    let is : ([] ++ take key.taken (drop at line.letters)) ++ u ≡ u = ap (λ (n : ℕ). ([] ++ take n (drop at line.letters)) ++ u) none in
    let long : 0 < length u = subst (λ (form : List ℕ). 0 < length form) is some in (
      λ t. subst (λ (form : List ℕ). IsPlain rules letter (get_or form 0 0)) (sym is) (says.0 t long),
      λ h. says.1 (λ l. subst (λ (form : List ℕ). IsPlain rules letter (get_or form 0 0)) is h),
    )
enters_with_rule rules line at (Lead v after) key enters none some begins says = (λ t. begins, λ h. says.1 tt)

-- after a step with a rule a form is entered by its v
pub entrance_changed : (rules : RuleSet) (step : Step) → 0 < step.rule
    → entrance_after_step rules step ≡ Lead (rule_after rules step).v (rule_after rules step).after
entrance_changed rules step some =
    let e : step.rule ≡ 0 → ⊥ = λ z. omega arith in
    rw (ne_eqb step.rule 0 e)

-- a form with no rule has a letter before the u of its rule
pub some_unchanged : (rules : RuleSet) (front : List ℕ) (rule : ℕ) → rule ≡ 0 → 0 < length (front ++ (rule_of rules rule).u) → 0 < length front
some_unchanged rules front rule none some =
    omega (arith, some, length-append front (rule_of rules rule).u, (unchanged_at_zero rules rule none).u_empty)

module _ (searched : SearchedLexicon) (line : Line) (choices : List Choice) (here : NumberedConfiguration) (key : Key) where
  -- a key that may stand fits the place
  pub stands_fits : MayStand searched.lexicon line choices here.at here.entrance key → FitsPlace searched line choices here key
  stands_fits stands = record {
    number = stands.number;
    within = stands.within;
    form = stands.form;
    enters = stands.enters;
    blanks = stands.blanks;
    allowed = stands.allowed;
  }

  -- and its rule, if it has one, stands after its letters
  stands_rule : 0 < key.rule → MayStand searched.lexicon line choices here.at here.entrance key
      → RuleStands (rules_in searched) line (here.at + key.taken) key.phase key.rule
  stands_rule some stands = record { follows = stands.follows some; written = stands.written }

  -- the other way, a key that fits may stand where its rule does
  rule_stands : FitsPlace searched line choices here key → RuleStands (rules_in searched) line (here.at + key.taken) key.phase key.rule
      → MayStand searched.lexicon line choices here.at here.entrance key
  rule_stands fits stands = record {
    number = fits.number;
    within = fits.within;
    form = fits.form;
    follows = λ some. stands.follows;
    written = stands.written;
    enters = fits.enters;
    blanks = fits.blanks;
    allowed = fits.allowed;
  }

  -- a key that may not stand neither leads on nor ends the line
  pub not_standing : (MayStand searched.lexicon line choices here.at here.entrance key → ⊥) → MayNeither searched line choices here key
  not_standing not = record { leads_on = λ may. not may.stands; ends = λ may. not may.stands }

  pub not_fitting : (FitsPlace searched line choices here key → ⊥) → MayNeither searched line choices here key
  not_fitting not = not_standing (λ stands. not (stands_fits stands))

  -- the phase of a key that may stand may begin
  pub begins_if_stands : MayStand searched.lexicon line choices here.at here.entrance key → MayBegin here.entrance key.phase
  begins_if_stands stands = begun here.entrance refl stands.enters where
    begun : (entrance : Entrance) → here.entrance ≡ entrance → MayEnter (rules_in searched) entrance (step_at (rules_in searched) line here.at here.entrance key)
        → MayBegin entrance key.phase
    begun Start is enters = tt
    begun (Plain letter) is enters = tt
    begun (Lead v after) is enters = enters

  -- where a key that may stand takes a letter, a form that takes one may be entered
  lets_letter_in : (ahead : Ahead) → IsAhead (rules_in searched) line here.at here.entrance ahead
      → MayStand searched.lexicon line choices here.at here.entrance key → 0 < key.taken → LetsLetterIn (rules_in searched) line here.at here.entrance
  lets_letter_in ahead is stands some =
      is.entering.0 ((enters_with_letter (rules_in searched) line here.at here.entrance key ahead.enters stands.within some (begins_if_stands stands) is.entering).1
      stands.enters)

  -- a key that may stand takes no letter past the limit
  pub near_if_stands : (ahead : Ahead) → IsAhead (rules_in searched) line here.at here.entrance ahead
      → MayStand searched.lexicon line choices here.at here.entrance key → here.at + key.taken ≤ ahead.limit
  near_if_stands ahead is stands = elim (cases_lt ahead.limit (here.at + key.taken)) [
    | inl past ↦
        let within = stands.within in
        let low = is.low in
        elim (is.stop (omega (arith, past, within))) [
          | inl stop ↦
              absurd (All-contains (λ blank. here.at < blank → blank < here.at + key.taken → ⊥) line.blanks ahead.limit stands.blanks stop.0 stop.1 past)
          | inr closed ↦ absurd (closed (lets_letter_in ahead is stands (omega (arith, past, low))))
        ]
    | inr near ↦ near
  ]

  -- no key takes a letter past the limit
  pub past_limit : (ahead : Ahead) → IsAhead (rules_in searched) line here.at here.entrance ahead → ahead.limit < here.at + key.taken
      → MayNeither searched line choices here key
  past_limit ahead is past = not_standing (λ stands. (let near = near_if_stands ahead is stands in omega (arith, near, past)))

  -- where the phase of a key may not begin, it does nothing
  pub not_begun : (MayBegin here.entrance key.phase → ⊥) → MayNeither searched line choices here key
  not_begun not = not_standing (λ stands. not (begins_if_stands stands))

  -- no blank stands inside what goes no further than the limit
  pub no_blank_inside : (ahead : Ahead) → IsAhead (rules_in searched) line here.at here.entrance ahead → here.at + key.taken ≤ ahead.limit
      → All (λ blank. here.at < blank → blank < here.at + key.taken → ⊥) line.blanks
  no_blank_inside ahead is within k d low above below = is.blanks k d low above (omega (arith, below, within))

  module _ (may_end : Bool) (says : IsTrue may_end ↔ All (λ blank. blank ≤ here.at) line.blanks) where
    -- where the rule fails after the letters of the key, the key does nothing
    pub rule_fails : 0 < key.rule → RuleFails (rules_in searched) line (here.at + key.taken) may_end key.phase key.rule
        → MayNeither searched line choices here key
    rule_fails some fails = record {
      leads_on = λ may. fails.leads (stands_rule some may.stands) (may.inner some);
      ends = λ may. fails.ends (record { stands = stands_rule some may.stands; final_rule = may.final_rule some; all = may.all; may = says.1 may.blanks_before });
    }

    -- what the rule does after the letters of a key that fits, the key does
    pub rule_does : (does : LetterTest) → 0 < key.rule → FitsPlace searched line choices here key
        → IsRuleTest (rules_in searched) line (here.at + key.taken) may_end key.phase key.rule does → IsLetterTestOf searched line choices here key does
    rule_does test.Refused some fits is = rule_fails some is
    rule_does test.Ends some fits is = record {
      stands = rule_stands fits is.stands;
      final_rule = λ l. is.final_rule;
      all = is.all;
      blanks_before = says.0 is.may;
    }
    rule_does (test.LeadsOn at entrance) some fits is = record {
      may = record { stands = rule_stands fits is.stands; inner = λ l. is.inner; left = λ none. absurd (omega (arith, none, some)) };
      at_is = is.at_is;
      entrance_is = is.entrance_is ∙ sym (entrance_changed (rules_in searched) (step_at (rules_in searched) line here.at here.entrance key) some);
      within = omega (arith, is.at_is, written_within line.letters (rule_of (rules_in searched) key.rule).w (here.at + key.taken) fits.within is.stands.written);
      over = is.over;
    }

  -- where the choices allow such a key just where it is not last, or may be last as the Bool says, the key does what its rule does
  module _ (ahead : Ahead) (is_ahead : IsAhead (rules_in searched) line here.at here.entrance ahead) (near : here.at + key.taken ≤ ahead.limit)
      (free both : Bool) (says_both : IsTrue both ↔ (IsTrue ahead.may_end × IsTrue free))
      (allows : Allows (rules_in searched) (length line.letters) choices (is_start here.entrance) (placed_at (rules_in searched) line here.at here.entrance key)
      ↔ (IsLast (rules_in searched) (length line.letters) (placed_at (rules_in searched) line here.at here.entrance key) → IsTrue free))
      (some : 0 < key.rule) (possible : IsPossible searched line here key)
      (enters : MayEnter (rules_in searched) here.entrance (step_at (rules_in searched) line here.at here.entrance key)) where
    fits_if_free : (IsLast (rules_in searched) (length line.letters) (placed_at (rules_in searched) line here.at here.entrance key) → IsTrue free)
        → FitsPlace searched line choices here key
    fits_if_free may = record {
      number = possible.number;
      within = possible.within;
      form = possible.form;
      enters = enters;
      blanks = no_blank_inside ahead is_ahead near;
      allowed = allows.1 may;
    }

    pub free_rule_does : (does : LetterTest) → IsRuleTest (rules_in searched) line (here.at + key.taken) both key.phase key.rule does
        → IsLetterTestOf searched line choices here key does
    free_rule_does test.Refused is = record {
      leads_on = λ may. is.leads (stands_rule some may.stands) (may.inner some);
      ends = λ may.
          let final = may.final_rule some in
          let last = allows.0 may.stands.allowed (inl ((some, may.stands.number), final)) in
          is.ends (record { stands = stands_rule some may.stands; final_rule = final; all = may.all; may = says_both.1 (is_ahead.ending.1 may.blanks_before, last) });
    }
    free_rule_does test.Ends is =
        let may = says_both.0 is.may in
        rule_does ahead.may_end is_ahead.ending test.Ends some (fits_if_free (λ last. may.1))
        (record { stands = is.stands; final_rule = is.final_rule; all = is.all; may = may.0 })
    free_rule_does (test.LeadsOn at entrance) is =
        rule_does ahead.may_end is_ahead.ending (test.LeadsOn at entrance) some (fits_if_free (λ last. elim last [
          | inl final ↦ absurd (is.inner final.1)
          | inr unchanged ↦ absurd (omega (arith, unchanged.0, some))
        ])) is

-- so where such a key may be entered whichever its rule, it does what its rule does
pub do_as_rules : (searched : SearchedLexicon) (line : Line) (choices : List Choice) (here : NumberedConfiguration) (taken : ℕ) (ahead : Ahead)
    → IsAhead (rules_in searched) line here.at here.entrance ahead → here.at + taken ≤ ahead.limit
    → ((key : Key) → key.taken ≡ taken → here.at + key.taken ≤ length line.letters → MayBegin here.entrance key.phase
    → MayEnter (rules_in searched) here.entrance (step_at (rules_in searched) line here.at here.entrance key))
    → (free both : Bool) → (IsTrue both ↔ (IsTrue ahead.may_end × IsTrue free))
    → AllowsWhicheverRule (rules_in searched) choices here.at here.entrance taken free → DoAsRules searched line choices here taken both
do_as_rules searched line choices here taken ahead is_ahead near enters free both says allows key does same some possible begins is =
    free_rule_does searched line choices here key ahead is_ahead (omega (arith, near, same)) free both says (allows line key same) some possible
    (enters key same possible.within begins) does
    (subst (λ (t : ℕ). IsRuleTest (rules_in searched) line (here.at + t) both key.phase key.rule does) (sym same) is)

-- ---- rules with one u

-- after a letter the same may be entered
pub lets_in_with_u : (rules : RuleSet) (entrance : Entrance) (one other : ℕ) → (rule_of rules one).u ≡ (rule_of rules other).u → LetsRuleIn rules entrance one → LetsRuleIn rules entrance other
lets_in_with_u rules Start one other same lets = tt
lets_in_with_u rules (Plain letter) one other same lets =
    subst (λ (u : List ℕ). 0 < length u → IsPlain rules letter (get_or u 0 0)) same lets
lets_in_with_u rules (Lead v after) one other same lets = tt

module _ (searched : SearchedLexicon) (line : Line) (here : NumberedConfiguration) (taken : ℕ) (rules : List ℕ) where
  -- where none may be entered, no key with these rules may stand; where all may and no choice is made, each does what its rule does
  pub none_stands : (choices : List Choice) → LetIn searched line here taken rules false → NoneStands searched line choices here taken rules
  none_stands choices lets key same among stands =
      let possible : IsPossible searched line here key = record { number = stands.number; within = stands.within; form = stands.form } in
      absurd (cc ((lets key same among possible (begins_if_stands searched line choices here key stands)).1 stands.enters))

  pub do_as_these : (choices : List Choice) (ahead : Ahead) → choices ≡ [] → IsAhead (rules_in searched) line here.at here.entrance ahead → here.at + taken ≤ ahead.limit
      → LetIn searched line here taken rules true → DoAsTheseRules searched line choices here taken ahead.may_end rules
  do_as_these choices ahead free is_ahead near lets key does same some among possible begins is =
      free_rule_does searched line choices here key ahead is_ahead (omega (arith, near, same)) true ahead.may_end (λ may. (may, refl), λ both. both.0) (
        λ allowed last. refl,
        λ may. subst (λ (those : List Choice). Allows (rules_in searched) (length line.letters) those (is_start here.entrance)
            (placed_at (rules_in searched) line here.at here.entrance key)) (sym free) (λ number none low. absurd (omega (arith, low))),
      )
      some possible ((lets key same among possible begins).0 refl) does
      (subst (λ (t : ℕ). IsRuleTest (rules_in searched) line (here.at + t) ahead.may_end key.phase key.rule does) (sym same) is)

  -- all that take a letter may be entered where the next letter of the line may
  pub let_in_with_letter : (ahead : Ahead) → IsAhead (rules_in searched) line here.at here.entrance ahead → 0 < taken → LetIn searched line here taken rules ahead.enters
  let_in_with_letter ahead is_ahead above key same among possible begins =
      enters_with_letter (rules_in searched) line here.at here.entrance key ahead.enters possible.within (omega (arith, above, same)) begins is_ahead.entering

  -- all that take none where one of the rules may
  pub let_in_with_rule : IsSearchedLexicon searched → taken ≡ 0 → (one : ℕ) → ((other : ℕ) → Contains rules other → (rule_of (rules_in searched) one).u ≡ (rule_of (rules_in searched) other).u)
      → (lets : Bool) → IsTrue lets ↔ LetsRuleIn (rules_in searched) here.entrance one → LetIn searched line here taken rules lets
  let_in_with_rule is none one one_u lets says key same among possible begins =
      let u = one_u key.rule among in
      enters_with_rule (rules_in searched) line here.at here.entrance key lets (same ∙ none) (some_letter searched key.phase _ is possible.form) begins (
        λ t. lets_in_with_u (rules_in searched) here.entrance one key.rule u (says.0 t),
        λ may. says.1 (lets_in_with_u (rules_in searched) here.entrance key.rule one (sym u) may),
      )

-- the w of any rule is short
short_w : (rules : List Rule) (number : ℕ) → All IsShortRule rules → length (rule_at rules number).w ≤ MOST_RULE_LETTERS
short_w rules zero short = omega arith
short_w rules (suc number) short = elim (cases_lt number (length rules)) [
  | inl below ↦ (short number no_change below).w
  | inr above ↦ subst (λ (rule : Rule). length rule.w ≤ MOST_RULE_LETTERS) (sym (get_or_past rules number no_change above)) (omega arith)
]

-- what the choices leave free at the rank of the place, they allow there
pub allowed_if_free : (rules : RuleSet) (choices : List Choice) (at : ℕ) (entrance : Entrance) (lead taken : ℕ) (is_first : Bool) (free : Option Bool)
    → IsRuleSetWithinLimits rules → lead ≡ length (supplied entrance) → is_first ≡ is_start entrance
    → IfSome free (LeaveFree at lead is_first taken choices) → IfSome free (AllowsWhicheverRule rules choices at entrance taken)
allowed_if_free rules choices at entrance lead taken is_first None limits is_lead first free = free
allowed_if_free rules choices at entrance lead taken is_first (Some may_end) limits is_lead first free = λ line key same.
    let told = subst (λ (b : Bool). LeaveFree at lead b taken choices may_end) first free in
    told rules (length line.letters) (placed_at rules line at entrance key)
    (record { at_is = refl; lead_is = sym is_lead; taken_is = same; short = short_w rules.rules key.rule limits.short_rules })
