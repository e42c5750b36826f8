-- `clap` and the definitions read the words side by side: what one of them refuses the other does too, at once or later.
use Rattle.std.proofs.Common.{◌≡◌, ℕ, ◌+◌, ◌==◌, ◌⊎◌, inl, inr, Bool, true, false, cond, List, [], ◌∷◌, ◌++◌, Option, Some, None, refl, sym, ap, ◌∙◌, subst, arith}
use Rattle.std.specs.Prelude.{codes, take, drop, fold, option_and_then, is_some, suc}
use Rattle.std.specs.Str.{IsUtf8, bytes_eq}
use Rattle.std.proofs.lemmas.Bool.{eqb-true}
use Rattle.std.proofs.lemmas.List.{take-append-drop}
use Rattle.std.proofs.lemmas.Slice.Eq.{bytes_eq-Decides}
use Rattle.std.specs.List.{All, slice_index_or}
use Rattle.clap.specs.Walk.{Row, Rule, Text, Waiting, positional, Walk, walked, settled, has_row, with_default}
use Rattle.clap.specs.Simple.{App, built, entered, matches_of, is_simple}
use Rattle.clap.specs.Kinds.{Kinds, HasKind, IsAmong, or_else}
use Rattle.clap.specs.Values.{kind_of}
use Rattle.clap.specs.declared.error.Error.{Error}
use Rattle.clap.specs.declared.error.kind.ErrorKind.TheVariants.{OutOfMemory}
use Rattle.clap.specs.Faults.{turn_fault, walk_fault, settle_fault, default_fault, defaults_fault, check_fault, entered_fault, fault_of, is_simple_and_free}
use Rattle.run_definitions.specs.Arguments.{Given, NextWord, Any, Value, Argument, is_option, with_value, with_argument, with_word, given_with, nothing_given, given_by}
use Rattle.command_words.specs.ClapLine.{line_app, value_rule, values_of_id}
use Rattle.command_words.proofs.ClapRows.{found_own, found_other}
use Rattle.command_words.proofs.ClapSteps.{line_is_simple, Pending, Nothing, OfValue, OfArgument, line_shape, line_rules, any_at, wanted_at, arguments_at, waits, rows_after, IsRefused, settles, end_passes, end_walked, name_passes, name_walked, with_equals, value_passes, value_walked, plain_passes, plain_walked, wanted_passes, wanted_walked, argument_passes, argument_walked, wanting_refused, wanted_end_passes, wanted_end_walked, argument_refused, long_refused, short_refused, wanted_short_refused, unnamed, wanted_long_refused, plain_word, other_name}

abbrev values_found : List Row → List Text
values_found rows = values_of_id (codes "in") rows

-- the kinds of faults over these words, and the rows after them
abbrev pub faults : List Text → Walk → Kinds
faults words w =
    or_else (walk_fault line_shape [] w words) (settle_fault line_rules false (fold (walked line_rules []) w words).held)

abbrev pub rows_left : List Text → Walk → List Row
rows_left words w = (settled line_rules (fold (walked line_rules []) w words).held).rows

-- where a walk stands beside what is given so far
record StandsAny (given : Given) (w : Walk) : Type 0 where
  rows : List Row
  pending : Pending
  after : Bool
  at : w ≡ any_at rows pending after
  found : values_found (rows_after pending rows) ≡ given.values

record StandsValue (given : Given) (w : Walk) : Type 0 where
  rows : List Row
  at : w ≡ wanted_at rows false
  found : values_found rows ≡ given.values

record StandsArgument (given : Given) (w : Walk) : Type 0 where
  rows : List Row
  pending : Pending
  waiting : Waiting
  at : w ≡ arguments_at rows pending waiting
  found : values_found (rows_after pending rows) ≡ given.values

abbrev Stands : NextWord → Given → Walk → Type 0
Stands Any given w = StandsAny given w
Stands Value given w = StandsValue given w
Stands Argument given w = StandsArgument given w

-- a word takes both on, or is refused by both, at once or since a value stays wanting
abbrev Goes : Walk → Text → Option (Given × NextWord) → Type 0
Goes w word (Some next) = (turn_fault line_shape [] w word ≡ []) × Stands next.1 next.0 (walked line_rules [] w word)
Goes w word None = IsRefused (turn_fault line_shape [] w word)
    ⊎ ((turn_fault line_shape [] w word ≡ []) × ((rows : List Row) × (walked line_rules [] w word ≡ wanted_at rows true)))

value_found : (rows : List Row) (v : Text) (values : List Text) → values_found rows ≡ values
    → values_found (rows_after (OfValue v) rows) ≡ values ++ v ∷ []
value_found rows v values e = found_own rows (codes "in") _ _ (v ∷ []) ∙ ap (λ vs. vs ++ v ∷ []) e

argument_found : (rows : List Row) (v : Text) (values : List Text) → values_found rows ≡ values
    → values_found (rows_after (OfArgument v) rows) ≡ values
argument_found rows v values e = found_other rows (codes "argument") (codes "in") _ _ (v ∷ []) refl ∙ e

-- ---- an option that is not `--in`

two_dashes : (rows : List Row) (p : Pending) (b : Bool) (rest : Text) → bytes_eq (45 ∷ 45 ∷ rest) (codes "--") ≡ false
    → bytes_eq (45 ∷ 45 ∷ rest) (codes "--in") ≡ false → bytes_eq (take 5 (45 ∷ 45 ∷ rest)) (codes "--in=") ≡ false
    → IsRefused (turn_fault line_shape [] (any_at rows p b) (45 ∷ 45 ∷ rest))
two_dashes rows p b [] no_end no_name no_value = absurd (cc (no_end))
two_dashes rows p b (c ∷ cs) no_end no_name no_value = long_refused rows p b c cs (unnamed c cs (other_name c cs no_name no_value))

dash : (rows : List Row) (p : Pending) (b : Bool) (y : ℕ) (rest : Text) → IsUtf8 (45 ∷ y ∷ rest) → bytes_eq (45 ∷ y ∷ rest) (codes "--") ≡ false
    → bytes_eq (45 ∷ y ∷ rest) (codes "--in") ≡ false → bytes_eq (take 5 (45 ∷ y ∷ rest)) (codes "--in=") ≡ false
    → IsRefused (turn_fault line_shape [] (any_at rows p b) (45 ∷ y ∷ rest))
dash rows p b y rest text no_end no_name no_value = go (y == 45) refl
  where
    go : (is : Bool) → (y == 45) ≡ is → IsRefused (turn_fault line_shape [] (any_at rows p b) (45 ∷ y ∷ rest))
    go false other = short_refused rows p b y rest other text
    go true same =
        let second : y ≡ 45 = eqb-true y 45 same in
        subst (λ z. IsRefused (turn_fault line_shape [] (any_at rows p b) (45 ∷ z ∷ rest))) (sym second)
        (two_dashes rows p b rest (subst (λ z. bytes_eq (45 ∷ z ∷ rest) (codes "--") ≡ false) second no_end)
        (subst (λ z. bytes_eq (45 ∷ z ∷ rest) (codes "--in") ≡ false) second no_name)
        (subst (λ z. bytes_eq (take 5 (45 ∷ z ∷ rest)) (codes "--in=") ≡ false) second no_value))

option_refused : (rows : List Row) (p : Pending) (b : Bool) (word : Text) → IsUtf8 word → bytes_eq word (codes "--") ≡ false
    → bytes_eq word (codes "--in") ≡ false → bytes_eq (take 5 word) (codes "--in=") ≡ false → is_option word ≡ true
    → IsRefused (turn_fault line_shape [] (any_at rows p b) word)
option_refused rows p b [] text no_end no_name no_value e = absurd (cc (e))
option_refused rows p b (x ∷ []) text no_end no_name no_value e = absurd (cc (e))
option_refused rows p b (x ∷ y ∷ rest) text no_end no_name no_value e =
    let first : x ≡ 45 = eqb-true x 45 e in
    subst (λ z. IsRefused (turn_fault line_shape [] (any_at rows p b) (z ∷ y ∷ rest))) (sym first)
    (dash rows p b y rest (subst (λ z. IsUtf8 (z ∷ y ∷ rest)) first text)
    (subst (λ z. bytes_eq (z ∷ y ∷ rest) (codes "--") ≡ false) first no_end)
    (subst (λ z. bytes_eq (z ∷ y ∷ rest) (codes "--in") ≡ false) first no_name)
    (subst (λ z. bytes_eq (take 5 (z ∷ y ∷ rest)) (codes "--in=") ≡ false) first no_value))

wanted_refused : (rows : List Row) (word : Text) → IsUtf8 word → is_option word ≡ true → Goes (wanted_at rows false) word None
wanted_refused rows [] text e = absurd (cc (e))
wanted_refused rows (x ∷ []) text e = absurd (cc (e))
wanted_refused rows (x ∷ y ∷ rest) text e =
    let first : x ≡ 45 = eqb-true x 45 e in
    subst (λ z. Goes (wanted_at rows false) (z ∷ y ∷ rest) None) (sym first) (go (y == 45) refl rest (subst (λ z. IsUtf8 (z ∷ y ∷ rest)) first text))
  where
    go : (is : Bool) → (y == 45) ≡ is → (rest : Text) → IsUtf8 (45 ∷ y ∷ rest) → Goes (wanted_at rows false) (45 ∷ y ∷ rest) None
    go false other rest text = inl (wanted_short_refused rows y rest other text)
    go true same [] text =
        subst (λ z. Goes (wanted_at rows false) (45 ∷ z ∷ []) None) (sym (eqb-true y 45 same))
        (inr (wanted_end_passes rows, (rows, wanted_end_walked rows)))
    go true same (c ∷ cs) text =
        subst (λ z. Goes (wanted_at rows false) (45 ∷ z ∷ c ∷ cs) None) (sym (eqb-true y 45 same)) (inl (wanted_long_refused rows c cs))

-- ---- one word

any_goes : (given : Given) (place : ℕ) (rows : List Row) (p : Pending) (b : Bool) → values_found (rows_after p rows) ≡ given.values
    → (word : Text) → IsUtf8 word → (ends names gives option : Bool)
    → bytes_eq word (codes "--") ≡ ends → bytes_eq word (codes "--in") ≡ names → bytes_eq (take 5 word) (codes "--in=") ≡ gives
    → is_option word ≡ option
    → Goes (any_at rows p b) word (cond ends (Some (given, Argument)) (cond names (Some (given, Value)) (cond gives (Some (with_value given (drop 5 word), Any))
    (cond option None (Some (with_argument given place word, Any))))))
any_goes given place rows p b found word text true names gives option e n v o =
    let is : word ≡ codes "--" = (bytes_eq-Decides word (codes "--")).0 e in
    subst (λ w. Goes (any_at rows p b) w (Some (given, Argument))) (sym is)
    (end_passes rows p b, record { rows = rows; pending = p; waiting = waits b; at = end_walked rows p b; found = found })
any_goes given place rows p b found word text false true gives option e n v o =
    let is : word ≡ codes "--in" = (bytes_eq-Decides word (codes "--in")).0 n in
    subst (λ w. Goes (any_at rows p b) w (Some (given, Value))) (sym is)
    (name_passes rows p b, record { rows = rows_after p rows; at = name_walked rows p b; found = found })
any_goes given place rows p b found word text false false true option e n v o =
    let front : take 5 word ≡ codes "--in=" = (bytes_eq-Decides (take 5 word) (codes "--in=")).0 v in
    let is : word ≡ with_equals (drop 5 word) = sym (take-append-drop 5 word) ∙ ap (λ t. t ++ drop 5 word) front in
    let value = drop 5 word in
    subst (λ w. Goes (any_at rows p b) w (Some (with_value given value, Any))) (sym is) (
      value_passes rows p b value,
      record {
        rows = rows_after (OfValue value) (rows_after p rows);
        pending = Nothing;
        after = false;
        at = value_walked rows p b value;
        found = value_found (rows_after p rows) value given.values found;
      },
    )
any_goes given place rows p b found word text false false false true e n v o = inl (option_refused rows p b word text e n v o)
any_goes given place rows p b found word text false false false false e n v o =
    let plain = plain_word word o in (
      plain_passes rows p b word plain,
      record {
        rows = rows_after p rows;
        pending = OfArgument word;
        after = true;
        at = plain_walked rows p b word plain;
        found = argument_found (rows_after p rows) word given.values found;
      },
    )

value_goes : (given : Given) (rows : List Row) → values_found rows ≡ given.values → (word : Text) → IsUtf8 word → (option : Bool)
    → is_option word ≡ option → Goes (wanted_at rows false) word (cond option None (Some (with_value given word, Any)))
value_goes given rows found word text true o = wanted_refused rows word text o
value_goes given rows found word text false o =
    let plain = plain_word word o in (
      wanted_passes rows word plain,
      record {
        rows = rows;
        pending = OfValue word;
        after = false;
        at = wanted_walked rows word plain;
        found = value_found rows word given.values found;
      },
    )

goes : (turn : NextWord) (given : Given) (place : ℕ) (w : Walk) → Stands turn given w → (word : Text) → IsUtf8 word
    → Goes w word (with_word turn given place word)
goes Any given place w stands word text =
    subst (λ x. Goes x word (with_word Any given place word)) (sym stands.at)
    (any_goes given place stands.rows stands.pending stands.after stands.found word text _ _ _ _ refl refl refl refl)
goes Value given place w stands word text =
    subst (λ x. Goes x word (with_word Value given place word)) (sym stands.at)
    (value_goes given stands.rows stands.found word text _ refl)
goes Argument given place w stands word text =
    subst (λ x. Goes x word (with_word Argument given place word)) (sym stands.at) (
      argument_passes stands.rows stands.pending stands.waiting word,
      record {
        rows = rows_after stands.pending stands.rows;
        pending = OfArgument word;
        waiting = positional;
        at = argument_walked stands.rows stands.pending stands.waiting word;
        found = argument_found (rows_after stands.pending stands.rows) word given.values stands.found;
      },
    )

-- ---- all words

first_empty : (a b : Kinds) → or_else a b ≡ [] → a ≡ []
first_empty [] b e = refl
first_empty (k ∷ ks) b e = absurd (cc (e))

faults_at_end : (w : Walk) → faults [] w ≡ settle_fault line_rules false w.held
unfolding walk_fault
faults_at_end w = refl

faults_past : (word : Text) (words : List Text) (w : Walk) → turn_fault line_shape [] w word ≡ [] → faults (word ∷ words) w ≡ faults words (walked line_rules [] w word)
unfolding walk_fault
faults_past word words w passes =
    ap (λ t. or_else (or_else t (walk_fault line_shape [] (walked line_rules [] w word) words)) (settle_fault line_rules false (fold (walked line_rules []) (walked line_rules [] w word) words).held)) passes

faults_first : (word : Text) (words : List Text) (w : Walk) → IsRefused (turn_fault line_shape [] w word) → IsRefused (faults (word ∷ words) w)
unfolding walk_fault
faults_first word words w refused e = refused (first_empty _ _ (first_empty _ _ e))

-- where a value stays wanting, a fault comes
doomed : (words : List Text) (rows : List Row) → IsRefused (faults words (wanted_at rows true))
doomed [] rows e = wanting_refused rows (sym (faults_at_end (wanted_at rows true)) ∙ e)
doomed (word ∷ words) rows e = faults_first word words (wanted_at rows true) (argument_refused rows word) e

-- both take the words and find the same values, or both refuse them
pub record Reads (words : List Text) (turn : NextWord) (given : Given) (place : ℕ) (w : Walk) : Type 0 where
  pub taken : (end : Given) → given_with words turn given place ≡ Some end → (faults words w ≡ []) × (values_of_id (codes "in") (rows_left words w) ≡ end.values)
  pub refused : given_with words turn given place ≡ None → IsRefused (faults words w)

reads_end : (turn : NextWord) (given : Given) (place : ℕ) (w : Walk) → Stands turn given w → Reads [] turn given place w
reads_end Any given place w stands =
    subst (λ x. Reads [] Any given place x) (sym stands.at) (record {
      taken = λ end e. let same : given ≡ end = cc (e) in
          (faults_at_end _ ∙ settles stands.rows stands.pending, stands.found ∙ ap (λ (g : Given). g.values) same);
      refused = λ e. absurd (cc (e));
    })
reads_end Value given place w stands =
    subst (λ x. Reads [] Value given place x) (sym stands.at) (record {
      taken = λ end e. absurd (cc (e));
      refused = λ e f. wanting_refused stands.rows (sym (faults_at_end (wanted_at stands.rows false)) ∙ f);
    })
reads_end Argument given place w stands =
    subst (λ x. Reads [] Argument given place x) (sym stands.at) (record {
      taken = λ end e. let same : given ≡ end = cc (e) in
          (faults_at_end _ ∙ settles stands.rows stands.pending, stands.found ∙ ap (λ (g : Given). g.values) same);
      refused = λ e. absurd (cc (e));
    })

reads_more : (word : Text) (words : List Text) (turn : NextWord) (given : Given) (place : ℕ) (w : Walk) (read : Option (Given × NextWord))
    → with_word turn given place word ≡ read → Goes w word read
    → ((next : Given × NextWord) → Stands next.1 next.0 (walked line_rules [] w word) → Reads words next.1 next.0 (place + 1) (walked line_rules [] w word))
    → Reads (word ∷ words) turn given place w
reads_more word words turn given place w None is (inl refused) more = record {
  taken = λ end e. let bad = rw is at e in absurd (cc (bad));
  refused = λ e. faults_first word words w refused;
}
reads_more word words turn given place w None is (inr (passes, (rows, at))) more = record {
  taken = λ end e. let bad = rw is at e in absurd (cc (bad));
  refused = λ e f. doomed words rows (ap (faults words) (sym at) ∙ sym (faults_past word words w passes) ∙ f);
}
reads_more word words turn given place w (Some next) is (passes, stands) more =
    let rest = more next stands in record {
      taken = λ end e.
          let both = rest.taken end (sym (ap (option_and_then (λ (n : Given × NextWord). given_with words n.1 n.0 (place + 1))) is) ∙ e) in
          (faults_past word words w passes ∙ both.0, both.1);
      refused = λ e f.
          rest.refused (sym (ap (option_and_then (λ (n : Given × NextWord). given_with words n.1 n.0 (place + 1))) is) ∙ e)
          (sym (faults_past word words w passes) ∙ f);
    }

reads : (words : List Text) → All IsUtf8 words → (turn : NextWord) (given : Given) (place : ℕ) (w : Walk) → Stands turn given w
    → Reads words turn given place w
reads [] texts turn given place w stands = reads_end turn given place w stands
reads (word ∷ words) texts turn given place w stands =
    reads_more word words turn given place w (with_word turn given place word) refl
    (goes turn given place w stands word (texts 0 word (omega arith)))
    (λ next more. reads words (λ k d low. texts (suc k) d (omega (arith, low))) next.1 next.0 (place + 1) (walked line_rules [] w word) more)

-- ---- the whole command line

no_entry : (stop : Option (Text × List Text)) → entered_fault (built line_app) stop ≡ []
no_entry None = refl
no_entry (Some p) = refl

no_check : (rows : List Row) (b : Bool) → check_fault line_shape rows b ≡ []
no_check rows true = refl
no_check rows false = refl

-- no argument has a value of its own
abbrev first_rule : Rule
first_rule = slice_index_or line_rules 0 value_rule

abbrev second_rule : Rule
second_rule = slice_index_or line_rules 1 value_rule

first_default : (rows : List Row) → (default_fault rows first_rule ≡ []) × (with_default rows first_rule ≡ rows)
first_default rows = go (has_row (codes "in") rows) refl
  where
    go : (b : Bool) → has_row (codes "in") rows ≡ b → (default_fault rows first_rule ≡ []) × (with_default rows first_rule ≡ rows)
    go true e = (rw e refl, rw e refl)
    go false e = (rw e refl, rw e refl)

second_default : (rows : List Row) → (default_fault rows second_rule ≡ []) × (with_default rows second_rule ≡ rows)
second_default rows = go (has_row (codes "argument") rows) refl
  where
    go : (b : Bool) → has_row (codes "argument") rows ≡ b → (default_fault rows second_rule ≡ []) × (with_default rows second_rule ≡ rows)
    go true e = (rw e refl, rw e refl)
    go false e = (rw e refl, rw e refl)

no_defaults : (rows : List Row) → defaults_fault rows line_rules ≡ []
unfolding defaults_fault
no_defaults rows =
    ap (λ t. or_else t (or_else (default_fault (with_default rows first_rule) second_rule) [])) (first_default rows).0
    ∙ ap (λ t. or_else t []) (second_default (with_default rows first_rule)).0

same_rows : (rows : List Row) → fold with_default rows line_rules ≡ rows
same_rows rows = (second_default (with_default rows first_rule)).1 ∙ (first_default rows).1

or_nothing : (a : Kinds) → or_else a [] ≡ a
or_nothing [] = refl
or_nothing (k ∷ ks) = refl

abbrev at_start : Walk
at_start = any_at [] Nothing false

whole_fault : (words : List Text) → fault_of line_app words ≡ faults words at_start
whole_fault words =
    let end = (fold (walked line_rules []) at_start words).held in
    let stop = (fold (walked line_rules []) at_start words).stopped in
    let begins = walk_fault line_shape [] at_start words in
    let settle = settle_fault line_rules false end in
    let rows = (settled line_rules end).rows in
    ap (λ t. or_else begins (or_else t (or_else settle (or_else (defaults_fault rows line_rules) (check_fault line_shape (fold with_default rows line_rules) (is_some (entered (built line_app) stop))))))) (no_entry stop)
    ∙ ap (λ t. or_else begins (or_else settle (or_else t (check_fault line_shape (fold with_default rows line_rules) (is_some (entered (built line_app) stop)))))) (no_defaults rows)
    ∙ ap (λ t. or_else begins (or_else settle t)) (no_check (fold with_default rows line_rules) (is_some (entered (built line_app) stop)))
    ∙ ap (λ t. or_else begins t) (or_nothing settle)

whole_rows : (words : List Text) → matches_of line_app words ≡ rows_left words at_start
whole_rows words = same_rows (rows_left words at_start)

-- `clap` takes the words of which the definitions say what they give, with the same values of `--in`, and no others
pub taken_words : (words : List Text) → All IsUtf8 words → (given : Given) → given_by words ≡ Some given
    → (fault_of line_app words ≡ []) × (values_of_id (codes "in") (matches_of line_app words) ≡ given.values)
taken_words words texts given e =
    let both = (reads words texts Any nothing_given 1 at_start (record { rows = []; pending = Nothing; after = false; at = refl; found = refl })).taken given e in
    (whole_fault words ∙ both.0, ap (values_of_id (codes "in")) (whole_rows words) ∙ both.1)

pub refused_words : (words : List Text) → All IsUtf8 words → given_by words ≡ None → fault_of line_app words ≡ [] → ⊥
refused_words words texts e f =
    (reads words texts Any nothing_given 1 at_start (record { rows = []; pending = Nothing; after = false; at = refl; found = refl })).refused e
    (sym (whole_fault words) ∙ f)

-- and so of the program's command, which is this one
pub line_is : (app : App) → app ≡ line_app → is_simple_and_free app ≡ true
line_is app same = ap is_simple_and_free same ∙ line_is_simple

pub line_simple : (app : App) → app ≡ line_app → is_simple app ≡ true
line_simple app same = let e : is_simple line_app ≡ true = refl in ap is_simple same ∙ e

pub line_takes : (app : App) → app ≡ line_app → (words : List Text) → All IsUtf8 words → fault_of app words ≡ []
    → (rows : List Row) → rows ≡ matches_of app words
    → (given : Given) × (given_by words ≡ Some given) × (values_of_id (codes "in") rows ≡ given.values)
line_takes app same words texts none rows are = go (given_by words) refl
  where
    no_fault : fault_of line_app words ≡ []
    no_fault = subst (λ a. fault_of a words ≡ []) same none

    go : (read : Option Given) → given_by words ≡ read → (given : Given) × (given_by words ≡ Some given) × (values_of_id (codes "in") rows ≡ given.values)
    go None e = absurd (refused_words words texts e no_fault)
    go (Some given) e = (
      given,
      e,
      ap (values_of_id (codes "in")) (are ∙ ap (λ a. matches_of a words) same) ∙ (taken_words words texts given e).1,
    )

pub line_refuses : (app : App) → app ≡ line_app → (words : List Text) → All IsUtf8 words → (fault_of app words ≡ [] → ⊥) → given_by words ≡ None
line_refuses app same words texts faulty = go (given_by words) refl
  where
    go : (read : Option Given) → given_by words ≡ read → given_by words ≡ None
    go None e = e
    go (Some given) e = absurd (faulty (ap (λ a. fault_of a words) same ∙ (taken_words words texts given e).0))

-- where no kind may come, only want of memory does
pub no_kind : (kinds : Kinds) (e : Error) → HasKind kinds e → (kind_of e ≡ OutOfMemory → ⊥) → kinds ≡ [] → ⊥
no_kind kinds e has other none =
    elim has [
      | inl memory ↦ other memory
      | inr among ↦ subst (λ ks. IsAmong (kind_of e) ks) none among
    ]
