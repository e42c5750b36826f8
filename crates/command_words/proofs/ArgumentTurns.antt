-- A word that is taken is an argument just where it is no option and no value, or comes after `--`.
use Rattle.std.proofs.Common.{◌≡◌, ℕ, ◌+◌, Bool, true, false, cond, List, [], ◌∷◌, ◌++◌, Option, Some, None, refl, sym, ap, ◌∙◌, subst}
use Rattle.std.specs.Prelude.{codes, take, drop, option_and_then}
use Rattle.std.specs.Str.{bytes_eq}
use Rattle.std.proofs.lemmas.List.{take-append-drop}
use Rattle.std.proofs.lemmas.Slice.Eq.{bytes_eq-Decides}
use Rattle.run_definitions.specs.Arguments.{FileWord, Given, NextWord, Any, Value, Argument, is_option, with_value, with_argument, with_word, given_with}
use Rattle.command_words.specs.Turns.{turn_after, is_argument, arguments_with}

-- what a word that is taken does
record IsTold (turn : NextWord) (given : Given) (place : ℕ) (word : List ℕ) (next : Given × NextWord) : Type 0 where
  turns : next.1 ≡ turn_after turn word
  arguments : next.0.arguments ≡ arguments_with (is_argument turn word) given.arguments place word

-- `--`, `--in` and what begins with `--in=` are options
is_option_at : (word other : List ℕ) → bytes_eq word other ≡ true → is_option other ≡ true → is_option word ≡ true
is_option_at word other e is = ap is_option ((bytes_eq-Decides word other).0 e) ∙ is

value_is_option : (word : List ℕ) → bytes_eq (take 5 word) (codes "--in=") ≡ true → is_option word ≡ true
value_is_option word e =
    let front : take 5 word ≡ codes "--in=" = (bytes_eq-Decides (take 5 word) (codes "--in=")).0 e in
    ap is_option (sym (take-append-drop 5 word) ∙ ap (λ t. t ++ drop 5 word) front)

any_told : (given : Given) (place : ℕ) (word : List ℕ) (next : Given × NextWord) (ends names gives option : Bool)
    → bytes_eq word (codes "--") ≡ ends → bytes_eq word (codes "--in") ≡ names → bytes_eq (take 5 word) (codes "--in=") ≡ gives
    → is_option word ≡ option
    → cond ends (Some (given, Argument)) (cond names (Some (given, Value)) (cond gives (Some (with_value given (drop 5 word), Any))
    (cond option None (Some (with_argument given place word, Any))))) ≡ Some next → IsTold Any given place word next
any_told given place word next true names gives option e n v o is =
    let same : (given, Argument) ≡ next = cc (is) in
    subst (IsTold Any given place word) same (record { turns = rw e refl; arguments = rw (is_option_at word (codes "--") e refl) refl })
any_told given place word next false true gives option e n v o is =
    let same : (given, Value) ≡ next = cc (is) in
    subst (IsTold Any given place word) same (record { turns = rw (e, n) refl; arguments = rw (is_option_at word (codes "--in") n refl) refl })
any_told given place word next false false true option e n v o is =
    let same : (with_value given (drop 5 word), Any) ≡ next = cc (is) in
    subst (IsTold Any given place word) same (record { turns = rw (e, n) refl; arguments = rw (value_is_option word v) refl })
any_told given place word next false false false true e n v o is = absurd (cc (is))
any_told given place word next false false false false e n v o is =
    let same : (with_argument given place word, Any) ≡ next = cc (is) in
    subst (IsTold Any given place word) same (record { turns = rw (e, n) refl; arguments = rw o refl })

value_told : (given : Given) (place : ℕ) (word : List ℕ) (next : Given × NextWord) (option : Bool)
    → cond option None (Some (with_value given word, Any)) ≡ Some next → IsTold Value given place word next
value_told given place word next true is = absurd (cc (is))
value_told given place word next false is =
    let same : (with_value given word, Any) ≡ next = cc (is) in
    subst (IsTold Value given place word) same (record { turns = refl; arguments = refl })

told : (turn : NextWord) (given : Given) (place : ℕ) (word : List ℕ) (next : Given × NextWord) → with_word turn given place word ≡ Some next
    → IsTold turn given place word next
told Any given place word next is = any_told given place word next _ _ _ _ refl refl refl refl is
told Value given place word next is = value_told given place word next (is_option word) is
told Argument given place word next is =
    let same : (with_argument given place word, Argument) ≡ next = cc (is) in
    subst (IsTold Argument given place word) same (record { turns = refl; arguments = refl })

-- the words from here on give this, with some values and these arguments so far
abbrev pub GiveWith : List (List ℕ) → NextWord → List FileWord → ℕ → Given → Type 0
GiveWith words turn arguments place given =
    (values : List (List ℕ)) × (given_with words turn (record { values = values; arguments = arguments }) place ≡ Some given)

pub one_more : (word : List ℕ) (words : List (List ℕ)) (turn : NextWord) (arguments : List FileWord) (place : ℕ) (given : Given)
    → GiveWith (word ∷ words) turn arguments place given
    → GiveWith words (turn_after turn word) (arguments_with (is_argument turn word) arguments place word) (place + 1) given
one_more word words turn arguments place given (values, e) =
    let so_far : Given = record { values = values; arguments = arguments } in
    go so_far (with_word turn so_far place word) (told turn so_far place word) e
  where
    go : (so_far : Given) (read : Option (Given × NextWord)) → ((next : Given × NextWord) → read ≡ Some next → IsTold turn so_far place word next)
        → option_and_then (λ next. given_with words next.1 next.0 (place + 1)) read ≡ Some given
        → GiveWith words (turn_after turn word) (arguments_with (is_argument turn word) so_far.arguments place word) (place + 1) given
    go so_far None tell f = absurd (cc (f))
    go so_far (Some next) tell f =
        let is = tell next refl in (
          next.0.values,
          subst (λ (t : NextWord). given_with words t (record { values = next.0.values; arguments = arguments_with (is_argument turn word) so_far.arguments place word }) (place + 1) ≡ Some given) is.turns
              (subst (λ (xs : List FileWord). given_with words next.1 (record { values = next.0.values; arguments = xs }) (place + 1) ≡ Some given) is.arguments f),
        )

pub at_end : (turn : NextWord) (arguments : List FileWord) (place : ℕ) (given : Given) → GiveWith [] turn arguments place given → arguments ≡ given.arguments
at_end Any arguments place given (values, e) =
    let so_far : Given = record { values = values; arguments = arguments } in
    let same : so_far ≡ given = cc (e) in ap (λ (g : Given). g.arguments) same
at_end Value arguments place given (values, e) = absurd (cc (e))
at_end Argument arguments place given (values, e) =
    let so_far : Given = record { values = values; arguments = arguments } in
    let same : so_far ≡ given = cc (e) in ap (λ (g : Given). g.arguments) same
