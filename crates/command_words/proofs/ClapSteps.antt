-- What one word does to a walk of `clap` over the command line: each word is literal where it matters, and so it computes.
use Rattle.std.proofs.Common.{◌≡◌, ℕ, ◌+◌, ◌==◌, Bool, true, false, List, [], ◌∷◌, ◌++◌, length, Option, Some, None, refl, sym, ap, ◌∙◌, arith}
use Rattle.std.specs.Prelude.{codes, take}
use Rattle.std.proofs.Common.{◌⊎◌, inl, inr, suc}
use Rattle.std.proofs.lemmas.Bool.{eqb-true}
use Rattle.std.proofs.lemmas.Slice.Eq.{bytes_eq-Decides}
use Rattle.std.specs.List.{before_first}
use Rattle.std.specs.Str.{IsUtf8, bytes_eq, chars, encode_utf8_all}
use Rattle.std.proofs.lemmas.Str.{chars_past_char, encodes-chars}
use Rattle.clap.specs.Lexer.{has_byte, long_of, short_of}
use Rattle.clap.specs.Walk.{Row, Rule, Text, Waiting, idle, positional, option, Walk, walked, settled_rows, arg_by_long}
use Rattle.clap.specs.Simple.{Shape, built}
use Rattle.clap.specs.Kinds.{Kinds}
use Rattle.clap.specs.Faults.{turn_fault, settle_fault, flags_fault, is_simple_and_free}
use Rattle.clap.specs.declared.error.kind.ErrorKind.TheVariants as kind
use Rattle.run_definitions.specs.Arguments.{is_option}
use Rattle.command_words.specs.ClapLine.{line_app}

pub line_is_simple : is_simple_and_free line_app ≡ true
line_is_simple = refl

-- what is held and not yet settled
pub data Pending : Type 0 where
  Nothing : Pending
  OfValue : Text → Pending
  OfArgument : Text → Pending

abbrev pub pending_is : Pending → Option (Text × List Text)
pending_is Nothing = None
pending_is (OfValue v) = Some (codes "in", v ∷ [])
pending_is (OfArgument v) = Some (codes "argument", v ∷ [])

abbrev pub line_shape : Shape
line_shape = (built line_app).top

abbrev pub line_rules : List Rule
line_rules = line_shape.rules

abbrev pub walk_at : List Row → Option (Text × List Text) → Waiting → Bool → Walk
walk_at rows pending waiting trailing = record {
  held = record { rows = rows; pending = pending; skip = 0 };
  waiting = waiting;
  position = 1;
  is_trailing = trailing;
  stopped = None;
}

-- where any word may come, after an argument or not
abbrev pub waits : Bool → Waiting
waits true = positional
waits false = idle

abbrev pub any_at : List Row → Pending → Bool → Walk
any_at rows p b = walk_at rows (pending_is p) (waits b) false

-- where the value of `--in` is wanted, and where arguments alone come
abbrev pub wanted_at : List Row → Bool → Walk
wanted_at rows trailing = walk_at rows (Some (codes "in", [])) (option (codes "in")) trailing

abbrev pub arguments_at : List Row → Pending → Waiting → Walk
arguments_at rows p waiting = walk_at rows (pending_is p) waiting true

-- the rows with what was pending
abbrev pub rows_after : Pending → List Row → List Row
rows_after p rows = settled_rows line_rules (pending_is p) rows

abbrev pub IsRefused : Kinds → Type 0
IsRefused kinds = kinds ≡ [] → ⊥

pub settles : (rows : List Row) (p : Pending) → settle_fault line_rules false (record { rows = rows; pending = pending_is p; skip = 0 }) ≡ []
settles rows Nothing = refl
settles rows (OfValue v) = refl
settles rows (OfArgument v) = refl

-- ---- `--`

pub end_passes : (rows : List Row) (p : Pending) (b : Bool) → turn_fault line_shape [] (any_at rows p b) (codes "--") ≡ []
end_passes rows p true = refl
end_passes rows p false = refl

pub end_walked : (rows : List Row) (p : Pending) (b : Bool)
    → walked line_rules [] (any_at rows p b) (codes "--") ≡ arguments_at rows p (waits b)
unfolding walked
end_walked rows p true = refl
end_walked rows p false = refl

-- ---- `--in`, and `--in=VALUE`

pub name_passes : (rows : List Row) (p : Pending) (b : Bool) → turn_fault line_shape [] (any_at rows p b) (codes "--in") ≡ []
name_passes rows Nothing true = refl
name_passes rows Nothing false = refl
name_passes rows (OfValue v) true = refl
name_passes rows (OfValue v) false = refl
name_passes rows (OfArgument v) true = refl
name_passes rows (OfArgument v) false = refl

pub name_walked : (rows : List Row) (p : Pending) (b : Bool)
    → walked line_rules [] (any_at rows p b) (codes "--in") ≡ wanted_at (rows_after p rows) false
unfolding walked
name_walked rows p true = refl
name_walked rows p false = refl

abbrev pub with_equals : Text → Text
with_equals v = 45 ∷ 45 ∷ 105 ∷ 110 ∷ 61 ∷ v

pub value_passes : (rows : List Row) (p : Pending) (b : Bool) (v : Text) → turn_fault line_shape [] (any_at rows p b) (with_equals v) ≡ []
value_passes rows Nothing true v = refl
value_passes rows Nothing false v = refl
value_passes rows (OfValue w) true v = refl
value_passes rows (OfValue w) false v = refl
value_passes rows (OfArgument w) true v = refl
value_passes rows (OfArgument w) false v = refl

pub value_walked : (rows : List Row) (p : Pending) (b : Bool) (v : Text)
    → walked line_rules [] (any_at rows p b) (with_equals v) ≡ any_at (rows_after (OfValue v) (rows_after p rows)) Nothing false
unfolding walked
value_walked rows p true v = refl
value_walked rows p false v = refl

-- ---- words that are no option

-- such a word is no flag
pub record IsPlainWord (word : Text) : Type 0 where
  pub no_end : bytes_eq word (45 ∷ 45 ∷ []) ≡ false
  pub no_long : long_of word ≡ None
  pub no_short : short_of word ≡ None

pub plain_passes : (rows : List Row) (p : Pending) (b : Bool) (word : Text) → IsPlainWord word
    → turn_fault line_shape [] (any_at rows p b) word ≡ []
plain_passes rows Nothing true word is = rw (is.no_end, is.no_long, is.no_short) refl
plain_passes rows Nothing false word is = rw (is.no_end, is.no_long, is.no_short) refl
plain_passes rows (OfValue v) true word is = rw (is.no_end, is.no_long, is.no_short) refl
plain_passes rows (OfValue v) false word is = rw (is.no_end, is.no_long, is.no_short) refl
plain_passes rows (OfArgument v) true word is = rw (is.no_end, is.no_long, is.no_short) refl
plain_passes rows (OfArgument v) false word is = rw (is.no_end, is.no_long, is.no_short) refl

pub plain_walked : (rows : List Row) (p : Pending) (b : Bool) (word : Text) → IsPlainWord word
    → walked line_rules [] (any_at rows p b) word ≡ any_at (rows_after p rows) (OfArgument word) true
unfolding walked
plain_walked rows Nothing true word is = rw (is.no_end, is.no_long, is.no_short) refl
plain_walked rows Nothing false word is = rw (is.no_end, is.no_long, is.no_short) refl
plain_walked rows (OfValue v) true word is = rw (is.no_end, is.no_long, is.no_short) refl
plain_walked rows (OfValue v) false word is = rw (is.no_end, is.no_long, is.no_short) refl
plain_walked rows (OfArgument v) true word is = rw (is.no_end, is.no_long, is.no_short) refl
plain_walked rows (OfArgument v) false word is = rw (is.no_end, is.no_long, is.no_short) refl

-- where the value of `--in` is wanted, it is the value
pub wanted_passes : (rows : List Row) (word : Text) → IsPlainWord word → turn_fault line_shape [] (wanted_at rows false) word ≡ []
wanted_passes rows word is = rw (is.no_end, is.no_long, is.no_short) refl

pub wanted_walked : (rows : List Row) (word : Text) → IsPlainWord word
    → walked line_rules [] (wanted_at rows false) word ≡ any_at rows (OfValue word) false
unfolding walked
wanted_walked rows word is = rw (is.no_end, is.no_long, is.no_short) refl

-- ---- after `--`

pub argument_passes : (rows : List Row) (p : Pending) (waiting : Waiting) (word : Text)
    → turn_fault line_shape [] (arguments_at rows p waiting) word ≡ []
argument_passes rows Nothing waiting word = refl
argument_passes rows (OfValue v) waiting word = refl
argument_passes rows (OfArgument v) waiting word = refl

pub argument_walked : (rows : List Row) (p : Pending) (waiting : Waiting) (word : Text)
    → walked line_rules [] (arguments_at rows p waiting) word ≡ arguments_at (rows_after p rows) (OfArgument word) positional
unfolding walked
argument_walked rows Nothing waiting word = refl
argument_walked rows (OfValue v) waiting word = refl
argument_walked rows (OfArgument v) waiting word = refl

-- ---- where the value of `--in` is wanting

pub wanting_refused : (rows : List Row) → IsRefused (settle_fault line_rules false (record { rows = rows; pending = Some (codes "in", []); skip = 0 }))
wanting_refused rows e = cc (e)

pub wanted_end_passes : (rows : List Row) → turn_fault line_shape [] (wanted_at rows false) (codes "--") ≡ []
wanted_end_passes rows = refl

pub wanted_end_walked : (rows : List Row) → walked line_rules [] (wanted_at rows false) (codes "--") ≡ wanted_at rows true
unfolding walked
wanted_end_walked rows = refl

pub argument_refused : (rows : List Row) (word : Text) → IsRefused (turn_fault line_shape [] (wanted_at rows true) word)
argument_refused rows word e = cc (e)

-- ---- other options

abbrev pub name_of_long : ℕ → Text → Text
name_of_long c cs = before_first (λ x. x == 61) (c ∷ cs)

pub long_refused : (rows : List Row) (p : Pending) (b : Bool) (c : ℕ) (cs : Text) → arg_by_long line_rules (name_of_long c cs) ≡ None
    → IsRefused (turn_fault line_shape [] (any_at rows p b) (45 ∷ 45 ∷ c ∷ cs))
long_refused rows p true c cs none e = let f = rw none at e in cc (f)
long_refused rows p false c cs none e = let f = rw none at e in cc (f)

-- a text that is not empty has a first character
pub first_character : (c : ℕ) (cs : Text) → IsUtf8 (45 ∷ c ∷ cs) → (x : ℕ) × (xs : List ℕ) × (chars (c ∷ cs) ≡ x ∷ xs)
unfolding lib.Utf8.encode
first_character c cs text = go (chars (c ∷ cs)) (sym told ∙ spelled) refl
  where
    past : chars (45 ∷ c ∷ cs) ≡ 45 ∷ chars (c ∷ cs)
    past = chars_past_char (45 ∷ c ∷ cs) (c ∷ cs) 45 text refl

    spelled : encode_utf8_all (chars (45 ∷ c ∷ cs)) ≡ 45 ∷ c ∷ cs
    spelled = encodes-chars (45 ∷ c ∷ cs) text

    told : encode_utf8_all (chars (45 ∷ c ∷ cs)) ≡ encode_utf8_all (45 ∷ chars (c ∷ cs))
    told = ap encode_utf8_all past

    go : (found : List ℕ) → encode_utf8_all (45 ∷ found) ≡ 45 ∷ c ∷ cs → chars (c ∷ cs) ≡ found
        → (x : ℕ) × (xs : List ℕ) × (chars (c ∷ cs) ≡ x ∷ xs)
    go [] e same = let bad : 45 ∷ [] ≡ 45 ∷ c ∷ cs = e in absurd (cc (bad))
    go (x ∷ xs) e same = (x, xs, same)

short_flags : (rows : List Row) (pending : Option (Text × List Text)) (c x : ℕ) (cs : Text) (xs : List ℕ) → chars (c ∷ cs) ≡ x ∷ xs
    → flags_fault line_rules false (length (c ∷ cs)) (c ∷ cs) 0 (record { rows = rows; pending = pending; skip = 0 }) ≡ kind.UnknownArgument ∷ []
unfolding flags_fault
short_flags rows pending c x cs xs e = rw e refl

-- a word of short flags
record HasFlags (word : Text) (flags : Text) : Type 0 where
  pub no_end : bytes_eq word (45 ∷ 45 ∷ []) ≡ false
  pub no_long : long_of word ≡ None
  pub short : short_of word ≡ Some flags

flags_in : (c : ℕ) (cs : Text) → (c == 45) ≡ false → HasFlags (45 ∷ c ∷ cs) (c ∷ cs)
flags_in c cs other = record { no_end = rw other refl; no_long = rw other refl; short = rw other refl }

flags_refused : (rows : List Row) (p : Pending) (b : Bool) (word flags : Text) → HasFlags word flags
    → flags_fault line_rules false (length flags) flags 0 (record { rows = rows; pending = pending_is p; skip = 0 }) ≡ kind.UnknownArgument ∷ []
    → IsRefused (turn_fault line_shape [] (any_at rows p b) word)
flags_refused rows p true word flags is unknown e = let f = rw (is.no_end, is.no_long, is.short, unknown) at e in cc (f)
flags_refused rows p false word flags is unknown e = let f = rw (is.no_end, is.no_long, is.short, unknown) at e in cc (f)

pub short_refused : (rows : List Row) (p : Pending) (b : Bool) (c : ℕ) (cs : Text) → (c == 45) ≡ false → IsUtf8 (45 ∷ c ∷ cs)
    → IsRefused (turn_fault line_shape [] (any_at rows p b) (45 ∷ c ∷ cs))
short_refused rows p b c cs other text =
    let (x, xs, first) = first_character c cs text in
    flags_refused rows p b (45 ∷ c ∷ cs) (c ∷ cs) (flags_in c cs other) (short_flags rows (pending_is p) c x cs xs first)

-- and so where the value of `--in` is wanted, whatever the option is
wanted_flags_refused : (rows : List Row) (word flags : Text) → HasFlags word flags
    → flags_fault line_rules false (length flags) flags 0 (record { rows = rows; pending = Some (codes "in", []); skip = 0 }) ≡ kind.UnknownArgument ∷ []
    → IsRefused (turn_fault line_shape [] (wanted_at rows false) word)
wanted_flags_refused rows word flags is unknown e = let f = rw (is.no_end, is.no_long, is.short, unknown) at e in cc (f)

pub wanted_short_refused : (rows : List Row) (c : ℕ) (cs : Text) → (c == 45) ≡ false → IsUtf8 (45 ∷ c ∷ cs)
    → IsRefused (turn_fault line_shape [] (wanted_at rows false) (45 ∷ c ∷ cs))
wanted_short_refused rows c cs other text =
    let (x, xs, first) = first_character c cs text in
    wanted_flags_refused rows (45 ∷ c ∷ cs) (c ∷ cs) (flags_in c cs other) (short_flags rows (Some (codes "in", [])) c x cs xs first)

-- an option `--NAME` of another name is unknown, and one of this name comes without the value that is wanted
pub unnamed : (c : ℕ) (cs : Text) → bytes_eq (codes "in") (name_of_long c cs) ≡ false → arg_by_long line_rules (name_of_long c cs) ≡ None
unnamed c cs other = rw other refl

known : (c : ℕ) (cs : Text) → bytes_eq (codes "in") (name_of_long c cs) ≡ true → arg_by_long line_rules (name_of_long c cs) ≡ arg_by_long line_rules (codes "in")
known c cs named = rw named refl

pub wanted_long_refused : (rows : List Row) (c : ℕ) (cs : Text) → IsRefused (turn_fault line_shape [] (wanted_at rows false) (45 ∷ 45 ∷ c ∷ cs))
wanted_long_refused rows c cs = go (bytes_eq (codes "in") (name_of_long c cs)) (has_byte 61 (c ∷ cs)) refl refl
  where
    go : (a b : Bool) → bytes_eq (codes "in") (name_of_long c cs) ≡ a → has_byte 61 (c ∷ cs) ≡ b
        → IsRefused (turn_fault line_shape [] (wanted_at rows false) (45 ∷ 45 ∷ c ∷ cs))
    go false b other has e = let f = rw (unnamed c cs other) at e in cc (f)
    go true true named has e = let f = rw (known c cs named, has) at e in cc (f)
    go true false named has e = let f = rw (known c cs named, has) at e in cc (f)

-- ---- words by what they are in the definitions

-- a word that is no option is no flag
pub plain_word : (word : Text) → is_option word ≡ false → IsPlainWord word
plain_word [] e = record { no_end = refl; no_long = refl; no_short = refl }
plain_word (x ∷ []) e = go (x == 45) refl
  where
    go : (b : Bool) → (x == 45) ≡ b → IsPlainWord (x ∷ [])
    go true at = record { no_end = rw at refl; no_long = rw at refl; no_short = rw at refl }
    go false at = record { no_end = rw at refl; no_long = rw at refl; no_short = rw at refl }
plain_word (x ∷ y ∷ rest) e = record { no_end = rw e refl; no_long = rw e refl; no_short = rw e refl }

taken_one : (n x : ℕ) (xs : Text) → take (1 + n) (x ∷ xs) ≡ x ∷ take n xs
taken_one n x xs = let same : 1 + n ≡ suc n = omega arith in ap (λ k. take k (x ∷ xs)) same

-- what stands before a first `=`, and what stands from there on
before_equals : (xs : Text) → (xs ≡ before_first (λ x. x == 61) xs) ⊎ ((rest : Text) × (xs ≡ before_first (λ x. x == 61) xs ++ 61 ∷ rest))
before_equals [] = inl refl
before_equals (x ∷ xs) = go (x == 61) refl (before_equals xs)
  where
    go : (b : Bool) → (x == 61) ≡ b → (xs ≡ before_first (λ x. x == 61) xs) ⊎ ((rest : Text) × (xs ≡ before_first (λ x. x == 61) xs ++ 61 ∷ rest))
        → (x ∷ xs ≡ before_first (λ x. x == 61) (x ∷ xs)) ⊎ ((rest : Text) × (x ∷ xs ≡ before_first (λ x. x == 61) (x ∷ xs) ++ 61 ∷ rest))
    go true at more = inr (xs, rw at (ap (λ (y : ℕ). y ∷ xs) (eqb-true x 61 at)))
    go false at (inl e) = inl (rw (at, taken_one) (ap (λ ys. x ∷ ys) e))
    go false at (inr (rest, e)) = inr (rest, rw (at, taken_one) (ap (λ ys. x ∷ ys) e))

-- an option `--NAME` that is not `--in` and does not begin with `--in=` has another name
pub other_name : (c : ℕ) (cs : Text) → bytes_eq (45 ∷ 45 ∷ c ∷ cs) (codes "--in") ≡ false
    → bytes_eq (take 5 (45 ∷ 45 ∷ c ∷ cs)) (codes "--in=") ≡ false → bytes_eq (codes "in") (name_of_long c cs) ≡ false
other_name c cs no_name no_value = go (bytes_eq (codes "in") (name_of_long c cs)) refl
  where
    go : (b : Bool) → bytes_eq (codes "in") (name_of_long c cs) ≡ b → bytes_eq (codes "in") (name_of_long c cs) ≡ false
    go false e = e
    go true e =
        let named : codes "in" ≡ name_of_long c cs = (bytes_eq-Decides (codes "in") (name_of_long c cs)).0 e in
        elim (before_equals (c ∷ cs)) [
          | inl all ↦
              let whole : c ∷ cs ≡ codes "in" = all ∙ sym named in
              let bad : true ≡ false = sym (ap (λ w. bytes_eq (45 ∷ 45 ∷ w) (codes "--in")) whole) ∙ no_name in absurd (cc (bad))
          | inr (rest, split) ↦
              let whole : c ∷ cs ≡ 105 ∷ 110 ∷ 61 ∷ rest = split ∙ ap (λ n. n ++ 61 ∷ rest) (sym named) in
              let bad : true ≡ false = sym (ap (λ w. bytes_eq (take 5 (45 ∷ 45 ∷ w)) (codes "--in=")) whole) ∙ no_value in absurd (cc (bad))
        ]
