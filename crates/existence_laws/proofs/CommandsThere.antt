-- Words are those of a command or of none: it is decided what the words after a name give, and by the number of the arguments and
-- their texts, whether a command takes them.
use Rattle.std.proofs.Common.{◌≡◌, ◌≤◌, ◌⊎◌, ℕ, inl, inr, List, [], ◌∷◌, length, Option, Some, None, refl, sym, ◌∙◌, ap, subst, arith}
use Rattle.std.specs.Prelude.{codes}
use Rattle.std.specs.List.{All, Contains}
use Rattle.text_definitions.specs.Schemes.{Scheme, Slp1, Wx, Velthuis, Devanagari, name_of_scheme}
use Rattle.session_definitions.specs.Numbers.{page_size_of}
use Rattle.run_definitions.specs.declared.limits.TheConstants.{MOST_WORD_BYTES}
use Rattle.run_definitions.specs.Arguments.{FileWord, Given, given_by, AreNamed}
use Rattle.run_definitions.specs.SchemeNames.{GiveScheme}
use Rattle.run_definitions.specs.SegmentOutcomes.{TakesSegment}
use Rattle.run_definitions.specs.CheckOutcomes.{TakesCheck}
use Rattle.run_definitions.specs.BuildOutcomes.{TakesBuild}
use Rattle.run_definitions.specs.ReadOutcomes.{TakesRead}
use Rattle.run_definitions.specs.BatchOutcomes.{TakesBatch, AreBatchArguments}
use Rattle.conversion_definitions.specs.AnySchemes as any
use Rattle.conversion_definitions.specs.AnySchemes.{AnyScheme, name_of_any_scheme}
use Rattle.run_definitions.specs.ConvertOutcomes.{TakesConvert, AreConvertArguments}
use Rattle.run_definitions.specs.JoinOutcomes.{TakesJoin}
use Rattle.run_definitions.specs.SplitOutcomes.{TakesSplit, AreSplitArguments, split_depth_of}
use Rattle.run_definitions.specs.AnnotateOutcomes.{TakesAnnotate}
use Rattle.run_definitions.specs.RereadOutcomes.{TakesReread}
use Rattle.run_definitions.specs.MigrateOutcomes.{TakesMigrate}
use Rattle.run_definitions.specs.DemoOutcomes.{TakesDemo, AreDemoArguments, demo_number_of}
use Rattle.run_definitions.specs.Commands.{Command, Segment, Check, Build, Read, Batch, Demo, Convert, Join, Split, Annotate, Reread, Migrate, AreWordsOf, AreOfNoCommand}
use Rattle.existence_laws.proofs.Decisions.{Decided, told_by, both, is_at_most, is_same_word, is_same_list, holds_of_all, one_has}

-- ---- what the words give

-- they are this name, and words that give something
record Gives (name : List ℕ) (words : List (List ℕ)) : Type 0 where
  following : List (List ℕ)
  are : words ≡ name ∷ following
  within_limit : All (λ word. length word ≤ MOST_WORD_BYTES) following
  given : Given
  have : given_by following ≡ Some given

by_given : (name : List ℕ) (following : List (List ℕ)) → All (λ word. length word ≤ MOST_WORD_BYTES) following
    → (given : Option Given) → given_by following ≡ given → Decided (Gives name (name ∷ following))
by_given name following within (Some given) e =
    inl (record { following = following; are = refl; within_limit = within; given = given; have = e })
by_given name following within None e =
    inr (λ h.
    let same : following ≡ h.following = let f = h.are in cc in
    let none : None ≡ Some h.given = sym e ∙ ap given_by same ∙ h.have in cc)

by_limit : (name : List ℕ) (following : List (List ℕ)) → Decided (All (λ word. length word ≤ MOST_WORD_BYTES) following)
    → Decided (Gives name (name ∷ following))
by_limit name following (inl within) = by_given name following within (given_by following) refl
by_limit name following (inr long) =
    inr (λ h.
    let same : h.following ≡ following = let f = h.are in cc in
    long (subst (All (λ word. length word ≤ MOST_WORD_BYTES)) same h.within_limit))

gives : (name : List ℕ) (words : List (List ℕ)) → Decided (Gives name words)
gives name [] = inr (λ h. let e = h.are in cc)
gives name (word ∷ following) = elim (is_same_word name word) [
  | inl e ↦ subst (λ (w : List ℕ). Decided (Gives name (w ∷ following))) e
      (by_limit name following (holds_of_all (λ w. length w ≤ MOST_WORD_BYTES) (λ w. is_at_most (length w) MOST_WORD_BYTES) following))
  | inr n ↦ inr (λ h. n (let e = h.are in cc))
]

-- words of this name with what a command takes, where it is decided whether it takes what is given
module _ {A : Type 0} (name : List ℕ) (Takes : A → List (List ℕ) → List FileWord → Type 0)
    (takes : (values : List (List ℕ)) (arguments : List FileWord) → Decided ((command : A) × Takes command values arguments)) where
  by_taken : (words : List (List ℕ)) (g : Gives name words) → Decided ((command : A) × Takes command g.given.values g.given.arguments)
      → Decided ((command : A) × AreNamed name (Takes command) words)
  by_taken words g (inl h) =
      inl (
        h.0,
        record {
          following = g.following;
          are = g.are;
          within_limit = g.within_limit;
          values = g.given.values;
          given = g.given.arguments;
          have = g.have;
          takes = h.1;
        },
      )
  by_taken words g (inr n) =
      inr (λ h.
      let e : g.given ≡ record { values = h.1.values; arguments = h.1.given } =
      let same : g.following ≡ h.1.following = let f = sym g.are ∙ h.1.are in cc in
      let given : Some g.given ≡ Some (record { values = h.1.values; arguments = h.1.given }) = sym g.have ∙ ap given_by same ∙ h.1.have in cc (given) in
      n (h.0, subst (λ (given : Given). Takes h.0 given.values given.arguments) (sym e) h.1.takes))

  named : (words : List (List ℕ)) → Decided ((command : A) × AreNamed name (Takes command) words)
  named words = elim (gives name words) [
    | inl g ↦ by_taken words g (takes g.given.values g.given.arguments)
    | inr n ↦ inr (λ h. n (record {
      following = h.1.following;
      are = h.1.are;
      within_limit = h.1.within_limit;
      given = record { values = h.1.values; arguments = h.1.given };
      have = h.1.have;
    }))
  ]

-- ---- schemes and options

schemes : List Scheme
schemes = Slp1 ∷ Wx ∷ Velthuis ∷ Devanagari ∷ []

is_scheme : (scheme : Scheme) → Contains schemes scheme
unfolding schemes
is_scheme Slp1 = (0, omega arith, refl)
is_scheme Wx = (1, omega arith, refl)
is_scheme Velthuis = (2, omega arith, refl)
is_scheme Devanagari = (3, omega arith, refl)

-- the word names a scheme
names_scheme : (word : List ℕ) → Decided ((scheme : Scheme) × (word ≡ name_of_scheme scheme))
names_scheme word =
    one_has (λ scheme. word ≡ name_of_scheme scheme) (λ scheme. is_same_word word (name_of_scheme scheme)) schemes (λ scheme e. is_scheme scheme)

gives_scheme : (values : List (List ℕ)) → Decided ((scheme : Scheme) × GiveScheme values scheme)
gives_scheme [] = inl (Slp1, refl)
gives_scheme (value ∷ []) = names_scheme value
gives_scheme (value ∷ other ∷ values) = inr (λ h. absurd h.1)

any_schemes : List AnyScheme
any_schemes = any.Slp1 ∷ any.Wx ∷ any.Velthuis ∷ any.Devanagari ∷ any.Iast ∷ any.HarvardKyoto ∷ []

is_any_scheme : (scheme : AnyScheme) → Contains any_schemes scheme
unfolding any_schemes
is_any_scheme any.Slp1 = (0, omega arith, refl)
is_any_scheme any.Wx = (1, omega arith, refl)
is_any_scheme any.Velthuis = (2, omega arith, refl)
is_any_scheme any.Devanagari = (3, omega arith, refl)
is_any_scheme any.Iast = (4, omega arith, refl)
is_any_scheme any.HarvardKyoto = (5, omega arith, refl)

names_any_scheme : (word : List ℕ) → Decided ((scheme : AnyScheme) × (word ≡ name_of_any_scheme scheme))
names_any_scheme word =
    one_has (λ scheme. word ≡ name_of_any_scheme scheme) (λ scheme. is_same_word word (name_of_any_scheme scheme)) any_schemes
    (λ scheme e. is_any_scheme scheme)

no_values : (values : List (List ℕ)) → Decided (values ≡ [])
no_values values = is_same_list is_same_word values []

-- ---- what each command takes

takes_segment : (values : List (List ℕ)) (arguments : List FileWord)
    → Decided ((c : FileWord × Scheme × List ℕ) × TakesSegment c.0 c.1 c.2 values arguments)
takes_segment values [] = inr (λ h. let e = h.1.1.1 in cc)
takes_segment values (lex ∷ []) = inr (λ h. let e = h.1.1.1 in cc)
takes_segment values (lex ∷ text ∷ []) =
    told_by (λ h. ((lex, h.0, text.name), (h.1, (text.place, refl)))) (λ h. (h.0.1, h.1.0)) (gives_scheme values)
takes_segment values (lex ∷ text ∷ other ∷ arguments) = inr (λ h. let e = h.1.1.1 in cc)

takes_one : (arguments : List FileWord) → Decided ((lex : FileWord) × (arguments ≡ lex ∷ []))
takes_one [] = inr (λ h. let e = h.1 in cc)
takes_one (lex ∷ []) = inl (lex, refl)
takes_one (lex ∷ other ∷ arguments) = inr (λ h. let e = h.1 in cc)

takes_check : (values : List (List ℕ)) (arguments : List FileWord) → Decided ((lex : FileWord) × TakesCheck lex values arguments)
takes_check values arguments =
    told_by (λ h. (h.1.0, (h.0, h.1.1))) (λ h. (h.1.0, (h.0, h.1.1))) (both (no_values values) (takes_one arguments))

takes_read : (values : List (List ℕ)) (arguments : List FileWord) → Decided ((lex : FileWord) × TakesRead lex values arguments)
takes_read values arguments =
    told_by (λ h. (h.1.0, (h.0, h.1.1))) (λ h. (h.1.0, (h.0, h.1.1))) (both (no_values values) (takes_one arguments))

takes_four : (arguments : List FileWord)
    → Decided ((c : FileWord × FileWord × FileWord × FileWord) × (arguments ≡ c.0 ∷ c.1 ∷ c.2 ∷ c.3 ∷ []))
takes_four [] = inr (λ h. let e = h.1 in cc)
takes_four (a ∷ []) = inr (λ h. let e = h.1 in cc)
takes_four (a ∷ b ∷ []) = inr (λ h. let e = h.1 in cc)
takes_four (a ∷ b ∷ c ∷ []) = inr (λ h. let e = h.1 in cc)
takes_four (a ∷ b ∷ c ∷ d ∷ []) = inl ((a, b, c, d), refl)
takes_four (a ∷ b ∷ c ∷ d ∷ e ∷ arguments) = inr (λ h. let f = h.1 in cc)

takes_build : (values : List (List ℕ)) (arguments : List FileWord)
    → Decided ((c : FileWord × FileWord × FileWord × FileWord) × TakesBuild c.0 c.1 c.2 c.3 values arguments)
takes_build values arguments =
    told_by (λ h. (h.1.0, (h.0, h.1.1))) (λ h. (h.1.0, (h.0, h.1.1))) (both (no_values values) (takes_four arguments))

counts_to : {A : Type 0} (found : Option A) → Decided ((value : A) × (found ≡ Some value))
counts_to None = inr (λ h. let e = h.1 in cc)
counts_to (Some value) = inl (value, refl)

batch_arguments : (a b c d : FileWord)
    → Decided ((x : FileWord × Scheme × FileWord × ℕ) × AreBatchArguments x.0 x.1 x.2 x.3 (a ∷ b ∷ c ∷ d ∷ []))
batch_arguments a b c d =
    told_by (λ h. ((a, h.0.0, c, h.1.0), record { named = b; counted = d; are = refl; names = h.0.1; counts = h.1.1 })) back
    (both (names_scheme b.name) (counts_to (page_size_of d.name)))
  where
    back : (x : FileWord × Scheme × FileWord × ℕ) × AreBatchArguments x.0 x.1 x.2 x.3 (a ∷ b ∷ c ∷ d ∷ [])
        → ((scheme : Scheme) × (b.name ≡ name_of_scheme scheme)) × ((count : ℕ) × (page_size_of d.name ≡ Some count))
    back h =
        let second : b ≡ h.1.named = let e = h.1.are in cc in
        let fourth : d ≡ h.1.counted = let e = h.1.are in cc in (
          (h.0.1, ap (λ (w : FileWord). w.name) second ∙ h.1.names),
          (h.0.3, ap (λ (w : FileWord). page_size_of w.name) fourth ∙ h.1.counts),
        )

takes_batch : (values : List (List ℕ)) (arguments : List FileWord)
    → Decided ((x : FileWord × Scheme × FileWord × ℕ) × TakesBatch x.0 x.1 x.2 x.3 values arguments)
takes_batch values [] = inr (λ h. let e = h.1.1.are in cc)
takes_batch values (a ∷ []) = inr (λ h. let e = h.1.1.are in cc)
takes_batch values (a ∷ b ∷ []) = inr (λ h. let e = h.1.1.are in cc)
takes_batch values (a ∷ b ∷ c ∷ []) = inr (λ h. let e = h.1.1.are in cc)
takes_batch values (a ∷ b ∷ c ∷ d ∷ []) =
    told_by (λ h. (h.1.0, (h.0, h.1.1))) (λ h. (h.1.0, (h.0, h.1.1))) (both (no_values values) (batch_arguments a b c d))
takes_batch values (a ∷ b ∷ c ∷ d ∷ f ∷ arguments) = inr (λ h. let e = h.1.1.are in cc)

demo_argument : (arguments : List FileWord) → Decided ((number : ℕ) × AreDemoArguments number arguments)
demo_argument [] = inr (λ h. let e = h.1.are in cc)
demo_argument (word ∷ []) =
    told_by (λ h. (h.0, record { word = word; are = refl; is = h.1 }))
    (λ h. let same : word ≡ h.1.word = let e = h.1.are in cc in (h.0, ap (λ (w : FileWord). demo_number_of w.name) same ∙ h.1.is))
    (counts_to (demo_number_of word.name))
demo_argument (word ∷ other ∷ arguments) = inr (λ h. let e = h.1.are in cc)

takes_demo : (values : List (List ℕ)) (arguments : List FileWord) → Decided ((number : ℕ) × TakesDemo number values arguments)
takes_demo values arguments =
    told_by (λ h. (h.1.0, (h.0, h.1.1))) (λ h. (h.1.0, (h.0, h.1.1))) (both (no_values values) (demo_argument arguments))

convert_arguments : (a b c d : FileWord)
    → Decided ((x : AnyScheme × AnyScheme × FileWord × FileWord) × AreConvertArguments x.0 x.1 x.2 x.3 (a ∷ b ∷ c ∷ d ∷ []))
convert_arguments a b c d =
    told_by
    (λ h. ((h.0.0, h.1.0, c, d), record { first = a; second = b; are = refl; names_from = h.0.1; names_to = h.1.1 })) back
    (both (names_any_scheme a.name) (names_any_scheme b.name))
  where
    back : (x : AnyScheme × AnyScheme × FileWord × FileWord) × AreConvertArguments x.0 x.1 x.2 x.3 (a ∷ b ∷ c ∷ d ∷ [])
        → ((scheme : AnyScheme) × (a.name ≡ name_of_any_scheme scheme)) × ((scheme : AnyScheme) × (b.name ≡ name_of_any_scheme scheme))
    back h =
        let first : a ≡ h.1.first = let e = h.1.are in cc in
        let second : b ≡ h.1.second = let e = h.1.are in cc in (
          (h.0.0, ap (λ (w : FileWord). w.name) first ∙ h.1.names_from),
          (h.0.1, ap (λ (w : FileWord). w.name) second ∙ h.1.names_to),
        )

takes_convert : (values : List (List ℕ)) (arguments : List FileWord)
    → Decided ((x : AnyScheme × AnyScheme × FileWord × FileWord) × TakesConvert x.0 x.1 x.2 x.3 values arguments)
takes_convert values [] = inr (λ h. let e = h.1.1.are in cc)
takes_convert values (a ∷ []) = inr (λ h. let e = h.1.1.are in cc)
takes_convert values (a ∷ b ∷ []) = inr (λ h. let e = h.1.1.are in cc)
takes_convert values (a ∷ b ∷ c ∷ []) = inr (λ h. let e = h.1.1.are in cc)
takes_convert values (a ∷ b ∷ c ∷ d ∷ []) =
    told_by (λ h. (h.1.0, (h.0, h.1.1))) (λ h. (h.1.0, (h.0, h.1.1))) (both (no_values values) (convert_arguments a b c d))
takes_convert values (a ∷ b ∷ c ∷ d ∷ f ∷ arguments) = inr (λ h. let e = h.1.1.are in cc)

takes_join : (values : List (List ℕ)) (arguments : List FileWord) → Decided ((c : FileWord × List ℕ) × TakesJoin c.0 c.1 values arguments)
takes_join values [] = inr (λ h. let e = h.1.1.1 in cc)
takes_join values (lex ∷ []) = inr (λ h. let e = h.1.1.1 in cc)
takes_join values (lex ∷ chain ∷ []) = told_by (λ h. ((lex, chain.name), (h, (chain.place, refl)))) (λ h. h.1.0) (no_values values)
takes_join values (lex ∷ chain ∷ other ∷ arguments) = inr (λ h. let e = h.1.1.1 in cc)

split_arguments : (a b c d : FileWord)
    → Decided ((x : FileWord × List ℕ × ℕ × ℕ) × AreSplitArguments x.0 x.1 x.2 x.3 (a ∷ b ∷ c ∷ d ∷ []))
split_arguments a b c d =
    told_by
    (λ h. ((a, b.name, h.0.0, h.1.0), record { place = b.place; counted = c; deep = d; are = refl; counts = h.0.1; is_depth = h.1.1 })) back
    (both (counts_to (page_size_of c.name)) (counts_to (split_depth_of d.name)))
  where
    back : (x : FileWord × List ℕ × ℕ × ℕ) × AreSplitArguments x.0 x.1 x.2 x.3 (a ∷ b ∷ c ∷ d ∷ [])
        → ((count : ℕ) × (page_size_of c.name ≡ Some count)) × ((depth : ℕ) × (split_depth_of d.name ≡ Some depth))
    back h =
        let third : c ≡ h.1.counted = let e = h.1.are in cc in
        let fourth : d ≡ h.1.deep = let e = h.1.are in cc in (
          (h.0.2, ap (λ (w : FileWord). page_size_of w.name) third ∙ h.1.counts),
          (h.0.3, ap (λ (w : FileWord). split_depth_of w.name) fourth ∙ h.1.is_depth),
        )

takes_split : (values : List (List ℕ)) (arguments : List FileWord)
    → Decided ((x : FileWord × List ℕ × ℕ × ℕ) × TakesSplit x.0 x.1 x.2 x.3 values arguments)
takes_split values [] = inr (λ h. let e = h.1.1.are in cc)
takes_split values (a ∷ []) = inr (λ h. let e = h.1.1.are in cc)
takes_split values (a ∷ b ∷ []) = inr (λ h. let e = h.1.1.are in cc)
takes_split values (a ∷ b ∷ c ∷ []) = inr (λ h. let e = h.1.1.are in cc)
takes_split values (a ∷ b ∷ c ∷ d ∷ []) =
    told_by (λ h. (h.1.0, (h.0, h.1.1))) (λ h. (h.1.0, (h.0, h.1.1))) (both (no_values values) (split_arguments a b c d))
takes_split values (a ∷ b ∷ c ∷ d ∷ f ∷ arguments) = inr (λ h. let e = h.1.1.are in cc)

takes_annotate : (values : List (List ℕ)) (arguments : List FileWord)
    → Decided ((c : FileWord × List ℕ × FileWord) × TakesAnnotate c.0 c.1 c.2 values arguments)
takes_annotate values [] = inr (λ h. let e = h.1.1.1 in cc)
takes_annotate values (lex ∷ []) = inr (λ h. let e = h.1.1.1 in cc)
takes_annotate values (lex ∷ mark ∷ []) = inr (λ h. let e = h.1.1.1 in cc)
takes_annotate values (lex ∷ mark ∷ out ∷ []) =
    told_by (λ h. ((lex, mark.name, out), (h, (mark.place, refl)))) (λ h. h.1.0) (no_values values)
takes_annotate values (lex ∷ mark ∷ out ∷ other ∷ arguments) = inr (λ h. let e = h.1.1.1 in cc)

takes_two : (arguments : List FileWord) → Decided ((c : FileWord × FileWord) × (arguments ≡ c.0 ∷ c.1 ∷ []))
takes_two [] = inr (λ h. let e = h.1 in cc)
takes_two (a ∷ []) = inr (λ h. let e = h.1 in cc)
takes_two (a ∷ b ∷ []) = inl ((a, b), refl)
takes_two (a ∷ b ∷ c ∷ arguments) = inr (λ h. let e = h.1 in cc)

takes_reread : (values : List (List ℕ)) (arguments : List FileWord) → Decided ((c : FileWord × FileWord) × TakesReread c.0 c.1 values arguments)
takes_reread values arguments =
    told_by (λ h. (h.1.0, (h.0, h.1.1))) (λ h. (h.1.0, (h.0, h.1.1))) (both (no_values values) (takes_two arguments))

takes_migrate : (values : List (List ℕ)) (arguments : List FileWord) → Decided ((c : FileWord × FileWord) × TakesMigrate c.0 c.1 values arguments)
takes_migrate values arguments =
    told_by (λ h. (h.1.0, (h.0, h.1.1))) (λ h. (h.1.0, (h.0, h.1.1))) (both (no_values values) (takes_two arguments))

-- ---- the command

-- the command whose words they are, or none
pub command_there : (words : List (List ℕ)) → Decided ((command : Command) × AreWordsOf command words)
command_there words =
    by_all
    (named (codes "segment") (λ (c : FileWord × Scheme × List ℕ). TakesSegment c.0 c.1 c.2) takes_segment words)
    (named (codes "check") TakesCheck takes_check words)
    (named (codes "build") (λ (c : FileWord × FileWord × FileWord × FileWord). TakesBuild c.0 c.1 c.2 c.3) takes_build words)
    (named (codes "read") TakesRead takes_read words)
    (named (codes "batch") (λ (x : FileWord × Scheme × FileWord × ℕ). TakesBatch x.0 x.1 x.2 x.3) takes_batch words)
    (named (codes "demo") TakesDemo takes_demo words)
    (named (codes "convert") (λ (v : AnyScheme × AnyScheme × FileWord × FileWord). TakesConvert v.0 v.1 v.2 v.3) takes_convert words)
    (named (codes "join") (λ (j : FileWord × List ℕ). TakesJoin j.0 j.1) takes_join words)
    (named (codes "split") (λ (p : FileWord × List ℕ × ℕ × ℕ). TakesSplit p.0 p.1 p.2 p.3) takes_split words)
    (named (codes "annotate") (λ (a : FileWord × List ℕ × FileWord). TakesAnnotate a.0 a.1 a.2) takes_annotate words)
    (named (codes "reread") (λ (f : FileWord × FileWord). TakesReread f.0 f.1) takes_reread words)
    (named (codes "migrate") (λ (m : FileWord × FileWord). TakesMigrate m.0 m.1) takes_migrate words)
  where
    by_all : Decided ((c : FileWord × Scheme × List ℕ) × AreNamed (codes "segment") (TakesSegment c.0 c.1 c.2) words)
        → Decided ((lex : FileWord) × AreNamed (codes "check") (TakesCheck lex) words)
        → Decided ((c : FileWord × FileWord × FileWord × FileWord) × AreNamed (codes "build") (TakesBuild c.0 c.1 c.2 c.3) words)
        → Decided ((lex : FileWord) × AreNamed (codes "read") (TakesRead lex) words)
        → Decided ((x : FileWord × Scheme × FileWord × ℕ) × AreNamed (codes "batch") (TakesBatch x.0 x.1 x.2 x.3) words)
        → Decided ((number : ℕ) × AreNamed (codes "demo") (TakesDemo number) words)
        → Decided ((v : AnyScheme × AnyScheme × FileWord × FileWord) × AreNamed (codes "convert") (TakesConvert v.0 v.1 v.2 v.3) words)
        → Decided ((j : FileWord × List ℕ) × AreNamed (codes "join") (TakesJoin j.0 j.1) words)
        → Decided ((p : FileWord × List ℕ × ℕ × ℕ) × AreNamed (codes "split") (TakesSplit p.0 p.1 p.2 p.3) words)
        → Decided ((a : FileWord × List ℕ × FileWord) × AreNamed (codes "annotate") (TakesAnnotate a.0 a.1 a.2) words)
        → Decided ((f : FileWord × FileWord) × AreNamed (codes "reread") (TakesReread f.0 f.1) words)
        → Decided ((m : FileWord × FileWord) × AreNamed (codes "migrate") (TakesMigrate m.0 m.1) words)
        → Decided ((command : Command) × AreWordsOf command words)
    by_all (inl c) check build read batch demo convert join split annotate reread migrate = inl (Segment c.0.0 c.0.1 c.0.2, c.1)
    by_all (inr s) (inl c) build read batch demo convert join split annotate reread migrate = inl (Check c.0, c.1)
    by_all (inr s) (inr c) (inl b) read batch demo convert join split annotate reread migrate = inl (Build b.0.0 b.0.1 b.0.2 b.0.3, b.1)
    by_all (inr s) (inr c) (inr b) (inl r) batch demo convert join split annotate reread migrate = inl (Read r.0, r.1)
    by_all (inr s) (inr c) (inr b) (inr r) (inl x) demo convert join split annotate reread migrate = inl (Batch x.0.0 x.0.1 x.0.2 x.0.3, x.1)
    by_all (inr s) (inr c) (inr b) (inr r) (inr x) (inl d) convert join split annotate reread migrate = inl (Demo d.0, d.1)
    by_all (inr s) (inr c) (inr b) (inr r) (inr x) (inr d) (inl v) join split annotate reread migrate = inl (Convert v.0.0 v.0.1 v.0.2 v.0.3, v.1)
    by_all (inr s) (inr c) (inr b) (inr r) (inr x) (inr d) (inr v) (inl j) split annotate reread migrate = inl (Join j.0.0 j.0.1, j.1)
    by_all (inr s) (inr c) (inr b) (inr r) (inr x) (inr d) (inr v) (inr j) (inl p) annotate reread migrate = inl (Split p.0.0 p.0.1 p.0.2 p.0.3, p.1)
    by_all (inr s) (inr c) (inr b) (inr r) (inr x) (inr d) (inr v) (inr j) (inr p) (inl a) reread migrate = inl (Annotate a.0.0 a.0.1 a.0.2, a.1)
    by_all (inr s) (inr c) (inr b) (inr r) (inr x) (inr d) (inr v) (inr j) (inr p) (inr a) (inl f) migrate = inl (Reread f.0.0 f.0.1, f.1)
    by_all (inr s) (inr c) (inr b) (inr r) (inr x) (inr d) (inr v) (inr j) (inr p) (inr a) (inr f) (inl m) = inl (Migrate m.0.0 m.0.1, m.1)
    by_all (inr s) (inr c) (inr b) (inr r) (inr x) (inr d) (inr v) (inr j) (inr p) (inr a) (inr f) (inr m) = inr (λ h. none h.0 h.1)
      where
        none : (command : Command) → AreWordsOf command words → ⊥
        none (Segment lex scheme text) h = s ((lex, scheme, text), h)
        none (Check lex) h = c (lex, h)
        none (Build rules tables stems out) h = b ((rules, tables, stems, out), h)
        none (Read lex) h = r (lex, h)
        none (Batch lex scheme file count) h = x ((lex, scheme, file, count), h)
        none (Demo number) h = d (number, h)
        none (Convert from to file out) h = v ((from, to, file, out), h)
        none (Join lex chain) h = j ((lex, chain), h)
        none (Split lex text count depth) h = p ((lex, text, count, depth), h)
        none (Annotate lex mark out) h = a ((lex, mark, out), h)
        none (Reread lex file) h = f ((lex, file), h)
        none (Migrate lex out) h = m ((lex, out), h)

pub command_or_none : (words : List (List ℕ)) → ((command : Command) × AreWordsOf command words) ⊎ AreOfNoCommand words
command_or_none words = elim (command_there words) [ inl c ↦ inl c | inr none ↦ inr (λ command are. none (command, are)) ]
