-- Each word is an argument, or a value of `--in`, or such an option before it, or the one `--`; so there are few words.
use Rattle.std.proofs.Common.{◌≡◌, ℕ, ◌+◌, ◌*◌, ◌≤◌, Bool, true, false, cond, List, [], ◌∷◌, length, Option, Some, None, ap, subst, refl, arith, length-append}
use Rattle.std.specs.Prelude.{option_and_then, codes, take, drop}
use Rattle.std.specs.Str.{bytes_eq}
use Rattle.run_definitions.specs.Arguments.{Given, NextWord, Any, Value, Argument, FileWord, is_option, with_value, with_argument, with_word, given_at_end, given_with, nothing_given, given_by}

-- how many words give this much, at most
weight : Given → ℕ
weight given = length given.arguments + 2 * length given.values

-- and how many words more may give nothing
spare : NextWord → ℕ
spare Any = 1
spare Value = 0
spare Argument = 0

-- a word makes what is given weigh more, or uses up what is spare
record Weighs (turn : NextWord) (given : Given) (next : Given × NextWord) : Type 0 where
  weighs : weight given + 1 + spare next.1 ≤ weight next.0 + spare turn

weight_is : (given : Given) → weight given ≡ length given.arguments + 2 * length given.values
unfolding weight
weight_is given = refl

spare_is : spare Any ≡ 1
unfolding spare
spare_is = refl

with_one_value : (given : Given) (value : List ℕ) → weight (with_value given value) ≡ weight given + 2
unfolding weight
with_one_value given value = omega (arith, length-append given.values (value ∷ []))

with_one_argument : (given : Given) (place : ℕ) (word : List ℕ) → weight (with_argument given place word) ≡ weight given + 1
unfolding weight
with_one_argument given place word = omega (arith, length-append given.arguments (record { place = place; name = word } ∷ []))

any_weighs : (given : Given) (place : ℕ) (word : List ℕ) (ends names gives option : Bool) (next : Given × NextWord)
    → cond ends (Some (given, Argument)) (cond names (Some (given, Value)) (cond gives (Some (with_value given (drop 5 word), Any))
    (cond option None (Some (with_argument given place word, Any))))) ≡ Some next → Weighs Any given next
unfolding spare
any_weighs given place word true names gives option next e =
    let same : (given, Argument) ≡ next = cc (e) in subst (Weighs Any given) same (record { weighs = omega arith })
any_weighs given place word false true gives option next e =
    let same : (given, Value) ≡ next = cc (e) in subst (Weighs Any given) same (record { weighs = omega arith })
any_weighs given place word false false true option next e =
    let same : (with_value given (drop 5 word), Any) ≡ next = cc (e) in
    subst (Weighs Any given) same (record { weighs = omega (arith, with_one_value given (drop 5 word)) })
any_weighs given place word false false false true next e = absurd (cc (e))
any_weighs given place word false false false false next e =
    let same : (with_argument given place word, Any) ≡ next = cc (e) in
    subst (Weighs Any given) same (record { weighs = omega (arith, with_one_argument given place word) })

value_weighs : (given : Given) (word : List ℕ) (option : Bool) (next : Given × NextWord)
    → cond option None (Some (with_value given word, Any)) ≡ Some next → Weighs Value given next
unfolding spare
value_weighs given word true next e = absurd (cc (e))
value_weighs given word false next e =
    let same : (with_value given word, Any) ≡ next = cc (e) in
    subst (Weighs Value given) same (record { weighs = omega (arith, with_one_value given word) })

word_weighs : (turn : NextWord) (given : Given) (place : ℕ) (word : List ℕ) (next : Given × NextWord)
    → with_word turn given place word ≡ Some next → Weighs turn given next
unfolding spare
word_weighs Any given place word next e =
    any_weighs given place word (bytes_eq word (codes "--")) (bytes_eq word (codes "--in")) (bytes_eq (take 5 word) (codes "--in="))
    (is_option word) next e
word_weighs Value given place word next e = value_weighs given word (is_option word) next e
word_weighs Argument given place word next e =
    let same : (with_argument given place word, Argument) ≡ next = cc (e) in
    subst (Weighs Argument given) same (record { weighs = omega (arith, with_one_argument given place word) })

end_weighs : (turn : NextWord) (given end : Given) → given_at_end turn given ≡ Some end → given ≡ end
end_weighs Any given end e = cc (e)
end_weighs Value given end e = absurd (cc (e))
end_weighs Argument given end e = cc (e)

words_weigh : (words : List (List ℕ)) (turn : NextWord) (given : Given) (place : ℕ) (end : Given)
    → given_with words turn given place ≡ Some end → weight given + length words ≤ weight end + spare turn
words_weigh [] turn given place end e = omega (arith, ap weight (end_weighs turn given end e))
words_weigh (word ∷ words) turn given place end e =
    go (with_word turn given place word) (λ next f. word_weighs turn given place word next f)
    (λ next f. words_weigh words next.1 next.0 (place + 1) end f) e
  where
    go : (read : Option (Given × NextWord)) → ((next : Given × NextWord) → read ≡ Some next → Weighs turn given next)
        → ((next : Given × NextWord) → given_with words next.1 next.0 (place + 1) ≡ Some end
        → weight next.0 + length words ≤ weight end + spare next.1)
        → option_and_then (λ next. given_with words next.1 next.0 (place + 1)) read ≡ Some end
        → weight given + length (word ∷ words) ≤ weight end + spare turn
    go None weighs more f = absurd (cc (f))
    go (Some next) weighs more f = let step = (weighs next (λ i. Some next)).weighs in omega (arith, step, more next f)

nothing_weighs : weight nothing_given ≡ 0
unfolding weight
nothing_weighs = refl

-- words are at most two for each value, one for each argument, and one more
pub few_words : (words : List (List ℕ)) (values : List (List ℕ)) (arguments : List FileWord)
    → given_by words ≡ Some (record { values = values; arguments = arguments })
    → length words ≤ length arguments + 2 * length values + 1
few_words words values arguments e =
    let end : Given = record { values = values; arguments = arguments } in
    let told = words_weigh words Any nothing_given 1 end e in
    omega (arith, told, nothing_weighs, weight_is end, spare_is)
