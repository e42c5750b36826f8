-- Each word that the grammar joins ends in the phase of a preverb's verb, or is an indeclinable.
use Rattle.std.proofs.Common.{◌≡◌, inl, inr, refl, ℕ, List, [], ◌∷◌, ◌++◌, lit<}
use Rattle.lexicon_definitions.specs.Grammars.{Grammar, Name, Sequence, Either, OnceOrMore, AtMostOnce, joined, Accepts}
use Rattle.lexicon_definitions.specs.GrammarTexts.{grammar_of}
use Rattle.worked_cases.specs.WorkedLexicons.{word_aa}
use Rattle.worked_cases.proofs.cases.phases_are_a_word_of_the_grammar.Goals as goal

abbrev reading : Grammar
reading = Either (Name 0) (Sequence (AtMostOnce (Name 1)) (Name 2))

-- none of the parts begins with a preverb alone
no_part : (part rest : List ℕ) → Accepts reading part → 1 ∷ [] ≡ part ++ rest → ⊥
no_part part rest (inl name) e = cc (e, name)
no_part part rest (inr (front, last, is, inl none, verb)) e = cc (e, is, none, verb)
no_part part rest (inr (front, last, is, inr preverb, verb)) e = cc (e, is, preverb, verb)

not_accepted : Accepts (OnceOrMore reading) (1 ∷ []) → ⊥
not_accepted ([], some, is, all) = some refl
not_accepted (part ∷ parts, some, is, all) = no_part part (joined parts) all.0 is

pub returns-clause-derived : goal.returns-clause-derived
returns-clause-derived c = record {
  forms = ((0, lit< tt, refl), tt);
  joined = tt;
  ends = inl refl;
  covers = (word_aa, [], refl, refl, refl);
}

pub returns-clause-no_answer : goal.returns-clause-no_answer
unfolding grammar_of
returns-clause-no_answer c answer = not_accepted answer.accepted
