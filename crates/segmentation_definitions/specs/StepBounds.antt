-- Bounds on the answers of a line, and on the steps of a search and of its chart (own).
use Rattle.std.specs.Prelude.{ℕ, ◌+◌, ◌*◌, ◌^◌, length}
use Rattle.lexicon_definitions.specs.Lexicons.{Lexicon}

-- how many keys there are for a step over this many letters: the phases, times how many of the letters it may take, times
-- the rules and no change
abbrev pub key_count : Lexicon → ℕ → ℕ
key_count lexicon letters = length lexicon.phases * (letters + 1) * (length lexicon.rules.rules + 1)

-- no line with this many letters has more answers: an answer has at most twice as many keys, so at each of these places
-- there stands one of the keys or no key
abbrev pub answer_bound : Lexicon → ℕ → ℕ
answer_bound lexicon letters = (key_count lexicon letters + 1) ^ (2 * letters)

-- for each phase, each of the at most 65 nodes on the way along a form, and each rule there and no change: one look, which
-- takes at most three steps
abbrev pub looks_at_one : Lexicon → ℕ → ℕ
looks_at_one lexicon most = length lexicon.phases * 65 * (most + 1)

-- the most configurations of a line with this many letters, over this many leads: one more than the letters, times the
-- entrances (the start, fifty letters, the leads), times the states, of which a grammar has at most 32
abbrev pub configuration_count : ℕ → ℕ → ℕ
configuration_count letters leads = (letters + 1) * (51 + leads) * 32

-- the most steps that making a line's chart takes, and the most that its summary takes
abbrev pub chart_bound : Lexicon → ℕ → ℕ → ℕ → ℕ
chart_bound lexicon most letters leads = 3 * looks_at_one lexicon most * configuration_count letters leads

-- the most steps that one move to the next answer takes under an exact guide, also where no answer is left
abbrev pub advance_bound : Lexicon → ℕ → ℕ → ℕ
advance_bound lexicon most letters = 12 * letters * looks_at_one lexicon most
