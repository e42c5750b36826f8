-- The states are those that the memo keeps.
use Rattle.summary_chart.proofs.spreading.known_of_walk.Goals as goal

pub returns-in-Some : goal.returns-in-Some
returns-in-Some c number has = (c.in-Some.states, c.in-Some.ensures, has)
