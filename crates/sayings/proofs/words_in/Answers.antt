-- `sayings::words_in` meets its contract: the words of each arm are those of its number in its mode.
use Rattle.meaning.specs.Lister.{text}
use Rattle.sayings.proofs.words_in.Goals as goal

pub returns-in-Merged-eq14 : goal.returns-in-Merged-eq14
unfolding text
returns-in-Merged-eq14 c = rw (c.in-Merged-eq14.is-0, c.in-Merged-eq14.is-1)

pub returns-in-Merged-eq17 : goal.returns-in-Merged-eq17
unfolding text
returns-in-Merged-eq17 c = rw (c.in-Merged-eq17.is-0, c.in-Merged-eq17.is-1)
