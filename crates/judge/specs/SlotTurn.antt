-- What the judge's code counts on, and how far it has come.
use Rattle.std.specs.Prelude.{◌≡◌, Result, Ok, Err, true, List, ℕ, ◌≤◌, ◌<◌, length}
use Rattle.meaning.specs.declared.Mode.{Mode}
use Rattle.meaning.specs.declared.Blame.{Blame}
use Rattle.meaning.specs.declared.Names.{Names}
use Rattle.meaning.specs.Returned.{Tested}
use Rattle.meaning.specs.Words.{Bytes, Relation, places}
use Rattle.meaning.specs.Yard.{is_probe}
use Rattle.meaning.specs.Rounds.{goes_in}
use Rattle.meaning.specs.Answer.{accepted}
use Rattle.meaning.specs.Judge.{Judging, nobody, names_at}
use Rattle.meaning.specs.Results.{outcome_of}
use Rattle.laws.proofs.Moving.{weigh}

-- nothing wrong so far, the next slot at a place
abbrev pub judging_from : ℕ → List ℕ → Judging
judging_from at held = record { outcome = accepted; at = at; held = held }

-- how far the judge has come from a slot at a place, as the code has it: behind the slot, or there where it is refused
abbrev pub judging : (at : ℕ) → List ℕ → Result ℕ Blame → Judging
judging at held (Ok next) = record { outcome = accepted; at = next; held = held }
judging at held (Err blame) = record { outcome = outcome_of blame.refusal; at = at; held = held }

-- the names that go with it: nobody behind a slot that passes, else whom the refusal blames
abbrev pub names_in : Result ℕ Blame → Names
names_in (Ok _) = nobody
names_in (Err blame) = blame.names

-- they are those that its number names in the slot that it has come to
abbrev pub Named : Mode → (p : ℕ) → (parent : ℕ → ℕ) → Relation → (plan : Bytes) → Judging → Names → Type 0
Named mode p parent relation plan now names = names ≡ names_at mode p parent relation plan now now.outcome.number

-- what the slots of a plan come to, end: its place where they pass, and else the refusal and whom it names
abbrev pub Comes : Mode → (p : ℕ) → (parent : ℕ → ℕ) → Relation → (plan : Bytes) → (end : Judging) → List ℕ → Result ℕ Blame → Type 0
Comes mode p parent relation plan end held (Ok at) = record { outcome = accepted; at = at; held = held } ≡ end
Comes mode p parent relation plan end held (Err blame) =
    (outcome_of blame.refusal ≡ end.outcome) × ((held ≡ end.held) × Named mode p parent relation plan end blame.names)

-- a number at its place that names nobody
abbrev pub unnamed_at : (number place : ℕ) → Tested
unnamed_at number place = record { outcome = record { number = number; place = place }; names = nobody }

-- what an accepted sheet gives to each slot: few probes, what is sent going to nodes, and few packets or readings
pub record Ready (mode : Mode) (p : ℕ) (parent : ℕ → ℕ) (held : List ℕ) : Type 0 where
  pub few : p ≤ 63
  pub parents : (v : ℕ) → is_probe p v ≡ true → goes_in mode parent v < places
  pub long : length held ≡ places
  pub packets : weigh (λ _. 1) held ≤ 945
