-- RULES, "The telephone", for demand 3: how many slots at least, in our plan by probe, and at most, and how many times as long as anybody's it is at most.
use Rattle.std.specs.Prelude.{cond, ℕ, ◌+◌, ◌-◌, ◌*◌, ◌/◌, min}
use Rattle.meaning.specs.declared.Told.{Told}
use Rattle.meaning.specs.Words.{Bytes}
use Rattle.meaning.specs.Sheet.{hops, slowest, least_slots}
use Rattle.meaning.specs.Plan.{any_plan}
use Rattle.meaning.specs.Rounds.{by_probe}
use Rattle.meaning.specs.Answer.{is_accepted, plan_made}

-- Demand 3: at most as many slots as colours times the packets and the lag of the slowest branch, and at most as many as hops; the smaller counts
abbrev pub at_most : (s : Bytes) → (colours : ℕ) → ℕ
at_most s colours = min (colours * slowest s) (hops s)

-- Demand 3: our plan is at most so many times as long as anybody's: the smaller of its colours and of its slots by the fewest, rounded up; 0 where no slot is needed
abbrev pub times_any : (colours ours fewest : ℕ) → ℕ
times_any colours ours fewest = min colours ((ours + (fewest - 1)) / fewest)

-- Demand 3: the telephone's answer: at least, ours by probe in a buffer with room for any plan, at most, and how many times anybody's; on refusal all four are 0
unfoldable pub asked : Bytes → Told
asked s =
    let planned = (plan_made by_probe s any_plan).answer in
    cond (is_accepted planned.outcome)
    (record {
      outcome = planned.outcome;
      least = least_slots s;
      ours = planned.slots;
      most = at_most s planned.colours;
      times = times_any planned.colours planned.slots (least_slots s);
    })
    (record { outcome = planned.outcome; least = 0; ours = 0; most = 0; times = 0 })
