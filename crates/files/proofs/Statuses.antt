-- The status of what the code makes is that of its answer in the words of the definitions: a refusal is never accepted.
use mathlib.Core.Path.{◌≡◌, refl, sym, ap}
use mathlib.Core.Bool.{Bool, cond}
use Prim.Native.Nat.{ℕ}
use Rattle.std.specs.Prelude.{Result, Ok, Err}
use Rattle.meaning.specs.declared.Refusal.{Refusal}
use Rattle.meaning.specs.declared.Blame.{Blame}
use Rattle.meaning.specs.declared.Plan.{Plan}
use Rattle.meaning.specs.declared.MergedLimits.{MergedLimits}
use Rattle.meaning.specs.Results.{outcome_of, plan_answer, judge_answer, merged_told_answer}
use Rattle.laws.proofs.Refused as Law
use Rattle.files.specs.Status.{answered, refused, status_of, status_by}

pub refused-status : (refusal : Refusal) → refused ≡ status_of (outcome_of refusal)
refused-status refusal = sym (ap (λ (b : Bool). cond b answered refused) (Law.refused refusal))

pub plan-status : (made : Result Plan Refusal) → status_by made ≡ status_of (plan_answer made).outcome
plan-status (Ok _) = refl
plan-status (Err refusal) = refused-status refusal

pub judge-status : (judged : Result ℕ Blame) → status_by judged ≡ status_of (judge_answer judged).verdict.outcome
judge-status (Ok _) = refl
judge-status (Err blame) = refused-status blame.refusal

pub merged-status : (told : Result MergedLimits Refusal) → status_by told ≡ status_of (merged_told_answer told).outcome
merged-status (Ok _) = refl
merged-status (Err refusal) = refused-status refusal
