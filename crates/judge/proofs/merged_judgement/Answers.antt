-- `judge::merged_judgement` meets its contract: the judge is exact by what is held, and a merged plan is good by that exactly when it is good in words.
use Rattle.laws.proofs.MergedExact.{good-merged, merged-good}
use Rattle.judge.proofs.merged_judgement.Goals as goal

pub returns-clause-exact : goal.returns-clause-exact
returns-clause-exact c =
    let exact = c.judgement_in.ensures.exact in
    (λ passes. good-merged _ _ (exact.0 passes), λ good. exact.1 (merged-good _ _ good))
