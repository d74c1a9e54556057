-- Outcomes of jobs, by their places.
use Rattle.std.proofs.Common.{ℕ, ◌≡◌, ◌<◌, List, length, get_or, subst}
use Rattle.std.proofs.lemmas.Option.{get_or_from_slice_get, slice_get_within}
use Rattle.frame_runs.specs.declared.options.Options.{Options}
use Rattle.batch_pool.specs.declared.job.Job.{Job}
use Rattle.batch_pool.specs.declared.job.Outcome.{Outcome}
use Rattle.batch_pool.specs.Outcomes.{AreOutcomes, IsOutcome}

-- what is so at each place is so of each job
pub outcomes-from : (options : Options) (jobs : List Job) (outcomes : List Outcome) → length outcomes ≡ length jobs
    → ((k : ℕ) (job : Job) (outcome : Outcome) → k < length jobs → IsOutcome (get_or jobs k job).bytes.items options (get_or outcomes k outcome)) → AreOutcomes options jobs outcomes
outcomes-from options jobs outcomes many each = record {
  many = many;
  each = λ k job outcome of_job of_outcome.
      let is = each k job outcome (slice_get_within jobs k job of_job) in
      subst (λ (j : Job). IsOutcome j.bytes.items options outcome) (get_or_from_slice_get jobs k job job of_job)
      (subst (λ (o : Outcome). IsOutcome (get_or jobs k job).bytes.items options o) (get_or_from_slice_get outcomes k outcome outcome of_outcome) is);
}
