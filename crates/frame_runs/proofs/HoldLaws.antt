-- Why latches can't be held, through the steps that hand on an error.
use Rattle.std.proofs.Common.{ℕ, ◌≡◌, ◌∙◌, Result, Ok, Err, sym}
use Rattle.std.specs.Result.{IsErrAnd}
use Rattle.aig_graph.specs.declared.holding.HoldError.{HoldError}
use Rattle.aig_graph.specs.declared.holding.HoldError.TheVariants as holding
use Rattle.frame_runs.specs.declared.errors.RetimeError.{RetimeError}
use Rattle.frame_runs.specs.declared.errors.RetimeError.TheVariants.{NoSuchLatch, NoSuchName}
use Rattle.frame_runs.specs.declared.errors.RunError.{RunError}
use Rattle.frame_runs.specs.declared.errors.RunError.TheVariants as runs
use Rattle.frame_runs.specs.Codes.{of_hold_error, of_run_error}

same_error : {T : Type 0} (a b : RetimeError) → ◌≡◌ {A = Result T RetimeError} (Err a) (Err b) → a ≡ b
same_error a b e = cc

-- what is so if an error is that of a position is so if the result has it
pub at-latch : {T : Type 0} (r : Result T RetimeError) (e : RetimeError) (P : ℕ → Type 0) → IsErrAnd r (λ x. x ≡ e) → ((place : ℕ) → e ≡ NoSuchLatch place → P place)
    → (place : ℕ) → r ≡ Err (NoSuchLatch place) → P place
at-latch (Ok x) e P is given place same = absurd is
at-latch (Err x) e P is given place same = given place (sym is ∙ same_error x (NoSuchLatch place) same)

-- the position is that of the error of holding
pub latch-of : (e : HoldError) (place : ℕ) → of_hold_error e ≡ NoSuchLatch place → e ≡ holding.NoSuchLatch place
latch-of holding.NoMemory place same = absurd (cc)
latch-of (holding.NoSuchName k) place same = absurd (cc)
latch-of (holding.NoSuchLatch k) place same = cc

no-latch : (e : RunError) (place : ℕ) → of_run_error e ≡ NoSuchLatch place → ⊥
no-latch runs.NoMemory place same = absurd (cc)
no-latch (runs.Misread latch) place same = absurd (cc)
no-latch (runs.NotShown latch) place same = absurd (cc)

no-name : (e : RunError) (place : ℕ) → of_run_error e ≡ NoSuchName place → ⊥
no-name runs.NoMemory place same = absurd (cc)
no-name (runs.Misread latch) place same = absurd (cc)
no-name (runs.NotShown latch) place same = absurd (cc)

-- an error after the holding is that of no position
pub never-latch : {T : Type 0} (r : Result T RetimeError) (e : RunError) (P : ℕ → Type 0) → IsErrAnd r (λ x. x ≡ of_run_error e) → (place : ℕ) → r ≡ Err (NoSuchLatch place) → P place
never-latch (Ok x) e P is place same = absurd is
never-latch (Err x) e P is place same = absurd (no-latch e place (sym is ∙ same_error x (NoSuchLatch place) same))

-- and of no name
pub never-name : {T : Type 0} (r : Result T RetimeError) (e : RunError) (P : ℕ → Type 0) → IsErrAnd r (λ x. x ≡ of_run_error e) → (place : ℕ) → r ≡ Err (NoSuchName place) → P place
never-name (Ok x) e P is place same = absurd is
never-name (Err x) e P is place same = absurd (no-name e place (sym is ∙ same_error x (NoSuchName place) same))
