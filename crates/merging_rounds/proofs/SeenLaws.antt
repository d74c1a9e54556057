-- What a watcher was notified of before rounds, and after them.
use Rattle.std.proofs.Common.{ℕ, ◌≡◌, ◌∙◌, List, [], ◌++◌, Option, ap, sym, subst, append-nil, append_assoc}
use Rattle.aig_graph.specs.Circuits.{Netlist}
use Rattle.retimed_circuits.specs.RetimingLevels.{KeepsLevels}
use Rattle.frame_runs.specs.Stages.{Notification, Notifies}
use Rattle.frame_runs.specs.declared.options.Options.{Options}
use Rattle.frame_runs.specs.declared.run.Run.{Run}
use Rattle.frame_runs.proofs.StageLaws.{notifies-then}
use Rattle.merging_rounds.specs.Following.{AreRoundsOf, AreRoundsSeen, EndInRounds, last_cleaning, looks_of_runs}
use Rattle.merging_rounds.specs.declared.rounds.Rounds.{Rounds}

-- what ends in rounds
pub ended-rounds : {F W : Type 0} (has_come : F → Netlist → Netlist → List ℕ → Type 0) (was_notified : W → List Notification → Type 0) (options : Options) (c : Netlist) (run : Run Rounds F) (a b : W)
    → EndInRounds has_come was_notified options c run a b → AreRoundsSeen was_notified [] [] options c run.retimed run.keep a b
ended-rounds has_come was_notified options c run a b end =
    let r : Rounds = run.retimed in
    let of : AreRoundsOf options c r run.keep = record { runs = end.runs; is = end.followed.is; given = end.followed.given } in
    record {
      rounds = of;
      levels = subst (λ (most : Option ℕ). KeepsLevels most c r.circuit) end.followed.bound_is end.followed.levels;
      nothing = end.nothing;
      notified = subst (Notifies was_notified a b) (sym (append-nil (looks_of_runs options.max_frames end.runs ++ last_cleaning end.nothing))) end.notified;
    }

module _ {W : Type 0} (was_notified : W → List Notification → Type 0) (options : Options) (c : Netlist) (r : Rounds) (now : List ℕ) where
  -- stages before them
  pub seen-before : (a b d : W) (before : List Notification) → Notifies was_notified a b before → AreRoundsSeen was_notified [] [] options c r now b d → AreRoundsSeen was_notified before [] options c r now a d
  seen-before a b d before first seen = record {
    rounds = seen.rounds;
    levels = seen.levels;
    nothing = seen.nothing;
    notified = notifies-then was_notified a b d before ((looks_of_runs options.max_frames seen.rounds.runs ++ last_cleaning seen.nothing) ++ []) first seen.notified;
  }

  -- stages after them
  pub seen-after : (a b d : W) (before after : List Notification) → AreRoundsSeen was_notified before [] options c r now a b → Notifies was_notified b d after → AreRoundsSeen was_notified before after options c r now a d
  seen-after a b d before after seen last =
      let looks : List Notification = looks_of_runs options.max_frames seen.rounds.runs ++ last_cleaning seen.nothing in
      let same : (before ++ (looks ++ [])) ++ after ≡ before ++ (looks ++ after) =
      append_assoc before (looks ++ []) after ∙ ap (λ (xs : List Notification). before ++ (xs ++ after)) (append-nil looks) in
      record {
        rounds = seen.rounds;
        levels = seen.levels;
        nothing = seen.nothing;
        notified = subst (Notifies was_notified a d) same (notifies-then was_notified a b d (before ++ (looks ++ [])) after seen.notified last);
      }
