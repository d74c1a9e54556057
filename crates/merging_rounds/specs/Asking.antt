-- What a further round is asked for, and what rounds with these options make of a circuit.
use Rattle.std.specs.Prelude.{ℕ, ◌≡◌, [], ◌∷◌, true, List, Option, Some, None}
use Rattle.aig_graph.specs.Circuits.{Netlist}
use Rattle.certificates.specs.declared.merged.MergedLatch.{MergedLatch}
use Rattle.retimed_circuits.specs.declared.report.Retimed.{Retimed}
use Rattle.frame_runs.specs.Bounds.{bound_in, levels_named}
use Rattle.frame_runs.specs.Named.{holding_in}
use Rattle.frame_runs.specs.declared.options.Options.{Options}
use Rattle.merging_rounds.specs.Rounds.{IsRetimedInRounds, at_positions, merged_in}
use Rattle.merging_rounds.specs.declared.rounds.Rounds.{Rounds}

-- It merges latches, and holds those at the positions. It takes at most the frames that are left,
-- under this bound.
pub record AreRoundOptions (options : Options) (bound : Option ℕ) (held : List ℕ) (left : ℕ) (asked : Options) : Type 0 where
  pub merges : asked.merge ≡ true
  pub choice : asked.choice ≡ options.choice
  pub certify : asked.certify ≡ options.certify
  pub frames : asked.max_frames ≡ left
  pub holding : holding_in asked ≡ at_positions held
  pub bound_is : levels_named asked.bound ≡ bound

-- c retimed in rounds as the options ask
abbrev pub IsInRounds : Options → Netlist → List Retimed → Rounds → List ℕ → Type 0
IsInRounds options c runs r now =
    IsRetimedInRounds options.merge (bound_in options c) options.choice c (holding_in options) options.max_frames options.certify runs r now

-- the options ask for merging, and for a guess which latches agree
pub record Guesses (options : Options) : Type 0 where
  pub merges : options.merge ≡ true
  pub none_given : options.classes ≡ None

-- if the options have latches to be merged, there is one round, and it merged those
abbrev pub AreMergedAsGiven : Options → Rounds → Type 0
AreMergedAsGiven options r = options.merge ≡ true → (given : List MergedLatch) → options.classes ≡ Some given → merged_in r ≡ Some given ∷ []
