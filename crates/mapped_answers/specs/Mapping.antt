-- What becomes of a circuit that was read if a map is wanted: the answer, and the map from it to
-- the written circuit.
use Rattle.std.specs.Prelude.{◌≡◌}
use Rattle.counted_io.specs.Output.{Output}
use Rattle.aig_graph.specs.Circuits.{Netlist}
use Rattle.aig_binary.specs.declared.reading.SpeltCircuit.{SpeltCircuit}
use Rattle.state_maps.specs.MapCircuits.{FreeStay, IsMapCircuit}
use Rattle.map_circuits.specs.declared.errors.MapError.TheVariants as maps
use Rattle.frames.specs.Answering.{IsStop, IsWritten}
use Rattle.frame_runs.specs.Named.{AreLatchesBy, IsFirstMissingBy, IsFirstNoLatchBy, NoneMissingBy}
use Rattle.merging_rounds.specs.Following.{AreRoundsOf}
use Rattle.frame_runs.specs.declared.errors.BytesError.TheVariants.{Read, Retime, Write}
use Rattle.frame_runs.specs.declared.errors.RetimeError.TheVariants.{Misread, NoMemory, NoSuchLatch, NoSuchName, NotShown}
use Rattle.frame_runs.specs.declared.options.Options.{Options}
use Rattle.mapped_answers.specs.declared.making.Made.{Made}
use Rattle.mapped_answers.specs.declared.errors.AnswerError.{AnswerError}
use Rattle.mapped_answers.specs.declared.errors.AnswerError.TheVariants.{Bytes, MapTooLarge}
use Rattle.mapped_answers.specs.declared.errors.FollowError.{FollowError}
use Rattle.mapped_answers.specs.declared.errors.FollowError.TheVariants as follows

-- the map of the circuit to the retimed one, in which free latches stay
pub record IsMapped (c : Netlist) (m : Made) : Type 0 where
  pub map : IsMapCircuit c m.rounds.circuit m.rounds.kept_free m.map
  pub free : FreeStay c m.rounds.circuit m.map

-- A circuit that has latches of all names and positions of the options, retimed by them. Its held
-- latches stand then at the positions, and its map is there.
pub record IsMade (options : Options) (c : Netlist) (m : Made) : Type 0 where
  pub latches : AreLatchesBy options c
  pub names : NoneMissingBy options c
  pub rounds : AreRoundsOf options c m.rounds m.keep
  pub mapped : IsMapped c m

-- why a run that is followed by a map has no answer
abbrev pub of_follow_error : FollowError → AnswerError
of_follow_error (follows.Map maps.NoMemory) = Bytes (Retime NoMemory)
of_follow_error (follows.Map maps.TooLarge) = MapTooLarge
of_follow_error (follows.Misread latch) = Bytes (Retime (Misread latch))
of_follow_error (follows.NotShown latch) = Bytes (Retime (NotShown latch))

-- why there is no retiming with a map
abbrev pub IsMakingError : Options → Netlist → AnswerError → Type 0
IsMakingError options c MapTooLarge = Unit {0}
IsMakingError options c (Bytes (Read e)) = ⊥
IsMakingError options c (Bytes (Retime NoMemory)) = Unit {0}
IsMakingError options c (Bytes (Retime (NoSuchName place))) = IsFirstMissingBy options c place
IsMakingError options c (Bytes (Retime (NoSuchLatch place))) = IsFirstNoLatchBy options c place
IsMakingError options c (Bytes (Retime (Misread latch))) = Unit {0}
IsMakingError options c (Bytes (Retime (NotShown latch))) = Unit {0}
IsMakingError options c (Bytes (Write e)) = ⊥

-- the answer was written; its map is there
pub record IsMappedOf (options : Options) (spelt : SpeltCircuit) (old new : Output) (m : Made) : Type 0 where
  pub written : IsWritten options spelt old new m.rounds
  pub mapped : IsMapped spelt.circuit m

-- nothing is written if there is no map
abbrev pub IsMappingStop : Options → SpeltCircuit → Output → Output → AnswerError → Type 0
IsMappingStop options spelt old new (Bytes e) = IsStop options spelt old new e
IsMappingStop options spelt old new MapTooLarge = new ≡ old
