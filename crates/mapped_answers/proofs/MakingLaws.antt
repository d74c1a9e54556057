-- Why there is no retiming with a map.
use Rattle.std.proofs.Common.{ℕ, ◌≡◌, refl, subst}
use Rattle.aig_graph.specs.Circuits.{IsNetlist, Netlist}
use Rattle.aig_graph.specs.Graph.{IsGraph}
use Rattle.counted_io.specs.Output.{Output, WritesAll, WritesPart}
use Rattle.aig_binary.specs.declared.reading.SpeltCircuit.{SpeltCircuit}
use Rattle.frame_runs.specs.declared.errors.BytesError.TheVariants.{Read, Retime, Write}
use Rattle.frame_runs.specs.declared.errors.RetimeError.{RetimeError}
use Rattle.frame_runs.specs.declared.errors.RetimeError.TheVariants.{Misread, NoMemory, NoSuchLatch, NoSuchName, NotShown}
use Rattle.frame_runs.specs.declared.options.Options.{Options}
use Rattle.frames.specs.Answering.{StopsWriting}
use Rattle.frame_runs.specs.Bounds.{bound_in}
use Rattle.frame_runs.specs.Named.{IsFirstMissingBy, IsFirstNoLatchBy, holding_in}
use Rattle.std.specs.Option.{unwrap_or}
use Rattle.file_words.specs.declared.spelling.Spelling.{Spelling}
use Rattle.aig_binary.specs.Spellings.{text_in}
use Rattle.aig_binary.proofs.SpellingLaws.{the_spelling_law}
use Rattle.merging_rounds.proofs.LimitLaws.{runs-limits}
use Rattle.map_circuits.specs.declared.errors.MapError.TheVariants as maps
use Rattle.mapped_answers.specs.declared.making.Made.{Made}
use Rattle.mapped_answers.specs.declared.errors.AnswerError.{AnswerError}
use Rattle.mapped_answers.specs.declared.errors.AnswerError.TheVariants.{Bytes, MapTooLarge}
use Rattle.mapped_answers.specs.declared.errors.FollowError.{FollowError}
use Rattle.mapped_answers.specs.declared.errors.FollowError.TheVariants as follows
use Rattle.mapped_answers.specs.Mapping.{IsMade, IsMakingError, IsMappedOf, IsMappingStop, of_follow_error}

-- no map, or latches that aren't merged as the classes say
pub unmapped : (options : Options) (c : Netlist) (e : FollowError) → IsMakingError options c (of_follow_error e)
unmapped options c (follows.Map maps.NoMemory) = tt
unmapped options c (follows.Map maps.TooLarge) = tt
unmapped options c (follows.Misread latch) = tt
unmapped options c (follows.NotShown latch) = tt

-- a name or a position that no latch has
pub unheld : (options : Options) (c : Netlist) (e : RetimeError) → ((place : ℕ) → e ≡ NoSuchName place → IsFirstMissingBy options c place) → ((place : ℕ) → e ≡ NoSuchLatch place → IsFirstNoLatchBy options c place)
    → IsMakingError options c (Bytes (Retime e))
unheld options c NoMemory missing no_latch = tt
unheld options c (NoSuchName place) missing no_latch = missing place refl
unheld options c (NoSuchLatch place) missing no_latch = no_latch place refl
unheld options c (Misread latch) missing no_latch = tt
unheld options c (NotShown latch) missing no_latch = tt

-- nothing is written then
pub makes-nothing : (options : Options) (spelt : SpeltCircuit) (out : Output) (e : AnswerError) → IsMakingError options spelt.circuit e → IsMappingStop options spelt out out e
makes-nothing options spelt out MapTooLarge is = refl
makes-nothing options spelt out (Bytes (Read e)) is = absurd is
makes-nothing options spelt out (Bytes (Retime NoMemory)) is = refl
makes-nothing options spelt out (Bytes (Retime (NoSuchName place))) is = (refl, is)
makes-nothing options spelt out (Bytes (Retime (NoSuchLatch place))) is = (refl, is)
makes-nothing options spelt out (Bytes (Retime (Misread latch))) is = refl
makes-nothing options spelt out (Bytes (Retime (NotShown latch))) is = refl
makes-nothing options spelt out (Bytes (Write e)) is = absurd is

-- what was made is written as the answer
pub written-answer : (options : Options) (spelt : SpeltCircuit) (made : Made) (spelling : Spelling) (old new : Output) → spelling ≡ unwrap_or options.spelling spelt.spelling
    → IsMade options spelt.circuit made → IsGraph made.rounds.circuit.aig → IsNetlist made.rounds.circuit → WritesAll old new (text_in spelling made.rounds.circuit) → IsMappedOf options spelt old new made
written-answer options spelt made spelling old new same is graph netlist writes = record {
  written = record {
    answer = record { latches = is.latches; names = is.names; now = made.keep; rounds = is.rounds };
    writes = subst (λ (s : Spelling). WritesAll old new (text_in s made.rounds.circuit)) same writes;
    reads_back = λ within. (the_spelling_law (unwrap_or options.spelling spelt.spelling) made.rounds.circuit).read graph netlist
        (runs-limits options.merge (bound_in options spelt.circuit) options.choice spelt.circuit (holding_in options) options.max_frames options.certify is.rounds.runs made.rounds.circuit made.rounds.kept_free made.keep
        is.rounds.is.after within);
  };
  mapped = is.mapped;
}

-- or a beginning of it
pub cut_off-answer : (options : Options) (spelt : SpeltCircuit) (made : Made) (spelling : Spelling) (old new : Output) → spelling ≡ unwrap_or options.spelling spelt.spelling
    → IsMade options spelt.circuit made → WritesPart old new (text_in spelling made.rounds.circuit) → StopsWriting options spelt old new
cut_off-answer options spelt made spelling old new same is part = record {
  rounds = made.rounds;
  answer = record { latches = is.latches; names = is.names; now = made.keep; rounds = is.rounds };
  writes = subst (λ (s : Spelling). WritesPart old new (text_in s made.rounds.circuit)) same part;
}
