-- An answer rests on the bytes and the options alone.
use Rattle.std.specs.Option.{unwrap_or}
use Rattle.std.proofs.Common.{ℕ, ◌≡◌, List, Option, Some, Result, Ok, ap₂, sym, subst, ◌∙◌}
use Rattle.counted_io.specs.Input.{Input}
use Rattle.aig_graph.specs.Circuits.{Netlist}
use Rattle.file_words.specs.declared.fault.ReadError.{ReadError}
use Rattle.file_words.specs.declared.spelling.Spelling.{Spelling}
use Rattle.aig_binary.specs.declared.reading.SpeltCircuit.{SpeltCircuit}
use Rattle.aig_binary.specs.Ending.{Spells}
use Rattle.frame_runs.specs.declared.options.Options.{Options}
use Rattle.frame_runs.specs.Bounds.{bound_in}
use Rattle.frame_runs.specs.Named.{holding_in}
use Rattle.aig_binary.specs.Spellings.{text_in}
use Rattle.merging_rounds.specs.Following.{AreRoundsOf}
use Rattle.merging_rounds.specs.Laws.{AreSameRounds}
use Rattle.merging_rounds.proofs.OneLaws.{rounds-one}
use Rattle.frames.specs.Answering.{IsOneAnswer}

same_circuit : (c d : Netlist) → ◌≡◌ {A = Result Netlist ReadError} (Ok c) (Ok d) → c ≡ d
same_circuit c d e = cc

same_spelling : (a b : Spelling) → ◌≡◌ {A = Option Spelling} (Some a) (Some b) → a ≡ b
same_spelling a b e = cc

-- the bytes are those of one circuit, in one spelling
one-spelt : (bytes : List ℕ) (input other : Input) (a b : SpeltCircuit) → input.bytes ≡ Some bytes → other.bytes ≡ Some bytes → Spells input a → Spells other b → a ≡ b
one-spelt bytes input other a b first second p q =
    let circuit : a.circuit ≡ b.circuit = same_circuit a.circuit b.circuit (sym (p.circuit.bytes bytes first) ∙ q.circuit.bytes bytes second) in
    let spelling : a.spelling ≡ b.spelling = same_spelling a.spelling b.spelling (sym (p.spelling bytes first) ∙ q.spelling bytes second) in
    λ i. record { circuit = circuit i; spelling = spelling i }

-- these bytes have one answer by these options, but for certificates
pub one-answer : (bytes : List ℕ) (options : Options) → IsOneAnswer bytes options
one-answer bytes options certify input other old new before after r s first second p q alike =
    let spelt : p.spelt ≡ q.spelt = one-spelt bytes input other p.spelt q.spelt first second p.read q.read in
    let a = p.written.answer in
    let b = q.written.answer in
    let P : SpeltCircuit → Type 0 = λ x. AreRoundsOf options x.circuit r a.now in
    let one : AreRoundsOf options q.spelt.circuit r a.now = subst P spelt a.rounds in
    let same : AreSameRounds options.certify certify r s =
    rounds-one options.merge (bound_in options q.spelt.circuit) options.choice q.spelt.circuit (holding_in options) options.max_frames options.certify certify one.runs b.rounds.runs r s a.now b.now
    one.is b.rounds.is alike in
    (same, ap₂ (λ (x : SpeltCircuit) (d : Netlist). text_in (unwrap_or options.spelling x.spelling) d) spelt same.circuit)
