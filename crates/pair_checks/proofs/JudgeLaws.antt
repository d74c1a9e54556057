-- What the judge's answers say.
use Rattle.std.proofs.Common.{ℕ, ◌<◌, ◌≡◌, false, List, length, map, get_or, arith, sym, ◌∙◌}
use Rattle.std.proofs.lemmas.List.{ext_get_or, get_or-map, length-map}
use Rattle.aig_graph.specs.Circuits.{IsNetlist, Netlist}
use Rattle.aig_graph.specs.Graph.{Graph, IsGraph, first_latch}
use Rattle.aig_graph.specs.Streams.{AreKept, SameShape, property_literals}
use Rattle.aig_graph.specs.Value.{value_within}
use Rattle.aig_graph.proofs.PropsLaws.{literals_within}
use Rattle.aig_graph.proofs.ShapeLaws.{as-many}
use Rattle.unit_refutations.specs.Classes.{AreAlike}
use Rattle.pair_checks.specs.Answers.{IsAnswer, IsAnswerUnder}
use Rattle.pair_checks.specs.declared.answer.PairAnswer.{PairAnswer}
use Rattle.pair_checks.specs.declared.answer.PairAnswer.TheVariants.{Equal, NotShown}
use Rattle.pair_checks.specs.declared.pairs.Pair.{Pair}
use Rattle.pair_checks.specs.Openings.{BeginAlike, openings}
use Rattle.pair_checks.specs.Pairs.{IsInductive, ReadAlike}
use Rattle.pair_checks.specs.Sides.{AreEqualAt, IsPair}
use Rattle.pair_checks.proofs.OpeningLaws.{starts-agree}
use Rattle.pair_checks.proofs.StepLaws.{agree-later, equal-there}
use Rattle.pair_checks.proofs.StreamLaws.{same-streams}

-- a reading by which the latches begin alike and are told alike is inductive
pub inductive : (c d : Graph) (kept reads : List ℕ) (p : Pair) → IsPair c d reads p → IsGraph c → IsGraph d → IsGraph p.graph → d.inputs ≡ c.inputs
    → BeginAlike (first_latch c) (openings c d kept) reads → AreAlike p.graph reads → IsInductive c d kept reads
inductive c d kept reads p is of_first of_second of_pair inputs begin told = record {
  starts = starts-agree c d kept reads begin;
  steps = λ x s r agrees. agree-later c d reads p is of_first of_second of_pair inputs x s r agrees kept begin told;
}

-- properties whose literals are equal in the graph are equal wherever the latches hold what they
-- read as
pub read-alike : (c d : Netlist) (reads : List ℕ) (p : Pair) → IsPair c.aig d.aig reads p → IsGraph c.aig → IsGraph d.aig → IsNetlist c → IsNetlist d → IsGraph p.graph → SameShape c d
    → AreEqualAt p (property_literals c.props) (property_literals d.props) (length (property_literals c.props)) → ReadAlike c d reads
read-alike c d reads p is of_first of_second netlist other of_pair shape equal x s r agrees =
    let ours : List ℕ = property_literals c.props in
    let theirs : List ℕ = property_literals d.props in
    let many : length theirs ≡ length ours = as-many c d shape in
    ext_get_or false (map (value_within d.aig x r) theirs) (map (value_within c.aig x s) ours) (length-map theirs (value_within d.aig x r) ∙ many ∙ sym (length-map ours (value_within c.aig x s)))
    (λ j less.
    let inside : j < length theirs = omega (arith, less, length-map theirs (value_within d.aig x r)) in
    let within : j < length ours = omega (arith, inside, many) in
    get_or-map (value_within d.aig x r) theirs j 0 false inside
    ∙ equal-there c.aig d.aig reads p is of_first of_second of_pair shape.inputs x s r agrees (get_or ours j 0) (get_or theirs j 0)
    (literals_within c.aig c.props netlist.props j 0 within) (literals_within d.aig d.props other.props j 0 inside) (equal j within)
    ∙ sym (get_or-map (value_within c.aig x s) ours j 0 false within))

-- so what is found of the properties where the latches hold what they read as is an answer
pub answers : (c d : Netlist) (kept reads : List ℕ) (answer : PairAnswer) → SameShape c d → AreKept c d kept → IsInductive c.aig d.aig kept reads → IsAnswerUnder c d reads answer → IsAnswer c d kept answer
answers c d kept reads Equal shape places is under = same-streams c d kept reads shape places is under
answers c d kept reads (NotShown obligation shown all) shape places is under = shape
