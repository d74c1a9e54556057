use Rattle.std.proofs.Common.{◌∙◌, ap, sym, subst, arith, map, get_or, List}
use Rattle.std.proofs.lemmas.List.{get_or_default}
use Rattle.aig_graph.specs.declared.graph.Latch.{Latch}
use Rattle.cleaned_circuits.specs.Merged.{replaced_latch}
use Rattle.aig_graph.specs.Graph.{Graph, IsGraph, IsLiteralOf}
use Rattle.clean.proofs.MappingLaws.{latch-there, replaced-is}
use Rattle.clean.proofs.merged.replaced_aig.Goals as goal

pub from_parts-requires : goal.from_parts-requires
from_parts-requires c =
    let g : Graph = c.args.aig.now in
    let same = replaced-is c.args.substitutes.now g c.inputs.result c.in_ok-latches.latches.items c.args.gates.items c.inputs.ensures.value (c.in_ok-latches.ensures ∙ ap (map (replaced_latch c.args.substitutes.now)) c.latches.ensures.value) c.requires.gates in
    subst (λ (h : Graph). IsGraph h) (sym same) c.requires.graph

pub returns : goal.returns
returns c =
    c.from_parts.ensures
    ∙ replaced-is c.args.substitutes.now c.args.aig.now c.inputs.result c.in_ok-latches.latches.items c.args.gates.items c.inputs.ensures.value (c.in_ok-latches.ensures ∙ ap (map (replaced_latch c.args.substitutes.now)) c.latches.ensures.value) c.requires.gates

pub replaced_latches-requires : goal.replaced_latches-requires
replaced_latches-requires c = λ k d h.
    let g : Graph = c.args.aig.now in
    let items : List Latch = c.latches.result.now in
    let there = latch-there g items k (get_or items k d) c.latches.ensures.value h (get_or_default items k d (get_or items k d) h) in
    let within : IsLiteralOf g (get_or items k d).next = c.latches.ensures.graph.latches k (get_or items k d) there in
    omega (arith, within, c.requires.long)
