use Rattle.std.proofs.Common.{rules, ◌≡◌, ◌∙◌, sym, ap, true, false, ℕ}
use Rattle.aig_graph.specs.Graph.{is_free}
use Rattle.aig_graph.specs.Marking.{has}
use Rattle.cleaned_circuits.specs.Latches.{is_constant_latch, same_latch}
use Rattle.cleaned_circuits.specs.Merged.{substitute_or_own}
use Rattle.clean.specs.Firsts.{entries_after}
use Rattle.std.specs.Map.{lookup}
use Rattle.clean.proofs.FirstsLaws.{constant_latch-is, firsts-constant_latch, firsts-free, firsts-more, substitute-first}
use Rattle.clean.proofs.latches.substitute_for_latch.Goals as goal

pub returns-then-is_constant_latch-clause-firsts : goal.returns-then-is_constant_latch-clause-firsts
returns-then-is_constant_latch-clause-firsts c =
    let g = c.args.aig.now in
    let held = c.args.held.now.positions.now in
    let constant_latch : is_constant_latch g held c.args.place c.args.latch ≡ true =
    sym (constant_latch-is g held c.args.place c.args.latch c.own_literal-own.result c.has-is_held.result c.is_constant_latch.result c.own_literal-own.ensures c.has-is_held.ensures c.is_constant_latch.ensures) ∙ c.if-is_constant_latch.true in
    firsts-constant_latch g held c.args.place c.args.latch c.args.firsts.now c.requires.there constant_latch c.requires.firsts

pub returns-then-eq-clause-firsts : goal.returns-then-eq-clause-firsts
returns-then-eq-clause-firsts c =
    let free : is_free c.args.latch ≡ true = search rules in
    firsts-free c.args.aig.now c.args.held.now.positions.now c.args.place c.args.latch c.args.firsts.now c.requires.there free c.requires.firsts

pub returns-then-is_held-clause-firsts : goal.returns-then-is_held-clause-firsts
returns-then-is_held-clause-firsts c =
    let g = c.args.aig.now in
    let held = c.args.held.now.positions.now in
    let sound : is_constant_latch g held c.args.place c.args.latch ≡ false =
    sym (constant_latch-is g held c.args.place c.args.latch c.own_literal-own.result c.has-is_held.result c.is_constant_latch.result c.own_literal-own.ensures c.has-is_held.ensures c.is_constant_latch.ensures) ∙ c.if-is_constant_latch.false in
    firsts-more g held c.args.place c.args.latch c.requires.there sound c.args.firsts.now c.requires.firsts c.first_duplicate.new.self
    (c.in_ok-first.ensures.entries ∙ ap (λ (n : ℕ). entries_after c.args.firsts.now n c.args.latch (lookup (same_latch c.args.latch) c.args.firsts.now)) c.own_literal-own.ensures)

pub returns-else-is_held-clause-firsts : goal.returns-else-is_held-clause-firsts
returns-else-is_held-clause-firsts c =
    let g = c.args.aig.now in
    let held = c.args.held.now.positions.now in
    let sound : is_constant_latch g held c.args.place c.args.latch ≡ false =
    sym (constant_latch-is g held c.args.place c.args.latch c.own_literal-own.result c.has-is_held.result c.is_constant_latch.result c.own_literal-own.ensures c.has-is_held.ensures c.is_constant_latch.ensures) ∙ c.if-is_constant_latch.false in
    firsts-more g held c.args.place c.args.latch c.requires.there sound c.args.firsts.now c.requires.firsts c.first_duplicate.new.self
    (c.in_ok-first.ensures.entries ∙ ap (λ (n : ℕ). entries_after c.args.firsts.now n c.args.latch (lookup (same_latch c.args.latch) c.args.firsts.now)) c.own_literal-own.ensures)

pub returns-else-is_held-clause-literal : goal.returns-else-is_held-clause-literal
returns-else-is_held-clause-literal c =
    let g = c.args.aig.now in
    let held = c.args.held.now.positions.now in
    let sound : is_constant_latch g held c.args.place c.args.latch ≡ false =
    sym (constant_latch-is g held c.args.place c.args.latch c.own_literal-own.result c.has-is_held.result c.is_constant_latch.result c.own_literal-own.ensures c.has-is_held.ensures c.is_constant_latch.ensures) ∙ c.if-is_constant_latch.false in
    let known : is_free c.args.latch ≡ false = search rules in
    let loose : has held c.args.place ≡ false = sym c.has-is_held.ensures ∙ c.if-is_held.false in
    c.in_ok-first.ensures.literal
    ∙ ap (λ (n : ℕ). substitute_or_own n (lookup (same_latch c.args.latch) c.args.firsts.now)) c.own_literal-own.ensures
    ∙ substitute-first g held c.args.place c.args.latch c.requires.there sound c.args.firsts.now c.requires.firsts known loose
