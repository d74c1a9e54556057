use Rattle.std.proofs.Common.{◌≡◌, ◌<◌, ◌∙◌, ap, sym, subst, arith, ℕ, List, length, take, get_or}
use Rattle.aig_graph.specs.Graph.{variable}
use Rattle.clean.specs.Sweep.{front_end, reach_in_sweep}
use Rattle.clean.proofs.FrontLaws.{sweep-same, all-nil, all-more, within-since}
use Rattle.clean.proofs.reached.Reached.reach_all.Goals as goal

pub loop-lit-init : goal.loop-lit-init
loop-lit-init c = sym (all-nil reach_in_sweep c.args.self.now)

pub reach_in_sweep-requires : goal.reach_in_sweep-requires
reach_in_sweep-requires c =
    let i : ℕ = c.loop-lit.lit-index in
    let lits : List ℕ = c.args.lits.now in
    let within : i < length lits = omega (arith, c.loop-lit-test.true, ap (λ (xs : List ℕ). length xs) c.as_slice-lit-items.ensures) in
    let read : c.lit-item.result ≡ get_or lits i c.lit-item.result = c.lit-item.is ∙ ap (λ (xs : List ℕ). get_or xs i c.lit-item.result) c.as_slice-lit-items.ensures in
    let here : variable c.lit-item.result < front_end c.args.self.now = subst (λ (lit : ℕ). variable lit < front_end c.args.self.now) (sym read) (c.requires i c.lit-item.result within) in
    within-since reach_in_sweep sweep-same (take i lits) c.args.self.now c.loop-lit.self (variable c.lit-item.result) c.loop-lit.invariant here

pub loop-lit-preserved : goal.loop-lit-preserved
loop-lit-preserved c =
    let i : ℕ = c.loop-lit.lit-index in
    let lits : List ℕ = c.args.lits.now in
    let within : i < length lits = omega (arith, c.loop-lit-test.true, ap (λ (xs : List ℕ). length xs) c.as_slice-lit-items.ensures) in
    let read : c.lit-item.result ≡ get_or lits i c.lit-item.result = c.lit-item.is ∙ ap (λ (xs : List ℕ). get_or xs i c.lit-item.result) c.as_slice-lit-items.ensures in
    all-more reach_in_sweep c.args.self.now c.loop-lit.self c.reach_in_sweep.new.self lits i c.lit-item.result within read c.loop-lit.invariant c.in_ok-reach_in_sweep.ensures
