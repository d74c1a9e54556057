use Rattle.std.proofs.Common.{◌≡◌, ◌<◌, ◌∙◌, ap, sym, subst, arith, ℕ, List, length, take, get_or}
use Rattle.std.specs.List.{All, flat_map}
use Rattle.aig_graph.specs.Graph.{variable}
use Rattle.clean.specs.Sweep.{front_end, reach_in_sweep}
use Rattle.clean.proofs.FrontLaws.{sweep-same, all-nil, all-since, flat-more}
use Rattle.clean.proofs.reached.Reached.reach_justice.Goals as goal

pub loop-lits-init : goal.loop-lits-init
loop-lits-init c = sym (all-nil reach_in_sweep c.args.self.now)

pub reach_all-requires : goal.reach_all-requires
reach_all-requires c =
    let i : ℕ = c.loop-lits.lits-index in
    let xss : List (List ℕ) = c.args.justice.now in
    let within : i < length xss = omega (arith, c.loop-lits-test.true, ap (λ (xs : List (List ℕ)). length xs) c.as_slice-lits-items.ensures) in
    let read : c.lits-item.result ≡ get_or xss i c.lits-item.result = c.lits-item.is ∙ ap (λ (xs : List (List ℕ)). get_or xs i c.lits-item.result) c.as_slice-lits-items.ensures in
    let here = subst (λ (lits : List ℕ). All (λ (lit : ℕ). variable lit < front_end c.args.self.now) lits) (sym read) (c.requires i c.lits-item.result within) in
    all-since reach_in_sweep sweep-same (flat_map (λ lits. lits) (take i xss)) c.lits-item.result c.args.self.now c.loop-lits.self c.loop-lits.invariant here

pub loop-lits-preserved : goal.loop-lits-preserved
loop-lits-preserved c =
    let i : ℕ = c.loop-lits.lits-index in
    let xss : List (List ℕ) = c.args.justice.now in
    let within : i < length xss = omega (arith, c.loop-lits-test.true, ap (λ (xs : List (List ℕ)). length xs) c.as_slice-lits-items.ensures) in
    let read : c.lits-item.result ≡ get_or xss i c.lits-item.result = c.lits-item.is ∙ ap (λ (xs : List (List ℕ)). get_or xs i c.lits-item.result) c.as_slice-lits-items.ensures in
    flat-more reach_in_sweep c.args.self.now c.loop-lits.self c.reach_all.new.self xss i c.lits-item.result within read c.loop-lits.invariant c.in_ok-reach_all.ensures
