use Rattle.std.proofs.Common.{◌≡◌, ◌∙◌, arith, ap, sym, subst, List, ℕ, Some}
use Rattle.aig_graph.specs.Graph.{variable, gate_at}
use Rattle.frame_net.specs.declared.edges.Link.{Link}
use Rattle.frame_net.specs.Edges.{AreLinks}
use Rattle.frame_net.specs.Links.{gate_links}
use Rattle.frame_net.specs.Capacity.{latch_number, before_number, unbounded}
use Rattle.frame_net.specs.Layout.{capacity_of}
use Rattle.frame_net.proofs.ArcLaws.{before-links, base_of}
use Rattle.frame_net.proofs.LayoutLaws.{FanIns, fan_ins-facts, no-gate, number-fits}
use Rattle.frame_net.proofs.layout.Layout.before_links.Goals as goal

pub returns-in-Some-clause-fit : goal.returns-in-Some-clause-fit
returns-in-Some-clause-fit c =
    let k = c.args.self.now in
    let g = k.aig.now in
    let held = k.keep.now in
    let f : FanIns k.aig.now k.keep.now c.args.var c.in-Some.gate = fan_ins-facts g held k.graph c.args.var c.in-Some.gate (sym c.gate.ensures ∙ c.in-Some.is) c.requires.from c.requires.below c.requires.node in (
      omega (
        arith,
        c.number-first.ensures (omega (arith, c.var.ensures.variable, f.from1)) (omega (arith, c.var.ensures.variable, f.below1)),
        number-fits g held k.graph c.var.result (omega (arith, c.var.ensures.variable, f.below1)),
      ),
      omega (
        arith,
        c.number-second.ensures (omega (arith, c.var-in-Some.ensures.variable, f.from0)) (omega (arith, c.var-in-Some.ensures.variable, f.below0)),
        number-fits g held k.graph c.var-in-Some.result (omega (arith, c.var-in-Some.ensures.variable, f.below0)),
      ),
    )

pub returns-in-Some-clause-links : goal.returns-in-Some-clause-links
returns-in-Some-clause-links c =
    let k = c.args.self.now in
    let g = k.aig.now in
    let held = k.keep.now in
    let there : gate_at k.aig.now c.args.var ≡ Some c.in-Some.gate = sym c.gate.ensures ∙ c.in-Some.is in
    let f : FanIns k.aig.now k.keep.now c.args.var c.in-Some.gate = fan_ins-facts g held k.graph c.args.var c.in-Some.gate there c.requires.from c.requires.below c.requires.node in
    let first : c.number-first.result ≡ latch_number k.aig.now k.keep.now (variable c.in-Some.gate.rhs1) =
    c.number-first.ensures (omega (arith, c.var.ensures.variable, f.from1)) (omega (arith, c.var.ensures.variable, f.below1)) ∙ ap (λ (v : ℕ). latch_number g held v) c.var.ensures.variable in
    let second : c.number-second.result ≡ latch_number k.aig.now k.keep.now (variable c.in-Some.gate.rhs0) =
    c.number-second.ensures (omega (arith, c.var-in-Some.ensures.variable, f.from0)) (omega (arith, c.var-in-Some.ensures.variable, f.below0)) ∙ ap (λ (v : ℕ). latch_number g held v) c.var-in-Some.ensures.variable in
    subst (λ (xs : List Link). AreLinks (capacity_of k) (before_number g held c.args.var) xs)
    (sym (ap (λ (b : ℕ). gate_links (base_of g held) (unbounded g held) b c.number-second.result) first
    ∙ ap (λ (b : ℕ). gate_links (base_of g held) (unbounded g held) (latch_number g held (variable c.in-Some.gate.rhs1)) b) second))
    (before-links g k.props.now held k.graph c.args.var c.in-Some.gate there c.requires.node c.requires.from c.requires.below f.has1 f.has0)

pub returns-in-None-clause-links : goal.returns-in-None-clause-links
returns-in-None-clause-links c =
    let k = c.args.self.now in
    absurd (no-gate k.aig.now k.keep.now c.args.var (sym c.gate.ensures ∙ c.in-None.is) c.requires.from c.requires.node)
