use Rattle.std.proofs.Common.{◌≡◌, ◌+◌, ◌-◌, ◌/◌, ◌∙◌, arith, ap, sym, subst, List, ℕ, Bool}
use Rattle.aig_graph.proofs.PlacesLaws.{Ranks}
use Rattle.aig_graph.specs.Graph.{variables_end}
use Rattle.frame_net.specs.declared.edges.Link.{Link}
use Rattle.frame_net.specs.Edges.{AreLinks}
use Rattle.frame_net.specs.Links.{latch_links, after_links}
use Rattle.frame_net.specs.Capacity.{has_node, is_observed, latch_number, before_number, after_number, unbounded}
use Rattle.frame_net.specs.Layout.{capacity_of, links_in}
use Rattle.frame_net.proofs.ArcLaws.{latch-links, after-links}
use Rattle.frame_net.proofs.LayoutLaws.{latch-place, gate-place, node-from, place-within, latch-rank, gate-rank}
use Rattle.frame_net.proofs.layout.Layout.links.Goals as goal

pub index-var-requires : goal.index-var-requires
index-var-requires c = omega (arith, place-within c.args.self.now (c.args.v - 2) (omega (arith, c.if-place-self.true)))

pub returns-then-place-self-clause-links : goal.returns-then-place-self-clause-links
returns-then-place-self-clause-links c =
    let k = c.args.self.now in
    let g = k.aig.now in
    let held = k.keep.now in
    let r : Ranks (has_node k.aig.now k.keep.now) (variables_end k.aig.now) (c.args.v - 2) c.index-var.result.now = latch-rank k (c.args.v - 2) c.index-var.result.now (omega (arith, c.if-place-self.true)) c.index-var.ensures in
    let low = latch-place g held (c.args.v - 2) c.index-var.result.now r (omega (arith, c.if-place-self.true, k.latches_are)) in
    subst (λ (n : ℕ). AreLinks (capacity_of k) n (latch_links c.is_observed.result (unbounded g held))) (omega (arith, r.rank, c.requires.from))
    (subst (λ (b : Bool). AreLinks (capacity_of k) (latch_number g held c.index-var.result.now) (latch_links b (unbounded g held)))
    (sym (c.is_observed.ensures (node-from g held c.index-var.result.now r.passes) r.below))
    (latch-links g k.props.now held k.graph c.index-var.result.now r.passes low))

pub before_links-requires-clause-from : goal.before_links-requires-clause-from
before_links-requires-clause-from c =
    let k = c.args.self.now in
    let r : Ranks (has_node k.aig.now k.keep.now) (variables_end k.aig.now) (k.latches + (c.args.v - 2 - k.latches) / 2) c.index-var-2.result.now =
    gate-rank k c.args.v c.index-var-2.result.now c.requires.from c.requires.below (omega (arith, c.if-place-self.false)) c.index-var-2.ensures in
    gate-place k.aig.now k.keep.now (k.latches + (c.args.v - 2 - k.latches) / 2) c.index-var-2.result.now r (omega (arith, k.latches_are))

pub before_links-requires-clause-below : goal.before_links-requires-clause-below
before_links-requires-clause-below c =
    let k = c.args.self.now in
    (gate-rank k c.args.v c.index-var-2.result.now c.requires.from c.requires.below (omega (arith, c.if-place-self.false)) c.index-var-2.ensures).below

pub before_links-requires-clause-node : goal.before_links-requires-clause-node
before_links-requires-clause-node c =
    let k = c.args.self.now in
    (gate-rank k c.args.v c.index-var-2.result.now c.requires.from c.requires.below (omega (arith, c.if-place-self.false)) c.index-var-2.ensures).passes

pub returns-then-side-eq1-clause-links : goal.returns-then-side-eq1-clause-links
returns-then-side-eq1-clause-links c =
    let k = c.args.self.now in
    let g = k.aig.now in
    let held = k.keep.now in
    let r : Ranks (has_node k.aig.now k.keep.now) (variables_end k.aig.now) (k.latches + (c.args.v - 2 - k.latches) / 2) c.index-var-2.result.now =
    gate-rank k c.args.v c.index-var-2.result.now c.requires.from c.requires.below (omega (arith, c.if-place-self.false)) c.index-var-2.ensures in
    let high = gate-place g held (k.latches + (c.args.v - 2 - k.latches) / 2) c.index-var-2.result.now r (omega (arith, k.latches_are)) in
    let number : after_number k.aig.now k.keep.now c.index-var-2.result.now ≡ c.args.v = omega (arith, r.rank, k.latches_are, c.requires.from, c.if-place-self.false, c.if-side-eq1.true) in
    subst (λ (n : ℕ). AreLinks (capacity_of k) n (after_links c.is_observed-then-side-eq1.result (unbounded g held) (c.args.v - 1))) number
    (subst (λ (xs : List Link). AreLinks (capacity_of k) (after_number g held c.index-var-2.result.now) xs)
    (sym (ap (λ (b : Bool). after_links b (unbounded g held) (c.args.v - 1)) (c.is_observed-then-side-eq1.ensures (node-from g held c.index-var-2.result.now r.passes) r.below)
    ∙ ap (λ (n : ℕ). after_links (is_observed g k.props.now held c.index-var-2.result.now) (unbounded g held) n) (omega (arith, number))))
    (after-links g k.props.now held k.graph c.index-var-2.result.now r.passes high r.below))

pub returns-else-side-eq1-clause-links : goal.returns-else-side-eq1-clause-links
returns-else-side-eq1-clause-links c =
    let k = c.args.self.now in
    let g = k.aig.now in
    let held = k.keep.now in
    let r : Ranks (has_node k.aig.now k.keep.now) (variables_end k.aig.now) (k.latches + (c.args.v - 2 - k.latches) / 2) c.index-var-2.result.now =
    gate-rank k c.args.v c.index-var-2.result.now c.requires.from c.requires.below (omega (arith, c.if-place-self.false)) c.index-var-2.ensures in
    let number : before_number k.aig.now k.keep.now c.index-var-2.result.now ≡ c.args.v =
    omega (arith, r.rank, gate-place g held (k.latches + (c.args.v - 2 - k.latches) / 2) c.index-var-2.result.now r (omega (arith, k.latches_are)), k.latches_are, c.requires.from, c.if-place-self.false, c.if-side-eq1.false) in
    subst (λ (n : ℕ). AreLinks (capacity_of k) n (links_in k c.before_links.result)) number c.before_links.ensures.links
