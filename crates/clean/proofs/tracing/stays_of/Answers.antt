use Rattle.std.proofs.Common.{ℕ, ◌≡◌, ◌∙◌, ◌+◌, Bool, List, arith, ap, sym, length, zero-add}
use Rattle.aig_graph.specs.declared.graph.Latch.{Latch}
use Rattle.aig_graph.specs.Graph.{first_latch}
use Rattle.aig_graph.proofs.TableLaws.{entry, table-end, table-none}
use Rattle.clean.specs.Sweep.{is_marked}
use Rattle.clean.proofs.tracing.stays_of.Goals as goal

pub loop-place-init : goal.loop-place-init
loop-place-init c = c.in_ok-stays.ensures.items ∙ sym (table-none 0 _)

pub loop-place-preserved : goal.loop-place-preserved
loop-place-preserved c =
    let g = c.args.aig.now in
    let k : ℕ = c.loop-place.place in
    let f : ℕ → Bool = λ j. is_marked c.args.reached.now (first_latch g + j) in
    let here : c.has.result ≡ f (0 + k) =
    c.has.ensures ∙ ap (λ (n : ℕ). is_marked c.args.reached.now (n + k)) c.first_latch-first.ensures.value ∙ ap f (sym (zero-add k)) in
    entry 0 k f c.loop-place.stays.items c.push.new.self.items c.has.result c.loop-place.invariant c.in_ok-push.ensures.items here

pub returns : goal.returns
returns c =
    let g = c.args.aig.now in
    let f : ℕ → Bool = λ j. is_marked c.args.reached.now (first_latch g + j) in
    let many = ap (λ (xs : List Latch). length xs) c.latches-2.ensures.value in
    table-end 0 c.loop-place.place (length g.latches) f c.loop-place.stays.items (omega (arith, c.loop-place.auto.place-end, many)) (omega (arith, c.loop-place-test.false, many)) c.loop-place.invariant
