use Rattle.std.proofs.Common.{◌∙◌, ap, sym, ◌/◌, ◌%◌, ◌≡◌, ◌<◌, ℕ, List, Bool, [], arith, length, get_or, subst}
use Rattle.std.proofs.lemmas.List.{length-map, get_or_default}
use Rattle.lane_sim.specs.Lanes.{lane}
use Rattle.lane_sim.specs.Blocks.{recorded}
use Rattle.lane_sim.proofs.TraceLaws.{InBlock, recorded-row}
use Rattle.lane_sim.proofs.trace.Trace.places.Goals as goal

row_of : (t : List (List (List Bool))) (steps : List ℕ) (blocks : List (List (List (List ℕ)))) → recorded steps blocks ≡ t → (s k : ℕ) → k < length (get_or t s [])
    → InBlock blocks s k (get_or (get_or t s []) k [])
row_of t steps blocks is s k h =
    subst (λ (u : List (List (List Bool))). k < length (get_or u s []) → InBlock blocks s k (get_or (get_or u s []) k [])) is (recorded-row steps blocks s k) h

pub returns-in-Some : goal.returns-in-Some
returns-in-Some c =
    let blocks = c.self.inside.blocks.items in
    let rows = c.rows_of-rows.ensures ∙ ap (λ bs. get_or bs (c.args.sequence / 256) []) c.as_slice.ensures.value in
    let row = row_of c.args.self.now c.self.inside.steps.items blocks c.self.view_is c.args.sequence c.args.step (omega (arith, c.if-step-steps.false, c.steps.ensures)) in
    let found = c.in-Some.ensures.lookup.1 ∙ ap (λ rs. get_or rs c.args.step c.in-Some.row.now) rows
    ∙ get_or_default (get_or blocks (c.args.sequence / 256) []) c.args.step c.in-Some.row.now [] row.within in
    ap length (c.as_slice-in-Some.ensures ∙ found)
    ∙ sym (ap length row.row_is ∙ length-map {A = List ℕ} {B = Bool} (get_or (get_or blocks (c.args.sequence / 256) []) c.args.step []) (λ lanes. lane lanes (c.args.sequence % 256)))

pub returns-in-None : goal.returns-in-None
returns-in-None c =
    let blocks = c.self.inside.blocks.items in
    let rows = c.rows_of-rows.ensures ∙ ap (λ bs. get_or bs (c.args.sequence / 256) []) c.as_slice.ensures.value in
    let row = row_of c.args.self.now c.self.inside.steps.items blocks c.self.view_is c.args.sequence c.args.step (omega (arith, c.if-step-steps.false, c.steps.ensures)) in
    absurd (omega (arith, row.within, c.in-None.ensures.lookup.3, ap length rows))
