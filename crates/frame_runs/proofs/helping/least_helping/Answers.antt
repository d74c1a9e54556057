use Rattle.std.proofs.lemmas.Result.{IfOk-weaker}
use Rattle.aig_graph.proofs.ChosenLaws.{chosen-least}
use Rattle.frame_runs.specs.Found.{IsFoundOver, IsLook}
use Rattle.frame_runs.proofs.helping.least_helping.Goals as goal

pub helping_over-requires : goal.helping_over-requires
helping_over-requires g c = (chosen-least c.args.choice c.args.circuit.now c.args.keep.now c.in_ok-set.set c.in_ok-set.ensures.set).closed

pub returns : goal.returns
returns g c =
    let before = c.args.circuit.now in
    let held = c.args.keep.now in
    let set = c.in_ok-set.set in
    IfOk-weaker c.helping_over.result (IsFoundOver before held set) (IsLook c.args.choice before before held c.args.records.now c.chosen_least_along.new.records)
    (λ found over. record { set = set; chosen = c.in_ok-set.ensures.set; adds = c.in_ok-set.ensures.certificate; over = over }) c.helping_over.ensures
