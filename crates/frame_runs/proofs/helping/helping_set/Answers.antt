use Rattle.std.proofs.Common.{ℕ, Option, Some, sym, subst}
use Rattle.std.specs.Result.{IfOk}
use Rattle.std.proofs.lemmas.Result.{IfOk-weaker}
use Rattle.aig_graph.specs.Chosen.{IsChosen}
use Rattle.aig_graph.specs.Circuits.{Netlist}
use Rattle.chosen_cuts.specs.Certified.{AddsOne}
use Rattle.path_levels.specs.Bounded.{BoundedLaw}
use Rattle.path_levels.proofs.BoundedLaws.{bounded-law}
use Rattle.frame_runs.specs.declared.bounding.Judged.{Judged}
use Rattle.frame_runs.specs.Found.{Finds, IsFoundOver, IsSetJudged, IsLook}
use Rattle.frame_runs.proofs.LookLaws.{bounded-closed, finds-first, finds-within, over-saves}
use Rattle.frame_runs.proofs.helping.helping_set.Goals as goal

pub judge-requires : goal.judge-requires
judge-requires g c = over-saves c.args.run.now.retimed.circuit c.args.run.now.keep c.in_ok-first.ensures.set c.in_ok-first.first c.in_ok-first.ensures.over

pub helping_over-requires : goal.helping_over-requires
helping_over-requires g c =
    let options = c.args.options.now in
    let before = c.args.run.now.retimed.circuit in
    let held = c.args.run.now.keep in
    let most = c.in-TooLong.most in
    let set = c.in_ok-set-in-TooLong.set in
    let law : BoundedLaw most held before = bounded-law most held before c.known.ensures.graph c.known.ensures.netlist in
    let C : Netlist → Type 0 = λ d. IsChosen options.choice d held set in
    (bounded-closed options held before most set law (subst C c.in_ok-narrowed-in-TooLong.ensures c.in_ok-set-in-TooLong.ensures.set)).closed

pub returns-in-Decided : goal.returns-in-Decided
returns-in-Decided g c =
    let options = c.args.options.now in
    let before = c.args.run.now.retimed.circuit in
    let bound = c.args.run.now.bound in
    let held = c.args.run.now.keep in
    let first = c.in_ok-first.first in
    let look = c.in_ok-first.ensures in
    let found = c.in-Decided.found in
    let old = c.args.records.now in
    let new = c.least_helping.new.records in
    let J : Judged → Type 0 = λ it. IsSetJudged bound before held look.set first it in
    let stays = subst J c.in-Decided.is (c.in_ok-found.ensures look.set look.over) in
    let again : IsLook options.choice before before held old new found = record { set = look.set; chosen = look.chosen; adds = look.adds; over = stays.0 } in
    finds-first options held before bound old new found again stays.1

pub returns-in_ok-set-in-TooLong : goal.returns-in_ok-set-in-TooLong
returns-in_ok-set-in-TooLong g c =
    let options = c.args.options.now in
    let before = c.args.run.now.retimed.circuit in
    let bound = c.args.run.now.bound in
    let held = c.args.run.now.keep in
    let first = c.in_ok-first.first in
    let most = c.in-TooLong.most in
    let set = c.in_ok-set-in-TooLong.set in
    let old = c.args.records.now in
    let mid = c.least_helping.new.records in
    let less = c.forget_last.new.self in
    let new = c.chosen_over.new.records in
    let look = c.in_ok-first.ensures in
    let J : Judged → Type 0 = λ it. IsSetJudged bound before held look.set first it in
    let breaks = subst J c.in-TooLong.is (c.in_ok-found.ensures look.set look.over) in
    let law : BoundedLaw most held before = bounded-law most held before c.known.ensures.graph c.known.ensures.netlist in
    let D : Netlist → Type 0 = λ d. IsChosen options.choice d held set × AddsOne d held less new set in
    let narrowed = subst D c.in_ok-narrowed-in-TooLong.ensures (c.in_ok-set-in-TooLong.ensures.set, c.in_ok-set-in-TooLong.ensures.certificate) in
    subst (λ (b : Option ℕ). IfOk c.helping_over.result (Finds options b held before old new)) (sym breaks.0)
    (IfOk-weaker c.helping_over.result (IsFoundOver before held set) (Finds options (Some most) held before old new)
    (λ found over. finds-within options held before most set old mid less new first found law look breaks.1 c.forget_last.ensures narrowed.0 narrowed.1 over) c.helping_over.ensures)
