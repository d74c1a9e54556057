use Rattle.std.proofs.Common.{◌≡◌, ℕ, arith, subst}
use Rattle.pulse_parts.specs.Parts.{cells_of}
use Rattle.pulse_parts.proofs.walking.walk_all.Goals as goal
use Rattle.pulse_parts.proofs.PartWalkLaws.{PartWalked, has_row, walked_more, walked_none}
use Rattle.pulse_parts.proofs.WholeLaws.{whole_walked}

pub loop-v-init : goal.loop-v-init
loop-v-init c = walked_none c.args.net.now c.args.labels.now (cells_of c.args.flow.now) c.args.part.now c.begin.new.self c.begin.ensures.empty

pub visit-requires-clause-row : goal.visit-requires-clause-row
visit-requires-clause-row c =
    has_row c.args.net.now c.loop-v.v c.args.part.now c.loop-v.part c.known.ensures.network c.requires.part c.loop-v.invariant.same c.loop-v.invariant.active.rows.same (omega arith) (omega arith)

pub loop-v-preserved : goal.loop-v-preserved
loop-v-preserved c =
    walked_more c.args.net.now c.args.labels.now (cells_of c.args.flow.now) c.loop-v.v c.args.part.now c.loop-v.part c.visit.new.part c.known.ensures.network c.requires.part c.requires.zero (omega arith) (omega arith)
    c.loop-v.invariant c.visit.ensures.same c.visit.ensures.active c.visit.ensures.idle

pub returns : goal.returns
returns c =
    let all : c.loop-v.v ≡ c.args.part.now.end = omega arith in
    whole_walked c.args.net.now c.args.labels.now (cells_of c.args.flow.now) c.args.part.now c.loop-v.part c.requires.part
    (subst (λ (x : ℕ). PartWalked c.args.net.now c.args.labels.now (cells_of c.args.flow.now) x c.args.part.now c.loop-v.part) all c.loop-v.invariant)
