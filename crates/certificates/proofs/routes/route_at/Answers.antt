use Rattle.std.proofs.Common.{◌-◌, ℕ, arith, ap, sym, ◌∙◌, take, drop, length, slice_index_or}
use Rattle.certificates.proofs.PartsLaws.{ends-rise, ends-within, parts-at}
use Rattle.certificates.proofs.routes.route_at.Goals as goal

pub between-requires-clause-rising : goal.between-requires-clause-rising
between-requires-clause-rising c = omega (arith, c.start_of.ensures, ends-rise 0 c.args.ends.now (length c.args.points.now) c.args.number c.requires.ends c.requires.number)

pub between-requires-clause-within : goal.between-requires-clause-within
between-requires-clause-within c = ends-within 0 c.args.ends.now (length c.args.points.now) c.args.number c.requires.ends c.requires.number

pub returns : goal.returns
returns c = λ d.
    c.between.ensures ∙ ap (λ (n : ℕ). take (slice_index_or c.args.ends.now c.args.number 0 - n) (drop n c.args.points.now)) c.start_of.ensures
    ∙ sym (parts-at 0 c.args.ends.now c.args.points.now c.args.number d c.requires.number)
