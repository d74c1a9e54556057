use Rattle.std.proofs.Common.{inr, suc, ◌-◌, length}
use Rattle.std.proofs.lemmas.Result.{err_from_is_err_and}
use Rattle.certificate_files.specs.Files.{Blocks, saying_of, settled}
use Rattle.certificate_files.specs.Forms.{routed}
use Rattle.certificate_files.specs.Steps.{with_route}
use Rattle.certificate_files.proofs.StepLaws.{line_leads, route_stood, ends_in_routes}
use Rattle.certificate_files.proofs.blocks.next_route.Goals as goal

pub returns-clause-reads : goal.returns-clause-reads
returns-clause-reads c front blocks block routes =
    let first = c.in_ok-line.ensures.ok in
    let text = c.in_ok-line.line.text.now in
    let lines = c.args.lines.now in
    let at = lines.end - length lines.rest.now in
    let given = rw first.0 at c.route_line.ensures in
    rw c.in_ok-line.ensures.end
    (line_leads (λ ps. Blocks front (settled blocks (with_route block ps) 0 routes)) lines.end lines.rest.now text c.next_line.new.lines.rest.now
    (Blocks front (settled blocks block 0 (suc routes))) c.route_line.result (routed at (saying_of text)) first.1 c.in_ok-line.ensures.within (route_stood at front blocks text block routes) given)

pub returns-in_err-line-clause-reads : goal.returns-in_err-line-clause-reads
returns-in_err-line-clause-reads c front blocks block routes =
    let p = err_from_is_err_and c.from_residual.result c.from_residual.ensures.1 in
    let missing = c.in_err-line.ensures.err in
    rw (p.1, p.2, missing.0) (inr (ends_in_routes c.args.lines.now.end c.args.lines.now.rest.now front blocks block routes missing.1))
