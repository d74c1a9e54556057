use Rattle.std.proofs.Common.{inr, sym, ap, ◌∙◌}
use Rattle.std.proofs.lemmas.Result.{err_from_is_err_and}
use Rattle.file_words.specs.Lines.{pieces}
use Rattle.certificate_files.specs.Forms.{routed}
use Rattle.file_words.proofs.AnsweringLaws.{Fails-where, Gives-exact}
use Rattle.certificate_files.proofs.FormLaws.{routed_other, saying-route}
use Rattle.certificate_files.proofs.WordLaws.{routed_points, routed_fault}
use Rattle.certificate_files.proofs.words.route_line.Goals as goal

pub returns-in_default : goal.returns-in_default
returns-in_default c = inr (routed_other _ _ c.in_default.ensures)

pub returns-in_err-points : goal.returns-in_err-points
returns-in_err-points c =
    let p = err_from_is_err_and c.from_residual.result c.from_residual.ensures.1 in
    let at = c.args.line.now.at in
    rw (p.1, p.2) (Fails-where _ _ _ (λ is. ap (routed at) (saying-route _ _ c.in-Some.ensures) ∙ routed_fault at (pieces c.in-Some.words.now) _ is) c.in_err-points.ensures)

pub returns : goal.returns
returns c =
    let at = c.args.line.now.at in
    Gives-exact _ _ _ (ap (routed at) (saying-route _ _ c.in-Some.ensures) ∙ routed_points at (pieces c.in-Some.words.now) _ c.in_ok-points.ensures ∙ sym c.sized.ensures)
