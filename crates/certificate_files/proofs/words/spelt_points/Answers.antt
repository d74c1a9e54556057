use Rattle.std.proofs.Common.{[], List, ℕ, Ok, sym, ap, ◌∙◌, append-nil}
use Rattle.std.proofs.lemmas.Result.{err_from_is_err_and}
use Rattle.file_words.specs.Lines.{pieces}
use Rattle.frame_net.specs.declared.net.Point.{Point}
use Rattle.certificate_files.specs.Forms.{onto, spelt_at}
use Rattle.file_words.proofs.AnsweringLaws.{Fails-same}
use Rattle.file_words.proofs.DecimalLaws.{pieces-at_end}
use Rattle.certificate_files.proofs.WordLaws.{pieces_cut}
use Rattle.certificate_files.proofs.words.spelt_points.Goals as goal

pub returns-in_err-push_point : goal.returns-in_err-push_point
returns-in_err-push_point c =
    let p = err_from_is_err_and c.from_residual.result c.from_residual.ensures.1 in
    let same = ap (λ (ws : List (List ℕ)). onto c.loop-word.points.items (spelt_at c.args.at ws)) (sym (pieces_cut _ _ _ c.in-Some.ensures)) ∙ c.loop-word.invariant in
    rw (p.1, p.2) (Fails-same _ _ _ same (c.in_err-push_point.ensures (pieces c.in-Some.more.now)))

pub loop-word-preserved : goal.loop-word-preserved
loop-word-preserved c =
    sym (c.in_ok-push_point.ensures (pieces c.in-Some.more.now))
    ∙ ap (λ (ws : List (List ℕ)). onto c.loop-word.points.items (spelt_at c.args.at ws)) (sym (pieces_cut _ _ _ c.in-Some.ensures)) ∙ c.loop-word.invariant

pub returns-in_err-push_point-2 : goal.returns-in_err-push_point-2
returns-in_err-push_point-2 c =
    let p = err_from_is_err_and c.from_residual-in_err-push_point-2.result c.from_residual-in_err-push_point-2.ensures.1 in
    let same = ap (λ (ws : List (List ℕ)). onto c.loop-word.points.items (spelt_at c.args.at ws)) (sym (pieces-at_end _ c.in_default.ensures)) ∙ c.loop-word.invariant in
    rw (p.1, p.2) (Fails-same _ _ _ same (c.in_err-push_point-2.ensures []))

pub returns : goal.returns
returns c =
    sym c.loop-word.invariant ∙ ap (λ (ws : List (List ℕ)). onto c.loop-word.points.items (spelt_at c.args.at ws)) (pieces-at_end _ c.in_default.ensures)
    ∙ c.in_ok-push_point-2.ensures [] ∙ ap (λ (ps : List Point). Ok ps) (append-nil c.push_point-2.new.points.items)
