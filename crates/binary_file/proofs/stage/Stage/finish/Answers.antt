use Rattle.std.proofs.Common.{ℕ, ap, subst, ◌∙◌}
use Rattle.binary_file.specs.declared.stage.Stage.{Stage}
use Rattle.binary_file.specs.Standing.{Stands, circuit_at}
use Rattle.binary_file.specs.Stages.{HoldsStage, HoldsHeader, HoldsItems, failure}
use Rattle.binary_file.proofs.FinishLaws.{gives_same}
use Rattle.binary_file.proofs.HoldLaws.{read_at, read_failed}
use Rattle.binary_file.proofs.stage.Stage.finish.Goals as goal

pub returns-in-Header-clause-circuit : goal.returns-in-Header-clause-circuit
returns-in-Header-clause-circuit c bytes holds place =
    let is : HoldsHeader c.in-Header.line bytes = subst (λ (s : Stage). HoldsStage s bytes) c.in-Header.is holds in
    c.finish_header.ensures bytes is (place (ap failure c.in-Header.is))

pub returns-in-Items-clause-circuit : goal.returns-in-Items-clause-circuit
returns-in-Items-clause-circuit c bytes holds place =
    let is : HoldsItems c.in-Items.items bytes = subst (λ (s : Stage). HoldsStage s bytes) c.in-Items.is holds in
    let end = place (ap failure c.in-Items.is) in
    gives_same _ _ _ (read_at bytes is.state is.reading ∙ ap (λ (n : ℕ). circuit_at n is.state) end) (c.finish.ensures is.state (subst (λ (n : ℕ). Stands c.in-Items.items n is.state) end is.stands))

pub returns-in-Failed-clause-circuit : goal.returns-in-Failed-clause-circuit
returns-in-Failed-clause-circuit c bytes holds place = read_failed c.in-Failed.fault bytes (subst (λ (s : Stage). HoldsStage s bytes) c.in-Failed.is holds)
