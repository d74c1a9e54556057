use Rattle.std.proofs.Common.{ap, subst}
use Rattle.binary_file.specs.declared.stage.Stage.{Stage}
use Rattle.binary_file.specs.Stages.{HoldsStage, HoldsItems, HoldsHeader, failure}
use Rattle.binary_file.proofs.HoldLaws.{fault_stays}
use Rattle.binary_file.proofs.stage.Stage.feed.Goals as goal

pub returns-in-Header-clause-held : goal.returns-in-Header-clause-held
returns-in-Header-clause-held c bytes holds place =
    let is : HoldsHeader c.in-Header.line bytes = subst (λ (s : Stage). HoldsStage s bytes) c.in-Header.is holds in
    c.feed_header.ensures bytes is (place (ap failure c.in-Header.is))

pub returns-in-Items-clause-held : goal.returns-in-Items-clause-held
returns-in-Items-clause-held c bytes holds place =
    let is : HoldsItems c.in-Items.items bytes = subst (λ (s : Stage). HoldsStage s bytes) c.in-Items.is holds in
    c.feed_items.ensures bytes is.state is.reading is.stands (place (ap failure c.in-Items.is))

pub returns-in-Failed-clause-held : goal.returns-in-Failed-clause-held
returns-in-Failed-clause-held c bytes holds place = fault_stays c.in-Failed.fault bytes c.args.piece.now (subst (λ (s : Stage). HoldsStage s bytes) c.in-Failed.is holds)
