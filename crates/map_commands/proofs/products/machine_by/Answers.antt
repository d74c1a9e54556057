use Rattle.map_commands.proofs.MiterLaws.{askable}
use Rattle.map_commands.specs.declared.given.Mapped.{Mapped}
use Rattle.map_commands.proofs.products.machine_by.Goals as goal

pub product_machine-requires : goal.product_machine-requires
product_machine-requires c =
    let mapped : Mapped = c.args.mapped.now in
    askable mapped.pair.first.circuit mapped.pair.second.circuit mapped.map.circuit c.requires.map c.requires.fitting
