use Rattle.map_commands.proofs.ProductLaws.{prints-product}
use Rattle.map_commands.proofs.products.write_product.Goals as goal

pub returns-in-Ok-clause-product : goal.returns-in-Ok-clause-product
returns-in-Ok-clause-product g c =
    prints-product _ (g.O.CountedWrite.output c.args.out.now) (g.O.CountedWrite.output c.write_shown-written.new.out) c.args.certificate c.args.task.now c.in_ok-mapped.mapped c.in-Ok.shown c.unwrap_or-spelling.result
    c.write_shown-written.result c.in_ok-mapped.ensures c.in-Ok.ensures.made c.unwrap_or-spelling.ensures c.write_shown-written.ensures.written
