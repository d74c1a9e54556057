use Rattle.ascii_file.proofs.PartLaws.{below_where_keys}
use Rattle.ascii_file.proofs.parts.kind_names.KindNames.are_below.Goals as goal

pub returns : goal.returns
returns c = below_where_keys c.are_keys_below.result c.args.count c.self.inside.names.entries c.args.self.now c.self.view_is c.are_keys_below.ensures.below c.are_keys_below.ensures.ordered
