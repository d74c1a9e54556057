use Rattle.std.proofs.lemmas.Option.{slice_get_within}
use Rattle.clean.proofs.trim.Trim.keeps_free.Goals as goal

pub keeps_latch-requires : goal.keeps_latch-requires
keeps_latch-requires c = slice_get_within c.args.self.now.aig.now.latches c.args.place c.args.latch c.requires
