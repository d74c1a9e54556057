use Rattle.std.proofs.Common.{arith, ◌+◌}
use Rattle.ascii_file.specs.Raw.{defined}
use Rattle.aag_text.specs.Taking.{raw_of}
use Rattle.aag_text.proofs.PlaceLaws.{places-added, defined-length}
use Rattle.aag_text.proofs.sections.Sections.add_variable.Goals as goal

pub returns-clause-places : goal.returns-clause-places
returns-clause-places c =
    λ symbols stands.
    let all = defined-length (raw_of c.args.self.now symbols) in
    places-added _ c.args.self.now.places c.insert.new.self (defined (raw_of c.args.self.now symbols)) c.args.variable (c.len.result + c.len-2.result + c.len-3.result) stands.places c.requires (omega (arith, all)) c.insert.ensures.ok
