use Rattle.aag_text.proofs.CountLaws.{counted}
use Rattle.aag_text.specs.Taking.{raw_of}
use Rattle.aag_text.proofs.circuit.resolve.Goals as goal

pub returns : goal.returns
returns c symbols stands complete =
    let m = c.args.sections in
    c.resolve.ensures symbols (record {
      counted = counted m.header (raw_of m symbols) stands.read.filling complete;
      apart = stands.read.apart;
      names_apart = stands.read.names;
      names = stands.names;
      places = stands.places;
    })
