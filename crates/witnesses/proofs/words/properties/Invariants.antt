use Rattle.std.proofs.Common.{◌≡◌, [], length}
use Rattle.file_words.specs.Lines.{pieces}
use Rattle.witnesses.specs.Properties.{properties_of}
use Rattle.witnesses.proofs.words.properties.Given as goal

abbrev pub invariant-loop-word : goal.invariant-loop-word
invariant-loop-word l = properties_of l.widths l.line.at [] (pieces l.line.text.now) ≡ properties_of l.widths l.line.at l.properties.items (pieces l.rest)

abbrev pub decreases-loop-word : goal.decreases-loop-word
decreases-loop-word l = length l.rest
