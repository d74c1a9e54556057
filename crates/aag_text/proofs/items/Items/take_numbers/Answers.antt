use Rattle.std.proofs.Common.{◌≡◌, Bool, ◌&&◌, List, ℕ, Option, Some, None, MatchOption, ap, subst}
use Rattle.ascii_file.specs.Items.{begins_comment}
use Rattle.aag_text.proofs.TakingLaws.{line_taken}
use Rattle.aag_text.proofs.items.Items.take_numbers.Goals as goal

pub returns : goal.returns
returns c symbols bytes stands incomplete numbers =
    let m = c.args.self.now.sections in
    line_taken m symbols c.args.self.now.at bytes (ap (λ (b : Bool). b && begins_comment bytes) incomplete)
    c.take_numbers.new.self c.line_of.result c.section.result
    (c.in_ok-take_numbers.ensures symbols bytes stands incomplete (subst (λ (o : Option (List ℕ)). MatchOption c.numbers.result (o ≡ None) (λ ns. o ≡ Some ns.now)) numbers c.numbers.ensures))
    c.line_of.ensures.opens c.line_of.ensures.item c.section.ensures
