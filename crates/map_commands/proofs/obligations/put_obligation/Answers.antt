use Rattle.std.proofs.Common.{ℕ, ◌∙◌, List, subst}
use Rattle.std.specs.Prelude.{codes, decimal}
use Rattle.counted_io.specs.Buffered.{Puts}
use Rattle.counted_io.proofs.BufferedLaws.{puts-then}
use Rattle.map_commands.specs.Obligations.{obligation_text, kind_of_obligation, place_of_obligation, question_of}
use Rattle.map_commands.proofs.obligations.put_obligation.Goals as goal

pub returns : goal.returns
unfolding obligation_text
returns g c =
    let A : List ℕ → Type 0 = λ xs. Puts g.W.CountedWrite.output c.put.new.self c.put-2.new.self xs in
    let question : A (question_of c.args.obligation) = subst A (c.as_bytes.ensures.value ∙ c.question_of.ensures) c.put-2.ensures in
    let B : List ℕ → Type 0 = λ xs. Puts g.W.CountedWrite.output c.put-3.new.self c.put-4.new.self xs in
    let kind : B (kind_of_obligation c.args.obligation) = subst B (c.as_bytes-2.ensures.value ∙ c.kind_of_obligation.ensures) c.put-4.ensures in
    let C : ℕ → Type 0 = λ n. Puts g.W.CountedWrite.output c.put-5.new.self c.put_number.new.self (decimal n) in
    let place : C (place_of_obligation c.args.obligation) = subst C c.place_of_obligation.ensures c.put_number.ensures in
    puts-then {xs = codes "not shown: "} c.put.ensures (puts-then question (puts-then {xs = codes " "} c.put-3.ensures
    (puts-then kind (puts-then {xs = codes " "} c.put-5.ensures (puts-then place c.put_byte.ensures)))))
