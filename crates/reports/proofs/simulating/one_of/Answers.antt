use Rattle.std.proofs.Common.{ℕ, ◌≡◌, ◌+◌, ◌-◌, ◌∙◌, [], ap, arith, get_or, drop}
use Rattle.std.proofs.lemmas.List.{length-drop, length-take}
use Rattle.std.proofs.lemmas.Simd.{get_or-chunk}
use Rattle.lane_sim.specs.declared.stimulus.InputSequence.{InputSequence}
use Rattle.reports.proofs.simulating.one_of.Goals as goal

pub returns : goal.returns
returns c =
    let k = c.args.k in
    let sequences = c.args.sequences.now in
    let empty : InputSequence = record { choice = []; steps = [] } in
    let many : k + 1 - k ≡ 1 = omega arith in
    let place : k + 0 ≡ k = omega arith in
    rw many (record {
      one = omega (arith, length-take 1 (drop k sequences), length-drop k sequences, c.requires);
      value = get_or-chunk k 1 sequences 0 empty (omega arith) ∙ ap (λ (n : ℕ). get_or sequences n empty) place;
    })
