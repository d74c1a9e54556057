use Rattle.std.proofs.Common.{ℕ, ◌≡◌, ◌-◌, ◌*◌, ◌∙◌, sym, ap, arith, length, take, drop, min}
use Rattle.std.proofs.lemmas.List.{length-drop, length-take, take_min}
use Rattle.std.proofs.Math.Seq.{take-length}
use Rattle.reports.proofs.waves.times.block_at.Goals as goal

pub returns : goal.returns
returns c =
    let rest = drop (256 * c.args.block) c.args.sequences.now in
    let whole : take (length c.args.sequences.now - 256 * c.args.block) rest ≡ rest = ap (λ (n : ℕ). take n rest) (sym (length-drop (256 * c.args.block) c.args.sequences.now)) ∙ take-length rest in
    record {
      value = rw whole (ap (λ (n : ℕ). take n rest) (c.min.ensures ∙ ap (λ xs. min 256 (length xs)) whole) ∙ take_min 256 rest);
      lanes = omega (arith, length-take c.min.result (take (length c.args.sequences.now - 256 * c.args.block) rest), c.min.ensures);
    }
