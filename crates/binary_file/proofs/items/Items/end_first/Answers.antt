use Rattle.std.proofs.Common.{ℕ, List, length, Ok, refl, ap, sym, arith, ◌∙◌}
use Rattle.binary_file.specs.Reading.{InSecond}
use Rattle.binary_file.proofs.DeltaReadingLaws.{first_done, first_failed, first_falls}
use Rattle.binary_file.proofs.items.Items.end_first.Goals as goal

pub returns-in-Err : goal.returns-in-Err
returns-in-Err c h raw delta is here value place = first_failed h raw c.args.self.now.at c.args.after c.args.number delta value place c.in-Err.fault (c.in-Err.ensures h raw is)

pub returns : goal.returns
returns c h raw delta is here value place = (
  InSecond h raw c.args.after c.in-Ok.rhs0 c.new.result,
  first_done h raw c.args.self.now.at c.args.after c.args.number delta value place c.in-Ok.rhs0 (c.in-Ok.ensures h raw is) ∙ ap (λ (d : List ℕ). Ok (InSecond h raw c.args.after c.in-Ok.rhs0 d)) (sym c.new.ensures),
  record {
    h = h;
    raw = raw;
    is = refl;
    contents = is;
    section = here;
    falls = first_falls h raw c.args.self.now.at c.args.number c.in-Ok.rhs0 (c.in-Ok.ensures h raw is);
    place = omega (arith, ap length c.new.ensures);
  },
)
