use Rattle.commands.proofs.scene.scene_for.Goals as goal

pub returns-in-Ok : goal.returns-in-Ok
returns-in-Ok g c =
    let read = c.in_ok-spelt.ensures in
    record {
      spelt = c.in_ok-spelt.spelt;
      read = record { stdin = read.stdin; file = read.file };
      shown = c.in_ok-scene.ensures;
      can = c.in-Ok.ensures;
    }
