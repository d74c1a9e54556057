use Rattle.std.proofs.Common.{◌∙◌, ap, ap₂, subst, sym}
use Rattle.aig_graph.specs.Circuits.{Netlist}
use Rattle.lane_sim.specs.Traces.{trace}
use Rattle.reports.specs.waves.Dumps.{waves_text}
use Rattle.reports.specs.waves.Moments.{IsWaveRoomFor}
use Rattle.simulation_commands.proofs.dumping.put_dump.Goals as goal

pub write_waves-requires : goal.write_waves-requires
write_waves-requires g c =
    let given = c.args.given.now in
    let shown = c.requires.shown in
    subst (λ (circuit : Netlist). IsWaveRoomFor circuit given.stimulus c.args.waves.now.shown.room) (sym shown.circuit) shown.room

pub returns : goal.returns
returns g c =
    let given = c.args.given.now in
    let names = c.as_slice.ensures ∙ c.requires.names in
    let values = ap (λ (circuit : Netlist). trace circuit given.stimulus) c.requires.shown.circuit in
    rw (ap₂ waves_text names values) at c.write_waves.ensures
