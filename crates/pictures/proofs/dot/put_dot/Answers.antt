use Rattle.counted_io.proofs.BufferedLaws.{puts-then}
use Rattle.pictures.specs.Pictures.{dot_text}
use Rattle.pictures.proofs.dot.put_dot.Goals as goal

pub returns : goal.returns
unfolding dot_text
returns g c =
    rw (c.aig.ensures.value, c.props.ensures.value) at
    (puts-then c.put.ensures (puts-then c.put_legend.ensures (puts-then c.put_graph.ensures (puts-then c.put_properties.ensures
    (puts-then c.put_centre.ensures (puts-then c.put_names.ensures c.put-2.ensures))))))
