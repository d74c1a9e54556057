use Rattle.pictures.specs.Labels.{label}
use Rattle.pictures.proofs.label.put_label.Goals as goal

pub returns : goal.returns
unfolding label
returns g c = rw c.is_utf8.ensures at c.put_label_bytes.ensures
