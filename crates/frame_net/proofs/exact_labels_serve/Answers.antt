use Rattle.frame_net.proofs.exact_labels_serve.Goals as goal
use Rattle.frame_net.proofs.ExactLabelLaws.{exact-rises, exact-valid, exact-potential}

pub returns : goal.returns
returns c = λ n s d big ok e. (exact-valid n s d big ok e, exact-rises n s d ok e, exact-potential n s d ok e)
