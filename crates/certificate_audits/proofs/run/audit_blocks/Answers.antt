use Rattle.std.proofs.Common.{ℕ, List, ◌<◌, length, sym, subst}
use Rattle.std.specs.List.{All}
use Rattle.aig_graph.specs.Keep.{names_of}
use Rattle.aig_graph.proofs.HoldingLaws.{held-below}
use Rattle.certificate_audits.specs.Audits.{IsAudit}
use Rattle.certificate_audits.proofs.run.audit_blocks.Goals as goal

pub audit_held-requires : goal.audit_held-requires
audit_held-requires c =
    subst (λ (js : List ℕ). All (λ (j : ℕ). j < length c.args.circuit.now.aig.latches) js) (sym c.in_ok-keep.ensures.ok) (held-below (names_of c.args.names.now) c.args.circuit.now c.known.ensures.netlist)

pub returns-in-Ok-clause-audit : goal.returns-in-Ok-clause-audit
returns-in-Ok-clause-audit c =
    subst (λ (held : List ℕ). IsAudit c.args.bound held c.args.circuit.now c.args.blocks.now c.in-Ok.audit) c.in_ok-keep.ensures.ok c.in-Ok.ensures
