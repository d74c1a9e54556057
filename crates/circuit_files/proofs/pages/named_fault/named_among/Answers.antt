use Rattle.std.proofs.Common.{ℕ, ◌≡◌, inl, inr, false, get_or, arith, sym, subst, ◌∙◌}
use Rattle.std.proofs.lemmas.Bool.{cases_lt}
use Rattle.circuit_files.specs.declared.pages.named_fault.Fault.TheVariants.{BadHeader}
use Rattle.circuit_files.specs.pages.Faults.{has_name}
use Rattle.circuit_files.proofs.pages.named_fault.named_among.Goals as goal

pub loop-fault-preserved : goal.loop-fault-preserved
loop-fault-preserved c = λ k h.
    elim (cases_lt k c.loop-fault.fault-index) [
      | inl low ↦ c.loop-fault.invariant k low
      | inr high ↦ (let same : c.loop-fault.fault-index ≡ k = omega arith in
          subst (λ (i : ℕ). has_name c.args.name.now (get_or c.args.faults.now i BadHeader) ≡ false) same (sym c.has_name.ensures ∙ c.if-has_name.false))
    ]
