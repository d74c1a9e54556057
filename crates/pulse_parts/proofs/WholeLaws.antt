-- A part that is cleared and then read whole.
use Rattle.std.proofs.Common.{◌≡◌, ℕ, ◌+◌, ◌-◌, List, slice_index, arith, sym, ap, ◌∙◌, subst, inl, inr}
use Rattle.std.proofs.lemmas.Bool.{cases_Bool}
use Rattle.frame_net.specs.FlowNet.{FlowNet, start}
use Rattle.pulse_parts.specs.declared.parts.PushPart.{PushPart}
use Rattle.pulse_parts.specs.Parts.{Cells, PushPartFits}
use Rattle.pulse_parts.specs.Reading.{PartCleared, RowsAreZero, WholeRead, active_below, cells_active}
use Rattle.pulse_parts.proofs.PartWalkLaws.{PartWalked, same_base}
use Rattle.pulse_parts.proofs.WalkLaws.{idle_push}

-- a part whose active nodes were walked
pub whole_walked : (net : FlowNet) (labels : List ℕ) (c : Cells) (p r : PushPart) → PushPartFits net p → PartWalked net labels c p.end p r → WholeRead net labels c p r
whole_walked net labels c p r fit w = record {
  is_read = record {
    same_worker = ap (λ (q : PushPart). q.worker) w.same;
    same_first = first_is;
    same_end = end_is;
    same_base = same_base p r w.same;
    same_size = w.active.rows.same;
    lists = record {
      within = λ h i l. (omega (arith, (w.active.within h i l).0, first_is), omega (arith, (w.active.within h i l).1, end_is));
      rest = λ h v lo hi. elim (cases_Bool (cells_active net labels c v)) [
        | inl on ↦ inl (w.active.listed h v (omega (arith, lo, first_is)) (omega (arith, hi, end_is)) on)
        | inr off ↦ inr (λ k l. ap (λ (b : ℕ). slice_index r.values.items (start net v + k - b)) (same_base p r w.same)
            ∙ (w.active.rows.done v k (omega (arith, lo, first_is)) (omega (arith, hi, end_is)) l ∙ idle_push net labels c v k off))
      ];
    };
    done = λ v k fv ve lo hi l. w.active.rows.done v k lo hi l;
    kept = λ v k out lo hi l. absurd (elim out [ inl lt ↦ omega (arith, lt) | inr ge ↦ omega (arith, ge, hi, fit.within) ]);
  };
  walked = w.active.counted;
}
  where
    first_is : r.first ≡ p.first
    first_is = ap (λ (q : PushPart). q.first) w.same

    end_is : r.end ≡ p.end
    end_is = ap (λ (q : PushPart). q.end) w.same

-- a cleared part is one of the network
pub cleared_fits : (net : FlowNet) (p r : PushPart) → PushPartFits net p → PartCleared net p r → PushPartFits net r
cleared_fits net p r fit cl = record {
  ordered = omega (arith, cl.same_first, cl.same_end, fit.ordered);
  within = omega (arith, cl.same_end, fit.within);
  based = cl.same_base ∙ (fit.based ∙ ap (λ (x : ℕ). start net x) (sym cl.same_first));
  sized = omega (arith, cl.same_size, fit.sized, ap (λ (x : ℕ). start net x) cl.same_first, ap (λ (x : ℕ). start net x) cl.same_end);
  lists = cl.lists;
}

-- all rows of a cleared part are 0s
pub zero_lists : (net : FlowNet) (p r : PushPart) → PushPartFits net p → PartCleared net p r → RowsAreZero net r.base r.first r.end r.values.items
zero_lists net p r fit cl = λ v k lo hi l.
    subst (λ (b : ℕ). slice_index r.values.items (start net v + k - b) ≡ 0) (sym cl.same_base) (cl.zero v k (omega (arith, lo, cl.same_first)) (omega (arith, hi, cl.same_end)) l)

-- a part that is cleared and then read whole was read whole
pub whole_after : (net : FlowNet) (labels : List ℕ) (c : Cells) (p q r : PushPart) → PushPartFits net p → PartCleared net p q → WholeRead net labels c q r → WholeRead net labels c p r
whole_after net labels c p q r fit cl w = record {
  is_read = record {
    same_worker = w.is_read.same_worker ∙ cl.same_worker;
    same_first = w.is_read.same_first ∙ cl.same_first;
    same_end = w.is_read.same_end ∙ cl.same_end;
    same_base = w.is_read.same_base ∙ cl.same_base;
    same_size = w.is_read.same_size ∙ cl.same_size;
    lists = w.is_read.lists;
    done = λ v k fv ve lo hi l. ap (λ (b : ℕ). slice_index r.values.items (start net v + k - b)) (sym cl.same_base)
        ∙ w.is_read.done v k fv ve (omega (arith, lo, cl.same_first)) (omega (arith, hi, cl.same_end)) l;
    kept = λ v k out lo hi l. absurd (elim out [ inl lt ↦ omega (arith, lt) | inr ge ↦ omega (arith, ge, hi, fit.within) ]);
  };
  walked = ap (λ (x : ℕ). r.walked + active_below net labels c x) (sym cl.same_first) ∙ (w.walked ∙ ap (λ (x : ℕ). active_below net labels c x) cl.same_end);
}
