-- Each step keeps the rule of the counter.
use Rattle.std.proofs.Common.{◌≡◌, ℕ, suc, ◌+◌, ◌-◌, ◌%◌, ◌^◌, ◌<◌, ◌≤◌, List, [], ◌∷◌, ◌++◌, set, get_or, refl, sym, ap, ◌∙◌, subst, arith, length-set, get_or-set_same, ⊎_elim}
use mathlib.Core.Option.{none, some}
use lib.ListN.{get_elem?}
use Rattle.atomic_table.specs.Table.{State, Me, step, keeps, stepped, Allows, Splits, Joins}
use Rattle.atomic_table.proofs.Lists.{at_set, at_snoc, set_again}
use Rattle.batch_pool.specs.declared.rule.Hand.{Hand}
use Rattle.batch_pool.specs.declared.rule.Plan.{Plan}
use Rattle.batch_pool.specs.Rule.{hand, weigh, weigh_below, total, is_past, past, Fits, IsGiven, Drew, Tallied, dealt, one_drawer, together}
use Rattle.batch_pool.proofs.WeightLaws.{weigh_append, weigh_snoc, total_set, total_snoc, total_le, total_has, total_only, is_past_le, past_below}

abbrev St : Type 0
St = State (Unit {0}) Hand

abbrev parts : Hand → ℕ
parts v = v.parts

-- the word is at most the jobs and the drawers
pub word_bound : (p : Plan) (s : St) → IsGiven p s → get_or s.words 0 0 ≤ p.jobs + p.drawers
word_bound p s r =
    let le = total_le (λ v. past p.jobs v.drawn) parts s.views (λ i v e. (r.each i v e).0) in
    let is = r.drawn (is_past p.jobs) ∙ past_below p.jobs (get_or s.words 0 0) in
    omega (arith, le, is, r.shares)

fits_set : (jobs : ℕ) (views : List Hand) (id : ℕ) (w : Hand) → ((j : ℕ) (u : Hand) → get_elem? views j ≡ some u → Fits jobs u) → Fits jobs w
    → (j : ℕ) (u : Hand) → get_elem? (set views id w) j ≡ some u → Fits jobs u
fits_set jobs views id w each mine j u e = ⊎_elim (λ t. subst (Fits jobs) t.1 mine) (λ t. each j u t.1) (at_set views id j w u e)

fits_snoc : (jobs : ℕ) (views : List Hand) (w : Hand) → ((j : ℕ) (u : Hand) → get_elem? views j ≡ some u → Fits jobs u) → Fits jobs w
    → (j : ℕ) (u : Hand) → get_elem? (views ++ w ∷ []) j ≡ some u → Fits jobs u
fits_snoc jobs views w each mine j u e = ⊎_elim (λ was. each j u was) (λ same. subst (Fits jobs) same mine) (at_snoc views w u j e)

-- a draw keeps the rule, for a seat with fewer numbers past the jobs than the drawers that it
-- stands for
pub draws : (p : Plan) (slots id : ℕ) (me : Me (Unit {0}) Hand) → p.jobs + p.drawers < 2 ^ 63 → past p.jobs me.0.drawn + 1 ≤ me.0.parts
    → Allows (IsGiven p) slots id me 0 (λ n. (n + 1) % 2 ^ 64) (Drew (step slots 0 1 0 none) me)
draws p slots id me few room s r _ at _ =
    let n : ℕ = get_or s.words 0 0 in
    let w : Hand = hand me.0.parts (me.0.drawn ++ n ∷ []) in
    let le = word_bound p s r in
    let next : (n + 1) % 2 ^ 64 ≡ n + 1 = omega (arith, le, few) in
    let wide = r.one_word in (
      w,
      keeps,
      tt,
      subst (λ (k : ℕ). IsGiven p (stepped s 0 k id me.1 w keeps)) (sym next) record {
        one_word = length-set s.words 0 (n + 1) ∙ wide;
        shares = (let t = total_set parts s.views id me.0 w at in omega (arith, t, r.shares));
        drawn = λ h. (let t = total_set (λ v. weigh h v.drawn) s.views id me.0 w at in
            let a = weigh_snoc h me.0.drawn n in
            let d = r.drawn h in
            let word = ap (weigh_below h) (get_or-set_same s.words 0 (n + 1) 0 (omega (arith, wide))) in
            let more : weigh_below h (n + 1) ≡ weigh_below h n + h n = ap (weigh_below h) (let e : n + 1 ≡ suc n = omega arith in e) in
            omega (arith, t, a, d, more) ∙ sym word);
        each = fits_set p.jobs s.views id w r.each (
          (let a = weigh_snoc (is_past p.jobs) me.0.drawn n in let one = is_past_le p.jobs n in omega (arith, a, one, room)),
          (λ none_left. absurd (omega (arith, room, none_left))),
        );
      },
      (refl, refl, (let f : Hand → ℕ = λ v. past n v.drawn in let has = total_has f s.views id me.0 at in let d = r.drawn (is_past n) ∙ past_below n n in omega (arith, has, d))),
    )

-- a seat that has drawn nothing may give the share of one drawer to a new seat
pub deals : (p : Plan) (id : ℕ) (v : Hand) → 1 ≤ v.parts → v.drawn ≡ [] → Splits (IsGiven p) id v (dealt v) (one_drawer v)
deals p id v some_left none_drawn s r at =
    let l : Hand = dealt v in let w : Hand = one_drawer v in
    record {
      one_word = r.one_word;
      shares = (let t = total_set parts s.views id v l at in let u = total_snoc parts (set s.views id l) w in omega (arith, t, u, r.shares, some_left));
      drawn = λ h. (let f : Hand → ℕ = λ v. weigh h v.drawn in let t = total_set f s.views id v l at in let u = total_snoc f (set s.views id l) w in omega (arith, t, u) ∙ r.drawn h);
      each = fits_snoc p.jobs (set s.views id l) w (fits_set p.jobs s.views id l r.each (subst (λ (xs : List ℕ). Fits p.jobs (hand (v.parts - 1) xs)) (sym none_drawn) (omega arith, λ _. refl))) (omega arith, λ _. refl);
    }

-- a seat may take the share and the numbers of another one over
pub collects : (p : Plan) (id : ℕ) (v : Hand) (other : ℕ) (w : Hand) → Joins (IsGiven p) id v other w (together v w) (hand 0 [])
collects p id v other w s r at apart there =
    let b : Hand = together v w in
    let z : Hand = hand 0 [] in
    let views : List Hand = set s.views id b in
    let was : get_elem? s.views other ≡ some w = ⊎_elim (λ t. absurd (apart t.0)) (λ t. t.1) (at_set s.views id other b w there) in
    let fv = r.each id v at in let fw = r.each other w was in
    record {
      one_word = r.one_word;
      shares = (let t = total_set parts s.views id v b at in let u = total_set parts views other w z there in omega (arith, t, u, r.shares));
      drawn = λ h. (let f : Hand → ℕ = λ v. weigh h v.drawn in let t = total_set f s.views id v b at in let u = total_set f views other w z there in
          let a = weigh_append h v.drawn w.drawn in omega (arith, t, u, a) ∙ r.drawn h);
      each = fits_set p.jobs views other z (fits_set p.jobs s.views id b r.each (
        (let a = weigh_append (is_past p.jobs) v.drawn w.drawn in omega (arith, a, fv.0, fw.0)),
        (λ none_left. ap (λ (xs : List ℕ). xs ++ w.drawn) (fv.1 (omega (arith, none_left))) ∙ fw.1 (omega (arith, none_left))),
      )) (omega arith, λ _. refl);
    }

-- a seat that stands for all drawers holds, by weight, the numbers below the word that it reads
pub tallies : (p : Plan) (slots id : ℕ) (me : Me (Unit {0}) Hand) → me.0.parts ≡ p.drawers → Allows (IsGiven p) slots id me 0 (λ n. n) (Tallied (step slots 0 0 0 none) me)
tallies p slots id me all s r _ at _ =
    let n : ℕ = get_or s.words 0 0 in (
      me.0,
      keeps,
      tt,
      record {
        one_word = length-set s.words 0 n ∙ r.one_word;
        shares = ap (total parts) (set_again s.views id me.0 at) ∙ r.shares;
        drawn = λ h. ap (total (λ v. weigh h v.drawn)) (set_again s.views id me.0 at) ∙ (r.drawn h ∙ sym (ap (weigh_below h) (get_or-set_same s.words 0 n 0 (omega (arith, r.one_word)))));
        each = λ j u e. r.each j u (subst (λ (l : List Hand). get_elem? l j ≡ some u) (set_again s.views id me.0 at) e);
      },
      λ h. sym (total_only (λ v. weigh h v.drawn) parts s.views id me.0 (λ j w e none. ap (weigh h) ((r.each j w e).1 none)) at (r.shares ∙ sym all)) ∙ r.drawn h,
    )
