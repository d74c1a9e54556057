-- A walk back from the sink, and what it leaves.
use Rattle.std.proofs.Common.{◌≡◌, ℕ, ◌+◌, ◌<◌, ◌==◌, Bool, true, false, ◌⊎◌, inl, inr, List, [], ◌∷◌, ◌++◌, Some, None, arith, refl, ap, sym, ◌∙◌, subst}
use Rattle.std.specs.List.{AllByRecursion, IsDistinct}
use Rattle.std.proofs.lemmas.Bool.{cases_Bool, cases_lt, cases_eq, and_from, or_cases, or_parts, or_right, eqb-true, eq-eqb, and_parts, false≢true}
use Rattle.std.proofs.lemmas.Option.{none-some, same_Some}
use Rattle.aig_graph.specs.Marking.{has}
use Rattle.aig_graph.specs.Circuits.{Netlist}
use Rattle.frame_net.specs.declared.net.Point.{Point}
use Rattle.frame_net.specs.FlowNet.{FlowNet, IsFlowNet, node_count, head, point_of, capacity_between}
use Rattle.pulse_parts.specs.Parts.{pair}
use Rattle.frame_net.specs.Cuts.{IsNetworkOf}
use Rattle.certificates.specs.Routes.{begins_at, may_step, goes_on, is_route, passed}
use Rattle.certificates.proofs.RouteLaws.{passed-behind, passed-before}
use Rattle.certificates.proofs.PassedLaws.{passed-none}
use Rattle.certificates.proofs.DistinctLaws.{distinct-none}
use Rattle.cut_cert.specs.Walks.{into, Comes, lowered, IsPreflowAt, Spent, Ready, Walked}
use Rattle.cut_cert.proofs.LoweringLaws.{here-zero, here-one, spot-on, holds-step, holds-free, tail-in, pair-comes, one-less, into-less}
use Rattle.cut_cert.proofs.ArcPointLaws.{point, step-at, begin-at, end-at, end-inner, none-out-of-sink, one-node, one-arc, one-tail, no-point}

abbrev pub Distinct : List ℕ → Type 0
Distinct vars = IsDistinct (λ v w. v == w) vars

-- what isn't in a list equals none of its elements
pub none-is : (v : ℕ) (xs : List ℕ) → has xs v ≡ false → AllByRecursion (λ w. (v == w) ≡ false) xs
none-is v [] absent = tt
none-is v (x ∷ xs) absent =
    let parts = or_parts (x == v) (has xs v) absent in
    (turned, none-is v xs parts.1)
  where
    turned : (v == x) ≡ false
    turned = elim (cases_Bool (v == x)) [
      | inl same ↦ absurd (false≢true (sym (or_parts (x == v) (has xs v) absent).0 ∙ eq-eqb x v (sym (eqb-true v x same))))
      | inr other ↦ other
    ]

-- a number in front of different ones, which aren't it, is with them different
pub distinct-cons : (v : ℕ) (xs : List ℕ) → has xs v ≡ false → Distinct xs → Distinct (v ∷ xs)
unfolding IsDistinct
distinct-cons v xs absent d = (none-is v xs absent, d)

-- the rest of a route, from the node on at which the walk stands; `reached` is what came into the
-- sink before the walk
pub record Walking (c : Netlist) (held : List ℕ) (net : FlowNet) (past : List ℕ) (reached : ℕ) (xs : List ℕ) (at : ℕ) (rest : List Point) : Type 0 where
  -- no pair carries more than its capacity, and no inner node gives more than it gets, the walk's
  -- node less
  pub holds : IsPreflowAt net xs at
  -- the walk stands at a node
  pub node : at < node_count net
  -- the node isn't the sink
  pub inner : at ≡ 1 → ⊥
  -- if the node has a point, the rest of the route may follow it
  pub goes : (p : Point) → point_of net at ≡ Some p → goes_on c held p rest ≡ true
  -- at the source the rest is a route
  pub begun : at ≡ 0 → is_route c held rest ≡ true
  -- what the rest passes are different variables
  pub apart : Distinct (passed rest)
  -- none of them was passed before the walk
  pub off : (v : ℕ) → has (passed rest) v ≡ true → has past v ≡ false
  -- after what the rest passes, or was passed before, nothing comes in
  pub spent : (v : ℕ) → (has (passed rest) v ≡ true) ⊎ (has past v ≡ true) → Spent net xs v
  -- one unit less comes into the sink than before the walk
  pub count : into net xs 1 + 1 ≡ reached

module _ (c : Netlist) (held : List ℕ) (net : FlowNet) (ok : IsFlowNet net) (is : IsNetworkOf c held net) where
  two : 1 < node_count net
  two = omega (arith, ok.two)

  module _ (xs : List ℕ) (w k : ℕ) (holds : IsPreflowAt net xs w) (comes : Comes net xs w k) where
    abbrev ys : List ℕ
    ys = lowered net xs w k

    abbrev u : ℕ
    u = head net w k

    from : u < node_count net
    from = tail-in net ok xs holds.long w k comes

    some : 0 < capacity_between net u w
    some = omega (arith, pair-comes net ok xs holds.long w k comes, holds.within u w from comes.node)

    still : (v : ℕ) → Spent net xs v → Spent net ys v
    still v gone x y h l e = omega (arith, one-less net ok xs holds.long w k comes x y h, gone x y h l e)

    -- after a variable whose one unit was walked nothing comes in
    now-spent : (v : ℕ) → point_of net w ≡ Some (point v true) → Spent net ys v
    now-spent v at x y h l e =
        let same : y ≡ w = one-node c held net is y w v l comes.node e at in
        subst (λ (z : ℕ). pair net ys x z ≡ 0) (sym same) (elim (cases_lt 0 (pair net ys x w)) [
          | inr none ↦ omega (arith, none)
          | inl more ↦ (
              let less = one-less net ok xs holds.long w k comes x w h in
              let one = one-arc c held net is x w v h comes.node at in
              let there : 0 < capacity_between net x w = omega (arith, more, less, holds.within x w h comes.node) in
              let tail : x ≡ u = one-tail c held net is x u w v h from comes.node at there some in
              absurd (omega (arith, more, less, one, holds.within x w h comes.node, spot-on u w x w tail, here-one w w refl)))
        ])

    -- the first arc, into the sink
    start-at : (past : List ℕ) → w ≡ 1 → Ready net xs past → Walking c held net past (into net xs 1) ys u []
    start-at past sink ready = record {
      holds = holds-step net ok xs w k holds comes;
      node = from;
      inner = λ one. absurd (omega (arith, one, inner));
      goes = λ p e. end-at c held net is u p from two to-sink e;
      begun = λ none. absurd (omega (arith, none, inner));
      apart = subst Distinct (sym passed-none) distinct-none;
      off = λ v member. absurd (no-member v member);
      spent = λ v either. elim either [
        | inl member ↦ absurd (no-member v member)
        | inr earlier ↦ still v (ready.spent v earlier)
      ];
      count = omega (arith, into-less net ok xs holds.long w k comes 1, here-one 1 w (sym sink));
    }
      where
        to-sink : 0 < capacity_between net u 1
        to-sink = subst (λ (y : ℕ). 0 < capacity_between net u y) sink some

        inner : 1 < u
        inner = end-inner c held net is u from two to-sink

        no-member : (v : ℕ) → has (passed []) v ≡ true → ⊥
        no-member v member = false≢true (ap (λ (vs : List ℕ). has vs v) (sym passed-none) ∙ member)

    module _ (past : List ℕ) (reached : ℕ) (rest : List Point) (walking : Walking c held net past reached xs w rest) (p : Point) (at : point_of net w ≡ Some p) where
      goes-step : (q : Point) → point_of net u ≡ Some q → goes_on c held q (p ∷ rest) ≡ true
      unfolding goes_on
      goes-step q e = and_from (may_step c.aig held q p) (goes_on c held p rest) (step-at c held net is u w q p from comes.node some e at) (walking.goes p at)

      begun-step : u ≡ 0 → is_route c held (p ∷ rest) ≡ true
      begun-step none = and_from (begins_at c.aig p) (goes_on c held p rest) (begin-at c held net is w p comes.node (subst (λ (x : ℕ). 0 < capacity_between net x w) none some) at) (walking.goes p at)

      this-point : p.behind ≡ true → point_of net w ≡ Some (point p.var true)
      this-point behind = at ∙ ap (λ (b : Bool). Some (point p.var b)) behind

      -- what was passed has nothing coming in, so here is a new variable
      fresh : p.behind ≡ true → Spent net xs p.var → ⊥
      fresh behind gone = omega (arith, pair-comes net ok xs holds.long w k comes, gone u w from comes.node (this-point behind))

      not-earlier : p.behind ≡ true → has past p.var ≡ false
      not-earlier behind = elim (cases_Bool (has past p.var)) [
        | inl earlier ↦ absurd (fresh behind (walking.spent p.var (inr earlier)))
        | inr new ↦ new
      ]

      not-passed : p.behind ≡ true → has (passed rest) p.var ≡ false
      not-passed behind = elim (cases_Bool (has (passed rest) p.var)) [
        | inl member ↦ absurd (fresh behind (walking.spent p.var (inl member)))
        | inr new ↦ new
      ]

      -- what the longer rest passes
      now-passed : (v : ℕ) → has (passed (p ∷ rest)) v ≡ true → ((p.behind ≡ true) × (p.var ≡ v)) ⊎ (has (passed rest) v ≡ true)
      now-passed v member = elim (cases_Bool p.behind) [
        | inl behind ↦ elim (or_cases (p.var == v) (has (passed rest) v) (ap (λ (vs : List ℕ). has vs v) (sym (passed-behind p rest behind)) ∙ member)) [
          | inl same ↦ inl (behind, eqb-true p.var v same)
          | inr earlier ↦ inr earlier
        ]
        | inr before ↦ inr (ap (λ (vs : List ℕ). has vs v) (sym (passed-before p rest before)) ∙ member)
      ]

      apart-step : Distinct (passed (p ∷ rest))
      apart-step = elim (cases_Bool p.behind) [
        | inl behind ↦ subst Distinct (sym (passed-behind p rest behind)) (distinct-cons p.var (passed rest) (not-passed behind) walking.apart)
        | inr before ↦ subst Distinct (sym (passed-before p rest before)) walking.apart
      ]

      -- the walk goes on to the tail of an arc that carries something into the node
      pub step-on : Walking c held net past reached ys u (p ∷ rest)
      step-on = record {
        holds = holds-step net ok xs w k holds comes;
        node = from;
        inner = λ one. absurd (omega (arith, some, none-out-of-sink c held net is w two comes.node, ap (λ (x : ℕ). capacity_between net x w) one));
        goes = goes-step;
        begun = begun-step;
        apart = apart-step;
        off = λ v member. elim (now-passed v member) [
          | inl this ↦ subst (λ (x : ℕ). has past x ≡ false) this.1 (not-earlier this.0)
          | inr earlier ↦ walking.off v earlier
        ];
        spent = λ v either. elim either [
          | inl member ↦ elim (now-passed v member) [
            | inl this ↦ subst (Spent net ys) this.1 (now-spent p.var (this-point this.0))
            | inr earlier ↦ still v (walking.spent v (inl earlier))
          ]
          | inr earlier ↦ still v (walking.spent v (inr earlier))
        ];
        count = omega (arith, walking.count, into-less net ok xs holds.long w k comes 1, here-zero 1 w (λ q. walking.inner (sym q)));
      }

  -- a walk starts at the tail of an arc that carries something into the sink
  pub walking-start : (xs : List ℕ) (k : ℕ) (past : List ℕ) → Comes net xs 1 k → Ready net xs past → Walking c held net past (into net xs 1) (lowered net xs 1 k) (head net 1 k) []
  walking-start xs k past comes ready = start-at xs 1 k ready.holds comes past refl ready

  -- a step back over an arc that carries something puts the node's point in front of the rest of
  -- the route
  pub walking-step : (xs : List ℕ) (w k : ℕ) (past : List ℕ) (reached : ℕ) (rest : List Point) (p : Point) → Comes net xs w k → Walking c held net past reached xs w rest → point_of net w ≡ Some p
      → Walking c held net past reached (lowered net xs w k) (head net w k) (p ∷ rest)
  walking-step xs w k past reached rest p comes walking at = step-on xs w k walking.holds comes past reached rest walking p at

  module _ (past : List ℕ) (reached : ℕ) (xs : List ℕ) (at : ℕ) (rest : List Point) (walking : Walking c held net past reached xs at rest) where
    at-source : at ≡ 0 → Walked c held net past reached xs rest
    at-source none = record {
      holds = holds-free net xs at (omega (arith, none)) walking.holds;
      right = walking.begun none;
      apart = walking.apart;
      off = walking.off;
      spent = walking.spent;
      count = walking.count;
    }

    -- if there is no point the walk is at the source
    pub ends-at-source : point_of net at ≡ None → Walked c held net past reached xs rest
    ends-at-source e = elim (cases_eq at 0) [
      | inl none ↦ at-source none
      | inr other ↦ absurd (walking.inner (omega (arith, other, no-point c held net is at e walking.node)))
    ]

    -- elsewhere something comes in
    pub never-stuck : into net xs at ≡ 0 → Walked c held net past reached xs rest
    never-stuck nothing = elim (cases_eq at 0) [
      | inl none ↦ at-source none
      | inr other ↦ elim (cases_eq at 1) [
        | inl one ↦ absurd (walking.inner one)
        | inr more ↦ absurd (omega (arith, walking.holds.kept at (omega (arith, other, more)) walking.node, here-one at at refl, nothing))
      ]
    ]

-- ---- a loop forgotten

module _ (c : Netlist) (held : List ℕ) where
  suffix-goes : (front : List Point) (q : Point) (rest : List Point) (p : Point) → goes_on c held p (front ++ q ∷ rest) ≡ true → goes_on c held q rest ≡ true
  unfolding goes_on
  suffix-goes [] q rest p e = (and_parts (may_step c.aig held p q) (goes_on c held q rest) e).1
  suffix-goes (x ∷ front) q rest p e = suffix-goes front q rest x (and_parts (may_step c.aig held p x) (goes_on c held x (front ++ q ∷ rest)) e).1

suffix-passed : (xs later : List Point) (v : ℕ) → has (passed later) v ≡ true → has (passed (xs ++ later)) v ≡ true
suffix-passed [] later v member = member
suffix-passed (x ∷ xs) later v member = elim (cases_Bool x.behind) [
  | inl behind ↦ ap (λ (vs : List ℕ). has vs v) (passed-behind x (xs ++ later) behind) ∙ or_right (x.var == v) (has (passed (xs ++ later)) v) (suffix-passed xs later v member)
  | inr before ↦ ap (λ (vs : List ℕ). has vs v) (passed-before x (xs ++ later) before) ∙ suffix-passed xs later v member
]

tail-distinct : (v : ℕ) (vs : List ℕ) → Distinct (v ∷ vs) → Distinct vs
unfolding IsDistinct
tail-distinct v vs d = d.1

suffix-distinct : (xs later : List Point) → Distinct (passed (xs ++ later)) → Distinct (passed later)
suffix-distinct [] later d = d
suffix-distinct (x ∷ xs) later d = elim (cases_Bool x.behind) [
  | inl behind ↦ suffix-distinct xs later (tail-distinct x.var (passed (xs ++ later)) (subst Distinct (passed-behind x (xs ++ later) behind) d))
  | inr before ↦ suffix-distinct xs later (subst Distinct (passed-before x (xs ++ later) before) d)
]

-- a walk that has come back to a point goes on as it did the first time
pub walking-cut : (c : Netlist) (held : List ℕ) (net : FlowNet) (past : List ℕ) (reached : ℕ) (xs : List ℕ) (at : ℕ) (front : List Point) (q : Point) (rest : List Point) → point_of net at ≡ Some q
    → Walking c held net past reached xs at (front ++ q ∷ rest) → Walking c held net past reached xs at rest
walking-cut c held net past reached xs at front q rest here walking =
    let still : (v : ℕ) → has (passed rest) v ≡ true → has (passed (front ++ q ∷ rest)) v ≡ true = λ v member. suffix-passed front (q ∷ rest) v (suffix-passed (q ∷ []) rest v member) in
    record {
      holds = walking.holds;
      node = walking.node;
      inner = walking.inner;
      goes = λ p e. subst (λ (r : Point). goes_on c held r rest ≡ true) (same_Some q p (sym here ∙ e)) (suffix-goes c held front q rest q (walking.goes q here));
      begun = λ none. absurd (none-some q (sym (ap (point_of net) none) ∙ here));
      apart = suffix-distinct (q ∷ []) rest (suffix-distinct front (q ∷ rest) walking.apart);
      off = λ v member. walking.off v (still v member);
      spent = λ v either. elim either [
        | inl member ↦ walking.spent v (inl (still v member))
        | inr earlier ↦ walking.spent v (inr earlier)
      ];
      count = walking.count;
    }
