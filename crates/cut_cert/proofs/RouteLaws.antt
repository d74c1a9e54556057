-- Walk after walk.
use Rattle.std.proofs.Common.{◌≡◌, ℕ, ◌+◌, ◌<◌, ◌≤◌, ◌==◌, ◌||◌, inl, inr, Bool, true, false, All, List, [], ◌∷◌, ◌++◌, length, replicate, take, drop, append_assoc, slice_index, Some, arith, refl, ap, sym, ◌∙◌, subst}
use Rattle.std.specs.List.{AllByRecursion, IsDistinct}
use Rattle.std.proofs.lemmas.Bool.{cases_Bool, cases_lt, cases_eq, eq-eqb, ne_eqb, or_cases, or_parts, false≢true}
use Rattle.std.proofs.lemmas.Option.{none-some}
use Rattle.std.proofs.lemmas.List.{append-nil, drop_all, length_push, length-replicate, get_or-replicate}
use Rattle.std.proofs.Math.Seq.{take-length}
use Rattle.std.proofs.lemmas.List.Elements.{All-push}
use Rattle.std.proofs.lemmas.List.Folds.{list_any-append}
use Rattle.aig_graph.specs.Marking.{has}
use Rattle.aig_graph.specs.Circuits.{Netlist}
use Rattle.frame_net.specs.declared.net.Point.{Point}
use Rattle.frame_net.specs.FlowNet.{FlowNet, IsFlowNet, node_count, row_len, head, mate, point_of}
use Rattle.frame_net.specs.Cuts.{IsNetworkOf}
use Rattle.pulse.specs.Values.{RunEnd}
use Rattle.pulse.specs.Conditions.{IsMaxPreflow}
use Rattle.certificates.specs.Routes.{is_route, passed, all_passed}
use Rattle.certificates.specs.Verdicts.{AreRoutes, AreApart}
use Rattle.certificates.proofs.PassedLaws.{all-none}
use Rattle.certificates.proofs.DistinctLaws.{distinct-none}
use Rattle.cut_cert.specs.Shown.{HasNoPointTwice, AreLeastRoutes}
use Rattle.cut_cert.specs.Walks.{AreArcFlows, Comes, NoneComes, lowered, into, total_outflow, Ready, StepsBack, Stays, Walked, WalkedBack, AreOn, AreSearched, ComesTo, points_of}
use Rattle.cut_cert.proofs.LoweringLaws.{tail-in, total-less, long-after, none-more}
use Rattle.cut_cert.proofs.WalkLaws.{Distinct, none-is, Walking, walking-start, walking-step, walking-cut, ends-at-source, never-stuck}
use Rattle.cut_cert.proofs.ArcPointLaws.{no-point}
use Rattle.cut_cert.proofs.TrailLaws.{marked-in, suffix-absent, in-front, points-cons, points-append, point-cases, once-each}
use Rattle.cut_cert.proofs.FlowValueLaws.{least-count, holds-first, reached-is, nothing-comes}

-- ---- one walk

-- so far a walk has come to a node; `marks` are of the nodes that it has left
pub record SoFar (net : FlowNet) (first xs : List ℕ) (n : ℕ) (marks : List Bool) (at : ℕ) (trail : List ℕ) : Type 0 where
  -- there is a value for each arc
  pub long : length xs ≡ length net.heads
  -- the walk stands at a node
  pub node : at < node_count net
  -- less is carried than before the walk
  pub less : total_outflow net xs < total_outflow net first
  -- no arc carries more than before the walk
  pub none_more : (arc : ℕ) → slice_index xs arc ≤ slice_index first arc
  -- the marks are those of the nodes that it has left
  pub on : AreOn n marks trail
  -- it doesn't stand at one of these
  pub off : has trail at ≡ false
  -- the source isn't one of these
  pub zero_off : has trail 0 ≡ false
  -- in each circuit with this network, the nodes left are the rest of a route from where it stands
  pub walking : (c : Netlist) (held past : List ℕ) → IsNetworkOf c held net → Ready net first past → Walking c held net past (into net first 1) xs at (points_of net trail)

module _ (net : FlowNet) (ok : IsFlowNet net) where
  -- a walk begins at the tail of an arc that carries something into the sink
  pub begins : (xs new : List ℕ) (n : ℕ) (marks : List Bool) (end at : ℕ) → length xs ≡ length net.heads → Comes net xs 1 end → new ≡ lowered net xs 1 end → at ≡ head net 1 end → AreOn n marks [] → SoFar net xs new n marks at []
  begins xs new n marks end at long comes is_new tail clear =
      subst (λ (zs : List ℕ). SoFar net xs zs n marks at []) (sym is_new) (subst (λ (u : ℕ). SoFar net xs (lowered net xs 1 end) n marks u []) (sym tail) (record {
        long = long-after net ok xs long 1 end comes;
        node = tail-in net ok xs long 1 end comes;
        less = omega (arith, total-less net ok xs long 1 end comes);
        none_more = none-more net ok xs long 1 end comes;
        on = clear;
        off = refl;
        zero_off = refl;
        walking = λ c held past is ready. walking-start c held net ok is xs end past comes ready;
      }))

  -- the source has no point
  not-source : (at : ℕ) (p : Point) → point_of net at ≡ Some p → at ≡ 0 → ⊥
  not-source at p e none = none-some p (sym (ap (point_of net) none) ∙ e)

  -- the rest of a route at a node that the walk has come to, with its loop forgotten
  come : (c : Netlist) (held past : List ℕ) (reached : ℕ) (xs : List ℕ) (at : ℕ) (mid trail : List ℕ) → IsNetworkOf c held net → has mid 0 ≡ false → ComesTo at mid trail → Walking c held net past reached xs at (points_of net mid)
      → Walking c held net past reached xs at (points_of net trail)
  come c held past reached xs at mid trail is zero_off to walking = elim to.how [
    | inl same ↦ subst (λ (vs : List ℕ). Walking c held net past reached xs at (points_of net vs)) (sym same) walking
    | inr back ↦ elim (point-cases net at) [
      | inr some ↦ (
          let parts : points_of net mid ≡ points_of net back.0 ++ some.0 ∷ points_of net trail =
          ap (points_of net) back.1 ∙ points-append net back.0 (at ∷ trail) ∙ ap (λ (ps : List Point). points_of net back.0 ++ ps) (points-cons net at trail some.0 some.1) in
          walking-cut c held net past reached xs at (points_of net back.0) some.0 (points_of net trail) some.1 (subst (Walking c held net past reached xs at) parts walking))
      | inl none ↦ (
          let source : at ≡ 0 = elim (cases_eq at 0) [
            | inl e ↦ e
            | inr other ↦ absurd (walking.inner (omega (arith, other, no-point c held net is at none walking.node)))
          ] in
          absurd (false≢true (sym zero_off ∙ ap (λ (vs : List ℕ). has vs 0) back.1 ∙ ap (λ (v : ℕ). has (back.0 ++ v ∷ trail) 0) source ∙ in-front back.0 trail 0)))
    ]
  ]

  -- a step back over an arc goes on with the walk; if it comes back to a node, the loop is
  -- forgotten
  pub goes-back : (first xs new : List ℕ) (n : ℕ) (marks left : List Bool) (at tail : ℕ) (trail mid after : List ℕ) → SoFar net first xs n marks at trail → StepsBack net xs new at tail → mid ≡ at ∷ trail → AreOn n left after → ComesTo tail mid after
      → SoFar net first new n left tail after
  goes-back first xs new n marks left at tail trail mid after far back is_mid on to =
      let mid-zero : has mid 0 ≡ false = ap (λ (vs : List ℕ). has vs 0) is_mid ∙ ap (λ (b : Bool). b || has trail 0) (ne_eqb at 0 (not-source at back.point back.is_at)) ∙ far.zero_off in
      let now : new ≡ lowered net xs at back.place = back.carried in
      let to-tail : tail ≡ head net at back.place = back.is_tail in
      record {
        long = ap (λ (zs : List ℕ). length zs) now ∙ long-after net ok xs far.long at back.place back.comes;
        node = omega (arith, to-tail, tail-in net ok xs far.long at back.place back.comes);
        less = omega (arith, far.less, ap (total_outflow net) now, total-less net ok xs far.long at back.place back.comes);
        none_more = λ arc. omega (arith, far.none_more arc, ap (λ (zs : List ℕ). slice_index zs arc) now, none-more net ok xs far.long at back.place back.comes arc);
        on = on;
        off = to.off;
        zero_off = zero-after mid-zero;
        walking = λ c held past is ready.
            come c held past (into net first 1) new tail mid after is mid-zero to
            (subst (λ (vs : List ℕ). Walking c held net past (into net first 1) new tail (points_of net vs)) (sym is_mid)
            (subst (Walking c held net past (into net first 1) new tail) (sym (points-cons net at trail back.point back.is_at))
            (subst (λ (zs : List ℕ). Walking c held net past (into net first 1) zs tail (back.point ∷ points_of net trail)) (sym now)
            (subst (λ (u : ℕ). Walking c held net past (into net first 1) (lowered net xs at back.place) u (back.point ∷ points_of net trail)) (sym to-tail)
            (walking-step c held net ok is xs at back.place past (into net first 1) (points_of net trail) back.point back.comes (far.walking c held past is ready) back.is_at)))));
      }
    where
      zero-after : has mid 0 ≡ false → has after 0 ≡ false
      zero-after e = elim to.how [
        | inl same ↦ ap (λ (vs : List ℕ). has vs 0) same ∙ e
        | inr cut ↦ (or_parts (tail == 0) (has after 0) (suffix-absent cut.0 (tail ∷ after) 0 (ap (λ (vs : List ℕ). has vs 0) (sym cut.1) ∙ e))).1
      ]

  -- a step back leaves less carried
  pub falls : (first xs new : List ℕ) (n : ℕ) (marks : List Bool) (at tail : ℕ) (trail : List ℕ) → SoFar net first xs n marks at trail → StepsBack net xs new at tail → total_outflow net new < total_outflow net xs
  falls first xs new n marks at tail trail far back = omega (arith, ap (total_outflow net) back.carried, total-less net ok xs far.long at back.place back.comes)

  -- a walk that can't go on has come to the source, and its nodes are a route
  pub arrives : (first xs new : List ℕ) (n : ℕ) (marks : List Bool) (at : ℕ) (trail : List ℕ) → n ≡ node_count net → SoFar net first xs n marks at trail → Stays net xs new at → WalkedBack net first new (points_of net trail)
  arrives first xs new n marks at trail sized far stays =
      subst (λ (zs : List ℕ). WalkedBack net first zs (points_of net trail)) (sym stays.carried) (record {
        long = far.long;
        less = far.less;
        none_more = far.none_more;
        once = λ c held is. once-each c held net is trail far.on.apart (λ w member. omega (arith, sized, marked-in n marks trail w far.on member));
        walked = λ c held past is ready. elim stays.why [
          | inl none ↦ ends-at-source c held net ok is past (into net first 1) xs at (points_of net trail) (far.walking c held past is ready) none
          | inr nothing ↦ never-stuck c held net ok is past (into net first 1) xs at (points_of net trail) (far.walking c held past is ready) (nothing-comes net ok xs at far.node (λ k l. nothing k (omega arith) l))
        ];
      })

-- ---- where each row is read from

module _ (net : FlowNet) (ok : IsFlowNet net) where
  -- places before which nothing comes in stay such if no arc carries more
  pub searched-less : (xs new places : List ℕ) → ((arc : ℕ) → slice_index new arc ≤ slice_index xs arc) → AreSearched net xs places → AreSearched net new places
  searched-less xs new places less searched = record {
    long = searched.long;
    none = λ w h k l m. omega (arith, less (mate net w k), searched.none w h k l m);
  }

  -- places before which nothing comes in stay such if an arc carries one less
  pub searched-lower : (xs new places : List ℕ) (w k : ℕ) → length xs ≡ length net.heads → Comes net xs w k → new ≡ lowered net xs w k → AreSearched net xs places → AreSearched net new places
  searched-lower xs new places w k long comes is_new searched = searched-less xs new places (λ arc. omega (arith, ap (λ (zs : List ℕ). slice_index zs arc) is_new, none-more net ok xs long w k comes arc)) searched

  -- before the beginning of each row nothing comes in
  pub searched-first : (xs : List ℕ) (n : ℕ) → n ≡ node_count net → AreSearched net xs (replicate n 0)
  searched-first xs n sized = record {
    long = length-replicate n 0 ∙ sized;
    none = λ w l k a b. absurd (omega (arith, b, get_or-replicate {A = ℕ} n w 0 0 (omega (arith, l, sized))));
  }

-- ---- route after route

all-join : (P : ℕ → Type 0) (xs ys : List ℕ) → AllByRecursion P xs → AllByRecursion P ys → AllByRecursion P (xs ++ ys)
all-join P [] ys a b = b
all-join P (x ∷ xs) ys a b = (a.0, all-join P xs ys a.1 b)

distinct-join : (xs ys : List ℕ) → Distinct xs → Distinct ys → ((v : ℕ) → has ys v ≡ true → has xs v ≡ false) → Distinct (xs ++ ys)
unfolding IsDistinct
distinct-join [] ys a b off = b
distinct-join (x ∷ xs) ys a b off =
    (all-join (λ w. (x == w) ≡ false) xs ys a.0 (none-is x ys absent), distinct-join xs ys a.1 b (λ v member. (or_parts (x == v) (has xs v) (off v member)).1))
  where
    itself : (x == x) ≡ true
    itself = eq-eqb x x refl

    absent : has ys x ≡ false
    absent = elim (cases_Bool (has ys x)) [
      | inl member ↦ absurd (false≢true (sym (or_parts (x == x) (has xs x) (off x member)).0 ∙ itself))
      | inr new ↦ new
    ]

all-push : (routes : List (List Point)) (route : List Point) → all_passed (routes ++ route ∷ []) ≡ all_passed routes ++ passed route
unfolding all_passed
all-push [] route = append-nil (passed route)
all-push (r ∷ routes) route = ap (λ (vs : List ℕ). passed r ++ vs) (all-push routes route) ∙ sym (append_assoc (passed r) (all_passed routes) (passed route))

-- routes so far, and what is left of the flow; `first` is what reached the sink
pub record Gathered (c : Netlist) (held : List ℕ) (net : FlowNet) (first : ℕ) (xs : List ℕ) (routes : List (List Point)) : Type 0 where
  -- what is left is a flow, of which nothing comes in after what the routes pass
  pub ready : Ready net xs (all_passed routes)
  -- the routes are right
  pub right : AreRoutes c held routes
  -- they are apart from one another
  pub apart : AreApart routes
  -- none has a point twice
  pub once : All HasNoPointTwice routes
  -- the routes and what is left to come into the sink are what had reached it
  pub count : length routes + into net xs 1 ≡ first

-- gathering in every circuit with this network; nothing is left before a place of the sink's row
pub record Gathering (net : FlowNet) (m : RunEnd) (xs : List ℕ) (routes : List (List Point)) (place : ℕ) : Type 0 where
  -- there is a value for each arc
  pub long : length xs ≡ length net.heads
  -- nothing comes into the sink before this place of its row
  pub done : NoneComes net xs 1 0 place
  -- in each circuit with this network, the routes so far and what is left go together
  pub gathered : (c : Netlist) (held : List ℕ) → IsNetworkOf c held net → Gathered c held net (slice_index m.flow.cells.excess 1) xs routes

module _ (net : FlowNet) (ok : IsFlowNet net) (m : RunEnd) where
  -- before the first walk there are no routes, and all that the arcs of a greatest flow carry is
  -- left
  pub no-routes : IsMaxPreflow net m → (xs : List ℕ) → AreArcFlows net m.flow.cells.residuals xs → Gathering net m xs [] 0
  no-routes end xs carried = record {
    long = carried.long;
    done = λ k l h. absurd (omega (arith, h));
    gathered = λ c held is. record {
      ready = record { holds = holds-first net ok m end xs carried; spent = λ v member. absurd (false≢true (ap (λ (vs : List ℕ). has vs v) (sym all-none) ∙ member)) };
      right = λ k d h. absurd (omega (arith, h));
      apart = subst Distinct (sym all-none) distinct-none;
      once = λ k d h. absurd (omega (arith, h));
      count = omega (arith, reached-is net ok m end xs carried c held is);
    };
  }

  one-more : (c : Netlist) (held : List ℕ) (first : ℕ) (xs ys : List ℕ) (routes : List (List Point)) (route : List Point) → Gathered c held net first xs routes → HasNoPointTwice route → Walked c held net (all_passed routes) (into net xs 1) ys route
      → Gathered c held net first ys (routes ++ route ∷ [])
  one-more c held first xs ys routes route old simple new = record {
    ready = record {
      holds = new.holds;
      spent = λ v member. elim (or_cases (has (all_passed routes) v) (has (passed route) v) (members v member)) [
        | inl earlier ↦ new.spent v (inr earlier)
        | inr this ↦ new.spent v (inl this)
      ];
    };
    right = All-push (λ r. is_route c held r ≡ true) routes route old.right new.right;
    apart = subst Distinct (sym (all-push routes route)) (distinct-join (all_passed routes) (passed route) old.apart new.apart new.off);
    once = All-push HasNoPointTwice routes route old.once simple;
    count = omega (arith, old.count, new.count, length_push routes route);
  }
    where
      members : (v : ℕ) → has (all_passed (routes ++ route ∷ [])) v ≡ true → (has (all_passed routes) v || has (passed route) v) ≡ true
      members v member = sym (list_any-append (λ w. w == v) (all_passed routes) (passed route)) ∙ ap (λ (vs : List ℕ). has vs v) (sym (all-push routes route)) ∙ member

  -- the route of a walk back from the sink comes to those before it
  pub more-routes : (xs ys : List ℕ) (routes : List (List Point)) (route : List Point) (place end : ℕ) → Gathering net m xs routes place → NoneComes net xs 1 place end → WalkedBack net xs ys route
      → Gathering net m ys (routes ++ route ∷ []) end
  more-routes xs ys routes route place end old none back = record {
    long = back.long;
    done = λ k l h. elim (cases_lt k place) [
      | inl less ↦ omega (arith, back.none_more (mate net 1 k), old.done k l less)
      | inr more ↦ omega (arith, back.none_more (mate net 1 k), none k more h)
    ];
    gathered = λ c held is.
        let before = old.gathered c held is in
        one-more c held (slice_index m.flow.cells.excess 1) xs ys routes route before (back.once c held is) (back.walked c held (all_passed routes) is before.ready);
  }

  -- if nothing is left
  pub all-routes : IsMaxPreflow net m → (xs : List ℕ) (routes : List (List Point)) (place : ℕ) → Gathering net m xs routes place → NoneComes net xs 1 place (row_len net 1)
      → (c : Netlist) (held : List ℕ) → IsNetworkOf c held net → AreLeastRoutes c held routes
  all-routes end xs routes place old none c held is =
      let nothing : into net xs 1 ≡ 0 = nothing-comes net ok xs 1 (omega (arith, ok.two)) (λ k l. elim (cases_lt k place) [
        | inl less ↦ old.done k (omega arith) less
        | inr more ↦ none k more l
      ]) in
      let all = old.gathered c held is in
      record {
        right = all.right;
        apart = all.apart;
        once = all.once;
        count = λ gates least. omega (arith, all.count, nothing, least-count c held net is m end gates least);
      }

-- ---- a list lent as a slice

-- a vector is what its slice was left as
pub written-back : {A : Type 0} (n : ℕ) (old new : List A) → length new ≡ n → length old ≡ n → take n (new ++ drop (length new) old) ≡ new
written-back {A} n old new long same =
    ap (λ (zs : List A). take n (new ++ zs)) (drop_all (length new) old (omega (arith, long, same))) ∙ ap (take n) (append-nil new) ∙ ap (λ (k : ℕ). take k new) (sym long) ∙ take-length new
