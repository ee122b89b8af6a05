use Rattle.std.proofs.Common.{◌≡◌, ◌*◌, ◌^◌, ◌<◌, ◌≤◌, ap, subst, ◌∙◌, sym, arith, List, [], ◌∷◌, All, length, slice_index}
use Rattle.std.specs.Prelude.{map}
use Rattle.std.proofs.lemmas.List.{length-map}
use Rattle.std.proofs.lemmas.List.Elements.{All-map}
use Rattle.plans_space.specs.Caps.{budget, cap, unit}
use Rattle.plans_space.specs.Loads.{weights_by}
use Rattle.plans_space.specs.declared.point.Point.{Point}
use Rattle.plans_share.specs.Asked.{count_in}
use Rattle.plans_share.specs.Offers.{in_units}
use Rattle.plans_share.proofs.Pieces.{charges-within, counts-few, few-points, points-cheap, points-within, times-few, weights-few, weights-long}
use Rattle.plans_share.proofs.Small.{costs_small}
use Rattle.plans_share.proofs.offering.offer_for.Goals as goal

pub charged-requires : goal.charged-requires
charged-requires c =
    let (list, horizon, t) = c.requires.tabulates in
    let P : List Point → Type 0 = λ l. All (λ p. p.charge * c.limits_of-own.result.unit < 2 ^ 43) l in
    let count = c.postings.ensures.count list horizon t in
    let own : c.limits_of-own.result.unit ≡ unit (cap c.sixteen-factor.result (length list)) = c.limits_of-own.ensures.unit ∙ ap (λ n. unit (cap c.sixteen-factor.result n)) count in
    record {
      within = subst P (sym c.deref.ensures.value) (λ k d l. charges-within c.sixteen-factor.result (length list) _ c.limits_of-own.result.unit c.sixteen-factor.ensures (omega (arith, c.postings.ensures.bound, count)) own
          (points-within list _ _ c.sixteen-factor.result _ horizon c.in_ok-points.points.items (c.in_ok-points.ensures list horizon t) k d l));
    }

pub returns-clause-offer : goal.returns-clause-offer
returns-clause-offer c = λ list horizon t.
    let own : c.limits_of-own.result.unit ≡ unit (cap c.sixteen-factor.result (length list)) = c.limits_of-own.ensures.unit ∙ ap (λ n. unit (cap c.sixteen-factor.result n)) (c.postings.ensures.count list horizon t) in
    rw c.new.ensures (record {
      times = c.args.table.now.boundaries;
      times_are = t.boundaries;
      whole_charge = c.whole.ensures.charge list horizon t;
      whole_cost = c.whole.ensures.cost list horizon t;
      factor = c.sixteen-factor.result;
      sixteen = c.sixteen-factor.ensures;
      points = c.in_ok-points.points.items;
      points_are = c.in_ok-points.ensures list horizon t;
      charged = c.in_ok-front.ensures ∙ ap (λ (l : List Point). map (in_units c.args.shared.unit c.limits_of-own.result.unit) l) c.deref.ensures.value
          ∙ ap (λ u. map (in_units c.args.shared.unit u) c.in_ok-points.points.items) own;
    })

pub returns-clause-few : goal.returns-clause-few
returns-clause-few c =
    let (list, horizon, t) = c.requires.tabulates in
    let points = c.in_ok-points.points.items in
    let count = c.postings.ensures.count list horizon t in
    let long : length c.in_ok-front.front.items ≡ length points = ap length (c.in_ok-front.ensures ∙ ap (λ (l : List Point). map (in_units c.args.shared.unit c.limits_of-own.result.unit) l) c.deref.ensures.value) ∙ length-map points _ in
    rw c.new.ensures (omega (
      arith,
      long,
      few-points list _ _ c.sixteen-factor.result _ horizon points (c.in_ok-points.ensures list horizon t)
          (omega (arith, c.limits_of-own.result.few, c.limits_of-own.ensures.budget ∙ ap (λ n. budget (cap c.sixteen-factor.result n)) count)),
    ))

pub returns-clause-cheap : goal.returns-clause-cheap
returns-clause-cheap c =
    let (list, horizon, t) = c.requires.tabulates in
    let b = c.args.table.now.boundaries in
    let points = c.in_ok-points.points.items in
    let times = c.args.times.now in
    let weights = weights_by (λ x y. count_in x y times) b in
    let few : length list ≤ 2 ^ 38 = omega (arith, c.postings.ensures.bound, c.postings.ensures.count list horizon t) in
    let value = c.boundaries-boundaries.ensures.value in
    let long : length weights ≤ 2 ^ 40 = omega (arith, weights-long (λ x y. count_in x y times) b, times-few b t.boundaries.ascending (rw value at c.boundaries-boundaries.ensures.in_time)) in
    let small : All (λ w. w ≤ 2 ^ 20) weights = weights-few (λ x y. count_in x y times) (2 ^ 20) (counts-few times (omega (arith, c.requires.few))) b in
    let are : c.in_ok-front.front.items ≡ map (in_units c.args.shared.unit c.limits_of-own.result.unit) points = c.in_ok-front.ensures ∙ ap (λ (l : List Point). map (in_units c.args.shared.unit c.limits_of-own.result.unit) l) c.deref.ensures.value in
    let C : List Point → Type 0 = λ l. All (λ p. p.cost < 2 ^ 100) l in
    rw c.new.ensures (record {
      whole = omega (arith, c.whole.ensures.cost list horizon t, costs_small list (slice_index b 0) (horizon ∷ []) b weights few long small);
      front = subst C (sym are) (All-map (λ (p : Point). p.cost < 2 ^ 100) (in_units c.args.shared.unit c.limits_of-own.result.unit) points
          (points-cheap list b weights c.sixteen-factor.result _ horizon points (c.in_ok-points.ensures list horizon t) few long small));
    })
