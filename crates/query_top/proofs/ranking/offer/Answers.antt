use Rattle.std.proofs.Common.{◌≡◌, ◌⊎◌, true, ◌+◌, ◌<◌, ◌≤◌, List, ◌++◌, ◌∷◌, take, drop, arith, rules, refl, subst, sym}
use Rattle.query_top.specs.Firsts.{Each, AreRanked, AreFirst, below, shows}
use Rattle.query_top.specs.declared.ranking.Row.{Row}
use Rattle.query_top.proofs.RankLemmas.{offer-zero, offer-full, offer-put, put-shown}
use Rattle.query_top.proofs.ranking.offer.Goals as goal

pub returns-then-score-eq0-clause-first : goal.returns-then-score-eq0-clause-first
returns-then-score-eq0-clause-first c = λ of e first. let z = c.if-score-eq0.true in offer-zero of _ _ _ (omega (arith, e, z)) first

pub returns-then-not-makes_room-clause-first : goal.returns-then-not-makes_room-clause-first
returns-then-not-makes_room-clause-first c = λ of e first.
    let no = c.if-not-makes_room.ensures.no refl in
    subst (λ rows. AreFirst (below (c.args.doc + 1) of) c.args.count rows) (sym no.0) (offer-full of _ c.args.doc c.args.score _ e no.1 no.2 first)

pub returns-clause-first : goal.returns-clause-first
returns-clause-first c = λ of e first.
    let some : 0 < c.args.score = let z = c.if-score-eq0.false in omega arith in
    let rows : c.insert.new.self.items ≡ take c.place_of-place.result c.makes_room.new.rows.items ++ record { doc = record { 0 = c.args.doc }; score = c.args.score } ∷ drop c.place_of-place.result c.makes_room.new.rows.items = search rules in
    let now : c.deref.result.now ≡ c.makes_room.new.rows.items = c.deref.ensures.value in
    offer-put of c.args.count c.args.doc c.args.score c.place_of-place.result c.args.rows.now.items c.makes_room.new.rows.items c.insert.new.self.items _ refl refl e some (c.if-not-makes_room.ensures.yes refl)
    (subst (λ (rs : List Row). Each (λ r. r.score < c.args.score) (drop c.place_of-place.result rs)) now c.place_of-place.ensures.low)
    (subst (λ (rs : List Row). AreRanked rs → Each (λ r. c.args.score ≤ r.score) (take c.place_of-place.result rs)) now c.place_of-place.ensures.high)
    rows first

pub returns-clause-shown : goal.returns-clause-shown
returns-clause-shown c = λ x h.
    let room = c.if-not-makes_room.ensures.yes refl in
    let rows : c.insert.new.self.items ≡ take c.place_of-place.result c.makes_room.new.rows.items ++ record { doc = record { 0 = c.args.doc }; score = c.args.score } ∷ drop c.place_of-place.result c.makes_room.new.rows.items = search rules in
    subst (λ (old : List Row). (shows old x ≡ true) ⊎ (x ≡ c.args.doc)) (sym room.split) (put-shown c.place_of-place.result c.args.doc x c.makes_room.new.rows.items room.gone c.insert.new.self.items _ refl rows h)
