use Rattle.std.proofs.Common.{length, drop, ◌-◌, ◌++◌, ap, sym, ◌∙◌, arith}
use Rattle.pages_checked.specs.Weights.{weight_of_all}
use Rattle.pages_checked.proofs.WeightLemmas.{place_weight, last_out, none_left, one_behind}
use Rattle.pages_checked.proofs.known.Known.make_room.Goals as goal

pub overflow_sub-self : goal.overflow_sub-self
overflow_sub-self c = omega (arith, c.free.ensures, last_out c.places.self-inside.places.entries, ap place_weight c.in-Some.ensures.value, c.places.invariant.sum)

pub places-preserved : goal.places-preserved
places-preserved c =
    let es = c.places.self-inside.places.entries in
    let before = c.places.invariant in
    let now = ap (λ d. d.entries) c.pop_lru.ensures.entries in
    let gone = drop (length es - 1) es ++ before.behind.0 in
    record {
      sum = rw now (omega (arith, c.free.ensures, last_out es, ap place_weight c.in-Some.ensures.value, before.sum, before.few));
      few = omega (arith, before.few);
      wide = ap (λ d. d.cap) c.pop_lru.ensures.entries ∙ before.wide;
      behind = (gone, one_behind c.self.inside.places.entries es before.behind.0 before.behind.1 ∙ ap (λ l. l ++ gone) (sym now));
      enough = λ room. absurd (omega (arith, c.places-test.true, ap weight_of_all (before.enough room), before.sum, room));
    }

pub invariant_of-self-in-None : goal.invariant_of-self-in-None
invariant_of-self-in-None c =
    let es = c.places.self-inside.places.entries in
    let before = c.places.invariant in
    let now = ap (λ d. d.entries) c.pop_lru.ensures.entries in (
      rw now (omega (arith, last_out es, ap place_weight c.in-None.ensures.value, before.sum)),
      before.few,
      ap (λ d. d.cap) c.pop_lru.ensures.entries ∙ before.wide,
    )

pub returns-in-None-clause-room : goal.returns-in-None-clause-room
returns-in-None-clause-room c =
    let es = c.places.self-inside.places.entries in
    let now = ap (λ d. d.entries) c.pop_lru.ensures.entries in
    rw now (omega (arith, last_out es, none_left es (sym c.in-None.ensures.value), c.requires))

pub returns-in-None-clause-behind : goal.returns-in-None-clause-behind
returns-in-None-clause-behind c =
    let es = c.places.self-inside.places.entries in
    let before = c.places.invariant in
    let now = ap (λ d. d.entries) c.pop_lru.ensures.entries in
    let gone = drop (length es - 1) es ++ before.behind.0 in
    (gone, sym c.self.view_is ∙ one_behind c.self.inside.places.entries es before.behind.0 before.behind.1 ∙ ap (λ l. l ++ gone) (sym now))
