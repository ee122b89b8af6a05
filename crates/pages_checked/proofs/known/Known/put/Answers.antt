use Rattle.std.proofs.Common.{◌≡◌, ◌+◌, ◌≤◌, ◌^◌, nat_eq, Some, ap, sym, subst, ◌∙◌, arith}
use Rattle.std.specs.Cmp.{nat_eq_equiv}
use Rattle.std.specs.Map.{lookup}
use Rattle.lru.specs.LruCache.{put_entries}
use Rattle.lru.proofs.CallerLemmas.{lookup-put_entries}
use Rattle.pages_checked.specs.Weights.{weight_of_all}
use Rattle.pages_checked.proofs.WeightLemmas.{place_weight, few_places, put_in}
use Rattle.pages_checked.proofs.known.Known.put.Goals as goal

pub overflow_sub-self : goal.overflow_sub-self
overflow_sub-self c =
    let places = c.self.inside.places in
    let before = c.self.invariant in
    let put = put_in places c.page.result c.args.checked (omega (arith, few_places places.entries, before.0, before.1, before.2)) in
    let out = ap place_weight (sym c.in_ok-old.ensures.old ∙ c.in-Some.is) in
    omega (arith, c.free.ensures, c.weight-weight.ensures, put, out, before.0, c.make_room.ensures.room, ap weight_of_all c.self.view_is)

pub invariant_of-self-in-Some : goal.invariant_of-self-in-Some
invariant_of-self-in-Some c =
    let places = c.self.inside.places in
    let before = c.self.invariant in
    let put = put_in places c.page.result c.args.checked (omega (arith, few_places places.entries, before.0, before.1, before.2)) in
    let out = ap place_weight (sym c.in_ok-old.ensures.old ∙ c.in-Some.is) in
    let room : c.self.inside.size + c.weight-weight.result ≤ 2 ^ 26 = omega (arith, c.make_room.ensures.room, ap weight_of_all c.self.view_is, before.0) in (
      rw (ap (λ d. d.entries) c.in_ok-old.ensures.entries) (omega (arith, c.free.ensures, c.weight-weight.ensures, put, out, before.0, room)),
      omega (arith, room),
      ap (λ d. d.cap) c.in_ok-old.ensures.entries ∙ before.2,
    )

pub invariant_of-self-in_default : goal.invariant_of-self-in_default
invariant_of-self-in_default c =
    let places = c.self.inside.places in
    let before = c.self.invariant in
    let put = put_in places c.page.result c.args.checked (omega (arith, few_places places.entries, before.0, before.1, before.2)) in
    let out = ap place_weight (sym c.in_ok-old.ensures.old ∙ c.in_default.is) in
    let room : c.self.inside.size + c.weight-weight.result ≤ 2 ^ 26 = omega (arith, c.make_room.ensures.room, ap weight_of_all c.self.view_is, before.0) in (
      rw (ap (λ d. d.entries) c.in_ok-old.ensures.entries) (omega (arith, c.weight-weight.ensures, put, out, before.0, room)),
      room,
      ap (λ d. d.cap) c.in_ok-old.ensures.entries ∙ before.2,
    )

pub returns-in-Some : goal.returns-in-Some
returns-in-Some c = λ light.
    let k = c.args.checked in
    let found = lookup-put_entries nat_eq c.self.inside.places c.page.result k nat_eq_equiv in
    rw (ap (λ d. d.entries) c.in_ok-old.ensures.entries) (subst (λ p. lookup (nat_eq p) (put_entries nat_eq c.self.inside.places c.page.result k) ≡ Some k) c.page.ensures found)

pub returns-in_default : goal.returns-in_default
returns-in_default c = λ light.
    let k = c.args.checked in
    let found = lookup-put_entries nat_eq c.self.inside.places c.page.result k nat_eq_equiv in
    rw (ap (λ d. d.entries) c.in_ok-old.ensures.entries) (subst (λ p. lookup (nat_eq p) (put_entries nat_eq c.self.inside.places c.page.result k) ≡ Some k) c.page.ensures found)
