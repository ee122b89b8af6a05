use Rattle.std.proofs.Common.{◌≡◌, ◌-◌, ◌*◌, ap, ◌∙◌, sym, List, ℕ, length, slice_index}
use Rattle.plans_space.specs.Caps as caps
use Rattle.plans_share.specs.Asked.{count_in}
use Rattle.plans_share.proofs.Pieces.{counts-join, none-counted, whole-costs}
use Rattle.plans_share.proofs.offering.whole.Goals as goal

pub returns-clause-charge : goal.returns-clause-charge
returns-clause-charge c = λ list horizon t. c.charge.ensures.value ∙ ap (λ n. caps.charge c.args.shared.unit n) (c.postings.ensures.count list horizon t)

pub returns-clause-cost : goal.returns-clause-cost
returns-clause-cost c = λ list horizon t.
    let table = c.args.table.now in
    let b = table.boundaries in
    let times = c.args.times.now in
    let value = c.boundaries.ensures.value in
    let from : c.ends_of-span.result.from ≡ slice_index b 0 = c.ends_of-span.ensures.from ∙ ap (λ (l : List ℕ). slice_index l 0) value in
    let to : c.ends_of-span.result.to ≡ slice_index b (length b - 1) = c.ends_of-span.ensures.to ∙ ap (λ (l : List ℕ). slice_index l (length l - 1)) value in
    let counted : c.from.result ≡ count_in (slice_index b 0) (slice_index b (length b - 1)) times =
    c.from.ensures ∙ c.count.ensures.value ∙ ap (λ f. count_in f c.ends_of-span.result.to times) from ∙ ap (λ g. count_in (slice_index b 0) g times) to in
    let many : c.from-2.result ≡ length list = c.from-2.ensures ∙ c.postings-2.ensures.count list horizon t in
    ap (λ n. n * c.from-2.result) counted ∙ ap (λ n. count_in (slice_index b 0) (slice_index b (length b - 1)) times * n) many
    ∙ sym (whole-costs (λ x y. count_in x y times) (counts-join times) (none-counted times) list horizon table t (rw value at c.boundaries.ensures.many) (sym c.postings.ensures.value ∙ c.postings.ensures.count list horizon t))
