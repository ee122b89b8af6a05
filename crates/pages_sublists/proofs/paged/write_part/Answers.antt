use Rattle.std.proofs.Common.{◌≡◌, ◌-◌, ◌*◌, ◌<◌, min, ℕ, [], ◌∷◌, length, take, drop, ap, sym, subst, arith, length-drop}
use Rattle.std.proofs.lemmas.List.{length-take}
use Rattle.pages_area.specs.Runs.{pages_for}
use Rattle.pages_area.specs.Wrote.{Wrote}
use Rattle.pages_area.specs.Pieces.{pieces}
use Rattle.pages_sublists.proofs.PagedLemmas.{part_none, part_is, part_count, part_changed, part_wrote, part_reach, none_changed, none_wrote, none_reach, reached_part}
use Rattle.pages_sublists.proofs.paged.write_part.Goals as goal

pub returns-then-from-all-clause-count : goal.returns-then-from-all-clause-count
returns-then-from-all-clause-count g c =
    ap length (sym (part_none c.args.extent.first c.args.from c.args.most c.args.bytes.now (omega (arith, c.requires.long, c.pages-all.ensures.value, c.if-from-all.true))))

pub returns-then-from-all-clause-inside : goal.returns-then-from-all-clause-inside
returns-then-from-all-clause-inside g c =
    none_reach _ (g.D.Disk.disk c.args.disk.now).reach.pages (part_none c.args.extent.first c.args.from c.args.most c.args.bytes.now (omega (arith, c.requires.long, c.pages-all.ensures.value, c.if-from-all.true)))

pub returns-then-from-all-clause-images : goal.returns-then-from-all-clause-images
returns-then-from-all-clause-images g c = λ tells.
    none_changed _ (g.D.Disk.disk c.args.disk.now) (part_none c.args.extent.first c.args.from c.args.most c.args.bytes.now (omega (arith, c.requires.long, c.pages-all.ensures.value, c.if-from-all.true)))

pub returns-then-from-all-clause-wrote : goal.returns-then-from-all-clause-wrote
returns-then-from-all-clause-wrote g c = λ tells.
    none_wrote _ (g.D.Disk.disk c.args.disk.now).holds (part_none c.args.extent.first c.args.from c.args.most c.args.bytes.now (omega (arith, c.requires.long, c.pages-all.ensures.value, c.if-from-all.true)))

pub returns-in_err-write_extent-clause-images : goal.returns-in_err-write_extent-clause-images
returns-in_err-write_extent-clause-images g c = λ tells.
    let slice = take c.part_of-part.result.bytes (drop (4096 * c.args.from) c.args.bytes.now) in
    let below : c.args.from < pages_for c.args.extent.bytes = omega (arith, c.pages-all.ensures.value, c.if-from-all.false) in
    let few : c.min-count.result ≡ min (pages_for c.args.extent.bytes - c.args.from) c.args.most = omega (arith, c.pages-all.ensures.value, c.min-count.ensures) in
    let long : length slice ≡ c.part_of-part.result.bytes = omega (arith, length-take c.part_of-part.result.bytes (drop (4096 * c.args.from) c.args.bytes.now), length-drop (4096 * c.args.from) c.args.bytes.now, c.requires.long, c.part_of-part.ensures.bytes) in
    part_changed c.part_of-part.result slice (take c.args.most (drop c.args.from (pieces c.args.extent.first c.args.bytes.now))) (g.D.Disk.disk c.args.disk.now) (g.D.Disk.disk c.write_extent.new.disk) long
    (part_is c.args.extent c.part_of-part.result c.args.from c.args.most c.min-count.result c.args.bytes.now slice c.requires.long c.part_of-part.ensures.first below few
    (ap (λ n. take n (drop (4096 * c.args.from) c.args.bytes.now)) c.part_of-part.ensures.bytes)) (c.write_extent.ensures.images tells)

pub returns-clause-count : goal.returns-clause-count
returns-clause-count g c =
    part_count c.args.extent.first c.args.from c.args.most c.min-count.result c.args.bytes.now (omega (arith, c.pages-all.ensures.value, c.min-count.ensures, c.requires.long))

pub returns-clause-inside : goal.returns-clause-inside
returns-clause-inside g c =
    let slice = take c.part_of-part.result.bytes (drop (4096 * c.args.from) c.args.bytes.now) in
    let below : c.args.from < pages_for c.args.extent.bytes = omega (arith, c.pages-all.ensures.value, c.if-from-all.false) in
    let few : c.min-count.result ≡ min (pages_for c.args.extent.bytes - c.args.from) c.args.most = omega (arith, c.pages-all.ensures.value, c.min-count.ensures) in
    let long : length slice ≡ c.part_of-part.result.bytes = omega (arith, length-take c.part_of-part.result.bytes (drop (4096 * c.args.from) c.args.bytes.now), length-drop (4096 * c.args.from) c.args.bytes.now, c.requires.long, c.part_of-part.ensures.bytes) in
    part_reach c.part_of-part.result slice (take c.args.most (drop c.args.from (pieces c.args.extent.first c.args.bytes.now))) (g.D.Disk.disk c.write_extent.new.disk).reach.pages long
    (part_is c.args.extent c.part_of-part.result c.args.from c.args.most c.min-count.result c.args.bytes.now slice c.requires.long c.part_of-part.ensures.first below few
    (ap (λ n. take n (drop (4096 * c.args.from) c.args.bytes.now)) c.part_of-part.ensures.bytes)) (reached_part c.part_of-part.result (g.D.Disk.disk c.args.disk.now).reach.pages (g.D.Disk.disk c.write_extent.new.disk).reach.pages c.in_ok-write_extent.ensures.reach)

pub returns-clause-images : goal.returns-clause-images
returns-clause-images g c = λ tells.
    let slice = take c.part_of-part.result.bytes (drop (4096 * c.args.from) c.args.bytes.now) in
    let below : c.args.from < pages_for c.args.extent.bytes = omega (arith, c.pages-all.ensures.value, c.if-from-all.false) in
    let few : c.min-count.result ≡ min (pages_for c.args.extent.bytes - c.args.from) c.args.most = omega (arith, c.pages-all.ensures.value, c.min-count.ensures) in
    let long : length slice ≡ c.part_of-part.result.bytes = omega (arith, length-take c.part_of-part.result.bytes (drop (4096 * c.args.from) c.args.bytes.now), length-drop (4096 * c.args.from) c.args.bytes.now, c.requires.long, c.part_of-part.ensures.bytes) in
    part_changed c.part_of-part.result slice (take c.args.most (drop c.args.from (pieces c.args.extent.first c.args.bytes.now))) (g.D.Disk.disk c.args.disk.now) (g.D.Disk.disk c.write_extent.new.disk) long
    (part_is c.args.extent c.part_of-part.result c.args.from c.args.most c.min-count.result c.args.bytes.now slice c.requires.long c.part_of-part.ensures.first below few
    (ap (λ n. take n (drop (4096 * c.args.from) c.args.bytes.now)) c.part_of-part.ensures.bytes)) (c.write_extent.ensures.images tells)

pub returns-clause-wrote : goal.returns-clause-wrote
returns-clause-wrote g c = λ tells.
    let slice = take c.part_of-part.result.bytes (drop (4096 * c.args.from) c.args.bytes.now) in
    let below : c.args.from < pages_for c.args.extent.bytes = omega (arith, c.pages-all.ensures.value, c.if-from-all.false) in
    let few : c.min-count.result ≡ min (pages_for c.args.extent.bytes - c.args.from) c.args.most = omega (arith, c.pages-all.ensures.value, c.min-count.ensures) in
    let long : length slice ≡ c.part_of-part.result.bytes = omega (arith, length-take c.part_of-part.result.bytes (drop (4096 * c.args.from) c.args.bytes.now), length-drop (4096 * c.args.from) c.args.bytes.now, c.requires.long, c.part_of-part.ensures.bytes) in
    part_wrote c.part_of-part.result slice (take c.args.most (drop c.args.from (pieces c.args.extent.first c.args.bytes.now))) (g.D.Disk.disk c.args.disk.now).holds (g.D.Disk.disk c.write_extent.new.disk).holds long
    (part_is c.args.extent c.part_of-part.result c.args.from c.args.most c.min-count.result c.args.bytes.now slice c.requires.long c.part_of-part.ensures.first below few
    (ap (λ n. take n (drop (4096 * c.args.from) c.args.bytes.now)) c.part_of-part.ensures.bytes)) (subst (λ (n : ℕ). Wrote (record { extent = c.part_of-part.result; bytes = take n (drop (4096 * c.args.from) c.args.bytes.now) } ∷ []) (g.D.Disk.disk c.args.disk.now).holds (g.D.Disk.disk c.write_extent.new.disk).holds) (omega arith) (c.in_ok-write_extent.ensures.wrote tells))
