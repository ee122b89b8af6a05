use Rattle.std.proofs.Common.{◌≡◌, ◌≤◌, ◌-◌, ◌+◌, ◌++◌, length, take, drop, get_or, refl, ap, sym, ◌∙◌, arith}
use Rattle.std.proofs.lemmas.List.{length-take}
use Rattle.machine_model.specs.declared.area.Area.TheVariants.{Pages}
use Rattle.journal_entries.specs.declared.place.Place.{Place}
use Rattle.pages_area.specs.Runs.{pages_for}
use Rattle.pages_area.specs.Pieces.{pieces}
use Rattle.pages_sublists.specs.Paged.{pages_in_front}
use Rattle.pages_sublists.specs.Preparing.{IsFor}
use Rattle.pages_sublists.proofs.WriteLemmas.{as_many, for_at}
use Rattle.pages_sublists.proofs.PagedLemmas.{same_at, some_none, some_more, some_changed, some_counted, left_from, left_next, left_none, left_end, left_same, left_at, rest_apart, rest_from, rest_next}
use Rattle.pages_sublists.proofs.paged.write_pages.Goals as goal

pub loop-k-init : goal.loop-k-init
loop-k-init g c =
    let places = c.args.places.now in
    let all = c.args.spellings.now in
    let start = c.start_at-start.result in
    let front : start.front ≡ pages_in_front all start.place = c.start_at-start.ensures.front all c.requires.starts in
    let within : start.place ≤ length places = omega (arith, c.start_at-start.ensures.place, c.requires.starts.as_many, as_many places all c.requires.each) in
    record {
      only = g.met.D.Disk.only_same _;
      later = omega arith;
      journal = refl;
      read = λ tells. refl;
      written = some_none g.D.Disk.disk_tells (g.D.Disk.disk c.args.disk.now) c.args.most (rest_from places start.place) (left_from places all start.place (c.args.from - start.front) c.args.most) (left_from places all 0 c.args.from c.args.most)
          (rest_apart places start.place c.requires.apart)
          (left_same places all start.place (c.args.from - start.front) (c.args.from - pages_in_front all start.place) c.args.most c.args.most (omega (arith, front)) refl
          ∙ left_at places all start.place c.args.from c.args.most c.requires.each within (omega (arith, front, c.start_at-start.ensures.before)));
    }

pub returns-then-left-eq0-clause-count : goal.returns-then-left-eq0-clause-count
returns-then-left-eq0-clause-count g c =
    let places = c.args.places.now in
    let all = c.args.spellings.now in
    let was = c.loop-k.invariant in
    omega (
      arith,
      c.if-left-eq0.true,
      some_counted g.D.Disk.disk_tells (g.D.Disk.disk c.args.disk.now) (g.D.Disk.disk c.loop-k.disk) c.loop-k.left c.args.most (rest_from places c.loop-k.k)
          (left_from places all c.loop-k.k c.loop-k.skip c.loop-k.left) (left_from places all 0 c.args.from c.args.most) (left_none places all c.loop-k.k c.loop-k.skip c.loop-k.left c.if-left-eq0.true) was.written,
    )

pub bounds-spellings-k : goal.bounds-spellings-k
bounds-spellings-k g c = omega (arith, as_many c.args.places.now c.args.spellings.now c.requires.each, c.loop-k-test.true)

pub write_part-requires : goal.write_part-requires
write_part-requires g c = record { long = sym (for_at c.args.places.now c.args.spellings.now c.loop-k.k c.index-places-k.result _ c.bytes-bytes.result.now c.requires.each c.loop-k-test.true c.index-spellings-k.is c.bytes-bytes.ensures).size }

pub returns-in_err-wrote-clause-images : goal.returns-in_err-wrote-clause-images
returns-in_err-wrote-clause-images g c = λ tells.
    let places = c.args.places.now in
    let all = c.args.spellings.now in
    some_changed g.D.Disk.disk_tells (g.D.Disk.disk c.args.disk.now) (g.D.Disk.disk c.loop-k.disk) (g.D.Disk.disk c.write_part.new.disk) c.loop-k.left c.args.most (rest_from places c.loop-k.k)
    (left_from places all c.loop-k.k c.loop-k.skip c.loop-k.left) _ (left_from places all 0 c.args.from c.args.most)
    (take c.loop-k.left (drop c.loop-k.skip (pieces (get_or places c.loop-k.k c.index-places-k.result).extent.first c.bytes-bytes.result.now)))
    (left_next places all c.loop-k.k c.loop-k.skip c.loop-k.left c.index-places-k.result _ c.bytes-bytes.result.now c.requires.each c.loop-k-test.true c.index-spellings-k.is c.bytes-bytes.ensures)
    c.write_part.ensures.images c.loop-k.invariant.written tells

pub loop-k-preserved : goal.loop-k-preserved
loop-k-preserved g c =
    let places = c.args.places.now in
    let all = c.args.spellings.now in
    let k = c.loop-k.k in
    let skip = c.loop-k.skip in
    let left = c.loop-k.left in
    let bytes = c.bytes-bytes.result.now in
    let e = (get_or places k c.index-places-k.result).extent in
    let mine : IsFor (get_or places k c.index-places-k.result) bytes = for_at places all k c.index-places-k.result _ bytes c.requires.each c.loop-k-test.true c.index-spellings-k.is c.bytes-bytes.ensures in
    let was = c.loop-k.invariant in
    let next = left_next places all k skip left c.index-places-k.result _ bytes c.requires.each c.loop-k-test.true c.index-spellings-k.is c.bytes-bytes.ensures in
    let same = left_same places all (k + 1) (skip - pages_for (length bytes)) c.saturating_sub-skip.result (left - length (take left (drop skip (pieces e.first bytes)))) (left - c.in_ok-wrote.wrote)
    (omega (arith, c.saturating_sub-skip.ensures, c.pages.ensures.value, mine.size, ap (λ (p : Place). p.extent.bytes) (same_at places k c.index-places-k.result c.index-places-k-in-loop-k.result c.loop-k-test.true))) (omega (arith, c.in_ok-wrote.ensures.count)) in
    record {
      only = g.met.D.Disk.only_joins _ _ _ was.only c.write_part.ensures.only;
      later = omega (arith, was.later, c.write_part.ensures.cause.later);
      journal = c.write_part.ensures.journal ∙ was.journal;
      read = λ tells. c.write_part.ensures.read tells ∙ was.read tells;
      written = some_more g.D.Disk.disk_tells (g.D.Disk.disk c.args.disk.now) (g.D.Disk.disk c.loop-k.disk) (g.D.Disk.disk c.write_part.new.disk) left (left - c.in_ok-wrote.wrote) c.args.most (rest_from places k) (rest_from places (k + 1))
          (left_from places all k skip left) (left_from places all (k + 1) c.saturating_sub-skip.result (left - c.in_ok-wrote.wrote)) (left_from places all 0 c.args.from c.args.most) e bytes left skip
          (rest_next places k c.index-places-k.result c.loop-k-test.true) (sym mine.size) (next ∙ ap (λ l. take left (drop skip (pieces e.first bytes)) ++ l) same)
          (g.met.D.Disk.only_reach _ _ Pages c.write_part.ensures.only) c.in_ok-wrote.ensures.inside c.write_part.ensures.images c.in_ok-wrote.ensures.wrote
          (omega (arith, c.in_ok-wrote.ensures.count, length-take left (drop skip (pieces e.first bytes)))) was.written;
    }

pub returns-clause-count : goal.returns-clause-count
returns-clause-count g c =
    let places = c.args.places.now in
    let all = c.args.spellings.now in
    let was = c.loop-k.invariant in
    some_counted g.D.Disk.disk_tells (g.D.Disk.disk c.args.disk.now) (g.D.Disk.disk c.loop-k.disk) c.loop-k.left c.args.most (rest_from places c.loop-k.k) (left_from places all c.loop-k.k c.loop-k.skip c.loop-k.left)
    (left_from places all 0 c.args.from c.args.most) (left_end places all c.loop-k.k c.loop-k.skip c.loop-k.left (omega (arith, c.loop-k-test.false))) was.written
