use Rattle.std.proofs.Common.{◌≡◌, ◌<◌, ◌/◌, List, ℕ, Option, None, length, All, sym, subst, arith, rules}
use Rattle.std.specs.Prelude.{IfSome, MatchOption}
use Rattle.std.proofs.lemmas.List.Elements.{All-take, All-drop}
use Rattle.journal_entries.specs.declared.place.Place.{Place}
use Rattle.lists_postings.specs.Lists.{sublist}
use Rattle.pages_area.specs.Live.{IsInside}
use Rattle.pages_area.specs.Ranges.{bytes_in}
use Rattle.pages_checked.specs.Layouts.{spelling_in}
use Rattle.pages_sublists.specs.Segments.{seconds}
use Rattle.pages_sublists.specs.Preparing.{spellings}
use Rattle.pages_sublists.proofs.SpellLemmas.{serves_or}
use Rattle.archive_check.specs.declared.segments.Wrong.{Wrong}
use Rattle.archive_check.specs.Verdicts.{DifferAt}
use Rattle.archive_check.specs.Digests.{HasDigest}
use Rattle.archive_check.specs.Checking.{AreAltered, IsFirstWrong}
use Rattle.archive_check.proofs.DigestLemmas.{altered_joined}
use Rattle.archive_check.proofs.SegmentLemmas.{bytes_at, halves, whole_again, left_told, right_told, none_moved, ok_both, one_wrong, one_digest, pages_on, reach_on}
use Rattle.archive_check.proofs.segments.+first_faults.Goals as goal

pub first_faults-requires : goal.first_faults-requires
first_faults-requires g t c κs within =
    let I : Place → Type 0 = λ p. IsInside (g.D.Disk.disk c.args.disk.now).reach.pages p.extent in (
      omega (arith, c.decreases, c.split_at.ensures.front_len, c.if-half-eq0.false),
      (
        within,
        (
          (serves_or (λ v. v.items) (λ s. s.now) _ _ c.unwrap_or-list.ensures c.as_deref.ensures.value c.requires.list c.in_ok-part.ensures.serves).ordered,
          (
            omega (arith, c.split_at.ensures.front_len, c.split_at-2.ensures.front_len),
            subst (λ (l : List Place). All I l) (sym c.split_at-2.ensures.front) (All-take I (length c.args.cuts.now / 2) c.args.places.now c.requires.inside),
          ),
        ),
      ),
    )

pub first_faults-requires-in-None : goal.first_faults-requires-in-None
first_faults-requires-in-None g t c κs within =
    let I : ℕ → Place → Type 0 = λ n p. IsInside n p.extent in
    let old = (g.D.Disk.disk c.args.disk.now).reach.pages in (
      omega (arith, c.decreases, c.split_at.ensures.back_len, c.if-half-eq0.false),
      (
        within,
        (
          (serves_or (λ v. v.items) (λ s. s.now) _ _ c.unwrap_or-list.ensures c.as_deref.ensures.value c.requires.list c.in_ok-part.ensures.serves).ordered,
          (
            omega (arith, c.requires.many, c.split_at.ensures.back_len, c.split_at-2.ensures.back_len),
            subst (λ (n : ℕ). All (I n) c.split_at-2.result.1.now) (sym (reach_on (g.D.Disk.disk c.args.disk.now) (g.D.Disk.disk c.first_faults.new.disk) c.first_faults.ensures.same))
                (subst (λ (l : List Place). All (I old) l) (sym c.split_at-2.ensures.back) (All-drop (I old) (length c.args.cuts.now / 2) c.args.places.now c.requires.inside)),
          ),
        ),
      ),
    )

pub returns-then-half-eq0-clause-found : goal.returns-then-half-eq0-clause-found
returns-then-half-eq0-clause-found g t c = λ told.
    let pages = (g.D.Disk.disk c.args.disk.now).holds.pages in
    let some : 0 < length c.args.cuts.now = search rules in
    let one : length c.args.cuts.now ≡ 1 = omega (arith, some, c.if-half-eq0.true) in
    let place = c.index-places-0.result in
    let wanted = spelling_in c.args.looking.layout (sublist c.index-cuts-0.result.seconds c.args.end.seconds c.args.list.now) in
    ok_both (λ f. IfSome f.wrong (λ w. w.segment ≡ 0)) (λ f. MatchOption f.wrong (bytes_in place.extent pages ≡ wanted) (λ w. DifferAt (bytes_in place.extent pages) wanted w.spot.place w.spot.found w.spot.wanted))
    (λ f. IsFirstWrong (bytes_at pages c.args.places.now) (spellings c.args.looking.layout c.args.list.now (seconds c.args.cuts.now) c.args.end.seconds) f.wrong) c.faults_of.result
    (λ f within differ. one_wrong c.args.looking.layout pages c.args.list.now c.args.cuts.now c.args.places.now c.args.end.seconds c.index-cuts-0.result place f.wrong one (omega (arith, one, c.requires.many)) c.index-cuts-0.is c.index-places-0.is within differ)
    c.faults_of.ensures.within (c.faults_of.ensures.found told)

pub returns-then-half-eq0-clause-altered : goal.returns-then-half-eq0-clause-altered
returns-then-half-eq0-clause-altered g t c = λ told asked.
    let pages = (g.D.Disk.disk c.args.disk.now).holds.pages in
    let some : 0 < length c.args.cuts.now = search rules in
    let one : length c.args.places.now ≡ 1 = omega (arith, some, c.if-half-eq0.true, c.requires.many) in
    let place = c.index-places-0.result in
    ok_both (λ f. IfSome f.altered (λ n. n ≡ 0)) (λ f. f.wrong ≡ None → MatchOption f.altered (HasDigest pages place) (λ n. ¬ (HasDigest pages place))) (λ f. f.wrong ≡ None → AreAltered pages c.args.places.now f.altered) c.faults_of.result
    (λ f within right quiet. one_digest pages c.args.places.now place f.altered one c.index-places-0.is within (right quiet)) c.faults_of.ensures.altered_within (c.faults_of.ensures.altered told asked)

pub returns-in-Some-clause-found : goal.returns-in-Some-clause-found
returns-in-Some-clause-found g t c = λ told.
    let pages = (g.D.Disk.disk c.args.disk.now).holds.pages in
    let both = halves c.args.looking.layout pages c.args.list.now c.unwrap_or-list.result.now c.args.cuts.now c.split_at.result.0.now c.split_at.result.1.now
    c.args.places.now c.split_at-2.result.0.now c.split_at-2.result.1.now (length c.args.cuts.now / 2) c.index-cuts-half.result c.args.end.seconds (serves_or (λ v. v.items) (λ s. s.now) _ _ c.unwrap_or-list.ensures c.as_deref.ensures.value c.requires.list c.in_ok-part.ensures.serves)
    (omega (arith, c.if-half-eq0.false)) c.requires.many c.index-cuts-half.is c.split_at.ensures.front c.split_at.ensures.back c.split_at-2.ensures.front c.split_at-2.ensures.back in
    let W : Option Wrong → Type 0 = λ o. IsFirstWrong (bytes_at pages c.args.places.now) (spellings c.args.looking.layout c.args.list.now (seconds c.args.cuts.now) c.args.end.seconds) o in
    let L : Option Wrong → Type 0 = λ o. IsFirstWrong (bytes_at pages c.split_at-2.result.0.now) (spellings c.args.looking.layout c.unwrap_or-list.result.now (seconds c.split_at.result.0.now) c.index-cuts-half.result.seconds) o in
    subst W (sym c.in-Some.is) (left_told _ _ _ _ _ _ _ c.in-Some.field-0 both (subst L c.in-Some.is (c.in_ok-front.ensures.found told)))

pub returns-clause-found : goal.returns-clause-found
returns-clause-found g t c = λ told.
    let pages = (g.D.Disk.disk c.args.disk.now).holds.pages in
    let both = halves c.args.looking.layout pages c.args.list.now c.unwrap_or-list.result.now c.args.cuts.now c.split_at.result.0.now c.split_at.result.1.now
    c.args.places.now c.split_at-2.result.0.now c.split_at-2.result.1.now (length c.args.cuts.now / 2) c.index-cuts-half.result c.args.end.seconds (serves_or (λ v. v.items) (λ s. s.now) _ _ c.unwrap_or-list.ensures c.as_deref.ensures.value c.requires.list c.in_ok-part.ensures.serves)
    (omega (arith, c.if-half-eq0.false)) c.requires.many c.index-cuts-half.is c.split_at.ensures.front c.split_at.ensures.back c.split_at-2.ensures.front c.split_at-2.ensures.back in
    let L : Option Wrong → Type 0 = λ o. IsFirstWrong (bytes_at pages c.split_at-2.result.0.now) (spellings c.args.looking.layout c.unwrap_or-list.result.now (seconds c.split_at.result.0.now) c.index-cuts-half.result.seconds) o in
    let R : List ℕ → Type 0 = λ l. IsFirstWrong (bytes_at l c.split_at-2.result.1.now) (spellings c.args.looking.layout c.unwrap_or-list.result.now (seconds c.split_at.result.1.now) c.args.end.seconds) c.in_ok-back-in-None.back.wrong in
    right_told _ _ _ _ _ _ _ c.in_ok-back-in-None.back.wrong c.joined.result.wrong both (subst L c.in-None.is (c.in_ok-front.ensures.found told))
    (subst R (pages_on (g.D.Disk.disk c.args.disk.now) (g.D.Disk.disk c.first_faults.new.disk) c.first_faults.ensures.same) (c.in_ok-back-in-None.ensures.found told)) c.joined.ensures.wrong

pub returns-clause-altered : goal.returns-clause-altered
returns-clause-altered g t c = λ told asked quiet.
    let pages = (g.D.Disk.disk c.args.disk.now).holds.pages in
    let back = c.in_ok-back-in-None.back in
    let R : List ℕ → Type 0 = λ l. AreAltered l c.split_at-2.result.1.now back.altered in
    let right = c.in_ok-back-in-None.ensures.altered told asked (none_moved (length c.args.cuts.now / 2) back.wrong c.joined.result.wrong c.joined.ensures.wrong quiet) in
    altered_joined pages c.args.places.now c.split_at-2.result.0.now c.split_at-2.result.1.now (length c.args.cuts.now / 2) c.in_ok-front.front.altered back.altered c.joined.result.altered
    (whole_again (length c.args.cuts.now / 2) c.args.places.now c.split_at-2.result.0.now c.split_at-2.result.1.now c.split_at-2.ensures.front c.split_at-2.ensures.back) c.split_at-2.ensures.front_len
    (c.in_ok-front.ensures.altered told asked c.in-None.is) (subst R (pages_on (g.D.Disk.disk c.args.disk.now) (g.D.Disk.disk c.first_faults.new.disk) c.first_faults.ensures.same) right) c.joined.ensures.altered
