use Rattle.std.proofs.Common.{◌≡◌, ◌++◌, List, ℕ, Some, None, Ok, Err, All, refl, ap, arith, subst, sym, ◌∙◌}
use Rattle.std.proofs.lemmas.List.Elements.{All-append}
use Rattle.std.proofs.lemmas.Result.{err_from_is_err_and}
use Rattle.script_items.specs.Groups.{makes}
use Rattle.script_items.specs.Items.{Waits}
use Rattle.script_items.specs.Reading.{ReaderState, StandsFor, IsAwaited}
use Rattle.script_items.proofs.CallLemmas.{Goes, goes-room, goes-part, gets, quiet_parts, awaited_in, says-item, says-end, says-error, says-memory}
use Rattle.script_items.proofs.reader.Reader.next_item.Given.{Over}
use Rattle.script_items.proofs.reader.Reader.next_item.Goals.{After-next_item}
use Rattle.script_items.proofs.reader.Reader.next_item.Goals as goal

-- what is held as the reader of parts is called
abbrev held : (g : Over) → After-next_item g → ReaderState
held g c = record { parts = c.self.inside.parts; batch = c.self.inside.batch }

went : (g : Over) (c : After-next_item g) (since : List ℕ) → StandsFor c.args.self.now since
    → Goes g.S.Source.source_tells (g.S.Source.source c.args.source.now).left (g.S.Source.source c.parts.source).left c.args.self.now (held g c) since
went g c since stands =
    let G : ReaderState → Type 0 = λ h. Goes g.S.Source.source_tells (g.S.Source.source c.args.source.now).left (g.S.Source.source c.parts.source).left c.args.self.now h since in
    subst G (sym c.self.view_is) (goes-room _ _ _ c.args.self.now c.parts.self c.reserve.new.self since (c.parts.invariant.went since stands) c.reserve.ensures.parts c.reserve.ensures.same)

still : (g : Over) (c : After-next_item g) (since : List ℕ) → StandsFor c.args.self.now since → (Waits c.args.self.now.parts.ended since → ⊥) → c.next_item.new.source ≡ c.args.source.now
still g c since stands quiet =
    let so_far = went g c since stands in
    c.next_item.ensures.calm so_far.stands.tail so_far.stands.reads.stands (quiet_parts _ _ _ c.args.self.now (held g c) since so_far quiet) ∙ c.parts.invariant.still since stands quiet

awaited : (g : Over) (c : After-next_item g) → (since : List ℕ) → StandsFor c.args.self.now since → ((lefts : List (List ℕ)) × g.S.Source.pulled c.args.source.now lefts c.next_item.new.source
    × (g.S.Source.source_tells → All (IsAwaited since (g.S.Source.source c.args.source.now).left) lefts))
awaited g c since stands =
    let so_far = went g c since stands in
    let earlier = c.parts.invariant.awaited since stands in
    let now = awaited_in _ _ _ c.args.self.now (held g c) since so_far (λ lefts. g.S.Source.pulled c.parts.source lefts c.next_item.new.source)
    (λ never. rw (c.next_item.ensures.calm so_far.stands.tail so_far.stands.reads.stands never) (g.met.S.Source.laws.unpulled c.parts.source))
    (c.next_item.ensures.awaited so_far.stands.tail so_far.stands.reads.stands) in (
      earlier.0 ++ now.0,
      g.met.S.Source.laws.pulls_join _ _ _ _ _ earlier.1 now.1,
      λ tells. All-append (IsAwaited since (g.S.Source.source c.args.source.now).left) earlier.0 now.0 (earlier.2 tells) (now.2 tells),
    )

pub returns-in_err-reserve-clause-says : goal.returns-in_err-reserve-clause-says
returns-in_err-reserve-clause-says g c = λ since stands.
    let p = err_from_is_err_and c.from_residual.result c.from_residual.ensures.1 in
    rw (p.1, p.2) (says-memory _ _ _ c.args.self.now c.reserve.new.self since
    (goes-room _ _ _ c.args.self.now c.parts.self c.reserve.new.self since (c.parts.invariant.went since stands) c.reserve.ensures.parts c.reserve.ensures.same))

pub returns-in-Some-clause-says : goal.returns-in-Some-clause-says
returns-in-Some-clause-says g c = λ since stands.
    let here = (goal.at.returns-in-Some-clause-says g c).After-next_item in
    let got = gets _ _ _ _ c.args.self.now (held g here) c.next_item.new.self since (Ok (Some c.in-Ok-Some.part)) (went g here since stands) (rw c.in-Ok-Some.field-0-is at c.in-Ok-Some.ensures.says) in
    says-item _ _ _ c.args.self.now (record { parts = c.next_item.new.self; batch = c.self.inside.batch }) c.put.new.self since c.in-Ok-Some.part c.in-Some.item got c.put.ensures.parts
    (c.in-Some.ensures.put (makes None got.parts).begun got.holds)

pub returns-in-Some-clause-calm : goal.returns-in-Some-clause-calm
returns-in-Some-clause-calm g c = still g (goal.at.returns-in-Some-clause-calm g c).After-next_item

pub returns-in-Some-clause-awaited : goal.returns-in-Some-clause-awaited
returns-in-Some-clause-awaited g c = awaited g (goal.at.returns-in-Some-clause-awaited g c).After-next_item

pub parts-preserved : goal.parts-preserved
parts-preserved g c =
    let here = (goal.at.parts-preserved g c).After-next_item in
    let run = c.parts.invariant in
    let room = ap (λ (h : ReaderState). h.parts.passed) c.self.view_is ∙ ap (λ h. h.passed) c.reserve.ensures.parts in
    let further = rw c.in-Ok-Some.field-0-is at c.in-Ok-Some.ensures.further in
    let told = ap (λ (h : ReaderState). h.parts.ended) c.self.view_is ∙ ap (λ h. h.ended) c.reserve.ensures.parts in
    record {
      only = g.met.S.Source.laws.joins _ _ _ run.only c.next_item.ensures.only;
      went = λ since stands.
          let got = gets _ _ _ _ c.args.self.now (held g here) c.next_item.new.self since (Ok (Some c.in-Ok-Some.part)) (went g here since stands) (rw c.in-Ok-Some.field-0-is at c.in-Ok-Some.ensures.says) in
          goes-part _ _ _ c.args.self.now (record { parts = c.next_item.new.self; batch = c.self.inside.batch }) c.put.new.self since c.in-Ok-Some.part got c.put.ensures.parts
          (c.in_default.ensures.put (makes None got.parts).begun got.holds);
      still = still g here;
      awaited = awaited g here;
      further = omega (arith, run.further, room, further refl, ap (λ h. h.passed) c.put.ensures.parts);
      end = λ tells first is. c.next_item.ensures.end tells (λ was. run.end tells first (sym told ∙ was)) (sym (ap (λ h. h.ended) c.put.ensures.parts) ∙ is);
    }

pub returns-in-Ok-None-clause-says : goal.returns-in-Ok-None-clause-says
returns-in-Ok-None-clause-says g c = λ since stands.
    let here = (goal.at.returns-in-Ok-None-clause-says g c).After-next_item in
    let got = gets _ _ _ _ c.args.self.now (held g here) c.next_item.new.self since (Ok None) (went g here since stands) (rw c.in-Ok-None.field-0-is at c.in-Ok-None.ensures.says) in
    rw c.end.ensures (says-end _ _ _ c.args.self.now (record { parts = c.next_item.new.self; batch = c.self.inside.batch }) since got)

pub returns-in-Ok-None-clause-calm : goal.returns-in-Ok-None-clause-calm
returns-in-Ok-None-clause-calm g c = still g (goal.at.returns-in-Ok-None-clause-calm g c).After-next_item

pub returns-in-Ok-None-clause-awaited : goal.returns-in-Ok-None-clause-awaited
returns-in-Ok-None-clause-awaited g c = awaited g (goal.at.returns-in-Ok-None-clause-awaited g c).After-next_item

pub returns-in-Err-clause-says : goal.returns-in-Err-clause-says
returns-in-Err-clause-says g c = λ since stands.
    let here = (goal.at.returns-in-Err-clause-says g c).After-next_item in
    says-error _ _ _ c.args.self.now (record { parts = c.next_item.new.self; batch = c.self.inside.batch }) since c.in-Err.error
    (gets _ _ _ _ c.args.self.now (held g here) c.next_item.new.self since (Err c.in-Err.error) (went g here since stands) c.in-Err.ensures.says)

pub returns-in-Err-clause-calm : goal.returns-in-Err-clause-calm
returns-in-Err-clause-calm g c = still g (goal.at.returns-in-Err-clause-calm g c).After-next_item

pub returns-in-Err-clause-awaited : goal.returns-in-Err-clause-awaited
returns-in-Err-clause-awaited g c = awaited g (goal.at.returns-in-Err-clause-awaited g c).After-next_item
