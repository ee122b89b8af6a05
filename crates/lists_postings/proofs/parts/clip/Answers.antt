use Rattle.std.proofs.Common.{◌≡◌, Bool, true, false, refl, sym}
use Rattle.std.proofs.lemmas.List.{take_all}
use Rattle.lists_postings.specs.Lists.{meets}
use Rattle.lists_postings.proofs.Clipping.{clip-more, clip-skips, clip_list, clip_coalesced}
use Rattle.lists_postings.proofs.parts.clip.Goals as goal
use Rattle.lists_postings.proofs.parts.clip.Goals.{in-Some+in_ok-push, in_default}

-- a test that isn't true
fails : (b : Bool) → (b ≡ true → false ≡ true) → b ≡ false
fails false f = refl
fails true f = sym (f refl)

pub loop-p-preserved : goal.loop-p-preserved
loop-p-preserved c = elim c.match-cut_to.branch [
  | in-Some+in_ok-push w ↦
      rw (w.clip-is, w.in_ok-push.ensures.items)
      (clip-more c.args.span.from c.args.span.to c.args.list.now c.loop-p.clip.items c.loop-p.p-index c.p-item.result w.in-Some.q c.loop-p-test.true c.p-item.is c.loop-p.invariant (w.in-Some.ensures.some.0 refl)
      w.in-Some.ensures.value)
  | in_default w ↦
      rw w.clip-is
      (clip-skips c.args.span.from c.args.span.to c.args.list.now c.loop-p.clip.items c.loop-p.p-index c.p-item.result c.loop-p-test.true c.p-item.is c.loop-p.invariant (fails (meets c.args.span.from c.args.span.to c.p-item.result) w.in_default.ensures.some.1))
]

pub returns-clause-ordered : goal.returns-clause-ordered
returns-clause-ordered c = clip_list c.args.span.from c.args.span.to c.args.list.now c.loop-p.clip.items (rw (take_all c.loop-p.p-index c.args.list.now c.loop-p-test.false) at c.loop-p.invariant)

pub returns-clause-coalesced : goal.returns-clause-coalesced
returns-clause-coalesced c = clip_coalesced c.args.span.from c.args.span.to c.args.list.now c.loop-p.clip.items (rw (take_all c.loop-p.p-index c.args.list.now c.loop-p-test.false) at c.loop-p.invariant)
