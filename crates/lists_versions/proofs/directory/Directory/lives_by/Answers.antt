use Rattle.std.proofs.Common.{◌≡◌, ◌<◌, length, get_or, Contains, arith, ap, sym, subst, refl, ◌∙◌, inl, inr}
use Rattle.std.proofs.lemmas.List.Elements.{Contains-get_or}
use Rattle.lists_postings.specs.Kinds.{life_kind}
use Rattle.lists_postings.specs.declared.event.Event.{Event}
use Rattle.lists_postings.proofs.Pieces.{begin, finish, put, pass}
use Rattle.lists_versions.proofs.directory.Directory.lives_by.Goals as goal
use Rattle.lists_versions.proofs.directory.Directory.lives_by.Goals.{in-Some+in_ok-note, in_default}

pub loop-i-init : goal.loop-i-init
loop-i-init c = λ f w one. rw c.new-lives.ensures.items (begin f c.args.span.from c.args.span.to life_kind c.args.events.now c.requires w)

pub loop-i-preserved : goal.loop-i-preserved
loop-i-preserved c = λ f w one.
    let events = c.args.events.now in
    let i = c.loop-i.i in
    let within : i < length events = omega (arith, c.loop-i-test.true) in
    let there = λ (e : Event) (is : e ≡ get_or events i e). subst (λ x. Contains events x) (sym is) (Contains-get_or events i e within) in
    elim c.match-life_from.branch [
      | in-Some+in_ok-note p ↦ put life_kind f c.args.span.from c.args.span.to events events c.requires w i within refl
          c.loop-i.lives.items c.match-life_from.lives.items p.note.new.rows.items p.in-Some.life (ap (λ v. v.items) p.lives-is)
          (λ e is. let h = p.in-Some.ensures e is in (h.0, h.1, h.2, one e (there e is) ∙ h.3)) p.in_ok-note.ensures (c.loop-i.invariant f w one)
      | in_default p ↦ pass life_kind f c.args.span.from c.args.span.to events events c.requires w i within refl
          c.loop-i.lives.items c.match-life_from.lives.items (ap (λ v. v.items) p.lives-is)
          (λ e is. elim (p.in_default.ensures e is) [ inl l ↦ inl l | inr n ↦ inr (one e (there e is) ∙ n) ]) (c.loop-i.invariant f w one)
    ]

pub returns : goal.returns
returns c = λ f w one. finish f c.args.span.from c.args.span.to life_kind c.args.events.now c.loop-i.i c.loop-i.lives.items (omega (arith, c.loop-i-test.false)) (c.loop-i.invariant f w one)
