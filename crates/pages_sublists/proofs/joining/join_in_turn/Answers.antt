use Rattle.std.proofs.Common.{◌≡◌, List, [], drop, Err, sym, subst, arith}
use Rattle.std.proofs.lemmas.List.{drop_all}
use Rattle.base_types.specs.declared.posting.Posting.{Posting}
use Rattle.lists_postings.specs.Lists.{IsList}
use Rattle.lists_postings.specs.Unions.{IsClash}
use Rattle.pages_sublists.specs.Joining.{JoinInTurn}
use Rattle.pages_sublists.specs.declared.why.Why.TheVariants.{Clash}
use Rattle.pages_sublists.specs.declared.why.Damage.{Damage}
use Rattle.pages_sublists.proofs.GatherLemmas.{if_damaged}
use Rattle.pages_sublists.proofs.JoinLemmas.{JoinOn, join_begins, join_more_at, join_clash_at, join_ends}
use Rattle.pages_sublists.proofs.joining.join_in_turn.Goals as goal

pub loop-list-init : goal.loop-list-init
loop-list-init c =
    let lists = c.args.lists.now in
    record {
      ordered = subst (λ (l : List Posting). IsList l) (sym c.new-union.ensures.items) tt;
      on = subst (λ (l : List Posting). JoinOn lists lists l) (sym c.new-union.ensures.items) (join_begins lists);
    }

pub returns-in-Err-clause-damaged : goal.returns-in-Err-clause-damaged
returns-in-Err-clause-damaged c =
    let lists = c.args.lists.now in
    let P : Damage → Type 0 = λ d. (d.page ≡ c.page.result) × ((one : Posting) × ((other : Posting) × (IsClash c.deref.result.now c.postings.result.now one other × (d.why ≡ Clash one other)))) in
    if_damaged P (λ d. JoinInTurn lists [] (Err d))
    (λ d clash. join_clash_at lists c.loop-list.list-index c.list-item.result c.page.result c.loop-list.union.items c.deref.result.now c.postings.result.now d (omega (arith, c.loop-list-test.true)) c.list-item.is
    c.page.ensures c.deref.ensures.value c.postings.ensures clash c.loop-list.invariant.on) c.in-Err.error c.in-Err.ensures.damaged

pub loop-list-preserved : goal.loop-list-preserved
loop-list-preserved c = record {
  ordered = c.in-Ok.ensures.joined.ordered;
  on = join_more_at c.args.lists.now c.loop-list.list-index c.list-item.result c.loop-list.union.items c.deref.result.now c.postings.result.now c.in-Ok.both.items (omega (arith, c.loop-list-test.true)) c.list-item.is
      c.deref.ensures.value c.postings.ensures c.in-Ok.ensures.joined c.loop-list.invariant.on;
}

pub returns-clause-joined : goal.returns-clause-joined
returns-clause-joined c =
    join_ends c.args.lists.now (drop c.loop-list.list-index c.args.lists.now) c.loop-list.union.items (drop_all c.loop-list.list-index c.args.lists.now (omega (arith, c.loop-list-test.false))) c.loop-list.invariant.on
