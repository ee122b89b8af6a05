use Rattle.std.proofs.Common.{◌≡◌, true, List, [], ◌∷◌, ◌++◌, take, drop, suc, All, ap, sym, subst, ◌∙◌, arith}
use Rattle.std.proofs.lemmas.List.{take_all, take_more, take-append-drop}
use Rattle.std.proofs.lemmas.List.Elements.{All-nil, All-cons, All-append}
use Rattle.std.proofs.Math.Seq.{drop-cons}
use Rattle.base_types.specs.declared.posting.Posting.{Posting}
use Rattle.pages_sublists.specs.Fetching.{belongs}
use Rattle.pages_sublists.proofs.fetching.first_astray.Goals as goal

pub returns-then-not-belongs_to : goal.returns-then-not-belongs_to
returns-then-not-belongs_to c = record {
  front = take c.loop-posting.posting-index c.args.list.now;
  back = drop (suc c.loop-posting.posting-index) c.args.list.now;
  is = sym (take-append-drop c.loop-posting.posting-index c.args.list.now)
      ∙ ap (λ (l : List Posting). take c.loop-posting.posting-index c.args.list.now ++ l)
      (drop-cons c.args.list.now c.loop-posting.posting-index c.posting-item.result (omega arith) ∙ ap (λ (x : Posting). x ∷ drop (suc c.loop-posting.posting-index) c.args.list.now) (sym c.posting-item.is));
  good = c.loop-posting.invariant;
  bad = sym c.if-not-belongs_to.ensures;
}

pub loop-posting-preserved : goal.loop-posting-preserved
loop-posting-preserved c =
    let P : Posting → Type 0 = λ q. belongs c.args.bounds.from c.args.bounds.to c.args.bounds.horizon q ≡ true in
    let A : List Posting → Type 0 = λ l. All P l in
    subst A (sym (take_more c.args.list.now c.loop-posting.posting-index c.posting-item.result (omega arith) ∙ ap (λ (q : Posting). take c.loop-posting.posting-index c.args.list.now ++ q ∷ []) (sym c.posting-item.is)))
    (All-append P (take c.loop-posting.posting-index c.args.list.now) (c.posting-item.result ∷ []) c.loop-posting.invariant (All-cons P c.posting-item.result [] (sym c.if-not-belongs_to.ensures) (All-nil P)))

pub returns : goal.returns
returns c = let A : List Posting → Type 0 = λ l. All (λ q. belongs c.args.bounds.from c.args.bounds.to c.args.bounds.horizon q ≡ true) l in subst A (take_all c.loop-posting.posting-index c.args.list.now (omega arith)) c.loop-posting.invariant
