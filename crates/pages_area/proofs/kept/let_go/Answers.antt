use Rattle.std.proofs.Common.{not, nat_eq, ap, sym, ◌∙◌, arith}
use Rattle.pages_area.specs.Caches.{without_page}
use Rattle.pages_area.specs.Inside.{kept_of}
use Rattle.pages_area.proofs.RunLemmas.{outside-none, outside-more}
use Rattle.pages_area.proofs.EntryLemmas.{removed, order-filter}
use Rattle.pages_area.proofs.kept.let_go.Goals as goal

pub pages-init : goal.pages-init
pages-init c = record { left = sym (outside-none c.args.first (kept_of c.args.kept.now.entries)); order = c.requires.order }

pub pages-preserved : goal.pages-preserved
pages-preserved c =
    let one = ap (λ d. kept_of d.entries) c.pop.ensures.entries ∙ removed c.pages.page-counter c.pages.kept.entries c.pages.invariant.order.distinct in
    record {
      left = one ∙ ap (without_page c.pages.page-counter) c.pages.invariant.left ∙ outside-more c.args.first c.pages.page-counter (kept_of c.args.kept.now.entries) (omega arith);
      order = order-filter (λ k. not (nat_eq c.pages.page-counter k.page)) c.pages.kept c.pop.new.self c.pages.invariant.order (ap (λ d. d.cap) c.pop.ensures.entries) one;
    }
