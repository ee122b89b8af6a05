use Rattle.std.proofs.Common.{◌≡◌, ◌+◌, ap, subst, sym, ◌∙◌}
use Rattle.std.proofs.lemmas.List.Elements.{All-contains}
use Rattle.std.proofs.lemmas.Result.{on_err_weaker}
use Rattle.pages_area.specs.Caches.{Kept, IsHeld, StandsFor}
use Rattle.pages_area.specs.Inside.{kept_of}
use Rattle.pages_area.proofs.CacheLemmas.{all-asked, stands-answered}
use Rattle.pages_area.proofs.cache.PageCache.read_page.Goals as goal

pub returns-then-copy_kept-clause-stays : goal.returns-then-copy_kept-clause-stays
returns-then-copy_kept-clause-stays g c = λ tells stands.
    let e = c.copy_kept.ensures in
    let k : Kept = record { page = c.args.extent.first + c.args.index; bytes = c.copy_kept.new.buf } in
    let stood = subst (λ cache. StandsFor cache (g.D.Disk.disk c.args.disk.now).holds.pages) (sym c.self.view_is) stands in
    subst (λ cache. StandsFor cache (g.D.Disk.disk c.args.disk.now).holds.pages) (sym (e.moved c.if-copy_kept.true))
    (all-asked (IsHeld _) 1024 k (kept_of c.self.inside.kept.entries) (All-contains (IsHeld _) _ k stood (e.piece c.if-copy_kept.true)) stood)

pub returns-clause-stays : goal.returns-clause-stays
returns-clause-stays g c = λ tells stands.
    let e = c.read_missed.ensures in
    let k : Kept = record { page = c.args.extent.first + c.args.index; bytes = c.read_missed.new.buf } in
    let was : c.args.self.now ≡ kept_of c.copy_kept.new.kept.entries = sym c.self.view_is ∙ sym (ap (λ d. kept_of d.entries) (c.copy_kept.ensures.same c.if-copy_kept.false)) in
    let pages : (g.D.Disk.disk c.read_missed.new.disk).holds.pages ≡ (g.D.Disk.disk c.args.disk.now).holds.pages = ap (λ d. d.holds.pages) e.same in
    subst (λ bytes. StandsFor (kept_of c.read_missed.new.kept.entries) bytes) (sym pages)
    (stands-answered c.read_missed.result k (kept_of c.copy_kept.new.kept.entries) _ (g.D.Disk.disk c.args.disk.now).holds.pages (e.piece tells) e.asked
    (on_err_weaker c.read_missed.result (ap (λ d. kept_of d.entries)) e.kept) (subst (λ cache. StandsFor cache (g.D.Disk.disk c.args.disk.now).holds.pages) was stands))
