use Rattle.std.proofs.Common.{sym, subst}
use Rattle.pages_area.specs.Caches.{StandsFor}
use Rattle.pages_area.specs.CacheLaws.{LieIn}
use Rattle.pages_sublists.specs.Caching.{SublistsState}
use Rattle.pages_sublists.proofs.store.Sublists.fetch_frames.Goals as goal

pub returns-clause-found : goal.returns-clause-found
returns-clause-found g c = λ tells stands. c.frames_of.ensures.found tells (subst (λ (s : SublistsState). StandsFor s.cache (g.D.Disk.disk c.args.disk.now).holds.pages) (sym c.self.view_is) stands)

pub returns-clause-damaged : goal.returns-clause-damaged
returns-clause-damaged g c = λ tells stands. c.frames_of.ensures.damaged tells (subst (λ (s : SublistsState). StandsFor s.cache (g.D.Disk.disk c.args.disk.now).holds.pages) (sym c.self.view_is) stands)

pub returns-clause-stays : goal.returns-clause-stays
returns-clause-stays g c = λ tells stands. c.frames_of.ensures.stays tells (subst (λ (s : SublistsState). StandsFor s.cache (g.D.Disk.disk c.args.disk.now).holds.pages) (sym c.self.view_is) stands)

pub returns-clause-lie : goal.returns-clause-lie
returns-clause-lie g c = λ taken within lie. c.frames_of.ensures.lie taken within (subst (λ (s : SublistsState). LieIn taken s.cache) (sym c.self.view_is) lie)
