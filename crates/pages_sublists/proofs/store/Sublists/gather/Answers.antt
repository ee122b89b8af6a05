use Rattle.std.proofs.Common.{[], true, Err, sym, subst}
use Rattle.pages_area.specs.Caches.{StandsFor}
use Rattle.pages_sublists.specs.Caching.{SublistsState}
use Rattle.pages_sublists.specs.Fetching.{IfDamaged}
use Rattle.pages_sublists.specs.Segments.{seconds}
use Rattle.pages_sublists.specs.Gathering.{chosen, Gathers}
use Rattle.pages_sublists.specs.Joining.{AreFetched, JoinInTurn, StopsAt}
use Rattle.pages_sublists.proofs.GatherLemmas.{if_damaged}
use Rattle.pages_sublists.proofs.FetchLemmas.{gathers_clash, gathers_all, gathers_stop, some_left}
use Rattle.pages_sublists.proofs.store.Sublists.gather.Goals as goal

pub returns-in-Err-clause-damaged : goal.returns-in-Err-clause-damaged
returns-in-Err-clause-damaged g c = λ tells known.
    let h = c.args.horizon.seconds in
    let pages = (g.D.Disk.disk c.args.disk.now).holds.pages in
    let all = chosen c.args.span.from c.args.span.to h true (seconds c.args.cuts.now) c.args.places.now in
    let lists = c.fetch_all-fetched.new.lists.items in
    let stands = subst (λ (s : SublistsState). StandsFor s.cache pages) (sym c.self.view_is) known in
    let left = some_left (λ rest. AreFetched c.args.layout h pages all lists rest) (λ rest e. IfDamaged (StopsAt c.args.layout h pages rest) e) c.fetch_all-fetched.result (c.fetch_all-fetched.ensures.fetched tells stands) (c.fetch_all-fetched.ensures.stopped tells stands) in
    if_damaged (λ d. JoinInTurn lists [] (Err d)) (λ d. Gathers c.args.layout h pages all [] 0 (Err d))
    (λ d clash. gathers_clash c.args.layout h pages all lists left.0 [] 0 d left.1 clash) c.in-Err.error c.in-Err.ensures.damaged

pub returns-clause-gathered : goal.returns-clause-gathered
returns-clause-gathered g c = λ tells known.
    let pages = (g.D.Disk.disk c.args.disk.now).holds.pages in
    let all = chosen c.args.span.from c.args.span.to c.args.horizon.seconds true (seconds c.args.cuts.now) c.args.places.now in
    let stands = subst (λ (s : SublistsState). StandsFor s.cache pages) (sym c.self.view_is) known in
    gathers_all c.args.layout c.args.horizon.seconds pages all c.fetch_all-fetched.new.lists.items c.in-Ok.list.items c.in-Ok-fetched.read (c.in-Ok-fetched.ensures.fetched tells stands) c.in-Ok.ensures.joined c.in-Ok-fetched.ensures.read

pub returns-in-Err-fetched-clause-damaged : goal.returns-in-Err-fetched-clause-damaged
returns-in-Err-fetched-clause-damaged g c = λ tells known.
    let h = c.args.horizon.seconds in
    let pages = (g.D.Disk.disk c.args.disk.now).holds.pages in
    let all = chosen c.args.span.from c.args.span.to h true (seconds c.args.cuts.now) c.args.places.now in
    let stands = subst (λ (s : SublistsState). StandsFor s.cache pages) (sym c.self.view_is) known in
    let (rest, stopped) = c.in-Err-fetched.ensures.stopped tells stands in
    if_damaged (λ d. StopsAt c.args.layout h pages rest d) (λ d. Gathers c.args.layout h pages all [] 0 (Err d))
    (λ d stops. gathers_stop c.args.layout h pages all c.fetch_all-fetched.new.lists.items rest c.in-Ok.list.items d stopped.0 c.in-Ok.ensures.joined stops) c.in-Err-fetched.error stopped.1

pub returns-in-Err-clause-stays : goal.returns-in-Err-clause-stays
returns-in-Err-clause-stays g c = λ tells known. c.fetch_all-fetched.ensures.stays tells (subst (λ (s : SublistsState). StandsFor s.cache (g.D.Disk.disk c.args.disk.now).holds.pages) (sym c.self.view_is) known)

pub returns-in-Err-fetched-clause-stays : goal.returns-in-Err-fetched-clause-stays
returns-in-Err-fetched-clause-stays g c = λ tells known. c.fetch_all-fetched.ensures.stays tells (subst (λ (s : SublistsState). StandsFor s.cache (g.D.Disk.disk c.args.disk.now).holds.pages) (sym c.self.view_is) known)

pub returns-clause-stays : goal.returns-clause-stays
returns-clause-stays g c = λ tells known. c.fetch_all-fetched.ensures.stays tells (subst (λ (s : SublistsState). StandsFor s.cache (g.D.Disk.disk c.args.disk.now).holds.pages) (sym c.self.view_is) known)
