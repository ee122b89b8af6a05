use Rattle.std.proofs.Common.{arith, rules, ◌≡◌, ℕ, ◌+◌, ◌++◌, ◌∷◌, List, [], length, take, Err, ap, sym, subst, ◌∙◌}
use Rattle.std.proofs.lemmas.List.{take_all, take_more, length_push}
use Rattle.machine_model.specs.States.{DiskState}
use Rattle.pages_sublists.specs.declared.why.FetchError.{FetchError}
use Rattle.query_best.specs.Held.{IsBadOf}
use Rattle.query_best.specs.declared.held.HeldWord.{HeldWord}
use Rattle.model_archive.specs.Chosen.{pieces_chosen, pieces_for}
use Rattle.model_archive.specs.Holding.{HoldsPlans}
use Rattle.model_archive.specs.Plans.{plan_of}
use Rattle.machine_model.proofs.MomentLemmas.{reads_join}
use Rattle.archive_hand.specs.Asking.{HasAsked}
use Rattle.archive_hand.proofs.CacheLemmas.{stands_but_cache}
use Rattle.archive_questions.specs.Bests.{AreHeld, IsDamagedAmong, IsDamagedOne}
use Rattle.archive_questions.proofs.BestLemmas.{bad-more, damaged-among, held-more}
use Rattle.archive_questions.proofs.CacheLemmas.{asked_joins, but_cache_joins, pieces_more}
use Rattle.archive_questions.proofs.ChosenLemmas.{handed, reaches_on}
use Rattle.archive_questions.proofs.holding.held_of_all.Goals as goal

pub returns-in_err-one-clause-after : goal.returns-in_err-one-clause-after
returns-in_err-one-clause-after g c = record {
  same = reads_join (g.D.Disk.disk c.args.disk.now) (g.D.Disk.disk c.loop-word.disk) (g.D.Disk.disk c.held_of.new.disk) c.loop-word.invariant.same c.in_err-one.ensures.after.same;
  but_cache = but_cache_joins c.args.archive.now c.loop-word.archive c.held_of.new.archive c.loop-word.invariant.but_cache c.in_err-one.ensures.after.but_cache;
  cached = λ tells cached. c.in_err-one.ensures.after.cached tells (c.loop-word.invariant.cached tells cached);
  failed = search rules;
}

pub returns-in_default-clause-after : goal.returns-in_default-clause-after
returns-in_default-clause-after g c = record {
  same = reads_join (g.D.Disk.disk c.args.disk.now) (g.D.Disk.disk c.loop-word.disk) (g.D.Disk.disk c.held_of.new.disk) c.loop-word.invariant.same c.in_ok-one.ensures.after.same;
  but_cache = but_cache_joins c.args.archive.now c.loop-word.archive c.held_of.new.archive c.loop-word.invariant.but_cache c.in_ok-one.ensures.after.but_cache;
  cached = λ tells cached. c.in_ok-one.ensures.after.cached tells (c.loop-word.invariant.cached tells cached);
  failed = search rules;
}

pub returns-in-Err-clause-after : goal.returns-in-Err-clause-after
returns-in-Err-clause-after g c = record {
  same = reads_join (g.D.Disk.disk c.args.disk.now) (g.D.Disk.disk c.loop-word.disk) (g.D.Disk.disk c.held_of.new.disk) c.loop-word.invariant.same c.in_ok-one.ensures.after.same;
  but_cache = but_cache_joins c.args.archive.now c.loop-word.archive c.held_of.new.archive c.loop-word.invariant.but_cache c.in_ok-one.ensures.after.but_cache;
  cached = λ tells cached. c.in_ok-one.ensures.after.cached tells (c.loop-word.invariant.cached tells cached);
  failed = search rules;
}

pub returns-in_err-one-clause-fetched : goal.returns-in_err-one-clause-fetched
returns-in_err-one-clause-fetched g c = record {
  held = search rules;
  bad = search rules;
  asked = search rules;
  damaged = λ tells h stands cached d is.
      let was = c.loop-word.invariant in
      let first = g.D.Disk.disk c.args.disk.now in
      let pages : (g.D.Disk.disk c.loop-word.disk).holds.pages ≡ first.holds.pages = ap (λ (x : DiskState). x.holds.pages) was.same in
      let here = c.in_err-one.ensures.fetched.damaged tells h (stands_but_cache c.args.archive.now c.loop-word.archive h was.but_cache stands) (was.cached tells cached) d
      (ap (λ (e : FetchError). Err e) (handed c.from_residual.result c.in_err-one.field-0.0 d c.from_residual.ensures.1 is)) in
      damaged-among h first.holds.pages c.args.t.seconds c.args.words.now c.word-item.result d (c.loop-word.word-index, c.loop-word-test.true, sym c.word-item.is)
      (subst (λ (ps : List ℕ). IsDamagedOne h ps c.args.t.seconds c.word-item.result d) pages here);
}

pub loop-word-preserved : goal.loop-word-preserved
loop-word-preserved g c =
    let was = c.loop-word.invariant in
    let done = c.in_ok-one.ensures in
    let one = c.in_ok-one.one in
    let put = c.in-Ok.ensures.items in
    let t = c.args.t.seconds in
    let first = g.D.Disk.disk c.args.disk.now in
    let before = g.D.Disk.disk c.loop-word.disk in
    let after = g.D.Disk.disk c.held_of.new.disk in
    let words = take c.loop-word.word-index c.args.words.now in
    let word = c.word-item.result in
    let next = take_more c.args.words.now c.loop-word.word-index word c.loop-word-test.true ∙ ap (λ (w : List ℕ). words ++ w ∷ []) (sym c.word-item.is) in
    let pages : before.holds.pages ≡ first.holds.pages = ap (λ (d : DiskState). d.holds.pages) was.same in
    let sum : c.in-Some.more ≡ c.loop-word.read + one.read = omega (arith, c.in-Some.ensures) in
    record {
      only = g.met.D.Disk.only_joins _ _ _ was.only done.only;
      same = reads_join first before after was.same done.after.same;
      but_cache = but_cache_joins c.args.archive.now c.loop-word.archive c.held_of.new.archive was.but_cache done.after.but_cache;
      cached = λ tells cached. done.after.cached tells (was.cached tells cached);
      within = reaches_on before after c.loop-word.archive c.held_of.new.archive done.after.same done.after.but_cache was.within;
      many = omega (arith, ap length put, length_push c.loop-word.held.items one.word, was.many);
      held = λ tells h stands cached holds.
          let here = done.fetched.held tells h (stands_but_cache c.args.archive.now c.loop-word.archive h was.but_cache stands) (was.cached tells cached) (subst (λ (ps : List ℕ). HoldsPlans h ps) (sym pages) holds) in
          let more = held-more h t words c.loop-word.held.items c.loop-word.read one.read word one.word (was.held tells h stands cached holds) here in
          let W : List (List ℕ) → Type 0 = λ l. AreHeld h t l (c.loop-word.held.items ++ one.word ∷ []) (c.loop-word.read + one.read) in
          let L : List HeldWord → Type 0 = λ l. AreHeld h t (take (c.loop-word.word-index + 1) c.args.words.now) l (c.loop-word.read + one.read) in
          let R : ℕ → Type 0 = λ n. AreHeld h t (take (c.loop-word.word-index + 1) c.args.words.now) c.push.new.self.items n in
          subst R (sym sum) (subst L (sym put) (subst W (sym next) more));
      bad = λ tells h stands cached damage is.
          let here = done.fetched.bad tells h (stands_but_cache c.args.archive.now c.loop-word.archive h was.but_cache stands) (was.cached tells cached) in
          let more = bad-more h first.holds.pages t words c.loop-word.held.items word one.word damage (was.bad tells h stands cached)
          (λ block d l b. subst (λ (ps : List ℕ). IsDamagedOne h ps t word d) pages (here block d l b)) (subst (λ (l : List HeldWord). IsBadOf l damage) put is) in
          subst (λ (w : List (List ℕ)). IsDamagedAmong h first.holds.pages t w damage) (sym next) more;
      asked = λ tells h stands cached.
          let K : List ℕ → Type 0 = λ ps. HasAsked (pieces_chosen ps (plan_of h word) t (t + 1)) c.loop-word.archive.shelf.cache c.held_of.new.archive.shelf.cache before after in
          let here = subst K pages (done.fetched.asked tells h (stands_but_cache c.args.archive.now c.loop-word.archive h was.but_cache stands) (was.cached tells cached)) in
          asked_joins (pieces_for h first.holds.pages t (t + 1) words) (pieces_chosen first.holds.pages (plan_of h word) t (t + 1)) (pieces_for h first.holds.pages t (t + 1) (take (c.loop-word.word-index + 1) c.args.words.now))
          c.args.archive.now.shelf.cache c.loop-word.archive.shelf.cache c.held_of.new.archive.shelf.cache first before after (was.asked tells h stands cached) here
          (ap (pieces_for h first.holds.pages t (t + 1)) next ∙ pieces_more h first.holds.pages t (t + 1) words word);
    }

pub returns-clause-fetched : goal.returns-clause-fetched
returns-clause-fetched g c =
    let was = c.loop-word.invariant in
    let first = g.D.Disk.disk c.args.disk.now in
    let t = c.args.t.seconds in
    let whole : take c.loop-word.word-index c.args.words.now ≡ c.args.words.now = take_all c.loop-word.word-index c.args.words.now (omega (arith, c.loop-word-test.false)) in
    record {
      held = λ tells h stands cached holds.
          subst (λ (ws : List (List ℕ)). AreHeld h t ws c.loop-word.held.items c.loop-word.read) whole (was.held tells h stands cached holds);
      bad = λ tells h stands cached damage is.
          subst (λ (ws : List (List ℕ)). IsDamagedAmong h first.holds.pages t ws damage) whole (was.bad tells h stands cached damage is);
      asked = λ tells h stands cached.
          subst (λ (ws : List (List ℕ)). HasAsked (pieces_for h first.holds.pages t (t + 1) ws) c.args.archive.now.shelf.cache c.loop-word.archive.shelf.cache first (g.D.Disk.disk c.loop-word.disk)) whole (was.asked tells h stands cached);
      damaged = λ tells h stands cached damage is. absurd cc;
    }
