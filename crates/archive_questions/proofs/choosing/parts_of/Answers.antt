use Rattle.std.proofs.Common.{arith, rules, ◌≡◌, ℕ, ◌+◌, ◌++◌, ◌∷◌, List, [], length, take, drop, Err, append_assoc, ap, sym, subst, ◌∙◌}
use Rattle.std.proofs.lemmas.List.{take_more, take-append-drop, length_push}
use Rattle.machine_model.specs.States.{DiskState}
use Rattle.query_eval.specs.declared.part.Part.{Part}
use Rattle.model_archive.specs.Plans.{plan_of}
use Rattle.model_archive.specs.Chosen.{AreChosen, IsChosenOf, IsDamagedFor, pieces_chosen, pieces_for}
use Rattle.archive_hand.specs.Asking.{HasAsked}
use Rattle.pages_sublists.specs.declared.why.FetchError.{FetchError}
use Rattle.archive_questions.proofs.CacheLemmas.{asked_joins, but_cache_joins, pieces_more}
use Rattle.archive_hand.proofs.CacheLemmas.{stands_but_cache}
use Rattle.machine_model.proofs.MomentLemmas.{reads_join}
use Rattle.archive_questions.proofs.ChosenLemmas.{chosen_more, handed, reaches_on}
use Rattle.archive_questions.proofs.choosing.parts_of.Goals as goal

pub returns-in_err-part-clause-fetched : goal.returns-in_err-part-clause-fetched
returns-in_err-part-clause-fetched g c = record {
  made = search rules;
  asked = search rules;
  damaged = λ tells h stands cached d is.
      let was = c.loop-word.invariant in
      let first = g.D.Disk.disk c.args.disk.now in
      let pages : (g.D.Disk.disk c.loop-word.disk).holds.pages ≡ first.holds.pages = ap (λ (x : DiskState). x.holds.pages) was.same in
      let here = c.in_err-part.ensures.damaged tells h (stands_but_cache c.args.archive.now c.loop-word.archive h was.but_cache stands) (was.cached tells cached) d
      (ap (λ (e : FetchError). Err e) (handed c.from_residual.result c.in_err-part.field-0.0 d c.from_residual.ensures.1 is)) in
      let index = c.loop-word.word-index in
      let words = c.args.words.now in
      let next = take_more words index c.word-item.result c.loop-word-test.true ∙ ap (λ (w : List ℕ). take index words ++ w ∷ []) (sym c.word-item.is) in
      record {
        front = take index words;
        word = c.word-item.result;
        back = drop (index + 1) words;
        words_are = sym (take-append-drop (index + 1) words) ∙ ap (λ (l : List (List ℕ)). l ++ drop (index + 1) words) next ∙ append_assoc (take index words) (c.word-item.result ∷ []) (drop (index + 1) words);
        parts = c.loop-word.parts.items;
        are_chosen = was.chosen tells h stands cached;
        damaged = subst (λ (ps : List ℕ). IsDamagedFor h ps c.word-item.result c.args.span.from c.args.span.to d) pages here;
      };
}

pub returns-in_err-part-clause-after : goal.returns-in_err-part-clause-after
returns-in_err-part-clause-after g c = record {
  same = reads_join (g.D.Disk.disk c.args.disk.now) (g.D.Disk.disk c.loop-word.disk) (g.D.Disk.disk c.part_of.new.disk) c.loop-word.invariant.same c.in_err-part.ensures.after.same;
  but_cache = but_cache_joins c.args.archive.now c.loop-word.archive c.part_of.new.archive c.loop-word.invariant.but_cache c.in_err-part.ensures.after.but_cache;
  cached = λ tells cached. c.in_err-part.ensures.after.cached tells (c.loop-word.invariant.cached tells cached);
  failed = search rules;
}

pub returns-in-Err-clause-after : goal.returns-in-Err-clause-after
returns-in-Err-clause-after g c = record {
  same = reads_join (g.D.Disk.disk c.args.disk.now) (g.D.Disk.disk c.loop-word.disk) (g.D.Disk.disk c.part_of.new.disk) c.loop-word.invariant.same c.part_of.ensures.after.same;
  but_cache = but_cache_joins c.args.archive.now c.loop-word.archive c.part_of.new.archive c.loop-word.invariant.but_cache c.part_of.ensures.after.but_cache;
  cached = λ tells cached. c.part_of.ensures.after.cached tells (c.loop-word.invariant.cached tells cached);
  failed = search rules;
}

pub loop-word-preserved : goal.loop-word-preserved
loop-word-preserved g c =
    let was = c.loop-word.invariant in
    let done = c.in_ok-part.ensures in
    let part = c.in_ok-part.part in
    let put = c.in-Ok.ensures.items in
    let a = c.args.span.from in
    let b = c.args.span.to in
    let first = g.D.Disk.disk c.args.disk.now in
    let before = g.D.Disk.disk c.loop-word.disk in
    let after = g.D.Disk.disk c.part_of.new.disk in
    let words = take c.loop-word.word-index c.args.words.now in
    let word = c.word-item.result in
    let next = take_more c.args.words.now c.loop-word.word-index word c.loop-word-test.true ∙ ap (λ (w : List ℕ). words ++ w ∷ []) (sym c.word-item.is) in
    let pages : before.holds.pages ≡ first.holds.pages = ap (λ (d : DiskState). d.holds.pages) was.same in
    record {
      only = g.met.D.Disk.only_joins _ _ _ was.only done.only;
      same = reads_join first before after was.same done.after.same;
      but_cache = but_cache_joins c.args.archive.now c.loop-word.archive c.part_of.new.archive was.but_cache done.after.but_cache;
      cached = λ tells cached. done.after.cached tells (was.cached tells cached);
      within = reaches_on before after c.loop-word.archive c.part_of.new.archive done.after.same done.after.but_cache was.within;
      many = omega (arith, ap length put, length_push c.loop-word.parts.items part, was.many);
      chosen = λ tells h stands cached.
          let K : List ℕ → Type 0 = λ ps. IsChosenOf h ps word (plan_of h word) a b part.list.items part.read in
          let here = subst K pages (done.chosen tells h (stands_but_cache c.args.archive.now c.loop-word.archive h was.but_cache stands) (was.cached tells cached)) in
          let more = chosen_more a b h first.holds.pages words c.loop-word.parts.items word part (was.chosen tells h stands cached) here in
          let W : List (List ℕ) → Type 0 = λ l. AreChosen h first.holds.pages a b l (c.loop-word.parts.items ++ part ∷ []) in
          subst (λ (l : List Part). AreChosen h first.holds.pages a b (take (c.loop-word.word-index + 1) c.args.words.now) l) (sym put) (subst W (sym next) more);
      asked = λ tells h stands cached.
          let K : List ℕ → Type 0 = λ ps. HasAsked (pieces_chosen ps (plan_of h word) a b) c.loop-word.archive.shelf.cache c.part_of.new.archive.shelf.cache before after in
          let here = subst K pages (done.asked tells h (stands_but_cache c.args.archive.now c.loop-word.archive h was.but_cache stands) (was.cached tells cached)) in
          asked_joins (pieces_for h first.holds.pages a b words) (pieces_chosen first.holds.pages (plan_of h word) a b) (pieces_for h first.holds.pages a b (take (c.loop-word.word-index + 1) c.args.words.now))
          c.args.archive.now.shelf.cache c.loop-word.archive.shelf.cache c.part_of.new.archive.shelf.cache first before after (was.asked tells h stands cached) here
          (ap (pieces_for h first.holds.pages a b) next ∙ pieces_more h first.holds.pages a b words word);
    }
