-- How a query ends: at a text that is none, at sublists that were not had, or with an answer; and errors that are handed on.
use Rattle.std.proofs.Common.{◌≡◌, ℕ, ◌+◌, ◌^◌, List, Result, Ok, Err, IfOk, OnOk, IsErrAnd, refl, ap, subst, sym, ◌∙◌}
use Rattle.std.proofs.lemmas.Result.{IfOk-weaker}
use Rattle.machine_model.specs.Areas.{Both}
use Rattle.pages_area.specs.Caches.{Kept, after_asking_all, missed_by_all}
use Rattle.machine_model.specs.States.{DiskState}
use Rattle.base_types.specs.declared.time.Time.{Time}
use Rattle.base_types.specs.declared.time.Span.{Span}
use Rattle.base_types.specs.declared.tolerance.Tolerance.{Tolerance}
use Rattle.base_commands.specs.declared.command.Command.TheVariants as commands
use Rattle.base_commands.specs.declared.command.Item.{Item}
use Rattle.base_commands.specs.declared.command.Item.TheVariants as items
use Rattle.base_commands.specs.declared.count.TopCount.{TopCount}
use Rattle.query_lang.specs.declared.error.QueryError.{QueryError}
use Rattle.query_lang.specs.declared.error.QueryError.TheVariants as queries
use Rattle.query_lang.specs.Grammar.{Query, IsRead}
use Rattle.query_lang.specs.Meaning.{words_of}
use Rattle.query_lang.specs.Tokens.{term_of}
use Rattle.query_eval.specs.declared.answer.Answer.{Answer}
use Rattle.query_eval.specs.declared.answer.Row.{Row}
use Rattle.query_eval.specs.declared.answer.Wanted.TheVariants.{First}
use Rattle.query_eval.specs.declared.spans.SpanAnswer.{SpanAnswer}
use Rattle.pages_sublists.specs.declared.why.Damage.{Damage}
use Rattle.pages_sublists.specs.declared.why.FetchError.{FetchError}
use Rattle.pages_sublists.specs.declared.why.FetchError.TheVariants as fetches
use Rattle.model_archive.specs.Chosen.{IsMadeAt, IsMadeOver, SpoilsAnswer, pieces_for}
use Rattle.model_archive.specs.declared.refusal.Refusal.{Refusal}
use Rattle.model_archive.specs.declared.refusal.Refusal.TheVariants as refusals
use Rattle.model_archive.specs.Histories.{History}
use Rattle.model_archive.specs.Rough.{IsMadeRough}
use Rattle.model_archive.specs.Steps.{Reply, Refused, Found, Spanned, Neared}
use Rattle.archive_entries.specs.declared.error.Declined.{Declined}
use Rattle.archive_entries.specs.declared.error.Declined.TheVariants as declines
use Rattle.archive_questions.specs.After.{AfterFetching, AfterNoted, AfterQuestion, Fetches, IsNoted}
use Rattle.archive_hand.specs.Asking.{HasAsked}
use Rattle.archive_questions.specs.Answering.{IsAnswerTo, IsNoQuery, IsWantedAt}
use Rattle.archive_questions.specs.Causes.{ask_error_of_query, asked_of}
use Rattle.archive_hand.specs.States.{ArchiveState, AreInStepBy, with_reads}
use Rattle.archive_hand.specs.Stored.{Store, Answers, MakesOver, MakesRough, MakesTop, Spoils, StoreStep, asking}
use Rattle.archive_hand.specs.Takes.{TakesBy}
use Rattle.archive_questions.specs.Endings.{answered, found, neared, spanned, unanswered}
use Rattle.archive_questions.specs.declared.approximating.RoughAnswer.{RoughAnswer}
use Rattle.archive_questions.specs.declared.error.AskError.{AskError}
use Rattle.archive_questions.specs.declared.error.AskError.TheVariants as asks
use Rattle.plans_share.specs.Asked.{noted_all}
use Rattle.plans_share.specs.declared.asked.Asking.{Asking}
use Rattle.archive_hand.proofs.ByReadsLemmas.{keeps_leads, keeps_reads, reads_by}
use Rattle.archive_questions.proofs.TakeLemmas.{IsAnsweredBy, no_reads, question_by}

-- where there is no answer, and nothing was asked for
unanswered_after : {T : Type 0} (tells : Type 0) (phrase : List ℕ) (from to : ℕ) (IsMade : History → Query → T → Type 0) (error : AskError) (d : DiskState) (a : ArchiveState) → (error ≡ asks.Failed → ⊥)
    → ((why : Refusal) → error ≡ asks.Refused why → IsNoQuery phrase why) → ((damage : Damage) → error ≡ asks.Damaged damage → ⊥) → AfterQuestion {T = T} tells phrase from to IsMade (Err error) d d a a
unanswered_after tells phrase from to IsMade error d a unfailed none undamaged = record {
  same = refl;
  but_cache = refl;
  cached = λ told cached. cached;
  failed = λ failed. absurd (unfailed cc);
  refused = λ why refused. none why cc;
  unasked = λ why refused. (refl, refl);
  asked = λ ok. absurd cc;
  made = λ told h stands cached. tt;
  damaged = λ told h stands cached damage damaged. absurd (undamaged damage cc);
}

-- after a text that is none
pub after_no_query : {T : Type 0} (tells : Type 0) (text phrase : List ℕ) (from to : ℕ) (IsMade : History → Query → T → Type 0) (error : AskError) (why : QueryError) (d : DiskState) (a : ArchiveState) → text ≡ phrase
    → error ≡ ask_error_of_query why → ((place : ℕ) → ◌≡◌ {A = Result Query QueryError} (Err why) (Err (queries.BadQuery place)) → IsRead term_of text (Err place)) → AfterQuestion {T = T} tells phrase from to IsMade (Err error) d d a a
after_no_query tells text phrase from to IsMade error (queries.BadQuery place) d a same is bad =
    let read = subst (λ (t : List ℕ). IsRead term_of t (Err place)) same (bad place refl) in
    unanswered_after tells phrase from to IsMade error d a (λ failed. absurd cc) (λ why refused. (let at : why ≡ refusals.BadQuery place = cc in (place, read, at))) (λ damage damaged. absurd cc)
after_no_query tells text phrase from to IsMade error queries.Memory d a same is bad =
    unanswered_after tells phrase from to IsMade error d a (λ failed. absurd cc) (λ why refused. absurd cc) (λ damage damaged. absurd cc)

-- after sublists were fetched for a query
pub after_fetching : {T : Type 0} (tells : Type 0) (text phrase : List ℕ) (from to : ℕ) (IsMade : History → Query → T → Type 0) (query : Query) (r : Result T AskError) (fetched : Result T FetchError) (d e : DiskState) (x y : ArchiveState)
    → text ≡ phrase → IsRead term_of text (Ok query) → r ≡ asked_of fetched → AfterFetching tells fetched d e x y
    → Fetches tells from to (words_of query) (λ h answer. IsMade h query answer) fetched d e x y → AfterQuestion tells phrase from to IsMade r d e x y
after_fetching {T} tells text phrase from to IsMade query r fetched d e x y same read is after fetch =
    let is_read : IsRead term_of phrase (Ok query) = subst (λ (t : List ℕ). IsRead term_of t (Ok query)) same read in
    record {
      same = after.same;
      but_cache = after.but_cache;
      cached = after.cached;
      failed = λ failed. after.failed (fails fetched (sym is ∙ failed));
      refused = λ why refused. absurd (allowed fetched why (sym is ∙ refused));
      unasked = λ why refused. absurd (allowed fetched why (sym is ∙ refused));
      asked = λ ok. (query, is_read);
      made = λ told h stands cached. (
          let R : Result T AskError → Type 0 = λ s. IfOk s (λ answer. IsAnswerTo h from to phrase (λ q. IsMade h q answer) x.shelf.cache y.shelf.cache d e) in
          subst R (sym is) (told_so fetched (λ answer made asked. (query, is_read, made, asked)) (fetch.made told h stands cached) (fetch.asked told h stands cached))
          );
      damaged = λ told h stands cached damage spoiled. record { query = query; is_read = is_read; first = fetch.damaged told h stands cached damage (spoils fetched damage (sym is ∙ spoiled)) };
    }
  where
    fails : (s : Result T FetchError) → asked_of s ≡ Err asks.Failed → s ≡ Err fetches.Failed
    fails (Ok answer) failed = absurd cc
    fails (Err fetches.Failed) failed = refl
    fails (Err (fetches.Damaged damage)) failed = absurd cc
    fails (Err fetches.Memory) failed = absurd cc

    allowed : (s : Result T FetchError) (why : Refusal) → asked_of s ≡ Err (asks.Refused why) → ⊥
    allowed (Ok answer) why refused = absurd cc
    allowed (Err fetches.Failed) why refused = absurd cc
    allowed (Err (fetches.Damaged damage)) why refused = absurd cc
    allowed (Err fetches.Memory) why refused = absurd cc

    spoils : (s : Result T FetchError) (damage : Damage) → asked_of s ≡ Err (asks.Damaged damage) → s ≡ Err (fetches.Damaged damage)
    spoils (Ok answer) damage spoiled = absurd cc
    spoils (Err fetches.Failed) damage spoiled = absurd cc
    spoils (Err (fetches.Damaged other)) damage spoiled = let same : other ≡ damage = cc in ap (λ (x : Damage). Err (fetches.Damaged x)) same
    spoils (Err fetches.Memory) damage spoiled = absurd cc

    told_so : {P Q : T → Type 0} {A : Type 0} (s : Result T FetchError) → ((answer : T) → P answer → A → Q answer) → IfOk s P → OnOk s A → IfOk (asked_of s) Q
    told_so (Ok answer) then made asked = then answer made asked
    told_so (Err error) then made asked = tt

-- what is so of what an answer is made from, is so after the question
pub after_weaker : {T : Type 0} (tells : Type 0) (phrase : List ℕ) (from to : ℕ) (IsMade IsSo : History → Query → T → Type 0) (r : Result T AskError) (d e : DiskState) (x y : ArchiveState)
    → ((h : History) (query : Query) (answer : T) → IsMade h query answer → IsSo h query answer) → AfterQuestion tells phrase from to IsMade r d e x y → AfterQuestion tells phrase from to IsSo r d e x y
after_weaker {T} tells phrase from to IsMade IsSo r d e x y so after = record {
  same = after.same;
  but_cache = after.but_cache;
  cached = after.cached;
  failed = after.failed;
  refused = after.refused;
  unasked = after.unasked;
  asked = after.asked;
  made = λ told h stands cached. IfOk-weaker r _ _ (λ answer made. (made.0, made.1, so h made.0 answer made.2, made.3)) (after.made told h stands cached);
  damaged = after.damaged;
}

-- ---- a query is a step of the abstract archive, with the cache that it leaves

-- ---- by what reads give

-- what was asked for a query, as the store that it leaves
pub asked_of_query : (s : Store) (d e : DiskState) (x y : ArchiveState) (pieces : List Kept) → AreInStepBy d x s → HasAsked pieces x.shelf.cache y.shelf.cache d e → with_reads s y e ≡ asking s pieces
asked_of_query s d e x y pieces in_step has =
    let count : e.bytes_read.pages ≡ d.bytes_read.pages + missed_by_all pieces x.shelf.cache = ap (λ (b : Both ℕ). b.pages) has.count in
    let read : e.bytes_read.pages ≡ s.read + missed_by_all pieces s.kept = rw (in_step.kept_are, in_step.read_is) at count in
    let kept : y.shelf.cache ≡ after_asking_all pieces s.kept = rw in_step.kept_are at has.cache in
    ap (λ (ks : List Kept). record s { kept = ks; read = e.bytes_read.pages }) kept ∙ ap (λ (n : ℕ). record s { kept = after_asking_all pieces s.kept; read = n }) read

-- a query is a step, with the cache that it leaves, or what of it is damaged is told
query_by : {T tells : Type 0} (Makes : List ℕ → Query → Reply → Type 0) (s : Store) (item : Item) (phrase : List ℕ) (from to : ℕ) (IsMade : History → Query → T → Type 0) (reply : T → Reply) (r : Result T AskError) (d e : DiskState) (x y : ArchiveState)
    → tells → ((one : Reply) (next : Store) → Answers (Makes s.pages) s from to phrase one next → StoreStep s item one next) → ((damage : Damage) → SpoilsAnswer s.history s.pages from to phrase damage → Spoils s item damage)
    → ((query : Query) (answer : T) → IsMade s.history query answer → Makes d.holds.pages query (reply answer)) → AreInStepBy d x s → AfterQuestion tells phrase from to IsMade r d e x y → TakesBy s item (answered reply r) d e y
query_by {T} {tells} Makes s item phrase from to IsMade reply r d e x y told step spoils made in_step after =
    question_by (λ one. Answers (Makes s.pages) s from to phrase one (with_reads s y e)) s item (answered reply r) d e x y (λ one is. step one (with_reads s y e) is) after.same after.but_cache (after.cached told in_step.cached) in_step (go r after)
  where
    go : (q : Result T AskError) → AfterQuestion tells phrase from to IsMade q d e x y → IsAnsweredBy (λ one. Answers (Makes s.pages) s from to phrase one (with_reads s y e)) (Spoils s item) (answered reply q)
    go (Ok answer) after =
        let (query, read, is, has) = after.made told s.history in_step.stands in_step.cached in
        let pieces = λ (pages : List ℕ). pieces_for s.history pages from to (words_of query) in (
          Ok query,
          read,
          subst (λ (pages : List ℕ). Makes pages query (reply answer)) in_step.pages_are (made query answer is),
          subst (λ (pages : List ℕ). with_reads s y e ≡ asking s (pieces pages)) in_step.pages_are (asked_of_query s d e x y (pieces d.holds.pages) in_step has),
        )
    go (Err (asks.Refused why)) after =
        let (place, read, is) = after.refused why refl in
        let (same, kept) = after.unasked why refl in
        (Err place, read, ap Refused is, ap (λ (v : DiskState). with_reads s y v) same ∙ ap (λ (z : ArchiveState). with_reads s z d) kept ∙ no_reads s d x in_step)
    go (Err (asks.Damaged damage)) after =
        spoils damage (subst (λ (pages : List ℕ). SpoilsAnswer s.history pages from to phrase damage) in_step.pages_are (after.damaged told s.history in_step.stands in_step.cached damage refl))
    go (Err asks.Failed) after = tt
    go (Err asks.Memory) after = tt

-- a query that is noted is a step, with the cache that it leaves and its words noted
noted_by : (d : DiskState) (a : ArchiveState) (s : Store) (words : List (List ℕ)) (at : Time) → AreInStepBy d a s → AreInStepBy d (record a { asked = noted_all a.asked words at }) (record s { asked = noted_all s.asked words at })
noted_by d a s words at in_step = record {
  stands = (let stands = in_step.stands in record {
    loadable = stands.loadable;
    end_is = stands.end_is;
    length_is = stands.length_is;
    changes_are = stands.changes_are;
    index_is = stands.index_is;
    plans_are = stands.plans_are;
    pages_are = stands.pages_are;
    marked_is = stands.marked_is;
    under_way = stands.under_way;
  });
  asked_are = ap (λ (asked : List Asking). noted_all asked words at) in_step.asked_are;
  journal = in_step.journal;
  pages_are = in_step.pages_are;
  kept_are = in_step.kept_are;
  read_is = in_step.read_is;
  job_is = in_step.job_is;
  live = in_step.live;
  same = in_step.same;
  cached = in_step.cached;
}

pub find_by : {tells : Type 0} (s : Store) (at : Time) (phrase : List ℕ) (r : Result Answer AskError) (d e : DiskState) (x z : ArchiveState) → tells → AreInStepBy d x s
    → AfterNoted tells phrase at (λ h query answer. IsMadeAt h d.holds.pages at.seconds query answer.rows.items answer.read) r d e x z
    → TakesBy s (items.Command (commands.Find at phrase)) (found r) d e z
find_by {tells} s at phrase r d e x z told in_step noted = go r noted.after noted.noted
  where
    y : ArchiveState
    y = noted.answered

    IsMade : History → Query → Answer → Type 0
    IsMade h query answer = IsMadeAt h d.holds.pages at.seconds query answer.rows.items answer.read

    -- where there is no answer
    unanswered_by : (error : AskError) → AfterQuestion {T = Answer} tells phrase at.seconds (at.seconds + 1) IsMade (Err error) d e x y
        → IsAnsweredBy (λ one. StoreStep s (items.Command (commands.Find at phrase)) one (with_reads s y e)) (Spoils s (items.Command (commands.Find at phrase))) (unanswered error)
        → TakesBy s (items.Command (commands.Find at phrase)) (unanswered error) d e y
    unanswered_by error after is =
        question_by (λ one. StoreStep s (items.Command (commands.Find at phrase)) one (with_reads s y e)) s (items.Command (commands.Find at phrase)) (unanswered error) d e x y (λ one step. step) after.same after.but_cache
        (after.cached told in_step.cached) in_step is

    go : (q : Result Answer AskError) → AfterQuestion tells phrase at.seconds (at.seconds + 1) IsMade q d e x y → IsNoted phrase at q y z → TakesBy s (items.Command (commands.Find at phrase)) (found q) d e z
    go (Ok answer) after (query, is_read, is) =
        let (asked, read, made, has) = after.made told s.history in_step.stands in_step.cached in
        let pieces = λ (pages : List ℕ). pieces_for s.history pages at.seconds (at.seconds + 1) (words_of asked) in
        let answered = with_reads s y e in
        let next = record answered { asked = noted_all s.asked (words_of query) at } in
        let there = reads_by s d e x y in_step after.same after.but_cache (after.cached told in_step.cached) in
        let A : ArchiveState → Type 0 = λ a. AreInStepBy e a next in (
          next,
          record {
            step = (
              (
                Ok asked,
                read,
                (answer.rows.items, answer.read, subst (λ (pages : List ℕ). IsMadeAt s.history pages at.seconds asked answer.rows.items answer.read) in_step.pages_are made, refl),
                subst (λ (pages : List ℕ). answered ≡ asking s (pieces pages)) in_step.pages_are (asked_of_query s d e x y (pieces d.holds.pages) in_step has),
              ),
              (Ok query, is_read, refl),
            );
            leads = keeps_leads s next d e (keeps_reads d e x s in_step after.same);
            still = λ none. (refl, refl);
          },
          subst A (sym is) (noted_by e y answered (words_of query) at there),
        )
    go (Err (asks.Refused why)) after same =
        let (place, read, is) = after.refused why refl in
        let (unread, kept) = after.unasked why refl in
        let none = ap (λ (v : DiskState). with_reads s y v) unread ∙ ap (λ (a : ArchiveState). with_reads s a d) kept ∙ no_reads s d x in_step in
        subst (λ (a : ArchiveState). TakesBy s (items.Command (commands.Find at phrase)) (unanswered (asks.Refused why)) d e a) (sym same)
        (unanswered_by (asks.Refused why) after ((Err place, read, ap Refused is, none), (Err place, read, refl)))
    go (Err (asks.Damaged damage)) after same =
        subst (λ (a : ArchiveState). TakesBy s (items.Command (commands.Find at phrase)) (unanswered (asks.Damaged damage)) d e a) (sym same)
        (unanswered_by (asks.Damaged damage) after (subst (λ (pages : List ℕ). SpoilsAnswer s.history pages at.seconds (at.seconds + 1) phrase damage) in_step.pages_are (after.damaged told s.history in_step.stands in_step.cached damage refl)))
    go (Err asks.Failed) after same = subst (λ (a : ArchiveState). TakesBy s (items.Command (commands.Find at phrase)) (unanswered asks.Failed) d e a) (sym same) (unanswered_by asks.Failed after tt)
    go (Err asks.Memory) after same = subst (λ (a : ArchiveState). TakesBy s (items.Command (commands.Find at phrase)) (unanswered asks.Memory) d e a) (sym same) (unanswered_by asks.Memory after tt)

pub top_by : {tells : Type 0} (s : Store) (count : TopCount) (at : Time) (phrase : List ℕ) (r : Result Answer AskError) (d e : DiskState) (x y : ArchiveState) → tells → AreInStepBy d x s
    → AfterQuestion tells phrase at.seconds (at.seconds + 1) (λ h query answer. IsWantedAt (First count.number) h d.holds.pages at.seconds query answer.rows.items answer.read) r d e x y
    → TakesBy s (items.Command (commands.Top count at phrase)) (found r) d e y
top_by s count at phrase r d e x y told in_step after =
    query_by (λ pages. MakesTop (record s { pages = pages }) count at) s (items.Command (commands.Top count at phrase)) phrase at.seconds (at.seconds + 1)
    (λ h query answer. IsWantedAt (First count.number) h d.holds.pages at.seconds query answer.rows.items answer.read) (λ (answer : Answer). Found answer.rows.items answer.read) r d e x y told (λ one next is. is) (λ damage is. is)
    (λ query answer made. (made.0, answer.read, made.1, ap (λ (rows : List Row). Found rows answer.read) made.2)) in_step after

pub rough_by : {tells : Type 0} (s : Store) (tolerance : Tolerance) (at : Time) (phrase : List ℕ) (r : Result RoughAnswer AskError) (d e : DiskState) (x y : ArchiveState) → tells → AreInStepBy d x s
    → AfterQuestion tells phrase 0 (2 ^ 40) (λ h query answer. IsMadeRough h d.holds.pages tolerance at.seconds query answer.rows.items answer.read) r d e x y
    → TakesBy s (items.Command (commands.Rough tolerance at phrase)) (neared r) d e y
rough_by s tolerance at phrase r d e x y told in_step after =
    query_by (λ pages. MakesRough (record s { pages = pages }) tolerance at) s (items.Command (commands.Rough tolerance at phrase)) phrase 0 (2 ^ 40)
    (λ h query answer. IsMadeRough h d.holds.pages tolerance at.seconds query answer.rows.items answer.read) (λ (answer : RoughAnswer). Neared answer.rows.items answer.read) r d e x y told (λ one next is. is) (λ damage is. is)
    (λ query answer made. (answer.rows.items, answer.read, made, refl)) in_step after

pub between_by : {tells : Type 0} (s : Store) (span : Span) (phrase : List ℕ) (r : Result SpanAnswer AskError) (d e : DiskState) (x y : ArchiveState) → tells → AreInStepBy d x s
    → AfterQuestion tells phrase span.from span.to (λ h query answer. IsMadeOver h d.holds.pages span.from span.to query answer.rows.items answer.read) r d e x y
    → TakesBy s (items.Command (commands.Between span phrase)) (spanned r) d e y
between_by s span phrase r d e x y told in_step after =
    query_by (λ pages. MakesOver (record s { pages = pages }) span) s (items.Command (commands.Between span phrase)) phrase span.from span.to
    (λ h query answer. IsMadeOver h d.holds.pages span.from span.to query answer.rows.items answer.read) (λ (answer : SpanAnswer). Spanned answer.rows.items answer.read) r d e x y told (λ one next is. is) (λ damage is. is)
    (λ query answer made. (answer.rows.items, answer.read, made, refl)) in_step after

-- ---- errors that are handed on

-- nothing is answered
pub none_answered : {T E : Type 0} (P : T → Type 0) (r : Result T E) (error : E) → IsErrAnd r (λ x. x ≡ error) → IfOk r P
none_answered P (Ok x) error handed = absurd handed
none_answered P (Err x) error handed = tt

-- a refusal
pub error_told : {T U : Type 0} (r : Result T Declined) (error : Declined) (why : Refusal) → IsErrAnd r (λ x. x ≡ error) → r ≡ Err (declines.Refused why)
    → ◌≡◌ {A = Result U Declined} (Err error) (Err (declines.Refused why))
error_told (Ok x) error why handed is = absurd cc
error_told (Err x) error why handed is = let same : error ≡ declines.Refused why = cc in ap (λ (y : Declined). Err y) same
