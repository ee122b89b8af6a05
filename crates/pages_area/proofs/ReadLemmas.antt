-- Pages that are asked for in turn.
use Rattle.std.proofs.Common.{◌≡◌, ℕ, ◌+◌, ◌*◌, ◌≤◌, List, [], ◌∷◌, ◌++◌, length, take, drop, All, refl, sym, ap, ◌∙◌, arith}
use Rattle.std.proofs.lemmas.List.{take_all}
use Rattle.std.proofs.lemmas.List.Elements.{All-cons, All-nil}
use Rattle.base_types.specs.declared.extent.Extent.{Extent}
use Rattle.machine_model.specs.declared.area.Area.TheVariants.{Pages}
use Rattle.machine_model.specs.Areas.{replaced}
use Rattle.machine_model.specs.States.{DiskState}
use Rattle.machine_model.specs.Calls.{OnlyReads}
use Rattle.pages_area.specs.Ranges.{bytes_in}
use Rattle.pages_area.specs.Caches.{Kept, after_asking, after_asking_all, missed, missed_by_all, IsHeld, IsGiven, AreGiven, StandsFor}
use Rattle.pages_area.specs.Pieces.{first_pieces}
use Rattle.pages_area.proofs.CacheLemmas.{all-asked, given-held}
use Rattle.pages_area.proofs.CacheLawLemmas.{askings-join, misses-join}
use Rattle.pages_area.proofs.PieceLemmas.{each-piece, pieces-held}

given-more : (pages : List ℕ) (ks : List Kept) (k : Kept) (cache : List Kept) → AreGiven pages cache ks → IsGiven pages (after_asking_all ks cache) k → AreGiven pages cache (ks ++ k ∷ [])
given-more pages [] k cache given last = (last, tt)
given-more pages (first ∷ ks) k cache given last = (given.0, given-more pages ks k (after_asking first cache) given.1 last)

-- what is given is what Pages holds, and the cache goes on standing for Pages
given-all : (pages : List ℕ) (ks : List Kept) (cache : List Kept) → StandsFor cache pages → AreGiven pages cache ks
    → All (IsHeld pages) ks × StandsFor (after_asking_all ks cache) pages
given-all pages [] cache stands given = (All-nil (IsHeld pages), stands)
given-all pages (k ∷ ks) cache stands given =
    let held = given-held k cache pages stands given.0 in
    let more = given-all pages ks (after_asking k cache) (all-asked (IsHeld pages) 1024 k cache held stands) given.1 in
    (All-cons (IsHeld pages) k ks held more.0, more.1)

-- these pieces were asked for
pub record Reads (tells : Type 0) (ks old new : List Kept) (before after : DiskState) : Type 0 where
  pub asked : new ≡ after_asking_all ks old
  pub same : OnlyReads before after
  pub given : tells → AreGiven before.holds.pages old ks
  pub count : tells → after.bytes_read ≡ replaced before.bytes_read Pages (before.bytes_read.pages + missed_by_all ks old)

-- and one more
pub reads-more : (tells : Type 0) (ks : List Kept) (k : Kept) (old mid new : List Kept) (before between after : DiskState)
    → Reads tells ks old mid before between → new ≡ after_asking k mid → OnlyReads between after
    → (tells → IsGiven between.holds.pages mid k) → (tells → after.bytes_read ≡ replaced between.bytes_read Pages (between.bytes_read.pages + missed k mid))
    → Reads tells (ks ++ k ∷ []) old new before after
reads-more tells ks k old mid new before between after reads asked same given count =
    let held : between.holds.pages ≡ before.holds.pages = ap (λ d. d.holds.pages) reads.same in
    record {
      asked = asked ∙ ap (after_asking k) reads.asked ∙ sym (askings-join ks (k ∷ []) old);
      same = rw (same, reads.same) refl;
      given = λ told. let one = given told in given-more before.holds.pages ks k old (reads.given told) (rw (held, reads.asked) at one);
      count = λ told.
          let sum : before.bytes_read.pages + missed_by_all ks old + missed k (after_asking_all ks old) ≡ before.bytes_read.pages + missed_by_all (ks ++ k ∷ []) old =
          omega (arith, misses-join ks (k ∷ []) old) in
          count told ∙ rw (reads.count told, reads.asked) (ap (λ m. replaced before.bytes_read Pages m) sum);
    }

-- What was asked for is what Pages holds, in a cache that stands for it, and the cache goes on standing for it.
pub reads-stands : (tells : Type 0) (ks old new : List Kept) (before after : DiskState) → tells
    → Reads tells ks old new before after → StandsFor old before.holds.pages → All (IsHeld before.holds.pages) ks × StandsFor new after.holds.pages
reads-stands tells ks old new before after told reads stands =
    let all = given-all before.holds.pages ks old stands (reads.given told) in
    (all.0, rw (reads.asked, ap (λ d. d.holds.pages) reads.same) all.1)

pub reads-bytes : (e : Extent) (n : ℕ) (bytes pages : List ℕ) → length bytes ≡ e.bytes → e.bytes ≤ 4096 * n → All (IsHeld pages) (first_pieces n e.first bytes)
    → bytes ≡ bytes_in e pages
reads-bytes e n bytes pages long enough held =
    sym (take_all (length bytes) bytes (omega arith))
    ∙ pieces-held n (length bytes) e.first bytes pages (omega arith) (omega arith) (each-piece (IsHeld pages) n e.first bytes held)
    ∙ ap (λ m. take m (drop (e.first * 4096) pages)) long
