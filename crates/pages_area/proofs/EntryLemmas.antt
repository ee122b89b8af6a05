-- The entries of a map as a cache.
use Rattle.std.proofs.Common.{◌≡◌, ◌≢◌, ℕ, zero, suc, ◌+◌, ◌-◌, ◌≤◌, ◌∙◌, Bool, false, not, List, [], ◌∷◌, length, take, All, Option, Some, None, IsSome, Result, Ok, Err, IsOk, OnOk, Contains, refl, sym, ap, subst, inl, inr, arith, nat_eq, ◌&&◌}
use Rattle.std.specs.List.{filter}
use Rattle.std.specs.Map.{lookup, lookup_entry, remove_entry}
use Rattle.std.specs.Option.{option_map, option_map_or}
use Rattle.std.specs.declared.vec.Vec.{Vec}
use Rattle.std.proofs.Math.Bool.{or-false}
use Rattle.std.proofs.lemmas.Bool.{eq-eqb, ne_eqb}
use Rattle.std.proofs.lemmas.Bool.Decides.{eqb_tells}
use Rattle.std.proofs.lemmas.List.{length-map, length-take, take-map, take_all}
use Rattle.std.proofs.lemmas.List.Folds.{list_any_none}
use Rattle.std.proofs.lemmas.List.Kept.{AllPairs-filter}
use Rattle.std.proofs.lemmas.List.Sums.{length-filter, count_by-le-length}
use Rattle.lru.specs.LruCache.{LruCache, promoted, put_entries}
use Rattle.pages_area.specs.Caches.{Kept, AreDistinct, is_hit, without_page, after_asking}
use Rattle.pages_area.specs.Inside.{kept_of, IsInOrder, HasOneMore}
use Rattle.pages_area.proofs.CacheLemmas.{filter-all, distinct-asking}

-- what holds at Ok holds of an Ok
pub of-ok : {T E : Type 0} (r : Result T E) (P : Type 0) → IsOk r → OnOk r P → P
of-ok (Ok x) P ok holds = holds
of-ok (Err e) P ok holds = cc

-- an option with something has it
known : {X : Type 0} (o : Option X) → IsSome o → (x : X) × (o ≡ Some x)
known None some = cc
known (Some x) some = (x, refl)

abbrev Entries : Type 0 → Type 0
Entries A = List (ℕ × Vec ℕ A)

module _ {A : Type 0} where
  abbrev of : ℕ → Vec ℕ A → Kept
  of page piece = record { page = page; bytes = piece.items }

  -- an entry that is found has the page that was looked for
  entry-is : (page : ℕ) (es : Entries A) → lookup_entry (nat_eq page) es ≡ option_map (λ piece. (page, piece)) (lookup (nat_eq page) es)
  entry-is page [] = refl
  entry-is page ((p, piece) ∷ es) = elim (eqb_tells page p) [
    | inl same ↦ rw same.0 (ap (λ q. Some (q, piece)) (sym same.1))
    | inr other ↦ rw other.0 (entry-is page es)
  ]

  -- of distinct pages the first isn't among the others, and these are distinct
  parts : (page p : ℕ) (piece : Vec ℕ A) (es : Entries A) → AreDistinct (kept_of ((p, piece) ∷ es))
      → (page ≡ p → All (λ k. nat_eq page k.page ≡ false) (kept_of es)) × AreDistinct (kept_of es)
  parts page p piece es distinct = (
    λ same j d within. ne_eqb page _ (λ is. distinct zero (suc j) d (omega arith) (omega arith) (sym same ∙ is)),
    λ i j d before within. distinct (suc i) (suc j) d (omega arith) (omega arith),
  )

  -- asking for a page is a hit exactly where its piece has the length
  pub hit-is : (page size : ℕ) (es : Entries A) (found : Option (Vec ℕ A)) → AreDistinct (kept_of es) → lookup (nat_eq page) es ≡ found
      → is_hit page size (kept_of es) ≡ option_map_or (λ piece. nat_eq size (length piece.items)) found false
  hit-is page size [] found distinct is = rw (← is) refl
  hit-is page size ((p, piece) ∷ es) found distinct is = elim (eqb_tells page p) [
    | inl same ↦
        let rest : is_hit page size (kept_of es) ≡ false = list_any_none (λ k. nat_eq page k.page && nat_eq size (length k.bytes)) (kept_of es)
        (λ i d within. rw ((parts page p piece es distinct).0 same.1 i d within) refl) in
        rw (← is, same.0, rest) (or-false (nat_eq size (length piece.items)))
    | inr other ↦ rw other.0 (hit-is page size es found (parts page p piece es distinct).1 (rw other.0 at is))
  ]

  -- what is found is kept
  pub among : (page : ℕ) (es : Entries A) (piece : Vec ℕ A) → lookup (nat_eq page) es ≡ Some piece → Contains (kept_of es) (of page piece)
  among page [] piece is = cc
  among page ((p, first) ∷ es) piece is = elim (eqb_tells page p) [
    | inl same ↦ let that = rw same.0 at is in (0, omega arith, cc)
    | inr other ↦ let more = among page es piece (rw other.0 at is) in (suc more.0, omega (arith, more.1), more.2)
  ]

  -- the entries without a page, where none is kept twice
  pub removed : (page : ℕ) (es : Entries A) → AreDistinct (kept_of es) → kept_of (remove_entry (nat_eq page) es) ≡ without_page page (kept_of es)
  removed page [] distinct = refl
  removed page ((p, piece) ∷ es) distinct = elim (eqb_tells page p) [
    | inl same ↦ rw same.0 (sym (filter-all (λ k. not (nat_eq page k.page)) (kept_of es)
        (λ i d within. rw ((parts page p piece es distinct).0 same.1 i d within) refl)))
    | inr other ↦ rw other.0 (ap (λ l. of p piece ∷ l) (removed page es (parts page p piece es distinct).1))
  ]

  -- one entry fewer is left without a page that is found
  fewer : (page : ℕ) (es : Entries A) → IsSome (lookup (nat_eq page) es) → length (remove_entry (nat_eq page) es) + 1 ≡ length es
  fewer page [] some = cc
  fewer page ((p, piece) ∷ es) some = elim (eqb_tells page p) [
    | inl same ↦ rw same.0 (omega arith)
    | inr other ↦ rw other.0 (omega (arith, fewer page es (rw other.0 at some)))
  ]

  -- the entry that is found goes first, and so does a piece that is put in its place
  pub promoted-first : (page : ℕ) (es : Entries A) (piece : Vec ℕ A) → lookup (nat_eq page) es ≡ Some piece
      → kept_of (promoted (nat_eq page) es) ≡ of page piece ∷ kept_of (remove_entry (nat_eq page) es)
  promoted-first page es piece is = rw (entry-is page es, is) refl

  pub put-first : (page : ℕ) (c : LruCache ℕ (Vec ℕ A)) (piece : Vec ℕ A) → IsSome (lookup (nat_eq page) c.entries)
      → kept_of (put_entries nat_eq c page piece) ≡ of page piece ∷ kept_of (remove_entry (nat_eq page) c.entries)
  put-first page c piece some = rw (entry-is page c.entries, (known (lookup (nat_eq page) c.entries) some).1) refl

  -- a page that isn't there yet is put in front of all, where there is room for one more
  pub put-new : (page : ℕ) (c : LruCache ℕ (Vec ℕ A)) (piece : Vec ℕ A) → lookup (nat_eq page) c.entries ≡ None → length c.entries ≤ 1024 → c.cap ≡ 1025
      → put_entries nat_eq c page piece ≡ (page, piece) ∷ c.entries
  put-new page c piece none most room = rw (entry-is page c.entries, none) (ap (λ l. (page, piece) ∷ l) (take_all (c.cap - 1) c.entries (omega arith)))

  -- a page that is kept goes to the front, and all stay
  pub front-asked : (k : Kept) (old : LruCache ℕ (Vec ℕ A)) → IsInOrder old → IsSome (lookup (nat_eq k.page) old.entries)
      → k ∷ kept_of (remove_entry (nat_eq k.page) old.entries) ≡ after_asking k (kept_of old.entries)
  front-asked k old order some =
      let rest : List Kept = kept_of (remove_entry (nat_eq k.page) old.entries) in
      let count : length rest ≡ length (remove_entry (nat_eq k.page) old.entries) = length-map (remove_entry (nat_eq k.page) old.entries) (λ e. of e.0 e.1) in
      let long : length (k ∷ rest) ≤ 1024 = omega (arith, fewer k.page old.entries some, order.most) in
      sym (take_all 1024 (k ∷ rest) long) ∙ ap (λ l. take 1024 (k ∷ l)) (removed k.page old.entries order.distinct)

  -- and a cache in order stays so
  pub order-asked : (old new : LruCache ℕ (Vec ℕ A)) (k : Kept) → IsInOrder old → new.cap ≡ old.cap → kept_of new.entries ≡ after_asking k (kept_of old.entries)
      → IsInOrder new
  order-asked old new k order room is = record {
    distinct = subst AreDistinct (sym is) (distinct-asking 1024 k (kept_of old.entries) order.distinct);
    most = omega (arith, length-map new.entries (λ e. of e.0 e.1), ap length is, length-take 1024 (k ∷ without_page k.page (kept_of old.entries)));
    room = room ∙ order.room;
  }

  -- and so it does where some pages are taken away
  pub order-filter : (test : Kept → Bool) (old new : LruCache ℕ (Vec ℕ A)) → IsInOrder old → new.cap ≡ old.cap
      → kept_of new.entries ≡ filter test (kept_of old.entries) → IsInOrder new
  order-filter test old new order room is =
      let was = length-map old.entries (λ e. of e.0 e.1) in
      let now = length-map new.entries (λ e. of e.0 e.1) in
      let few = count_by-le-length test (kept_of old.entries) in
      record {
        distinct = subst AreDistinct (sym is) (AllPairs-filter (λ (j k : Kept). j.page ≢ k.page) test (kept_of old.entries) order.distinct);
        most = omega (arith, was, now, few, ap length is, length-filter test (kept_of old.entries), order.most);
        room = room ∙ order.room;
      }

  -- no page is taken away where it isn't found
  absent : (page : ℕ) (es : Entries A) → lookup (nat_eq page) es ≡ None → without_page page (kept_of es) ≡ kept_of es
  absent page [] none = refl
  absent page ((p, piece) ∷ es) none = elim (eqb_tells page p) [
    | inl same ↦ let is = rw same.0 at none in cc
    | inr other ↦ rw other.0 (ap (λ l. of p piece ∷ l) (absent page es (rw other.0 at none)))
  ]

  -- A page that isn't kept is put in front, gets its piece, and the last one leaves where they are too many.
  pub added-asked : (k : Kept) (old added filled now : LruCache ℕ (Vec ℕ A)) → lookup (nat_eq k.page) old.entries ≡ None → HasOneMore k.page old added
      → kept_of filled.entries ≡ k ∷ kept_of (remove_entry (nat_eq k.page) added.entries) → now.entries ≡ take 1024 filled.entries
      → kept_of now.entries ≡ after_asking k (kept_of old.entries)
  added-asked k old added filled now none more first cut =
      let same : remove_entry (nat_eq k.page) added.entries ≡ old.entries = rw (more.entries, eq-eqb k.page k.page refl) refl in
      ap kept_of cut ∙ sym (take-map (λ e. of e.0 e.1) 1024 filled.entries)
      ∙ ap (take 1024) (first ∙ ap (λ es. k ∷ kept_of es) same ∙ ap (λ l. k ∷ l) (sym (absent k.page old.entries none)))
