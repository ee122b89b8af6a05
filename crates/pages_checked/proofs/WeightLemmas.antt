-- How many bytes those take that were put away, as they come and go.
use Rattle.std.proofs.Common.{◌≡◌, ℕ, ◌+◌, ◌-◌, ◌*◌, ◌<◌, ◌≤◌, Bool, true, false, cond, nat_eq, List, [], ◌∷◌, ◌++◌, length, take, drop, get_or, slice_get, Option, Some, None, refl, ap, sym, ◌∙◌, append_assoc, arith}
use Rattle.std.specs.Option.{option_map, option_map_or}
use Rattle.std.specs.Map.{lookup, lookup_entry, remove_entry}
use Rattle.std.proofs.lemmas.List.{take_all, take-append-drop}
use Rattle.std.proofs.lemmas.List.Sums.{sum_by-cons, sum_by_more}
use Rattle.std.proofs.lemmas.Option.{none-some, slice_get-get_or, slice_get_past}
use Rattle.lru.specs.LruCache.{LruCache, last_entry, put_entries, displaced}
use Rattle.pages_checked.specs.Weights.{CheckedState, weight, weight_of_all}

abbrev Place : Type 0
Place = ℕ × CheckedState

-- what a place takes, or nothing
abbrev pub weight_or : Option CheckedState → ℕ
weight_or o = option_map_or weight o 0

abbrev pub place_weight : Option (ℕ × CheckedState) → ℕ
place_weight o = option_map_or (λ (e : ℕ × CheckedState). weight e.1) o 0

one_more : (e : Place) (es : List Place) → weight_of_all (e ∷ es) ≡ weight e.1 + weight_of_all es
one_more e es = sum_by-cons (λ (d : Place). weight d.1) e es

-- each place takes 256 bytes at least
pub few_places : (es : List (ℕ × CheckedState)) → 256 * length es ≤ weight_of_all es
few_places [] = omega arith
few_places (e ∷ es) = omega (arith, few_places es, one_more e es)

module _ (test : ℕ → Bool) where
  -- what is under a key, with its key
  with_key : (es : List Place) → lookup test es ≡ option_map (λ (e : Place). e.1) (lookup_entry test es)
  with_key [] = refl
  with_key (e ∷ es) = by (test e.0) (with_key es)
    where
      by : (b : Bool) → lookup test es ≡ option_map (λ (d : Place). d.1) (lookup_entry test es) → cond b (Some e.1) (lookup test es) ≡ option_map (λ (d : Place). d.1) (cond b (Some e) (lookup_entry test es))
      by true h = refl
      by false h = h

  out_of : (b : Bool) (e : Place) (es rest : List Place) (o : Option CheckedState) → weight_of_all rest + weight_or o ≡ weight_of_all es
      → weight_of_all (cond b es (e ∷ rest)) + weight_or (cond b (Some e.1) o) ≡ weight_of_all (e ∷ es)
  out_of true e es rest o h = omega (arith, one_more e es)
  out_of false e es rest o h = omega (arith, h, one_more e es, one_more e rest)

  -- what is left, and what was taken out
  pub taken_out : (es : List (ℕ × CheckedState)) → weight_of_all (remove_entry test es) + weight_or (lookup test es) ≡ weight_of_all es
  taken_out [] = omega arith
  taken_out (e ∷ es) = out_of (test e.0) e es (remove_entry test es) (lookup test es) (taken_out es)

last_of : (es : List Place) → (d : Place) → 0 < length es → weight_of_all (take (length es - 1) es) + place_weight (last_entry es) ≡ weight_of_all es
last_of es d some =
    let n : ℕ = length es - 1 in
    let next : n + 1 ≡ length es = omega (arith, some) in
    omega (
      arith,
      sum_by_more (λ (e : Place). weight e.1) es n d (omega (arith, some)),
      ap (λ m. weight_of_all (take m es)) next,
      ap weight_of_all (take_all (length es) es (omega arith)),
      ap place_weight (slice_get-get_or es n d (omega (arith, some))),
    )

-- without what was used longest ago
pub last_out : (es : List (ℕ × CheckedState)) → weight_of_all (take (length es - 1) es) + place_weight (last_entry es) ≡ weight_of_all es
last_out [] = omega arith
last_out (e ∷ es) = last_of (e ∷ es) e (omega arith)

none_of : (es : List Place) (d : Place) → 0 < length es → last_entry es ≡ None → weight_of_all es ≡ 0
none_of es d some none = absurd (none-some (get_or es (length es - 1) d) (sym none ∙ slice_get-get_or es (length es - 1) d (omega (arith, some))))

-- where nothing was used longest ago, nothing is there
pub none_left : (es : List (ℕ × CheckedState)) → last_entry es ≡ None → weight_of_all es ≡ 0
none_left [] none = refl
none_left (e ∷ es) none = none_of (e ∷ es) e (omega arith) none

-- what was used longest ago stands in front of what went before it
pub one_behind : (all es gone : List (ℕ × CheckedState)) → all ≡ es ++ gone → all ≡ take (length es - 1) es ++ (drop (length es - 1) es ++ gone)
one_behind all es gone is =
    let n : ℕ = length es - 1 in
    is ∙ ap (λ l. l ++ gone) (sym (take-append-drop n es)) ∙ append_assoc (take n es) (drop n es) gone

module _ (c : LruCache ℕ CheckedState) (page : ℕ) (k : CheckedState) (wide : length c.entries ≤ c.cap - 1) where
  abbrev after : Option Place → List Place
  after o = option_map_or (λ (e : Place). (e.0, k) ∷ remove_entry (nat_eq page) c.entries) o ((page, k) ∷ take (c.cap - 1) c.entries)

  abbrev gone : Option CheckedState → Option Place
  gone o = option_map_or (λ (old : CheckedState). Some (page, old)) o (slice_get c.entries (c.cap - 1))

  put_by : (o : Option Place) → weight_of_all (remove_entry (nat_eq page) c.entries) + weight_or (option_map (λ (e : Place). e.1) o) ≡ weight_of_all c.entries
      → weight_of_all (after o) + place_weight (gone (option_map (λ (e : Place). e.1) o)) ≡ weight_of_all c.entries + weight k
  put_by None h = omega (
    arith,
    one_more (page, k) (take (c.cap - 1) c.entries),
    ap weight_of_all (take_all (c.cap - 1) c.entries wide),
    ap place_weight (slice_get_past c.entries (c.cap - 1) wide),
  )
  put_by (Some e) h = omega (arith, h, one_more (e.0, k) (remove_entry (nat_eq page) c.entries))

  -- with one more, or one in the place of another
  pub put_in : weight_of_all (put_entries nat_eq c page k) + place_weight (displaced nat_eq c page k) ≡ weight_of_all c.entries + weight k
  put_in =
      let key = with_key (nat_eq page) c.entries in
      let by = put_by (lookup_entry (nat_eq page) c.entries) (omega (arith, taken_out (nat_eq page) c.entries, ap weight_or key)) in
      omega (arith, by, ap (λ o. place_weight (gone o)) key)
