-- What was fetched and then joined is what is gathered.
use Rattle.std.proofs.Common.{◌≡◌, ℕ, ◌+◌, List, [], ◌∷◌, ◌++◌, length, Ok, Err, Result, OnOk, IfErr, inl, inr, refl, ap, sym, subst, ◌∙◌, arith, add-zero}
use Rattle.std.proofs.lemmas.List.Sums.{sum_by-cons}
use Rattle.base_types.specs.declared.posting.Posting.{Posting}
use Rattle.journal_entries.specs.declared.place.Layout.{Layout}
use Rattle.lists_postings.specs.Unions.{IsUnion}
use Rattle.pages_sublists.specs.Gathering.{Chosen, Joins, Refuses, Gathers, ListOrDamage, bytes_of}
use Rattle.pages_sublists.specs.Joining.{Paged, size_of_all, JoinInTurn, IsFound, AreFetched, RefusesAlone, StopsAt}
use Rattle.pages_sublists.specs.declared.why.Why.{Why}
use Rattle.pages_sublists.specs.declared.why.Why.TheVariants.{Clash}
use Rattle.pages_sublists.specs.declared.why.Damage.{Damage}
use Rattle.pages_sublists.specs.declared.why.FetchError.{FetchError}

abbrev ok_of : List Posting → Result (List Posting) Damage
ok_of list = Ok list

abbrev err_of : ℕ → Why → ListOrDamage
err_of page why = Err (record { page = page; why = why })

-- one list more
pub fetched_more : (layout : Layout) (h : ℕ) (pages : List ℕ) (all : List Chosen) (lists : List Paged) (rest new : List Chosen) (c : Chosen) (l : Paged) → rest ≡ c ∷ new
    → IsFound layout h pages c l → AreFetched layout h pages all lists rest → AreFetched layout h pages all (lists ++ (l ∷ [])) new
fetched_more layout h pages [] [] rest new c l is found fetched = absurd (omega (arith, ap (λ (cs : List Chosen). length cs) (sym is ∙ fetched)))
fetched_more layout h pages (a ∷ all) [] rest new c l is found fetched = subst (λ (cs : List Chosen). AreFetched layout h pages cs (l ∷ []) new) (sym is ∙ fetched) (found, refl)
fetched_more layout h pages [] (x ∷ lists) rest new c l is found fetched = absurd fetched
fetched_more layout h pages (a ∷ all) (x ∷ lists) rest new c l is found fetched = (fetched.0, fetched_more layout h pages all lists rest new c l is found fetched.1)

joins_found : (layout : Layout) (h : ℕ) (pages : List ℕ) (c : Chosen) (l : Paged) (union both : List Posting) → IsFound layout h pages c l → IsUnion union l.1 both → Joins layout h pages c union both (length l.1)
joins_found layout h pages c l union both found joined = record { list = l.1; fetched = found.fetched; some = found.some; joined = joined; read_is = refl }

ok_same : (a b : List Posting) → ok_of a ≡ ok_of b → a ≡ b
ok_same a b e = cc

abbrev damage_of : ℕ → Why → Damage
damage_of page why = record { page = page; why = why }

abbrev refused_by : Damage → Result (List Posting) Damage
refused_by d = Err d

damage_same : (d e : Damage) → refused_by d ≡ refused_by e → d ≡ e
damage_same d e is = cc

-- lists that join lead on to the segments behind them
pub gathers_on : (layout : Layout) (h : ℕ) (pages : List ℕ) (all : List Chosen) (lists : List Paged) (rest : List Chosen) (union joined : List Posting) (n : ℕ) (outcome : ListOrDamage)
    → AreFetched layout h pages all lists rest → JoinInTurn lists union (Ok joined) → Gathers layout h pages rest joined (n + size_of_all lists) outcome → Gathers layout h pages all union n outcome
gathers_on layout h pages all [] rest union joined n outcome fetched joins gathers =
    let G : List Chosen → Type 0 = λ cs. Gathers layout h pages cs joined n outcome in
    let U : List Posting → Type 0 = λ u. Gathers layout h pages all u n outcome in
    subst U (ok_same joined union joins) (subst G fetched (subst (λ (m : ℕ). Gathers layout h pages rest joined m outcome) (add-zero n) gathers))
gathers_on layout h pages [] (l ∷ lists) rest union joined n outcome fetched joins gathers = absurd fetched
gathers_on layout h pages (c ∷ all) (l ∷ lists) rest union joined n outcome fetched (inl clash) gathers = let told = clash.1.1.1 in absurd (cc)
gathers_on layout h pages (c ∷ all) (l ∷ lists) rest union joined n outcome fetched (inr (both, (is, more))) gathers =
    let size : n + size_of_all (l ∷ lists) ≡ (n + length l.1) + size_of_all lists = omega (arith, sum_by-cons (λ (x : Paged). length x.1) l lists) in
    inr (
      both,
      (
        length l.1,
        (
          joins_found layout h pages c l union both fetched.0 is,
          gathers_on layout h pages all lists rest both joined (n + length l.1) outcome fetched.1 more (subst (λ (m : ℕ). Gathers layout h pages rest joined m outcome) size gathers),
        ),
      ),
    )

-- a clash among the lists is the outcome, whatever is behind them
pub gathers_clash : (layout : Layout) (h : ℕ) (pages : List ℕ) (all : List Chosen) (lists : List Paged) (rest : List Chosen) (union : List Posting) (n : ℕ) (d : Damage)
    → AreFetched layout h pages all lists rest → JoinInTurn lists union (Err d) → Gathers layout h pages all union n (Err d)
gathers_clash layout h pages all [] rest union n d fetched joins = absurd (cc)
gathers_clash layout h pages [] (l ∷ lists) rest union n d fetched joins = absurd fetched
gathers_clash layout h pages (c ∷ all) (l ∷ lists) rest union n d fetched (inl clash) =
    let one = clash.0 in
    let other = clash.1.0 in
    let is = clash.1.1.0 in
    let told = clash.1.1.1 in
    let why : Why = Clash one other in
    let e : d ≡ damage_of l.0 why = damage_same d (damage_of l.0 why) told in
    let same : err_of d.page d.why ≡ err_of c.place.extent.first why = ap (λ (x : Damage). err_of x.page x.why) e ∙ ap (λ (page : ℕ). err_of page why) fetched.0.page_is in
    inl (Clash one other, (inr (l.1, (fetched.0.fetched, inr (fetched.0.some, (one, (other, (is, refl)))))), same))
gathers_clash layout h pages (c ∷ all) (l ∷ lists) rest union n d fetched (inr (both, (is, more))) =
    inr (both, (length l.1, (joins_found layout h pages c l union both fetched.0 is, gathers_clash layout h pages all lists rest both (n + length l.1) d fetched.1 more)))

-- why a segment is refused alone, it is refused behind others
refuses : (layout : Layout) (h : ℕ) (pages : List ℕ) (c : Chosen) (union : List Posting) (why : Why) → RefusesAlone layout h (bytes_of c pages) c why → Refuses layout h pages c union why
refuses layout h pages c union why (inl explained) = inl explained
refuses layout h pages c union why (inr (list, (fetched, bare))) = inr (list, (fetched, inl bare))

-- the segment behind the lists is refused
pub gathers_stop : (layout : Layout) (h : ℕ) (pages : List ℕ) (all : List Chosen) (lists : List Paged) (rest : List Chosen) (joined : List Posting) (d : Damage)
    → AreFetched layout h pages all lists rest → JoinInTurn lists [] (Ok joined) → StopsAt layout h pages rest d → Gathers layout h pages all [] 0 (Err d)
gathers_stop layout h pages all lists [] joined d fetched joins stops = absurd stops
gathers_stop layout h pages all lists (c ∷ rest) joined d fetched joins stops =
    gathers_on layout h pages all lists (c ∷ rest) [] joined 0 (Err d) fetched joins (inl (d.why, (refuses layout h pages c joined d.why stops.1, ap (λ (page : ℕ). err_of page d.why) stops.0)))

-- all segments were fetched
pub gathers_all : (layout : Layout) (h : ℕ) (pages : List ℕ) (all : List Chosen) (lists : List Paged) (joined : List Posting) (read : ℕ)
    → AreFetched layout h pages all lists [] → JoinInTurn lists [] (Ok joined) → read ≡ size_of_all lists → Gathers layout h pages all [] 0 (Ok (joined, read))
gathers_all layout h pages all lists joined read fetched joins is =
    let size : 0 + size_of_all lists ≡ read = omega (arith, is) in
    gathers_on layout h pages all lists [] [] joined 0 (Ok (joined, read)) fetched joins (ap (λ (n : ℕ). Ok (joined, n)) (sym size))

-- whatever a fetch of all says, some segments are left
pub some_left : (A : List Chosen → Type 0) (P : List Chosen → FetchError → Type 0) (r : Result ℕ FetchError) → OnOk r (A []) → IfErr r (λ e. (rest : List Chosen) × (A rest × P rest e)) → (rest : List Chosen) × A rest
some_left A P (Ok n) all stopped = ([], all)
some_left A P (Err e) all stopped = (stopped.0, stopped.1.0)

-- ---- what a fetch says, by what the loop knows

pub found_same : (layout : Layout) (h g : ℕ) (pages were : List ℕ) (c : Chosen) (l : Paged) → g ≡ h → were ≡ pages → IsFound layout g were c l → IsFound layout h pages c l
found_same layout h g pages were c l one two found =
    let P : ℕ → Type 0 = λ x. IsFound layout x were c l in
    let Q : List ℕ → Type 0 = λ x. IsFound layout h x c l in
    subst Q two (subst P one found)

pub stops_at : (layout : Layout) (h g : ℕ) (pages were : List ℕ) (rest new : List Chosen) (c : Chosen) (d : Damage) → g ≡ h → were ≡ pages → rest ≡ c ∷ new
    → (d.page ≡ c.place.extent.first) × RefusesAlone layout g (bytes_of c were) c d.why → StopsAt layout h pages rest d
stops_at layout h g pages were rest new c d one two is refused =
    let P : ℕ → Type 0 = λ x. RefusesAlone layout x (bytes_of c were) c d.why in
    let Q : List ℕ → Type 0 = λ x. RefusesAlone layout h (bytes_of c x) c d.why in
    subst (λ (cs : List Chosen). StopsAt layout h pages cs d) (sym is) (refused.0, subst Q two (subst P one refused.1))
