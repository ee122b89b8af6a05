-- One entry more: the end of the journal, the bodies, and what makes a longer history legal.
use Rattle.std.proofs.Common.{◌≡◌, ℕ, ◌+◌, ◌≤◌, Bool, true, false, ◌||◌, List, [], ◌∷◌, ◌++◌, length, sum_by, refl, ap, subst, sym, ◌∙◌, arith, append_assoc, length-append}
use Rattle.std.proofs.lemmas.List.{append-nil, map-append}
use Rattle.std.proofs.lemmas.List.Concat.{flat_map-append}
use Rattle.std.proofs.lemmas.List.Sums.{sum_by-cons, sum_by_push}
use Rattle.journal_gates.specs.Header.{header}
use Rattle.std.specs.Int.{w32, to_be_bytes}
use Rattle.journal_gates.specs.Records.{record_bytes, records, front}
use Rattle.journal_gates.proofs.SpellingLemmas.{length-header}
use Rattle.journal_entries.specs.Spelling.{spelling}
use Rattle.journal_entries.specs.declared.entry.Entry.{Entry}
use Rattle.journal_entries.proofs.EntryLemmas.{one_entry}
use Rattle.journal_entries.specs.declared.entry.Entry.TheVariants.{Arrive, Delete, Planned, Format, Batch}
use Rattle.plans_kinds.specs.Plans.{Asks, IsGoodPlan, IsFitFor}
use Rattle.plans_kinds.proofs.GoodLemmas.{good_is_fit}
use Rattle.model_archive.specs.Histories.{History, changes, acts, end_of, is_mark, is_marked}
use Rattle.model_archive.specs.Legal.{MayCome, EachMayCome, IsLegalEntry, IsLegal, IsLoadableEntry, IsLoadable}
use Rattle.model_archive.specs.Stands.{bodies_of}

pub bodies_of-push : (h : History) (e : Entry) → bodies_of (h ++ e ∷ []) ≡ bodies_of h ++ spelling e ∷ []
bodies_of-push h e = map-append spelling h (e ∷ [])

pub changes-push : (h : History) (e : Entry) → changes (h ++ e ∷ []) ≡ changes h ++ acts e
changes-push h e = flat_map-append acts h (e ∷ []) ∙ ap (λ l. changes h ++ l) (append-nil (acts e))

pub end_of-push : (h : History) (e : Entry) → end_of (h ++ e ∷ []) ≡ end_of h + 5 + length (spelling e)
end_of-push h e = omega (arith, sum_by_push (λ (x : Entry). length (spelling x) + 5) h e)

pub length_record : (body : List ℕ) → length (record_bytes body) ≡ 5 + length body
length_record body = omega (arith, length-append (to_be_bytes w32 (length body)) body)

length_records : (h : History) → length (records (bodies_of h)) ≡ sum_by (λ (x : Entry). length (spelling x) + 5) h
length_records [] = refl
length_records (e ∷ h) = omega (
  arith,
  length_records h,
  length_record (spelling e),
  sum_by-cons (λ (x : Entry). length (spelling x) + 5) e h,
  length-append (record_bytes (spelling e)) (records (bodies_of h)),
)

-- the end is the place behind the closed gate that ends the records
pub end_of_is : (h : History) → end_of h ≡ length (front (bodies_of h)) + 1
end_of_is h = omega (arith, length_records h, length-header, length-append header (records (bodies_of h)))

-- each entry takes bytes
pub end_of-least : (h : History) → 17 + length h ≤ end_of h
end_of-least [] = omega arith
end_of-least (e ∷ h) = omega (arith, end_of-least h, sum_by-cons (λ (x : Entry). length (spelling x) + 5) e h)

-- an entry more may come behind others, and one in the middle may come behind those before it
module _ (Good : Asks) where
  come_after_push : (before h : History) (e : Entry) → EachMayCome Good before h → MayCome Good (before ++ h) e → EachMayCome Good before (h ++ e ∷ [])
  come_after_push before [] e each next = (let P : History → Type 0 = λ g. MayCome Good g e in subst P (append-nil before) next, tt)
  come_after_push before (x ∷ h) e each next = (
    each.0,
    come_after_push (before ++ x ∷ []) h e each.1 (let P : History → Type 0 = λ g. MayCome Good g e in subst P (sym (append_assoc before (x ∷ []) h)) next),
  )

  pub come-push : (h : History) (e : Entry) → EachMayCome Good [] h → MayCome Good h e → EachMayCome Good [] (h ++ e ∷ [])
  come-push h e each next = come_after_push [] h e each next

  come_after_middle : (before h : History) (e : Entry) (rest : History) → EachMayCome Good before (h ++ e ∷ rest) → EachMayCome Good before h × MayCome Good (before ++ h) e
  come_after_middle before [] e rest each = (tt, let P : History → Type 0 = λ g. MayCome Good g e in subst P (sym (append-nil before)) each.0)
  come_after_middle before (x ∷ h) e rest each =
      let more = come_after_middle (before ++ x ∷ []) h e rest each.1 in
      ((each.0, more.0), let P : History → Type 0 = λ g. MayCome Good g e in subst P (append_assoc before (x ∷ []) h) more.1)

  pub come-middle : (h : History) (e : Entry) (rest : History) → EachMayCome Good [] (h ++ e ∷ rest) → EachMayCome Good [] h × MayCome Good h e
  come-middle h e rest each = come_after_middle [] h e rest each

pub legal-push : (h : History) (e : Entry) → IsLegal h → IsLegalEntry h e → IsLegal (h ++ e ∷ [])
legal-push h e legal next = come-push IsGoodPlan h e legal next

pub legal-middle : (h : History) (e : Entry) (rest : History) → IsLegal (h ++ e ∷ rest) → IsLegal h × IsLegalEntry h e
legal-middle h e rest legal = come-middle IsGoodPlan h e rest legal

pub loadable-push : (h : History) (e : Entry) → IsLoadable h → IsLoadableEntry h e → IsLoadable (h ++ e ∷ [])
loadable-push h e loads next = come-push IsFitFor h e loads next

pub loadable-middle : (h : History) (e : Entry) (rest : History) → IsLoadable (h ++ e ∷ rest) → IsLoadable h × IsLoadableEntry h e
loadable-middle h e rest loads = come-middle IsFitFor h e rest loads

-- whether the mark is among a history's entries, with one more
pub unmarked_push : (h : History) (e : Entry) → is_mark e ≡ false → is_marked (h ++ e ∷ []) ≡ is_marked h
unmarked_push [] e none = ap (λ (b : Bool). b || false) none
unmarked_push (x ∷ h) e none = ap (λ (b : Bool). is_mark x || b) (unmarked_push h e none)

pub marked_push : (h : History) → is_marked (h ++ Format ∷ []) ≡ true
marked_push [] = refl
marked_push (x ∷ h) = ap (λ (b : Bool). is_mark x || b) (marked_push h) ∙ or_true (is_mark x)
  where
    or_true : (b : Bool) → (b || true) ≡ true
    or_true true = refl
    or_true false = refl

-- a legal history loads
pub entry_loads : (before : History) (e : Entry) → IsLegalEntry before e → IsLoadableEntry before e
entry_loads before (Arrive doc at text) legal = record { ranges = legal.ranges; allowed = legal.allowed; planned = tt }
entry_loads before (Delete doc at) legal = record { ranges = legal.ranges; allowed = legal.allowed; planned = tt }
entry_loads before Format legal = record { ranges = legal.ranges; allowed = legal.allowed; planned = tt }
entry_loads before (Batch batch) legal = record { ranges = legal.ranges; allowed = legal.allowed; planned = tt }
entry_loads before (Planned plan) legal = record {
  ranges = legal.ranges;
  allowed = legal.allowed;
  planned = record {
    past = legal.planned.past;
    list = legal.planned.list;
    list_is = legal.planned.list_is;
    some = legal.planned.some;
    suits = good_is_fit plan.kind legal.planned.list plan.fraction plan.cuts plan.horizon legal.planned.suits;
  };
}

each_loads : (before h : History) → EachMayCome IsGoodPlan before h → EachMayCome IsFitFor before h
each_loads before [] legal = tt
each_loads before (e ∷ h) legal = (entry_loads before e legal.0, each_loads (before ++ e ∷ []) h legal.1)

pub legal_loads : (h : History) → IsLegal h → IsLoadable h
legal_loads h legal = each_loads [] h legal

-- two histories that load with one list of bodies are one
same_entries : (a b one other : History) → EachMayCome IsFitFor one a → EachMayCome IsFitFor other b → bodies_of a ≡ bodies_of b → a ≡ b
same_entries [] [] one other p q same = refl
same_entries [] (y ∷ b) one other p q same = absurd (omega (arith, ap length same))
same_entries (x ∷ a) [] one other p q same = absurd (omega (arith, ap length same))
same_entries (x ∷ a) (y ∷ b) one other p q same =
    let first : spelling x ≡ spelling y = cc in
    let rest : bodies_of a ≡ bodies_of b = cc in
    let head = one_entry x y p.0.ranges q.0.ranges first in
    let tail = same_entries a b (one ++ x ∷ []) (other ++ y ∷ []) p.1 q.1 rest in
    cc

pub same_history : (a b : History) → IsLoadable a → IsLoadable b → bodies_of a ≡ bodies_of b → a ≡ b
same_history a b p q same = same_entries a b [] [] p q same

behind : (x : Entry) (h other : History) → h ≡ other → x ∷ h ≡ x ∷ other
behind x h other same = ap (λ (l : History). x ∷ l) same

-- the entries behind some of the bodies of a history
pub split_bodies : (h : History) (bodies : List (List ℕ)) (body : List ℕ) (rest : List (List ℕ)) → bodies_of h ≡ bodies ++ body ∷ rest
    → (first : History) × (e : Entry) × (more : History) × (h ≡ first ++ e ∷ more) × (bodies_of first ≡ bodies) × (spelling e ≡ body)
split_bodies [] [] body rest same = absurd (omega (arith, ap length same))
split_bodies [] (b ∷ bodies) body rest same = absurd (omega (arith, ap length same))
split_bodies (x ∷ h) [] body rest same = ([], x, h, refl, refl, cc)
split_bodies (x ∷ h) (b ∷ bodies) body rest same =
    let first : spelling x ≡ b = cc in
    let tail : bodies_of h ≡ bodies ++ body ∷ rest = cc in
    let more = split_bodies h bodies body rest tail in
    (x ∷ more.0, more.1, more.2, behind x h (more.0 ++ more.1 ∷ more.2) more.3, let rest = more.4 in cc, more.5)
