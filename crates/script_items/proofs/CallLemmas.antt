-- A call of a reader so far: what was pulled in it, and what is held.
use Rattle.std.specs.Prelude.{◌≡◌, ℕ, ◌+◌, Bool, true, false, List, [], ◌∷◌, ◌++◌, length, All, Option, Some, None, Result, Ok, Err, option_to_list, refl}
use Rattle.std.proofs.Common.{arith, ap, sym, ◌∙◌, subst, append_assoc, append-nil, length-append}
use Rattle.std.proofs.lemmas.List.Elements.{All-nil, All-weaker}
use Rattle.base_commands.specs.declared.command.Item.{Item}
use Rattle.script_read.specs.declared.part.Part.{Part}
use Rattle.script_read.specs.declared.first.First.{First}
use Rattle.script_read.specs.declared.first.First.TheVariants.{Broken, More, End}
use Rattle.script_read.specs.declared.error.ScriptError.{ScriptError}
use Rattle.script_read.specs.declared.error.ScriptError.TheVariants as errors
use Rattle.script_read.specs.Items as parted
use Rattle.script_read.specs.Items.{first, IsNoPiece}
use Rattle.script_read.specs.Reading as reading
use Rattle.script_read.specs.Reading.{MayFollow}
use Rattle.script_read.proofs.RunLemmas as run
use Rattle.script_read.proofs.Splitting as below
use Rattle.script_items.specs.Groups.{Begun, Made, makes}
use Rattle.script_items.specs.Items.{Items, Begins, Waits, found_behind}
use Rattle.script_items.specs.Putting.{Holds, IsPut}
use Rattle.script_items.specs.Reading.{ReaderState, StandsFor, Says, IsCalm, IsAwaited, Finds, given, taken, end_of}
use Rattle.script_items.specs.declared.gathering.Gathering.{Gathering}
use Rattle.script_items.proofs.GroupLemmas.{joined-none, one_whole}
use Rattle.script_items.proofs.Splitting.{Behind, behind_skipped, waits_so}

-- Of the bytes since the last item and those pulled since, no item is whole so far.
pub record Goes (Tells : Type 0) (before after : List ℕ) (old new : ReaderState) (since : List ℕ) : Type 0 where
  pub pulled : List ℕ
  pub gave : Tells → before ≡ pulled ++ after
  pub stands : StandsFor new (since ++ pulled)
  pub taken_is : taken new ≡ taken old + length pulled
  pub calm : IsCalm since old pulled new

-- room is made for a part
pub goes-room : (Tells : Type 0) (before after : List ℕ) (old new next : ReaderState) (since : List ℕ) → Goes Tells before after old new since → next.parts ≡ new.parts
    → ((begun : Option Begun) → Holds new.batch begun → Holds next.batch begun) → Goes Tells before after old next since
goes-room Tells before after old new next since g same holds = record {
  pulled = g.pulled;
  gave = g.gave;
  stands = record {
    parts = g.stands.parts;
    tail = g.stands.tail;
    reads = subst (reading.Reads (since ++ g.pulled) g.stands.parts g.stands.tail) (sym same) g.stands.reads;
    none_whole = g.stands.none_whole;
    holds = holds (makes None g.stands.parts).begun g.stands.holds;
  };
  taken_is = ap reading.taken same ∙ g.taken_is;
  calm = λ quiet. ((g.calm quiet).0, ap (λ (h : reading.ReaderState). h.ended) same ∙ (g.calm quiet).1);
}

-- where what was taken before the call has an item, a fault or an end in it, no part waits either
pub quiet_parts : (Tells : Type 0) (before after : List ℕ) (old new : ReaderState) (since : List ℕ) (g : Goes Tells before after old new since) → (Waits old.parts.ended since → ⊥)
    → parted.Waits new.parts.ended g.stands.tail → ⊥
quiet_parts Tells before after old new since g quiet waits =
    let still = g.calm quiet in
    let s = g.stands in
    let here : Waits new.parts.ended (since ++ g.pulled) = waits_so new.parts.ended (since ++ g.pulled) s.parts s.tail (run.read_so_far s.reads) s.none_whole waits in
    let same : since ++ g.pulled ≡ since = ap (λ (l : List ℕ). since ++ l) still.0 ∙ append-nil since in
    quiet (subst (λ (l : List ℕ). Waits old.parts.ended l) same (subst (λ (e : Bool). Waits e (since ++ g.pulled)) still.1 here))

-- The reader of parts answered so, behind these parts of which no item is whole.
pub record Gets (Tells : Type 0) (before after : List ℕ) (old new : ReaderState) (since : List ℕ) (r : Result (Option Part) ScriptError) : Type 0 where
  pub pulled : List ℕ
  pub gave : Tells → before ≡ pulled ++ after
  pub parts : List Part
  pub tail : List ℕ
  pub reads : reading.Reads (since ++ pulled) (parts ++ reading.given r) tail new.parts
  pub none_whole : (makes None parts).items ≡ []
  pub holds : Holds new.batch (makes None parts).begun
  pub taken_is : taken new ≡ taken old + length pulled
  pub total : taken new ≡ new.parts.passed + length tail
  pub calm : IsCalm since old pulled new
  pub finds : reading.Finds r new.parts.passed (length tail) (first new.parts.ended tail)

abbrev pub PartSays : Type 0 → List ℕ → List ℕ → reading.ReaderState → reading.ReaderState → Result (Option Part) ScriptError → Type 0
PartSays Tells before after old new r = (since : List ℕ) → reading.StandsFor old since → ((pulled : List ℕ) × (Tells → before ≡ pulled ++ after)
    × reading.IsCalm since old pulled new × reading.Says old.passed (since ++ pulled) r new)

pub gets : (Tells : Type 0) (before mid after : List ℕ) (old new : ReaderState) (now : reading.ReaderState) (since : List ℕ) (r : Result (Option Part) ScriptError) → Goes Tells before mid old new since
    → PartSays Tells mid after new.parts now r → Gets Tells before after old (record { parts = now; batch = new.batch }) since r
gets Tells before mid after old new now since r g call =
    let s = g.stands in
    let one = call s.tail s.reads.stands in
    let says = one.3 in
    record {
      pulled = g.pulled ++ one.0;
      gave = λ tells. g.gave tells ∙ ap (λ l. g.pulled ++ l) (one.1 tells) ∙ sym (append_assoc g.pulled one.0 after);
      parts = s.parts;
      tail = says.rest;
      reads = subst (λ (l : List ℕ). reading.Reads l (s.parts ++ reading.given r) says.rest now) (append_assoc since g.pulled one.0)
          (run.reads_on (since ++ g.pulled) s.parts s.tail new.parts one.0 r now s.reads one.2 says);
      none_whole = s.none_whole;
      holds = s.holds;
      taken_is = omega (arith, g.taken_is, run.taken-is new.parts s.tail s.reads.stands, run.taken-is now says.rest says.stands, says.place, length-append s.tail one.0, length-append g.pulled one.0);
      total = run.taken-is now says.rest says.stands;
      calm = λ quiet.
          let still = g.calm quiet in
          let none = one.2 (quiet_parts Tells before mid old new since g quiet) in
          (ap (λ (l : List ℕ). l ++ one.0) still.0 ∙ none.0, none.1 ∙ still.1);
      finds = says.finds;
    }

-- what one part more makes
put_makes : (begun : List Part) (part : Part) (item : Option Item) (batch : Option Gathering) → (makes None begun).items ≡ [] → (p : IsPut (makes None begun).begun part item batch)
    → makes None (begun ++ part ∷ []) ≡ record { items = option_to_list item; begun = p.next }
put_makes begun part item batch none p = joined-none begun (part ∷ []) none ∙ p.makes_is

-- no item is whole with it
pub goes-part : (Tells : Type 0) (before after : List ℕ) (old new next : ReaderState) (since : List ℕ) (part : Part) → (g : Gets Tells before after old new since (Ok (Some part)))
    → next.parts ≡ new.parts → IsPut (makes None g.parts).begun part None next.batch → Goes Tells before after old next since
goes-part Tells before after old new next since part g same p =
    let made = put_makes g.parts part None next.batch g.none_whole p in
    record {
      pulled = g.pulled;
      gave = g.gave;
      stands = record {
        parts = g.parts ++ part ∷ [];
        tail = g.tail;
        reads = subst (reading.Reads (since ++ g.pulled) (g.parts ++ part ∷ []) g.tail) (sym same) g.reads;
        none_whole = ap (λ (m : Made). m.items) made;
        holds = subst (Holds next.batch) (sym (ap (λ (m : Made). m.begun) made)) p.holds;
      };
      taken_is = ap reading.taken same ∙ g.taken_is;
      calm = λ quiet. ((g.calm quiet).0, ap (λ (h : reading.ReaderState). h.ended) same ∙ (g.calm quiet).1);
    }

-- What the call says in the end.
abbrev pub Ends : Type 0 → List ℕ → List ℕ → ReaderState → ReaderState → List ℕ → Result (Option Item) ScriptError → Type 0
Ends Tells before after old new since result = (pulled : List ℕ) × (Tells → before ≡ pulled ++ after) × IsCalm since old pulled new × Says old since pulled result new

nothing_read : (held : reading.ReaderState) (tail : List ℕ) → reading.StandsFor held tail → reading.Reads tail [] tail held
nothing_read held tail stands = record { stands = stands; split = λ ended more ok. record { pieces = []; items_are = refl; in_turn = refl } }

-- an item is whole with a part
says-whole : (Tells : Type 0) (before after : List ℕ) (old new : ReaderState) (batch : Option Gathering) (since : List ℕ) (part : Part) (item : Item)
    → (g : Gets Tells before after old new since (Ok (Some part))) → IsPut (makes None g.parts).begun part (Some item) batch
    → Ends Tells before after old (record { parts = new.parts; batch = batch }) since (Ok (Some item))
says-whole Tells before after old new batch since part item g p =
    let made = put_makes g.parts part (Some item) batch g.none_whole p in
    let none : p.next ≡ None =
    sym (ap (λ (m : Made). m.begun) p.makes_is) ∙ one_whole (makes None g.parts).begun part item (ap (λ (m : Made). m.items) p.makes_is) in (
      g.pulled,
      g.gave,
      g.calm,
      record {
        rest = g.tail;
        items = record { parts = g.parts ++ part ∷ []; in_turn = run.read_so_far g.reads; are = made ∙ ap (λ (b : Option Begun). let m : Made = record { items = item ∷ []; begun = b } in m) none };
        stands = record { parts = []; tail = g.tail; reads = nothing_read new.parts g.tail g.reads.stands; none_whole = refl; holds = subst (Holds batch) none p.holds };
        place = g.taken_is;
        finds = tt;
      },
    )

pub says-item : (Tells : Type 0) (before after : List ℕ) (old new next : ReaderState) (since : List ℕ) (part : Part) (item : Item)
    → (g : Gets Tells before after old new since (Ok (Some part))) → next.parts ≡ new.parts → IsPut (makes None g.parts).begun part (Some item) next.batch
    → Ends Tells before after old next since (Ok (Some item))
says-item Tells before after old new next since part item g same p =
    subst (λ (h : reading.ReaderState). Ends Tells before after old (record { parts = h; batch = next.batch }) since (Ok (Some item))) (sym same)
    (says-whole Tells before after old new next.batch since part item g p)

-- ---- where no item is given

-- the reader stands for what is behind lines that are skipped
stands_behind : (held : ReaderState) (bytes : List ℕ) (begun : List Part) (tail : List ℕ) (f : First) → reading.Reads bytes begun tail held.parts → (makes None begun).items ≡ []
    → Holds held.batch (makes None begun).begun → (b : Behind held.parts.ended bytes begun tail f) → StandsFor held b.rest
stands_behind held bytes begun tail f reads none holds b = record {
  parts = begun;
  tail = tail;
  reads = record { stands = reads.stands; split = λ ended more ok. run.stay held.parts.ended ended b.rest more tail begun ok b.in_turn };
  none_whole = none;
  holds = holds;
}

says-of : (Tells : Type 0) (before after : List ℕ) (old new : ReaderState) (since : List ℕ) (r : Result (Option Item) ScriptError) (f : First) (pulled : List ℕ) (begun : List Part) (tail : List ℕ)
    → (Tells → before ≡ pulled ++ after) → reading.Reads (since ++ pulled) begun tail new.parts → (makes None begun).items ≡ [] → Holds new.batch (makes None begun).begun
    → taken new ≡ taken old + length pulled → IsCalm since old pulled new → IsNoPiece f → first new.parts.ended tail ≡ f → given r ≡ []
    → ((b : Behind new.parts.ended (since ++ pulled) begun tail f) → Finds r new.parts.ended (taken new) b.rest) → Ends Tells before after old new since r
says-of Tells before after old new since r f pulled begun tail gave reads none holds place calm unfinished is nothing finds =
    let b = behind_skipped new.parts.ended (since ++ pulled) begun tail f (run.read_so_far reads) none unfinished is in (
      pulled,
      gave,
      calm,
      record {
        rest = b.rest;
        items = subst (λ (l : List Item). Items new.parts.ended (since ++ pulled) l b.rest) (sym nothing) b.skipped;
        stands = stands_behind new (since ++ pulled) begun tail f reads none holds b;
        place = place;
        finds = finds b;
      },
    )

-- the end of the input
pub says-end : (Tells : Type 0) (before after : List ℕ) (old new : ReaderState) (since : List ℕ) → Gets Tells before after old new since (Ok None)
    → Ends Tells before after old new since (end_of (taken new) new.batch)
says-end Tells before after old new since g = go new.batch g.holds
  where
    reads : reading.Reads (since ++ g.pulled) g.parts g.tail new.parts
    reads = subst (λ (l : List Part). reading.Reads (since ++ g.pulled) l g.tail new.parts) (append-nil g.parts) g.reads

    ends : (r : Result (Option Item) ScriptError) → given r ≡ [] → ((b : Behind new.parts.ended (since ++ g.pulled) g.parts g.tail End) → Finds r new.parts.ended (taken new) b.rest)
        → Ends Tells before after old new since r
    ends r nothing finds =
        says-of Tells before after old new since r End g.pulled g.parts g.tail g.gave reads g.none_whole g.holds g.taken_is g.calm tt g.finds nothing finds

    open_batch : (e : Bool) (rest : List ℕ) (before : ℕ) (begun : Option Begun) (batch : Gathering) → Holds (Some batch) begun → Begins e rest (found_behind begun before (length rest) End)
        → Begins e rest (Broken (length rest))
    open_batch e rest before None batch holds begins = absurd holds
    open_batch e rest before (Some begun) batch holds begins = begins

    no_batch : (e : Bool) (rest : List ℕ) (before : ℕ) (begun : Option Begun) → Holds None begun → Begins e rest (found_behind begun before (length rest) End) → Begins e rest End
    no_batch e rest before None holds begins = begins
    no_batch e rest before (Some begun) holds begins = absurd holds

    go : (batch : Option Gathering) → Holds batch (makes None g.parts).begun → Ends Tells before after old new since (end_of (taken new) batch)
    go None holds = ends (Ok None) refl (λ b. no_batch new.parts.ended b.rest b.before (makes None g.parts).begun holds b.begins)
    go (Some batch) holds =
        ends (Err (errors.Broken (taken new))) refl (λ b. (length b.rest, open_batch new.parts.ended b.rest b.before (makes None g.parts).begun batch holds b.begins, refl))

-- an error of the reader of parts
pub says-error : (Tells : Type 0) (before after : List ℕ) (old new : ReaderState) (since : List ℕ) (e : ScriptError) → Gets Tells before after old new since (Err e)
    → Ends Tells before after old new since (Err e)
says-error Tells before after old new since e g = go e g.finds
  where
    reads : reading.Reads (since ++ g.pulled) g.parts g.tail new.parts
    reads = subst (λ (l : List Part). reading.Reads (since ++ g.pulled) l g.tail new.parts) (append-nil g.parts) g.reads

    ends : (r : Result (Option Item) ScriptError) (f : First) → given r ≡ [] → IsNoPiece f → first new.parts.ended g.tail ≡ f
        → ((b : Behind new.parts.ended (since ++ g.pulled) g.parts g.tail f) → Finds r new.parts.ended (taken new) b.rest) → Ends Tells before after old new since r
    ends r f nothing unfinished is finds =
        says-of Tells before after old new since r f g.pulled g.parts g.tail g.gave reads g.none_whole g.holds g.taken_is g.calm unfinished is nothing finds

    go : (e : ScriptError) → reading.Finds (Err e) new.parts.passed (length g.tail) (first new.parts.ended g.tail) → Ends Tells before after old new since (Err e)
    go (errors.Broken at) (n, is, place) =
        ends (Err (errors.Broken at)) (Broken n) refl tt is (λ b. (b.before + n, b.begins, omega (arith, place, b.place, g.total)))
    go errors.Budget (is, whole) = ends (Err errors.Budget) More refl tt is (λ b. (b.begins, g.total ∙ whole))
    go errors.Failed (is, few) = ends (Err errors.Failed) More refl tt is (λ b. (b.begins, omega (arith, g.total, few)))
    go errors.Memory finds = (
      g.pulled,
      g.gave,
      g.calm,
      record {
        rest = since ++ g.pulled;
        items = record { parts = []; in_turn = record { pieces = []; items_are = refl; in_turn = refl }; are = refl };
        stands = record { parts = g.parts; tail = g.tail; reads = reads; none_whole = g.none_whole; holds = g.holds };
        place = g.taken_is;
        finds = tt;
      },
    )

-- want of memory for a part to come
pub says-memory : (Tells : Type 0) (before after : List ℕ) (old new : ReaderState) (since : List ℕ) → Goes Tells before after old new since
    → Ends Tells before after old new since (Err errors.Memory)
says-memory Tells before after old new since g = (
  g.pulled,
  g.gave,
  g.calm,
  record {
    rest = since ++ g.pulled;
    items = record { parts = []; in_turn = record { pieces = []; items_are = refl; in_turn = refl }; are = refl };
    stands = g.stands;
    place = g.taken_is;
    finds = tt;
  },
)

-- ---- pulls

-- a pull for a part was made where no item was at hand
awaited-one : (Tells : Type 0) (before after : List ℕ) (old new : ReaderState) (since : List ℕ) (g : Goes Tells before after old new since) → new.parts.ended ≡ false → Tells → (left : List ℕ)
    → reading.IsAwaited g.stands.tail after left → IsAwaited since before left
awaited-one Tells before after old new since g open_end tells left (more, are, waits) =
    let s = g.stands in
    let ok : MayFollow new.parts.ended false more = subst (λ (e : Bool). MayFollow e false more) (sym open_end) tt in
    let here : Waits false ((since ++ g.pulled) ++ more) = waits_so false ((since ++ g.pulled) ++ more) s.parts (s.tail ++ more) (s.reads.split false more ok) s.none_whole waits in (
      g.pulled ++ more,
      g.gave tells ∙ ap (λ (l : List ℕ). g.pulled ++ l) are ∙ sym (append_assoc g.pulled more left),
      subst (λ (l : List ℕ). Waits false l) (append_assoc since g.pulled more) here,
    )

-- what was left before each pull for a part; none was made where the end was told
pub awaited_in : (Tells : Type 0) (before after : List ℕ) (old new : ReaderState) (since : List ℕ) (g : Goes Tells before after old new since) (P : List (List ℕ) → Type 0)
    → ((parted.Waits new.parts.ended g.stands.tail → ⊥) → P []) → ((lefts : List (List ℕ)) × P lefts × (Tells → All (reading.IsAwaited g.stands.tail after) lefts))
    → (lefts : List (List ℕ)) × P lefts × (Tells → All (IsAwaited since before) lefts)
awaited_in Tells before after old new since g P calm made = go new.parts.ended refl
  where
    go : (e : Bool) → new.parts.ended ≡ e → (lefts : List (List ℕ)) × P lefts × (Tells → All (IsAwaited since before) lefts)
    go true is =
        let never : parted.Waits new.parts.ended g.stands.tail → ⊥ = λ waits. (let there = rw is at waits in below.never-more there.0 there.2) in
        ([], calm never, λ tells. All-nil (IsAwaited since before))
    go false is = (
      made.0,
      made.1,
      λ tells. All-weaker (reading.IsAwaited g.stands.tail after) (IsAwaited since before) (awaited-one Tells before after old new since g is tells) made.0 (made.2 tells),
    )
