-- A call of a reader so far: what was pulled in it, the lines that were skipped, and what is held.
use Rattle.std.specs.Prelude.{◌≡◌, ℕ, ◌+◌, ◌-◌, ◌<◌, ◌≤◌, ◌^◌, Bool, true, false, List, [], ◌∷◌, ◌++◌, length, drop, All, Option, Some, None, Result, Ok, Err, IfErr, option_to_list, is_some, refl}
use Rattle.std.proofs.Common.{arith, ap, sym, ◌∙◌, subst, append_assoc, append-nil, length-append, length-drop}
use Rattle.std.proofs.lemmas.List.Elements.{All-append, All-weaker}
use Rattle.script_read.specs.declared.part.Part.{Part}
use Rattle.script_read.specs.declared.first.First.TheVariants.{Whole, Broken, More, End}
use Rattle.script_read.specs.declared.error.ScriptError.{ScriptError}
use Rattle.script_read.specs.declared.error.ScriptError.TheVariants as errors
use Rattle.script_read.specs.Items.{first, Items, Waits}
use Rattle.script_read.specs.Reading.{ReaderState, StandsFor, StandsBy, gone, taken, found, given, Finds, Says, IsCalm, IsAwaited, IsPullError}
use Rattle.script_read.proofs.Joins.{items-join, items-append}
use Rattle.script_read.proofs.ReaderLemmas.{found-is, length-since, stands-more, stands-drop}

-- Of the bytes since the last item and those pulled since, these items were taken, with lines that are skipped.
pub record Goes (Tells : Type 0) (before after : List ℕ) (old new : ReaderState) (since : List ℕ) (items : List Part) : Type 0 where
  pub pulled : List ℕ
  pub gave : Tells → before ≡ pulled ++ after
  pub rest : List ℕ
  pub taken_are : Items new.ended (since ++ pulled) items rest
  pub stands : StandsFor new rest
  pub place : new.passed + length rest ≡ old.passed + length (since ++ pulled)
  pub calm : IsCalm since old pulled new

pub goes-start : (Tells : Type 0) (left : List ℕ) (old : ReaderState) (since : List ℕ) → StandsFor old since → Goes Tells left left old old since []
goes-start Tells left old since stands = record {
  pulled = [];
  gave = λ tells. refl;
  rest = since;
  taken_are = record { pieces = []; items_are = refl; in_turn = sym (append-nil since) };
  stands = stands;
  place = ap (λ l. old.passed + length l) (sym (append-nil since));
  calm = λ quiet. (refl, refl);
}

-- what is held is seen in another way, as where a part of a text is let go
pub goes-front : (Tells : Type 0) (before after : List ℕ) (old new next : ReaderState) (since : List ℕ) (items : List Part) → Goes Tells before after old new since items
    → ((since : List ℕ) → StandsFor new since → StandsFor next since) → next.passed ≡ new.passed → next.ended ≡ new.ended → Goes Tells before after old next since items
goes-front Tells before after old new next since items g stands passed ended = record {
  pulled = g.pulled;
  gave = g.gave;
  rest = g.rest;
  taken_are = subst (λ e. Items e (since ++ g.pulled) items g.rest) (sym ended) g.taken_are;
  stands = stands g.rest g.stands;
  place = ap (λ n. n + length g.rest) passed ∙ g.place;
  calm = λ quiet. ((g.calm quiet).0, ended ∙ (g.calm quiet).1);
}

-- a piece is taken
pub goes-piece : (Tells : Type 0) (before after : List ℕ) (old new next : ReaderState) (since : List ℕ) (p : Option Part) (n : ℕ) → Goes Tells before after old new since []
    → Whole p n ≡ found new → gone new.over < n → n ≤ gone new.over + length new.bytes
    → next ≡ record { bytes = drop (n - gone new.over) new.bytes; passed = new.passed + n; ended = new.ended; over = None; kept = new.kept }
    → Goes Tells before after old next since (option_to_list p)
goes-piece Tells before after old new next since p n g whole some within is =
    subst (λ h. Goes Tells before after old h since (option_to_list p)) (sym is) (record {
      pulled = g.pulled;
      gave = g.gave;
      rest = drop n g.rest;
      taken_are = items-join new.ended (since ++ g.pulled) g.rest (drop n g.rest) [] (option_to_list p) g.taken_are (one p (found-is new g.rest g.stands ∙ sym whole));
      stands = stands-drop new.over new.bytes g.rest n (omega arith) g.stands;
      place = omega (arith, g.place, length-drop n g.rest, length-since new g.rest g.stands, within);
      calm = g.calm;
    })
  where
    one : (p : Option Part) → first new.ended g.rest ≡ Whole p n → Items new.ended g.rest (option_to_list p) (drop n g.rest)
    one None e = record { pieces = None ∷ []; items_are = refl; in_turn = (n, e, refl) }
    one (Some i) e = record { pieces = Some i ∷ []; items_are = refl; in_turn = (n, e, refl) }

-- where more is wanted, what was taken before the call has no item in it unless something was pulled
pub wanted : (Tells : Type 0) (before after : List ℕ) (old new : ReaderState) (since : List ℕ) → Goes Tells before after old new since [] → More ≡ found new
    → ¬ (Waits old.ended since) → ⊥
wanted Tells before after old new since g more quiet =
    let calm = g.calm quiet in
    let items : Items new.ended since [] g.rest = subst (λ l. Items new.ended l [] g.rest) (ap (λ l. since ++ l) calm.0 ∙ append-nil since) g.taken_are in
    let open_rest : first new.ended g.rest ≡ More = found-is new g.rest g.stands ∙ sym more in
    let P : Bool → Type 0 = λ e. Waits e since in
    quiet (subst P calm.1 (g.rest, items, open_rest))

-- bytes are pulled
pub goes-pull : (Tells : Type 0) (before after last : List ℕ) (old new next : ReaderState) (since p : List ℕ) → Goes Tells before after old new since [] → More ≡ found new
    → new.ended ≡ false → (Tells → after ≡ p ++ last) → next.bytes ≡ new.bytes ++ p → next.passed ≡ new.passed → next.over ≡ new.over
    → Goes Tells before last old next since []
goes-pull Tells before after last old new next since p g more going gave bytes passed over = record {
  pulled = g.pulled ++ p;
  gave = λ tells. g.gave tells ∙ ap (λ l. g.pulled ++ l) (gave tells) ∙ sym (append_assoc g.pulled p last);
  rest = g.rest ++ p;
  taken_are = subst (λ l. Items next.ended l [] (g.rest ++ p)) (append_assoc since g.pulled p)
      (items-append next.ended (since ++ g.pulled) p g.rest [] (subst (λ e. Items e (since ++ g.pulled) [] g.rest) going g.taken_are));
  stands = subst (λ b. StandsBy next.over b (g.rest ++ p)) (sym bytes) (subst (λ o. StandsBy o (new.bytes ++ p) (g.rest ++ p)) (sym over) (stands-more new.over new.bytes g.rest p g.stands));
  place = omega (arith, g.place, passed, length-append g.rest p, length-append since g.pulled, length-append since (g.pulled ++ p), length-append g.pulled p);
  calm = λ quiet. absurd (wanted Tells before after old new since g more quiet);
}

-- and this pull was made where no item was at hand
pub awaited-one : (Tells : Type 0) (before after : List ℕ) (old new : ReaderState) (since : List ℕ) → Goes Tells before after old new since [] → More ≡ found new → new.ended ≡ false
    → Tells → (left : List ℕ) → left ≡ after → IsAwaited since before left
awaited-one Tells before after old new since g more going tells left is =
    let P : Bool → Type 0 = λ e. Waits e (since ++ g.pulled) in
    (g.pulled, g.gave tells ∙ ap (λ l. g.pulled ++ l) (sym is), subst P going (g.rest, g.taken_are, found-is new g.rest g.stands ∙ sym more))

pub awaited-more : (Tells : Type 0) (before after : List ℕ) (old new : ReaderState) (since : List ℕ) → Goes Tells before after old new since [] → More ≡ found new → new.ended ≡ false
    → (a b : List (List ℕ)) → (Tells → All (IsAwaited since before) a) → All (λ left. left ≡ after) b → Tells → All (IsAwaited since before) (a ++ b)
awaited-more Tells before after old new since g more going a b earlier now tells =
    All-append (IsAwaited since before) a b (earlier tells)
    (All-weaker (λ left. left ≡ after) (IsAwaited since before) (λ left is. awaited-one Tells before after old new since g more going tells left is) b now)

-- What the call says in the end.
abbrev pub Ends : Type 0 → List ℕ → List ℕ → ReaderState → ReaderState → List ℕ → Result (Option Part) ScriptError → Type 0
Ends Tells before after old new since result = (pulled : List ℕ) × (Tells → before ≡ pulled ++ after) × IsCalm since old pulled new × Says old.passed (since ++ pulled) result new

pub says-of : (Tells : Type 0) (before after : List ℕ) (old new : ReaderState) (since : List ℕ) (r : Result (Option Part) ScriptError)
    → (g : Goes Tells before after old new since (given r)) → Finds r new.passed (length g.rest) (first new.ended g.rest) → Ends Tells before after old new since r
says-of Tells before after old new since r g finds =
    (g.pulled, g.gave, g.calm, record { rest = g.rest; items = g.taken_are; stands = g.stands; place = g.place; finds = finds })

-- nothing is there, and no more will come
pub says-none : (Tells : Type 0) (before after : List ℕ) (old new : ReaderState) (since : List ℕ) → Goes Tells before after old new since [] → End ≡ found new
    → Ends Tells before after old new since (Ok None)
says-none Tells before after old new since g e = says-of Tells before after old new since (Ok None) g (found-is new g.rest g.stands ∙ sym e)

pub says-broken : (Tells : Type 0) (before after : List ℕ) (old new : ReaderState) (since : List ℕ) (n at : ℕ) → Goes Tells before after old new since [] → Broken n ≡ found new
    → at ≡ new.passed + n → Ends Tells before after old new since (Err (errors.Broken at))
says-broken Tells before after old new since n at g e place = says-of Tells before after old new since (Err (errors.Broken at)) g (n, found-is new g.rest g.stands ∙ sym e, place)

-- an item is taken, or a line is skipped
pub says-piece : (Tells : Type 0) (before after : List ℕ) (old new : ReaderState) (since : List ℕ) (p : Option Part) → is_some p ≡ true
    → Goes Tells before after old new since (option_to_list p) → Ends Tells before after old new since (Ok p)
says-piece Tells before after old new since (Some i) e g = says-of Tells before after old new since (Ok (Some i)) g tt
says-piece Tells before after old new since None e g = cc

pub goes-skipped : (Tells : Type 0) (before after : List ℕ) (old new : ReaderState) (since : List ℕ) (p : Option Part) → is_some p ≡ false
    → Goes Tells before after old new since (option_to_list p) → Goes Tells before after old new since []
goes-skipped Tells before after old new since None e g = g
goes-skipped Tells before after old new since (Some i) e g = cc

-- a pull that failed
pub says-failed : (Tells : Type 0) (before after : List ℕ) (old new : ReaderState) (since : List ℕ) (r : Result (Unit {0}) ScriptError) (e : ScriptError)
    → Goes Tells before after old new since [] → More ≡ found new → r ≡ Err e → IfErr r IsPullError
    → (r ≡ Err errors.Failed → taken new < 2 ^ 40) → (r ≡ Err errors.Budget → taken new ≡ 2 ^ 40) → Ends Tells before after old new since (Err e)
says-failed Tells before after old new since r e g more was why failed spent = go e was
  where
    lacks : first new.ended g.rest ≡ More
    lacks = found-is new g.rest g.stands ∙ sym more

    count : new.passed + length g.rest ≡ taken new
    count = omega (arith, length-since new g.rest g.stands)

    go : (e : ScriptError) → r ≡ Err e → Ends Tells before after old new since (Err e)
    go (errors.Broken at) was = absurd (subst (λ q. IfErr q IsPullError) was why)
    go errors.Budget was = says-of Tells before after old new since (Err errors.Budget) g (lacks, omega (arith, count, spent was))
    go errors.Failed was = says-of Tells before after old new since (Err errors.Failed) g (lacks, omega (arith, count, failed was))
    go errors.Memory was = says-of Tells before after old new since (Err errors.Memory) g tt
