-- A reading that fails has read whole fields of something, and one of whole fields fails behind them if at all.
use Rattle.std.specs.Prelude.{◌≡◌, ◌⊎◌, ℕ, ◌≤◌, List, [], ◌∷◌, ◌++◌, length, Result, Ok, Err, refl}
use Rattle.std.proofs.Common.{sym, ap, subst, inl, inr, ◌∙◌, arith, append_assoc}
use Rattle.std.specs.List.{concat}
use Rattle.std.proofs.lemmas.List.Folds.{concat-append}
use Rattle.std.proofs.lemmas.List.{append-nil}
use Rattle.base_types.specs.Reading.{◌>>=◌}
use Rattle.base_types.proofs.Bytes.{IsBytes}
use Rattle.base_types.proofs.Readings.{Within, Within-more, Within-then, Within-next}
use Rattle.journal_entries.proofs.Steps.{good, no_fault, bind_err, made_err}
use Rattle.journal_entries.proofs.FieldCodec.{IsField}

-- the first of these fields, whole, are in front of so many of the bytes
pub record InFront (fields : List (List ℕ)) (bytes : List ℕ) (left : ℕ) : Type 0 where
  pub whole : List (List ℕ)
  pub more : List (List ℕ)
  pub rest : List ℕ
  pub split : whole ++ more ≡ fields
  pub parts : bytes ≡ concat whole ++ rest
  pub left_is : length rest ≡ left

-- none of the fields are
pub none : (fields : List (List ℕ)) (bytes : List ℕ) (left : ℕ) → left ≡ length bytes → InFront fields bytes left
none fields bytes left e = record { whole = []; more = fields; rest = bytes; split = refl; parts = refl; left_is = sym e }

-- fields behind them change nothing
pub more_behind : (fields behind : List (List ℕ)) (bytes : List ℕ) (left : ℕ) → InFront fields bytes left → InFront (fields ++ behind) bytes left
more_behind fields behind bytes left f = record {
  whole = f.whole;
  more = f.more ++ behind;
  rest = f.rest;
  split = sym (append_assoc f.whole f.more behind) ∙ ap (λ (fs : List (List ℕ)). fs ++ behind) f.split;
  parts = f.parts;
  left_is = f.left_is;
}

-- fields in front that are whole
pub more_in_front : (front fields : List (List ℕ)) (bytes behind : List ℕ) (left : ℕ) → bytes ≡ concat front ++ behind → InFront fields behind left → InFront (front ++ fields) bytes left
more_in_front front fields bytes behind left e f = record {
  whole = front ++ f.whole;
  more = f.more;
  rest = f.rest;
  split = append_assoc front f.whole f.more ∙ ap (λ (fs : List (List ℕ)). front ++ fs) f.split;
  parts = e ∙ ap (λ (bs : List ℕ). concat front ++ bs) f.parts ∙ sym (append_assoc (concat front) (concat f.whole) f.rest) ∙ ap (λ (bs : List ℕ). bs ++ f.rest) (sym (concat-append front f.whole));
  left_is = f.left_is;
}

-- A reading, and the fields of what it reads: where it fails, some of these stand whole in front; and behind whole ones it can't fail in front of their end.
pub record IsStopped (A : Type 0) (rest : A → ℕ) (read : List ℕ → Result A ℕ) (Fields : List (List ℕ) → Type 0) : Type 0 where
  pub within : (bytes : List ℕ) → Within rest (length bytes) (read bytes)
  pub stops : (bytes : List ℕ) (left : ℕ) → IsBytes bytes → read bytes ≡ Err left → (fs : List (List ℕ)) × Fields fs × InFront fs bytes left
  pub passes : (whole more : List (List ℕ)) (behind : List ℕ) → Fields (whole ++ more) → Within rest (length behind) (read (concat whole ++ behind))

-- the rest that a reading of a front leaves
abbrev pub behind : {A : Type 0} → A × List ℕ → ℕ
behind x = length x.1

-- the fields of something that fits
abbrev pub Of : {A : Type 0} → (A → List (List ℕ)) → (A → Type 0) → List (List ℕ) → Type 0
Of {A} fields Fits fs = (a : A) × Fits a × (fs ≡ fields a)

-- the fields of something that fits, and others behind them
abbrev pub Then : {A : Type 0} → (A → List (List ℕ)) → (A → Type 0) → (A → List (List ℕ) → Type 0) → List (List ℕ) → Type 0
Then {A} fields Fits Others fs = (a : A) × Fits a × (gs : List (List ℕ)) × Others a gs × (fs ≡ fields a ++ gs)

-- no fields at all
abbrev pub NoFields : List (List ℕ) → Type 0
NoFields fs = fs ≡ []

-- ---- readings changed

pub renamed : (A : Type 0) (rest : A → ℕ) (read : List ℕ → Result A ℕ) (F G : List (List ℕ) → Type 0) → ((fs : List (List ℕ)) → F fs → G fs) → ((fs : List (List ℕ)) → G fs → F fs)
    → IsStopped A rest read F → IsStopped A rest read G
renamed A rest read F G there back s = record {
  within = s.within;
  stops = λ bytes left fits e. (let t = s.stops bytes left fits e in (t.0, there t.0 t.1, t.2));
  passes = λ whole more behind g. s.passes whole more behind (back (whole ++ more) g);
}

pub same_reading : (A : Type 0) (rest : A → ℕ) (read other : List ℕ → Result A ℕ) (F : List (List ℕ) → Type 0) → ((bytes : List ℕ) → read bytes ≡ other bytes)
    → IsStopped A rest read F → IsStopped A rest other F
same_reading A rest read other F same s = record {
  within = λ bytes. subst (Within rest (length bytes)) (same bytes) (s.within bytes);
  stops = λ bytes left fits e. s.stops bytes left fits (same bytes ∙ e);
  passes = λ whole more behind f. subst (Within rest (length behind)) (same (concat whole ++ behind)) (s.passes whole more behind f);
}

-- what was read made into something else
pub made : (A B : Type 0) (rest : A → ℕ) (last : B → ℕ) (read : List ℕ → Result A ℕ) (F : List (List ℕ) → Type 0) (make : A → B) → ((a : A) → last (make a) ≤ rest a)
    → IsStopped A rest read F → IsStopped B last (λ bytes. read bytes >>= λ a. Ok (make a)) F
made A B rest last read F make less s = record {
  within = λ bytes. Within-then rest last (length bytes) (read bytes) _ (s.within bytes) (λ a le. omega (arith, less a));
  stops = λ bytes left fits e. s.stops bytes left fits (made_err A B (read bytes) make left e);
  passes = λ whole more behind f. Within-then rest last (length behind) (read (concat whole ++ behind)) _ (s.passes whole more behind f) (λ a le. omega (arith, less a));
}

-- ---- a field, and what is read behind it

-- a field that is one: a reading of it fails where it begins
pub single : (A : Type 0) (read : List ℕ → Result (A × List ℕ) ℕ) (spelled : A → List ℕ) (Fits : A → Type 0) (a : A) → Fits a → IsField A read spelled Fits
    → ((bytes : List ℕ) (left : ℕ) → read bytes ≡ Err left → left ≡ length bytes) → IsStopped (A × List ℕ) behind read (Of (λ a. spelled a ∷ []) Fits)
single A read spelled Fits a fit field fails = record {
  within = field.within;
  stops = λ bytes left fits e. (spelled a ∷ [], (a, fit, refl), none (spelled a ∷ []) bytes left (fails bytes left e));
  passes = passes;
}
  where
    passes : (whole more : List (List ℕ)) (after : List ℕ) → Of (λ a. spelled a ∷ []) Fits (whole ++ more) → Within behind (length after) (read (concat whole ++ after))
    passes [] more after f = field.within after
    passes (w ∷ []) more after f =
        let is : w ≡ spelled f.0 = let e = f.2 in cc in
        let read_again : read (concat (w ∷ []) ++ after) ≡ Ok (f.0, after) = ap (λ (bs : List ℕ). read (bs ++ after)) (append-nil w ∙ is) ∙ field.again f.0 after f.1 in
        subst (Within behind (length after)) (sym read_again) (omega arith)
    passes (w ∷ v ∷ whole) more after f = absurd (let e = f.2 in cc)

-- a front that is read: how it is spelled, its fields, and where its reading fails
pub record HasFields (A : Type 0) (read : List ℕ → Result (A × List ℕ) ℕ) (spelled : A → List ℕ) (fields : A → List (List ℕ)) (Fits : A → Type 0) : Type 0 where
  pub field : IsField A read spelled Fits
  pub same : (a : A) → concat (fields a) ≡ spelled a
  pub stopped : IsStopped (A × List ℕ) behind read (Of fields Fits)

pub one_field : (A : Type 0) (read : List ℕ → Result (A × List ℕ) ℕ) (spelled : A → List ℕ) (Fits : A → Type 0) (a : A) → Fits a → IsField A read spelled Fits
    → ((bytes : List ℕ) (left : ℕ) → read bytes ≡ Err left → left ≡ length bytes) → HasFields A read spelled (λ a. spelled a ∷ []) Fits
one_field A read spelled Fits a fit field fails = record { field = field; same = λ a. append-nil (spelled a); stopped = single A read spelled Fits a fit field fails }

-- a list in front of another ends inside or behind a third in front of a fourth
pub split_append : {A : Type 0} (xs ys front back : List A) → xs ++ ys ≡ front ++ back
    → ((mid : List A) × (xs ++ mid ≡ front)) ⊎ ((more : List A) × (xs ≡ front ++ more) × (more ++ ys ≡ back))
split_append [] ys front back e = inl (front, refl)
split_append (x ∷ xs) ys [] back e = inr (x ∷ xs, refl, e)
split_append {A} (x ∷ xs) ys (f ∷ front) back e = go (split_append xs ys front back cc)
  where
    head : x ≡ f
    head = cc

    go : ((mid : List A) × (xs ++ mid ≡ front)) ⊎ ((more : List A) × (xs ≡ front ++ more) × (more ++ ys ≡ back)) → ((mid : List A) × (x ∷ (xs ++ mid) ≡ f ∷ front)) ⊎ ((more : List A) × (x ∷ xs ≡ f ∷ (front ++ more)) × (more ++ ys ≡ back))
    go (inl h) = inl (h.0, λ i. head i ∷ h.1 i)
    go (inr h) = inr (h.0, (λ i. head i ∷ h.1 i), h.2)

-- what is read behind a front
pub after : (A B : Type 0) (rest : B → ℕ) (ra : List ℕ → Result (A × List ℕ) ℕ) (sa : A → List ℕ) (fa : A → List (List ℕ)) (FA : A → Type 0)
    (rb : A → List ℕ → Result B ℕ) (FB : A → List (List ℕ) → Type 0)
    → HasFields A ra sa fa FA → ((a : A) (bytes : List ℕ) → Within rest (length bytes) (rb a bytes)) → ((a : A) → FA a → IsStopped B rest (rb a) (FB a)) → ((a : A) → FA a → (gs : List (List ℕ)) × FB a gs)
    → IsStopped B rest (λ bytes. ra bytes >>= λ a. rb a.0 a.1) (Then fa FA FB)
after A B rest ra sa fa FA rb FB first inside second complete = record {
  within = λ bytes. Within-next behind rest (length bytes) (ra bytes) _ (first.stopped.within bytes) (λ a. inside a.0 a.1);
  stops = λ bytes left fits e. failed bytes left fits (bind_err (A × List ℕ) B (ra bytes) _ left e);
  passes = λ whole more after f. passed whole more after f (split_append whole more (fa f.0) f.2 f.4);
}
  where
    failed : (bytes : List ℕ) (left : ℕ) → IsBytes bytes → (ra bytes ≡ Err left) ⊎ ((a : A × List ℕ) × (ra bytes ≡ Ok a) × (rb a.0 a.1 ≡ Err left)) → (fs : List (List ℕ)) × Then fa FA FB fs × InFront fs bytes left
    failed bytes left fits (inl e) =
        let s = first.stopped.stops bytes left fits e in
        let g = complete s.1.0 s.1.1 in
        (s.0 ++ g.0, (s.1.0, s.1.1, g.0, g.1, ap (λ (fs : List (List ℕ)). fs ++ g.0) s.1.2), more_behind s.0 g.0 bytes left s.2)
    failed bytes left fits (inr e) =
        let t = first.field.takes bytes e.0 fits e.1 in
        let s = (second e.0.0 t.1).stops e.0.1 left t.0.rest_fits e.2 in
        let parts = t.0.parts ∙ ap (λ (bs : List ℕ). bs ++ e.0.1) (sym (first.same e.0.0)) in
        (fa e.0.0 ++ s.0, (e.0.0, t.1, s.0, s.1, refl), more_in_front (fa e.0.0) s.0 bytes e.0.1 left parts s.2)

    passed : (whole more : List (List ℕ)) (after : List ℕ) (f : Then fa FA FB (whole ++ more))
        → ((mid : List (List ℕ)) × (whole ++ mid ≡ fa f.0)) ⊎ ((others : List (List ℕ)) × (whole ≡ fa f.0 ++ others) × (others ++ more ≡ f.2))
        → Within rest (length after) (ra (concat whole ++ after) >>= λ a. rb a.0 a.1)
    passed whole more after f (inl h) =
        let p = first.stopped.passes whole h.0 after (f.0, f.1, h.1) in
        Within-then behind rest (length after) (ra (concat whole ++ after)) _ p (λ x le. Within-more rest (length x.1) (length after) _ le (inside x.0 x.1))
    passed whole more after f (inr h) =
        let p = (second f.0 f.1).passes h.0 more after (subst (FB f.0) (sym h.2) f.3) in
        let split : concat whole ++ after ≡ sa f.0 ++ (concat h.0 ++ after) =
        ap (λ (fs : List (List ℕ)). concat fs ++ after) h.1 ∙ ap (λ (bs : List ℕ). bs ++ after) (concat-append (fa f.0) h.0 ∙ ap (λ (bs : List ℕ). bs ++ concat h.0) (first.same f.0)) ∙ append_assoc (sa f.0) (concat h.0) after in
        let read : ra (concat whole ++ after) ≡ Ok (f.0, concat h.0 ++ after) = ap ra split ∙ first.field.again f.0 (concat h.0 ++ after) f.1 in
        subst (λ (r : Result (A × List ℕ) ℕ). Within rest (length after) (r >>= λ a. rb a.0 a.1)) (sym read) p

-- the same where what stands behind is read in any case
pub after_any : (A B : Type 0) (rest : B → ℕ) (ra : List ℕ → Result (A × List ℕ) ℕ) (sa : A → List ℕ) (fa : A → List (List ℕ)) (FA : A → Type 0)
    (rb : A → List ℕ → Result B ℕ) (FB : A → List (List ℕ) → Type 0)
    → HasFields A ra sa fa FA → ((a : A) → IsStopped B rest (rb a) (FB a)) → ((a : A) → (gs : List (List ℕ)) × FB a gs)
    → IsStopped B rest (λ bytes. ra bytes >>= λ a. rb a.0 a.1) (Then fa FA FB)
after_any A B rest ra sa fa FA rb FB first second complete = after A B rest ra sa fa FA rb FB first (λ a. (second a).within) (λ a fit. second a) (λ a fit. complete a)

-- the same behind a field that is one, and that need not be there
pub after_maybe : (A B : Type 0) (rest : B → ℕ) (ra : List ℕ → Result (A × List ℕ) ℕ) (sa : A → List ℕ) (FA : A → Type 0) (rb : A → List ℕ → Result B ℕ) (FB : A → List (List ℕ) → Type 0)
    → IsField A ra sa FA → ((bytes : List ℕ) (left : ℕ) → ra bytes ≡ Err left → left ≡ length bytes) → ((a : A) → IsStopped B rest (rb a) (FB a))
    → IsStopped B rest (λ bytes. ra bytes >>= λ a. rb a.0 a.1) (λ fs. NoFields fs ⊎ Then (λ a. sa a ∷ []) FA FB fs)
after_maybe A B rest ra sa FA rb FB field fails second = record {
  within = within;
  stops = λ bytes left fits e. failed bytes left fits (bind_err (A × List ℕ) B (ra bytes) _ left e);
  passes = passes;
}
  where
    within : (bytes : List ℕ) → Within rest (length bytes) (ra bytes >>= λ a. rb a.0 a.1)
    within bytes = Within-next behind rest (length bytes) (ra bytes) _ (field.within bytes) (λ a. (second a.0).within a.1)

    failed : (bytes : List ℕ) (left : ℕ) → IsBytes bytes → (ra bytes ≡ Err left) ⊎ ((a : A × List ℕ) × (ra bytes ≡ Ok a) × (rb a.0 a.1 ≡ Err left))
        → (fs : List (List ℕ)) × (NoFields fs ⊎ Then (λ a. sa a ∷ []) FA FB fs) × InFront fs bytes left
    failed bytes left fits (inl e) = ([], inl refl, none [] bytes left (fails bytes left e))
    failed bytes left fits (inr e) =
        let t = field.takes bytes e.0 fits e.1 in
        let s = (second e.0.0).stops e.0.1 left t.0.rest_fits e.2 in
        let parts = t.0.parts ∙ ap (λ (bs : List ℕ). bs ++ e.0.1) (sym (append-nil (sa e.0.0))) in
        ((sa e.0.0 ∷ []) ++ s.0, inr (e.0.0, t.1, s.0, s.1, refl), more_in_front (sa e.0.0 ∷ []) s.0 bytes e.0.1 left parts s.2)

    passes : (whole more : List (List ℕ)) (after : List ℕ) → NoFields (whole ++ more) ⊎ Then (λ a. sa a ∷ []) FA FB (whole ++ more) → Within rest (length after) (ra (concat whole ++ after) >>= λ a. rb a.0 a.1)
    passes [] more after f = within after
    passes (w ∷ whole) more after (inl f) = absurd cc
    passes (w ∷ whole) more after (inr f) =
        let e = f.4 in
        let first : w ≡ sa f.0 = cc in
        let others : whole ++ more ≡ f.2 = cc in
        let p = (second f.0).passes whole more after (subst (FB f.0) (sym others) f.3) in
        let split : concat (w ∷ whole) ++ after ≡ sa f.0 ++ (concat whole ++ after) = ap (λ (bs : List ℕ). (bs ++ concat whole) ++ after) first ∙ append_assoc (sa f.0) (concat whole) after in
        let read : ra (concat (w ∷ whole) ++ after) ≡ Ok (f.0, concat whole ++ after) = ap ra split ∙ field.again f.0 (concat whole ++ after) f.1 in
        subst (λ (r : Result (A × List ℕ) ℕ). Within rest (length after) (r >>= λ a. rb a.0 a.1)) (sym read) p

-- two fronts that make one
pub both_fields : (A B C : Type 0) (make : A → B → C)
    (ra : List ℕ → Result (A × List ℕ) ℕ) (sa : A → List ℕ) (fa : A → List (List ℕ)) (FA : A → Type 0)
    (rb : A → List ℕ → Result (B × List ℕ) ℕ) (sb : B → List ℕ) (fb : B → List (List ℕ)) (FB : A → B → Type 0)
    (sc : C → List ℕ) (fc : C → List (List ℕ)) (FC : C → Type 0)
    → IsField C (λ bytes. ra bytes >>= λ a. rb a.0 a.1 >>= λ b. Ok (make a.0 b.0, b.1)) sc FC → ((c : C) → concat (fc c) ≡ sc c)
    → HasFields A ra sa fa FA → ((a : A) → IsField B (rb a) sb (FB a)) → ((a : A) → FA a → HasFields B (rb a) sb fb (FB a)) → ((a : A) → FA a → (b : B) × FB a b)
    → ((a : A) (b : B) → FA a → FB a b → (fc (make a b) ≡ fa a ++ fb b) × FC (make a b))
    → ((c : C) → FC c → (a : A) × (b : B) × (make a b ≡ c) × FA a × FB a b)
    → HasFields C (λ bytes. ra bytes >>= λ a. rb a.0 a.1 >>= λ b. Ok (make a.0 b.0, b.1)) sc fc FC
both_fields A B C make ra sa fa FA rb sb fb FB sc fc FC field same first second_field second complete joined parts = record {
  field = field;
  same = same;
  stopped = renamed (C × List ℕ) behind (λ bytes. ra bytes >>= λ a. rb a.0 a.1 >>= λ b. Ok (make a.0 b.0, b.1)) (Then fa FA (λ a. Of fb (FB a))) (Of fc FC) there back
      (after A (C × List ℕ) behind ra sa fa FA (λ a bytes. rb a bytes >>= λ b. Ok (make a b.0, b.1)) (λ a. Of fb (FB a)) first
      (λ a bytes. Within-then behind behind (length bytes) (rb a bytes) _ ((second_field a).within bytes) (λ b le. le))
      (λ a fit. made (B × List ℕ) (C × List ℕ) behind behind (rb a) (Of fb (FB a)) (λ b. (make a b.0, b.1)) (λ b. omega arith) (second a fit).stopped)
      (λ a fit. (let b = complete a fit in (fb b.0, (b.0, b.1, refl)))));
}
  where
    there : (fs : List (List ℕ)) → Then fa FA (λ a. Of fb (FB a)) fs → Of fc FC fs
    there fs f =
        let is = joined f.0 f.3.0 f.1 f.3.1 in
        (make f.0 f.3.0, is.1, f.4 ∙ ap (λ (gs : List (List ℕ)). fa f.0 ++ gs) f.3.2 ∙ sym is.0)

    back : (fs : List (List ℕ)) → Of fc FC fs → Then fa FA (λ a. Of fb (FB a)) fs
    back fs f =
        let p = parts f.0 f.1 in
        (p.0, p.3, fb p.1, (p.1, p.4, refl), f.2 ∙ ap fc (sym p.2) ∙ (joined p.0 p.1 p.3 p.4).0)

-- nothing is read
pub nothing : (A : Type 0) (rest : A → ℕ) (value : List ℕ → A) → ((bytes : List ℕ) → rest (value bytes) ≤ length bytes) → IsStopped A rest (λ bytes. Ok (value bytes)) NoFields
nothing A rest value less = record {
  within = less;
  stops = λ bytes left fits e. absurd (no_fault A (value bytes) left e);
  passes = passes;
}
  where
    passes : (whole more : List (List ℕ)) (after : List ℕ) → NoFields (whole ++ more) → Within rest (length after) (good A (value (concat whole ++ after)))
    passes [] more after f = less after
    passes (w ∷ whole) more after f = absurd cc

-- what is read last takes all the bytes, and has no field of its own
pub closed : (A T B : Type 0) (ra : List ℕ → Result (A × List ℕ) ℕ) (sa : A → List ℕ) (FA : A → Type 0) (F : List (List ℕ) → Type 0) (rt : List ℕ → Result T ℕ) (make : A → T → B)
    → IsField A ra sa FA → IsStopped (A × List ℕ) behind ra F → ((a : A) → FA a → (fs : List (List ℕ)) × F fs × (concat fs ≡ sa a))
    → ((bytes : List ℕ) → Within (λ _. 0) (length bytes) (rt bytes)) → ((bytes : List ℕ) (left : ℕ) → rt bytes ≡ Err left → left ≡ length bytes)
    → IsStopped B (λ _. 0) (λ bytes. ra bytes >>= λ a. rt a.1 >>= λ t. Ok (make a.0 t)) F
closed A T B ra sa FA F rt make field stopped whole inside fails = record {
  within = λ bytes. Within-next behind (λ _. 0) (length bytes) (ra bytes) _ (stopped.within bytes) last;
  stops = λ bytes left fits e. failed bytes left fits (bind_err (A × List ℕ) B (ra bytes) _ left e);
  passes = λ whole more after f. Within-next behind (λ _. 0) (length after) (ra (concat whole ++ after)) _ (stopped.passes whole more after f) last;
}
  where
    last : (a : A × List ℕ) → Within (λ (_ : B). 0) (length a.1) (rt a.1 >>= λ t. good B (make a.0 t))
    last a = Within-then (λ _. 0) (λ _. 0) (length a.1) (rt a.1) _ (inside a.1) (λ t le. omega arith)

    failed : (bytes : List ℕ) (left : ℕ) → IsBytes bytes → (ra bytes ≡ Err left) ⊎ ((a : A × List ℕ) × (ra bytes ≡ Ok a) × ((rt a.1 >>= λ t. good B (make a.0 t)) ≡ Err left)) → (fs : List (List ℕ)) × F fs × InFront fs bytes left
    failed bytes left fits (inl e) = stopped.stops bytes left fits e
    failed bytes left fits (inr e) =
        let t = field.takes bytes e.0 fits e.1 in
        let w = whole e.0.0 t.1 in
        let left_is = fails e.0.1 left (made_err T B (rt e.0.1) (λ t. make e.0.0 t) left e.2) in
        (w.0, w.1, record { whole = w.0; more = []; rest = e.0.1; split = append-nil w.0; parts = t.0.parts ∙ ap (λ (bs : List ℕ). bs ++ e.0.1) (sym w.2); left_is = sym left_is })
