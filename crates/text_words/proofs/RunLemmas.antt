-- Runs, as they come of a text character by character.
use Rattle.std.proofs.Common.{◌≡◌, ℕ, zero, suc, ◌+◌, ◌-◌, ◌*◌, ◌<◌, ◌≤◌, Bool, true, false, ◌&&◌, List, [], ◌∷◌, ◌++◌, length, encode_utf8_all, IsUtf8, refl, sym, ap, ◌∙◌, arith, append_assoc, append-nil, length-append, if◌then◌else◌}
use Rattle.std.proofs.lemmas.Str.{encodes-chars}
use Rattle.std.specs.List.{list_all}
use Rattle.std.specs.Str.{chars, chars_after, continuation_len, lead_bits}
use Rattle.text_words.specs.Terms.{is_term, closed, runs_from, runs}

closed_full : (bs cs : List ℕ) → encode_utf8_all cs ≡ bs → 0 < length bs → closed cs ≡ cs ∷ []
closed_full bs [] e some = absurd (omega (arith, some, ap length e))
closed_full bs (c ∷ cs) e some = refl

-- a buffer that isn't empty holds a run
pub closed-chars : (bs : List ℕ) → IsUtf8 bs → 0 < length bs → closed (chars bs) ≡ chars bs ∷ []
closed-chars bs text some = closed_full bs (chars bs) (encodes-chars bs text) some

-- a stretch of letters, marks and numbers is one run
runs_from-stretch : (begun run : List ℕ) → list_all is_term run ≡ true → runs_from begun run ≡ closed (begun ++ run)
runs_from-stretch begun [] h = sym (ap closed (append-nil begun))
runs_from-stretch begun (c ∷ run) h = by (is_term c) refl h (runs_from-stretch (begun ++ c ∷ []) run)
  where
    by : (b : Bool) → is_term c ≡ b → (b && list_all is_term run) ≡ true → (list_all is_term run ≡ true → runs_from (begun ++ c ∷ []) run ≡ closed ((begun ++ c ∷ []) ++ run))
        → (if b then runs_from (begun ++ c ∷ []) run else closed begun ++ runs_from [] run) ≡ closed (begun ++ c ∷ run)
    by true e all rest = rest all ∙ ap closed (append_assoc begun (c ∷ []) run)
    by false e all rest = absurd cc

pub runs-stretch : (run : List ℕ) → list_all is_term run ≡ true → runs run ≡ closed run
runs-stretch run = runs_from-stretch [] run

-- another character parts the runs before it from those behind it
runs_from-parted : (begun before after : List ℕ) (c : ℕ) → is_term c ≡ false → runs_from begun (before ++ c ∷ after) ≡ runs_from begun before ++ runs after
runs_from-parted begun [] after c h = ap (λ b. if b then runs_from (begun ++ c ∷ []) after else closed begun ++ runs_from [] after) h
runs_from-parted begun (d ∷ before) after c h = by (is_term d) (runs_from-parted (begun ++ d ∷ []) before after c h) (runs_from-parted [] before after c h)
  where
    by : (b : Bool) → runs_from (begun ++ d ∷ []) (before ++ c ∷ after) ≡ runs_from (begun ++ d ∷ []) before ++ runs after → runs_from [] (before ++ c ∷ after) ≡ runs_from [] before ++ runs after
        → (if b then runs_from (begun ++ d ∷ []) (before ++ c ∷ after) else closed begun ++ runs_from [] (before ++ c ∷ after)) ≡ (if b then runs_from (begun ++ d ∷ []) before else closed begun ++ runs_from [] before) ++ runs after
    by true inside outside = inside
    by false inside outside = ap (λ l. closed begun ++ l) outside ∙ sym (append_assoc (closed begun) (runs before) (runs after))

pub runs-parted : (before after : List ℕ) (c : ℕ) → is_term c ≡ false → runs (before ++ c ∷ after) ≡ runs before ++ runs after
runs-parted = runs_from-parted []

-- there are no more runs than characters
length-closed : (run : List ℕ) → length (closed run) ≤ length run
length-closed [] = omega arith
length-closed (c ∷ run) = omega arith

length-runs : (run cs : List ℕ) → length (runs_from run cs) ≤ length run + length cs
length-runs run [] = omega (arith, length-closed run)
length-runs run (c ∷ cs) = by (is_term c) (length-runs (run ++ c ∷ []) cs) (length-runs [] cs)
  where
    by : (b : Bool) → length (runs_from (run ++ c ∷ []) cs) ≤ length (run ++ c ∷ []) + length cs → length (runs_from [] cs) ≤ 0 + length cs
        → length (if b then runs_from (run ++ c ∷ []) cs else closed run ++ runs_from [] cs) ≤ length run + (length (c ∷ cs))
    by true x y = omega (arith, x, length-append run (c ∷ []))
    by false x y = omega (arith, y, length-append (closed run) (runs_from [] cs), length-closed run)

-- and no more characters than bytes, whatever the bytes are
length-after : (n c : ℕ) (bs : List ℕ) → length (chars_after n c bs) ≤ length bs + 1
length-after zero c [] = omega arith
length-after zero c (b ∷ bs) = omega (arith, length-after (continuation_len b) (lead_bits b) bs)
length-after (suc n) c [] = omega arith
length-after (suc n) c (b ∷ bs) = omega (arith, length-after n (c * 64 + (b - 128)) bs)

length-any-chars : (bs : List ℕ) → length (chars bs) ≤ length bs
unfolding chars
length-any-chars [] = omega arith
length-any-chars (b ∷ bs) = omega (arith, length-after (continuation_len b) (lead_bits b) bs)

pub length-text_runs : (text : List ℕ) → length (runs (chars text)) ≤ length text
length-text_runs text = omega (arith, length-runs [] (chars text), length-any-chars text)

-- of a text the runs so far and those that are left: the next one goes on with them, and there is room to count it
pub taken : (text : List ℕ) (done old left : List (List ℕ)) (run : List ℕ) → done ++ old ≡ runs (chars text) → old ≡ run ∷ left → (length done + 1 ≤ length text) × ((done ++ run ∷ []) ++ left ≡ runs (chars text))
taken text done old left run h e = (
  omega (arith, ap length h, ap length e, length-append done old, length-text_runs text),
  append_assoc done (run ∷ []) left ∙ ap (λ l. done ++ l) (sym e) ∙ h,
)
