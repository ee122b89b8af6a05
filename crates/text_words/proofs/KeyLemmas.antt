-- The keys of runs, of ASCII and of others.
use Rattle.std.proofs.Common.{◌≡◌, ◌↔◌, ◌||◌, ℕ, ◌<◌, ◌≤◌, List, map, length, Option, true, Some, None, IsSome, IfSome, Result, Ok, Err, IfOk, chars, encode_utf8_all, IsAscii, refl, sym, ap, subst, ◌∙◌, arith, if◌then◌else◌}
use Rattle.std.proofs.lemmas.Bool.Decides.{nat_tests}
use Rattle.std.proofs.lemmas.Str.{chars-IsAscii, encodes-IsAscii}
use Rattle.std.proofs.lemmas.Str.Ascii.{IsAscii-map}
use Rattle.std.specs.Char.{to_ascii_lowercase, is_ascii_alphanumeric}
use Rattle.std.specs.Bool.{beq}
use Rattle.ucd_table.proofs.Computing.{tables}
use Rattle.ucd_table.proofs.Stepped.{Stepped, map_stepped}
use Rattle.ucd_table.proofs.Facts.{Stepped-below, same_from_beq}
use Rattle.ucd_category.proofs.GeneralCategoryLemmas.{general_category_stepped}
use Rattle.ucd_category.specs.declared.GeneralCategoryGroup.TheVariants.{Letter, Mark, Number}
use Rattle.unicode.specs.GeneralCategory.{general_category}
use Rattle.unicode.specs.GeneralCategoryGroup.{in_group}
use Rattle.caseless.proofs.CaselessLemmas.{All-chars, canonical_key-ascii, default_case_fold-ascii}
use Rattle.text_words.specs.Terms.{is_term, key, is_key, term_of}

-- in ASCII the letters and digits alone are parts of runs
pub is_term-ascii : (c : ℕ) → c < 128 → is_term c ≡ is_ascii_alphanumeric c
unfolding tables general_category_stepped
is_term-ascii c h =
    let stepped : Stepped is_term = map_stepped (λ g. in_group Letter g || in_group Mark g || in_group Number g) general_category general_category_stepped in
    same_from_beq _ _ (Stepped-below is_term stepped (λ x v. beq v (is_ascii_alphanumeric x)) 128 refl c h)

lower_ascii : (c : ℕ) → c < 128 → to_ascii_lowercase c < 128
lower_ascii c h = grind (arith, nat_tests)

-- the key of a run of ASCII is its lower case
pub key-ascii : (bs : List ℕ) → IsAscii bs → key (chars bs) ≡ map to_ascii_lowercase bs
key-ascii bs ascii =
    let all = All-chars bs ascii in
    ap encode_utf8_all (canonical_key-ascii (chars bs) all ∙ default_case_fold-ascii (chars bs) all ∙ ap (map to_ascii_lowercase) (chars-IsAscii bs ascii))
    ∙ encodes-IsAscii (map to_ascii_lowercase bs) (IsAscii-map to_ascii_lowercase bs lower_ascii ascii)

-- what is made of a run's key, where it has 1 to 255 bytes, is the run's term
pub term_of-made : (run bytes : List ℕ) (made : Option (List ℕ)) → bytes ≡ key run → (IsSome made ↔ ((1 ≤ length bytes) × (length bytes ≤ 255))) → IfSome made (λ k. k ≡ bytes) → made ≡ term_of run
term_of-made run bytes None e valid value = subst (λ b. None ≡ (if is_key b then Some b else None)) e (grind (arith, nat_tests))
term_of-made run bytes (Some k) e valid value = subst (λ b. Some k ≡ (if is_key b then Some b else None)) e (grind (arith, nat_tests))

pub term_of-made_ok : {E : Type 0} (run bytes : List ℕ) (made : Result (Option (List ℕ)) E) → bytes ≡ key run → IfOk made (λ k. IsSome k ↔ ((1 ≤ length bytes) × (length bytes ≤ 255))) → IfOk made (λ k. IfSome k (λ b. b ≡ bytes)) → IfOk made (λ k. k ≡ term_of run)
term_of-made_ok run bytes (Ok k) e valid value = term_of-made run bytes k e valid value
term_of-made_ok run bytes (Err why) e valid value = tt

-- a word that is the lower case of a run of ASCII is the run's term
pub term_of-lower : (run word : List ℕ) → IsAscii run → word ≡ map to_ascii_lowercase run → 1 ≤ length word → length word ≤ 255 → term_of (chars run) ≡ Some word
term_of-lower run word ascii e some short = sym (term_of-made (chars run) word (Some word) (e ∙ sym (key-ascii run ascii)) (λ _. (some, short), λ _. refl) refl)

some_term : (run : List ℕ) → is_key (key run) ≡ true → term_of run ≡ Some (key run)
some_term run h = ap (λ b. if b then Some (key run) else None) h

-- two terms are one exactly where their keys are
pub one_term_by_keys : (one other : List ℕ) → is_key (key one) ≡ true → is_key (key other) ≡ true → ((term_of one ≡ term_of other) ↔ (key one ≡ key other))
one_term_by_keys one other h g = (
  λ e. let s : Some (key one) ≡ Some (key other) = sym (some_term one h) ∙ e ∙ some_term other g in cc,
  λ e. some_term one h ∙ ap Some e ∙ sym (some_term other g),
)
