-- Any words ask for one thing or for nothing.
use Rattle.std.proofs.Common.{◌≡◌, ◌∙◌, refl, ◌<◌, ◌≤◌, ◌⊎◌, ℕ, Bool, true, false, inl, inr, ap, sym, arith, [], ◌∷◌, length, Option, Some, None, IsSomeAnd, codes}
use Rattle.std.specs.Prelude.{◌^◌}
use Rattle.std.specs.Coded.{le_prop}
use mathlib.Core.HLevel.{is_prop→PathP}
use Rattle.std.specs.Char.{is_ascii_digit}
use Rattle.std.specs.List.{list_all}
use Rattle.std.specs.Str.Parse.{digits_value}
use Rattle.std.proofs.lemmas.Bool.{cases_lt, cases_Bool}
use Rattle.clap.specs.Words.{Kinds, Text, fault_of}
use Rattle.run_words.specs.Numbers.{WritesNumber}
use Rattle.run_words.specs.declared.task.FirstEntry.{FirstEntry}
use Rattle.run_words.specs.declared.task.SampleNumbers.{SampleNumbers}
use Rattle.run_words.specs.declared.task.Task.{Task}
use Rattle.run_words.specs.declared.task.Task.TheVariants.{Script, Generate, Export, Follow}
use Rattle.run_words.specs.Words.{AreNoWords, AreTaken, AreWords, AskFor, command, given, is_given}
use Rattle.run_words.specs.Laws.{WordsAskForOneThing, WordsAskOrDoNot}
use Rattle.run_words.proofs.NumberLemmas.{below}
use Rattle.run_words.proofs.ReadLemmas.{no_entry, no_sample, some_none}

-- ---- one thing at most

one_number : (value : Option Text) (n m : ℕ) → IsSomeAnd value (λ text. WritesNumber text n) → IsSomeAnd value (λ text. WritesNumber text m) → n ≡ m
one_number (Some text) n m a b = a.value ∙ sym b.value
one_number None n m a b = absurd a

one_sample : (one other : SampleNumbers) → one.seed ≡ other.seed → one.count ≡ other.count → one ≡ other
one_sample one other seeds counts = λ i. record {
  seed = seeds i;
  count = counts i;
  nineteen_digits = is_prop→PathP (λ j. seeds j < 10 ^ 19) (λ j. le_prop) one.nineteen_digits other.nineteen_digits i;
  not_empty = is_prop→PathP (λ j. 1 ≤ counts j) (λ j. le_prop) one.not_empty other.not_empty i;
  at_most = is_prop→PathP (λ j. counts j ≤ 100000) (λ j. le_prop) one.at_most other.at_most i;
}

none_given : (value : Option Text) (n : ℕ) → value ≡ None → IsSomeAnd value (λ text. WritesNumber text n) → ⊥
none_given (Some text) n e a = cc
none_given None n e a = a

one_entry : (one other : FirstEntry) → one.number ≡ other.number → one ≡ other
one_entry one other numbers = λ i. record { number = numbers i; some = is_prop→PathP (λ j. 1 ≤ numbers j) (λ j. le_prop) one.some other.some i }

true_false : (follow : Bool) → follow ≡ true → follow ≡ false → ⊥
true_false follow set unset = let bad : true ≡ false = sym set ∙ unset in cc

pub one_task : (seed count from : Option Text) (follow : Bool) (one other : Task) → AskFor seed count from follow one → AskFor seed count from follow other → one ≡ other
one_task seed count from follow Script Script a b = refl
one_task seed count from follow Script (Generate sample) a b = absurd (none_given seed sample.seed a.0 b.0)
one_task seed count from follow Script (Export first) a b = absurd (none_given from first.number a.2 b.2)
one_task seed count from follow Script Follow a b = absurd (true_false follow b.3 a.3)
one_task seed count from follow (Generate sample) Script a b = absurd (none_given seed sample.seed b.0 a.0)
one_task seed count from follow (Generate one) (Generate other) a b = ap Generate (one_sample one other (one_number seed _ _ a.0 b.0) (one_number count _ _ a.1 b.1))
one_task seed count from follow (Generate sample) (Export first) a b = absurd (none_given seed sample.seed b.0 a.0)
one_task seed count from follow (Generate sample) Follow a b = absurd (true_false follow b.3 a.3)
one_task seed count from follow (Export first) Script a b = absurd (none_given from first.number b.2 a.2)
one_task seed count from follow (Export first) (Generate sample) a b = absurd (none_given seed sample.seed a.0 b.0)
one_task seed count from follow (Export one) (Export other) a b = ap Export (one_entry one other (one_number from _ _ a.2 b.2))
one_task seed count from follow (Export first) Follow a b = absurd (true_false follow b.3 a.3)
one_task seed count from follow Follow Script a b = absurd (true_false follow a.3 b.3)
one_task seed count from follow Follow (Generate sample) a b = absurd (true_false follow a.3 b.3)
one_task seed count from follow Follow (Export first) a b = absurd (true_false follow a.3 b.3)
one_task seed count from follow Follow Follow a b = refl

pub one_thing : WordsAskForOneThing
one_thing words one other a b =
    one_task (given (codes "generate") words) (given (codes "count") words) (given (codes "export") words) (is_given (codes "follow") words) one other a.1 b.1

-- ---- one or none

number_or_none : (text : Text) → ((n : ℕ) × WritesNumber text n) ⊎ ((n : ℕ) → WritesNumber text n → ⊥)
number_or_none text = elim (cases_Bool (list_all is_ascii_digit text)) [
  | inr e ↦ inr (λ n w. let bad : true ≡ false = sym w.digits ∙ e in cc)
  | inl e ↦ elim (cases_lt 0 (length text)) [
    | inr none ↦ inr (λ n w. omega (arith, w.some))
    | inl some ↦ elim (cases_lt (length text) 20) [
      | inr long ↦ inr (λ n w. omega (arith, w.few))
      | inl few ↦ inl (digits_value 10 text, record { digits = e; some = omega arith; few = omega arith; value = refl })
    ]
  ]
]

abbrev Asks : Option Text → Option Text → Option Text → Bool → Type 0
Asks seed count from follow = ((task : Task) × AskFor seed count from follow task) ⊎ ((task : Task) → AskFor seed count from follow task → ⊥)

sample_or_none : (s n : Text) → Asks (Some s) (Some n) None false
sample_or_none s n = elim (number_or_none s) [
  | inr never ↦ inr (no_sample s n (λ sample w v. never sample.seed w))
  | inl seed ↦ elim (number_or_none n) [
    | inr never ↦ inr (no_sample s n (λ sample w v. never sample.count v))
    | inl count ↦ elim (cases_lt 0 count.0) [
      | inr low ↦ inr (no_sample s n (λ sample w v. omega (arith, sample.not_empty, v.value, count.1.value)))
      | inl some ↦ elim (cases_lt 100000 count.0) [
        | inl high ↦ inr (no_sample s n (λ sample w v. omega (arith, sample.at_most, v.value, count.1.value)))
        | inr within ↦ inl (Generate (record { seed = seed.0; count = count.0; nineteen_digits = below s seed.0 seed.1; not_empty = omega arith; at_most = omega arith }), (seed.1, count.1, refl, refl))
      ]
    ]
  ]
]

entry_or_none : (f : Text) → Asks None None (Some f) false
entry_or_none f = elim (number_or_none f) [
  | inr never ↦ inr (no_entry f (λ first w. never first.number w))
  | inl number ↦ elim (cases_lt 0 number.0) [
    | inr low ↦ inr (no_entry f (λ first w. omega (arith, first.some, w.value, number.1.value, low)))
    | inl some ↦ inl (Export (record { number = number.0; some = omega (arith, some) }), (refl, refl, number.1, refl))
  ]
]

-- one value of a sample alone asks for nothing
pub seed_alone : (seed : Text) (from : Option Text) (follow : Bool) (task : Task) → AskFor (Some seed) None from follow task → ⊥
seed_alone seed from follow Script h = some_none seed h.0
seed_alone seed from follow (Generate sample) h = h.1
seed_alone seed from follow (Export first) h = some_none seed h.0
seed_alone seed from follow Follow h = some_none seed h.0

pub count_alone : (count : Text) (from : Option Text) (follow : Bool) (task : Task) → AskFor None (Some count) from follow task → ⊥
count_alone count from follow Script h = some_none count h.1
count_alone count from follow (Generate sample) h = h.0
count_alone count from follow (Export first) h = some_none count h.1
count_alone count from follow Follow h = some_none count h.1

-- and an export's beside a sample's too
both_tasks : (seed count from : Text) (follow : Bool) (task : Task) → AskFor (Some seed) (Some count) (Some from) follow task → ⊥
both_tasks seed count from follow Script h = some_none seed h.0
both_tasks seed count from follow (Generate sample) h = some_none from h.2
both_tasks seed count from follow (Export first) h = some_none seed h.0
both_tasks seed count from follow Follow h = some_none seed h.0

-- and the flag beside values
sample_and_flag : (seed count : Text) (task : Task) → AskFor (Some seed) (Some count) None true task → ⊥
sample_and_flag seed count Script h = some_none seed h.0
sample_and_flag seed count (Generate sample) h = true_false true refl h.3
sample_and_flag seed count (Export first) h = some_none seed h.0
sample_and_flag seed count Follow h = some_none seed h.0

export_and_flag : (from : Text) (task : Task) → AskFor None None (Some from) true task → ⊥
export_and_flag from Script h = some_none from h.2
export_and_flag from (Generate sample) h = h.0
export_and_flag from (Export first) h = true_false true refl h.3
export_and_flag from Follow h = some_none from h.2

asks_or_not : (seed count from : Option Text) (follow : Bool) → Asks seed count from follow
asks_or_not None None None false = inl (Script, (refl, refl, refl, refl))
asks_or_not None None None true = inl (Follow, (refl, refl, refl, refl))
asks_or_not None None (Some f) false = entry_or_none f
asks_or_not None None (Some f) true = inr (export_and_flag f)
asks_or_not (Some s) (Some n) None false = sample_or_none s n
asks_or_not (Some s) (Some n) None true = inr (sample_and_flag s n)
asks_or_not (Some s) (Some n) (Some f) follow = inr (both_tasks s n f follow)
asks_or_not None (Some n) from follow = inr (count_alone n from follow)
asks_or_not (Some s) None from follow = inr (seed_alone s from follow)

pub ask_or_not : WordsAskOrDoNot
unfolding AreTaken
ask_or_not words = go (fault_of command words) refl
  where
    go : (kinds : Kinds) → fault_of command words ≡ kinds → ((task : Task) × AreWords words task) ⊎ AreNoWords words
    go (k ∷ ks) e = inr (λ task w. let bad : [] ≡ k ∷ ks = sym w.0 ∙ e in cc)
    go [] e = elim (asks_or_not (given (codes "generate") words) (given (codes "count") words) (given (codes "export") words) (is_given (codes "follow") words)) [
      | inl found ↦ inl (found.0, (e, found.1))
      | inr none ↦ inr (λ task w. none task w.1)
    ]
