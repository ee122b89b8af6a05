-- What a parse of the program's command tells of the words.
use Rattle.std.proofs.Common.{◌≡◌, ◌∙◌, ap, subst, sym, refl, true, Bool, false, List, [], Option, Some, None, Result, Ok, Err, IfOk, IfSome, IfNone, IsErrAnd, IsErrOf, inl, inr, codes}
use Rattle.std.specs.Prelude.{unwrap_or}
use Rattle.std.specs.Option.{ok_or, option_map_or}
use Rattle.std.specs.Str.{bytes_eq}
use Rattle.std.specs.Str.Parse.{ParsesBool}
use Rattle.std.proofs.lemmas.Slice.Eq.{bytes_eq-Decides}
use Rattle.clap.specs.Words.{App, HasMatchesOf, ReadsOne, Text, fault_of, first_of, first_value, found_of, is_simple, is_simple_and_free, matches_of, one_of, one_text}
use Rattle.clap.specs.declared.parser.matches.ArgMatches.{ArgMatches}
use Rattle.clap.proofs.OnLiterals.{clap_on_literals}
use Rattle.clap.proofs.WalkLemmas.{first_value-rows, one_text-rows}
use Rattle.run_words.specs.Words.{AreNoWords, AreTaken, AreWords, AskFor, command, given, is_given}
use Rattle.run_words.specs.Numbers.{WritesNumber}
use Rattle.run_words.specs.declared.task.FirstEntry.{FirstEntry}
use Rattle.run_words.specs.declared.task.SampleNumbers.{SampleNumbers}
use Rattle.run_words.specs.declared.task.Task.{Task}
use Rattle.run_words.specs.declared.task.Task.TheVariants.{Script, Generate, Export, Follow}
use Rattle.run_words.specs.declared.error.WordsError.{WordsError}
use Rattle.run_words.specs.declared.error.WordsError.TheVariants.{Memory, Refused}
use Rattle.run_words.specs.Errors.{error_of_kind}
use Rattle.clap.specs.Words.{HasKind, IsAmong, kind_of}
use Rattle.clap.specs.declared.error.Error.{Error}
use Rattle.clap.specs.declared.error.kind.ErrorKind.TheVariants as kinds

pub simple : is_simple command ≡ true
unfolding clap_on_literals
simple = refl

pub free : is_simple_and_free command ≡ true
unfolding clap_on_literals
free = refl

-- a parse that succeeds takes the words
pub taken : (a : App) (words : List Text) → a ≡ command → (is_simple_and_free a ≡ true → fault_of a words ≡ []) → AreTaken words
unfolding AreTaken
taken a words is h = subst (λ (x : App). fault_of x words ≡ []) is (h (ap is_simple_and_free is ∙ free))

-- and has the values that the words give
pub has_given : (a : App) (words : List Text) (m : ArgMatches) → a ≡ command → HasMatchesOf a words m → (name : Text) → first_value (found_of m) name ≡ given name words
unfolding given
has_given a words m is h name =
    first_value-rows (found_of m) name ∙ ap (first_of name) (h (ap is_simple is ∙ simple)).0 ∙ ap (λ (x : App). first_of name (matches_of x words)) is

-- what a text that is read as a `bool` comes to, with false where there is none or it writes none
is_true : (E : Type 0) (text : Option Text) (value : Option Bool) → (text ≡ None → value ≡ None)
    → ((t : Text) → text ≡ Some t → ReadsOne {E = E} ParsesBool t value)
    → unwrap_or value false ≡ option_map_or (λ t. bytes_eq t (codes "true")) text false
is_true E None value none some = rw (none refl) refl
is_true E (Some t) value none some = go value (some t refl)
  where
    go : (value : Option Bool) → ReadsOne {E = E} ParsesBool t value → unwrap_or value false ≡ bytes_eq t (codes "true")
    go (Some true) is = rw is refl
    go (Some false) is = rw is refl
    go None other = sym (no_match (bytes_eq t (codes "true")) refl)
      where
        no_match : (b : Bool) → bytes_eq t (codes "true") ≡ b → b ≡ false
        no_match true e = absurd (other.1.0 ((bytes_eq-Decides t (codes "true")).0 e))
        no_match false e = refl

-- and so a parse that succeeds reads the flag as the words give it
pub has_flag : (E : Type 0) (a : App) (words : List Text) (m : ArgMatches) → a ≡ command → HasMatchesOf a words m → (name : Text) (value : Option Bool)
    → (one_text (found_of m) name ≡ None → value ≡ None) → ((t : Text) → one_text (found_of m) name ≡ Some t → ReadsOne {E = E} ParsesBool t value)
    → unwrap_or value false ≡ is_given name words
unfolding is_given
has_flag E a words m is h name value none some =
    is_true E (one_text (found_of m) name) value none some
    ∙ ap (λ (text : Option Text). option_map_or (λ t. bytes_eq t (codes "true")) text false)
    (one_text-rows (found_of m) name ∙ ap (one_of name) (h (ap is_simple is ∙ simple)).0 ∙ ap (λ (x : App). one_of name (matches_of x words)) is)

err_is : (e : WordsError) → IsErrOf {T = Task} (Err e) Refused → e ≡ Refused
err_is e same = cc

-- a parse that fails, and not for want of memory, doesn't take the words
pub not_taken : (a : App) (words : List Text) (error : Error) (r : Result Task WordsError) → a ≡ command → (is_simple_and_free a ≡ true → HasKind (fault_of a words) error)
    → IsErrAnd r (λ e. e ≡ error_of_kind (kind_of error)) → IsErrOf r Refused → AreNoWords words
unfolding AreTaken
not_taken a words error (Ok task) is h why e = λ _ w. why
not_taken a words error (Err x) is h why e = λ task w. go (subst (λ (y : App). HasKind (fault_of y words) error) is (h (ap is_simple_and_free is ∙ free))) w.0
  where
    no_memory : kind_of error ≡ kinds.OutOfMemory → ⊥
    no_memory m = let bad : Memory ≡ Refused = sym (why ∙ ap error_of_kind m) ∙ err_is x e in cc

    go : HasKind (fault_of command words) error → fault_of command words ≡ [] → ⊥
    go (inl m) none = no_memory m
    go (inr among) none = subst (IsAmong (kind_of error)) none among

-- what the values of words that are taken ask for is what the words do
abbrev Asked : List Text → Task → Type 0
Asked words = AskFor (given (codes "generate") words) (given (codes "count") words) (given (codes "export") words) (is_given (codes "follow") words)

module _ (words : List Text) (taken : AreTaken words) where
  pub read : (found : Option Task) (r : Result Task WordsError) → r ≡ ok_or found Refused → IfSome found (Asked words) → IfOk r (AreWords words)
  read (Some task) r is h = rw is (taken, h)
  read None r is h = rw is tt

  pub refused : (found : Option Task) (r : Result Task WordsError) → r ≡ ok_or found Refused → IfNone found ((task : Task) → Asked words task → ⊥) → IsErrOf r Refused → AreNoWords words
  refused (Some task) r is h e = absurd (let bad : Ok task ≡ Err Refused = sym is ∙ e in cc)
  refused None r is h e = λ task w. h task w.1

pub some_none : {X : Type 0} (x : X) → Some x ≡ None → ⊥
some_none x e = cc

-- values that write no sample's numbers ask for nothing
pub no_sample : (s n : Text) → ((sample : SampleNumbers) → WritesNumber s sample.seed → WritesNumber n sample.count → ⊥) → (task : Task) → AskFor (Some s) (Some n) None false task → ⊥
no_sample s n none Script h = some_none s h.0
no_sample s n none (Generate sample) h = none sample h.0 h.1
no_sample s n none (Export first) h = some_none s h.0
no_sample s n none Follow h = some_none s h.0

-- and one that writes no entry's number
pub no_entry : (f : Text) → ((first : FirstEntry) → WritesNumber f first.number → ⊥) → (task : Task) → AskFor None None (Some f) false task → ⊥
no_entry f none Script h = some_none f h.2
no_entry f none (Generate sample) h = h.0
no_entry f none (Export first) h = none first h.2
no_entry f none Follow h = some_none f h.2
