-- What a parse of the program's command makes of the plain forms.
use Rattle.std.proofs.Common.{◌≡◌, ◌≢◌, ◌↔◌, refl, Bool, true, false, List, [], ◌∷◌, Option, Some, None, codes, inl, inr}
use Rattle.std.specs.Prelude.{slice_index}
use Rattle.std.specs.Str.{bytes_eq}
use Rattle.std.proofs.lemmas.Bool.{ne_eqb}
use Rattle.clap.specs.Lexer.{long_of, short_of}
use Rattle.clap.specs.Words.{Text}
use Rattle.clap.proofs.OnLiterals.{clap_on_literals}
use Rattle.run_words.specs.declared.task.Task.{Task}
use Rattle.run_words.specs.declared.task.Task.TheVariants.{Follow}
use Rattle.run_words.specs.Words.{AreTaken, AreWords, AskFor, given, is_given}
use Rattle.run_words.specs.Plain.{GiveBoth, GiveOption}
use Rattle.run_words.specs.Laws.{ExportFormAsks, FollowFormAsks, NoWordsAskForTheScript, OneOptionAsksForNothing, PlainFormsAsk}
use Rattle.run_words.proofs.LawLemmas.{count_alone, one_task, seed_alone}

-- a word that begins with no hyphen is no flag, so behind an option it is its value
record IsNoFlag (word : Text) : Type 0 where
  dashes : bytes_eq word (45 ∷ 45 ∷ []) ≡ false
  long : long_of word ≡ None
  short : short_of word ≡ None

no_flag : (word : Text) → slice_index word 0 ≢ 45 → IsNoFlag word
no_flag [] ne = record { dashes = refl; long = refl; short = refl }
no_flag (c ∷ cs) ne = let e = ne_eqb c 45 ne in record { dashes = rw e refl; long = rw e refl; short = rw e refl }

-- the words are taken, and give these values, and the flag or not
abbrev Gives : List Text → Option Text → Option Text → Option Text → Bool → Type 0
Gives words seed number from follow = AreTaken words × (given (codes "generate") words ≡ seed) × (given (codes "count") words ≡ number)
    × (given (codes "export") words ≡ from) × (is_given (codes "follow") words ≡ follow)

-- then they ask for what these ask for
gives_asks : (words : List Text) (seed number from : Option Text) (follow : Bool) (task : Task) → Gives words seed number from follow
    → AreWords words task ↔ AskFor seed number from follow task
gives_asks words seed number from follow task (taken, seed_is, number_is, from_is, follow_is) =
    rw (seed_is, number_is, from_is, follow_is) (λ w. w.1, λ h. (taken, h))

pub no_words : NoWordsAskForTheScript
unfolding AreTaken given is_given clap_on_literals
no_words = (refl, (refl, refl, refl, refl))

seed_given : (seed : Text) (words : List Text) → GiveOption (codes "generate") seed words → Gives words (Some seed) None None false
unfolding AreTaken given is_given clap_on_literals
seed_given seed words (inl e) = rw e (refl, refl, refl, refl, refl)
seed_given seed words (inr e) = let s = no_flag seed e.1 in rw (e.0, s.dashes, s.long, s.short) (refl, refl, refl, refl, refl)

count_given : (number : Text) (words : List Text) → GiveOption (codes "count") number words → Gives words None (Some number) None false
unfolding AreTaken given is_given clap_on_literals
count_given number words (inl e) = rw e (refl, refl, refl, refl, refl)
count_given number words (inr e) = let n = no_flag number e.1 in rw (e.0, n.dashes, n.long, n.short) (refl, refl, refl, refl, refl)

from_given : (from : Text) (words : List Text) → GiveOption (codes "export") from words → Gives words None None (Some from) false
unfolding AreTaken given is_given clap_on_literals
from_given from words (inl e) = rw e (refl, refl, refl, refl, refl)
from_given from words (inr e) = let s = no_flag from e.1 in rw (e.0, s.dashes, s.long, s.short) (refl, refl, refl, refl, refl)

-- what a walk makes of the words computes once each value is known to be no flag, the one that is read first at last
both_given : (seed number : Text) (words : List Text) → GiveBoth seed number words → Gives words (Some seed) (Some number) None false
unfolding AreTaken given is_given clap_on_literals
both_given seed number words (first, (second, (joined, inl (inl e, inl f)))) = rw (joined, e, f) (refl, refl, refl, refl, refl)
both_given seed number words (first, (second, (joined, inl (inl e, inr f)))) = let n = no_flag number f.1 in rw (joined, e, f.0, n.dashes, n.long, n.short) (refl, refl, refl, refl, refl)
both_given seed number words (first, (second, (joined, inl (inr e, inl f)))) = let s = no_flag seed e.1 in rw (joined, e.0, f, s.dashes, s.long, s.short) (refl, refl, refl, refl, refl)
both_given seed number words (first, (second, (joined, inl (inr e, inr f)))) =
    let s = no_flag seed e.1 in let n = no_flag number f.1 in rw (joined, e.0, f.0, s.dashes, s.long, s.short, n.dashes, n.long, n.short) (refl, refl, refl, refl, refl)
both_given seed number words (first, (second, (joined, inr (inl e, inl f)))) = rw (joined, e, f) (refl, refl, refl, refl, refl)
both_given seed number words (first, (second, (joined, inr (inl e, inr f)))) = let s = no_flag seed f.1 in rw (joined, e, f.0, s.dashes, s.long, s.short) (refl, refl, refl, refl, refl)
both_given seed number words (first, (second, (joined, inr (inr e, inl f)))) = let n = no_flag number e.1 in rw (joined, e.0, f, n.dashes, n.long, n.short) (refl, refl, refl, refl, refl)
both_given seed number words (first, (second, (joined, inr (inr e, inr f)))) =
    let s = no_flag seed f.1 in let n = no_flag number e.1 in rw (joined, e.0, f.0, n.dashes, n.long, n.short, s.dashes, s.long, s.short) (refl, refl, refl, refl, refl)

pub plain_forms : PlainFormsAsk
plain_forms seed number words forms task = gives_asks words (Some seed) (Some number) None false task (both_given seed number words forms)

pub export_form : ExportFormAsks
export_form from words form task = gives_asks words None None (Some from) false task (from_given from words form)

follow_given : Gives (codes "--follow" ∷ []) None None None true
unfolding AreTaken given is_given clap_on_literals
follow_given = (refl, refl, refl, refl, refl)

-- what asks for the flag alone is `Follow`
pub follow_form : FollowFormAsks
follow_form task =
    let asks = gives_asks (codes "--follow" ∷ []) None None None true task follow_given in
    (λ w. one_task None None None true task Follow (asks.0 w) (refl, refl, refl, refl), λ is. asks.1 (rw is (refl, refl, refl, refl)))

pub one_option : OneOptionAsksForNothing
one_option value words (inl form) = λ task w. seed_alone value None false task ((gives_asks words (Some value) None None false task (seed_given value words form)).0 w)
one_option value words (inr form) = λ task w. count_alone value None false task ((gives_asks words None (Some value) None false task (count_given value words form)).0 w)
