-- What holds of each sample.
use Rattle.std.proofs.Common.{◌≡◌, ℕ, ◌+◌, ◌-◌, ◌*◌, ◌%◌, ◌<◌, Bool, true, false, ◌==◌, List, [], ◌∷◌, ◌++◌, length, map, All, refl, ap, arith, lit<}
use Rattle.std.specs.Prelude.{unwrap_or, if◌then◌else◌}
use Rattle.std.proofs.lemmas.List.{length-append}
use Rattle.std.proofs.lemmas.List.FromFn.{length-map-range_with_len}
use Rattle.std.proofs.lemmas.List.Elements.{All-nil, All-cons, All-map}
use Rattle.std.proofs.lemmas.Nat.{mod_below}
use Rattle.base_types.proofs.TimeLemmas.{time_of-seconds}
use Rattle.base_commands.specs.Documents.{HasDocument}
use Rattle.base_commands.specs.declared.command.Command.{Command}
use Rattle.base_commands.specs.declared.command.Command.TheVariants.{Arrive, Delete, Plan, Find, Verify}
use Rattle.base_commands.specs.declared.text.Text.TheVariants.{Bytes}
use Rattle.base_commands.specs.declared.command.Item.TheVariants as item
use Rattle.base_sample.specs.Samples.{from_to, start_of, minute, document, text, change, plan, question, changes, plans, questions, sample_of, last_time}
use Rattle.base_sample.specs.Laws.{IsSampled, MayBeSampled, MinutesAreExact, SamplesAreOfFewKinds, SamplesHaveDocuments, SamplesHaveLengths}

pub minutes : MinutesAreExact
minutes m h = rw (ap (λ t. unwrap_or t last_time) (time_of-seconds (60 * m) h)) refl

-- what holds of all of these, by a function of numbers, and of more, holds of both
all_more : (P : Command → Type 0) (f : ℕ → Command) → ((n : ℕ) → P (f n)) → (ns : List ℕ) (more : List Command) → All P more → All P (map f ns ++ more)
all_more P f each [] more h = h
all_more P f each (n ∷ ns) more h = All-cons P (f n) (map f ns ++ more) (each n) (all_more P f each ns more h)

change_sampled : (start number : ℕ) → MayBeSampled (change start number)
change_sampled start number = go (number % 10 == 0)
  where
    doc : IsSampled (document start number)
    doc = let below : (start + 7 * number) % 100 < 100 = mod_below (start + 7 * number) 100 (lit< tt) in (omega (arith, below), omega (arith, below))

    go : (b : Bool) → MayBeSampled (if b then Delete (document start number) (minute number) else Arrive (document start number) (minute number) (Bytes (text start number)))
    go true = doc
    go false = (doc, tt)

pub kinds : SamplesAreOfFewKinds
unfolding sample_of
kinds seed count =
    let asked : All MayBeSampled (questions count ++ Verify ∷ []) =
    all_more MayBeSampled (question count) (λ n. tt) (from_to 1 10) (Verify ∷ []) (All-cons MayBeSampled Verify [] tt (All-nil MayBeSampled)) in
    let planned : All MayBeSampled (plans ++ (questions count ++ Verify ∷ [])) =
    all_more MayBeSampled plan (λ n. tt) (from_to 1 8) (questions count ++ Verify ∷ []) asked in
    all_more MayBeSampled (change (start_of seed)) (change_sampled (start_of seed)) (from_to 1 count) (plans ++ (questions count ++ Verify ∷ [])) planned

-- a document of a sample is in range
in_range : (c : Command) → MayBeSampled c → HasDocument (item.Command c)
in_range (Arrive doc at text) h = omega (arith, h.0.1)
in_range (Delete doc at) h = omega (arith, h.1)
in_range (Plan word kind fraction) h = tt
in_range (Find at expr) h = tt
in_range Verify h = tt
in_range other h = absurd h

pub documents : SamplesHaveDocuments
documents seed count = All-map HasDocument (λ c. item.Command c) (sample_of seed count) (λ k d below. in_range _ (kinds seed count k d below))

pub lengths : SamplesHaveLengths
unfolding sample_of
lengths seed count =
    let first : length (changes seed count) ≡ count + 1 - 1 = length-map-range_with_len (change (start_of seed)) 1 (count + 1 - 1) in
    let both : length (changes seed count ++ (plans ++ (questions count ++ Verify ∷ []))) ≡ length (changes seed count) + 19 =
    length-append (changes seed count) (plans ++ (questions count ++ Verify ∷ [])) in
    omega (arith, first, both)
