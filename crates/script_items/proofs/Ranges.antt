-- What items name is in range.
use Rattle.std.specs.Prelude.{◌≡◌, ℕ, ◌+◌, ◌<◌, ◌≤◌, ◌^◌, Bool, true, false, cond, nat_le, nat_lt, List, [], ◌∷◌, ◌++◌, length, All, Option, Some, None, refl}
use Rattle.std.proofs.Common.{arith, ap, subst, length-append}
use Rattle.std.proofs.lemmas.Bool.{leb-false}
use Rattle.std.proofs.lemmas.List.Elements.{All-nil, All-cons, All-append, All-head, All-tail}
use Rattle.base_commands.specs.Batches.{item_bytes, texts_bytes}
use Rattle.base_commands.specs.Documents.{HasDocument, HaveDocuments, MemberHasDocument}
use Rattle.base_commands.specs.declared.batch.BatchItem.{BatchItem}
use Rattle.base_commands.specs.declared.batch.BatchItems.TheVariants.{Items as Kept, TooLong}
use Rattle.base_commands.specs.declared.command.Command.{Command}
use Rattle.base_commands.specs.declared.command.Command.TheVariants as commands
use Rattle.base_commands.specs.declared.command.Item.{Item}
use Rattle.base_commands.specs.declared.command.Item.TheVariants as items
use Rattle.script_read.specs.Parts.{IsPartInRange}
use Rattle.script_read.specs.declared.part.Part.{Part}
use Rattle.script_read.specs.declared.part.Part.TheVariants as parts
use Rattle.script_read.proofs.Ranges as parted
use Rattle.script_items.specs.Groups.{Begun, Made, batch_of, makes, member, member_by, with_item}
use Rattle.script_items.specs.Items.{Items}
use Rattle.script_items.proofs.GroupLemmas.{more_with, whole_with}

-- a command as an item of a batch
by_command : (c : Command) → IsPartInRange (parts.Item (items.Command c)) → MemberHasDocument (member_by c) × (item_bytes (member_by c) < 2 ^ 40)
by_command (commands.Arrive doc at text) fits = fits
by_command (commands.Delete doc at) fits = (fits.0, omega arith)
by_command c fits = (tt, omega arith)

pub member-fits : (part : Part) → IsPartInRange part → MemberHasDocument (member part) × (item_bytes (member part) < 2 ^ 40)
member-fits (parts.Item (items.Command c)) fits = by_command c fits
member-fits (parts.Item items.Line) fits = (tt, omega arith)
member-fits (parts.Batch count) fits = (tt, omega arith)

-- a batch under way has documents in range, and will have no more items than a batch may have
abbrev IsFit : Option Begun → Type 0
IsFit None = Unit {0}
IsFit (Some begun) = (1 ≤ begun.left) × (begun.left + length begun.come ≤ 1000) × All MemberHasDocument begun.come

batch-fits : (batch : List BatchItem) → 1 ≤ length batch → length batch ≤ 1000 → All MemberHasDocument batch → HaveDocuments (batch_of batch)
batch-fits batch some few all = go (nat_lt 16777216 (texts_bytes batch))
  where
    go : (b : Bool) → HaveDocuments (cond b (TooLong (texts_bytes batch)) (Kept batch))
    go true = tt
    go false = (some, few, all)

come-fits : (begun : Begun) (part : Part) → IsFit (Some begun) → IsPartInRange part → All MemberHasDocument (begun.come ++ member part ∷ [])
come-fits begun part fits in_range =
    All-append MemberHasDocument begun.come (member part ∷ []) fits.2 (All-cons MemberHasDocument (member part) [] (member-fits part in_range).0 (All-nil MemberHasDocument))

fits_by : (begun : Begun) (part : Part) (done more : Made) → IsFit (Some begun) → IsPartInRange part → All HasDocument done.items
    → (IsFit (Some (more_with begun part)) → All HasDocument more.items) → All HasDocument (cond (nat_le begun.left 1) (with_item (whole_with begun part) done) more).items
fits_by begun part done more fits in_range front on = go (nat_le begun.left 1) refl
  where
    longer : length (begun.come ++ member part ∷ []) ≡ length begun.come + 1
    longer = length-append begun.come (member part ∷ [])

    whole : HasDocument (whole_with begun part)
    whole = batch-fits (begun.come ++ member part ∷ []) (omega (arith, longer)) (omega (arith, longer, fits.0, fits.1)) (come-fits begun part fits in_range)

    go : (t : Bool) → nat_le begun.left 1 ≡ t → All HasDocument (cond t (with_item (whole_with begun part) done) more).items
    go true last = All-cons HasDocument (whole_with begun part) done.items whole front
    go false last =
        let left : 1 < begun.left = leb-false begun.left 1 last in
        on (omega (arith, left), omega (arith, longer, fits.1, left), come-fits begun part fits in_range)

makes-fits : (begun : Option Begun) (ps : List Part) → IsFit begun → All IsPartInRange ps → All HasDocument (makes begun ps).items
makes-fits begun [] fits all = All-nil HasDocument
makes-fits None (parts.Item item ∷ ps) fits all =
    let first : IsPartInRange (parts.Item item) = All-head IsPartInRange (parts.Item item) ps all in
    All-cons HasDocument item (makes None ps).items first.0 (makes-fits None ps tt (All-tail IsPartInRange (parts.Item item) ps all))
makes-fits None (parts.Batch count ∷ ps) fits all =
    let first : IsPartInRange (parts.Batch count) = All-head IsPartInRange (parts.Batch count) ps all in
    makes-fits (Some (record { left = count; come = [] })) ps (first.0, omega (arith, first.1), All-nil MemberHasDocument) (All-tail IsPartInRange (parts.Batch count) ps all)
makes-fits (Some begun) (part ∷ ps) fits all =
    let rest = All-tail IsPartInRange part ps all in
    fits_by begun part (makes None ps) (makes (Some (more_with begun part)) ps) fits (All-head IsPartInRange part ps all) (makes-fits None ps tt rest)
    (λ so. makes-fits (Some (more_with begun part)) ps so rest)

-- The documents that the items of any bytes name are numbers below 2^32, and their batches have 1 to 1,000 items.
pub Items-documents : (e : Bool) (bytes : List ℕ) (items : List Item) (rest : List ℕ) → Items e bytes items rest → All HasDocument items
Items-documents e bytes items rest i =
    subst (All HasDocument) (ap (λ m. m.items) i.are) (makes-fits None i.parts tt (parted.Items-documents e bytes i.parts rest i.in_turn))
