-- What parts make goes on, and in which front of them all items are whole.
use Rattle.std.specs.Prelude.{◌≡◌, ◌-◌, Bool, true, false, cond, nat_le, List, [], ◌∷◌, ◌++◌, Option, Some, None, refl}
use Rattle.std.proofs.Common.{sym, ap, subst, ◌∙◌, append_assoc, append-nil}
use Rattle.base_commands.specs.declared.command.Item.{Item}
use Rattle.base_commands.specs.declared.command.Command.TheVariants as commands
use Rattle.base_commands.specs.declared.command.Item.TheVariants as items
use Rattle.script_read.specs.declared.part.Part.{Part}
use Rattle.script_read.specs.declared.part.Part.TheVariants as parts
use Rattle.script_items.specs.Groups.{Begun, Made, makes, with_item, with_items, member, batch_of}

-- a batch that is whole with one part more, and one that goes on
abbrev pub whole_with : Begun → Part → Item
whole_with batch part = items.Command (commands.Batch (batch_of (batch.come ++ member part ∷ [])))

abbrev pub more_with : Begun → Part → Begun
more_with batch part = record { left = batch.left - 1; come = batch.come ++ member part ∷ [] }

-- what is made of the parts behind, if a batch is whole or goes on
parted : (t : Bool) (whole : Item) (more : Option Begun) (a b : List Part)
    → makes None (a ++ b) ≡ with_items (makes None a).items (makes (makes None a).begun b)
    → makes more (a ++ b) ≡ with_items (makes more a).items (makes (makes more a).begun b)
    → cond t (with_item whole (makes None (a ++ b))) (makes more (a ++ b))
    ≡ with_items (cond t (with_item whole (makes None a)) (makes more a)).items (makes (cond t (with_item whole (makes None a)) (makes more a)).begun b)
parted true whole more a b one two = ap (with_item whole) one
parted false whole more a b one two = two

pub joined : (begun : Option Begun) (a b : List Part) → makes begun (a ++ b) ≡ with_items (makes begun a).items (makes (makes begun a).begun b)
joined begun [] b = refl
joined None (parts.Item item ∷ a) b = ap (with_item item) (joined None a b)
joined None (parts.Batch count ∷ a) b = joined (Some (record { left = count; come = [] })) a b
joined (Some batch) (part ∷ a) b =
    parted (nat_le batch.left 1) (whole_with batch part) (Some (more_with batch part)) a b (joined None a b) (joined (Some (more_with batch part)) a b)

-- behind parts of which no item is whole
pub joined-none : (a b : List Part) → (makes None a).items ≡ [] → makes None (a ++ b) ≡ makes (makes None a).begun b
joined-none a b none = joined None a b ∙ ap (λ (l : List Item). with_items l (makes (makes None a).begun b)) none

-- a batch that is begun is whole, or goes on
goes_on : (t : Bool) (whole : Item) (done more : Made) → (more.items ≡ [] → more.begun ≡ None → ⊥)
    → (cond t (with_item whole done) more).items ≡ [] → (cond t (with_item whole done) more).begun ≡ None → ⊥
goes_on true whole done more next none is = cc
goes_on false whole done more next none is = next none is

batch_goes_on : (batch : Begun) (a : List Part) → (makes (Some batch) a).items ≡ [] → (makes (Some batch) a).begun ≡ None → ⊥
batch_goes_on batch [] none is = cc
batch_goes_on batch (part ∷ a) none is =
    goes_on (nat_le batch.left 1) (whole_with batch part) (makes None a) (makes (Some (more_with batch part)) a) (λ n i. batch_goes_on (more_with batch part) a n i) none is

-- parts that make nothing, with nothing under way behind them, are none
pub nothing_made : (a : List Part) → (makes None a).items ≡ [] → (makes None a).begun ≡ None → a ≡ []
nothing_made [] none is = refl
nothing_made (parts.Item item ∷ a) none is = absurd cc
nothing_made (parts.Batch count ∷ a) none is = absurd (batch_goes_on (record { left = count; come = [] }) a none is)

-- with one part an item is whole, or a batch under way
pub one_whole : (begun : Option Begun) (part : Part) (item : Item) → (makes begun (part ∷ [])).items ≡ item ∷ [] → (makes begun (part ∷ [])).begun ≡ None
one_whole None (parts.Item other) item is = refl
one_whole None (parts.Batch count) item is = absurd cc
one_whole (Some batch) part item is = go (nat_le batch.left 1) is
  where
    go : (t : Bool) → (cond t (with_item (whole_with batch part) (makes None [])) (makes (Some (more_with batch part)) [])).items ≡ item ∷ []
        → (cond t (with_item (whole_with batch part) (makes None [])) (makes (Some (more_with batch part)) [])).begun ≡ None
    go true is = refl
    go false is = absurd cc

front_of_nothing : (a b : List Item) → a ++ b ≡ [] → a ≡ []
front_of_nothing [] b is = refl
front_of_nothing (x ∷ a) b is = absurd cc

no_front : (g : Option Begun) (part : Part) (a b : List Part) → g ≡ None → (makes g (part ∷ a)).begun ≡ None → (makes None (part ∷ (a ++ b))).items ≡ [] → ⊥
no_front g part a b is whole none =
    let at_none : (makes None (part ∷ a)).begun ≡ None = subst (λ (g : Option Begun). (makes g (part ∷ a)).begun ≡ None) is whole in
    let items : (makes None (part ∷ a)).items ++ (makes (makes None (part ∷ a)).begun b).items ≡ [] = sym (ap (λ (m : Made). m.items) (joined None (part ∷ a) b)) ∙ none in
    let nothing = nothing_made (part ∷ a) (front_of_nothing (makes None (part ∷ a)).items (makes (makes None (part ∷ a)).begun b).items items) at_none in
    cc

-- in one front of parts all items are whole, where no item is whole in the others
pub one_front : (g : Option Begun) (a b c d : List Part) → (makes g a).begun ≡ None → (makes g c).begun ≡ None → (makes None b).items ≡ [] → (makes None d).items ≡ [] → a ++ b ≡ c ++ d
    → a ≡ c
one_front g [] b [] d whole other none nothing same = refl
one_front g [] b (y ∷ c) d whole other none nothing same =
    absurd (no_front g y c d whole other (subst (λ (l : List Part). (makes None l).items ≡ []) same none))
one_front g (x ∷ a) b [] d whole other none nothing same =
    absurd (no_front g x a b other whole (subst (λ (l : List Part). (makes None l).items ≡ []) (sym same) nothing))
one_front g (x ∷ a) b (y ∷ c) d whole other none nothing same =
    let head : x ≡ y = cc in
    let tails : a ++ b ≡ c ++ d = cc in
    let begun : (l : List Part) → (makes (makes g (x ∷ [])).begun l).begun ≡ (makes g (x ∷ l)).begun = λ l. sym (ap (λ (m : Made). m.begun) (joined g (x ∷ []) l)) in
    let rest : a ≡ c =
    one_front (makes g (x ∷ [])).begun a b c d (begun a ∙ whole) (begun c ∙ ap (λ (p : Part). (makes g (p ∷ c)).begun) head ∙ other) none nothing tails in
    cc

-- parts that were divided: those of whole items, and those behind of which none is whole
pub record Divided (parts : List Part) (made : Made) : Type 0 where
  pub whole : List Part
  pub behind : List Part
  pub parts_are : parts ≡ whole ++ behind
  pub are : makes None whole ≡ record { items = made.items; begun = None }
  pub under_way : makes None behind ≡ record { items = []; begun = made.begun }

-- with the parts of an item in front
divided_behind : (front : List Part) (g : Option Begun) (part : Part) (item : Item) (rest : List Part) → makes None front ≡ record { items = []; begun = g }
    → ((l : List Part) → makes g (part ∷ l) ≡ with_item item (makes None l)) → Divided rest (makes None rest) → Divided (front ++ part ∷ rest) (with_item item (makes None rest))
divided_behind front g part item rest is made d = record {
  whole = front ++ part ∷ d.whole;
  behind = d.behind;
  parts_are = ap (λ (l : List Part). front ++ part ∷ l) d.parts_are ∙ sym (append_assoc front (part ∷ d.whole) d.behind);
  are =
      joined None front (part ∷ d.whole) ∙ ap (λ (m : Made). with_items m.items (makes m.begun (part ∷ d.whole))) is ∙ made d.whole ∙ ap (with_item item) d.are;
  under_way = d.under_way;
}

divided_on : (front : List Part) (part : Part) (rest : List Part) (made : Made) → Divided ((front ++ part ∷ []) ++ rest) made → Divided (front ++ part ∷ rest) made
divided_on front part rest made d = subst (λ (l : List Part). Divided l made) (append_assoc front (part ∷ []) rest) d

begun_on : (front : List Part) (g : Option Begun) (part : Part) → makes None front ≡ record { items = []; begun = g } → makes None (front ++ part ∷ []) ≡ makes g (part ∷ [])
begun_on front g part is = joined None front (part ∷ []) ∙ ap (λ (m : Made). with_items m.items (makes m.begun (part ∷ []))) is

divided_by : (front : List Part) (batch : Begun) (part : Part) (rest : List Part) → makes None front ≡ record { items = []; begun = Some batch } → Divided rest (makes None rest)
    → (makes None (front ++ part ∷ []) ≡ record { items = []; begun = Some (more_with batch part) } → Divided ((front ++ part ∷ []) ++ rest) (makes (Some (more_with batch part)) rest))
    → Divided (front ++ part ∷ rest) (makes (Some batch) (part ∷ rest))
divided_by front batch part rest is done on = go (nat_le batch.left 1) refl
  where
    made : Bool → List Part → Made
    made t l = cond t (with_item (whole_with batch part) (makes None l)) (makes (Some (more_with batch part)) l)

    go : (t : Bool) → nat_le batch.left 1 ≡ t → Divided (front ++ part ∷ rest) (made t rest)
    go true last = divided_behind front (Some batch) part (whole_with batch part) rest is (λ l. ap (λ (t : Bool). made t l) last) done
    go false last =
        divided_on front part rest (makes (Some (more_with batch part)) rest) (on (begun_on front (Some batch) part is ∙ ap (λ (t : Bool). made t []) last))

pub divide : (front : List Part) (g : Option Begun) (rest : List Part) → makes None front ≡ record { items = []; begun = g } → Divided (front ++ rest) (makes g rest)
divide front g [] is = record { whole = []; behind = front; parts_are = append-nil front; are = refl; under_way = is }
divide front None (parts.Item item ∷ rest) is = divided_behind front None (parts.Item item) item rest is (λ l. refl) (divide [] None rest refl)
divide front None (parts.Batch count ∷ rest) is =
    divided_on front (parts.Batch count) rest (makes None (parts.Batch count ∷ rest))
    (divide (front ++ parts.Batch count ∷ []) (Some (record { left = count; come = [] })) rest (begun_on front None (parts.Batch count) is))
divide front (Some batch) (part ∷ rest) is =
    divided_by front batch part rest is (divide [] None rest refl) (λ so. divide (front ++ part ∷ []) (Some (more_with batch part)) rest so)
