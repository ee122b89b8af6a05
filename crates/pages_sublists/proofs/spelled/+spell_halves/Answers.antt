use Rattle.std.proofs.Common.{◌≡◌, ◌++◌, ◌/◌, List, length, ℕ, ap, ◌∙◌, arith}
use Rattle.std.proofs.lemmas.List.{append_assoc}
use Rattle.std.proofs.lemmas.Result.{on_ok_weaker}
use Rattle.pages_sublists.specs.Segments.{seconds}
use Rattle.pages_sublists.specs.Preparing.{spellings, Serves}
use Rattle.pages_sublists.proofs.SpellLemmas.{both_halves, serves_or}
use Rattle.pages_sublists.proofs.spelled.+spell_halves.Goals as goal

pub spell_halves-requires : goal.spell_halves-requires
spell_halves-requires t c =
    (omega (arith, c.decreases, c.split_at.ensures.front_len, c.if-half-eq0.false), (serves_or (λ v. v.items) (λ s. s.now) _ _ c.unwrap_or-list.ensures c.as_deref.ensures.value c.requires c.in_ok-part.ensures.serves).ordered)

pub spell_halves-requires-2 : goal.spell_halves-requires-2
spell_halves-requires-2 t c =
    (omega (arith, c.decreases, c.split_at.ensures.back_len, c.if-half-eq0.false), (serves_or (λ v. v.items) (λ s. s.now) _ _ c.unwrap_or-list.ensures c.as_deref.ensures.value c.requires c.in_ok-part.ensures.serves).ordered)

pub returns : goal.returns
returns t c =
    let old = c.args.spelled.now.items in
    let given = c.unwrap_or-list.result.now in
    let serves : Serves (seconds c.args.cuts.now) c.args.end.seconds c.args.list.now given = serves_or (λ v. v.items) (λ s. s.now) _ _ c.unwrap_or-list.ensures c.as_deref.ensures.value c.requires c.in_ok-part.ensures.serves in
    let front : List (List ℕ) = spellings c.args.layout given (seconds c.split_at.result.0.now) c.index-cuts-half.result.seconds in
    let back : List (List ℕ) = spellings c.args.layout given (seconds c.split_at.result.1.now) c.args.end.seconds in
    let both : front ++ back ≡ spellings c.args.layout c.args.list.now (seconds c.args.cuts.now) c.args.end.seconds =
    both_halves _ _ _ _ _ _ (length c.args.cuts.now / 2) _ _ serves (omega (arith, c.if-half-eq0.false)) c.index-cuts-half.is c.split_at.ensures.front c.split_at.ensures.back in
    on_ok_weaker c.spell_halves-2.result (λ e. e ∙ ap (λ (l : List (List ℕ)). l ++ back) c.in_ok-spell_halves.ensures ∙ append_assoc old front back ∙ ap (λ (l : List (List ℕ)). old ++ l) both) c.spell_halves-2.ensures
