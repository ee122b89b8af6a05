use Rattle.std.proofs.Common.{◌≡◌, ◌⊎◌, ◌<◌, ◌≤◌, ℕ, List, [], length, get_or, arith, ap, sym, subst, ◌∙◌, inl, inr}
use Rattle.base_types.specs.declared.posting.Posting.{Posting}
use Rattle.query_top.specs.Sheets.{no_head, greatest}
use Rattle.query_top.specs.Firsts.{Each}
use Rattle.query_top.specs.Lanes.{AreAscending, tally}
use Rattle.query_top.proofs.HeadLemmas.{list-ascends}
use Rattle.query_top.proofs.OpenLemmas.{zip-length}
use Rattle.query_top.proofs.lanes.lane_of.Goals as goal

pub returns-clause-lies : goal.returns-clause-lies
returns-clause-lies c = λ at s is sheet.
    let hits : c.in_ok-hits.hits.items ≡ s.flat = c.in_ok-hits.ensures.items ∙ is in
    let none : (i : ℕ) → i < length s.heads → (s.blocks ≡ []) ⊎ (s.flat ≡ []) → Each (λ (p : Posting). p.doc.0 ≤ (get_or s.heads i no_head).first.0) s.flat
    = λ i l k. elim k [
      | inl e ↦ absurd (let n = zip-length s.heads s.blocks sheet.heads_are in let z : length s.blocks ≡ 0 = ap (λ (bs : List (List Posting)). length bs) e in omega (arith, n, z, l))
      | inr e ↦ subst (Each (λ (p : Posting). p.doc.0 ≤ (get_or s.heads i no_head).first.0)) (sym e) tt
    ] in
    record {
      keeps = record {
        passed = λ i l m. absurd (omega (arith, l));
        covering = omega arith;
        begun = λ i l. absurd (omega (arith, l));
        within = omega arith;
        tells = λ x a. let e : tally at x c.in_ok-hits.hits.items ≡ tally at x s.flat = ap (tally at x) hits in omega (arith, e);
        ascending = subst AreAscending (sym hits) (list-ascends s.flat sheet.flat_listed);
        ahead = λ i l m. subst (Each (λ (p : Posting). p.doc.0 ≤ (get_or s.heads i no_head).first.0)) (sym hits) (none i m sheet.one_kind);
        flat_from = subst (Each (λ (p : Posting). (c.range_of-range.result.from ≤ p.doc.0) × (p.doc.0 < c.range_of-range.result.to))) is c.range_of-range.ensures.docs;
        flat_top = c.range_of-range.ensures.top ∙ ap greatest is;
        ends = c.range_of-range.ensures.ends;
      };
      stands = λ h. absurd (omega (arith, h));
    }
