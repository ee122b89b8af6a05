use Rattle.std.proofs.Common.{◌≡◌, ◌++◌, ◌∷◌, [], refl, rules}
use Rattle.query_eval.proofs.FirstLemmas.{front-behind, front-put, front-shortened}
use Rattle.query_eval.proofs.ranking.take_in.Goals as goal

pub returns-then-is_passed : goal.returns-then-is_passed
returns-then-is_passed c = λ made front. front-behind c.args.count made c.args.front.now.rows.items c.args.front.now.last c.args.row front (c.if-is_passed.ensures refl)

pub returns-then-len-room : goal.returns-then-len-room
returns-then-len-room c = λ made front. front-put c.args.count made c.args.front.now.rows.items _ c.args.front.now.last c.args.row front (search rules)

pub returns : goal.returns
returns c = λ made front.
    let put : c.push.new.self.items ≡ c.args.front.now.rows.items ++ c.args.row ∷ [] = search rules in
    let more = front-put c.args.count made c.args.front.now.rows.items c.push.new.self.items c.args.front.now.last c.args.row front put in
    front-shortened c.args.count (made ++ c.args.row ∷ []) c.push.new.self.items c.shorten.new.rows.items c.args.front.now.last c.last_of-front.result more c.in_ok-shorten.ensures (search rules)
