use Rattle.plans_share.proofs.Rows.{last-cell}
use Rattle.plans_share.proofs.choosing.least.Goals as goal

pub returns : goal.returns
returns c = last-cell c.args.offers.now c.args.budget c.args.rows.now c.index-rows-offers.result c.index.result.now c.requires.rows c.index-rows-offers.is c.index.ensures
