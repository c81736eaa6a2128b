-- `answer_for` meets its contract: three measures. Assumes nothing.
use Rattle.building.proofs.Ways.{built_of}
use Rattle.building.proofs.answer_for.Goals as goal

pub returns : goal.returns
returns c = built_of c.measure.ensures c.measure-2.ensures c.measure-3.ensures
