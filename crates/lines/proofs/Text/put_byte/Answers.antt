-- `put_byte` meets its contract: one store.
use mathlib.Core.Path.{refl}
use Rattle.lines.proofs.Placing.{put_one}
use Rattle.lines.proofs.Text.put_byte.Goals as goal

pub returns : goal.returns
returns c = record { put = put_one _ _ _ c.requires; room = refl }
