-- The plain numbers that walked functions take and give, as `Params` takes them.
use mir.Syntax.{w16, w32, w64}
use Rattle.by_hand.proofs.Params.{Data, number}

abbrev pub usize : Data
usize = number w64

abbrev pub u32 : Data
u32 = number w32

abbrev pub u16 : Data
u16 = number w16
