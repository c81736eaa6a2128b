-- `drawn` meets its contract: `leg_of` gives a straight run's leg as `the_leg_of` has it, and `corner` a corner's answer. Assumes nothing.
use Rattle.drawn.specs.Drawn.{drawn_of}
use Rattle.drawn.proofs.drawn.Goals as goal

pub returns-in-Straight : goal.returns-in-Straight
unfolding drawn_of
returns-in-Straight c = record { drawn = cc }

pub returns-in-Corner : goal.returns-in-Corner
unfolding drawn_of
returns-in-Corner c = record { drawn = cc }
