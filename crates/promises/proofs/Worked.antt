-- The one table of worked examples holds: every row is computed from the definitions.
use Rattle.net.proofs.Worked.{nets_worked}
use Rattle.reading.proofs.Worked.{records_worked}
use Rattle.drawn.proofs.Worked.{drawn_worked}
use Rattle.moves.proofs.Worked.{moves_worked}
use Rattle.printing.proofs.Worked.{program_worked}
use Rattle.c_calls.proofs.Worked.{numbers_worked}
use Rattle.promises.specs.Worked.{Worked}

pub worked : Worked
worked =
    record {
      nets = nets_worked;
      records = records_worked;
      moves = moves_worked;
      drawn = drawn_worked;
      program = program_worked;
      for_c = numbers_worked;
    }
