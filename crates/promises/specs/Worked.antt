-- The one table of document 01's statements marked (P), with its other worked examples. proofs/Worked proves it as one
-- theorem. The rows stand beside their definitions: net/specs/Worked, reading/specs/Worked, drawn/specs/Worked,
-- moves/specs/Worked, printing/specs/Worked and c_calls/specs/Worked.
use Rattle.net.specs.Worked.{NetsWorked}
use Rattle.reading.specs.Worked.{RecordsWorked}
use Rattle.drawn.specs.Worked.{DrawnWorked}
use Rattle.moves.specs.Worked.{MovesWorked}
use Rattle.printing.specs.Worked.{ProgramWorked}
use Rattle.c_calls.specs.Worked.{NumbersWorked}

pub record Worked : Type 0 where
  -- NETS A, B AND C, the refusals, one post and two posts: a row for each statement
  pub nets : NetsWorked
  -- NUMBERS AND RECORDS, both ways: a row for each statement
  pub records : RecordsWorked
  -- MOVES of records of either form to the other: a row for each
  pub moves : MovesWorked
  -- DRAWN RUNS: a row for each statement
  pub drawn : DrawnWorked
  -- RUNS OF THE PROGRAM, from the bytes that are read to the bytes that are printed: a row for each statement
  pub program : ProgramWorked
  -- NUMBERS FOR C, from the bytes or bits that are handed over to the number that is answered: a row for each answer
  pub for_c : NumbersWorked
