-- THE ENTRIES: every public function that asks nothing of its caller, by the contract that its own module has. Tied and
-- Unique name the functions so.
use Rattle.promises.specs.Promised.{Function}
use Rattle.on_segments.specs.contracts.build as of-build
use Rattle.on_segments.specs.contracts.margin as of-margin
use Rattle.on_segments.specs.contracts.write as of-write
use Rattle.on_segments.specs.contracts.read as of_read
use Rattle.drawn.specs.contracts.drawn as of-drawn
use Rattle.on_records.specs.contracts.plan as of-plan
use Rattle.on_records.specs.contracts.rewrite as of-rewrite
use Rattle.on_records.specs.contracts.margin as of-record-margin
use Rattle.on_records.specs.contracts.check as of-record-check
use Rattle.moves.specs.contracts.to_second as of-to-second
use Rattle.moves.specs.contracts.to_first as of-to-first
use Rattle.c_calls.specs.contracts.drover_check as of-c-check
use Rattle.c_calls.specs.contracts.drover_plan as of-c-plan
use Rattle.c_calls.specs.contracts.drover_rewrite as of-c-rewrite
use Rattle.c_calls.specs.contracts.drover_to_second as of-c-to-second
use Rattle.c_calls.specs.contracts.drover_to_first as of-c-to-first
use Rattle.c_calls.specs.contracts.drover_margin as of-c-margin
use Rattle.c_calls.specs.contracts.drover_drawn as of-c-drawn
use Rattle.printing.specs.contracts.print as of-print
use Rattle.moving.specs.contracts.hand_on as of-hand-on
use Rattle.building.specs.contracts.build as of-build-lists
use Rattle.margins.specs.contracts.margin as of-margin-lists
use Rattle.writing.specs.contracts.write as of-write-lists
use Rattle.reading.specs.contracts.read as of-read-lists
use Rattle.reading.specs.contracts.check_record as of-check-record
use Rattle.numbers.specs.contracts.number_at as of-number-at
use Rattle.numbers.specs.contracts.number_size as of-number-size
use Rattle.numbers.specs.contracts.put_number as of-put-number
use Rattle.numbers.specs.contracts.reader.new as of-reader-new
use Rattle.numbers.specs.contracts.reader.number as of-reader-number
use Rattle.numbers.specs.contracts.reader.moved as of-reader-moved
use Rattle.numbers.specs.contracts.reader.behind as of-reader-behind
use Rattle.checks.specs.contracts.check_head as of-check-head
use Rattle.checks.specs.contracts.check_ratio as of-check-ratio
use Rattle.checks.specs.contracts.check_own as of-check-own
use Rattle.checks.specs.contracts.check_numbers as of-check-numbers
use Rattle.checks.specs.contracts.check_segment as of-check-segment
use Rattle.checks.specs.contracts.check as of-check
use Rattle.checks.specs.contracts.segment_count as of-segment-count

-- Over a lent list of segments
abbrev pub build : Function
build = record { ended = of-build.ended; clauses = λ M 𝓤 𝓛. of-build.clauses 𝓛 }

abbrev pub margin : Function
margin = record { ended = of-margin.ended; clauses = λ M 𝓤 𝓛. of-margin.clauses 𝓛 }

abbrev pub write : Function
write = record { ended = of-write.ended; clauses = λ M 𝓤 𝓛. of-write.clauses 𝓛 }

abbrev pub read : Function
read = record { ended = of_read.ended; clauses = λ M 𝓤 𝓛. of_read.clauses 𝓛 }

-- A drawn run
abbrev pub drawn : Function
drawn = record { ended = of-drawn.ended; clauses = λ M 𝓤 𝓛. of-drawn.clauses 𝓛 }

-- On records
abbrev pub plan : Function
plan = record { ended = of-plan.ended; clauses = λ M 𝓤 𝓛. of-plan.clauses 𝓛 }

abbrev pub rewrite : Function
rewrite = record { ended = of-rewrite.ended; clauses = λ M 𝓤 𝓛. of-rewrite.clauses 𝓛 }

abbrev pub record_margin : Function
record_margin = record { ended = of-record-margin.ended; clauses = λ M 𝓤 𝓛. of-record-margin.clauses 𝓛 }

abbrev pub record_check : Function
record_check = record { ended = of-record-check.ended; clauses = λ M 𝓤 𝓛. of-record-check.clauses 𝓛 }

abbrev pub to_second : Function
to_second = record { ended = of-to-second.ended; clauses = λ M 𝓤 𝓛. of-to-second.clauses 𝓛 }

abbrev pub to_first : Function
to_first = record { ended = of-to-first.ended; clauses = λ M 𝓤 𝓛. of-to-first.clauses 𝓛 }

-- For C
abbrev pub c_check : Function
c_check = record { ended = of-c-check.ended; clauses = λ M 𝓤 𝓛. of-c-check.clauses 𝓛 }

abbrev pub c_plan : Function
c_plan = record { ended = of-c-plan.ended; clauses = λ M 𝓤 𝓛. of-c-plan.clauses 𝓛 }

abbrev pub c_rewrite : Function
c_rewrite = record { ended = of-c-rewrite.ended; clauses = λ M 𝓤 𝓛. of-c-rewrite.clauses 𝓛 }

abbrev pub c_to_second : Function
c_to_second = record { ended = of-c-to-second.ended; clauses = λ M 𝓤 𝓛. of-c-to-second.clauses 𝓛 }

abbrev pub c_to_first : Function
c_to_first = record { ended = of-c-to-first.ended; clauses = λ M 𝓤 𝓛. of-c-to-first.clauses 𝓛 }

abbrev pub c_margin : Function
c_margin = record { ended = of-c-margin.ended; clauses = λ M 𝓤 𝓛. of-c-margin.clauses 𝓛 }

abbrev pub c_drawn : Function
c_drawn = record { ended = of-c-drawn.ended; clauses = λ M 𝓤 𝓛. of-c-drawn.clauses 𝓛 }

-- The programs: the text of one, and what the other hands on
abbrev pub print : Function
print = record { ended = of-print.ended; clauses = λ M 𝓤 𝓛. of-print.clauses 𝓛 }

abbrev pub hand_on : Function
hand_on = record { ended = of-hand-on.ended; clauses = λ M 𝓤 𝓛. of-hand-on.clauses 𝓛 }

-- Over plain lists
abbrev pub build_lists : Function
build_lists = record { ended = of-build-lists.ended; clauses = λ M 𝓤 𝓛. of-build-lists.clauses 𝓛 }

abbrev pub margin_lists : Function
margin_lists = record { ended = of-margin-lists.ended; clauses = λ M 𝓤 𝓛. of-margin-lists.clauses 𝓛 }

abbrev pub write_lists : Function
write_lists = record { ended = of-write-lists.ended; clauses = λ M 𝓤 𝓛. of-write-lists.clauses 𝓛 }

abbrev pub read_lists : Function
read_lists = record { ended = of-read-lists.ended; clauses = λ M 𝓤 𝓛. of-read-lists.clauses 𝓛 }

abbrev pub check_record : Function
check_record = record { ended = of-check-record.ended; clauses = λ M 𝓤 𝓛. of-check-record.clauses 𝓛 }

-- A number of a record, and a reader of it
abbrev pub number_at : Function
number_at = record { ended = of-number-at.ended; clauses = λ M 𝓤 𝓛. of-number-at.clauses 𝓛 }

abbrev pub number_size : Function
number_size = record { ended = of-number-size.ended; clauses = λ M 𝓤 𝓛. of-number-size.clauses 𝓛 }

abbrev pub put_number : Function
put_number = record { ended = of-put-number.ended; clauses = λ M 𝓤 𝓛. of-put-number.clauses 𝓛 }

abbrev pub reader_new : Function
reader_new = record { ended = of-reader-new.ended; clauses = λ M 𝓤 𝓛. of-reader-new.clauses 𝓛 }

abbrev pub reader_number : Function
reader_number = record { ended = of-reader-number.ended; clauses = λ M 𝓤 𝓛. of-reader-number.clauses 𝓛 }

abbrev pub reader_moved : Function
reader_moved = record { ended = of-reader-moved.ended; clauses = λ M 𝓤 𝓛. of-reader-moved.clauses 𝓛 }

abbrev pub reader_behind : Function
reader_behind = record { ended = of-reader-behind.ended; clauses = λ M 𝓤 𝓛. of-reader-behind.clauses 𝓛 }

-- 1 to 7
abbrev pub check_head : Function
check_head = record { ended = of-check-head.ended; clauses = λ M 𝓤 𝓛. of-check-head.clauses 𝓛 }

abbrev pub check_ratio : Function
check_ratio = record { ended = of-check-ratio.ended; clauses = λ M 𝓤 𝓛. of-check-ratio.clauses 𝓛 }

abbrev pub check_own : Function
check_own = record { ended = of-check-own.ended; clauses = λ M 𝓤 𝓛. of-check-own.clauses 𝓛 }

abbrev pub check_numbers : Function
check_numbers = record { ended = of-check-numbers.ended; clauses = λ M 𝓤 𝓛. of-check-numbers.clauses 𝓛 }

abbrev pub check_segment : Function
check_segment = record { ended = of-check-segment.ended; clauses = λ M 𝓤 𝓛. of-check-segment.clauses 𝓛 }

abbrev pub check : Function
check = record { ended = of-check.ended; clauses = λ M 𝓤 𝓛. of-check.clauses 𝓛 }

abbrev pub segment_count : Function
segment_count = record { ended = of-segment-count.ended; clauses = λ M 𝓤 𝓛. of-segment-count.clauses 𝓛 }
