-- What the answers say in document 01's terms: `says_planned` for what planning answers (those of the other answers
-- stand in writing, margins and net), and beside it what is to be said of a record. Relies on `Asked`; proofs/Unique
-- joins the two.
use Rattle.std.proofs.Math.Option.{Option, none, some}
use Rattle.std.specs.Prelude.{ℕ, length}
use Rattle.net.specs.Net.{Net, every, most_posts}
use Rattle.net.specs.Refusals.{Lent}
use Rattle.net.specs.Building.{BuildAnswer, built, refused, build_of}
use Rattle.net.specs.declared.Head.{Head}
use Rattle.building.specs.Answers.{measures}
use Rattle.net.specs.declared.Refusal.{Refusal}
use Rattle.numbers.specs.Numbers.{Got, got, refused as unread}
use Rattle.writing.specs.Writing.{net_written, write_refusal}
use Rattle.writing.specs.Answers.{Said, result, refusal_of, said_size}
use Rattle.net.specs.declared.Plan.{Plan}
use Rattle.std.specs.Prelude.{Result, Ok, Err}

-- "posts, segments, source, ratio", and "length and radius of each tree and the count of laid paths", are net's `Plan`.
-- "An answer is either a result or a refusal with its number and its place."
abbrev pub says_planned : Result Plan Refusal → Said Plan
says_planned (Ok x) = result x
says_planned (Err r) = refusal_of r

-- what building answers, with a head and a number of segments
abbrev pub built_said : Head → ℕ → BuildAnswer → Said Plan
built_said h m (built l s b k) = result (record { head = h; count = m; built = measures l s b k })
built_said h m (refused r) = refusal_of r

-- WHAT IS TO BE SAID of a record: reading's refusal, or what building answers of the net that was read
abbrev pub plan_said : Got Net → Lent → Said Plan
plan_said (got n next) lent = built_said n.head (length n.segments)
    (build_of every n (length n.segments) most_posts lent)
plan_said (unread r) lent = refusal_of r

-- or what writing answers
abbrev pub rewrite_said : Got Net → ℕ → Said ℕ
rewrite_said (got n next) room = said_size (write_refusal n (length n.segments) most_posts room) (length (net_written n))
rewrite_said (unread r) room = refusal_of r

-- or nothing
abbrev pub check_said : Got Net → Option Refusal
check_said (got n next) = none
check_said (unread r) = some r
