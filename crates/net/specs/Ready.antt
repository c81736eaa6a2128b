-- How the code holds a net: the head by value, the posts' own ratios as two plain lists side by side, their p and their
-- q, and the segments as three, their ends and their lengths. Contracts of the checks, the trees, building, margin and
-- writing cite it. Relies on `Net` and on the rules 1 to 7.
use Rattle.std.specs.Prelude.{◌≡◌, List, ℕ, length}
use Rattle.std.specs.Borrow.{Bor}
use Rattle.net.specs.Net.{Ratio, Net, net_with, ratios_of, every, segments_of}
use Rattle.net.specs.Rules.{NetSound}
use Rattle.net.specs.declared.Head.{Head}
use Rattle.net.specs.declared.Segment.{Segment}
use Rattle.net.specs.declared.RatioLists.{RatioLists}
use Rattle.net.specs.declared.SegmentLists.{SegmentLists}
use Rattle.net.specs.declared.NetLists.{NetLists}

-- the net of a head, two lists of ratios and three of segments
abbrev pub net_at : Head → List ℕ → List ℕ → List ℕ → List ℕ → List ℕ → Net
net_at head p q a b lengths = net_with head (ratios_of p q) (segments_of a b lengths)

-- the ratios of two lent slices, the segments of three, the net of them, and how many of each they are
abbrev pub ratios_by : Bor (List ℕ) → Bor (List ℕ) → List Ratio
ratios_by p q = ratios_of p.now q.now

abbrev pub segments_by : Bor (List ℕ) → Bor (List ℕ) → Bor (List ℕ) → List Segment
segments_by a b lengths = segments_of a.now b.now lengths.now

abbrev pub net_by : Head → Bor (List ℕ) → Bor (List ℕ) → Bor (List ℕ) → Bor (List ℕ) → Bor (List ℕ) → Net
net_by head p q a b lengths = net_at head p.now q.now a.now b.now lengths.now

abbrev pub ratio_count_by : Bor (List ℕ) → Bor (List ℕ) → ℕ
ratio_count_by p q = length (ratios_by p q)

abbrev pub count_by : Bor (List ℕ) → Bor (List ℕ) → Bor (List ℕ) → ℕ
count_by a b lengths = length (segments_by a b lengths)

-- the three lists of segments are equally long, and nothing from 1 to 7 refuses the net
pub record Ready (head : Head) (p q a b lengths : List ℕ) : Type 0 where
  pub b_level : length b ≡ length a
  pub lengths_level : length lengths ≡ length a
  pub sound : NetSound every (length (segments_of a b lengths)) (net_at head p q a b lengths)

-- THE SAME IN STRUCTS. The ratios of two lists, the segments of three, the net of them, and how many of each they are
abbrev pub ratios_in : RatioLists → List Ratio
ratios_in own = ratios_by own.p own.q

abbrev pub segments_in : SegmentLists → List Segment
segments_in s = segments_by s.a s.b s.lengths

abbrev pub net_in : NetLists → Net
net_in n = net_by n.head n.own.p n.own.q n.segments.a n.segments.b n.segments.lengths

abbrev pub ratio_count_in : RatioLists → ℕ
ratio_count_in own = length (ratios_in own)

abbrev pub count_in : SegmentLists → ℕ
count_in s = length (segments_in s)

-- the three lists of segments are equally long, and nothing from 1 to 7 refuses the net
abbrev pub ReadyIn : NetLists → Type 0
ReadyIn n = Ready n.head n.own.p.now n.own.q.now n.segments.a.now n.segments.b.now n.segments.lengths.now
