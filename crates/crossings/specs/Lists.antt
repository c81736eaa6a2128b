-- A lent list of segments, of any length, and three plain lists of 2,048 places side by side; beside them two plain
-- lists with the posts' own ratios. Relies on net for what a segment and a ratio are, how many segments a net has, and
-- the refusals 1 to 7. Assumes nothing.
use Rattle.std.specs.Prelude.{◌≡◌, List, ◌++◌, ℕ, min, length, take, drop, Ok}
use Rattle.net.specs.Net.{Net, most_segments, net_with, ratios_of, segments_of}
use Rattle.net.specs.Refusals.{Checked, check_of}
use Rattle.net.specs.declared.Segment.{Segment}
use Rattle.net.specs.declared.Head.{Head}

-- the net of a head, of the posts' own ratios in two lists and of all segments of a list
abbrev pub net_on : Head → List ℕ → List ℕ → List Segment → Net
net_on head p q l = net_with head (ratios_of p q) l

-- the three lists have a place for each segment that a net may have
pub record Places (a b lengths : List ℕ) : Type 0 where
  pub a_places : length a ≡ most_segments
  pub b_places : length b ≡ most_segments
  pub lengths_places : length lengths ≡ most_segments

-- TAKING IN all of a list: the answer r, by 1 to 7, and where that is sound its segments stand side by side at the
-- front of the three lists
pub record TakenIn (head : Head) (p q : List ℕ) (l : List Segment) (r : Checked) (a b lengths : List ℕ) : Type 0 where
  pub answers : r ≡ check_of head (ratios_of p q) l
  pub stands : r ≡ Ok tt → segments_of (take (length l) a) (take (length l) b) (take (length l) lengths) ≡ l

-- PUTTING OUT. How many of the first n of k segments find a place in a list that has m
abbrev pub fitting : ℕ → ℕ → ℕ → ℕ
fitting n m k = min (min n m) k

-- the first n of a list, and behind them what another held there
abbrev pub laid : {A : Type 0} → ℕ → List A → List A → List A
laid n w l = take n w ++ drop n l

-- the list held l, and then l': the first n of the segments w, as many as find a place, and behind them what it held
abbrev pub PutOut : ℕ → List Segment → List Segment → List Segment → Type 0
PutOut n w l l' = l' ≡ laid (fitting n (length l) (length w)) w l
