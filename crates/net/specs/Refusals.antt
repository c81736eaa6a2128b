-- The table of refusals that concern a net: each line a test, a number and a place, in document 01's order. The answer
-- is the first line whose test passes. `Rules` says the same line by line without tests, and proofs/Refusals joins the
-- two.
use Rattle.std.specs.Prelude.{Bool, true, false, not, ◌||◌, cond, List, [], ◌∷◌, ◌++◌, ℕ, eqb, ltb, leb, length}
use Rattle.std.specs.Prelude.{Result, Ok, Err}
use Rattle.std.proofs.Math.Option.{Option, none, some}
use Rattle.net.specs.Words.{each}
use Rattle.net.specs.Net.{Ratio, Net, most_posts, most_segments, longest, most_ratio, ratio_at, net_with, every}
use Rattle.net.specs.Net.{nth_segment}
use Rattle.net.specs.declared.Segment.{Segment}
use Rattle.net.specs.declared.Head.{Head}
use Rattle.net.specs.declared.Refusal.{Refusal}

abbrev pub refusal : ℕ → ℕ → Refusal
refusal number place = record { number = number; place = place }

-- a line of the table: the refusal is given where the test passes
pub record Line : Type 0 where
  pub holds : Bool
  pub gives : Refusal

abbrev pub line : ℕ → Bool → ℕ → Line
line number test place = record { holds = test; gives = refusal number place }

-- the first line whose test passes
unfoldable pub first : List Line → Option Refusal
first [] = none
first (l ∷ ls) = cond l.holds (some l.gives) (first ls)

-- "q is 0, or p or q above 10,000"
abbrev pub wrong_ratio : ℕ → ℕ → Bool
wrong_ratio p q = eqb q 0 || ltb most_ratio p || ltb most_ratio q

-- 1 to 4; m is the number of segments
unfoldable pub head_lines : Head → ℕ → List Line
head_lines h m =
    line 1 (eqb h.posts 0 || ltb most_posts h.posts) 0
    ∷ line 2 (leb h.posts h.source) 0
    ∷ line 3 (wrong_ratio h.p h.q) 0
    ∷ line 4 (ltb most_segments m) 0
    ∷ []

-- 3 of the own ratio of post v
unfoldable pub ratio_lines : ℕ → Ratio → List Line
ratio_lines v r = line 3 (wrong_ratio r.p r.q) v ∷ []

-- 5, 6, 7 of segment i
unfoldable pub segment_lines : ℕ → Segment → ℕ → List Line
segment_lines posts s i =
    line 5 (leb posts s.a || leb posts s.b) i
    ∷ line 6 (eqb s.a s.b) i
    ∷ line 7 (eqb s.length 0 || ltb longest s.length) i
    ∷ []

-- the lines of a thing that is there, and none of one that isn't
unfoldable pub present_lines : Bool → List Line → List Line
present_lines true ls = ls
present_lines false ls = []

-- "3 also covers a post's ratio, place the post, after the head's 4": each post but the source, as far as the ratios go
unfoldable pub own_lines : Head → List Ratio → List Line
own_lines h own = each (length own)
    (λ v ls. ls ++ present_lines (not (eqb v h.source)) (ratio_lines v (ratio_at own v))) []

-- "then for each segment in turn 5, 6, 7"
unfoldable pub all_segment_lines : (ℕ → Bool) → ℕ → List Segment → List Line
all_segment_lines ok posts segs = each (length segs)
    (λ i ls. ls ++ present_lines (ok i) (segment_lines posts (nth_segment segs i) i)) []

-- 1 to 7
unfoldable pub net_lines : (ℕ → Bool) → ℕ → Net → List Line
net_lines ok m n = head_lines n.head m
    ++ (own_lines n.head n.own ++ all_segment_lines ok n.head.posts n.segments)

-- how many entries the three lent tree lists have
pub record Lent : Type 0 where
  pub lightest : ℕ
  pub shortest : ℕ
  pub between : ℕ

-- 8 of the tree lists
unfoldable pub lent_lines : ℕ → Lent → List Line
lent_lines posts lent = line 8 (ltb lent.lightest posts || ltb lent.shortest posts || ltb lent.between posts) 0
    ∷ []

-- 8 of the k ratios that are lent, whatever the form: "Any other list lent with one entry for each post is held to 8 in
-- the same place, after 7, and until then it is read only as far as it goes."
unfoldable pub room_of_ratios : ℕ → ℕ → List Line
room_of_ratios posts k = line 8 (ltb k posts) 0 ∷ []

-- 9: "lowest such post", so the posts in rising order; joined says of each post whether it is joined to the source
unfoldable pub joined_lines : ℕ → (ℕ → Bool) → List Line
joined_lines posts joined = each posts (λ v ls. ls ++ (line 9 (not (joined v)) v ∷ [])) []

-- 19
unfoldable pub post_lines : ℕ → ℕ → List Line
post_lines posts post = line 19 (leb posts post) 0 ∷ []

-- what a check answers: nothing refuses the net, or the first refusal
abbrev pub Checked : Type 0
Checked = Result (Unit {0}) Refusal

-- what a check answers where the table says so
abbrev pub checked_of : Option Refusal → Checked
checked_of none = Ok tt
checked_of (some r) = Err r

-- document 01's number and place for each answer of a check: none, or a refusal
abbrev pub says_of : Checked → Option Refusal
says_of (Ok _) = none
says_of (Err r) = some r

-- what a check of a whole net answers: 1 to 7
unfoldable pub check_of : Head → List Ratio → List Segment → Checked
check_of head ratios segs = checked_of (first (net_lines every (length segs) (net_with head ratios segs)))

-- a value where a check passes, of which this says no more than that; or the refusal
abbrev pub passed_of : {A : Type 0} → Result A Refusal → Checked
passed_of (Ok _) = Ok tt
passed_of (Err r) = Err r
