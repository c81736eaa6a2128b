-- The refusals of a net as rules, one constructor for each number, and one more for 3 of a post's own ratio, without
-- tests and in the order of documents 01 and 02: each says that nothing before it holds. proofs/Refusals proves that
-- every net has an answer by these rules, that it has no other, and that the table of `Refusals` gives it.
use Rattle.std.specs.Prelude.{◌≡◌, ◌⊎◌, Bool, true, ℕ, ◌≤◌, ◌<◌, length}
use Rattle.std.proofs.Math.Option.{Option, none, some}
use Rattle.net.specs.Net.{Ratio, Net, most_posts, most_segments, longest, most_ratio, ratio_at, nth_segment, Chain}
use Rattle.net.specs.Refusals.{refusal, Lent}
use Rattle.net.specs.declared.Segment.{Segment}
use Rattle.net.specs.declared.Form.TheVariants.{Second}
use Rattle.net.specs.declared.Head.{Head}
use Rattle.net.specs.declared.Refusal.{Refusal}

-- 1 does not hold
pub record PostsSound (h : Head) : Type 0 where
  pub some_posts : 1 ≤ h.posts
  pub few_posts : h.posts ≤ most_posts

-- nor 2, nor 3
pub record HeadSound (h : Head) : Type 0 where
  pub posts_sound : PostsSound h
  pub source_in : h.source < h.posts
  pub some_q : 1 ≤ h.q
  pub small_p : h.p ≤ most_ratio
  pub small_q : h.q ≤ most_ratio

-- 3 does not hold of a post's own ratio
pub record RatioSound (r : Ratio) : Type 0 where
  pub some_q : 1 ≤ r.q
  pub small_p : r.p ≤ most_ratio
  pub small_q : r.q ≤ most_ratio

-- 5 does not hold of a segment
pub record EndsSound (posts : ℕ) (s : Segment) : Type 0 where
  pub a_in : s.a < posts
  pub b_in : s.b < posts

-- nor 6, nor 7
pub record SegmentSound (posts : ℕ) (s : Segment) : Type 0 where
  pub ends_sound : EndsSound posts s
  pub apart : s.a ≡ s.b → ⊥
  pub some_length : 1 ≤ s.length
  pub not_too_long : s.length ≤ longest

-- "q is 0, or p or q above 10,000"
abbrev pub WrongRatio : ℕ → ℕ → Type 0
WrongRatio p q = (q ≡ 0) ⊎ ((most_ratio < p) ⊎ (most_ratio < q))

-- 1 to 4 of a head, whose net has m segments; none where nothing holds
pub data HeadRule (h : Head) (m : ℕ) : Option Refusal → Type 0 where
  one : (h.posts ≡ 0) ⊎ (most_posts < h.posts) → HeadRule h m (some (refusal 1 0))
  two : PostsSound h → h.posts ≤ h.source → HeadRule h m (some (refusal 2 0))
  three : PostsSound h → h.source < h.posts → WrongRatio h.p h.q → HeadRule h m (some (refusal 3 0))
  four : HeadSound h → most_segments < m → HeadRule h m (some (refusal 4 0))
  nothing : HeadSound h → m ≤ most_segments → HeadRule h m none

-- 3 of the own ratio of post v; none where it does not hold
pub data RatioRule (r : Ratio) (v : ℕ) : Option Refusal → Type 0 where
  three_of : WrongRatio r.p r.q → RatioRule r v (some (refusal 3 v))
  nothing : RatioSound r → RatioRule r v none

-- 5 to 7 of segment i; none where nothing holds
pub data SegmentRule (posts : ℕ) (s : Segment) (i : ℕ) : Option Refusal → Type 0 where
  five : (posts ≤ s.a) ⊎ (posts ≤ s.b) → SegmentRule posts s i (some (refusal 5 i))
  six : EndsSound posts s → s.a ≡ s.b → SegmentRule posts s i (some (refusal 6 i))
  seven : EndsSound posts s → (s.a ≡ s.b → ⊥) → (s.length ≡ 0) ⊎ (longest < s.length)
      → SegmentRule posts s i (some (refusal 7 i))
  nothing : SegmentSound posts s → SegmentRule posts s i none

-- 3 does not hold of the own ratio of any post below k but the source
abbrev pub RatiosSound : Net → ℕ → Type 0
RatiosSound n k = (v : ℕ) → v < k → (v ≡ n.head.source → ⊥) → RatioSound (ratio_at n.own v)

-- m is the number of segments
module _ (ok : ℕ → Bool) (m : ℕ) (n : Net) where
  -- 1 to 4 do not hold, nor 3 of any post's own ratio, nor 5 to 7 of any segment below k that is there
  pub record SoundTo (k : ℕ) : Type 0 where
    pub head_sound : HeadSound n.head
    pub few_segments : m ≤ most_segments
    pub ratios_sound : RatiosSound n (length n.own)
    pub segments_sound : (j : ℕ) → j < k → ok j ≡ true → SegmentSound n.head.posts (nth_segment n.segments j)

  -- none of 1 to 7 holds
  abbrev pub NetSound : Type 0
  NetSound = SoundTo (length n.segments)

  -- 1 to 7, with their places
  pub data Faulty : Refusal → Type 0 where
    one_to_four : {r : Refusal} → HeadRule n.head m (some r) → Faulty r
    three_of_post : {v : ℕ} {r : Refusal} → HeadSound n.head → m ≤ most_segments → RatiosSound n v
        → v < length n.own → (v ≡ n.head.source → ⊥) → RatioRule (ratio_at n.own v) v (some r) → Faulty r
    five_to_seven : {i : ℕ} {r : Refusal} → SoundTo i → i < length n.segments → ok i ≡ true
        → SegmentRule n.head.posts (nth_segment n.segments i) i (some r) → Faulty r

-- no post's own ratio is missing: in the second form there is a place for each post
abbrev pub AllOwn : Net → Type 0
AllOwn n = n.head.form ≡ Second → n.head.posts ≤ length n.own

module _ (ok : ℕ → Bool) (n : Net) where
  -- post v has a route to the source
  abbrev pub Joined : ℕ → Type 0
  Joined v = Chain n.segments ok n.head.source v

  -- "some post isn't joined to the source", v the lowest
  pub record LowestApart (v : ℕ) : Type 0 where
    pub is_post : v < n.head.posts
    pub not_joined : Joined v → ⊥
    pub lower_joined : (u : ℕ) → u < v → Joined u

  -- every post is joined to the source
  abbrev pub AllJoined : Type 0
  AllJoined = (v : ℕ) → v < n.head.posts → Joined v

-- a lent tree list has fewer entries than posts; and none has
abbrev pub TooShort : Net → Lent → Type 0
TooShort n lent = (lent.lightest < n.head.posts)
    ⊎ ((lent.shortest < n.head.posts) ⊎ (lent.between < n.head.posts))

pub record LongEnough (n : Net) (lent : Lent) : Type 0 where
  pub lightest_long : n.head.posts ≤ lent.lightest
  pub shortest_long : n.head.posts ≤ lent.shortest
  pub between_long : n.head.posts ≤ lent.between

-- k is the number of ratios that are lent, as far as both their lists go
module _ (ok : ℕ → Bool) (m : ℕ) (n : Net) (k : ℕ) where
  -- building: 1 to 7, then 8, then 9; none where nothing holds
  pub data BuildRule (lent : Lent) : Option Refusal → Type 0 where
    one_to_seven : {r : Refusal} → Faulty ok m n r → BuildRule lent (some r)
    eight : NetSound ok m n → TooShort n lent ⊎ (k < n.head.posts) → BuildRule lent (some (refusal 8 0))
    nine : {v : ℕ} → NetSound ok m n → LongEnough n lent → n.head.posts ≤ k → LowestApart ok n v
        → BuildRule lent (some (refusal 9 v))
    nothing : NetSound ok m n → LongEnough n lent → n.head.posts ≤ k → AllJoined ok n → BuildRule lent none

  -- margin: 1 to 7, then 8, then 9, then 19
  pub data MarginRule (post : ℕ) : Option Refusal → Type 0 where
    one_to_seven : {r : Refusal} → Faulty ok m n r → MarginRule post (some r)
    eight : NetSound ok m n → k < n.head.posts → MarginRule post (some (refusal 8 0))
    nine : {v : ℕ} → NetSound ok m n → n.head.posts ≤ k → LowestApart ok n v → MarginRule post (some (refusal 9 v))
    nineteen : NetSound ok m n → n.head.posts ≤ k → AllJoined ok n → n.head.posts ≤ post
        → MarginRule post (some (refusal 19 0))
    nothing : NetSound ok m n → n.head.posts ≤ k → AllJoined ok n → post < n.head.posts → MarginRule post none
