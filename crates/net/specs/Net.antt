-- A net: "a number of posts, a source post, a ratio p/q and a list of segments", and in the second form a ratio of its
-- own for "every post but the source". What a segment joins; routes and chains; sets of segments. A *present* test `ok`
-- on segment numbers picks a part of a net: all of it (`every`), the segments before one of them, the segments of a
-- tree.
use Rattle.std.specs.Prelude.{◌≡◌, ◌⊎◌, Bool, true, not, ◌&&◌, ◌||◌, cond, List, [], ◌∷◌, ℕ, ◌+◌, ◌*◌, ◌<◌, min, eqb, ltb, length, get_or, take}
use Rattle.net.specs.Words.{tab, sum, counted}
use Rattle.net.specs.declared.Segment.{Segment}
use Rattle.net.specs.declared.Form.{Form}
use Rattle.net.specs.declared.Form.TheVariants.{First, Second}
use Rattle.net.specs.declared.Head.{Head}

-- NUMBERS THAT BOUND A NET
-- "Posts 1 to 256, numbered from 0."
abbrev pub most_posts : ℕ
most_posts = 256

-- "Segments 0 to 2,048, numbered from 0 in list order."
abbrev pub most_segments : ℕ
most_segments = 2048

-- "Length 1 to 1,048,575."
abbrev pub longest : ℕ
longest = 1048575

-- "p 0 to 10,000, q 1 to 10,000."
abbrev pub most_ratio : ℕ
most_ratio = 10000

-- a ratio p/q
pub record Ratio : Type 0 where
  pub p : ℕ
  pub q : ℕ

-- the house ratio
abbrev pub house : Head → Ratio
house h = record { p = h.p; q = h.q }

-- what stands where a post has no ratio of its own
abbrev pub no_ratio : Ratio
no_ratio = record { p = 0; q = 0 }

abbrev pub ratio_at : List Ratio → ℕ → Ratio
ratio_at l v = get_or l v no_ratio

-- the head has the number of posts, the source, the house ratio and the form; `own` has the posts' own ratios
pub record Net : Type 0 where
  pub head : Head
  pub own : List Ratio
  pub segments : List Segment

-- the same head with its house ratio p/q written as (k × p)/(k × q): "The ratio isn't reduced"
abbrev pub scaled : ℕ → Head → Head
scaled k h = record { posts = h.posts; source = h.source; p = k * h.p; q = k * h.q; form = h.form }

-- what a net keeps of the ratios that are lent: nothing in the first form; in the second "every post but the source now
-- has its own p and q; the source's place in their lent list is neither read nor written", so it is blank
abbrev pub kept_in : Form → ℕ → ℕ → List Ratio → List Ratio
kept_in First posts source l = []
kept_in Second posts source l = tab (min posts (length l)) (λ v. cond (eqb v source) no_ratio (ratio_at l v))

unfoldable pub own_of : Head → List Ratio → List Ratio
own_of h l = kept_in h.form h.posts h.source l

-- the net of a head, of ratios that are lent and of segments
abbrev pub net_with : Head → List Ratio → List Segment → Net
net_with head ratios segs = record { head = head; own = own_of head ratios; segments = segs }

-- the net of a head, of ratios that are lent and of the first m segments of a list
abbrev pub net_of : Head → List Ratio → ℕ → List Segment → Net
net_of head ratios m segs = net_with head ratios (take m segs)

-- two lists side by side: a ratio for each place that both have
abbrev pub ratios_of : List ℕ → List ℕ → List Ratio
ratios_of (x ∷ xs) (y ∷ ys) = record { p = x; q = y } ∷ ratios_of xs ys
ratios_of (x ∷ xs) [] = []
ratios_of [] ys = []

-- three lists side by side: a segment for each place that all three have
abbrev pub segments_of : List ℕ → List ℕ → List ℕ → List Segment
segments_of (x ∷ xs) (y ∷ ys) (l ∷ ls) = record { a = x; b = y; length = l } ∷ segments_of xs ys ls
segments_of (x ∷ xs) (y ∷ ys) [] = []
segments_of (x ∷ xs) [] ls = []
segments_of [] ys ls = []

-- what stands behind a list's end: nothing that is said of a net looks there
abbrev pub beyond : Segment
beyond = record { a = 0; b = 0; length = 0 }

-- every segment is there
abbrev pub every : ℕ → Bool
every i = true

module _ (segs : List Segment) where
  abbrev pub nth_segment : ℕ → Segment
  nth_segment i = get_or segs i beyond

  abbrev pub length_at : ℕ → ℕ
  length_at i = (nth_segment i).length

  -- segment i has an end at v
  abbrev pub touches : ℕ → ℕ → Bool
  touches i v = eqb (nth_segment i).a v || eqb (nth_segment i).b v

  -- the other end of segment i, which has an end at v
  abbrev pub other : ℕ → ℕ → ℕ
  other i v = cond (eqb (nth_segment i).a v) (nth_segment i).b (nth_segment i).a

  -- segment i leads from u to v: it has an end at u, and its other end is v
  pub record Leads (i u v : ℕ) : Type 0 where
    pub is_segment : i < length segs
    pub ends : touches i u ≡ true
    pub across : other i u ≡ v

  -- a route from u to v by segments that are there, as the list of their numbers
  pub data Route (ok : ℕ → Bool) : ℕ → List ℕ → ℕ → Type 0 where
    here : {u : ℕ} → Route ok u [] u
    by : {u v x i : ℕ} {is : List ℕ} → Leads i u v → ok i ≡ true → Route ok v is x → Route ok u (i ∷ is) x

  -- a chain of segments that are there joins u and v: there is a route
  pub record Chain (ok : ℕ → Bool) (u v : ℕ) : Type 0 where
    pub is : List ℕ
    pub route : Route ok u is v

-- what a route comes to, a segment i counted as w i
abbrev pub weigh : (ℕ → ℕ) → List ℕ → ℕ
weigh w [] = 0
weigh w (i ∷ is) = w i + weigh w is

module _ (segs : List Segment) where
  -- the length of a route
  abbrev pub route_length : List ℕ → ℕ
  route_length is = weigh (length_at segs) is

  -- "Order segments by length, then number": i stands before j
  unfoldable pub before : ℕ → ℕ → Bool
  before i j = ltb (length_at segs i) (length_at segs j) || (eqb (length_at segs i) (length_at segs j) && ltb i j)

  -- the same said as a rule
  abbrev pub Before : ℕ → ℕ → Type 0
  Before i j = (length_at segs i < length_at segs j) ⊎ ((length_at segs i ≡ length_at segs j) × (i < j))

  -- the whole length of a set of segments
  abbrev pub set_length : (ℕ → Bool) → ℕ
  set_length U = sum (length segs) (λ i. counted (U i) (length_at segs i))

  -- U is made of segments that are there, and joins each of n posts to s
  pub record JoinsAll (ok : ℕ → Bool) (n s : ℕ) (U : ℕ → Bool) : Type 0 where
    pub made_of : (i : ℕ) → i < length segs → U i ≡ true → ok i ≡ true
    pub joins : (v : ℕ) → v < n → Chain segs U s v

  -- a spanning tree: it joins all posts, and has no ring: no chain of its other segments joins the ends of one of them
  pub record SpanningTree (ok : ℕ → Bool) (n s : ℕ) (U : ℕ → Bool) : Type 0 where
    pub spans : JoinsAll ok n s U
    pub no_ring : (i : ℕ) → i < length segs → U i ≡ true → Chain segs (λ j. U j && not (eqb j i))
        (nth_segment segs i).a (nth_segment segs i).b → ⊥
