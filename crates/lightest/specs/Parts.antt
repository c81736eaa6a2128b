-- PARTS of a net's posts, by labels: two posts share a part where their labels are equal. What joining two parts makes
-- of the sharing, whatever number labels a part: `JoinedParts`; that the smaller part is the one renamed:
-- `SmallerRenamed`; the labels themselves: `joined_labels`. A part's posts are on a ring, on which each names the next
-- (`Rings`), and the count of them is kept by their label (`Counted`). Rests on `net`'s words.
use Rattle.std.specs.Prelude.{◌≡◌, Bool, true, false, ◌&&◌, ◌||◌, cond, List, [], ◌∷◌, map, ◌⊎◌, ℕ, zero, suc, ◌+◌, ◌<◌, ◌≤◌, length, get_or, set, eqb, ltb}
use Rattle.net.specs.Words.{sum, counted, no_segment}
use Rattle.lightest.specs.declared.PartLists.{PartLists}

-- x and y share a part
abbrev pub share : List ℕ → ℕ → ℕ → Bool
share labels x y = eqb (get_or labels x 0) (get_or labels y 0)

-- no two of the posts share a part
abbrev pub Apart : List ℕ → Type 0
Apart labels = (x y : ℕ) → x < length labels → y < length labels → share labels x y ≡ true → x ≡ y

-- every label is below k
abbrev pub Below : ℕ → List ℕ → Type 0
Below k labels = (x : ℕ) → x < length labels → get_or labels x 0 < k

-- `to` for `from`, and every other label as it is
unfoldable pub renamed : ℕ → ℕ → ℕ → ℕ
renamed from to x = cond (eqb x from) to x

-- once u's part and v's are one, x and y share a part exactly if they did before, or one shared u's part and the other
-- v's
abbrev pub shares_after : List ℕ → ℕ → ℕ → ℕ → ℕ → Bool
shares_after old u v x y = share old x y || ((share old x u && share old y v) || (share old x v && share old y u))

-- u's part and v's are joined: a label for each post as before, none above those before, and the posts share parts as
-- just said
pub record JoinedParts (old : List ℕ) (u v : ℕ) (new : List ℕ) : Type 0 where
  pub one_each : length new ≡ length old
  pub low : (k : ℕ) → Below k old → Below k new
  pub shares : (x y : ℕ) → x < length old → y < length old → share new x y ≡ shares_after old u v x y

-- how many posts share x's part
unfoldable pub members : List ℕ → ℕ → ℕ
members labels x = sum (length labels) (λ y. counted (share labels x y) 1)

-- of the two parts that are joined, the one with no more posts than the other is renamed, and no other label changes
pub record SmallerRenamed (old : List ℕ) (u v : ℕ) (new : List ℕ) : Type 0 where
  pub one_kept : ((x : ℕ) → x < length old → share old x u ≡ true → get_or new x 0 ≡ get_or old x 0)
      ⊎ ((x : ℕ) → x < length old → share old x v ≡ true → get_or new x 0 ≡ get_or old x 0)
  pub changed : (x : ℕ) → x < length old → (get_or new x 0 ≡ get_or old x 0 → ⊥)
      → ((share old x u ≡ true) × (members old u ≤ members old v))
      ⊎ ((share old x v ≡ true) × (members old v ≤ members old u))

-- y's part gets the label of x's
abbrev pub renamed_to : List ℕ → ℕ → ℕ → List ℕ
renamed_to labels x y = map (renamed (get_or labels y 0) (get_or labels x 0)) labels

-- the labels once u's part and v's are joined: the part with fewer posts gets the other's label, and where both have as
-- many, v's part gets u's
unfoldable pub joined_labels : List ℕ → ℕ → ℕ → List ℕ
joined_labels old u v = cond (ltb (members old u) (members old v)) (renamed_to old v u) (renamed_to old u v)

-- two parts were joined, and the smaller was renamed
pub record SmallerJoined (old : List ℕ) (u v : ℕ) (new : List ℕ) : Type 0 where
  pub apart : share old u v ≡ false
  pub joined : JoinedParts old u v new
  pub smaller : SmallerRenamed old u v new

-- joinings of two parts, one after the other, lead from the labels `old` to others, and on the way x's label changes k
-- times
pub data Joinings (x : ℕ) (old : List ℕ) : List ℕ → ℕ → Type 0 where
  start : Joinings x old old 0
  stays : {mid new : List ℕ} {u v k : ℕ} → Joinings x old mid k → SmallerJoined mid u v new
      → get_or new x 0 ≡ get_or mid x 0 → Joinings x old new k
  changes : {mid new : List ℕ} {u v k : ℕ} → Joinings x old mid k → SmallerJoined mid u v new
      → (get_or new x 0 ≡ get_or mid x 0 → ⊥) → Joinings x old new (suc k)

-- RINGS
-- how often y stands in a list
abbrev pub times : ℕ → List ℕ → ℕ
times y [] = 0
times y (x ∷ l) = counted (eqb y x) 1 + times y l

-- `next` leads from x along the list's posts, one step from each, to y
abbrev pub Way : List ℕ → ℕ → List ℕ → ℕ → Type 0
Way next x [] y = x ≡ y
Way next x (z ∷ l) y = (x ≡ z) × Way next (get_or next x 0) l y

-- following `next` from x for as many steps as x's part has posts comes to each of them once and back to x
pub record Ring (labels next : List ℕ) (x : ℕ) : Type 0 where
  pub posts : List ℕ
  pub around : Way next x posts x
  pub full : length posts ≡ members labels x
  pub once : (y : ℕ) → y < length labels → times y posts ≡ counted (share labels x y) 1
  pub only : (y : ℕ) → length labels ≤ y → times y posts ≡ 0

-- so from each post
pub record Rings (labels next : List ℕ) : Type 0 where
  pub one_each : length next ≡ length labels
  pub ring : (x : ℕ) → x < length labels → Ring labels next x

-- the count kept for a label that is in use is the number of its posts
pub record Counted (labels counts : List ℕ) : Type 0 where
  pub one_each : length counts ≡ length labels
  pub in_reach : Below (length labels) labels
  pub count : (x : ℕ) → x < length labels → get_or counts (get_or labels x 0) 0 ≡ members labels x

-- the parts of not too many posts, with their rings and counts
pub record Ringed (labels next counts : List ℕ) : Type 0 where
  pub few : length labels ≤ no_segment
  pub rings : Rings labels next
  pub counted : Counted labels counts

-- JOINING
-- x, and k − 1 more posts that `next` leads to, get the label `to`
unfoldable pub renamed_along : List ℕ → ℕ → ℕ → ℕ → List ℕ → List ℕ
renamed_along next to zero x labels = labels
renamed_along next to (suc k) x labels = renamed_along next to k (get_or next x 0) (set labels x to)

-- u's part and v's are two, and can be joined
pub record Joinable (labels next counts : List ℕ) (u v : ℕ) : Type 0 where
  pub ringed : Ringed labels next counts
  pub u_in : u < length labels
  pub v_in : v < length labels
  pub apart : share labels u v ≡ false

-- v's part is renamed and joined to u's
pub record JoinedTo (old : List ℕ) (u v : ℕ) (new next counts : List ℕ) : Type 0 where
  pub named : new ≡ renamed_to old u v
  pub ringed : Ringed new next counts

-- THE SAME IN THE STRUCT of the three lists
abbrev pub RingedIn : PartLists → Type 0
RingedIn parts = Ringed parts.labels.now parts.next.now parts.counts.now

abbrev pub JoinableIn : PartLists → ℕ → ℕ → Type 0
JoinableIn parts u v = Joinable parts.labels.now parts.next.now parts.counts.now u v
