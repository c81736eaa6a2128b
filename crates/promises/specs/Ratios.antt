-- The ratio of a post, of demand 2, for every net that is lent, in either form: whose ratio rules a post, what of the
-- lent lists is not read, and that a ratio isn't reduced. Said over `Leaves` and `Writes`, which are the contracts of
-- building and writing (specs/Tied).
use Rattle.std.specs.Prelude.{◌≡◌, List, ℕ, ◌*◌, ◌≤◌, ◌<◌, length, get_or, take}
use Rattle.net.specs.Net.{Ratio, house, most_ratio, ratio_at, ratios_of}
use Rattle.net.specs.Building.{ratio_of}
use Rattle.net.specs.declared.Form.TheVariants.{First, Second}
use Rattle.net.specs.declared.Head.{Head}
use Rattle.net.specs.declared.Segment.{Segment}
use Rattle.crossings.specs.Lists.{net_on}
use Rattle.building.specs.Answers.{Leaves}
use Rattle.writing.specs.Answers.{result, says_written, Writes}
use Rattle.building.specs.Answers.{Answer}
use Rattle.net.specs.declared.Refusal.{Refusal}
use Rattle.std.specs.Prelude.{Result}

-- what stands at a post's place of a lent list
abbrev pub number_at : List ℕ → ℕ → ℕ
number_at l v = get_or l v 0

-- "The house ratio, kept and checked, rules only nets of the first form"; in the second "every post but the source now
-- has its own p and q", which stand at its place of the lent lists
pub record RatiosAsStated (h : Head) (p q : List ℕ) (segments : List Segment) : Type 0 where
  pub house_rules : h.form ≡ First → (v : ℕ) → ratio_of (net_on h p q segments) v ≡ house h
  pub own_rules : h.form ≡ Second → (v : ℕ) → v < h.posts → (v ≡ h.source → ⊥) → v < length p → v < length q
      → ratio_of (net_on h p q segments) v ≡ record { p = number_at p v; q = number_at q v }
  -- in the first form nothing of the lists is read, and in the second nothing at "the source's place": whatever they
  -- hold there makes no other net
  pub first_unread : h.form ≡ First → (p₂ q₂ : List ℕ) → net_on h p q segments ≡ net_on h p₂ q₂ segments
  pub source_unread : (p₂ q₂ : List ℕ) → length (ratios_of p₂ q₂) ≡ length (ratios_of p q)
      → ((v : ℕ) → v < h.posts → (v ≡ h.source → ⊥) → ratio_at (ratios_of p₂ q₂) v ≡ ratio_at (ratios_of p q) v)
      → net_on h p q segments ≡ net_on h p₂ q₂ segments

-- NOT REDUCED: "2/2 and 1/1 build equal trees but are different records." Of the same segments with a head and two
-- lists of ratios, and with another head and other lists
pub record ScaledAsStated (h h₂ : Head) (p q p₂ q₂ : List ℕ) (segments : List Segment) (apart : Type 0) : Type 0 where
  -- building gives them the same answer, measures and count of laid paths, and leaves the lists alike
  pub equal_trees : (l s w : List ℕ) {a b : Answer} {l' l₂ s' s₂ w' w₂ : List ℕ}
      → Leaves (net_on h p q segments) (length segments) (length (ratios_of p q)) l s w a l' s' w'
      → Leaves (net_on h₂ p₂ q₂ segments) (length segments) (length (ratios_of p₂ q₂)) l s w b l₂ s₂ w₂
      → (a ≡ b) × (l' ≡ l₂) × (s' ≡ s₂) × (w' ≡ w₂)
  pub different_records : apart → (room room₂ : List ℕ) {a b : Result ℕ Refusal} {size size₂ : ℕ} {x y : List ℕ}
      → Writes (net_on h p q segments) (length segments) (length (ratios_of p q)) room a x
      → says_written a ≡ result size
      → Writes (net_on h₂ p₂ q₂ segments) (length segments) (length (ratios_of p₂ q₂)) room₂ b y
      → says_written b ≡ result size₂ → take size x ≡ take size₂ y → ⊥

-- r₂ is the ratio r written as (k × p)/(k × q), within the bounds
pub record ScaledBy (k : ℕ) (r r₂ : Ratio) : Type 0 where
  pub once : 1 ≤ k
  pub p_is : r₂.p ≡ k * r.p
  pub q_is : r₂.q ≡ k * r.q
  pub small_p : r₂.p ≤ most_ratio
  pub small_q : r₂.q ≤ most_ratio

-- the ratios of p₂ and q₂ are those of p and q, that of each post v but the source written so by k v
pub record OwnScaledBy (h : Head) (k : ℕ → ℕ) (p q p₂ q₂ : List ℕ) : Type 0 where
  pub as_many : length (ratios_of p₂ q₂) ≡ length (ratios_of p q)
  pub each_post : (v : ℕ) → v < h.posts → (v ≡ h.source → ⊥) → v < length (ratios_of p q)
      → ScaledBy (k v) (ratio_at (ratios_of p q) v) (ratio_at (ratios_of p₂ q₂) v)

-- in the second form some post but the source has another p or q so
pub record SomeScaled (h : Head) (k : ℕ → ℕ) : Type 0 where
  pub second : h.form ≡ Second
  pub post : ℕ
  pub is_post : post < h.posts
  pub not_source : post ≡ h.source → ⊥
  pub twice : 2 ≤ k post
