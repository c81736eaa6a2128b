-- How the code's lists are read: flags as a test on segment numbers, numbers as a function, three lists side by side as
-- segments; and what is asked of them. Also what filling does to a list. Rests on `net`'s words; `shortest` and the
-- crates above it cite it too.
use Rattle.std.specs.Prelude.{◌≡◌, Bool, true, false, List, ℕ, ◌<◌, ◌≤◌, length, get_or}
use Rattle.net.specs.Net.{longest, most_segments}
use Rattle.net.specs.Trees.{none_yet}

-- whether segment i is present, or post i settled
abbrev pub flag : List Bool → ℕ → Bool
flag l i = get_or l i false

-- what stands for i: the note of a post, the end of a segment, or what a segment counts for
abbrev pub note : List ℕ → ℕ → ℕ
note l i = get_or l i 0

-- the first n entries are e, and the others as they were
pub record Filled (n e : ℕ) (l₀ l : ℕ → ℕ) : Type 0 where
  pub gone : (v : ℕ) → v < n → l v ≡ e
  pub rest : (v : ℕ) → n ≤ v → l v ≡ l₀ v

-- "Length 1 to 1,048,575": no length is above that
pub record Short (lengths : List ℕ) : Type 0 where
  pub most : (i : ℕ) → i < length lengths → get_or lengths i 0 ≤ longest

-- two lists of ends, of at most 2,048 segments, equally long; the ends of every segment that is there are posts
pub record Ends (posts : ℕ) (a b : List ℕ) (ok : ℕ → Bool) : Type 0 where
  pub b_many : length b ≡ length a
  pub few : length a ≤ most_segments
  pub a_in : (i : ℕ) → i < length a → ok i ≡ true → note a i < posts
  pub b_in : (i : ℕ) → i < length a → ok i ≡ true → note b i < posts

-- the lists of a net side by side: ends, what each segment counts for, and which are present
pub record Sides (posts : ℕ) (a b weights : List ℕ) (present : List Bool) : Type 0 where
  pub ends : Ends posts a b (flag present)
  pub weights_many : length weights ≡ length a
  pub present_many : length present ≡ length a

-- a list of notes for so many posts, none above "none yet"
pub record Low (posts : ℕ) (dist : List ℕ) : Type 0 where
  pub many : posts ≤ length dist
  pub most : (v : ℕ) → v < posts → note dist v ≤ none_yet
