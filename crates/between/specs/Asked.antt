-- What the walk's code asks of its arguments, and what it is to make: the third tree's notes at the end.
-- Relies on Given, Laying and Children; all that is asked follows from checks 1 to 7 and from what the shortest tree's
-- code promises.
use Rattle.std.specs.Prelude.{◌≡◌, true, List, ℕ, ◌≤◌, ◌<◌, length, get_or}
use Rattle.net.specs.Words.{no_segment}
use Rattle.net.specs.Net.{segments_of, other, most_posts}
use Rattle.net.specs.Trees.{none_yet, at, entry, parent}
use Rattle.net.specs.Walk.{Notes, Given, at_start, child, walk}
use Rattle.between.specs.Given.{notes_of, Shows, Low, Level, EndsIn, Ratios, the_end_beyond, limit_by, given_of}
use Rattle.between.specs.Laying.{Layable, Entering}
use Rattle.between.specs.Children.{Linked}

-- THE WALK OF v. g is shown by these lists: all that the walk looks at
pub record Shown (g : Given) (walked first after limits lengths shortest up dist : List ℕ) : Type 0 where
  pub walked_is : g.walked ≡ walked
  pub count : length g.segments ≡ length lengths
  pub links : Linked g (length first) (λ _. 0) first after
  pub few_links : length first ≤ most_posts
  pub room : g.posts ≤ length first
  pub inside : (v i : ℕ) → i < length g.segments → child g v i ≡ true → other g.segments i v < g.posts
  pub enters : (v : ℕ) → v < g.posts → Entering g v limits lengths shortest up dist

-- what the walk of v asks of g and of the notes: direct paths can be laid, and the laid paths counted in 32 bits
pub record Turned (g : Given) (left v : ℕ) (walked first after limits lengths shortest up dist d entries : List ℕ)
    : Type 0 where
  pub shown : Shown g walked first after limits lengths shortest up dist
  pub is_post : v < g.posts
  pub layable : Layable shortest up dist d
  pub countable : length (walk g left v (notes_of d entries)).laid < 4294967296

-- the lists show something that can be walked
pub record Walking (left v : ℕ) (walked first after limits lengths shortest up dist d entries : List ℕ) : Type 0 where
  pub given : Given
  pub turned : Turned given left v walked first after limits lengths shortest up dist d entries

-- what the walk of v leaves, whatever the lists show: the notes, and the count of laid paths
abbrev pub Walked : (left v : ℕ) (walked first after limits lengths shortest up dist d entries : List ℕ) → ℕ → List ℕ
    → List ℕ → Type 0
Walked left v walked first after limits lengths shortest up dist d entries laid d' entries' = (g : Given)
    → Turned g left v walked first after limits lengths shortest up dist d entries
    → Shows (walk g left v (notes_of d entries)) d' entries' laid

-- THE THIRD TREE. The way up the shortest tree from v, which has a least length and isn't the source
pub record Upward (a b lengths shortest dist : List ℕ) (rank : ℕ → ℕ) (v : ℕ) : Type 0 where
  pub hangs : entry shortest v ≡ no_segment → ⊥
  pub is_post : parent (segments_of a b lengths) shortest v < length dist
  pub noted : at dist (parent (segments_of a b lengths) shortest v) < none_yet
  pub nearer : rank (parent (segments_of a b lengths) shortest v) < rank v

-- what is asked of a net before its third tree is made; nothing is asked of the tree walked
pub record Walkable (source : ℕ) (p q a b lengths shortest dist : List ℕ) : Type 0 where
  pub few_posts : length dist ≤ most_posts
  pub posts_are : length shortest ≡ length dist
  pub source_in : source < length dist
  pub level : Level a b lengths
  pub inside : EndsIn (length dist) a b
  pub ratios : Ratios (length dist) p q
  pub d_low : Low dist
  pub top : entry shortest source ≡ no_segment
  pub rank : ℕ → ℕ
  pub rank_most : (v : ℕ) → v < length dist → rank v < length dist
  pub upward : (v : ℕ) → v < length dist → (v ≡ source → ⊥) → at dist v < none_yet
      → Upward a b lengths shortest dist rank v

-- the limits and the parents stand in two lists, one entry for each post at their fronts
pub record Tables (p q a b shortest dist limits up : List ℕ) : Type 0 where
  pub limits_are : (v : ℕ) → v < length dist → at limits v ≡ limit_by (get_or p v 0) (get_or q v 0) (at dist v)
  pub up_are : (v : ℕ) → v < length shortest → get_or up v 0 ≡ the_end_beyond a b (entry shortest v) v
  pub room : length shortest ≤ length up

-- so they do for some ratios
pub record Tabled (source : ℕ) (a b lengths shortest dist limits up : List ℕ) : Type 0 where
  pub p : List ℕ
  pub q : List ℕ
  pub walkable : Walkable source p q a b lengths shortest dist
  pub tables : Tables p q a b shortest dist limits up

-- the walk from the source, from the start
unfoldable pub walked_of : (source : ℕ) (p q a b lengths walked shortest dist : List ℕ) → Notes
walked_of source p q a b lengths walked shortest dist =
    walk (given_of (length dist) p q a b lengths walked shortest dist) (length dist) source
    (at_start (length dist) source)

-- what the third tree's code leaves: the number of laid paths, and the lent list
pub record ThirdTree (source : ℕ) (p q a b lengths walked shortest dist : List ℕ) (laid : ℕ) (after : List ℕ) : Type 0
  where
    pub count : laid ≡ length (walked_of source p q a b lengths walked shortest dist).laid
    pub tree : after ≡ (walked_of source p q a b lengths walked shortest dist).entries

-- the same by tables of some ratios
abbrev pub ThirdTabled : (source : ℕ) (a b lengths walked shortest dist limits up : List ℕ) → ℕ → List ℕ → Type 0
ThirdTabled source a b lengths walked shortest dist limits up laid after = (p q : List ℕ)
    → Walkable source p q a b lengths shortest dist → Tables p q a b shortest dist limits up
    → ThirdTree source p q a b lengths walked shortest dist laid after
