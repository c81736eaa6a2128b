-- Demand 3, the bounds: "The third tree reaches every post"; "each path under its post's own ratio; the whole length,
-- for two posts or more, under the smallest ratio of any post but the source, compared by cross products". So for each
-- post q·path ≤ (p+q)·(its shortest route in the net) with the post's own p and q, which are the house ratio's in the
-- first form; and p·length ≤ (p+2q)·(length of any spanning tree of the net) for every smallest p/q. Stated over every
-- route and over every set of segments that joins all posts, of what building leaves in the third list: by demand 2
-- that is the walk's tree, and no copy of another.
use Rattle.std.specs.Prelude.{◌≡◌, Bool, List, ℕ, ◌+◌, ◌*◌, ◌≤◌, ◌<◌, take}
use Rattle.net.specs.declared.Measured.{Measured}
use Rattle.net.specs.Net.{Net, every, length_at, Route, route_length, weigh, set_length, JoinsAll, SpanningTree}
use Rattle.net.specs.Trees.{at, IsLeast, IsTree, the_path_in, whole}
use Rattle.net.specs.Building.{p_of, q_of, SmallestOf, built, lightest_of, least_lengths_of, laid_of}
use Rattle.net.specs.Ready.{net_in}
use Rattle.crossings.specs.Lists.{net_on}
use Rattle.building.specs.Answers.{says_of}
use Rattle.numbers.specs.Numbers.{got}
use Rattle.writing.specs.Answers.{result}
use Rattle.on_records.specs.Asked.{record_read}
use Rattle.net.specs.declared.Plan.{Plan}
use Rattle.on_records.specs.Says.{says_planned}
use Rattle.promises.specs.Promised.{Says}
use Rattle.promises.specs.Entries as entry

-- of a net that building takes, and of its third tree t
pub record Bounds (n : Net) (t : List ℕ) : Type 0 where
  -- the third tree reaches every post: from each a climb of its path's length leads to the source
  pub reaches : IsTree n.segments every n.head.posts n.head.source t
      (the_path_in n.segments n.head.posts t)
  -- q × path ≤ (p + q) × the length of every route, the shortest among them, at the post's own ratio
  pub paths : (v : ℕ) → v < n.head.posts → (is : List ℕ) → Route n.segments every n.head.source is v
      → q_of n v * the_path_in n.segments n.head.posts t v ≤ (p_of n v + q_of n v) * route_length n.segments is
  -- the path of a post with p = 0 is as long as a shortest route
  pub no_slack : (v : ℕ) → v < n.head.posts → p_of n v ≡ 0
      → IsLeast n.segments every (length_at n.segments) n.head.source v
      (the_path_in n.segments n.head.posts t v)
  -- two posts or more have a smallest ratio, and one post has no length
  pub some_smallest : 2 ≤ n.head.posts → (v₀ : ℕ) × SmallestOf n v₀
  pub one_post : n.head.posts ≡ 1 → whole n.segments n.head.posts t ≡ 0
  -- p × length ≤ (p + 2q) × the length of any segments that join all posts, at every smallest ratio
  pub length_any : (v₀ : ℕ) → SmallestOf n v₀
      → (U : ℕ → Bool) → JoinsAll n.segments every n.head.posts n.head.source U
      → p_of n v₀ * whole n.segments n.head.posts t ≤ (p_of n v₀ + 2 * q_of n v₀) * set_length n.segments U
  -- spanning trees of the net among them
  pub length_spanning : (v₀ : ℕ) → SmallestOf n v₀
      → (U : ℕ → Bool) → SpanningTree n.segments every n.head.posts n.head.source U
      → p_of n v₀ * whole n.segments n.head.posts t ≤ (p_of n v₀ + 2 * q_of n v₀) * set_length n.segments U
  -- what carries it: length ≤ tree walked + the least lengths of the posts laid, and p × these ≤ 2q × the tree walked
  pub laid_length : whole n.segments n.head.posts t
      ≤ whole n.segments n.head.posts (lightest_of every n) + weigh (at (least_lengths_of every n)) (laid_of every n)
  pub laid_sum : (v₀ : ℕ) → SmallestOf n v₀
      → p_of n v₀ * weigh (at (least_lengths_of every n)) (laid_of every n)
      ≤ 2 * q_of n v₀ * whole n.segments n.head.posts (lightest_of every n)

-- the third tree's length z as the answer says it: within the bound of every spanning tree, at every smallest ratio
pub record LengthWithin (n : Net) (z : ℕ) : Type 0 where
  pub any_spanning_tree : (v₀ : ℕ) → SmallestOf n v₀
      → (U : ℕ → Bool) → SpanningTree n.segments every n.head.posts n.head.source U
      → p_of n v₀ * z ≤ (p_of n v₀ + 2 * q_of n v₀) * set_length n.segments U
  pub one_post : n.head.posts ≡ 1 → z ≡ 0

-- WHERE BUILDING SAYS BUILT, by its own contract
pub record Demand3 : Type 2 where
  pub build : Says entry.build (λ κs (h, (own, (segments, _))) a (_, (_, (_, (_, (_, (w, _)))))).
      (x y z : Measured) (k : ℕ) → says_of a ≡ built x y z k
      → Bounds (net_on h own.p.now own.q.now segments.now) (take h.posts w)
      × LengthWithin (net_on h own.p.now own.q.now segments.now) z.length)
  -- over plain lists
  pub build_lists : Says entry.build_lists
      (λ κs (net, _) r (_, (_, (_, (w, _)))).
      (x y z : Measured) (k : ℕ) → says_of r ≡ built x y z k
      → Bounds (net_in net) (take net.head.posts w) × LengthWithin (net_in net) z.length)
  -- and of a record that was planned
  pub plan : Says entry.plan (λ κs (bytes, _) a (_, (_, (_, (w, _)))).
      (q : Plan) → says_planned a ≡ result q → (n : Net) (next : ℕ) → record_read bytes.now ≡ got n next
      → Bounds n (take n.head.posts w) × LengthWithin n q.built.between.length)
