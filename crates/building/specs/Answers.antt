-- What an answer of building says in document 01's terms, for each case of the code's answer: a result or a refusal.
use Rattle.std.specs.Prelude.{◌≡◌, List, ℕ, length, Result, Ok, Err}
use Rattle.net.specs.Net.{Net, every}
use Rattle.net.specs.Refusals.{Lent}
use Rattle.net.specs.Trees.{whole, radius}
use Rattle.net.specs.Building.{BuildAnswer, built, refused, build_of, after_build}
use Rattle.net.specs.declared.Built.{Built}
use Rattle.net.specs.declared.Measured.{Measured}
use Rattle.net.specs.declared.Refusal.{Refusal}
use Rattle.net.specs.declared.Tree.TheVariants.{Lightest, Shortest, Between}
use Rattle.hanging.specs.Paths.{Rooted}

-- length and radius of a tree list of a net
abbrev pub measured_in : Net → List ℕ → Measured
measured_in n t =
    record { length = whole n.segments n.head.posts t; radius = radius n.segments n.head.posts t }

-- a tree list of a net: an entry for each post, and the way up from every post ends
pub record TreeOf (n : Net) (t : List ℕ) : Type 0 where
  pub one_each : length t ≡ n.head.posts
  pub rooted : Rooted n.segments n.head.posts t

-- what the code answers
abbrev pub Answer : Type 0
Answer = Result Built Refusal

-- length and radius of each tree and the count of laid paths
abbrev pub measures : (l s b : Measured) → ℕ → Built
measures l s b k = record { lightest = l; shortest = s; between = b; laid = k }

abbrev pub done : (l s b : Measured) → ℕ → Answer
done l s b k = Ok (measures l s b k)

-- what building answers as the code does
abbrev pub answer_of : BuildAnswer → Answer
answer_of (built l s b k) = done l s b k
answer_of (refused r) = Err r

-- and what an answer of building says in document 01's terms
abbrev pub says_of : Answer → BuildAnswer
says_of (Ok x) = built x.lightest x.shortest x.between x.laid
says_of (Err r) = refused r

-- how many entries three lists have
abbrev pub lent_of : List ℕ → List ℕ → List ℕ → Lent
lent_of l s b = record { lightest = length l; shortest = length s; between = length b }

-- BUILDING. What it leaves of a net n that claims m segments and for which k ratios are lent, where the three lists
-- held l, s and w: its answer r, and what the lists hold then
pub record Leaves (n : Net) (m k : ℕ) (l s w : List ℕ) (r : Answer) (l' s' w' : List ℕ) : Type 0 where
  pub answer : r ≡ answer_of (build_of every n m k (lent_of l s w))
  pub lightest : l' ≡ after_build every n m k (lent_of l s w) Lightest l
  pub shortest : s' ≡ after_build every n m k (lent_of l s w) Shortest s
  pub between : w' ≡ after_build every n m k (lent_of l s w) Between w
