-- How long the printed texts are: each as the sum of its parts, and none longer than the room.
use mathlib.Core.Path.{◌≡◌}
use mathlib.Core.Bool.{Bool, true, false, cond}
use mathlib.Core.List.{List, []}
use Prim.Native.Nat.{ℕ, zero, suc, ◌+◌, ◌*◌, ◌≤◌, ◌<◌}
use native.Mathlib.Decide.{dec_le}
use native.Mathlib.Omega.{arith}
use lib.Dec.{eqb}
use lib.ListN.{length, length-append, get_or}
use Rattle.lines.specs.Text.{decimal, spaced, mst, spt, last, ratio_text, net_line, entry_text, entries_text, tree_line, laid_line, refused_line}
use Rattle.lines.specs.Putting.{most_text}
use Rattle.net.specs.Net.{most_posts}
use Rattle.net.specs.declared.Head.{Head}
use Rattle.net.specs.declared.Measured.{Measured}
use Rattle.lines.proofs.Digits.{decimal_short}

-- AS SUMS
pub spaced_length : (n : ℕ) → length (spaced n) ≡ 1 + length (decimal n)
unfolding spaced
spaced_length n = omega arith

pub ratio_length : (p q : ℕ) → length (ratio_text p q) ≡ length (spaced p) + 1 + length (decimal q)
unfolding ratio_text
ratio_length p q = simp length-append

pub net_length : (posts segments source p q : ℕ) →
    length (net_line posts segments source p q) ≡ 3 + length (spaced posts) + length (spaced segments) + length (spaced source) + length (ratio_text p q) + 1
unfolding net_line
net_length posts segments source p q = simp length-append (omega arith)

pub tree_length : (name : List ℕ) (long wide posts source : ℕ) (entries : List ℕ) →
    length (tree_line name long wide posts source entries) ≡ length name + length (spaced long) + length (spaced wide) + length (entries_text source entries posts) + 1
unfolding tree_line
tree_length name long wide posts source entries = simp length-append (omega arith)

pub laid_length : (laid : ℕ) → length (laid_line laid) ≡ 4 + length (spaced laid) + 1
unfolding laid_line
laid_length laid = simp length-append (omega arith)

pub refused_length : (number place : ℕ) → length (refused_line number place) ≡ 7 + length (spaced number) + length (spaced place) + 1
unfolding refused_line
refused_length number place = simp length-append (omega arith)

-- NONE TOO LONG. a number of 32 bits has at most 10 digits, one of 16 bits at most 5
pub decimal_10 : (n : ℕ) → n < 4294967296 → length (decimal n) ≤ 10
decimal_10 n h = decimal_short 9 n (omega arith)

pub spaced_11 : (n : ℕ) → n < 4294967296 → length (spaced n) ≤ 11
spaced_11 n h = omega (arith, spaced_length n, decimal_10 n h)

pub entry_6 : (source v e : ℕ) → e < 65536 → length (entry_text source v e) ≤ 6
unfolding entry_text
entry_6 source v e h = go (eqb v source)
  where
    go : (b : Bool) → length (cond b [] (spaced e)) ≤ 6
    go true = omega arith
    go false = omega (arith, spaced_length e, decimal_short 4 e (omega arith))

-- a post's entry has at most six bytes
pub entries_6 : (source : ℕ) (es : List ℕ) → ((v : ℕ) → get_or es v 0 < 65536) → (n : ℕ) → length (entries_text source es n) ≤ 6 * n
unfolding entries_text
entries_6 source es h zero = omega arith
entries_6 source es h (suc v) = simp length-append (omega (arith, entries_6 source es h v, entry_6 source v (get_or es v 0) (h v)))

pub ratio_22 : (p q : ℕ) → p < 4294967296 → q < 4294967296 → length (ratio_text p q) ≤ 22
ratio_22 p q hp hq = omega (arith, ratio_length p q, spaced_11 p hp, decimal_10 q hq)

pub net_59 : (posts segments source p q : ℕ) → posts < 4294967296 → segments < 4294967296 → source < 4294967296 → p < 4294967296 → q < 4294967296 →
    length (net_line posts segments source p q) ≤ 59
net_59 n m s p q hn hm hs hp hq = omega (arith, net_length n m s p q, spaced_11 n hn, spaced_11 m hm, spaced_11 s hs, ratio_22 p q hp hq)

pub tree_1563 : (name : List ℕ) (long wide posts source : ℕ) (entries : List ℕ) → length name ≤ 4 → long < 4294967296 → wide < 4294967296 → posts ≤ most_posts →
    ((v : ℕ) → get_or entries v 0 < 65536) → length (tree_line name long wide posts source entries) ≤ 1563
tree_1563 name l r n s es hn hl hr hp he = omega (arith, tree_length name l r n s es, spaced_11 l hl, spaced_11 r hr, entries_6 s es he n)

pub laid_16 : (laid : ℕ) → laid < 4294967296 → length (laid_line laid) ≤ 16
laid_16 k h = omega (arith, laid_length k, spaced_11 k h)

pub refused_30 : (number place : ℕ) → number < 4294967296 → place < 4294967296 → length (refused_line number place) ≤ 30
refused_30 n p hn hp = omega (arith, refused_length n p, spaced_11 n hn, spaced_11 p hp)

-- the numbers of a built net's text have 32 bits, and its posts are few
pub record Numbers (head : Head) (m : ℕ) (light short third : Measured) (k : ℕ) : Type 0 where
  pub posts : head.posts ≤ most_posts
  pub source : head.source < 4294967296
  pub p : head.p < 4294967296
  pub q : head.q < 4294967296
  pub segments : m < 4294967296
  pub lightest : (light.length < 4294967296) × (light.radius < 4294967296)
  pub shortest : (short.length < 4294967296) × (short.radius < 4294967296)
  pub between : (third.length < 4294967296) × (third.radius < 4294967296)
  pub laid : k < 4294967296

module _ (head : Head) (segments : ℕ) (light short third : Measured) (laid : ℕ) (lightest shortest between : List ℕ) where
  -- the five lines together
  abbrev pub five_lines : ℕ
  five_lines =
      length (net_line head.posts segments head.source head.p head.q)
      + length (tree_line mst light.length light.radius head.posts head.source lightest)
      + length (tree_line spt short.length short.radius head.posts head.source shortest)
      + length (tree_line last third.length third.radius head.posts head.source between)
      + length (laid_line laid)

  pub five_short : Numbers head segments light short third laid → ((v : ℕ) → get_or lightest v 0 < 65536) → ((v : ℕ) → get_or shortest v 0 < 65536) →
      ((v : ℕ) → get_or between v 0 < 65536) → five_lines ≤ most_text
  five_short h el es eb =
      omega (
        arith,
        net_59 head.posts segments head.source head.p head.q (omega arith) h.segments h.source h.p h.q,
        tree_1563 mst light.length light.radius head.posts head.source lightest (omega arith) h.lightest.0 h.lightest.1 h.posts el,
        tree_1563 spt short.length short.radius head.posts head.source shortest (omega arith) h.shortest.0 h.shortest.1 h.posts es,
        tree_1563 last third.length third.radius head.posts head.source between (omega arith) h.between.0 h.between.1 h.posts eb,
        laid_16 laid h.laid,
      )

-- THE ENTRIES of fewer posts are no longer
pub entries_grow : (source : ℕ) (es : List ℕ) (v n : ℕ) → v ≤ n → length (entries_text source es v) ≤ length (entries_text source es n)
unfolding entries_text
entries_grow source es v zero h = let e : v ≡ 0 = omega arith in rw e (omega arith)
entries_grow source es v (suc n) h =
    elim (dec_le v n) [
      | yes k ↦ simp length-append (omega (arith, entries_grow source es v n k))
      | no k ↦ let e : v ≡ suc n = omega arith in rw e (omega arith)
    ]
