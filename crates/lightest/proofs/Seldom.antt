-- How seldom a post is renamed: each time its part at least doubles (`renamed_doubles`), so over all joinings of n posts no post is renamed more than k times
-- where n ≤ 2 ^ k (`renamed_seldom`): 8 times for 256 posts (`renamed_eight`). Rests on Members.
use mathlib.Core.Path.{◌≡◌, refl, ap, ◌∙◌}
use mathlib.Core.Bool.{Bool, true, false, ◌&&◌, ◌||◌}
use mathlib.Core.List.{List}
use Prim.Native.Nat.{ℕ, ◌^◌, ◌<◌, ◌≤◌}
use native.Mathlib.Omega.{arith}
use native.Mathlib.Nat.{pow-suc}
use native.Mathlib.Decide.{dec_lt}
use lib.ListN.{length, get_or}
use lib.Pow.{pow-lt}
use borrow.Author.Tests.{eq-eqb}
use Rattle.net.specs.Words.{counted}
use Rattle.net.specs.Net.{most_posts}
use Rattle.net.proofs.Sums.{sum_le, sum_one_of}
use Rattle.lightest.specs.Parts.{share, JoinedParts, members, Joinings, start, stays, changes}
use Rattle.lightest.proofs.Members.{members_le, renamed_doubles}

-- a post is in its own part
members_some : (labels : List ℕ) (x : ℕ) → x < length labels → 1 ≤ members labels x
unfolding members
members_some labels x h = omega (
  arith,
  sum_one_of (length labels) (λ y. counted (share labels x y) 1) x h,
  ap (λ t. counted t 1) (eq-eqb (get_or labels x 0) (get_or labels x 0) refl),
)

-- no part loses posts by a joining
members_grow : {old new : List ℕ} {u v : ℕ} → JoinedParts old u v new → (x : ℕ) → x < length old → members old x ≤ members new x
unfolding members
members_grow {old} {new} {u} {v} j x h =
    rw j.one_each (sum_le (length old) (λ y. counted (share old x y) 1) (λ y. counted (share new x y) 1)
    (λ y k. omega (arith, ap (λ t. counted t 1) (j.shares x y h k), more (share old x y) ((share old x u && share old y v) || (share old x v && share old y u)))))
  where
    more : (s t : Bool) → counted s 1 ≤ counted (s || t) 1
    more true t = omega arith
    more false t = omega arith

module _ {x : ℕ} {old : List ℕ} (h : x < length old) where
  -- as many posts as before
  joinings_length : {new : List ℕ} {k : ℕ} → Joinings x old new k → length new ≡ length old
  joinings_length start = refl
  joinings_length (stays p s e) = s.joined.one_each ∙ joinings_length p
  joinings_length (changes p s ne) = s.joined.one_each ∙ joinings_length p

  -- the part has doubled each time
  doubled : {new : List ℕ} {k : ℕ} → Joinings x old new k → 2 ^ k ≤ members new x
  doubled start = members_some old x h
  doubled (stays p s e) = omega (arith, doubled p, members_grow s.joined x (omega (arith, joinings_length p)))
  doubled (changes {k = k} p s ne) =
      omega (arith, doubled p, pow-suc 2 k, renamed_doubles s.joined s.smaller s.apart x (omega (arith, joinings_length p)) ne)

  -- of n posts, none is renamed more than m times where n ≤ 2 ^ m
  pub renamed_seldom : {new : List ℕ} {k : ℕ} (m : ℕ) → Joinings x old new k → length old ≤ 2 ^ m → k ≤ m
  renamed_seldom {new} {k} m p few = elim (dec_lt m k) [
    | yes l ↦ absurd (omega (arith, doubled p, members_le new x, joinings_length p, pow-lt l))
    | no l ↦ omega arith
  ]

  -- and of as many as document 01 allows, none more than 8 times
  pub renamed_eight : {new : List ℕ} {k : ℕ} → Joinings x old new k → length old ≤ most_posts → k ≤ 8
  renamed_eight p few = renamed_seldom 8 p few
