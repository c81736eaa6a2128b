-- The tree that the walk leaves is at most as long as the tree walked and the least lengths of the posts laid together (`between_length`).
-- Along the walk, the entries that are no segments of the tree walked come to no more than ΣD(laid); those that are come to no more than that tree.
use mathlib.Core.Path.{◌≡◌, refl, ap}
use mathlib.Core.Bool.{Bool, true, false, not, ◌&&◌}
use mathlib.Core.List.{List}
use Prim.Native.Nat.{ℕ, zero, suc, ◌+◌, ◌≤◌, ◌<◌}
use native.Mathlib.Omega.{arith}
use lib.ListN.{length, set}
use lib.Seq.{get_or-set_same, get_or-set_other}
use lib.Dec.{eqb}
use Rattle.net.specs.Words.{sum, counted, no_segment}
use Rattle.net.specs.Net.{length_at, other, Leads, weigh}
use Rattle.net.specs.Trees.{at, entry, hangs, parent, whole, used_by}
use Rattle.net.specs.Walk.{Notes, Given, at_start, hang_by, try, lay, count, enter, walk}
use Rattle.net.proofs.Words.{counted_le}
use Rattle.net.proofs.Sums.{sum_le, sum_add, sum_zeros, sum_change}
use Rattle.net.proofs.Routes.{leads_back, far_end}
use Rattle.net.proofs.Least.{leads_from, leads_to}
use Rattle.net.proofs.Used.{entry_length, used_cost, list_cost}
use Rattle.net.proofs.Steps.{try_cases, lay_cases, enter_cases, lay_none, try_laid, lay_laid, count_entries, count_laid}
use Rattle.net.proofs.Notes.{Owed, Fine, late_step, fine_try, fine_lay, fine_enter, fine_start, start_entry, hooked}
use Rattle.net.proofs.Tour.{Move, tour, moves, moves_enter, moves_try, moves_none, walk_is_tour, Trip, stay, enters, goes, tour_trip, fine_moves}

module _ (g : Given) where
  -- segment i is in the tree walked
  abbrev pub walked_by : ℕ → Bool
  walked_by i = used_by g.posts g.walked i

  -- what a post costs that hangs by i, where i is no segment of the tree walked
  abbrev pub fee : ℕ → ℕ
  fee i = counted (not (eqb i no_segment) && not (walked_by i)) (length_at g.segments i)

  abbrev pub extra : Notes → ℕ
  extra n = sum g.posts (λ v. fee (entry n.entries v))

  -- the extra entries are covered by the posts laid
  abbrev pub Covered : Notes → Type 0
  Covered n = extra n ≤ weigh (at g.D) n.laid

  fee_in : (i : ℕ) → walked_by i ≡ true → fee i ≡ 0
  fee_in i e = rw e (go (not (eqb i no_segment)))
    where
      go : (b : Bool) → counted (b && false) (length_at g.segments i) ≡ 0
      go true = refl
      go false = refl

  extra_hang : (u i v : ℕ) (n : Notes) → v < length n.entries → extra (hang_by g u i v n) ≤ extra n + fee i
  unfolding hang_by
  extra_hang u i v n h =
      let z = sum_change g.posts (λ x. fee (entry n.entries x)) (λ x. fee (entry (set n.entries v i) x)) v
      (λ x p q. omega (arith, ap fee (get_or-set_other n.entries v x i no_segment q))) in
      omega (arith, z, ap fee (get_or-set_same n.entries v i no_segment h))

  extra_try : (u i v : ℕ) (n : Notes) → v < length n.entries → extra (try g u i v n) ≤ extra n + fee i
  extra_try u i v n h = try_cases g u i v n (λ m. extra m ≤ extra n + fee i) (λ z. extra_hang u i v n h) (λ z. omega arith)

module _ (g : Given) (ok : ℕ → Bool) (s : ℕ) (owed : Owed g ok s) where
  -- a direct path's segments come to its least length
  extra_lay : (k v : ℕ) (n : Notes) → v < g.posts → Fine g ok s n → extra g (lay g k v n) ≤ extra g n + at g.D v
  extra_lay zero v n h f = rw (lay_none g v n) (omega arith)
  extra_lay (suc k) v n h f =
      lay_cases g k v n (λ m. extra g m ≤ extra g n + at g.D v)
      (λ z.
      let t = late_step g ok s owed v n h f z in
      let u = parent g.segments g.shortest v in
      let i = entry g.shortest v in
      let hu = leads_from owed.inside t.leads t.there in
      omega (
        arith,
        extra_try g u i v (lay g k u n) (omega (arith, (fine_lay g ok s owed k u n hu f).entries_long)),
        counted_le (not (eqb i no_segment) && not (walked_by g i)) (length_at g.segments i),
        extra_lay k u n hu f,
        t.adds,
      ))
      (λ z. omega arith)

  covered_laid : (v : ℕ) (n : Notes) → v < g.posts → Fine g ok s n → Covered g n → Covered g (count g v (lay g g.posts v n))
  covered_laid v n h f k =
      rw (count_entries g v (lay g g.posts v n), count_laid g v (lay g g.posts v n), lay_laid g g.posts v n) (omega (arith, extra_lay g.posts v n h f))

  covered_enter : (v : ℕ) (n : Notes) → v < g.posts → Fine g ok s n → Covered g n → Covered g (enter g v n)
  covered_enter v n h f k = enter_cases g v n (Covered g) (λ z. covered_laid v n h f k) (λ z. k)

  covered_moves : (n : Notes) {x y : ℕ} {ms : List Move} → Trip g ok x ms y → x < g.posts → Fine g ok s n → Covered g n → Covered g (moves g n ms)
  covered_moves n stay h f k = rw (moves_none g n) k
  covered_moves n (enters {x = x} {ms = ms} t) h f k = rw (moves_enter g n x ms) (covered_moves (enter g x n) t h (fine_enter g ok s owed x n h f) (covered_enter x n h f k))
  covered_moves n (goes {u = u} {i = i} {v = v} {ms = ms} l o z t) h f k =
      let hv = leads_to owed.inside l o in
      rw (moves_try g n u i v ms)
      (covered_moves (try g u i v n) t hv (fine_try g ok s owed u i v n l o f)
      (rw (try_laid g u i v n) (omega (arith, extra_try g u i v n (omega (arith, f.entries_long)), fee_in g i z))))

  covered_start : Covered g (at_start g.posts s)
  covered_start =
      omega (
        arith,
        sum_le g.posts (λ v. fee g (entry (at_start g.posts s).entries v)) (λ _. 0) (λ v h. omega (arith, ap (fee g) (start_entry g ok s owed v h))),
        sum_zeros g.posts,
      )

  -- two posts hang by one segment only if its length is 0
  both_zero : (n : Notes) → Fine g ok s n → (v x : ℕ) → v < x → x < g.posts → hangs n.entries v ≡ true → entry n.entries v ≡ entry n.entries x → length_at g.segments (entry n.entries v) ≡ 0
  both_zero n f v x vx hx z e =
      let i = entry n.entries v in
      let a = hooked g ok s owed n f v (omega arith) z in
      let b = hooked g ok s owed n f x hx (rw e at z) in
      let lb : Leads g.segments i (other g.segments i x) x = rw (← e) at b.leads in
      let rb : at n.d (other g.segments i x) + length_at g.segments i ≤ at n.d x = rw (← e) at b.room in
      let ox = far_end g.segments a.leads (leads_back g.segments lb).ends (λ y. omega arith) in
      let ov = far_end g.segments lb (leads_back g.segments a.leads).ends (λ y. omega arith) in
      omega (arith, a.room, rb, ap (at n.d) ox, ap (at n.d) ov)

  -- an entry is in the tree walked, or extra
  split : (i : ℕ) → counted (not (eqb i no_segment)) (length_at g.segments i) ≡ fee g i + counted (not (eqb i no_segment) && walked_by g i) (length_at g.segments i)
  split i = go (not (eqb i no_segment)) (walked_by g i)
    where
      go : (a b : Bool) → counted a (length_at g.segments i) ≡ counted (a && not b) (length_at g.segments i) + counted (a && b) (length_at g.segments i)
      go true true = omega arith
      go true false = omega arith
      go false b = omega arith

  whole_covered : (n : Notes) → Fine g ok s n → Covered g n → whole g.segments g.posts n.entries ≤ whole g.segments g.posts g.walked + weigh (at g.D) n.laid
  unfolding whole
  whole_covered n f k =
      let kept : ℕ → ℕ = λ v. counted (hangs n.entries v && walked_by g (entry n.entries v)) (length_at g.segments (entry n.entries v)) in
      omega (
        arith,
        sum_le g.posts (entry_length g.segments g.posts n.entries) (λ v. fee g (entry n.entries v) + kept v) (λ v h. omega (arith, split (entry n.entries v))),
        sum_add g.posts (λ v. fee g (entry n.entries v)) kept,
        list_cost g.segments g.posts n.entries (walked_by g) (λ v h z. (hooked g ok s owed n f v h z).leads.is_segment) (both_zero n f),
        used_cost g.segments g.posts g.walked owed.few,
      )

  -- LENGTH ≤ TREE WALKED + THE LEAST LENGTHS OF THE POSTS LAID
  pub between_length : (k : ℕ)
      → whole g.segments g.posts (walk g k s (at_start g.posts s)).entries
      ≤ whole g.segments g.posts g.walked + weigh (at g.D) (walk g k s (at_start g.posts s)).laid
  between_length k =
      let t = tour_trip g ok s owed k s in
      let f = fine_start g ok s owed in
      rw (walk_is_tour g k s (at_start g.posts s)) (whole_covered (moves g (at_start g.posts s) (tour g k s)) (fine_moves g ok s owed (at_start g.posts s) t owed.below f) (covered_moves (at_start g.posts s) t owed.below f covered_start))
