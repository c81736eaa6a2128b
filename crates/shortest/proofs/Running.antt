-- The loop of the search: what holds at its head (`Running`), before the first turn, after a turn, and at its end, where the notes are `least`.
-- Rests on `Settling`, `Ladder` and `Sides`.
use mathlib.Core.Path.{◌≡◌, refl, sym, ap, ◌∙◌}
use mathlib.Core.Bool.{Bool, true, false}
use mathlib.Core.List.{List, [], ◌∷◌, ◌++◌}
use mathlib.Core.Logic.{⊎_elim}
use Prim.Native.Nat.{ℕ, zero, suc, ◌<◌, ◌≤◌}
use native.Mathlib.Omega.{arith}
use lib.ListN.{length, set, drop, replicate, length-set, length-replicate}
use lib.Seq.{get_or-set_same, get_or-set_other, set-set, set-get_or}
use Rattle.std.specs.Prelude.{None, Some}
use Rattle.net.specs.Net.{segments_of}
use Rattle.net.specs.Trees.{none_yet, at, least}
use Rattle.net.proofs.Routes.{marked, marked_drop}
use Rattle.net.proofs.Least.{settled_is, length_least, least_le, least_is}
use Rattle.hanging.specs.Lists.{flag, note, Sides}
use Rattle.shortest.specs.Notes.{Cleared, Relaxed, Nearest}
use Rattle.shortest.specs.Ladder.{OpenPosts, Written}
use Rattle.net.proofs.Segments.{get_d_any}
use Rattle.hanging.proofs.Lists.{front_is}
use Rattle.shortest.proofs.Settling.{State, begin, settle, notes_settled, final_next}
use Rattle.shortest.proofs.Ladder.{open_begin}
use Rattle.shortest.proofs.Sides.{sides_inside, relaxes, joins_in}

-- how many flags are up
marked_most : (l : List Bool) → marked l ≤ length l
marked_most [] = omega arith
marked_most (true ∷ l) = omega (arith, marked_most l)
marked_most (false ∷ l) = omega (arith, marked_most l)

marked_more : (l : List Bool) (i : ℕ) → i < length l → flag l i ≡ false → marked (set l i true) ≡ suc (marked l)
marked_more l i h e =
    let back : set (set l i true) i false ≡ l = set-set l i true false ∙ ap (λ (t : Bool). set l i t) (sym e) ∙ set-get_or l i false in
    marked_drop (set l i true) i (get_or-set_same l i true false h) ∙ ap (λ (x : List Bool). suc (marked x)) back

pub all_down : (n i : ℕ) → flag (replicate n false) i ≡ false
all_down zero i = refl
all_down (suc n) zero = refl
all_down (suc n) (suc i) = all_down n i

-- l₀ are the notes where the loop begins, S says which posts are settled, and t is the ladder of the others
pub record Running (a b weights : List ℕ) (present : List Bool) (posts s : ℕ) (l₀ l : List ℕ) (S : List Bool) (t : List ℕ) : Type 0 where
  pub same : length l ≡ length l₀
  pub flags : length S ≡ 256
  pub rungs : length t ≡ 512
  pub state : State (segments_of a b weights) (flag present) (note weights) posts s (note l) (flag S)
  pub open_posts : OpenPosts posts (note l) (flag S) (note t)
  pub rest : (v : ℕ) → posts ≤ v → note l v ≡ note l₀ v

module _ {a b weights : List ℕ} {present : List Bool} {posts s : ℕ} where
  pub run : {d₀ : ℕ → ℕ} {l t : List ℕ} → posts ≤ 256 → Cleared posts s d₀ (note l) → length t ≡ 512 → Written posts s 0 (note (replicate 512 none_yet)) (note t)
      → Running a b weights present posts s l l (replicate 256 false) t
  run few c e w =
      record { same = refl; flags = length-replicate 256 false; rungs = e; state = begin c (all_down 256); open_posts = open_begin few c w (all_down 256); rest = λ v h. refl }

  -- u is the nearest of the unsettled posts, and is settled next
  module _ {l₀ l : List ℕ} {S : List Bool} {t : List ℕ} {u : ℕ} (R : Running a b weights present posts s l₀ l S t) (N : Nearest posts (note l) (flag S) (Some u)) (few : posts ≤ 256) where
    inside : u < length S
    inside = omega (arith, R.flags, N.0)

    -- the note of the next post can't fall any more: a search for this post alone may stop here
    pub next_least : Sides posts a b weights present → s < posts → note l u ≡ at (least (segments_of a b weights) (flag present) (note weights) posts s) u
    next_least z in-s =
        let segs = segments_of a b weights in
        let x = R.state.sound u N.0 N.2 in
        let up : at (least segs (flag present) (note weights) posts s) u ≤ note l u = omega (arith, least_le segs (flag present) (note weights) posts (sides_inside z) s in-s x.route, x.weighs) in
        let y = least_is segs (flag present) (note weights) posts (sides_inside z) s u (omega (arith, N.2)) in
        omega (arith, y.weighs, final_next (sides_inside z) in-s R.state N.3 y.route)

    pub more_settled : marked (set S u true) ≡ suc (marked S)
    more_settled = marked_more S u inside N.1

    -- the flags are as many as before
    pub flags_more : length (set S u true) ≡ 256
    flags_more = length-set S u true ∙ R.flags

    pub room : marked S < 256
    room = omega (arith, marked_most (set S u true), more_settled, flags_more)

    pub turn : {l' t' : List ℕ} → Sides posts a b weights present → s < posts → length l' ≡ length l → Relaxed a b weights present u (note l u) (note l) (note l')
        → length t' ≡ 512 → OpenPosts posts (note l') (flag (set S u true)) (note t') → Running a b weights present posts s l₀ l' (set S u true) t'
    turn z in-s e r long o =
        record {
          same = e ∙ R.same;
          flags = flags_more;
          rungs = long;
          state = settle (sides_inside z) in-s R.state N.0 N.2 N.1 N.3 (relaxes z r) (get_or-set_same S u true false inside) (λ v ne. get_or-set_other S u v true false ne);
          open_posts = o;
          rest = λ v o. ⊎_elim (λ q. q ∙ R.rest v o) (λ q. absurd (omega (arith, joins_in z q.0 u v q.1 q.2 q.3))) (r.from v);
        }

  -- where no unsettled post has a note, these are the least lengths
  pub finish : (d₀ : List ℕ) {l₀ l : List ℕ} {S : List Bool} {t : List ℕ} → Sides posts a b weights present → s < posts → posts ≤ length d₀ → length l₀ ≡ length d₀
      → Running a b weights present posts s l₀ l S t → Nearest posts (note l) (flag S) None → Cleared posts s (note d₀) (note l₀)
      → l ≡ least (segments_of a b weights) (flag present) (note weights) posts s ++ drop posts d₀
  finish d₀ {l₀} {l} {S} {t} z in-s long k R over c =
      let segs = segments_of a b weights in
      let many = length_least segs (flag present) (note weights) posts (sides_inside z) s in-s in
      let done = notes_settled (sides_inside z) in-s R.state over l (λ v i. get_d_any l v none_yet 0 (omega (arith, R.same))) in
      front_is posts (least segs (flag present) (note weights) posts s) l d₀ (R.same ∙ k) many long
      (λ v i.
      get_d_any l v 0 none_yet (omega (arith, R.same))
      ∙ settled_is segs (flag present) (note weights) posts (sides_inside z) s in-s l done v i
      ∙ get_d_any (least segs (flag present) (note weights) posts s) v none_yet 0 (omega (arith, many)))
      (λ v o. R.rest v o ∙ c.rest v o)
