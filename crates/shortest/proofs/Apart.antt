-- Which post is not joined: the lowest post whose least length is "none yet" is that of refusal 9. Rests on `hanging`'s `Lists`.
use mathlib.Core.Path.{◌≡◌, refl, sym, ap, ◌∙◌}
use mathlib.Core.Bool.{Bool, true, false, not}
use mathlib.Core.List.{List, [], ◌∷◌, ◌++◌}
use mathlib.Core.Option.{none, some}
use Prim.Native.Nat.{ℕ, ◌<◌, ◌≤◌}
use native.Mathlib.Omega.{arith}
use native.Mathlib.Decide.{dec_lt}
use lib.ListN.{length}
use Rattle.std.specs.Prelude.{Option, None, Some}
use Rattle.net.specs.Net.{most_posts, longest, length_at}
use Rattle.net.specs.Trees.{none_yet, at, joined, the_least_lengths}
use Rattle.net.specs.Refusals.{Line, line, first, joined_lines, refusal}
use Rattle.net.specs.declared.Segment.{Segment}
use Rattle.net.proofs.Words.{so_false}
use Rattle.net.proofs.Tables.{end, here, below, first_only, none_each, some_each}
use Rattle.net.proofs.Least.{Inside, length_least, joined_chain, chain_joined, least_is, least_small}
use Rattle.hanging.specs.Lists.{note}
use Rattle.shortest.specs.Notes.{LowestApart}
use Rattle.hanging.proofs.Lists.{front_at}

-- TWO OUTCOMES of `lowest_apart` are equal
pub lowest_one : (posts : ℕ) (d : ℕ → ℕ) {r r' : Option ℕ} → LowestApart posts d r → LowestApart posts d r' → r ≡ r'
lowest_one n d {r = None} {r' = None} x y = refl
lowest_one n d {r = None} {r' = Some v} x y = absurd (omega (arith, x v y.0, y.2))
lowest_one n d {r = Some u} {r' = None} x y = absurd (omega (arith, y u x.0, x.2))
lowest_one n d {r = Some u} {r' = Some v} x y = ap Some (elim (dec_lt u v) [
  | yes p ↦ absurd (omega (arith, y.1 u p, x.2))
  | no p ↦ elim (dec_lt v u) [ yes q ↦ absurd (omega (arith, x.1 v q, y.2)) | no q ↦ omega arith ]
])

-- THE TABLE. The line of post v
abbrev line_of : (ℕ → Bool) → ℕ → List Line
line_of j v = line 9 (not (j v)) v ∷ []

-- no line passes where every post is joined
lines_none : (j : ℕ → Bool) (n : ℕ) → ((v : ℕ) → v < n → j v ≡ true) → first (joined_lines n j) ≡ none
unfolding joined_lines
lines_none j n f = sym (first_only (none_each (line_of j) n (λ v h. below (ap not (f v h)) end)))

-- the first line is that of the lowest post that is not joined
lines_some : (j : ℕ → Bool) (n r : ℕ) → r < n → ((v : ℕ) → v < r → j v ≡ true) → j r ≡ false → first (joined_lines n j) ≡ some (refusal 9 r)
unfolding joined_lines
lines_some j n r h f e = sym (first_only (some_each (line_of j) n h (λ v k. below (ap not (f v k)) end) (here (ap not e))))

-- A NOTE IS BELOW "NONE YET" EXACTLY WHERE A CHAIN JOINS THE POST, where lengths are at most 1,048,575
module _ (segs : List Segment) (ok : ℕ → Bool) (n : ℕ) (inside : Inside segs ok n) (s : ℕ) (in-s : s < n) (few : n ≤ most_posts)
    (short : (i : ℕ) → i < length segs → ok i ≡ true → length_at segs i ≤ longest) where
  pub near_joined : (v : ℕ) → at (the_least_lengths segs ok n s) v < none_yet → joined segs n ok s v ≡ true
  unfolding the_least_lengths
  near_joined v h =
      let z = least_is segs ok (length_at segs) n inside s v h in
      chain_joined segs ok n inside s v in-s (omega arith) (record { is = z.is; route = z.route })

  pub joined_near : (v : ℕ) → joined segs n ok s v ≡ true → at (the_least_lengths segs ok n s) v < none_yet
  unfolding the_least_lengths
  joined_near v e =
      let z = least_small segs ok (length_at segs) n inside s in-s longest v short (joined_chain segs ok n inside s v e) in
      omega (arith, z.1, z.2)

  far_apart : (v : ℕ) → none_yet ≤ at (the_least_lengths segs ok n s) v → joined segs n ok s v ≡ false
  far_apart v h = so_false (joined segs n ok s v) (λ e. omega (arith, joined_near v e))

  -- REFUSAL 9. l holds the least lengths, and j says which posts are joined to the source
  module _ (l rest : List ℕ) (e : l ≡ the_least_lengths segs ok n s ++ rest) (j : ℕ → Bool) (same : (v : ℕ) → j v ≡ joined segs n ok s v) where
    note_is : (v : ℕ) → v < n → note l v ≡ at (the_least_lengths segs ok n s) v
    unfolding the_least_lengths
    note_is v h = front_at n (the_least_lengths segs ok n s) rest l none_yet e (length_least segs ok (length_at segs) n inside s in-s) v h

    is_joined : (v : ℕ) → v < n → note l v < none_yet → j v ≡ true
    is_joined v h k = same v ∙ near_joined v (omega (arith, note_is v h))

    -- every post is joined
    pub apart_none : LowestApart n (note l) None → first (joined_lines n j) ≡ none
    apart_none z = lines_none j n (λ v h. is_joined v h (z v h))

    -- v is the lowest that is not
    pub apart_some : {v : ℕ} → LowestApart n (note l) (Some v) → first (joined_lines n j) ≡ some (refusal 9 v)
    apart_some {v} z = lines_some j n v z.0 (λ u k. is_joined u (omega (arith, z.0)) (z.1 u k)) (same v ∙ far_apart v (omega (arith, note_is v z.0, z.2)))
