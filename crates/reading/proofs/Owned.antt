-- Posts whose own ratios are read into two lists side by side: the loop of `own_in`, turn by turn, and what was read and stands there after it.
-- Relies on OneByOne, on Passes and on net's laws of two lists.
use Prim.Native.Nat.{ℕ, ◌+◌, ◌<◌}
use mathlib.Core.Path.{◌≡◌, refl, sym, ◌∙◌}
use mathlib.Core.List.{List, [], ◌∷◌, ◌++◌}
use mathlib.Core.Logic.{◌⊎◌, ⊎_elim}
use native.Mathlib.Nat.{eq-or-lt_of_le}
use native.Mathlib.Omega.{arith}
use lib.ListN.{length, set, length-set, length-append, get_or-append}
use lib.Seq.{get_or-set_same, get_or-set_other, get_or-append_seam}
use Rattle.net.specs.Net.{Ratio, no_ratio, ratio_at, ratios_of, most_posts}
use Rattle.net.proofs.Own.{ratio_fields}
use Rattle.numbers.specs.Numbers.{Got, got, refused}
use Rattle.numbers.specs.declared.reader.Reader.{Reader}
use Rattle.net.specs.declared.Refusal.{Refusal}
use Rattle.reading.specs.Reading.{ratio, posts}
use Rattle.reading.specs.Answers.{OwnStored}
use Rattle.reading.proofs.Carried.{Step}
use Rattle.reading.proofs.Steps.{ratio_next}
use Rattle.reading.proofs.OneByOne as O
use Rattle.reading.proofs.OneByOne.{posts_one_by_one, turn_first, turn_next, turn_stops, turn_all}
use Rattle.reading.proofs.Passes.{at_source, not_source}

-- TWO LISTS SIDE BY SIDE after a store at v
module _ (p q : List ℕ) (v : ℕ) (r : Ratio) (in_p : v < length p) (in_q : v < length q) where
  stored_here : ratio_at (ratios_of (set p v r.p) (set q v r.q)) v ≡ r
  stored_here =
      let a = length-set p v r.p in
      let b = length-set q v r.q in
      sym (ratio_fields (set p v r.p) (set q v r.q) v (omega arith) (omega arith)) ∙ rw (get_or-set_same p v r.p 0 in_p, get_or-set_same q v r.q 0 in_q)

  stored_else : (w : ℕ) → w < v → ratio_at (ratios_of (set p v r.p) (set q v r.q)) w ≡ ratio_at (ratios_of p q) w
  stored_else w h =
      let a = length-set p v r.p in
      let b = length-set q v r.q in
      let ne : w ≡ v → ⊥ = λ e. omega arith in
      sym (ratio_fields (set p v r.p) (set q v r.q) w (omega arith) (omega arith)) ∙ rw (get_or-set_other p v w r.p 0 ne, get_or-set_other q v w r.q 0 ne) (ratio_fields p q w (omega arith) (omega arith))

-- the last of the posts that were read, or one before it
last_or_less : (own : List Ratio) (r : Ratio) (w : ℕ) → w < length (own ++ (r ∷ [])) → (w ≡ length own) ⊎ (w < length own)
last_or_less own r w h = eq-or-lt_of_le (omega (arith, length-append own (r ∷ [])))

-- THE LOOP of the posts' reader, which begins at the reader s
module _ (s : Reader) (source : ℕ) where
  -- two lists in which the ratios of posts stand at their places; nothing is said of the source's
  abbrev Holds : List ℕ → List ℕ → List Ratio → Type 0
  Holds p q own = (w : ℕ) → w < length own → (w ≡ source → ⊥) → ratio_at (ratios_of p q) w ≡ ratio_at own w

  -- the posts before v were read, up to the reader r; the lists have 256 places
  pub record Turn (r : Reader) (v : ℕ) (p q : List ℕ) : Type 0 where
    pub same : r.bytes ≡ s.bytes
    pub p_long : length p ≡ most_posts
    pub q_long : length q ≡ most_posts
    pub turn : O.Turn (posts_one_by_one s.bytes.now source) 8 s.at r.at v (Holds p q)

  pub begun : {p q : List ℕ} → length p ≡ most_posts → length q ≡ most_posts → Turn s 0 p q
  begun e f = record { same = refl; p_long = e; q_long = f; turn = turn_first (posts_one_by_one s.bytes.now source) 8 s.at (λ w h. absurd (omega arith)) }

  -- one post more: the source, or one whose ratio was stored
  held_source : (p q : List ℕ) {v : ℕ} → v ≡ source → (own : List Ratio) → length own ≡ v → Holds p q own → Holds p q (own ++ (no_ratio ∷ []))
  held_source p q here own n held w h ne =
      ⊎_elim (λ z. absurd (ne (z ∙ n ∙ here))) (λ l. held w l ne ∙ sym (get_or-append own (no_ratio ∷ []) no_ratio w l)) (last_or_less own no_ratio w h)

  held_more : (p q : List ℕ) {v : ℕ} (o : Ratio) → v < length p → v < length q → (own : List Ratio) → length own ≡ v → Holds p q own
      → Holds (set p v o.p) (set q v o.q) (own ++ (o ∷ []))
  held_more p q {v} o in_p in_q own n held w h ne =
      ⊎_elim (λ z. (let a = stored_here p q v o in_p in_q in let b = get_or-append_seam own o [] no_ratio in cc))
      (λ l. stored_else p q v o in_p in_q w (omega arith) ∙ held w l ne ∙ sym (get_or-append own (o ∷ []) no_ratio w l)) (last_or_less own o w h)

  module _ {r : Reader} {v : ℕ} {p q : List ℕ} (t : Turn r v p q) where
    -- the source: nothing is read
    pub at_the_source : v ≡ source → Turn r (v + 1) p q
    at_the_source here = record {
      same = t.same;
      p_long = t.p_long;
      q_long = t.q_long;
      turn = turn_next (posts_one_by_one s.bytes.now source) 8 s.at t.turn (at_source s.bytes.now source v r.at here) (omega arith) (held_source p q here);
    }

    module _ (ne : v ≡ source → ⊥) where
      -- a post whose ratio was read and stored
      pub one_more : {x y : ℕ} {u : Reader} → v < most_posts → Step (λ bytes. ratio bytes v) s r.at (record { p = x; q = y }) u → Turn u (v + 1) (set p v x) (set q v y)
      one_more {x} {y} l k = record {
        same = k.1;
        p_long = length-set p v x ∙ t.p_long;
        q_long = length-set q v y ∙ t.q_long;
        turn = turn_next (posts_one_by_one s.bytes.now source) 8 s.at t.turn (not_source s.bytes.now source v r.at ne ∙ k.0) (ratio_next s.bytes.now v r.at _ _ k.0)
            (held_more p q _ (omega (arith, t.p_long)) (omega (arith, t.q_long)));
      }

      -- one that was refused
      pub one_stops : (count : ℕ) {q : Refusal} → v < count → ratio s.bytes.now v r.at ≡ refused q → posts s.bytes.now source 0 count s.at ≡ refused q
      one_stops count l e = turn_stops (posts_one_by_one s.bytes.now source) 8 s.at t.turn l (not_source s.bytes.now source v r.at ne ∙ e)

    -- all posts
    module _ {count : ℕ} (e : v ≡ count) where
      pub all_read : posts s.bytes.now source 0 count s.at ≡ got t.turn.xs r.at
      all_read = turn_all (posts_one_by_one s.bytes.now source) 8 s.at t.turn e

      pub all_stored : OwnStored source count (posts s.bytes.now source 0 count s.at) p q
      all_stored = record { stored = λ own next g w h ne. (let same : t.turn.xs ≡ own = (let k = sym all_read ∙ g in cc) in rw same at (t.turn.held w (omega (arith, t.turn.long)) ne)) }

-- after a refusal nothing is said of the lists
pub none_stored : {source count : ℕ} {g : Got (List Ratio)} {r : Refusal} (p q : List ℕ) → g ≡ refused r → OwnStored source count g p q
none_stored p q e = record { stored = λ own next k. (let z : ◌≡◌ {A = ℕ} 0 1 = cc in absurd (omega arith)) }
