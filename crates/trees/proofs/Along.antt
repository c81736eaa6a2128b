-- The steps of the walk along the segments that belong: across a segment, one more post (`reaching_step`, `grows_step`), the row of a post (`Rowing`), and the
-- beginning (`begun`). They say nothing of the lightest tree yet. Rests on shortest's laws of rows.
use mathlib.Core.Path.{◌≡◌, refl, sym, ap, ◌∙◌}
use mathlib.Core.Bool.{Bool, true, false}
use mathlib.Core.List.{List}
use mathlib.Core.Logic.{◌⊎◌, inl, inr, ⊎_elim}
use Prim.Native.Nat.{ℕ, ◌+◌, ◌-◌, ◌*◌, ◌/◌, ◌<◌, ◌≤◌}
use native.Mathlib.Nat.{le_refl, le_of_eq}
use native.Mathlib.Omega.{arith}
use lib.ListN.{length, set, replicate, length-set, length-replicate, get_or-replicate}
use lib.Seq.{get_or-set_same, get_or-set_other}
use Rattle.net.specs.Words.{sum, counted, no_segment}
use Rattle.net.specs.Net.{every, most_posts}
use Rattle.net.proofs.Words.{clash, counted_le}
use Rattle.net.proofs.Sums.{sum_le, sum_ones, sum_drop}
use Rattle.hanging.specs.Lists.{flag, note, Ends}
use Rattle.hanging.proofs.Lists.{last?, stored}
use Rattle.shortest.specs.Notes.{Joins}
use Rattle.shortest.specs.Rows.{On, Index}
use Rattle.shortest.proofs.Rows.{on_pos, split, joins_on}
use Rattle.trees.specs.Along.{Across, Reaching, Begun, Stepped, Grows, Crossed}

-- ACROSS A SEGMENT there is a post
pub across_in : {n i x y u w : ℕ} {a b : List ℕ} → Ends n a b every → i < length a → u < n → x ≡ note a i → y ≡ note b i → Across x y u w → w < n
across_in {n} {i} {x} {y} {u} {w} z l h ex ey k = ⊎_elim (λ j. there j) (λ e. omega arith) k.one
  where
    there : Joins x y u w → w < n
    there (Joins.forth p q) = omega (arith, z.b_in i l refl)
    there (Joins.back p q) = omega (arith, z.a_in i l refl)

-- HOW MANY are reached: never more than there are posts
reached_most : (n : ℕ) (R : List Bool) → sum n (λ v. counted (flag R v) 1) ≤ n
reached_most n R = omega (arith, sum_le n (λ v. counted (flag R v) 1) (λ _. 1) (λ v h. counted_le (flag R v) 1), sum_ones n)

reached_more : (n : ℕ) (R : List Bool) (w : ℕ) → w < n → w < length R → flag R w ≡ false
    → sum n (λ v. counted (flag R v) 1) + 1 ≤ sum n (λ v. counted (flag (set R w true) v) 1)
reached_more n R w h l e =
    sum_drop n (λ v. counted (flag (set R w true) v) 1) (λ v. counted (flag R v) 1) w 1 h
    (λ v k ne. le_of_eq (ap (λ (t : Bool). counted t 1) (sym (get_or-set_other R w v true false ne))))
    (rw (e, get_or-set_same R w true false l) (le_refl 1))

-- ONE MORE POST
module _ {n count : ℕ} {R : List Bool} {Q T : List ℕ} (z : Reaching n count R Q T) where
  pub reaching_few : count ≤ n
  reaching_few = omega (arith, z.many, reached_most n R)

  module _ {w : ℕ} (in-w : w < n) (e : flag R w ≡ false) where
    flag_in : w < length R
    flag_in = omega (arith, z.flags)

    -- there is a place for it in the queue
    pub reaching_room : count < n
    reaching_room = omega (arith, z.many, reached_more n R w in-w flag_in e, reached_most n (set R w true))

    place_in : count < length Q
    place_in = omega (arith, reaching_room, z.places)

    still_reached : (v : ℕ) → flag R v ≡ true → flag (set R w true) v ≡ true
    still_reached v t = ⊎_elim (λ p. p.1) (λ p. p.1 ∙ t) (stored R w v true false flag_in)

    queued_more : (j : ℕ) → j < count + 1 → (note (set Q count w) j < n) × (flag (set R w true) (note (set Q count w) j) ≡ true)
    queued_more j h =
        ⊎_elim
        (λ p. rw p.1 (in-w, get_or-set_same R w true false flag_in))
        (λ p. let less : j < count = ⊎_elim (λ q. absurd (p.0 q)) (λ q. q) (last? j count h) in rw p.1 ((z.queued j less).0, still_reached (note Q j) (z.queued j less).1))
        (stored Q count j w 0 place_in)

    pub reaching_new : (i : ℕ) → Reaching n (count + 1) (set R w true) (set Q count w) (set T w i)
    reaching_new i =
        record {
          few = z.few;
          entries = length-set T w i ∙ z.entries;
          flags = omega (arith, length-set R w true, z.flags);
          places = omega (arith, length-set Q count w, z.places);
          many = omega (arith, z.many, reached_more n R w in-w flag_in e);
          queued = queued_more;
          each = λ v h t.
              ⊎_elim
              (λ p. (count, omega arith, get_or-set_same Q count w 0 place_in ∙ sym p.0))
              (λ p. let o = z.each v h (sym p.1 ∙ t) in (o.0, omega (arith, o.1), get_or-set_other Q count o.0 w 0 (λ k. omega (arith, o.1)) ∙ o.2))
              (stored R w v true false flag_in);
          bare = λ v h f.
              ⊎_elim
              (λ p. absurd (clash p.1 f))
              (λ p. get_or-set_other T w v i 0 p.0 ∙ z.bare v h (sym p.1 ∙ f))
              (stored R w v true false flag_in);
        }

pub reaching_step : {n w i count c' : ℕ} {R R' : List Bool} {Q T Q' T' : List ℕ} → Reaching n count R Q T → w < n → Stepped w i count R Q T c' R' Q' T' → Reaching n c' R' Q' T'
reaching_step z h (Stepped.already t) = z
reaching_step {i = i} z h (Stepped.newly e) = reaching_new z h e i

-- then w is reached
pub stepped_reached : {n w i count c' : ℕ} {R R' : List Bool} {Q T Q' T' : List ℕ} → Reaching n count R Q T → w < n → Stepped w i count R Q T c' R' Q' T' → flag R' w ≡ true
stepped_reached z h (Stepped.already t) = t
stepped_reached {w = w} {R = R} z h (Stepped.newly e) = get_or-set_same R w true false (omega (arith, z.flags))

-- and what was stays so
pub stepped_still : {n w i count c' : ℕ} {R R' : List Bool} {Q T Q' T' : List ℕ} → Reaching n count R Q T → w < n → Stepped w i count R Q T c' R' Q' T' → (v : ℕ) → flag R v ≡ true → flag R' v ≡ true
stepped_still z h (Stepped.already t) v k = k
stepped_still z h (Stepped.newly e) v k = still_reached z h e v k

-- POSTS REACHED FROM u
module _ {a b : List ℕ} {marks : List Bool} {u : ℕ} where
  pub grows_none : {count : ℕ} {R : List Bool} {Q T : List ℕ} → Grows a b marks u count R Q T count R Q T
  grows_none = record { up_to = le_refl _; in_place = λ j h. refl; still = λ v t. t; hung = λ v t. refl; new = λ v f t. absurd (clash t f) }

  -- w is where the marked segment i leads from u, or u itself
  pub grows_step : {n w i count₀ count c' : ℕ} {R₀ R R' : List Bool} {Q₀ T₀ Q T Q' T' : List ℕ} → Grows a b marks u count₀ R₀ Q₀ T₀ count R Q T → flag R₀ u ≡ true → Reaching n count R Q T
      → w < n → i < length a → flag marks i ≡ true → Across (note a i) (note b i) u w → Stepped w i count R Q T c' R' Q' T' → Grows a b marks u count₀ R₀ Q₀ T₀ c' R' Q' T'
  grows_step g s z h l m k (Stepped.already t) = g
  grows_step {n} {w} {i} {count₀} {count} {c'} {R₀} {R} {R'} {Q₀} {T₀} {Q} {T} g s z h l m k (Stepped.newly e) =
      record {
        up_to = omega (arith, g.up_to);
        in_place = λ j p. get_or-set_other Q count j w 0 (λ q. omega (arith, g.up_to)) ∙ g.in_place j p;
        still = λ v t. still_reached z h e v (g.still v t);
        hung = λ v t. get_or-set_other T w v i 0 (λ q. clash (g.still v t) (ap (flag R) q ∙ e)) ∙ g.hung v t;
        new = λ v f t.
            ⊎_elim
            (λ p. rw p.0 (i, l, m, leads, get_or-set_same T w i 0 (omega (arith, z.entries))))
            (λ p. let o = g.new v f (sym p.1 ∙ t) in (o.0, o.1, o.2, o.3, get_or-set_other T w v i 0 p.0 ∙ o.4))
            (stored R w v true false (omega (arith, z.flags)));
      }
    where
      leads : Joins (note a i) (note b i) u w
      leads = ⊎_elim (λ j. j) (λ q. absurd (clash (g.still u s) (ap (flag R) (sym q) ∙ e))) k.one

-- ALONG u'S ROW, at code c: where a marked segment leads is reached, or the segment is still on the row
pub record Rowing (n : ℕ) (a b : List ℕ) (marks : List Bool) (next : List ℕ) (u c count₀ : ℕ) (R₀ : List Bool) (Q₀ T₀ : List ℕ) (count : ℕ) (R : List Bool) (Q T : List ℕ) : Type 0 where
  pub low : c ≤ 2 * length a
  pub reaching : Reaching n count R Q T
  pub grows : Grows a b marks u count₀ R₀ Q₀ T₀ count R Q T
  pub rest : (i v : ℕ) → i < length a → flag marks i ≡ true → Joins (note a i) (note b i) u v → (flag R v ≡ true) ⊎ ((k : ℕ) × On (note next) k c × ((k - 1) / 2 ≡ i))

module _ {n : ℕ} {a b : List ℕ} {marks : List Bool} {next : List ℕ} {u : ℕ} where
  pub rowing : {c count : ℕ} {first : ℕ → ℕ} {R : List Bool} {Q T : List ℕ} → u < n → Index (note a) (note b) n (2 * length a) (length a) (length a) first (note next) → c ≡ first u
      → Reaching n count R Q T → Rowing n a b marks next u c count R Q T count R Q T
  rowing h I e z =
      rw e (record { low = I.tops u h; reaching = z; grows = grows_none; rest = λ i v k m j. inr (joins_on h I i v k j) })

  -- the segment at c is marked, and its other end is w
  pub rowing_more : {c c' i w x y count₀ count many : ℕ} {R₀ R R' : List Bool} {Q₀ T₀ Q T Q' T' : List ℕ} → Rowing n a b marks next u c count₀ R₀ Q₀ T₀ count R Q T → flag R₀ u ≡ true
      → (c - 1) / 2 ≡ i → i < length a → flag marks i ≡ true → x ≡ note a i → y ≡ note b i → Across x y u w → w < n → Stepped w i count R Q T many R' Q' T'
      → c' ≡ note next c → c' < c → Rowing n a b marks next u c' count₀ R₀ Q₀ T₀ many R' Q' T'
  rowing_more {c} {c'} {i} {w} {R' = R'} W s ei l m ex ey k h o ec less =
      record {
        low = omega (arith, W.low);
        reaching = reaching_step W.reaching h o;
        grows = grows_step W.grows s W.reaching h l m (rw (ex, ey) at k) o;
        rest = λ j v q p f.
            ⊎_elim
            (λ t. inl (stepped_still W.reaching h o v t))
            (λ t. ⊎_elim (λ y. inl (here j v f (sym t.2 ∙ ap (λ g. (g - 1) / 2) y ∙ ei))) (λ on. inr (t.0, rw ec on, t.2)) (split t.1))
            (W.rest j v q p f);
      }
    where
      here : (j v : ℕ) → Joins (note a j) (note b j) u v → j ≡ i → flag R' v ≡ true
      here j v f y = rw (← k.all v (rw (ex, ey) (rw y at f))) (stepped_reached W.reaching h o)

  -- it isn't marked
  pub rowing_skip : {c c' i count₀ count : ℕ} {R₀ R : List Bool} {Q₀ T₀ Q T : List ℕ} → Rowing n a b marks next u c count₀ R₀ Q₀ T₀ count R Q T
      → (c - 1) / 2 ≡ i → flag marks i ≡ false → c' ≡ note next c → c' < c → Rowing n a b marks next u c' count₀ R₀ Q₀ T₀ count R Q T
  rowing_skip W ei f ec less =
      record {
        low = omega (arith, W.low);
        reaching = W.reaching;
        grows = W.grows;
        rest = λ j v q p k.
            ⊎_elim inl
            (λ t.
            ⊎_elim
            (λ y. absurd (clash p (ap (flag marks) (sym t.2 ∙ ap (λ g. (g - 1) / 2) y ∙ ei) ∙ f)))
            (λ on. inr (t.0, rw ec on, t.2))
            (split t.1))
            (W.rest j v q p k);
      }

  -- at the row's end
  pub rowed : {count₀ count : ℕ} {R₀ R : List Bool} {Q₀ T₀ Q T : List ℕ} → Rowing n a b marks next u 0 count₀ R₀ Q₀ T₀ count R Q T → Crossed a b marks u R
  rowed W = record { all = λ i v h m j. ⊎_elim (λ t. t) (λ t. absurd (omega (arith, on_pos t.1))) (W.rest i v h m j) }

-- AT FIRST: the source is reached, no other post is, and every entry says so
pub begun : {n s : ℕ} (R : List Bool) (Q : List ℕ) {T : List ℕ} → s < n → n ≤ most_posts → T ≡ replicate n no_segment → n ≤ length R → n ≤ length Q → ((v : ℕ) → flag R v ≡ false)
    → Begun n s (set R s true) (set Q 0 s) T
begun {n} {s} R Q {T} h few e i j f =
    record {
      reaching =
          record {
            few = few;
            entries = rw e (length-replicate n no_segment);
            flags = omega (arith, length-set R s true);
            places = omega (arith, length-set Q 0 s);
            many = omega (arith, reached_more n R s h (omega arith) (f s));
            queued = λ x p. let e : x ≡ 0 = omega arith in rw (e, head) (h, now_reached);
            each = λ v p t. (0, omega arith, head ∙ sym (only v t));
            bare = λ v p _. none_hung v p;
          };
      source_in = now_reached;
      no_other = only;
      none_hung = none_hung;
    }
  where
    now_reached : flag (set R s true) s ≡ true
    now_reached = get_or-set_same R s true false (omega arith)

    head : note (set Q 0 s) 0 ≡ s
    head = get_or-set_same Q 0 s 0 (omega arith)

    only : (v : ℕ) → flag (set R s true) v ≡ true → v ≡ s
    only v t = ⊎_elim (λ p. p.0) (λ p. absurd (clash t (p.1 ∙ f v))) (stored R s v true false (omega arith))

    none_hung : (v : ℕ) → v < n → note T v ≡ no_segment
    none_hung v p = rw e (get_or-replicate n v no_segment 0 p)
