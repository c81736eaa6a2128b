-- The start of the walk and its end: from a net that can be walked and its tables the walk of the source has all that it asks (`start_asks`), and what the code leaves
-- is what the definition leaves (`start_ends`). On the way up the shortest tree the depth falls, since some rank does (`deeper`).
-- Relies on Counting for the number of paths, on Legs and on Trying.
use mathlib.Core.Path.{◌≡◌, refl, sym, ap, ◌∙◌}
use mathlib.Core.Bool.{Bool, true, false, cond}
use mathlib.Core.List.{List, ◌++◌}
use Prim.Native.Nat.{ℕ, zero, suc, ◌+◌, ◌*◌, ◌≤◌, ◌<◌}
use native.Mathlib.Omega.{arith}
use native.Mathlib.Nat.{mul-le-mul, mul_comm, div-lt_iff_lt-mul}
use native.Mathlib.Decide.{dec_lt, ℕ_discrete}
use lib.Dec.{eqb, ltb}
use lib.ListN.{length, get_or, take, drop, set, replicate, length-take, length-set, length-replicate, length-append, get_or-replicate, get_or-append, get_or-eq_default}
use lib.Seq.{ext_get_or, get_or-take, get_or-set_same, get_or-set_other}
use borrow.Author.Tests.{eq-eqb, ne_eqb, ltb-true, ltb-false, lt-ltb, le-ltb}
use Rattle.net.specs.Words.{tab, no_segment}
use Rattle.net.specs.Net.{segments_of, other}
use Rattle.net.specs.Trees.{none_yet, at, entry, parent}
use Rattle.net.specs.Walk.{Notes, Given, at_start, child, walk}
use Rattle.net.proofs.Words.{tab_at, length_tab}
use Rattle.between.specs.Given.{notes_of, Shows, Lists, EndsIn, the_end_beyond, parents_by, limit_by, limits_by, given_of}
use Rattle.between.specs.Laying.{depth, Late, Deeper, Direct, Entering}
use Rattle.between.specs.Children.{Indexed}
use Rattle.between.specs.Asked.{Turned, Walkable, Tables, walked_of, ThirdTree}
use Rattle.between.proofs.Lists.{lists_of}
use Rattle.between.proofs.Trying.{other_is}
use Rattle.between.proofs.Counting.{laid_most}

-- THE LIMIT. A note is above the limit exactly if it is over the ratio
pub limit_test : (p q least x : ℕ) → 0 < q → ltb (limit_by p q least) x ≡ ltb ((p + q) * least) (q * x)
limit_test p q least x h = go (ltb (limit_by p q least) x) refl
  where
    go : (t : Bool) → ltb (limit_by p q least) x ≡ t → ltb (limit_by p q least) x ≡ ltb ((p + q) * least) (q * x)
    go true e =
        let z : (p + q) * least < x * q = (div-lt_iff_lt-mul h).0 (ltb-true (limit_by p q least) x e) in
        e ∙ sym (lt-ltb ((p + q) * least) (q * x) (rw (mul_comm q x) z))
    go false e =
        e
        ∙ sym
        (le-ltb ((p + q) * least) (q * x)
        (elim (dec_lt ((p + q) * least) (q * x)) [
          | yes z ↦ absurd (let y : limit_by p q least < x = (div-lt_iff_lt-mul h).1 (rw (mul_comm q x) at z) in omega (arith, y, ltb-false (limit_by p q least) x e))
          | no z ↦ omega arith
        ]))

-- THE DEPTH falls on the way up wherever some rank does
module _ (tree up : List ℕ) (rank : ℕ → ℕ) (Good : ℕ → Type 0) (top : ℕ) (at_top : entry tree top ≡ no_segment)
    (climbs : (v : ℕ) → Good v → (v ≡ top → ⊥) → (entry tree v ≡ no_segment → ⊥) × (Good (get_or up v 0) × (rank (get_or up v 0) < rank v))) where
  depth_top : (k : ℕ) → depth tree up k top ≡ 0
  unfolding depth
  depth_top zero = refl
  depth_top (suc k) = rw (eq-eqb _ _ at_top)

  depth_up : (k v : ℕ) → (entry tree v ≡ no_segment → ⊥) → depth tree up (suc k) v ≡ suc (depth tree up k (get_or up v 0))
  unfolding depth
  depth_up k v h = rw (ne_eqb _ _ h)

  depth_stays : (k v : ℕ) → Good v → rank v < k → depth tree up k v ≡ depth tree up (suc k) v
  depth_stays zero v g r = absurd (omega arith)
  depth_stays (suc k) v g r = elim (ℕ_discrete v top) [
    | yes e ↦ rw e (depth_top (suc k) ∙ sym (depth_top (suc (suc k))))
    | no e ↦
        let c = climbs v g e in
        depth_up k v c.0 ∙ ap suc (depth_stays k (get_or up v 0) c.1.0 (omega (arith, c.1.1))) ∙ sym (depth_up (suc k) v c.0)
  ]

  depth_most : (k v : ℕ) → Good v → depth tree up k v ≤ rank v
  unfolding depth
  depth_most zero v g = omega arith
  depth_most (suc k) v g = elim (ℕ_discrete v top) [
    | yes e ↦ rw e (omega (arith, depth_top (suc k)))
    | no e ↦ let c = climbs v g e in omega (arith, depth_up k v c.0, depth_most k (get_or up v 0) c.1.0, c.1.1)
  ]

  depth_falls : (k v : ℕ) → Good v → (v ≡ top → ⊥) → rank v < k → depth tree up k (get_or up v 0) < depth tree up k v
  depth_falls zero v g ne r = absurd (omega arith)
  depth_falls (suc k) v g ne r =
      let c = climbs v g ne in
      omega (arith, depth_up k v c.0, depth_stays k (get_or up v 0) c.1.0 (omega (arith, c.1.1)))

cond_in : (b : Bool) (x y n : ℕ) → x < n → y < n → cond b x y < n
cond_in true x y n h k = h
cond_in false x y n h k = k

-- a post with a least length
below_noted : (l : List ℕ) (v : ℕ) → at l v < none_yet → v < length l
below_noted l v h = elim (dec_lt v (length l)) [
  | yes k ↦ k
  | no k ↦ let z : at l v ≡ none_yet = get_or-eq_default l none_yet (omega arith) in absurd (omega arith)
]

-- THE NOTES OF THE START, as the code sets them
start_at : (m n s : ℕ) → n ≤ m → s < n → (v : ℕ) → v < n → get_or (take n (set (replicate m none_yet) s 0)) v none_yet ≡ cond (eqb v s) 0 none_yet
start_at m n s h k v kv =
    get_or-take n (set (replicate m none_yet) s 0) v none_yet kv
    ∙ elim (ℕ_discrete v s) [
      | yes e ↦ rw (e, eq-eqb s s refl) (get_or-set_same (replicate m none_yet) s 0 none_yet (omega (arith, length-replicate m none_yet)))
      | no e ↦ rw (ne_eqb v s e) (get_or-set_other (replicate m none_yet) s v 0 none_yet e ∙ get_or-replicate m v none_yet none_yet (omega arith))
    ]

pub start_notes : (m n s : ℕ) → n ≤ m → s < n → take n (set (replicate m none_yet) s 0) ≡ tab n (λ v. cond (eqb v s) 0 none_yet)
start_notes m n s h k =
    let e : length (take n (set (replicate m none_yet) s 0)) ≡ n = simp (length-take, length-set, length-replicate) (omega arith) in
    ext_get_or none_yet (take n (set (replicate m none_yet) s 0)) (tab n (λ v. cond (eqb v s) 0 none_yet)) (e ∙ sym (length_tab (λ v. cond (eqb v s) 0 none_yet) n))
    (λ v kv. start_at m n s h k v (omega (arith, e)) ∙ sym (tab_at (λ v. cond (eqb v s) 0 none_yet) n v none_yet (omega (arith, e))))

module _ {source : ℕ} {p q a b lengths shortest dist : List ℕ} (w : Walkable source p q a b lengths shortest dist) (walked : List ℕ) where
  abbrev G : Given
  G = given_of (length dist) p q a b lengths walked shortest dist

  lists : Lists (segments_of a b lengths) a b lengths
  lists = lists_of w.level

  ends_in : (v i : ℕ) → i < length (segments_of a b lengths) → child G v i ≡ true → other (segments_of a b lengths) i v < length dist
  ends_in v i h c =
      let k : i < length a = omega (arith, lists.count) in
      rw (other_is lists i v) (cond_in (eqb (get_or a i 0) v) (get_or b i 0) (get_or a i 0) (length dist) (w.inside.b_in i k) (w.inside.a_in i k))

  few_laid : (m : Notes) → length m.laid ≡ 0 → length (walk G (length dist) source m).laid < 4294967296
  few_laid m e =
      let z : length dist * length dist ≤ 256 * 256 = mul-le-mul {n₂ = 256} {m₂ = 256} w.few_posts w.few_posts in
      omega (arith, laid_most G (length dist) ends_in (length dist) source w.source_in m)

  module _ {limits up : List ℕ} (t : Tables p q a b shortest dist limits up) where
    parent_is : (v : ℕ) → v < length shortest → get_or up v 0 ≡ parent (segments_of a b lengths) shortest v
    parent_is v h = t.up_are v h ∙ sym (other_is lists (entry shortest v) v)

    direct : Direct G lengths shortest up dist
    direct = record { lengths_are = lists.lengths_is; shortest_is = refl; d_is = refl; up_is = parent_is; posts_are = w.posts_are }

    entering : (v : ℕ) → v < length dist → Entering G v limits lengths shortest up dist
    entering v h = record { direct = direct; limit_is = λ x. rw (t.limits_are v h) (limit_test (get_or p v 0) (get_or q v 0) (at dist v) x (w.ratios.q_some v h)) }

    -- a post with a least length hangs deeper than its parent
    abbrev Noted : ℕ → Type 0
    Noted v = (v < length dist) × ((v ≡ source → ⊥) → at dist v < none_yet)

    climbs : (v : ℕ) → Noted v → (v ≡ source → ⊥) → (entry shortest v ≡ no_segment → ⊥) × (Noted (get_or up v 0) × (w.rank (get_or up v 0) < w.rank v))
    climbs v g ne =
        let z = w.upward v g.0 ne (g.1 ne) in
        let e = parent_is v (omega (arith, g.0, w.posts_are)) in
        (z.hangs, ((rw e z.is_post, λ _. rw e z.noted), rw e z.nearer))

    pub deeper : (v : ℕ) → (v ≡ source → ⊥) → at dist v < none_yet → Deeper shortest up v
    deeper v ne h =
        let k = below_noted dist v h in
        let r = w.rank_most v k in
        record {
          is_post = omega (arith, w.posts_are);
          above = depth_falls shortest up w.rank Noted source w.top climbs (length up) v (k, λ _. h) ne (omega (arith, t.room, w.posts_are));
          deep = omega (arith, depth_most shortest up w.rank Noted source w.top climbs (length up) v (k, λ _. h), w.posts_are);
        }

    module _ {d e : List ℕ} {m : ℕ} (room : length dist ≤ m) (ed : d ≡ take (length dist) (set (replicate m none_yet) source 0)) (ee : e ≡ replicate (length dist) no_segment) where
      noted : d ≡ tab (length dist) (λ v. cond (eqb v source) 0 none_yet)
      noted = ed ∙ start_notes m (length dist) source room w.source_in

      starts : notes_of d e ≡ at_start (length dist) source
      unfolding at_start
      starts = rw (noted, ee)

      start_deeper : (v : ℕ) → Late dist d v → Deeper shortest up v
      start_deeper v late = elim (dec_lt v (length dist)) [
        | yes h ↦ elim (ℕ_discrete v source) [
          | yes s ↦ absurd (let y : at d v ≡ 0 = here h ∙ rw (eq-eqb v source s) in omega (arith, late))
          | no s ↦ deeper v s (let y : at d v ≡ none_yet = here h ∙ rw (ne_eqb v source s) in omega (arith, late))
        ]
        | no h ↦
            let z : at dist v ≡ none_yet = get_or-eq_default dist none_yet (omega arith) in
            let y : at d v ≡ none_yet = get_or-eq_default d none_yet (omega (arith, ap length noted, length_tab (λ v. cond (eqb v source) 0 none_yet) (length dist))) in
            absurd (omega (arith, late))
      ]
        where
          here : v < length dist → at d v ≡ cond (eqb v source) 0 none_yet
          here h = ap (λ (l : List ℕ). at l v) noted ∙ tab_at (λ v. cond (eqb v source) 0 none_yet) (length dist) v none_yet h

      -- what the walk asks holds at the start
      pub start_asks : {first after : List ℕ} {n : ℕ} → n ≡ length first → n ≤ 256 → length dist ≤ n → Indexed a b walked n 0 first after
          → Turned G (length dist) source walked first after limits lengths shortest up dist d e
      start_asks en few many ix =
          record {
            shown = record {
              walked_is = refl;
              count = lists.count ∙ sym w.level.lengths_level;
              links = rw (← en) (ix.links G lengths lists refl);
              few_links = omega arith;
              room = omega arith;
              inside = ends_in;
              enters = entering;
            };
            is_post = w.source_in;
            layable = record { deeper = start_deeper };
            countable = few_laid (notes_of d e) refl;
          }

      -- THE WHOLE WALK
      pub start_ends : {d' e' : List ℕ} {r : ℕ} → Shows (walk G (length dist) source (notes_of d e)) d' e' r → ThirdTree source p q a b lengths walked shortest dist r e'
      unfolding walked_of
      start_ends s = let z = rw starts at s in record { count = sym z.counted; tree = sym z.hung }

-- THE TABLES, as the code puts them at the fronts of two lists
pub tables_of : (p q a b shortest dist limits up u l : List ℕ) → up ≡ parents_by a b shortest ++ drop (length shortest) u → limits ≡ limits_by p q dist ++ drop (length dist) l
    → Tables p q a b shortest dist limits up
tables_of p q a b shortest dist limits up u l eu el =
    let f : ℕ → ℕ = λ v. limit_by (get_or p v 0) (get_or q v 0) (at dist v) in
    let h : ℕ → ℕ = λ v. the_end_beyond a b (entry shortest v) v in
    record {
      limits_are = λ v k. rw el (get_or-append (limits_by p q dist) (drop (length dist) l) none_yet v (omega (arith, length_tab f (length dist))) ∙ tab_at f (length dist) v none_yet k);
      up_are = λ v k. rw eu (get_or-append (parents_by a b shortest) (drop (length shortest) u) 0 v (omega (arith, length_tab h (length shortest))) ∙ tab_at h (length shortest) v 0 k);
      room = omega (arith, ap length eu, length-append (parents_by a b shortest) (drop (length shortest) u), length_tab h (length shortest));
    }

-- ends of so many posts are ends of more
pub ends_wider : {n m : ℕ} {a b : List ℕ} → n ≤ m → EndsIn n a b → EndsIn m a b
ends_wider h e = record { a_in = λ i k. let z = e.a_in i k in omega arith; b_in = λ i k. let z = e.b_in i k in omega arith }

-- ONE OUTCOME. Two outcomes that the contract of the third tree's code allows are equal
pub third_tree_unique : {source laid laid' : ℕ} {p q a b lengths walked shortest dist after after' : List ℕ}
    → ThirdTree source p q a b lengths walked shortest dist laid after → ThirdTree source p q a b lengths walked shortest dist laid' after'
    → (laid ≡ laid') × (after ≡ after')
third_tree_unique x y = (x.count ∙ sym y.count, x.tree ∙ sym y.tree)
