-- The form, and the posts' own ratios as the writer meets them, one post after the other: the loops that measure and
-- that put them, and that what a net keeps of the ratios that are lent is written as what is lent (`own_second_is`).
-- Relies on Puts and on net's Own.
use Prim.Native.Nat.{ℕ, zero, suc, ◌+◌, ◌*◌, ◌<◌, ◌≤◌}
use mathlib.Core.Path.{◌≡◌, refl, sym, ap, ◌∙◌}
use mathlib.Core.Bool.{Bool, true, false}
use mathlib.Core.List.{List, [], ◌++◌, append_assoc, append-nil}
use native.Mathlib.Nat.{zero-add, add-zero}
use native.Mathlib.Omega.{arith}
use native.Mathlib.Numerals.{add-one}
use lib.Dec.{eqb}
use lib.ListN.{length, get_or, length-append}
use borrow.Author.Tests.{eqb-false, eq-eqb, ne_eqb}
use Rattle.net.specs.Net.{Ratio, ratio_at, ratios_of, own_of}
use Rattle.net.specs.declared.Head.{Head}
use Rattle.net.specs.declared.Form.{Form}
use Rattle.net.specs.declared.Form.TheVariants.{First, Second}
use Rattle.net.proofs.Own.{ratio_fields, own_count, own_at}
use Rattle.numbers.specs.Numbers.{written}
use Rattle.writing.specs.Writing.{form_written, ratio_written, unless_source, post_written, posts_written, own_in, own_written}
use Rattle.writing.specs.Putting.{HasRoom, Wrote}
use Rattle.writing.specs.declared.Page.{Page}
use Rattle.writing.proofs.Puts.{wrote_none, wrote_then}

-- THE FORM
pub form_first : (f : Form) → f ≡ First → form_written f ≡ []
unfolding form_written
form_first f e = rw e

pub form_second : (f : Form) → f ≡ Second → form_written f ≡ written 0
unfolding form_written
form_second f e = rw e

-- ONE POST: nothing of the source
module _ (source : ℕ) (own : List Ratio) (v : ℕ) where
  pub source_written : v ≡ source → post_written source own v ≡ []
  unfolding post_written
  source_written e = rw (eq-eqb v source e)

  pub post_written_law : (v ≡ source → ⊥) → post_written source own v ≡ ratio_written (ratio_at own v)
  unfolding post_written
  post_written_law ne = rw (ne_eqb v source ne)

-- two lists of ratios that agree at it
pub post_same : (source : ℕ) (own own' : List Ratio) (v : ℕ) → ((v ≡ source → ⊥) → ratio_at own v ≡ ratio_at own' v) → post_written source own v ≡ post_written source own' v
unfolding post_written
post_same source own own' v f = go (eqb v source) refl
  where
    go : (b : Bool) → eqb v source ≡ b → unless_source b (ratio_written (ratio_at own v)) ≡ unless_source b (ratio_written (ratio_at own' v))
    go true e = refl
    go false e = ap ratio_written (f (eqb-false v source e))

-- POSTS IN A ROW
module _ (source : ℕ) (own : List Ratio) where
  pub posts_next : (v k : ℕ) → posts_written source own v (suc k) ≡ posts_written source own v k ++ post_written source own (v + k)
  unfolding posts_written
  posts_next v zero = append-nil (post_written source own v) ∙ ap (post_written source own) (sym (add-zero v))
  posts_next v (suc k) =
      let e : v + 1 + k ≡ v + suc k = omega arith in
      ap (λ (w : List ℕ). post_written source own v ++ w) (posts_next (v + 1) k ∙ ap (λ (i : ℕ). posts_written source own (v + 1) k ++ post_written source own i) e)
      ∙ sym (append_assoc (post_written source own v) (posts_written source own (v + 1) k) (post_written source own (v + suc k)))

  pub posts_more : (k : ℕ) → posts_written source own 0 (k + 1) ≡ posts_written source own 0 k ++ post_written source own k
  posts_more k = ap (posts_written source own 0) (add-one k) ∙ posts_next 0 k ∙ ap (λ (i : ℕ). posts_written source own 0 k ++ post_written source own i) (zero-add k)

  -- no more posts than all take up
  posts_most : (v j k : ℕ) → j ≤ k → length (posts_written source own v j) ≤ length (posts_written source own v k)
  unfolding posts_written
  posts_most v zero k h = omega arith
  posts_most v (suc j) zero h = absurd (omega arith)
  posts_most v (suc j) (suc k) h = simp length-append (omega (arith, posts_most (v + 1) j k (omega arith)))

  pub posts_within : (v k : ℕ) → v < k → length (posts_written source own 0 v) + length (post_written source own v) ≤ length (posts_written source own 0 k)
  posts_within v k h =
      let e : length (posts_written source own 0 (v + 1)) ≡ length (posts_written source own 0 v) + length (post_written source own v) =
      ap (λ (w : List ℕ). length w) (posts_more v) ∙ length-append (posts_written source own 0 v) (post_written source own v) in
      omega (arith, posts_most 0 (v + 1) k (omega arith))

pub posts_same : (source : ℕ) (own own' : List Ratio) (v k : ℕ) → ((u : ℕ) → u < v + k → (u ≡ source → ⊥) → ratio_at own u ≡ ratio_at own' u)
    → posts_written source own v k ≡ posts_written source own' v k
unfolding posts_written
posts_same source own own' v zero f = refl
posts_same source own own' v (suc k) f =
    ap (λ (w : List ℕ). w ++ posts_written source own (v + 1) k) (post_same source own own' v (f v (omega arith)))
    ∙ ap (λ (w : List ℕ). post_written source own' v ++ w) (posts_same source own own' (v + 1) k (λ u h. f u (omega arith)))

-- WHAT A NET KEEPS
module _ (h : Head) (l : List Ratio) where
  pub own_first_is : h.form ≡ First → own_written h (own_of h l) ≡ []
  unfolding own_written
  own_first_is e = rw e

  pub own_second_is : h.form ≡ Second → h.posts ≤ length l → own_written h (own_of h l) ≡ posts_written h.source l 0 h.posts
  unfolding own_written
  own_second_is e k =
      let n : length (own_of h l) ≡ h.posts = omega (arith, own_count h l e) in
      ap (λ (f : Form). own_in f h.source (own_of h l)) e ∙ ap (posts_written h.source (own_of h l) 0) n ∙ posts_same h.source (own_of h l) l 0 h.posts (λ u g ne. own_at h l e u (omega arith) ne)

  pub own_length : h.form ≡ Second → h.posts ≤ length l → length (own_written h (own_of h l)) ≡ length (posts_written h.source l 0 h.posts)
  own_length e k = ap (λ (w : List ℕ). length w) (own_second_is e k)

  pub own_none_put : h.form ≡ First → {a : Page} → HasRoom (own_written h (own_of h l)) a → Wrote (own_written h (own_of h l)) a a
  own_none_put e {a} g = rw (own_first_is e) (wrote_none a (omega arith))

  pub own_put : h.form ≡ Second → h.posts ≤ length l → {a b : Page} → Wrote (posts_written h.source l 0 h.posts) a b → Wrote (own_written h (own_of h l)) a b
  own_put e k w = rw (own_second_is e k) w

-- THE TWO NUMBERS OF A POST that stand in two lists
module _ (source : ℕ) (ps qs : List ℕ) (v : ℕ) (h : v < length ps) (k : v < length qs) where
  pub ratio_is : ratio_written (ratio_at (ratios_of ps qs) v) ≡ written (get_or ps v 0) ++ written (get_or qs v 0)
  unfolding ratio_written
  ratio_is = rw (← ratio_fields ps qs v h k)

  pub p_at : (ratio_at (ratios_of ps qs) v).p ≡ get_or ps v 0
  p_at = ap (λ (r : Ratio). r.p) (sym (ratio_fields ps qs v h k))

  pub q_at : (ratio_at (ratios_of ps qs) v).q ≡ get_or qs v 0
  q_at = ap (λ (r : Ratio). r.q) (sym (ratio_fields ps qs v h k))

  module _ (ne : v ≡ source → ⊥) where
    pub two_are : post_written source (ratios_of ps qs) v ≡ written (get_or ps v 0) ++ written (get_or qs v 0)
    two_are = post_written_law source (ratios_of ps qs) v ne ∙ ratio_is

    pub two_length : length (post_written source (ratios_of ps qs) v) ≡ length (written (get_or ps v 0)) + length (written (get_or qs v 0))
    two_length = ap (λ (w : List ℕ). length w) two_are ∙ length-append (written (get_or ps v 0)) (written (get_or qs v 0))

    pub two_put : {a b d : Page} → Wrote (written (get_or ps v 0)) a b → Wrote (written (get_or qs v 0)) b d → Wrote (post_written source (ratios_of ps qs) v) a d
    two_put f g = rw two_are (wrote_then f g)

-- of the source nothing is put
pub none_put : (source : ℕ) (own : List Ratio) (v : ℕ) → v ≡ source → {a : Page} → a.at ≤ length a.room.now → Wrote (post_written source own v) a a
none_put source own v e {a} h = rw (source_written source own v e) (wrote_none a h)

-- THE LOOP THAT MEASURES: the first v posts take `size` bytes
pub record SizedPosts (source : ℕ) (own : List Ratio) (k size v : ℕ) : Type 0 where
  pub few : v ≤ k
  pub size_is : size ≡ length (posts_written source own 0 v)
  pub small : size ≤ 8 * v

pub begin_posts : (source : ℕ) (own : List Ratio) (k : ℕ) → SizedPosts source own k 0 0
unfolding posts_written
begin_posts source own k = record { few = omega arith; size_is = refl; small = omega arith }

pub next_post : {source : ℕ} {own : List Ratio} {k size v : ℕ} → SizedPosts source own k size v → v < k → {x : ℕ} → x ≡ length (post_written source own v) → x ≤ 8
    → SizedPosts source own k (size + x) (v + 1)
next_post {source} {own} {k} {size} {v} z h e m =
    let n = z.size_is in
    let o = z.small in
    record { few = omega arith; size_is = rw (posts_more source own v, length-append) (omega arith); small = omega arith }

pub all_posts : {source : ℕ} {own : List Ratio} {k size v : ℕ} → SizedPosts source own k size v → k ≤ v → (size ≡ length (posts_written source own 0 k)) × (size ≤ 8 * k)
all_posts {source} {own} {k} {size} {v} z h =
    let e : k ≡ v = omega (arith, z.few) in
    let o = z.small in
    (rw e z.size_is, omega arith)

-- THE LOOP THAT PUTS: the first v posts are put on the page
pub record PutPosts (source : ℕ) (own : List Ratio) (k v : ℕ) (a b : Page) : Type 0 where
  pub few : v ≤ k
  pub wrote : Wrote (posts_written source own 0 v) a b

pub begin_put_posts : (source : ℕ) (own : List Ratio) (k : ℕ) (a : Page) → a.at ≤ length a.room.now → PutPosts source own k 0 a a
unfolding posts_written
begin_put_posts source own k a h = record { few = omega arith; wrote = wrote_none a h }

module _ {source k v : ℕ} {own : List Ratio} {a b : Page} (p : PutPosts source own k v a b) (h : v < k) where
  pub post_room : HasRoom (posts_written source own 0 k) a → HasRoom (post_written source own v) b
  post_room long = omega (arith, posts_within source own v k h, p.wrote.behind, p.wrote.same)

  pub put_post_on : {d : Page} → Wrote (post_written source own v) b d → PutPosts source own k (v + 1) a d
  put_post_on q = record { few = omega arith; wrote = rw (posts_more source own v) (wrote_then p.wrote q) }

pub put_posts_all : {source k v : ℕ} {own : List Ratio} {a b : Page} → PutPosts source own k v a b → k ≤ v → Wrote (posts_written source own 0 k) a b
put_posts_all {source} {k} {v} {own} {a} {b} p h = let e : k ≡ v = omega (arith, p.few) in rw e p.wrote
