-- Own ratios that are laid over a lent list: what stands at each place afterwards, and the loop that lays them, post by post. Relies on net's laws of a
-- list that is overwritten from the front and of what a net keeps of lent ratios.
use Prim.Native.Nat.{ℕ, zero, suc, ◌+◌, ◌-◌, ◌<◌, ◌≤◌}
use mathlib.Core.Path.{◌≡◌, refl, sym, ap, ◌∙◌}
use mathlib.Core.Bool.{Bool, true, false, cond, not, ◌&&◌}
use mathlib.Core.List.{List}
use native.Mathlib.Omega.{arith}
use lib.Dec.{eqb, ltb}
use lib.ListN.{length, get_or, set}
use borrow.Author.Tests.{lt-ltb, le-ltb, eq-eqb, ne_eqb}
use Rattle.net.specs.Net.{Ratio, ratio_at, own_of}
use Rattle.net.specs.declared.Form.{Form}
use Rattle.net.specs.declared.Form.TheVariants.{First, Second}
use Rattle.net.specs.declared.Head.{Head}
use Rattle.net.proofs.Blend.{Over, over_none, over_more, over_keep, over_all}
use Rattle.net.proofs.Own.{own_count, own_at}
use Rattle.net.proofs.Words.{length_tab, tab_at}
use Rattle.reading.specs.Answers.{the_own_posts, laid_in}

-- WHAT STANDS AT EACH PLACE
module _ (f : Ratio → ℕ) (source : ℕ) (own : List Ratio) (l : List ℕ) where
  abbrev entry : ℕ → ℕ
  entry v = cond (ltb v (length own) && not (eqb v source)) (f (ratio_at own v)) (get_or l v 0)

  pub laid_length : length (laid_in Second f source own l) ≡ length l
  laid_length = length_tab entry (length l)

  module _ (v : ℕ) (h : v < length l) where
    -- a post's number
    pub laid_post : v < length own → (v ≡ source → ⊥) → get_or (laid_in Second f source own l) v 0 ≡ f (ratio_at own v)
    laid_post k ne = tab_at entry (length l) v 0 h ∙ rw (lt-ltb v (length own) k, ne_eqb v source ne)

    -- at the source and beyond the posts, what it held
    pub laid_source : v ≡ source → get_or (laid_in Second f source own l) v 0 ≡ get_or l v 0
    laid_source e = tab_at entry (length l) v 0 h ∙ rw (eq-eqb v source e) (either (ltb v (length own)))
      where
        either : (b : Bool) → cond (b && false) (f (ratio_at own v)) (get_or l v 0) ≡ get_or l v 0
        either true = refl
        either false = refl

    pub laid_beyond : length own ≤ v → get_or (laid_in Second f source own l) v 0 ≡ get_or l v 0
    laid_beyond k = tab_at entry (length l) v 0 h ∙ rw (le-ltb v (length own) k)

-- what is laid in the second form is what a net of that form says
pub laid_second : (f : Ratio → ℕ) (h : Head) (own : List Ratio) (l : List ℕ) → h.form ≡ Second → laid_in Second f h.source own l ≡ laid_in h.form f h.source own l
laid_second f h own l e = ap (λ (form : Form). laid_in form f h.source own l) (sym e)

-- where a list is to be what it was from some place on, no store is missing
over_rest : {l g x : List ℕ} (k : ℕ) {i : ℕ} → Over l g x i → i + k ≡ length l → ((v : ℕ) → i ≤ v → v < length l → get_or l v 0 ≡ get_or g v 0) → x ≡ g
over_rest zero o e s = over_all o (let d = o.same in omega arith)
over_rest (suc k) {i} o e s = over_rest k (over_keep o (omega arith) (s i (omega arith) (omega arith))) (omega arith) (λ v h. s v (omega arith))

-- THE LOOP over the posts that have an own ratio: those below `post` are laid into x, which was l
module _ (f : Ratio → ℕ) (h : Head) (ratios : List Ratio) where
  abbrev laid : List ℕ → List ℕ
  laid l = laid_in h.form f h.source (own_of h ratios) l

  as_long : (l : List ℕ) → length (laid l) ≡ length l
  as_long l = go h.form
    where
      go : (form : Form) → length (laid_in form f h.source (own_of h ratios) l) ≡ length l
      go First = refl
      go Second = laid_length f h.source (own_of h ratios) l

  pub record Laying (l x : List ℕ) (post : ℕ) : Type 0 where
    pub enough : h.posts ≤ length ratios
    pub fits : h.posts ≤ length l
    pub within : post ≤ h.posts
    pub same : length x ≡ length l
    pub over : Over l (laid l) x post

  pub laying_none : (l : List ℕ) → h.posts ≤ length ratios → h.posts ≤ length l → Laying l l 0
  laying_none l n k = record { enough = n; fits = k; within = omega arith; same = refl; over = over_none l (laid l) (as_long l) }

  module _ {l x : List ℕ} {post : ℕ} (s : Laying l x post) where
    counted : h.form ≡ Second → length (own_of h ratios) ≡ h.posts
    counted e = own_count h ratios e ∙ (let k = s.enough in omega arith)

    -- where there is a turn, the form is the second
    module _ (k : post < the_own_posts h.form h.posts) where
      pub in_second : (h.form ≡ Second) × (post < h.posts)
      in_second = go h.form refl k
        where
          go : (form : Form) → h.form ≡ form → post < the_own_posts form h.posts → (h.form ≡ Second) × (post < h.posts)
          go First e k = absurd (omega arith)
          go Second e k = (e, k)

      onward : {y : List ℕ} → Over l (laid l) y (post + 1) → Laying l y (post + 1)
      onward o = let j = in_second.1 in record { enough = s.enough; fits = s.fits; within = omega arith; same = o.same; over = o }

      -- a turn that lays the post's number, and the source's turn
      pub laying_more : (post ≡ h.source → ⊥) → (n : ℕ) → n ≡ f (ratio_at ratios post) → Laying l (set x post n) (post + 1)
      laying_more ne n e =
          let z = in_second in let j = z.1 in
          let c = counted z.0 in let b = s.fits in let d = s.enough in
          let o = own_at h ratios z.0 post (omega arith) ne in
          let w = laid_post f h.source (own_of h ratios) l post (omega arith) (omega arith) ne in
          let v = ap (λ (g : List ℕ). get_or g post 0) (laid_second f h (own_of h ratios) l z.0) in
          onward (over_more s.over (omega arith) n (e ∙ ap f (sym o) ∙ sym w ∙ v))

      pub laying_source : post ≡ h.source → Laying l x (post + 1)
      laying_source e =
          let z = in_second in let j = z.1 in let b = s.fits in
          let w = laid_source f h.source (own_of h ratios) l post (omega arith) e in
          let v = ap (λ (g : List ℕ). get_or g post 0) (laid_second f h (own_of h ratios) l z.0) in
          onward (over_keep s.over (omega arith) (sym w ∙ v))

    -- after the loop
    pub laying_all : the_own_posts h.form h.posts ≤ post → x ≡ laid l
    laying_all k =
        let b = s.fits in let w = s.within in
        over_rest (length l - post) s.over (omega arith) (λ v i j. go h.form refl k v i j)
      where
        go : (form : Form) → h.form ≡ form → the_own_posts form h.posts ≤ post → (v : ℕ) → post ≤ v → v < length l
            → get_or l v 0 ≡ get_or (laid_in form f h.source (own_of h ratios) l) v 0
        go First e k v i j = refl
        go Second e k v i j = let c = counted e in sym (laid_beyond f h.source (own_of h ratios) l v j (omega arith))
