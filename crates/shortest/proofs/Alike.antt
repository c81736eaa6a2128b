-- `least` and `hung` look at which segments are present and at what each counts for: where these are alike, so are the lists.
-- Relies on nothing of this crate.
use mathlib.Core.Path.{◌≡◌, refl, ap, ◌∙◌}
use mathlib.Core.Bool.{Bool, ◌&&◌, cond}
use mathlib.Core.List.{List}
use Prim.Native.Nat.{ℕ, zero, suc, ◌+◌, ◌<◌}
use native.Mathlib.Omega.{arith}
use lib.ListN.{length}
use lib.Dec.{eqb}
use Rattle.net.specs.Words.{each, tab, least_of, lowest}
use Rattle.net.specs.Net.{touches, other}
use Rattle.net.specs.Trees.{none_yet, at, fits, better, round, least, hung}
use Rattle.net.specs.declared.Segment.{Segment}

pub record Alike (segs : List Segment) (ok ok' : ℕ → Bool) (w w' : ℕ → ℕ) : Type 0 where
  pub ok_same : (i : ℕ) → i < length segs → ok i ≡ ok' i
  pub w_same : (i : ℕ) → w i ≡ w' i

-- THE WORDS
tab_same : {S : Type 0} (n : ℕ) (f g : ℕ → S) → ((v : ℕ) → v < n → f v ≡ g v) → tab n f ≡ tab n g
tab_same zero f g e = refl
tab_same (suc n) f g e = rw (e n (omega arith), tab_same n f g (λ v h. e v (omega arith)))

least_of_same : (m : ℕ) (t t' : ℕ → Bool) (f f' : ℕ → ℕ) (x : ℕ) → ((i : ℕ) → i < m → t i ≡ t' i) → ((i : ℕ) → f i ≡ f' i) → least_of m t f x ≡ least_of m t' f' x
least_of_same zero t t' f f' x p q = refl
least_of_same (suc m) t t' f f' x p q = rw (p m (omega arith), q m, least_of_same m t t' f f' x (λ i h. p i (omega arith)) q)

lowest_same : (m : ℕ) (t t' : ℕ → Bool) → ((i : ℕ) → i < m → t i ≡ t' i) → lowest m t ≡ lowest m t'
lowest_same zero t t' p = refl
lowest_same (suc m) t t' p = rw (p m (omega arith), lowest_same m t t' (λ i h. p i (omega arith)))

-- LEAST LENGTHS AND HUNG LISTS
module _ {segs : List Segment} {ok ok' : ℕ → Bool} {w w' : ℕ → ℕ} (r : Alike segs ok ok' w w') where
  better_same : (n : ℕ) (l : List ℕ) (v : ℕ) → better segs ok w n l v ≡ better segs ok' w' n l v
  unfolding better
  better_same n l v =
      least_of_same (length segs) (λ i. ok i && touches segs i v) (λ i. ok' i && touches segs i v) (λ i. at l (other segs i v) + w i) (λ i. at l (other segs i v) + w' i) (at l v)
      (λ i h. ap (λ (t : Bool). t && touches segs i v) (r.ok_same i h))
      (λ i. ap (λ (x : ℕ). at l (other segs i v) + x) (r.w_same i))

  rounds_same : (n k : ℕ) (l : List ℕ) → each k (λ _ x. round segs ok w n x) l ≡ each k (λ _ x. round segs ok' w' n x) l
  unfolding round
  rounds_same n zero l = refl
  rounds_same n (suc k) l =
      ap (λ (x : List ℕ). tab n (better segs ok w n x)) (rounds_same n k l)
      ∙ tab_same n (better segs ok w n (each k (λ _ x. round segs ok' w' n x) l)) (better segs ok' w' n (each k (λ _ x. round segs ok' w' n x) l)) (λ v h. better_same n (each k (λ _ x. round segs ok' w' n x) l) v)

  pub least_alike : (n s : ℕ) → least segs ok w n s ≡ least segs ok' w' n s
  unfolding least
  least_alike n s = rounds_same n n (tab n (λ v. cond (eqb v s) 0 none_yet))

  fits_same : (l : List ℕ) (v i : ℕ) → i < length segs → fits segs ok w l v i ≡ fits segs ok' w' l v i
  fits_same l v i h =
      ap (λ (o : Bool). o && touches segs i v && eqb (at l (other segs i v) + w i) (at l v)) (r.ok_same i h)
      ∙ ap (λ (x : ℕ). ok' i && touches segs i v && eqb (at l (other segs i v) + x) (at l v)) (r.w_same i)

  pub hung_alike : (n : ℕ) (l : List ℕ) → hung segs ok w n l ≡ hung segs ok' w' n l
  unfolding hung
  hung_alike n l =
      tab_same n (λ v. lowest (length segs) (fits segs ok w l v)) (λ v. lowest (length segs) (fits segs ok' w' l v))
      (λ v h. lowest_same (length segs) (fits segs ok w l v) (fits segs ok' w' l v) (fits_same l v))
