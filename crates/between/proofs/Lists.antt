-- Three lists side by side read as the segments made of them (`lists_of`), and a table put at the front of a list, one
-- entry after another (`tab_none`, `tab_more`, `tab_all`). General laws; relies on net's laws of segments and of fronts.
use mathlib.Core.Path.{◌≡◌, sym, ap, ◌∙◌}
use mathlib.Core.List.{List, ◌++◌}
use Prim.Native.Nat.{ℕ, ◌+◌, ◌≤◌, ◌<◌}
use native.Mathlib.Omega.{arith}
use lib.ListN.{length, drop, set}
use Rattle.net.specs.Words.{tab}
use Rattle.net.specs.Net.{segments_of}
use Rattle.net.proofs.Words.{length_tab, tab_at}
use Rattle.net.proofs.Segments.{length_segments, segments_are}
use Rattle.net.proofs.Blend.{Put, put_none, put_more, put_all}
use Rattle.between.specs.Given.{Level, Lists}

pub lists_of : {a b lengths : List ℕ} → Level a b lengths → Lists (segments_of a b lengths) a b lengths
lists_of {a} {b} {lengths} h =
    let s = segments_are a b lengths h.b_level h.lengths_level in
    record { count = length_segments a b lengths h.b_level h.lengths_level; a_is = s.a_is; b_is = s.b_is; lengths_is = s.length_is }

-- A TABLE of f, put at the front of l as far as i: x is the list then
module _ (f : ℕ → ℕ) (n : ℕ) where
  pub tab_none : (l : List ℕ) → n ≤ length l → Put (tab n f) l l 0
  tab_none l h = put_none (tab n f) l (omega (arith, length_tab f n))

  pub tab_more : {l x : List ℕ} {i : ℕ} → Put (tab n f) l x i → i < n → (v : ℕ) → v ≡ f i → Put (tab n f) l (set x i v) (i + 1)
  tab_more {l} {x} {i} p h v e = rw (e ∙ sym (tab_at f n i 0 h)) (put_more p (omega (arith, length_tab f n)))

  pub tab_all : {l x : List ℕ} {i : ℕ} → Put (tab n f) l x i → n ≤ i → x ≡ tab n f ++ drop n l
  tab_all {l} p h = put_all p (omega (arith, length_tab f n)) ∙ ap (λ (k : ℕ). tab n f ++ drop k l) (length_tab f n)
