-- Labels say parts: two posts share a part exactly where a chain of the segments passed so far joins them (`Parts`). No label's value matters.
-- Kept by a segment whose ends share a part (`parts_within`) and by a segment whose parts are joined (`parts_joined`). Rests on `net`'s laws of chains.
use mathlib.Core.Path.{◌≡◌, refl, sym, ap, ◌∙◌}
use mathlib.Core.Bool.{Bool, true, false, ◌&&◌, ◌||◌}
use mathlib.Core.List.{List}
use mathlib.Core.Logic.{◌⊎◌, inl, inr}
use Prim.Native.Nat.{ℕ, ◌<◌}
use native.Mathlib.Omega.{arith}
use lib.ListN.{length, get_or}
use lib.Dec.{eqb}
use borrow.Author.Tests.{eqb-true, eq-eqb}
use Rattle.net.specs.Net.{nth_segment, Leads, Route, here, by, Chain}
use Rattle.net.specs.declared.Segment.{Segment}
use Rattle.net.proofs.Words.{and_i, and_left, and_right, or_left, or_right, or_cases, clash}
use Rattle.net.proofs.Routes.{stay, join, along, replaced, back, ends_lead, either, Through, avoids, meets, widen, through}
use Rattle.lightest.specs.Parts.{share, Apart, shares_after, JoinedParts}
use Rattle.net.proofs.Routes.{leads_ends}

-- the labels of n posts say the parts into which the segments of S join them
pub record Parts (segs : List Segment) (S : ℕ → Bool) (n : ℕ) (labels : List ℕ) : Type 0 where
  pub one_each : length labels ≡ n
  pub share_chain : (x y : ℕ) → x < n → y < n → share labels x y ≡ true → Chain segs S x y
  pub chain_share : (x y : ℕ) → x < n → y < n → Chain segs S x y → share labels x y ≡ true

-- the segments of S, and e
abbrev pub plus : (ℕ → Bool) → ℕ → ℕ → Bool
plus S e j = S j || eqb j e

module _ (segs : List Segment) where
  -- before any segment is passed
  nowhere : {u v : ℕ} {is : List ℕ} → Route segs (λ j. false) u is v → u ≡ v
  nowhere here = refl
  nowhere (by l o r) = absurd (clash o refl)

  -- each post is a part of its own
  pub parts_none : (labels : List ℕ) → Apart labels → Parts segs (λ j. false) (length labels) labels
  parts_none labels f =
      record {
        one_each = refl;
        share_chain = λ x y hx hy e. rw (f x y hx hy e) (stay segs);
        chain_share = λ x y hx hy c. eq-eqb (get_or labels x 0) (get_or labels y 0) (ap (λ z. get_or labels z 0) (nowhere c.route));
      }

  -- only the set counts, and not how it is computed
  pub parts_same : {S R : ℕ → Bool} {n : ℕ} {labels : List ℕ} → ((j : ℕ) → j < length segs → S j ≡ R j) → Parts segs S n labels → Parts segs R n labels
  parts_same f p =
      record {
        one_each = p.one_each;
        share_chain = λ x y hx hy e. widen segs (λ j h o. sym (f j h) ∙ o) (p.share_chain x y hx hy e);
        chain_share = λ x y hx hy c. p.chain_share x y hx hy (widen segs (λ j h o. f j h ∙ o) c);
      }

  -- ONE SEGMENT MORE, e with its ends among the posts
  module _ {S : ℕ → Bool} {n : ℕ} {labels : List ℕ} (p : Parts segs S n labels) (e : ℕ) (is_segment : e < length segs)
      (ha : (nth_segment segs e).a < n) (hb : (nth_segment segs e).b < n) where
    -- its ends
    abbrev a : ℕ
    a = (nth_segment segs e).a

    abbrev b : ℕ
    b = (nth_segment segs e).b

    -- chains of S are chains
    more : {u v : ℕ} → Chain segs S u v → Chain segs (plus S e) u v
    more c = widen segs (λ j h o. or_left (S j) (eqb j e) o) c

    -- and e joins its ends
    by_e : Chain segs (plus S e) a b
    by_e = along segs (ends_lead segs e is_segment) (or_right (S e) (eqb e e) (eq-eqb e e refl))

    -- its ends share a part: nothing changes
    pub parts_within : share labels a b ≡ true → Parts segs (plus S e) n labels
    parts_within q =
        record {
          one_each = p.one_each;
          share_chain = λ x y hx hy s. more (p.share_chain x y hx hy s);
          chain_share = λ x y hx hy c. p.chain_share x y hx hy (replaced segs without c);
        }
      where
        without : (i u v : ℕ) → Leads segs i u v → plus S e i ≡ true → Chain segs S u v
        without i u v l o = elim (or_cases (S i) (eqb i e) o) [
          | inl s ↦ along segs l s
          | inr s ↦ either segs (ends_lead segs e is_segment) (p.share_chain a b ha hb q) (rw (eqb-true i e s) at l)
        ]

    -- the parts of its ends are one now
    module _ {new : List ℕ} (j : JoinedParts labels a b new) where
      only_e : (i k : ℕ) → i < length segs → k < length segs → plus S e i ≡ true → S i ≡ false → plus S e k ≡ true → S k ≡ false → i ≡ k
      only_e i k hi hk pi si pk sk = is_e i pi si ∙ sym (is_e k pk sk)
        where
          is_e : (i : ℕ) → plus S e i ≡ true → S i ≡ false → i ≡ e
          is_e i o f = elim (or_cases (S i) (eqb i e) o) [ inl s ↦ absurd (clash s f) | inr s ↦ eqb-true i e s ]

      shares_chain : (x y : ℕ) → x < n → y < n → shares_after labels a b x y ≡ true → Chain segs (plus S e) x y
      shares_chain x y hx hy s = elim (or_cases (share labels x y) ((share labels x a && share labels y b) || (share labels x b && share labels y a)) s) [
        | inl q ↦ more (p.share_chain x y hx hy q)
        | inr q ↦ elim (or_cases (share labels x a && share labels y b) (share labels x b && share labels y a) q) [
          | inl r ↦
              join segs (more (p.share_chain x a hx ha (and_left (share labels x a) (share labels y b) r)))
              (join segs by_e (back segs (more (p.share_chain y b hy hb (and_right (share labels x a) (share labels y b) r)))))
          | inr r ↦
              join segs (more (p.share_chain x b hx hb (and_left (share labels x b) (share labels y a) r)))
              (join segs (back segs by_e) (back segs (more (p.share_chain y a hy ha (and_right (share labels x b) (share labels y a) r)))))
        ]
      ]

      crossed : (x y u v : ℕ) → x < n → y < n → Chain segs S x u → Chain segs S v y → ((u ≡ a) × (v ≡ b)) ⊎ ((u ≡ b) × (v ≡ a)) → shares_after labels a b x y ≡ true
      crossed x y u v hx hy c d (inl q) =
          or_right (share labels x y) _
          (or_left (share labels x a && share labels y b) _
          (and_i (p.chain_share x a hx ha (rw q.0 at c)) (p.chain_share y b hy hb (back segs (rw q.1 at d)))))
      crossed x y u v hx hy c d (inr q) =
          or_right (share labels x y) _
          (or_right (share labels x a && share labels y b) _
          (and_i (p.chain_share x b hx hb (rw q.0 at c)) (p.chain_share y a hy ha (back segs (rw q.1 at d)))))

      chain_shares : (x y : ℕ) → x < n → y < n → Through segs S (plus S e) x y → shares_after labels a b x y ≡ true
      chain_shares x y hx hy (avoids c) = or_left (share labels x y) _ (p.chain_share x y hx hy c)
      chain_shares x y hx hy (meets {m = m} {x = u} {y = v} o f c l d) =
          let q : m ≡ e = elim (or_cases (S m) (eqb m e) o) [ inl s ↦ absurd (clash s f) | inr s ↦ eqb-true m e s ] in
          crossed x y u v hx hy c d (leads_ends segs (rw q at l))

      pub parts_joined : Parts segs (plus S e) n new
      parts_joined =
          let size = p.one_each in
          record {
            one_each = j.one_each ∙ p.one_each;
            share_chain = λ x y hx hy s. shares_chain x y hx hy (sym (j.shares x y (omega arith) (omega arith)) ∙ s);
            chain_share = λ x y hx hy c. j.shares x y (omega arith) (omega arith) ∙ chain_shares x y hx hy (through segs S (plus S e) only_e c);
          }
