-- The ratio of a post, of every net that is lent: whose it is, what is not read (`kept_alike`), and that nets whose ratios are written as others, (k × p)/(k × q), build equal trees
-- but have other records. Rests on net's Ratios and Own, and on Records for the last.
use mathlib.Core.Path.{◌≡◌, refl, sym, ap, ◌∙◌}
use mathlib.Core.Bool.{cond}
use mathlib.Core.List.{List}
use Prim.Native.Nat.{ℕ, ◌*◌, ◌≤◌, ◌<◌, min}
use native.Mathlib.Nat.{mul-le-mul_right}
use native.Mathlib.Decide.{dec_lt, ℕ_discrete}
use native.Mathlib.Omega.{arith}
use lib.Dec.{eqb}
use lib.ListN.{length, get_or-eq_default}
use lib.Seq.{ext_get_or}
use borrow.Author.Tests.{eq-eqb, ne_eqb}
use Rattle.net.specs.Words.{tab}
use Rattle.net.specs.Net.{Ratio, Net, house, no_ratio, ratio_at, ratios_of, own_of, scaled, every}
use Rattle.net.specs.Building.{build_of, after_build}
use Rattle.net.specs.declared.Form.{Form}
use Rattle.net.specs.declared.Form.TheVariants.{First, Second}
use Rattle.net.specs.declared.Head.{Head}
use Rattle.net.specs.declared.Segment.{Segment}
use Rattle.net.specs.declared.Tree.{Tree}
use Rattle.net.specs.declared.Tree.TheVariants.{Lightest, Shortest, Between}
use Rattle.net.proofs.Words.{length_tab, tab_at}
use Rattle.net.proofs.Own.{own_first, own_second, own_count, own_at, ratio_house, ratio_lent}
use Rattle.net.proofs.Ratios.{Scales, scales_self, scales_within, rated, build_scaled, after_scaled}
use Rattle.crossings.specs.Lists.{net_on}
use Rattle.building.specs.Answers.{answer_of, lent_of, Leaves}
use Rattle.promises.specs.Ratios.{RatiosAsStated, ScaledAsStated, ScaledBy, OwnScaledBy, SomeScaled}
use Rattle.promises.proofs.Records.{recorded, same_net}
use Rattle.building.specs.Answers.{Answer}

-- THE RATIO OF A POST, of a net that is lent
module _ (h : Head) (p q : List ℕ) (segments : List Segment) where
  abbrev kept : List Ratio → ℕ → Ratio
  kept l v = cond (eqb v h.source) no_ratio (ratio_at l v)

  -- what a net keeps of two lists of ratios that differ at the source's place only
  kept_alike : (l l₂ : List Ratio) → length l₂ ≡ length l → ((v : ℕ) → v < h.posts → (v ≡ h.source → ⊥) → ratio_at l₂ v ≡ ratio_at l v) → own_of h l ≡ own_of h l₂
  kept_alike l l₂ level same = go h.form refl
    where
      k : ℕ
      k = min h.posts (length l)

      at_post : (v : ℕ) → v < h.posts → kept l v ≡ kept l₂ v
      at_post v i = elim (ℕ_discrete v h.source) [
        | yes s ↦ rw (eq-eqb v h.source s)
        | no ne ↦ rw (ne_eqb v h.source ne) (sym (same v i ne))
      ]

      tables : tab k (kept l) ≡ tab k (kept l₂)
      tables =
          let n = length_tab (kept l) k in
          ext_get_or no_ratio (tab k (kept l)) (tab k (kept l₂)) (n ∙ sym (length_tab (kept l₂) k))
          (λ v i. tab_at (kept l) k v no_ratio (omega arith) ∙ at_post v (omega arith) ∙ sym (tab_at (kept l₂) k v no_ratio (omega arith)))

      go : (f : Form) → h.form ≡ f → own_of h l ≡ own_of h l₂
      go First e = own_first h l e ∙ sym (own_first h l₂ e)
      go Second e = own_second h l e ∙ tables ∙ ap (λ m. tab (min h.posts m) (kept l₂)) (sym level) ∙ sym (own_second h l₂ e)

  abbrev with_own : List Ratio → Net
  with_own own = record { head = h; own = own; segments = segments }

  pub ratios_as_stated : RatiosAsStated h p q segments
  ratios_as_stated =
      record {
        house_rules = ratio_house (net_on h p q segments);
        own_rules = λ e v i ne j k. ratio_lent h p q segments e v i j k ne;
        first_unread = λ e p₂ q₂. ap with_own (own_first h (ratios_of p q) e ∙ sym (own_first h (ratios_of p₂ q₂) e));
        source_unread = λ p₂ q₂ level same. ap with_own (kept_alike (ratios_of p q) (ratios_of p₂ q₂) level same);
      }

-- NOT REDUCED
scales : {k : ℕ} {r r₂ : Ratio} → ScaledBy k r r₂ → Scales r r₂
scales {k} {r} {r₂} z =
    record {
      k = k;
      once = z.once;
      p_is = z.p_is;
      q_is = z.q_is;
      wrong_both = rw (z.p_is, z.q_is) (scales_within k r.p r.q z.once (rw (← z.p_is) z.small_p) (rw (← z.q_is) z.small_q)).wrong_both;
    }

-- two nets that are lent, the second the first at other ratios
module _ (h h₂ : Head) (p q p₂ q₂ : List ℕ) (segments : List Segment) (r : Ratio) (is : net_on h₂ p₂ q₂ segments ≡ rated r (own_of h (ratios_of p₂ q₂)) (net_on h p q segments)) (of-house : Scales (house h) r)
    (as_many : length (ratios_of p₂ q₂) ≡ length (ratios_of p q)) (level : length (own_of h (ratios_of p₂ q₂)) ≡ length (own_of h (ratios_of p q)))
    (of-own : (v : ℕ) → Scales (ratio_at (own_of h (ratios_of p q)) v) (ratio_at (own_of h (ratios_of p₂ q₂)) v)) where
  abbrev own₂ : List Ratio
  own₂ = own_of h (ratios_of p₂ q₂)

  lists : (l s w : List ℕ) (t : Tree) (list : List ℕ) → after_build every (net_on h p q segments) (length segments) (length (ratios_of p q)) (lent_of l s w) t list
      ≡ after_build every (net_on h₂ p₂ q₂ segments) (length segments) (length (ratios_of p₂ q₂)) (lent_of l s w) t list
  lists l s w t list = rw (is, as_many) (sym (after_scaled every (net_on h p q segments) r own₂ of-house level of-own (length segments) (length (ratios_of p q)) (lent_of l s w) t list))

  says : (l s w : List ℕ) → build_of every (net_on h p q segments) (length segments) (length (ratios_of p q)) (lent_of l s w)
      ≡ build_of every (net_on h₂ p₂ q₂ segments) (length segments) (length (ratios_of p₂ q₂)) (lent_of l s w)
  says l s w = rw (is, as_many) (sym (build_scaled every (net_on h p q segments) r own₂ of-house level of-own (length segments) (length (ratios_of p q)) (lent_of l s w)))

  trees : (l s w : List ℕ) {a b : Answer} {l' l₂ s' s₂ w' w₂ : List ℕ} → Leaves (net_on h p q segments) (length segments) (length (ratios_of p q)) l s w a l' s' w'
      → Leaves (net_on h₂ p₂ q₂ segments) (length segments) (length (ratios_of p₂ q₂)) l s w b l₂ s₂ w₂ → (a ≡ b) × (l' ≡ l₂) × (s' ≡ s₂) × (w' ≡ w₂)
  trees l s w x y = (
    x.answer ∙ ap answer_of (says l s w) ∙ sym y.answer,
    x.lightest ∙ lists l s w Lightest l ∙ sym y.lightest,
    x.shortest ∙ lists l s w Shortest s ∙ sym y.shortest,
    x.between ∙ lists l s w Between w ∙ sym y.between,
  )

-- no number of at least one is twice itself, or more
not_times : (k x y : ℕ) → 2 ≤ k → 1 ≤ x → x ≡ y → y ≡ k * x → ⊥
not_times k x y two some e f = omega (arith, mul-le-mul_right x two)

-- the house ratio
module _ (h : Head) (k : ℕ) (p q : List ℕ) (segments : List Segment) (by : ScaledBy k (house h) (house (scaled k h))) where
  house_scaled : net_on (scaled k h) p q segments ≡ rated (house (scaled k h)) (own_of h (ratios_of p q)) (net_on h p q segments)
  unfolding own_of
  house_scaled = refl

  pub scaled_as_stated : ScaledAsStated h (scaled k h) p q p q segments (2 ≤ k)
  scaled_as_stated =
      record {
        equal_trees = trees h (scaled k h) p q p q segments (house (scaled k h)) house_scaled (scales by) refl refl (λ v. scales_self (ratio_at (own_of h (ratios_of p q)) v));
        different_records = λ two room room₂ x ex y ey e.
            let same = same_net h (scaled k h) p q p q segments segments room room₂ x ex y ey e in
            not_times k h.q (k * h.q) two (recorded (net_on h p q segments) (length (ratios_of p q)) room x ex).sound.head_sound.some_q (ap (λ m. m.head.q) same) refl;
      }

-- the posts' own
module _ (h : Head) (k : ℕ → ℕ) (p q p₂ q₂ : List ℕ) (segments : List Segment) (by : OwnScaledBy h k p q p₂ q₂) where
  abbrev l : List Ratio
  l = ratios_of p q

  abbrev l₂ : List Ratio
  l₂ = ratios_of p₂ q₂

  level : length (own_of h l₂) ≡ length (own_of h l)
  level = go h.form refl
    where
      go : (f : Form) → h.form ≡ f → length (own_of h l₂) ≡ length (own_of h l)
      go First e = ap length (own_first h l₂ e ∙ sym (own_first h l e))
      go Second e = own_count h l₂ e ∙ ap (min h.posts) by.as_many ∙ sym (own_count h l e)

  -- a place of what is kept that has no post's ratio
  none_at : (rs : List Ratio) (v : ℕ) → ((v < h.posts) × (v < length rs) × (v ≡ h.source → ⊥) → ⊥) → h.form ≡ Second → ratio_at (own_of h rs) v ≡ no_ratio
  none_at rs v other e = elim (dec_lt v (min h.posts (length rs))) [
    | yes i ↦ elim (ℕ_discrete v h.source) [
      | yes s ↦ ap (λ (o : List Ratio). ratio_at o v) (own_second h rs e) ∙ tab_at (kept h p q segments rs) (min h.posts (length rs)) v no_ratio i ∙ rw (eq-eqb v h.source s)
      | no ne ↦ absurd (other (omega arith, omega arith, ne))
    ]
    | no i ↦ get_or-eq_default (own_of h rs) no_ratio (omega (arith, own_count h rs e))
  ]

  second : h.form ≡ Second → (v : ℕ) → Scales (ratio_at (own_of h l) v) (ratio_at (own_of h l₂) v)
  second e v = elim (dec_lt v (min h.posts (length l))) [
    | yes i ↦ elim (ℕ_discrete v h.source) [
      | yes s ↦ rw (none_at l v (λ z. z.2 s) e, none_at l₂ v (λ z. z.2 s) e) (scales_self no_ratio)
      | no ne ↦ rw (own_at h l e v i ne, own_at h l₂ e v (omega (arith, by.as_many)) ne) (scales (by.each_post v (omega arith) ne (omega arith)))
    ]
    | no i ↦ rw (none_at l v (λ z. i (omega (arith, z.0, z.1))) e, none_at l₂ v (λ z. i (omega (arith, z.0, z.1, by.as_many))) e) (scales_self no_ratio)
  ]

  own_scales : (v : ℕ) → Scales (ratio_at (own_of h l) v) (ratio_at (own_of h l₂) v)
  own_scales v = go h.form refl
    where
      go : (f : Form) → h.form ≡ f → Scales (ratio_at (own_of h l) v) (ratio_at (own_of h l₂) v)
      go First e = rw (own_first h l e, own_first h l₂ e) (scales_self no_ratio)
      go Second e = second e v

  -- where a net keeps the same of both, a post has one ratio in both
  kept_one : h.form ≡ Second → own_of h l ≡ own_of h l₂ → (v : ℕ) → v < min h.posts (length l) → (v ≡ h.source → ⊥) → ratio_at l v ≡ ratio_at l₂ v
  kept_one e same v i ne = sym (own_at h l e v i ne) ∙ ap (λ (o : List Ratio). ratio_at o v) same ∙ own_at h l₂ e v (omega (arith, by.as_many)) ne

  pub own_scaled_as_stated : ScaledAsStated h h p q p₂ q₂ segments (SomeScaled h k)
  own_scaled_as_stated =
      record {
        equal_trees = trees h h p q p₂ q₂ segments (house h) refl (scales_self (house h)) by.as_many level own_scales;
        different_records = λ z room room₂ x ex y ey e.
            let v = z.post in
            let f = z.second in
            let same = same_net h h p q p₂ q₂ segments segments room room₂ x ex y ey e in
            let i = recorded (net_on h p q segments) (length l) room x ex in
            let a = z.is_post in
            let b = i.enough in
            let some : 1 ≤ (ratio_at l v).q = rw (own_at h l f v (omega arith) z.not_source) at (i.sound.ratios_sound v (omega (arith, own_count h l f)) z.not_source).some_q in
            let q-same = ap (λ o. o.q) (kept_one f (ap (λ m. m.own) same) v (omega arith) z.not_source) in
            not_times (k v) (ratio_at l v).q (ratio_at l₂ v).q z.twice some q-same (by.each_post v a z.not_source (omega arith)).q_is;
      }
