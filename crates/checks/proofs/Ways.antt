-- What each way out of the check of a whole net answers: of things in turn, the posts' own ratios and the segments, and of the head, then the ratios, then the segments.
-- Rests on what a check answers (net's Checks), on reading a table from the top (net's Tables) and on what a net keeps of the ratios that are lent (net's Own).
use mathlib.Core.Path.{◌≡◌, refl, sym, ap, ◌∙◌}
use mathlib.Core.Bool.{Bool, true, false, not, cond}
use mathlib.Core.List.{List, [], ◌++◌}
use mathlib.Core.Option.{Option, none}
use Prim.Native.Nat.{ℕ, ◌+◌, ◌≤◌, ◌<◌, min}
use native.Mathlib.Omega.{arith}
use native.Mathlib.Decide.{dec_lt}
use lib.Dec.{eqb, ltb}
use lib.ListN.{length, get_or}
use borrow.Author.Tests.{ltb-true, eqb-false, eq-eqb, ne_eqb}
use Rattle.net.specs.Words.{each}
use Rattle.net.specs.Net.{Ratio, ratio_at, own_of, ratios_of, nth_segment, every}
use Rattle.net.specs.Refusals.{Line, refusal, room_of_ratios, first, head_lines, ratio_lines, own_lines, segment_lines, present_lines, all_segment_lines, net_lines, checked_of, check_of}
use Rattle.net.specs.declared.Segment.{Segment}
use Rattle.net.specs.declared.Head.{Head}
use Rattle.net.specs.declared.Form.TheVariants.{First, Second}
use Rattle.net.specs.declared.Refusal.{Refusal}
use Rattle.net.specs.Refusals.{Checked}
use Rattle.std.specs.Prelude.{Ok, Err}
use Rattle.net.proofs.Tables.{FirstOf, first_of, first_only, some_append, none_append, none_each, some_each}
use Rattle.net.proofs.Words.{each_same}
use Rattle.net.proofs.Own.{ratio_fields, own_first, own_count, own_at}
use Rattle.net.proofs.Checks.{refused_by, sound_by, said_refused, said_sound}
use Rattle.net.specs.Rules.{PostsSound, HeadSound, RatioRule, three, three_of}
use Rattle.net.proofs.Faults.{head_first, ratio_rule, ratio_sound}
use Rattle.net.specs.Net.{house}
use mathlib.Core.Option.{some}

-- THE HEAD, by what the check of its ratio said
module _ (h : Head) (z : PostsSound h) (k : h.source < h.posts) {v : Checked} (e : v ≡ checked_of (first (ratio_lines 0 (house h)))) where
  pub house_refused : (m : ℕ) {r : Refusal} → v ≡ Err r → Err r ≡ checked_of (first (head_lines h m))
  house_refused m f = refused_by (go (ratio_rule (house h) 0 (said_refused e f)))
    where
      go : {r : Refusal} → RatioRule (house h) 0 (some r) → FirstOf (head_lines h m) (some r)
      go (three_of p) = head_first h m (three z k p)

  pub head_in : v ≡ Ok tt → HeadSound h
  head_in f =
      let y = ratio_sound (house h) 0 (said_sound e f) in
      record { posts_sound = z; source_in = k; some_q = y.some_q; small_p = y.small_p; small_q = y.small_q }

-- THINGS IN TURN, each with its lines: no line of one below i of m holds
pub record SoundBelow (lines : ℕ → List Line) (m i : ℕ) : Type 0 where
  pub so_far : i ≤ m
  pub no_line : (j : ℕ) → j < i → FirstOf (lines j) none

-- their tables as one
abbrev pub in_turn : (ℕ → List Line) → ℕ → List Line
in_turn lines m = each m (λ i ls. ls ++ lines i) []

module _ {lines : ℕ → List Line} {m : ℕ} where
  pub sound_none : SoundBelow lines m 0
  sound_none = record { so_far = omega arith; no_line = λ j k. absurd (omega arith) }

  pub sound_all : {i : ℕ} → SoundBelow lines m i → m ≤ i → Ok tt ≡ checked_of (first (in_turn lines m))
  sound_all z k = sound_by (none_each lines m (λ j l. z.no_line j (omega arith)))

  module _ {i : ℕ} (z : SoundBelow lines m i) (k : i < m) {v : Checked} (f : v ≡ checked_of (first (lines i))) where
    pub refused_at : {r : Refusal} → v ≡ Err r → Err r ≡ checked_of (first (in_turn lines m))
    refused_at g = refused_by (some_each lines m k z.no_line (said_refused f g))

    pub sound_more : v ≡ Ok tt → SoundBelow lines m (i + 1)
    sound_more g = record {
      so_far = omega arith;
      no_line = λ j l. elim (dec_lt j i) [
        | yes p ↦ z.no_line j p
        | no p ↦ let q : j ≡ i = omega arith in rw q (said_sound f g)
      ];
    }

-- THE SEGMENTS
abbrev pub segment_table : ℕ → List Segment → ℕ → List Line
segment_table posts segs i = segment_lines posts (nth_segment segs i) i

pub segments_in_turn : (posts : ℕ) (segs : List Segment) {v : Checked} → v ≡ checked_of (first (in_turn (segment_table posts segs) (length segs))) → v ≡ checked_of (first (all_segment_lines every posts segs))
unfolding all_segment_lines present_lines
segments_in_turn posts segs e = e

-- THE POSTS' OWN RATIOS: by the ratios that are lent
abbrev pub post_table : ℕ → List Ratio → ℕ → List Line
post_table source ratios v = present_lines (not (eqb v source)) (ratio_lines v (ratio_at ratios v))

-- at the source nothing is read
pub source_says : (v source : ℕ) (ratios : List Ratio) → v ≡ source → Ok tt ≡ checked_of (first (post_table source ratios v))
unfolding present_lines first
source_says v source ratios e = rw (eq-eqb v source e)

pub post_says : (v source : ℕ) (ps qs : List ℕ) → (v ≡ source → ⊥) → v < length ps → v < length qs → {w : Checked}
    → w ≡ checked_of (first (ratio_lines v (record { p = get_or ps v 0; q = get_or qs v 0 }))) → w ≡ checked_of (first (post_table source (ratios_of ps qs) v))
unfolding present_lines
post_says v source ps qs ne h k e = rw (ne_eqb v source ne, ← ratio_fields ps qs v h k) e

module _ (h : Head) (ratios : List Ratio) where
  abbrev count : ℕ
  count = min h.posts (length ratios)

  -- of the others what is lent is what is kept
  table_kept : h.form ≡ Second → (v : ℕ) → v < count → post_table h.source ratios v ≡ post_table h.source (own_of h ratios) v
  unfolding present_lines
  table_kept e v k = go (eqb v h.source) refl
    where
      go : (b : Bool) → eqb v h.source ≡ b → present_lines (not b) (ratio_lines v (ratio_at ratios v)) ≡ present_lines (not b) (ratio_lines v (ratio_at (own_of h ratios) v))
      go true f = refl
      go false f = ap (ratio_lines v) (sym (own_at h ratios e v k (eqb-false v h.source f)))

  pub own_in_turn : h.form ≡ Second → {v : Checked} → v ≡ checked_of (first (in_turn (post_table h.source ratios) count)) → v ≡ checked_of (first (own_lines h (own_of h ratios)))
  unfolding own_lines
  own_in_turn e f =
      let same = each_same {S = List Line} count (λ i ls. ls ++ post_table h.source ratios i) (λ i ls. ls ++ post_table h.source (own_of h ratios) i) [] (λ i k ls. ap (λ (t : List Line). ls ++ t) (table_kept e i k)) in
      f ∙ ap (λ (ls : List Line). checked_of (first ls)) (same ∙ ap (in_turn (post_table h.source (own_of h ratios))) (sym (own_count h ratios e)))

  -- in the first form no line
  pub own_unread : h.form ≡ First → Ok tt ≡ checked_of (first (own_lines h (own_of h ratios)))
  unfolding own_lines first
  own_unread e = rw (own_first h ratios e)

-- HEAD, THEN RATIOS, THEN SEGMENTS
module _ (h : Head) (ratios : List Ratio) (segs : List Segment) {count : ℕ} (k : count ≡ length segs) {v : Checked} (e : v ≡ checked_of (first (head_lines h count))) where
  head_says_law : {r : Option Refusal} → FirstOf (head_lines h count) r → FirstOf (head_lines h (length segs)) r
  head_says_law f = rw k at f

  pub head_refused : {r : Refusal} → v ≡ Err r → Err r ≡ check_of h ratios segs
  unfolding check_of net_lines
  head_refused g = refused_by (some_append _ (head_says_law (said_refused e g)))

  module _ (g : v ≡ Ok tt) {w : Checked} (f : w ≡ checked_of (first (own_lines h (own_of h ratios)))) where
    pub own_refused : {r : Refusal} → w ≡ Err r → Err r ≡ check_of h ratios segs
    unfolding check_of net_lines
    own_refused d = refused_by (none_append (head_says_law (said_sound e g)) (some_append _ (said_refused f d)))

    pub own_passed : w ≡ Ok tt → {x : Checked} → x ≡ checked_of (first (all_segment_lines every h.posts segs)) → x ≡ check_of h ratios segs
    unfolding check_of net_lines
    own_passed d i = i ∙ ap checked_of (first_only (none_append (head_says_law (said_sound e g)) (none_append (said_sound f d) (first_of (all_segment_lines every h.posts segs)))))

-- 8 OF THE RATIOS, by what `rated` says
pub unrated : (posts k : ℕ) {v : Checked} {e : Refusal} → v ≡ checked_of (first (room_of_ratios posts k)) → v ≡ Err e → (k < posts) × (e ≡ refusal 8 0)
unfolding room_of_ratios first
unrated posts k {v} {e} f g = go (ltb k posts) refl (sym f ∙ g)
  where
    go : (t : Bool) → ltb k posts ≡ t → checked_of (cond t (some (refusal 8 0)) none) ≡ Err e → (k < posts) × (e ≡ refusal 8 0)
    go true p h = (ltb-true k posts p, cc)
    go false p h = absurd (let z : ◌≡◌ {A = ℕ} 0 1 = cc in omega arith)
