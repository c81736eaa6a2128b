-- 1 to 7 of a net: the table of specs/Refusals gives them exactly where the rules of specs/Rules do (`net_faulty`, `net_sound`).
-- So do the lines of a head, of a post's own ratio and of one segment (`head_first`, `head_rule`, `ratio_first`, `ratio_rule`, `segment_first`, `segment_rule`).
-- Rests on reading a table from the top (Tables).
use mathlib.Core.Path.{◌≡◌, refl, sym, ◌∙◌}
use mathlib.Core.Bool.{Bool, true, false, not, ◌||◌}
use mathlib.Core.Logic.{◌⊎◌, ◌↔◌}
use mathlib.Core.List.{List, ◌++◌}
use mathlib.Core.Option.{Option, none, some}
use Prim.Native.Nat.{ℕ, ◌≤◌, ◌<◌}
use native.Mathlib.Omega.{arith}
use lib.ListN.{length}
use lib.Dec.{eqb, ltb, leb}
use borrow.Author.Tests.{eqb-false, ne_eqb}
use Rattle.net.specs.Net.{Ratio, Net, most_posts, most_segments, longest, most_ratio, ratio_at, nth_segment}
use Rattle.net.specs.Refusals.{Line, first, wrong_ratio, head_lines, ratio_lines, own_lines, segment_lines, present_lines, all_segment_lines, net_lines}
use Rattle.net.specs.Rules.{PostsSound, HeadSound, RatioSound, EndsSound, SegmentSound, WrongRatio, HeadRule, one, two, three, four, RatioRule, three_of, SegmentRule, five, six, seven, RatiosSound, SoundTo, NetSound, Faulty}
use Rattle.net.specs.Rules as R
use Rattle.net.proofs.Words.{not_true}
use Rattle.net.proofs.Tables.{FirstOf, end, here, below, first_only, first_is, InEither, in_first, in_second, in_either, some_append, none_append, LowestOf, nowhere, lowest_at, lowest_of, none_each, some_each, Tells, pass, fail, at_least, above, same, is_zero, one_of_two, one_of_three}
use Rattle.net.specs.declared.Segment.{Segment}
use Rattle.net.specs.declared.Head.{Head}
use Rattle.net.specs.declared.Refusal.{Refusal}

-- THE TESTS OF THE TABLE, in its order
module _ (h : Head) where
  tells_1 : Tells ((h.posts ≡ 0) ⊎ (most_posts < h.posts)) ((1 ≤ h.posts) × (h.posts ≤ most_posts)) (eqb h.posts 0 || ltb most_posts h.posts)
  tells_1 = one_of_two (is_zero h.posts) (above most_posts h.posts)

  tells_2 : Tells (h.posts ≤ h.source) (h.source < h.posts) (leb h.posts h.source)
  tells_2 = at_least h.posts h.source

-- of the house ratio and of a post's own
tells_3 : (p q : ℕ) → Tells (WrongRatio p q) ((1 ≤ q) × (p ≤ most_ratio) × (q ≤ most_ratio)) (wrong_ratio p q)
tells_3 p q = one_of_three (is_zero q) (above most_ratio p) (above most_ratio q)

tells_4 : (m : ℕ) → Tells (most_segments < m) (m ≤ most_segments) (ltb most_segments m)
tells_4 m = above most_segments m

tells_5 : (posts : ℕ) (s : Segment) → Tells ((posts ≤ s.a) ⊎ (posts ≤ s.b)) ((s.a < posts) × (s.b < posts)) (leb posts s.a || leb posts s.b)
tells_5 posts s = one_of_two (at_least posts s.a) (at_least posts s.b)

tells_6 : (s : Segment) → Tells (s.a ≡ s.b) (s.a ≡ s.b → ⊥) (eqb s.a s.b)
tells_6 s = same s.a s.b

tells_7 : (s : Segment) → Tells ((s.length ≡ 0) ⊎ (longest < s.length)) ((1 ≤ s.length) × (s.length ≤ longest)) (eqb s.length 0 || ltb longest s.length)
tells_7 s = one_of_two (is_zero s.length) (above longest s.length)

-- WHICH LINE GIVES THE ANSWER, in the rules' words
module _ (h : Head) where
  posts_sound : (1 ≤ h.posts) × (h.posts ≤ most_posts) → PostsSound h
  posts_sound z = record { some_posts = z.0; few_posts = z.1 }

  posts_test : PostsSound h → (eqb h.posts 0 || ltb most_posts h.posts) ≡ false
  posts_test z = fail (tells_1 h) (z.some_posts, z.few_posts)

  ratio_test : HeadSound h → wrong_ratio h.p h.q ≡ false
  ratio_test z = fail (tells_3 h.p h.q) (z.some_q, z.small_p, z.small_q)

  sound_by : (eqb h.posts 0 || ltb most_posts h.posts) ≡ false → leb h.posts h.source ≡ false
      → wrong_ratio h.p h.q ≡ false → HeadSound h
  sound_by p q s =
      let y = (tells_3 h.p h.q).fails s in
      record { posts_sound = posts_sound ((tells_1 h).fails p); source_in = (tells_2 h).fails q; some_q = y.0; small_p = y.1; small_q = y.2 }

module _ (h : Head) (m : ℕ) where
  -- from the rules to the table
  pub head_first : {r : Option Refusal} → HeadRule h m r → FirstOf (head_lines h m) r
  unfolding head_lines
  head_first (one p) = here (pass (tells_1 h) p)
  head_first (two z p) = below (posts_test h z) (here (pass (tells_2 h) p))
  head_first (three z k p) = below (posts_test h z) (below (fail (tells_2 h) k) (here (pass (tells_3 h.p h.q) p)))
  head_first (four z p) = below (posts_test h z.posts_sound) (below (fail (tells_2 h) z.source_in) (below (ratio_test h z) (here (pass (tells_4 m) p))))
  head_first (R.HeadRule.nothing z k) =
      below (posts_test h z.posts_sound) (below (fail (tells_2 h) z.source_in) (below (ratio_test h z) (below (fail (tells_4 m) k) end)))

  -- and back
  pub head_rule : {r : Option Refusal} → FirstOf (head_lines h m) r → HeadRule h m r
  unfolding head_lines
  head_rule (here p) = one ((tells_1 h).passes p)
  head_rule (below p (here q)) = two (posts_sound h ((tells_1 h).fails p)) ((tells_2 h).passes q)
  head_rule (below p (below q (here s))) = three (posts_sound h ((tells_1 h).fails p)) ((tells_2 h).fails q) ((tells_3 h.p h.q).passes s)
  head_rule (below p (below q (below s (here t)))) = four (sound_by h p q s) ((tells_4 m).passes t)
  head_rule (below p (below q (below s (below t end)))) = R.HeadRule.nothing (sound_by h p q s) ((tells_4 m).fails t)

  pub head_sound : FirstOf (head_lines h m) none → HeadSound h × (m ≤ most_segments)
  head_sound f = go (head_rule f)
    where
      go : HeadRule h m none → HeadSound h × (m ≤ most_segments)
      go (R.HeadRule.nothing z k) = (z, k)

module _ (r : Ratio) (v : ℕ) where
  pub ratio_first : {o : Option Refusal} → RatioRule r v o → FirstOf (ratio_lines v r) o
  unfolding ratio_lines
  ratio_first (three_of p) = here (pass (tells_3 r.p r.q) p)
  ratio_first (R.RatioRule.nothing z) = below (fail (tells_3 r.p r.q) (z.some_q, z.small_p, z.small_q)) end

  pub ratio_rule : {o : Option Refusal} → FirstOf (ratio_lines v r) o → RatioRule r v o
  unfolding ratio_lines
  ratio_rule (here p) = three_of ((tells_3 r.p r.q).passes p)
  ratio_rule (below p end) = let y = (tells_3 r.p r.q).fails p in R.RatioRule.nothing (record { some_q = y.0; small_p = y.1; small_q = y.2 })

  pub ratio_sound : FirstOf (ratio_lines v r) none → RatioSound r
  ratio_sound f = go (ratio_rule f)
    where
      go : RatioRule r v none → RatioSound r
      go (R.RatioRule.nothing z) = z

module _ (posts : ℕ) (s : Segment) where
  ends_sound : (s.a < posts) × (s.b < posts) → EndsSound posts s
  ends_sound z = record { a_in = z.0; b_in = z.1 }

  ends_test : EndsSound posts s → (leb posts s.a || leb posts s.b) ≡ false
  ends_test z = fail (tells_5 posts s) (z.a_in, z.b_in)

module _ (posts : ℕ) (s : Segment) (i : ℕ) where
  pub segment_first : {r : Option Refusal} → SegmentRule posts s i r → FirstOf (segment_lines posts s i) r
  unfolding segment_lines
  segment_first (five p) = here (pass (tells_5 posts s) p)
  segment_first (six z p) = below (ends_test posts s z) (here (pass (tells_6 s) p))
  segment_first (seven z k p) = below (ends_test posts s z) (below (fail (tells_6 s) k) (here (pass (tells_7 s) p)))
  segment_first (R.SegmentRule.nothing z) =
      below (ends_test posts s z.ends_sound) (below (fail (tells_6 s) z.apart) (below (fail (tells_7 s) (z.some_length, z.not_too_long)) end))

  pub segment_rule : {r : Option Refusal} → FirstOf (segment_lines posts s i) r → SegmentRule posts s i r
  unfolding segment_lines
  segment_rule (here p) = five ((tells_5 posts s).passes p)
  segment_rule (below p (here q)) = six (ends_sound posts s ((tells_5 posts s).fails p)) ((tells_6 s).passes q)
  segment_rule (below p (below q (here t))) = seven (ends_sound posts s ((tells_5 posts s).fails p)) ((tells_6 s).fails q) ((tells_7 s).passes t)
  segment_rule (below p (below q (below t end))) =
      let y = (tells_7 s).fails t in
      R.SegmentRule.nothing (record { ends_sound = ends_sound posts s ((tells_5 posts s).fails p); apart = (tells_6 s).fails q; some_length = y.0; not_too_long = y.1 })

  pub segment_sound : FirstOf (segment_lines posts s i) none → SegmentSound posts s
  segment_sound f = go (segment_rule f)
    where
      go : SegmentRule posts s i none → SegmentSound posts s
      go (R.SegmentRule.nothing z) = z

-- THEIR NUMBERS are 1 to 7
pub head_range : {h : Head} {m : ℕ} {r : Refusal} → HeadRule h m (some r) → (1 ≤ r.number) × (r.number ≤ 7)
head_range (one p) = omega arith
head_range (two z p) = omega arith
head_range (three z k p) = omega arith
head_range (four z p) = omega arith

pub ratio_range : {x : Ratio} {v : ℕ} {r : Refusal} → RatioRule x v (some r) → (1 ≤ r.number) × (r.number ≤ 7)
ratio_range (three_of p) = omega arith

pub segment_range : {posts : ℕ} {s : Segment} {i : ℕ} {r : Refusal} → SegmentRule posts s i (some r) → (1 ≤ r.number) × (r.number ≤ 7)
segment_range (five p) = omega arith
segment_range (six e p) = omega arith
segment_range (seven e a p) = omega arith

-- what isn't there has no lines
module _ {ls : List Line} where
  present : (b : Bool) {r : Option Refusal} → b ≡ true → FirstOf ls r → FirstOf (present_lines b ls) r
  unfolding present_lines
  present b e f = rw e f

  present_none : (b : Bool) → (b ≡ true → FirstOf ls none) → FirstOf (present_lines b ls) none
  unfolding present_lines
  present_none true f = f refl
  present_none false f = end

  of_present : (b : Bool) {r : Refusal} → FirstOf (present_lines b ls) (some r) → (b ≡ true) × FirstOf ls (some r)
  unfolding present_lines
  of_present true f = (refl, f)
  of_present false {r = r} f = elim f [ ]

  none_present : (b : Bool) → FirstOf (present_lines b ls) none → b ≡ true → FirstOf ls none
  unfolding present_lines
  none_present b f e = rw e at f

-- 3 OF THE POSTS' OWN RATIOS
-- the lines of post v
abbrev own_at : Net → ℕ → List Line
own_at n v = present_lines (not (eqb v n.head.source)) (ratio_lines v (ratio_at n.own v))

module _ (n : Net) where
  not_source : (v : ℕ) → not (eqb v n.head.source) ≡ true → v ≡ n.head.source → ⊥
  not_source v e = eqb-false v n.head.source (not_true _ e)

  other_post : (v : ℕ) → (v ≡ n.head.source → ⊥) → not (eqb v n.head.source) ≡ true
  other_post v ne = rw (ne_eqb v n.head.source ne)

  ratios_to : (k : ℕ) → ((v : ℕ) → v < k → FirstOf (own_at n v) none) → RatiosSound n k
  ratios_to k g v l ne = ratio_sound (ratio_at n.own v) v (none_present (not (eqb v n.head.source)) (g v l) (other_post v ne))

  to_ratios : (k : ℕ) → RatiosSound n k → (v : ℕ) → v < k → FirstOf (own_at n v) none
  to_ratios k z v l = present_none (not (eqb v n.head.source)) (λ e. ratio_first (ratio_at n.own v) v (R.RatioRule.nothing (z v l (not_source v e))))

  own_sound : FirstOf (own_lines n.head n.own) none → RatiosSound n (length n.own)
  unfolding own_lines
  own_sound f = go (lowest_of (own_at n) (length n.own) f)
    where
      go : LowestOf (own_at n) (length n.own) none → RatiosSound n (length n.own)
      go (nowhere g) = ratios_to (length n.own) g

  own_none : RatiosSound n (length n.own) → FirstOf (own_lines n.head n.own) none
  unfolding own_lines
  own_none z = none_each (own_at n) (length n.own) (to_ratios (length n.own) z)

-- 1 TO 7
-- the lines of segment i
abbrev lines_at : (ℕ → Bool) → Net → ℕ → List Line
lines_at ok n i = present_lines (ok i) (segment_lines n.head.posts (nth_segment n.segments i) i)

-- the lines below the head's
abbrev rest_lines : (ℕ → Bool) → Net → List Line
rest_lines ok n = own_lines n.head n.own ++ all_segment_lines ok n.head.posts n.segments

module _ (ok : ℕ → Bool) (m : ℕ) (n : Net) where
  sound_to : (k : ℕ) → FirstOf (head_lines n.head m) none → RatiosSound n (length n.own) → ((j : ℕ) → j < k → FirstOf (lines_at ok n j) none) → SoundTo ok m n k
  sound_to k f o g =
      let z = head_sound n.head m f in
      record {
        head_sound = z.0;
        few_segments = z.1;
        ratios_sound = o;
        segments_sound = λ j l o. segment_sound n.head.posts (nth_segment n.segments j) j (none_present (ok j) (g j l) o);
      }

  to_sound : (k : ℕ) → SoundTo ok m n k → (j : ℕ) → j < k → FirstOf (lines_at ok n j) none
  to_sound k z j l = present_none (ok j) (λ o. segment_first n.head.posts (nth_segment n.segments j) j (R.SegmentRule.nothing (z.segments_sound j l o)))

  -- what the rules say of 1 to 7
  data NetRule : Option Refusal → Type 0 where
    faulty : {r : Refusal} → Faulty ok m n r → NetRule (some r)
    sound : NetSound ok m n → NetRule none

  own_rule : FirstOf (head_lines n.head m) none → {r : Refusal} → LowestOf (own_at n) (length n.own) (some r) → NetRule (some r)
  own_rule f (lowest_at v k g h) =
      let z = head_sound n.head m f in
      let y = of_present (not (eqb v n.head.source)) h in
      faulty (R.Faulty.three_of_post z.0 z.1 (ratios_to n v g) k (not_source n v y.0) (ratio_rule (ratio_at n.own v) v y.1))

  segments_rule : FirstOf (head_lines n.head m) none → RatiosSound n (length n.own) → {r : Option Refusal} → LowestOf (lines_at ok n) (length n.segments) r → NetRule r
  segments_rule f o (nowhere g) = sound (sound_to (length n.segments) f o g)
  segments_rule f o (lowest_at i k g h) =
      let z = of_present (ok i) h in
      faulty (R.Faulty.five_to_seven (sound_to i f o g) k z.0 (segment_rule n.head.posts (nth_segment n.segments i) i z.1))

  rest_rule : FirstOf (head_lines n.head m) none → {r : Option Refusal} → InEither (own_lines n.head n.own) (all_segment_lines ok n.head.posts n.segments) r → NetRule r
  unfolding own_lines all_segment_lines
  rest_rule f (in_first g) = own_rule f (lowest_of (own_at n) (length n.own) g)
  rest_rule f (in_second g h) = segments_rule f (own_sound n g) (lowest_of (lines_at ok n) (length n.segments) h)

  net_rule : {r : Option Refusal} → FirstOf (net_lines ok m n) r → NetRule r
  unfolding net_lines
  net_rule f = go (in_either (head_lines n.head m) (rest_lines ok n) f)
    where
      go : {r : Option Refusal} → InEither (head_lines n.head m) (rest_lines ok n) r → NetRule r
      go (in_first g) = faulty (R.Faulty.one_to_four (head_rule n.head m g))
      go (in_second g h) = rest_rule g (in_either (own_lines n.head n.own) (all_segment_lines ok n.head.posts n.segments) h)

  -- from the rules to the table
  in_head : {r : Refusal} → FirstOf (head_lines n.head m) (some r) → FirstOf (net_lines ok m n) (some r)
  unfolding net_lines
  in_head f = some_append (rest_lines ok n) f

  below_head : HeadSound n.head → m ≤ most_segments → {r : Option Refusal} → FirstOf (rest_lines ok n) r → FirstOf (net_lines ok m n) r
  unfolding net_lines
  below_head z k f = none_append (head_first n.head m (R.HeadRule.nothing z k)) f

  in_own : {v : ℕ} {r : Refusal} → RatiosSound n v → v < length n.own → (v ≡ n.head.source → ⊥) → FirstOf (ratio_lines v (ratio_at n.own v)) (some r) → FirstOf (rest_lines ok n) (some r)
  unfolding own_lines
  in_own {v} z k ne f =
      some_append (all_segment_lines ok n.head.posts n.segments)
      (some_each (own_at n) (length n.own) k (to_ratios n v z) (present (not (eqb v n.head.source)) (other_post n v ne) f))

  in_segment : {i : ℕ} {r : Refusal} → SoundTo ok m n i → i < length n.segments → ok i ≡ true
      → FirstOf (segment_lines n.head.posts (nth_segment n.segments i) i) (some r) → FirstOf (rest_lines ok n) (some r)
  unfolding all_segment_lines
  in_segment {i} z k o f =
      none_append (own_none n z.ratios_sound)
      (some_each (lines_at ok n) (length n.segments) k (to_sound i z) (present (ok i) o f))

  pub faulty_first : {r : Refusal} → Faulty ok m n r → FirstOf (net_lines ok m n) (some r)
  faulty_first (R.Faulty.one_to_four h) = in_head (head_first n.head m h)
  faulty_first (R.Faulty.three_of_post {v} z l y k ne h) = below_head z l (in_own y k ne (ratio_first (ratio_at n.own v) v h))
  faulty_first (R.Faulty.five_to_seven {i} z k o h) =
      below_head z.head_sound z.few_segments (in_segment z k o (segment_first n.head.posts (nth_segment n.segments i) i h))

  pub sound_first : NetSound ok m n → FirstOf (net_lines ok m n) none
  unfolding all_segment_lines
  sound_first z =
      below_head z.head_sound z.few_segments
      (none_append (own_none n z.ratios_sound) (none_each (lines_at ok n) (length n.segments) (to_sound (length n.segments) z)))

  -- the table gives r for the net alone exactly where the rules do
  pub net_faulty : {r : Refusal} → (first (net_lines ok m n) ≡ some r) ↔ Faulty ok m n r
  net_faulty = (λ e. by_rule (net_rule (first_is e)), λ f. sym (first_only (faulty_first f)))
    where
      by_rule : {r : Refusal} → NetRule (some r) → Faulty ok m n r
      by_rule (faulty f) = f

  -- and nothing exactly where none of 1 to 7 holds
  pub net_sound : (first (net_lines ok m n) ≡ none) ↔ NetSound ok m n
  net_sound = (λ e. by_rule (net_rule (first_is e)), λ z. sym (first_only (sound_first z)))
    where
      by_rule : NetRule none → NetSound ok m n
      by_rule (sound z) = z

  -- so never both
  pub sound_not_faulty : NetSound ok m n → {r : Refusal} → Faulty ok m n r → ⊥
  sound_not_faulty z {r} f =
      let e : none ≡ some r = sym (net_sound.1 z) ∙ net_faulty.1 f in
      let y : ◌≡◌ {A = ℕ} 0 1 = cc in omega arith

  -- and their numbers are 1 to 7
  pub faulty_range : {r : Refusal} → Faulty ok m n r → (1 ≤ r.number) × (r.number ≤ 7)
  faulty_range (R.Faulty.one_to_four h) = head_range h
  faulty_range (R.Faulty.three_of_post z l y k ne h) = ratio_range h
  faulty_range (R.Faulty.five_to_seven z k o h) = segment_range h
