-- DEMAND 1 for nets: every net has an answer by the rules of specs/Rules, it has no other, and the table of specs/Refusals gives it: `build_answers` and
-- `build_only`, `margin_answers` and `margin_only`. 9 is said over routes: `nine_exactly`, `not_joined_exactly`. What is accepted: `accepted`, `margin_accepted`.
-- Rests on 1 to 7 (Faults), on reading a table from the top (Tables), and on the bridge from `joined` to chains (Least).
use mathlib.Core.Path.{◌≡◌, refl, sym, ◌∙◌, subst}
use mathlib.Core.Bool.{Bool, not, ◌||◌}
use mathlib.Core.Logic.{◌⊎◌, inl, inr, ◌↔◌}
use mathlib.Core.List.{List, [], ◌∷◌, ◌++◌}
use mathlib.Core.Option.{Option, none, some}
use Prim.Native.Nat.{ℕ, ◌≤◌, ◌<◌}
use native.Mathlib.Omega.{arith}
use lib.Dec.{ltb, leb}
use Rattle.net.specs.Net.{Net}
use Rattle.net.specs.Refusals.{refusal, Line, line, net_lines, Lent, lent_lines, room_of_ratios, joined_lines, post_lines}
use Rattle.net.specs.Rules.{NetSound, Joined, LowestApart, AllJoined, TooShort, LongEnough, BuildRule, MarginRule}
use Rattle.net.specs.Rules as R
use Rattle.net.specs.Building.{joined_to_source, build_refusal, margin_refusal}
use Rattle.net.proofs.Words.{not_true, not_false}
use Rattle.net.proofs.Least.{Inside, joined_chain, not_joined}
use Rattle.net.proofs.Tables.{FirstOf, end, here, below, first_of, first_only, only_line, InEither, in_first, in_second, in_either, some_append, none_append, LowestOf, nowhere, lowest_at, lowest_of, none_each, some_each, Tells, pass, fail, at_least, above, one_of_three}
use Rattle.net.proofs.Faults.{faulty_first, sound_first, net_faulty, net_sound, sound_not_faulty, faulty_range}
use Rattle.net.specs.declared.Refusal.{Refusal}

-- 8, 9 AND 19
module _ (ok : ℕ → Bool) (m : ℕ) (n : Net) where
  tells_8 : (lent : Lent) → Tells (TooShort n lent) ((n.head.posts ≤ lent.lightest) × (n.head.posts ≤ lent.shortest) × (n.head.posts ≤ lent.between))
      (ltb lent.lightest n.head.posts || ltb lent.shortest n.head.posts || ltb lent.between n.head.posts)
  tells_8 lent = one_of_three (above lent.lightest n.head.posts) (above lent.shortest n.head.posts) (above lent.between n.head.posts)

  long_not_short : {lent : Lent} → LongEnough n lent → TooShort n lent → ⊥
  long_not_short {lent} y p = (tells_8 lent).not_both p (y.lightest_long, y.shortest_long, y.between_long)

  -- what the rules say of 8
  data LentRule (lent : Lent) : Option Refusal → Type 0 where
    too_short : TooShort n lent → LentRule lent (some (refusal 8 0))
    long_enough : LongEnough n lent → LentRule lent none

  lent_rule : {lent : Lent} {r : Option Refusal} → FirstOf (lent_lines n.head.posts lent) r → LentRule lent r
  unfolding lent_lines
  lent_rule {lent} (here p) = too_short ((tells_8 lent).passes p)
  lent_rule {lent} (below p end) = let z = (tells_8 lent).fails p in long_enough (record { lightest_long = z.0; shortest_long = z.1; between_long = z.2 })

  lent_first : {lent : Lent} {r : Option Refusal} → LentRule lent r → FirstOf (lent_lines n.head.posts lent) r
  unfolding lent_lines
  lent_first {lent} (too_short p) = here (pass (tells_8 lent) p)
  lent_first {lent} (long_enough z) = below (fail (tells_8 lent) (z.lightest_long, z.shortest_long, z.between_long)) end

  -- what the rules say of 8 for k ratios
  data RoomRule (k : ℕ) : Option Refusal → Type 0 where
    too_few : k < n.head.posts → RoomRule k (some (refusal 8 0))
    enough : n.head.posts ≤ k → RoomRule k none

  room_rule : {k : ℕ} {r : Option Refusal} → FirstOf (room_of_ratios n.head.posts k) r → RoomRule k r
  unfolding room_of_ratios
  room_rule {k} (here p) = too_few ((above k n.head.posts).passes p)
  room_rule {k} (below p end) = enough ((above k n.head.posts).fails p)

  room_first : {k : ℕ} {r : Option Refusal} → RoomRule k r → FirstOf (room_of_ratios n.head.posts k) r
  unfolding room_of_ratios
  room_first {k} (too_few p) = here (pass (above k n.head.posts) p)
  room_first {k} (enough p) = below (fail (above k n.head.posts) p) end

  -- the line of post v
  abbrev line_of : ℕ → List Line
  line_of v = line 9 (not (joined_to_source ok n v)) v ∷ []

  -- what the rules say of 9
  data JoinedRule : Option Refusal → Type 0 where
    apart : {v : ℕ} → LowestApart ok n v → JoinedRule (some (refusal 9 v))
    all_joined : AllJoined ok n → JoinedRule none

  module _ (z : NetSound ok m n) where
    ends_inside : Inside n.segments ok n.head.posts
    ends_inside = record { a_in = λ i k o. (z.segments_sound i k o).ends_sound.a_in; b_in = λ i k o. (z.segments_sound i k o).ends_sound.b_in }

    -- the test of 9 tells whether there is a route
    tells_9 : (v : ℕ) → Tells (Joined ok n v → ⊥) (Joined ok n v) (not (joined_to_source ok n v))
    unfolding joined_to_source
    tells_9 v =
        record {
          passes = λ e. not_joined n.segments ok n.head.posts ends_inside n.head.source v z.head_sound.source_in (omega (arith, z.head_sound.posts_sound.few_posts)) (not_true _ e);
          fails = λ e. joined_chain n.segments ok n.head.posts ends_inside n.head.source v (not_false _ e);
          not_both = λ p q. p q;
        }

    line_joined : {v : ℕ} → FirstOf (line_of v) none → Joined ok n v
    line_joined {v} (below e end) = (tells_9 v).fails e

    joined_line : {v : ℕ} → Joined ok n v → FirstOf (line_of v) none
    joined_line {v} j = below (fail (tells_9 v) j) end

    joined_rule : {r : Option Refusal} → FirstOf (joined_lines n.head.posts (joined_to_source ok n)) r → JoinedRule r
    unfolding joined_lines
    joined_rule f = go (lowest_of line_of n.head.posts f)
      where
        go : {r : Option Refusal} → LowestOf line_of n.head.posts r → JoinedRule r
        go (nowhere g) = all_joined (λ v k. line_joined (g v k))
        go (lowest_at v {r = r} k g e) =
            let o = only_line e in
            subst (λ (x : Refusal). JoinedRule (some x)) o.1 (apart (record { is_post = k; not_joined = (tells_9 v).passes o.0; lower_joined = λ u l. line_joined (g u l) }))

    joined_first : {r : Option Refusal} → JoinedRule r → FirstOf (joined_lines n.head.posts (joined_to_source ok n)) r
    unfolding joined_lines
    joined_first (all_joined f) = none_each line_of n.head.posts (λ v k. joined_line (f v k))
    joined_first (apart {v} y) = some_each line_of n.head.posts y.is_post (λ u l. joined_line (y.lower_joined u l)) (here (pass (tells_9 v) y.not_joined))

-- BUILDING, with k ratios lent
module _ (ok : ℕ → Bool) (m : ℕ) (n : Net) (k : ℕ) (lent : Lent) where
  abbrev apart_lines : List Line
  apart_lines = joined_lines n.head.posts (joined_to_source ok n)

  abbrev lent_at : List Line
  lent_at = lent_lines n.head.posts lent

  abbrev room_at : List Line
  room_at = room_of_ratios n.head.posts k

  -- the whole table of building
  abbrev build_lines : List Line
  build_lines = net_lines ok m n ++ (lent_at ++ (room_at ++ apart_lines))

  -- from the table to the rules
  build_lent : NetSound ok m n → {r : Refusal} → LentRule ok m n lent (some r) → BuildRule ok m n k lent (some r)
  build_lent z (too_short p) = R.BuildRule.eight z (inl p)

  build_few : NetSound ok m n → {r : Refusal} → RoomRule ok m n k (some r) → BuildRule ok m n k lent (some r)
  build_few z (too_few p) = R.BuildRule.eight z (inr p)

  build_joined : NetSound ok m n → {r : Option Refusal} → LentRule ok m n lent none → RoomRule ok m n k none → JoinedRule ok m n r → BuildRule ok m n k lent r
  build_joined z (long_enough y) (enough h) (apart x) = R.BuildRule.nine z y h x
  build_joined z (long_enough y) (enough h) (all_joined f) = R.BuildRule.nothing z y h f

  build_room : NetSound ok m n → FirstOf lent_at none → {r : Option Refusal} → InEither room_at apart_lines r → BuildRule ok m n k lent r
  build_room z e (in_first f) = build_few z (room_rule ok m n f)
  build_room z e (in_second f g) = build_joined z (lent_rule ok m n e) (room_rule ok m n f) (joined_rule ok m n z g)

  build_rest : NetSound ok m n → {r : Option Refusal} → InEither lent_at (room_at ++ apart_lines) r → BuildRule ok m n k lent r
  build_rest z (in_first f) = build_lent z (lent_rule ok m n f)
  build_rest z (in_second f g) = build_room z f (in_either room_at apart_lines g)

  build_net : {r : Option Refusal} → InEither (net_lines ok m n) (lent_at ++ (room_at ++ apart_lines)) r → BuildRule ok m n k lent r
  build_net (in_first f) = R.BuildRule.one_to_seven ((net_faulty ok m n).0 (sym (first_only f)))
  build_net (in_second f g) = build_rest ((net_sound ok m n).0 (sym (first_only f))) (in_either lent_at (room_at ++ apart_lines) g)

  -- from the rules to the table
  eight_first : TooShort n lent ⊎ (k < n.head.posts) → FirstOf (lent_at ++ (room_at ++ apart_lines)) (some (refusal 8 0))
  eight_first (inl p) = some_append _ (lent_first ok m n (too_short p))
  eight_first (inr p) = short_or_few (lent_rule ok m n (first_of lent_at)) (first_of lent_at)
    where
      few : FirstOf (room_at ++ apart_lines) (some (refusal 8 0))
      few = some_append apart_lines (room_first ok m n (too_few p))

      short_or_few : {r : Option Refusal} → LentRule ok m n lent r → FirstOf lent_at r → FirstOf (lent_at ++ (room_at ++ apart_lines)) (some (refusal 8 0))
      short_or_few (too_short q) f = some_append (room_at ++ apart_lines) f
      short_or_few (long_enough y) f = none_append f few

  below_eight : LongEnough n lent → n.head.posts ≤ k → {r : Option Refusal} → FirstOf apart_lines r → FirstOf (lent_at ++ (room_at ++ apart_lines)) r
  below_eight y h f = none_append (lent_first ok m n (long_enough y)) (none_append (room_first ok m n (enough h)) f)

  build_first : {r : Option Refusal} → BuildRule ok m n k lent r → FirstOf build_lines r
  build_first (R.BuildRule.one_to_seven f) = some_append _ (faulty_first ok m n f)
  build_first (R.BuildRule.eight z p) = none_append (sound_first ok m n z) (eight_first p)
  build_first (R.BuildRule.nine z y h x) = none_append (sound_first ok m n z) (below_eight y h (joined_first ok m n z (apart x)))
  build_first (R.BuildRule.nothing z y h f) = none_append (sound_first ok m n z) (below_eight y h (joined_first ok m n z (all_joined f)))

  -- every net has an answer by the rules, namely the table's
  pub build_answers : BuildRule ok m n k lent (build_refusal ok n m k lent)
  unfolding build_refusal
  build_answers = build_net (in_either (net_lines ok m n) _ (first_of build_lines))

  -- it has no other
  pub build_only : {r : Option Refusal} → BuildRule ok m n k lent r → r ≡ build_refusal ok n m k lent
  unfolding build_refusal
  build_only b = first_only (build_first b)

  -- two answers by the rules are equal
  pub build_rule_one : {r r' : Option Refusal} → BuildRule ok m n k lent r → BuildRule ok m n k lent r' → r ≡ r'
  build_rule_one b c = build_only b ∙ sym (build_only c)

  -- building accepts exactly the nets of which nothing in the table holds
  pub accepted : (build_refusal ok n m k lent ≡ none) ↔ (NetSound ok m n × LongEnough n lent × (n.head.posts ≤ k) × AllJoined ok n)
  accepted = (λ e. by_rule (rw e at build_answers), λ y. sym (build_only (R.BuildRule.nothing y.0 y.1 y.2 y.3)))
    where
      by_rule : BuildRule ok m n k lent none → NetSound ok m n × LongEnough n lent × (n.head.posts ≤ k) × AllJoined ok n
      by_rule (R.BuildRule.nothing z y h f) = (z, y, h, f)

  -- 9 with post v is given exactly when nothing before it holds, that post has no route to the source and every lower one has
  pub nine_exactly : (v : ℕ) → (build_refusal ok n m k lent ≡ some (refusal 9 v)) ↔ (NetSound ok m n × LongEnough n lent × (n.head.posts ≤ k) × LowestApart ok n v)
  nine_exactly v = (λ e. by_rule (rw e at build_answers), λ y. sym (build_only (R.BuildRule.nine y.0 y.1 y.2 y.3)))
    where
      by_rule : BuildRule ok m n k lent (some (refusal 9 v)) → NetSound ok m n × LongEnough n lent × (n.head.posts ≤ k) × LowestApart ok n v
      by_rule (R.BuildRule.one_to_seven f) = let l = faulty_range ok m n f in absurd (omega arith)
      by_rule (R.BuildRule.nine z y h x) = (z, y, h, x)

  -- once nothing before it holds, 9 is given exactly when some post has no route to the source
  pub not_joined_exactly : NetSound ok m n → LongEnough n lent → n.head.posts ≤ k
      → ((v : ℕ) × (build_refusal ok n m k lent ≡ some (refusal 9 v))) ↔ ((v : ℕ) × (v < n.head.posts) × (Joined ok n v → ⊥))
  not_joined_exactly z y l = (λ g. let x = ((nine_exactly g.0).0 g.1).3 in (g.0, x.is_post, x.not_joined), λ g. by_rule g.0 g.1 g.2 build_answers)
    where
      by_rule : (v : ℕ) → v < n.head.posts → (Joined ok n v → ⊥) → BuildRule ok m n k lent (build_refusal ok n m k lent) → (u : ℕ) × (build_refusal ok n m k lent ≡ some (refusal 9 u))
      by_rule v i f b = go b refl
        where
          go : {r : Option Refusal} → BuildRule ok m n k lent r → build_refusal ok n m k lent ≡ r → (u : ℕ) × (build_refusal ok n m k lent ≡ some (refusal 9 u))
          go (R.BuildRule.one_to_seven g) e = absurd (sound_not_faulty ok m n z g)
          go (R.BuildRule.eight x (inl p)) e = absurd (long_not_short ok m n y p)
          go (R.BuildRule.eight x (inr p)) e = absurd (omega arith)
          go (R.BuildRule.nine {v = u} x w o h) e = (u, e)
          go (R.BuildRule.nothing x w o h) e = absurd (f (h v i))

-- MARGIN, with k ratios lent
module _ (ok : ℕ → Bool) (m : ℕ) (n : Net) (k post : ℕ) where
  abbrev apart_of : List Line
  apart_of = joined_lines n.head.posts (joined_to_source ok n)

  abbrev post_at : List Line
  post_at = post_lines n.head.posts post

  abbrev room_for : List Line
  room_for = room_of_ratios n.head.posts k

  tells_19 : Tells (n.head.posts ≤ post) (post < n.head.posts) (leb n.head.posts post)
  tells_19 = at_least n.head.posts post

  -- the whole table of margin
  abbrev margin_lines : List Line
  margin_lines = net_lines ok m n ++ (room_for ++ (apart_of ++ post_at))

  -- from the table to the rules
  margin_few : NetSound ok m n → {r : Refusal} → RoomRule ok m n k (some r) → MarginRule ok m n k post (some r)
  margin_few z (too_few p) = R.MarginRule.eight z p

  margin_apart : NetSound ok m n → {r : Refusal} → RoomRule ok m n k none → JoinedRule ok m n (some r) → MarginRule ok m n k post (some r)
  margin_apart z (enough h) (apart x) = R.MarginRule.nine z h x

  margin_post : NetSound ok m n → {r : Option Refusal} → RoomRule ok m n k none → JoinedRule ok m n none → FirstOf post_at r → MarginRule ok m n k post r
  unfolding post_lines
  margin_post z (enough h) (all_joined f) (here p) = R.MarginRule.nineteen z h f (tells_19.passes p)
  margin_post z (enough h) (all_joined f) (below p end) = R.MarginRule.nothing z h f (tells_19.fails p)

  margin_joined : NetSound ok m n → FirstOf room_for none → {r : Option Refusal} → InEither apart_of post_at r → MarginRule ok m n k post r
  margin_joined z e (in_first f) = margin_apart z (room_rule ok m n e) (joined_rule ok m n z f)
  margin_joined z e (in_second f g) = margin_post z (room_rule ok m n e) (joined_rule ok m n z f) g

  margin_rest : NetSound ok m n → {r : Option Refusal} → InEither room_for (apart_of ++ post_at) r → MarginRule ok m n k post r
  margin_rest z (in_first f) = margin_few z (room_rule ok m n f)
  margin_rest z (in_second f g) = margin_joined z f (in_either apart_of post_at g)

  margin_net : {r : Option Refusal} → InEither (net_lines ok m n) (room_for ++ (apart_of ++ post_at)) r → MarginRule ok m n k post r
  margin_net (in_first f) = R.MarginRule.one_to_seven ((net_faulty ok m n).0 (sym (first_only f)))
  margin_net (in_second f g) = margin_rest ((net_sound ok m n).0 (sym (first_only f))) (in_either room_for (apart_of ++ post_at) g)

  -- from the rules to the table
  below_room : NetSound ok m n → n.head.posts ≤ k → {r : Option Refusal} → FirstOf (apart_of ++ post_at) r → FirstOf margin_lines r
  below_room z h f = none_append (sound_first ok m n z) (none_append (room_first ok m n (enough h)) f)

  margin_first : {r : Option Refusal} → MarginRule ok m n k post r → FirstOf margin_lines r
  unfolding post_lines
  margin_first (R.MarginRule.one_to_seven f) = some_append _ (faulty_first ok m n f)
  margin_first (R.MarginRule.eight z p) = none_append (sound_first ok m n z) (some_append _ (room_first ok m n (too_few p)))
  margin_first (R.MarginRule.nine z h x) = below_room z h (some_append _ (joined_first ok m n z (apart x)))
  margin_first (R.MarginRule.nineteen z h f p) = below_room z h (none_append (joined_first ok m n z (all_joined f)) (here (pass tells_19 p)))
  margin_first (R.MarginRule.nothing z h f p) = below_room z h (none_append (joined_first ok m n z (all_joined f)) (below (fail tells_19 p) end))

  -- every net has an answer by the rules of margin, namely the table's
  pub margin_answers : MarginRule ok m n k post (margin_refusal ok n m k post)
  unfolding margin_refusal
  margin_answers = margin_net (in_either (net_lines ok m n) _ (first_of margin_lines))

  -- it has no other
  pub margin_only : {r : Option Refusal} → MarginRule ok m n k post r → r ≡ margin_refusal ok n m k post
  unfolding margin_refusal
  margin_only b = first_only (margin_first b)

  -- two answers by the rules are equal
  pub margin_rule_one : {r r' : Option Refusal} → MarginRule ok m n k post r → MarginRule ok m n k post r' → r ≡ r'
  margin_rule_one b c = margin_only b ∙ sym (margin_only c)

  -- margin is worked out exactly where nothing in its table holds
  pub margin_accepted : (margin_refusal ok n m k post ≡ none) ↔ (NetSound ok m n × (n.head.posts ≤ k) × AllJoined ok n × (post < n.head.posts))
  margin_accepted = (λ e. by_rule (rw e at margin_answers), λ y. sym (margin_only (R.MarginRule.nothing y.0 y.1 y.2 y.3)))
    where
      by_rule : MarginRule ok m n k post none → NetSound ok m n × (n.head.posts ≤ k) × AllJoined ok n × (post < n.head.posts)
      by_rule (R.MarginRule.nothing z h f p) = (z, h, f, p)
