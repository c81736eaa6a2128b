-- The ways out of margin: refused by 1 to 7, by 8, by 9, by 19, or worked out at the post's own ratio; and the arithmetic of a difference with its sign.
use mathlib.Core.Path.{◌≡◌, refl, sym, ◌∙◌}
use mathlib.Core.Bool.{Bool, true, false}
use mathlib.Core.List.{List}
use mathlib.Core.Option.{Option, none, some}
use Prim.Native.Nat.{ℕ, zero, suc, ◌+◌, ◌*◌, ◌^◌, ◌≤◌, ◌<◌}
use native.Mathlib.Omega.{arith}
use native.Mathlib.Nat.{sub-zero, add-zero, mul-le-mul}
use mir.Facts.{to_z-of_z}
use mir.Syntax.{w64}
use mir.Val.{SFits, to_z, of_z}
use lib.Dec.{ltb, leb}
use lib.IntN.{ℤ, pos, sub_ℕ, ◌-ℤ◌}
use lib.Signed.{mag}
use lib.ListN.{length, get_or, take}
use lib.Seq.{take_all}
use borrow.Author.Tests.{lt-ltb, le-ltb, le-leb, lt-leb}
use Rattle.net.specs.Net.{Net, every, most_ratio, ratios_of, segments_of}
use Rattle.net.specs.Refusals.{refusal, first, room_of_ratios, joined_lines, post_lines, check_of}
use Rattle.net.specs.Rules.{MarginRule}
use Rattle.net.specs.Rules as R
use Rattle.net.specs.Trees.{none_yet, the_path_in, the_margin_by}
use Rattle.net.specs.Building.{p_of, q_of, tree_of, joined_to_source, margin_refusal, the_margin_in, margin_answer, margin_of}
use Rattle.net.specs.declared.Head.{Head}
use Rattle.net.specs.declared.Refusal.{Refusal}
use Rattle.net.specs.Refusals.{Checked}
use Rattle.net.specs.declared.Tree.{Tree}
use Rattle.net.specs.declared.Tree.TheVariants.{Lightest, Shortest, Between}
use Rattle.net.proofs.Tables.{FirstOf, here, below, end, first_only, first_is, some_append, none_append}
use Rattle.net.proofs.Faults.{sound_first}
use Rattle.net.proofs.Refusals.{margin_only}
use Rattle.net.proofs.Checks.{check_faulty}
use Rattle.net.specs.Ready.{net_at, Ready}
use Rattle.trees.specs.Worked.{Worked, ThreeTrees}
use Rattle.margins.specs.Answers.{margin_answer_of, named}
use Rattle.margins.specs.Answers.{MarginAnswer}
use Rattle.std.specs.Prelude.{Ok, Err}
use Rattle.net.specs.declared.Segment.{Segment}
use Rattle.net.proofs.Own.{all_own, post_ratio_sound}
use Rattle.trees.specs.Ratios.{the_number_for}
use Rattle.trees.proofs.Ratios.{number_p, number_q, room_none}
use Rattle.trees.proofs.Ready.{dist_long, least_at}

-- SIGNS. A difference of whole numbers that are not below 0
minus_is : (a b : ℕ) → pos a -ℤ pos b ≡ sub_ℕ a b
minus_is a zero = rw (le-ltb a 0 (omega arith), add-zero, sub-zero)
minus_is a (suc b) = refl

-- it fits 64 bits
pub difference_fits : (a b : ℕ) → a < 9223372036854775808 → b < 9223372036854775808 → SFits w64 (pos a -ℤ pos b)
difference_fits a b ha hb = record { sfits = rw minus_is (go (ltb a b) refl) }
  where
    go : (t : Bool) → ltb a b ≡ t → mag (sub_ℕ a b) < 2 ^ 63
    go true e = rw e (omega arith)
    go false e = rw e (omega arith)

pub pos_is : (a : ℕ) → a < 9223372036854775808 → to_z w64 a ≡ pos a
pos_is a h = rw (lt-ltb a (2 ^ 63) (omega arith))

-- bits of a whole number that fits, read back
pub back : (z : ℤ) → mag z < 2 ^ 63 → to_z w64 (of_z w64 z) ≡ z
back z f = to_z-of_z {w = w64} (record { sfits = f })

pub difference_is : (a b : ℕ) → a < 9223372036854775808 → b < 9223372036854775808 → to_z w64 (of_z w64 (pos a -ℤ pos b)) ≡ sub_ℕ a b
difference_is a b ha hb = back (pos a -ℤ pos b) (difference_fits a b ha hb).sfits ∙ minus_is a b

pub product_fits : (a b : ℕ) → a ≤ 20000 → b ≤ none_yet → a * b < 9223372036854775808
product_fits a b ha hb = let h : a * b ≤ 20000 * 281474976710656 = mul-le-mul {n₂ = 20000} {m₂ = 281474976710656} (omega arith) (omega arith) in omega arith

-- a margin put together from its parts
pub margin_at : (p q dist path : ℕ) {p' q' q'' path' x y : ℕ} {z : ℤ} → z ≡ sub_ℕ x y → x ≡ (p' + q') * dist → y ≡ q'' * path' → p' ≡ p → q' ≡ q → q'' ≡ q → path' ≡ path
    → z ≡ the_margin_by p q dist path
unfolding the_margin_by
margin_at p q dist path ez ex ey e₁ e₂ e₃ e₄ = rw (ez, ex, ey, e₁, e₂, e₃, e₄)

-- WAYS OUT
module _ (n : Net) (m k : ℕ) (t : Tree) (post : ℕ) where
  pub says_refused : {r : Refusal} → some r ≡ margin_refusal every n m k post → Err r ≡ margin_answer_of (margin_of every n m k t post)
  unfolding margin_of margin_answer
  says_refused e = rw (← e)

  pub says_worked : {z : ℤ} → none ≡ margin_refusal every n m k post → z ≡ the_margin_in every n t post → Ok z ≡ margin_answer_of (margin_of every n m k t post)
  unfolding margin_of margin_answer
  says_worked e f = rw (← e, f)

-- 19 holds, or not
post_out : (posts post : ℕ) → posts ≤ post → FirstOf (post_lines posts post) (some (refusal 19 0))
unfolding post_lines
post_out posts post h = let e : leb posts post ≡ true = le-leb posts post h in here e

post_in : (posts post : ℕ) → post < posts → FirstOf (post_lines posts post) none
unfolding post_lines
post_in posts post h = let e : leb posts post ≡ false = lt-leb posts post h in below e end

-- two lists of ratios side by side, and three of segments
module _ (head : Head) (p q a b lengths : List ℕ) (t : Tree) (post : ℕ) where
  -- 1 to 7
  pub says_faulty : {v : Checked} {r : Refusal} → v ≡ check_of head (ratios_of p q) (segments_of a b lengths) → v ≡ Err r
      → Err r ≡ margin_answer_of (margin_of every (net_at head p q a b lengths) (length (segments_of a b lengths)) (length (ratios_of p q)) t post)
  says_faulty e f =
      says_refused _ _ _ t post (margin_only every _ (net_at head p q a b lengths) (length (ratios_of p q)) post (R.MarginRule.one_to_seven ((check_faulty head (ratios_of p q) (segments_of a b lengths)).0 (sym e ∙ f))))

  module _ (r : Ready head p q a b lengths) where
    -- 8
    pub says_few : length (ratios_of p q) < head.posts → {x : MarginAnswer} → x ≡ Err (refusal 8 0)
        → x ≡ margin_answer_of (margin_of every (net_at head p q a b lengths) (length (segments_of a b lengths)) (length (ratios_of p q)) t post)
    says_few h f = f ∙ says_refused _ _ _ t post (margin_only every _ (net_at head p q a b lengths) (length (ratios_of p q)) post (R.MarginRule.eight r.sound h))

    -- a ratio for each post
    module _ (enough : head.posts ≤ length (ratios_of p q)) where
      few_not : FirstOf (room_of_ratios head.posts (length (ratios_of p q))) none
      few_not = room_none head.posts (length (ratios_of p q)) enough

      -- 9
      pub says_apart : {v : ℕ} → first (joined_lines head.posts (joined_to_source every (net_at head p q a b lengths))) ≡ some (refusal 9 v) → {x : MarginAnswer} → x ≡ Err (refusal 9 v)
          → x ≡ margin_answer_of (margin_of every (net_at head p q a b lengths) (length (segments_of a b lengths)) (length (ratios_of p q)) t post)
      unfolding margin_refusal
      says_apart e f =
          f ∙ says_refused _ _ _ t post (first_only (none_append (sound_first every _ (net_at head p q a b lengths) r.sound) (none_append few_not (some_append _ (first_is e)))))

      -- every post is joined
      module _ (e : first (joined_lines head.posts (joined_to_source every (net_at head p q a b lengths))) ≡ none) where
        -- 19, or nothing
        post_left : {o : Option Refusal} → FirstOf (post_lines head.posts post) o → o ≡ margin_refusal every (net_at head p q a b lengths) (length (segments_of a b lengths)) (length (ratios_of p q)) post
        unfolding margin_refusal
        post_left f = first_only (none_append (sound_first every _ (net_at head p q a b lengths) r.sound) (none_append few_not (none_append (first_is e) f)))

        pub says_beyond : head.posts ≤ post → {x : MarginAnswer} → x ≡ Err (refusal 19 0)
            → x ≡ margin_answer_of (margin_of every (net_at head p q a b lengths) (length (segments_of a b lengths)) (length (ratios_of p q)) t post)
        says_beyond h f = f ∙ says_refused _ _ _ t post (post_left (post_out head.posts post h))

        pub says_margin : post < head.posts → {v : ℕ} → v ≡ post → (y : ℤ) → mag y < 2 ^ 63 → y ≡ the_margin_in every (net_at head p q a b lengths) t v
            → Ok (to_z w64 (of_z w64 y)) ≡ margin_answer_of (margin_of every (net_at head p q a b lengths) (length (segments_of a b lengths)) (length (ratios_of p q)) t post)
        says_margin h k y fits f = says_worked _ _ _ t post (post_left (post_in head.posts post h)) (back y fits ∙ (rw k at f))

-- A PATH in the tree that is named
module _ (segs : List Segment) (n : ℕ) (light short third : List ℕ) (post : ℕ) {t : Tree} {x : ℕ} where
  pub in_lightest : t ≡ Lightest → x ≡ the_path_in segs n light post → x ≡ the_path_in segs n (named t light short third) post
  unfolding named
  in_lightest e f = rw e f

  pub in_shortest : t ≡ Shortest → x ≡ the_path_in segs n short post → x ≡ the_path_in segs n (named t light short third) post
  unfolding named
  in_shortest e f = rw e f

  pub in_between : t ≡ Between → x ≡ the_path_in segs n third post → x ≡ the_path_in segs n (named t light short third) post
  unfolding named
  in_between e f = rw e f

-- of the three of a net
named_is : {n : Net} {light short third : List ℕ} → ThreeTrees n light short third → (t : Tree) → named t light short third ≡ tree_of every n t
unfolding named tree_of
named_is trees Lightest = trees.light_is
named_is trees Shortest = trees.short_is
named_is trees Between = trees.third_is

-- THE MARGIN ITSELF, from a least length and a path
module _ {head : Head} {p q a b lengths : List ℕ} (r : Ready head p q a b lengths) where
  -- the length of a path in a tree that has an entry for each post
  pub path_at : {posts : ℕ} → posts ≡ head.posts → (t : List ℕ) → length t ≡ head.posts → (post : ℕ) {x : ℕ}
      → x ≡ the_path_in (segments_of a b lengths) posts (take posts t) post → x ≡ the_path_in (segments_of a b lengths) head.posts t post
  path_at {posts} posts-is t k post e = let z : take posts t ≡ t = take_all posts t (omega arith) in rw (z, posts-is) at e

  module _ (enough : head.posts ≤ length (ratios_of p q)) {dist short : List ℕ} (w : Worked (net_at head p q a b lengths) dist short) (post : ℕ) (h : post < length dist) {x y : ℕ} (x-is : x ≡ the_number_for head head.p p post)
      (y-is : y ≡ the_number_for head head.q q post) where
    post_in_net : post < head.posts
    post_in_net = omega (arith, dist_long r refl w)

    x_own : x ≡ p_of (net_at head p q a b lengths) post
    x_own = x-is ∙ number_p head p q (segments_of a b lengths) enough post post_in_net

    y_own : y ≡ q_of (net_at head p q a b lengths) post
    y_own = y-is ∙ number_q head p q (segments_of a b lengths) enough post post_in_net

    -- the post's ratio is within the bounds
    pub ratio_small : (x ≤ most_ratio) × (y ≤ most_ratio)
    ratio_small =
        let s = post_ratio_sound (net_at head p q a b lengths) every (length (segments_of a b lengths)) r.sound (all_own head (ratios_of p q) (segments_of a b lengths) enough) post post_in_net in
        (omega (arith, x_own, s.small_p), omega (arith, y_own, s.small_q))

    pub margin_of_law : (t : Tree) {light third : List ℕ} → ThreeTrees (net_at head p q a b lengths) light short third → {path : ℕ} {z : ℤ} → path ≡ the_path_in (segments_of a b lengths) head.posts (named t light short third) post
        → z ≡ the_margin_by x y (get_or dist post 0) path → z ≡ the_margin_in every (net_at head p q a b lengths) t post
    unfolding the_margin_in
    margin_of_law t trees e f = f ∙ rw (e, named_is trees t, x_own, y_own, least_at r w post h)
