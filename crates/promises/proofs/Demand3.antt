-- Demand 3 for every net that building takes.
use mathlib.Core.Path.{◌≡◌, sym, ◌∙◌, subst}
use mathlib.Core.List.{List}
use Prim.Native.Nat.{ℕ, ◌*◌, ◌≤◌}
use native.Mathlib.Nat.{le_refl}
use native.Mathlib.Omega.{arith}
use contract.Monad.{fact_mono}
use lib.ListN.{length, take}
use Rattle.net.specs.Words.{AllOf}
use Rattle.net.specs.Net.{Ratio, Net, every, most_posts, most_segments, net_with}
use Rattle.net.specs.Rules.{NetSound, AllJoined, AllOwn}
use Rattle.net.specs.Trees.{whole}
use Rattle.net.specs.Building.{p_of, q_of, SmallestOf, built, between_of, laid_of, walk_of, walk_with}
use Rattle.net.specs.declared.Head.{Head}
use Rattle.net.specs.declared.Measured.{Measured}
use Rattle.net.specs.declared.Segment.{Segment}
use Rattle.net.proofs.Sound.{inside, few, between_tree, laid_length, laid_sum}
use Rattle.net.proofs.Measuring.{tree_length, one_post}
use Rattle.net.proofs.Own.{all_own, post_ratio_sound, smallest_of}
use Rattle.net.proofs.Demand.{path_limit, no_slack, smallest_small, length_limit, length_limit_tree}
use Rattle.building.specs.Answers.{Leaves, says_of}
use Rattle.building.proofs.Unique.{says_answer}
use Rattle.numbers.specs.Numbers.{got}
use Rattle.reading.proofs.RoundTrip.{sound_of_read}
use Rattle.writing.specs.Answers.{result}
use Rattle.on_records.specs.Asked.{record_read, Plans}
use Rattle.on_records.specs.Says.{says_planned}
use Rattle.promises.specs.Demand3.{Bounds, LengthWithin, Demand3}
use Rattle.promises.proofs.Taken.{taken_sound, taken_enough, taken_joined, planned_net}
use Rattle.promises.proofs.Demand2.{built_as_stated}
use Rattle.net.specs.declared.Plan.{Plan}
use Rattle.net.specs.declared.Refusal.{Refusal}
use Rattle.building.specs.Answers.{Answer}
use Rattle.std.specs.Prelude.{Result}

-- m segments are claimed, and no post's own ratio is missing
module _ (n : Net) (m : ℕ) (fits : length n.segments ≤ m) (sound : NetSound every m n) (joined : AllJoined every n) (all : AllOwn n) where
  -- a smallest ratio is no larger than that of any post laid
  small : {v₀ : ℕ} → SmallestOf n v₀ → AllOf (λ v. p_of n v₀ * q_of n v ≤ p_of n v * q_of n v₀) (walk_with every n (p_of n) (q_of n)).laid
  small = smallest_small every m n fits sound (p_of n) (q_of n)

  pub bounds : Bounds n (between_of every n)
  unfolding between_of laid_of walk_of
  bounds =
      let tree = between_tree every m n fits sound joined (p_of n) (q_of n) in
      record {
        reaches = tree;
        paths = path_limit every m n fits sound (p_of n) (q_of n);
        no_slack = λ v h e. no_slack every m n fits sound (p_of n) (q_of n) v h (joined v h) e (post_ratio_sound n every m sound all v h).some_q;
        some_smallest = smallest_of n every m sound all;
        one_post = one_post n.segments every n.head.posts n.head.source (inside every m n fits sound) (few every m n fits sound) _ tree sound.head_sound.source_in;
        length_any = λ v₀ z. length_limit every m n fits sound (p_of n) (q_of n) (p_of n v₀) (q_of n v₀) (small z);
        length_spanning = λ v₀ z. length_limit_tree every m n fits sound (p_of n) (q_of n) (p_of n v₀) (q_of n v₀) (small z);
        laid_length = laid_length every m n fits sound (p_of n) (q_of n);
        laid_sum = λ v₀ z. laid_sum every m n fits sound (p_of n) (q_of n) (p_of n v₀) (q_of n v₀) (small z);
      }

-- of what building leaves in the third list
module _ (n : Net) (m k : ℕ) (fits : length n.segments ≤ m) (all : n.head.posts ≤ k → AllOwn n) (l s w : List ℕ) {a : Answer} {l' s' w' : List ℕ} {x y z : Measured} {j : ℕ}
    (leaves : Leaves n m k l s w a l' s' w') (says : says_of a ≡ built x y z j) where
  pub bounds_left : Bounds n (take n.head.posts w') × LengthWithin n z.length
  bounds_left =
      let b = built_as_stated n m k fits l s w leaves says in
      let sound = taken_sound n m k l s w leaves says in
      let c : Bounds n (take n.head.posts w') = rw b.holds_between.tree (bounds n m fits sound (taken_joined n m k l s w leaves says) (all (taken_enough n m k l s w leaves says))) in
      let e = tree_length n.segments every n.head.posts n.head.source (inside every m n fits sound) (few every m n fits sound) (take n.head.posts w') c.reaches in
      let i : z.length ≡ whole n.segments n.head.posts (take n.head.posts w') = b.measures_between.length_is ∙ sym e in
      (c, record { any_spanning_tree = λ v₀ small U span. rw i (c.length_spanning v₀ small U span); one_post = λ one. i ∙ c.one_post one })

-- of a net that is lent
bounds_lent : (h : Head) (rs : List Ratio) (ss : List Segment) (l s w : List ℕ) {a : Answer} {l' s' w' : List ℕ} {x y z : Measured} {j : ℕ} → Leaves (net_with h rs ss) (length ss) (length rs) l s w a l' s' w'
    → says_of a ≡ built x y z j → Bounds (net_with h rs ss) (take h.posts w') × LengthWithin (net_with h rs ss) z.length
bounds_lent h rs ss l s w leaves says = bounds_left (net_with h rs ss) (length ss) (length rs) (le_refl (length ss)) (all_own h rs ss) l s w leaves says

-- of a record that was planned: no post's own ratio is missing in a net that was read
own_read : (bytes : List ℕ) {n : Net} {next : ℕ} → record_read bytes ≡ got n next → AllOwn n
unfolding record_read
own_read bytes {n} {next} i e = let k = (sound_of_read bytes most_segments most_posts n next i).kept.second_all e in omega arith

bounds_planned : (bytes l s w : List ℕ) {a : Result Plan Refusal} {l' s' w' : List ℕ} {q : Plan} → Plans bytes l s w a l' s' w' → says_planned a ≡ result q
    → {n : Net} {next : ℕ} → record_read bytes ≡ got n next → Bounds n (take n.head.posts w') × LengthWithin n q.built.between.length
bounds_planned bytes l s w {w' = w'} {q = q} p e {n} i =
    let v = planned_net bytes l s w p e in
    let same : v.n ≡ n = cc (v.read_is, i) in
    subst (λ (m : Net). Bounds m (take m.head.posts w') × LengthWithin m q.built.between.length) same
    (bounds_left v.n (length v.n.segments) most_posts (le_refl (length v.n.segments)) (λ _. own_read bytes v.read_is) l s w v.leaves (says_answer _ ∙ v.says))

pub demand_3 : Demand3
demand_3 =
    record {
      build = λ w κs x g r e. fact_mono w.𝓤 _ _ (λ p _ _ _ _ f. bounds_lent _ _ _ _ _ _ p f);
      build_lists = λ w κs x g r e. fact_mono w.𝓤 _ _ (λ p _ _ _ _ f. bounds_lent _ _ _ _ _ _ p f);
      plan = λ w κs x g r e. fact_mono w.𝓤 _ _ (λ p _ f _ _ i. bounds_planned _ _ _ _ p f i);
    }
