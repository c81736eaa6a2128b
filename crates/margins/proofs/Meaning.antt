-- What a margin that is given means: below zero exactly when the post breaks its limit, zero exactly at the limit, 0 for the source, and never below zero in the
-- third tree nor in the shortest.
use mathlib.Core.Path.{◌≡◌, refl, sym, ◌∙◌}
use mathlib.Core.Bool.{false}
use mathlib.Core.Logic.{◌↔◌}
use mathlib.Core.Option.{Option, none, some}
use Prim.Native.Nat.{ℕ, ◌+◌, ◌*◌, ◌≤◌, ◌<◌}
use native.Mathlib.Omega.{arith}
use lib.Dec.{ltb}
use lib.IntN.{ℤ, pos}
use lib.Signed.{lt_z}
use lib.ListN.{length}
use Rattle.net.specs.Net.{Net, every}
use Rattle.net.specs.Rules.{NetSound, AllJoined}
use Rattle.net.specs.Trees.{at, the_path_in}
use Rattle.net.specs.Building.{p_of, q_of, least_lengths_of, tree_of, margin_refusal, the_margin_in, margin_answer, margin_of}
use Rattle.net.specs.declared.Refusal.{Refusal}
use Rattle.net.specs.declared.Tree.{Tree}
use Rattle.net.specs.declared.Tree.TheVariants.{Shortest, Between}
use Rattle.net.proofs.Refusals.{margin_accepted}
use Rattle.net.proofs.Margin.{margin_below, margin_at_limit, at_limit_margin}
use Rattle.net.proofs.Demand.{between_margin, shortest_margin, source_margin}
use Rattle.margins.specs.Answers.{margin_answer_of}
use Rattle.margins.specs.Answers.{MarginAnswer}
use Rattle.std.specs.Prelude.{Ok}

-- A MARGIN THAT IS GIVEN, of a net that claims m segments and for which k ratios are lent
module _ (n : Net) (m k : ℕ) (t : Tree) (post : ℕ) {x : MarginAnswer} (is : x ≡ margin_answer_of (margin_of every n m k t post)) {z : ℤ} (given : x ≡ Ok z) where
  held : (o : Option Refusal) → margin_answer_of (margin_answer every n o t post) ≡ Ok z → (o ≡ none) × (z ≡ the_margin_in every n t post)
  unfolding margin_answer
  held none e = (refl, cc)
  held (some r) e = absurd (let y : ◌≡◌ {A = ℕ} 0 1 = cc in omega arith)

  so : (margin_refusal every n m k post ≡ none) × (z ≡ the_margin_in every n t post)
  unfolding margin_of
  so = held (margin_refusal every n m k post) (sym is ∙ given)

  -- nothing refuses the net or the post
  pub given_accepted : NetSound every m n × (n.head.posts ≤ k) × AllJoined every n × (post < n.head.posts)
  given_accepted = (margin_accepted every m n k post).0 so.0

  -- "below zero exactly when the post breaks the limit"
  pub given_below : lt_z z (pos 0)
      ≡ ltb ((p_of n post + q_of n post) * at (least_lengths_of every n) post) (q_of n post * the_path_in n.segments n.head.posts (tree_of every n t) post)
  unfolding the_margin_in
  given_below = rw so.1 (margin_below (p_of n post) (q_of n post) (at (least_lengths_of every n) post) (the_path_in n.segments n.head.posts (tree_of every n t) post))

  -- zero exactly at the limit
  pub given_zero : (z ≡ pos 0) ↔ ((p_of n post + q_of n post) * at (least_lengths_of every n) post ≡ q_of n post * the_path_in n.segments n.head.posts (tree_of every n t) post)
  unfolding the_margin_in
  given_zero = (
    λ e. margin_at_limit (p_of n post) (q_of n post) (at (least_lengths_of every n) post) (the_path_in n.segments n.head.posts (tree_of every n t) post) (sym so.1 ∙ e),
    λ e. so.1 ∙ at_limit_margin (p_of n post) (q_of n post) (at (least_lengths_of every n) post) (the_path_in n.segments n.head.posts (tree_of every n t) post) e,
  )

  module _ (fits : length n.segments ≤ m) where
    -- 0 for the source
    pub given_source : post ≡ n.head.source → z ≡ pos 0
    given_source e = so.1 ∙ rw e (source_margin every m n fits given_accepted.0 given_accepted.2 t)

    -- never below zero in the third tree, nor in the shortest
    pub given_between : t ≡ Between → lt_z z (pos 0) ≡ false
    given_between e = rw (so.1, e) (between_margin every m n fits given_accepted.0 post given_accepted.3 (given_accepted.2 post given_accepted.3))

    pub given_shortest : t ≡ Shortest → lt_z z (pos 0) ≡ false
    given_shortest e = rw (so.1, e) (shortest_margin every m n fits given_accepted.0 given_accepted.2 post given_accepted.3)
