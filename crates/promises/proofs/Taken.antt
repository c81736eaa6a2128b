-- A net of which building says built is refused by nothing, and the lent lists begin with its trees. From building's contract alone.
use mathlib.Core.Path.{◌≡◌, refl, sym, ap, ◌∙◌}
use mathlib.Core.Option.{Option, none, some}
use mathlib.Core.List.{List, ◌++◌}
use Prim.Native.Nat.{ℕ, ◌≤◌}
use native.Mathlib.Omega.{arith}
use lib.ListN.{length, drop}
use Rattle.net.specs.Net.{Net, every, most_posts}
use Rattle.net.specs.Rules.{NetSound, AllJoined}
use Rattle.net.specs.Building.{BuildAnswer, built, refused, tree_of, build_refusal, build_answer, build_of, list_after, after_build}
use Rattle.net.specs.declared.Measured.{Measured}
use Rattle.net.specs.declared.Refusal.{Refusal}
use Rattle.net.specs.declared.Tree.{Tree}
use Rattle.net.specs.declared.Tree.TheVariants.{Lightest, Shortest, Between}
use Rattle.net.proofs.Refusals.{accepted}
use Rattle.building.specs.Answers.{answer_of, lent_of, measures, says_of, Leaves}
use Rattle.building.proofs.Unique.{build_says}
use Rattle.numbers.specs.Numbers.{Got, got, refused as unread}
use Rattle.writing.specs.Answers.{result}
use Rattle.on_records.specs.Asked.{record_read, planned_with, plan_of, tree_list, Plans}
use Rattle.on_records.specs.Says.{says_planned}
use Rattle.net.specs.declared.Plan.{Plan}
use Rattle.building.specs.Answers.{Answer}
use Rattle.std.specs.Prelude.{Result}

-- m segments are claimed, and k ratios are lent
module _ (n : Net) (m k : ℕ) (l s w : List ℕ) {a : Answer} {l' s' w' : List ℕ} {x y z : Measured} {j : ℕ} (leaves : Leaves n m k l s w a l' s' w') (says : says_of a ≡ built x y z j) where
  said : build_of every n m k (lent_of l s w) ≡ built x y z j
  said = sym (build_says n m k l s w leaves.answer) ∙ says

  held : (o : Option Refusal) → build_answer every n o ≡ built x y z j → o ≡ none
  unfolding build_answer
  held none e = refl
  held (some r) e = absurd (let q : ◌≡◌ {A = ℕ} 0 1 = cc in omega arith)

  -- nothing was refused
  pub taken : build_refusal every n m k (lent_of l s w) ≡ none
  unfolding build_of
  taken = held (build_refusal every n m k (lent_of l s w)) said

  pub taken_sound : NetSound every m n
  taken_sound = ((accepted every m n k (lent_of l s w)).0 taken).0

  -- as many ratios were lent as it has posts
  pub taken_enough : n.head.posts ≤ k
  taken_enough = ((accepted every m n k (lent_of l s w)).0 taken).2

  pub taken_joined : AllJoined every n
  taken_joined = ((accepted every m n k (lent_of l s w)).0 taken).3

  -- the answer, and a lent list
  pub answers : built x y z j ≡ build_answer every n none
  unfolding build_of
  answers = sym said ∙ ap (build_answer every n) taken

  pub after : (t : Tree) (before now : List ℕ) → now ≡ after_build every n m k (lent_of l s w) t before → now ≡ tree_of every n t ++ drop n.head.posts before
  unfolding after_build list_after
  after t before now e = e ∙ ap (λ o. list_after every n o t before) taken

-- A RECORD THAT WAS PLANNED was read, and what was left is what building leaves of its net
pub record PlannedNet (bytes l s w l' s' w' : List ℕ) (q : Plan) : Type 0 where
  pub n : Net
  pub next : ℕ
  pub read_is : record_read bytes ≡ got n next
  pub head_is : q.head ≡ n.head
  pub count_is : q.count ≡ length n.segments
  pub leaves : Leaves n (length n.segments) most_posts l s w (answer_of (build_of every n (length n.segments) most_posts (lent_of l s w))) l' s' w'
  pub says : build_of every n (length n.segments) most_posts (lent_of l s w) ≡ built q.built.lightest q.built.shortest q.built.between q.built.laid

module _ (bytes l s w : List ℕ) {a : Result Plan Refusal} {l' s' w' : List ℕ} {q : Plan} (p : Plans bytes l s w a l' s' w') (e : says_planned a ≡ result q) where
  of_built : (n : Net) (next : ℕ) → record_read bytes ≡ got n next → (b : BuildAnswer) → build_of every n (length n.segments) most_posts (lent_of l s w) ≡ b
      → says_planned (planned_with n.head (length n.segments) b) ≡ result q → PlannedNet bytes l s w l' s' w' q
  of_built n next i (built x y z k) f g =
      let u : record { head = n.head; count = length n.segments; built = measures x y z k } ≡ q = cc in
      record {
        n = n;
        next = next;
        read_is = i;
        head_is = sym (ap (λ (v : Plan). v.head) u);
        count_is = sym (ap (λ (v : Plan). v.count) u);
        leaves = record {
          answer = refl;
          lightest = p.lightest ∙ ap (λ v. tree_list v (lent_of l s w) Lightest l) i;
          shortest = p.shortest ∙ ap (λ v. tree_list v (lent_of l s w) Shortest s) i;
          between = p.between ∙ ap (λ v. tree_list v (lent_of l s w) Between w) i;
        };
        says = f ∙ ap (λ (v : Plan). built v.built.lightest v.built.shortest v.built.between v.built.laid) u;
      }
  of_built n next i (refused r) f g = absurd (let k : ◌≡◌ {A = ℕ} 0 1 = cc in omega arith)

  of_read : (g : Got Net) → record_read bytes ≡ g → says_planned (plan_of g (lent_of l s w)) ≡ result q → PlannedNet bytes l s w l' s' w' q
  of_read (got n next) i f = of_built n next i (build_of every n (length n.segments) most_posts (lent_of l s w)) refl f
  of_read (unread r) i f = absurd (let k : ◌≡◌ {A = ℕ} 0 1 = cc in omega arith)

  pub planned_net : PlannedNet bytes l s w l' s' w' q
  planned_net = of_read (record_read bytes) refl (ap says_planned (sym p.answer) ∙ e)
