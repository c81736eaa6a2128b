-- What stands behind a list that was taken in, where its answer is sound: the three fronts are ready, and what is said of them is said of the net of the list
-- (`build_on_list` and so on). Where it is a refusal, that is the answer of building, of margin and of writing, and no list is touched.
use mathlib.Core.Path.{◌≡◌, refl, sym, ap, subst, ◌∙◌}
use mathlib.Core.List.{List, ◌++◌}
use mathlib.Core.Option.{Option, some}
use Prim.Native.Nat.{ℕ, ◌≤◌}
use native.Mathlib.Omega.{arith}
use lib.ListN.{length, take}
use lib.Seq.{length-take-le}
use Rattle.net.specs.Net.{Net, every, most_segments, ratios_of, segments_of}
use Rattle.net.specs.Refusals.{Line, first, net_lines, lent_lines, room_of_ratios, joined_lines, post_lines, check_of}
use Rattle.net.specs.Ready.{net_at, Ready}
use Rattle.net.specs.Building.{joined_to_source, build_refusal, build_answer, build_of, list_after, after_build, margin_refusal, margin_answer, margin_of}
use Rattle.net.specs.declared.Segment.{Segment}
use Rattle.net.specs.declared.Head.{Head}
use Rattle.net.specs.declared.Refusal.{Refusal}
use Rattle.net.specs.declared.Tree.{Tree}
use Rattle.net.specs.declared.Tree.TheVariants.{Lightest, Shortest, Between}
use Rattle.net.proofs.Tables.{first_only, some_append}
use Rattle.net.proofs.Checks.{said_refused, check_sound}
use Rattle.net.proofs.Ready.{ready_sound}
use Rattle.crossings.specs.Lists.{net_on, Places, TakenIn}
use Rattle.building.specs.Answers.{answer_of, lent_of, Leaves}
use Rattle.margins.specs.Answers.{margin_answer_of}
use Rattle.writing.specs.Writing.{write_lines, net_written, write_refusal, after_writing, the_room_after}
use Rattle.writing.specs.Answers.{write_answer_by, write_answer_of, Writes}
use Rattle.net.specs.Refusals.{Checked}
use Rattle.building.specs.Answers.{Answer}
use Rattle.margins.specs.Answers.{MarginAnswer}
use Rattle.std.specs.Prelude.{Result, Ok, Err}

-- SOUND: the fronts of the three lists
module _ {head : Head} {p q a b lengths : List ℕ} {l : List Segment} (t : TakenIn head p q l (Ok tt) a b lengths) where
  abbrev m : ℕ
  m = length l

  pub few : m ≤ most_segments
  few = let s = (check_sound head (ratios_of p q) l).0 (sym t.answers) in omega (arith, s.few_segments)

  pub front_ready : Places a b lengths → Ready head p q (take m a) (take m b) (take m lengths)
  front_ready w =
      let x = length-take-le m a (omega (arith, few, w.a_places)) in
      let y = length-take-le m b (omega (arith, few, w.b_places)) in
      let z = length-take-le m lengths (omega (arith, few, w.lengths_places)) in
      ready_sound head p q (take m a) (take m b) (take m lengths) (y ∙ sym x) (z ∙ sym x) (t.answers ∙ ap (check_of head (ratios_of p q)) (sym (t.stands refl))) refl

  -- the net of the fronts is the net of the list
  pub front_net : net_at head p q (take m a) (take m b) (take m lengths) ≡ net_on head p q l
  front_net = ap (λ (s : List Segment). net_on head p q s) (t.stands refl)

  -- what is said of the net of the fronts and of their number is said of the net of the list
  on_list : (P : Net → ℕ → Type 0) → P (net_at head p q (take m a) (take m b) (take m lengths)) (length (segments_of (take m a) (take m b) (take m lengths))) → P (net_on head p q l) m
  on_list P h = subst (λ (s : List Segment). P (net_on head p q s) (length s)) (t.stands refl) h

  pub build_on_list : {k : ℕ} {x y z : List ℕ} {r : Answer} {x' y' z' : List ℕ}
      → Leaves (net_at head p q (take m a) (take m b) (take m lengths)) (length (segments_of (take m a) (take m b) (take m lengths))) k x y z r x' y' z' → Leaves (net_on head p q l) m k x y z r x' y' z'
  build_on_list {k} {x} {y} {z} {r} {x'} {y'} {z'} = on_list (λ n i. Leaves n i k x y z r x' y' z')

  pub margin_on_list : (k : ℕ) (tree : Tree) (post : ℕ) {r : MarginAnswer}
      → r ≡ margin_answer_of (margin_of every (net_at head p q (take m a) (take m b) (take m lengths)) (length (segments_of (take m a) (take m b) (take m lengths))) k tree post)
      → r ≡ margin_answer_of (margin_of every (net_on head p q l) m k tree post)
  margin_on_list k tree post {r} = on_list (λ n i. r ≡ margin_answer_of (margin_of every n i k tree post))

  pub write_on_list : {k : ℕ} {x : List ℕ} {r : Result ℕ Refusal} {x' : List ℕ}
      → Writes (net_at head p q (take m a) (take m b) (take m lengths)) (length (segments_of (take m a) (take m b) (take m lengths))) k x r x' → Writes (net_on head p q l) m k x r x'
  write_on_list {k} {x} {r} {x'} = on_list (λ n i. Writes n i k x r x')

-- REFUSED by 1 to 7: whatever lines stand behind them
module _ (head : Head) (p q : List ℕ) (l : List Segment) {says : Checked} (t : says ≡ check_of head (ratios_of p q) l) {x : Refusal} (e : says ≡ Err x) (k : ℕ) where
  abbrev net : Net
  net = net_on head p q l

  refused_first : (rest : List Line) → first (net_lines every (length l) net ++ rest) ≡ some x
  unfolding check_of
  refused_first rest = sym (first_only (some_append rest (said_refused t e)))

  pub build_refused : (y z w : List ℕ) → Leaves net (length l) k y z w (Err x) y z w
  unfolding build_of build_answer build_refusal after_build list_after
  build_refused y z w =
      let r = refused_first (lent_lines head.posts (lent_of y z w) ++ (room_of_ratios head.posts k ++ joined_lines head.posts (joined_to_source every net))) in
      record {
        answer = sym (ap (λ (o : Option Refusal). answer_of (build_answer every net o)) r);
        lightest = sym (ap (λ (o : Option Refusal). list_after every net o Lightest y) r);
        shortest = sym (ap (λ (o : Option Refusal). list_after every net o Shortest z) r);
        between = sym (ap (λ (o : Option Refusal). list_after every net o Between w) r);
      }

  pub margin_refused : (tree : Tree) (post : ℕ) → Err x ≡ margin_answer_of (margin_of every net (length l) k tree post)
  unfolding margin_of margin_answer margin_refusal
  margin_refused tree post =
      let r = refused_first (room_of_ratios head.posts k ++ (joined_lines head.posts (joined_to_source every net) ++ post_lines head.posts post)) in
      sym (ap (λ (o : Option Refusal). margin_answer_of (margin_answer every net o tree post)) r)

  pub write_refused : (room : List ℕ) → Writes net (length l) k room (Err x) room
  unfolding write_answer_of write_refusal the_room_after
  write_refused room =
      let r = refused_first (write_lines net k (length room)) in
      record {
        answers = sym (ap (λ (o : Option Refusal). write_answer_by o (length (net_written net))) r);
        leaves = sym (ap (λ (o : Option Refusal). after_writing o net room) r);
      }
