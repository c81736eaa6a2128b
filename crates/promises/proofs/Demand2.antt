-- Demand 2 of every entry: the trees and the margins, the records, the drawn runs.
use mathlib.Core.Path.{◌≡◌, refl, sym, ap, ◌∙◌}
use mathlib.Core.Option.{Option, none, some}
use mathlib.Core.List.{List, ◌++◌}
use Prim.Native.Nat.{ℕ, ◌≤◌}
use native.Mathlib.Nat.{le_refl}
use native.Mathlib.Omega.{arith}
use contract.Monad.{fact_mono}
use lib.IntN.{ℤ}
use lib.ListN.{length, take, drop}
use lib.Seq.{take_at, drop_at}
use Rattle.net.specs.Net.{Net, most_posts, every}
use Rattle.net.specs.Rules.{NetSound, AllJoined}
use Rattle.net.specs.Trees.{IsTree, the_path_in, radius, whole, the_margin_by}
use Rattle.net.specs.Building as B
use Rattle.net.specs.Building.{p_of, q_of, built, lightest_of, shortest_of, between_of, laid_of, given_with, walk_of, tree_of, measured, build_answer, margin_refusal, the_margin_in, margin_answer, margin_of}
use Rattle.net.specs.declared.Measured.{Measured}
use Rattle.net.specs.declared.Refusal.{Refusal}
use Rattle.net.specs.declared.Tree.{Tree}
use Rattle.net.specs.declared.Tree.TheVariants.{Lightest, Shortest, Between}
use Rattle.net.proofs.Sound.{inside, few, d_is_least, shortest_says, lightest_exactly, lightest_tree, shortest_tree, between_tree}
use Rattle.net.proofs.Measuring.{tree_length, radius_most, radius_one}
use Rattle.net.proofs.WalkRuled.{net_walk, only_net_walk}
use Rattle.building.specs.Answers.{says_of, Leaves}
use Rattle.margins.specs.Answers.{margin_answer_of, margin_says_of}
use Rattle.building.proofs.Unique.{says_answer}
use Rattle.margins.proofs.Unique.{margin_answer_says, margin_says}
use Rattle.on_records.specs.Asked.{Plans, record_read, margin_said, margin_read}
use Rattle.on_records.specs.Says.{says_planned}
use Rattle.margins.proofs.Meaning.{given_accepted, given_below, given_zero, given_source, given_between, given_shortest}
use Rattle.numbers.specs.Numbers.{got}
use Rattle.writing.specs.Answers.{result}
use Rattle.reading.proofs.Longest.{longest_record_law}
use Rattle.drawn.specs.Says.{sixteenths, says_of as drawn_says}
use Rattle.drawn.proofs.Rules.{same_says}
use Rattle.drawn.proofs.Lengths.{straight_length, length_straight, corner_length, length_corner, straight_within, corner_within, whole_same}
use Rattle.printing.proofs.Printing.{answer_lines}
use Rattle.printing.proofs.Whole.{whole_text}
use Rattle.moving.proofs.Given.{answer_handing_law}
use Rattle.moving.proofs.Whole.{whole_hands}
use Rattle.moving.proofs.Room.{room_enough, no_eighteen}
use Rattle.promises.specs.Demand2.{ProgramAsStated, MoveProgramAsStated, ByTheRules, TreesAsStated, Measures, Holds, BuiltAsStated, PlannedAsStated, MarginAsStated, DrawnAsStated, Demand2}
use Rattle.promises.proofs.Taken.{taken_sound, taken_joined, answers, after, planned_net}
use Rattle.promises.proofs.Records.{records_both_ways}
use Rattle.promises.proofs.Moves.{moved_as_stated, moves_both_ways}
use Rattle.promises.proofs.Ratios.{ratios_as_stated, scaled_as_stated, own_scaled_as_stated}
use Rattle.margins.specs.Answers.{MarginAnswer}
use Rattle.net.specs.declared.Plan.{Plan}
use Rattle.building.specs.Answers.{Answer}
use Rattle.std.specs.Prelude.{Result, Ok}

-- THE TREES
module _ (n : Net) (m : ℕ) (fits : length n.segments ≤ m) (sound : NetSound every m n) (joined : AllJoined every n) where
  between_is : IsTree n.segments every n.head.posts n.head.source (between_of every n) (the_path_in n.segments n.head.posts (between_of every n))
  unfolding between_of walk_of
  between_is = between_tree every m n fits sound joined (p_of n) (q_of n)

  by_the_rules : ByTheRules n (between_of every n) (laid_of every n)
  unfolding between_of laid_of walk_of given_with
  by_the_rules =
      record {
        notes = walk_of every n;
        gives = net_walk every m n fits sound (p_of n) (q_of n);
        no_others = only_net_walk every m n fits sound (p_of n) (q_of n);
        entries_are = refl;
        laid_are = refl;
      }

  pub trees_as_stated : TreesAsStated n
  trees_as_stated =
      record {
        lightest_belong = lightest_exactly every m n fits sound;
        lightest_tree = lightest_tree every m n fits sound joined;
        d_least = λ v h. d_is_least every m n fits sound v (joined v h);
        shortest_hangs = λ v h ne. shortest_says every m n fits sound v h ne (joined v h);
        shortest_tree = shortest_tree every m n fits sound joined;
        walk_by_the_rules = by_the_rules;
        between_tree = between_is;
      }

-- WHAT BUILDING LEAVES
holds : (n : Net) (t before now : List ℕ) → length t ≡ n.head.posts → now ≡ t ++ drop n.head.posts before → Holds n t before now
holds n t before now e f =
    record {
      tree = ap (take n.head.posts) f ∙ take_at t (drop n.head.posts before) n.head.posts e;
      rest = ap (drop n.head.posts) f ∙ drop_at t (drop n.head.posts before) n.head.posts e;
    }

module _ (n : Net) (m k : ℕ) (fits : length n.segments ≤ m) (l s w : List ℕ) {a : Answer} {l' s' w' : List ℕ} {x y z : Measured} {j : ℕ} (leaves : Leaves n m k l s w a l' s' w') (says : says_of a ≡ built x y z j) where
  stated : TreesAsStated n
  stated = trees_as_stated n m fits (taken_sound n m k l s w leaves says) (taken_joined n m k l s w leaves says)

  -- what a tree's measures come to
  measures : (t : List ℕ) → IsTree n.segments every n.head.posts n.head.source t (the_path_in n.segments n.head.posts t) → (r : Measured)
      → r ≡ record { length = whole n.segments n.head.posts t; radius = radius n.segments n.head.posts t } → Measures n t r
  measures t tree r e =
      let sound = taken_sound n m k l s w leaves says in
      let within = inside every m n fits sound in
      let small = few every m n fits sound in
      rw e
      (record {
        length_is = tree_length n.segments every n.head.posts n.head.source within small t tree;
        none_longer = radius_most n.segments every n.head.posts n.head.source within small t tree;
        one_as_long = radius_one n.segments every n.head.posts n.head.source within small t tree sound.head_sound.source_in;
      })

  pub built_as_stated : BuiltAsStated n l s w l' s' w' x y z j
  unfolding build_answer measured tree_of
  built_as_stated =
      let h = holds n (lightest_of every n) l l' stated.lightest_tree.one_each (after n m k l s w leaves says Lightest l l' leaves.lightest) in
      let i = holds n (shortest_of every n) s s' stated.shortest_tree.one_each (after n m k l s w leaves says Shortest s s' leaves.shortest) in
      let third = holds n (between_of every n) w w' stated.between_tree.one_each (after n m k l s w leaves says Between w w' leaves.between) in
      let e = answers n m k l s w leaves says in
      record {
        as_stated = stated;
        holds_lightest = h;
        holds_shortest = i;
        holds_between = third;
        measures_lightest = rw h.tree (measures (lightest_of every n) stated.lightest_tree x (cc e));
        measures_shortest = rw i.tree (measures (shortest_of every n) stated.shortest_tree y (cc e));
        measures_between = rw third.tree (measures (between_of every n) stated.between_tree z (cc e));
        laid_is = cc e;
      }

-- a record that was planned
module _ (bytes l s w : List ℕ) {a : Result Plan Refusal} {l' s' w' : List ℕ} {q : Plan} (p : Plans bytes l s w a l' s' w') (e : says_planned a ≡ result q) where
  pub planned_as_stated : PlannedAsStated bytes l s w l' s' w' q
  planned_as_stated =
      let v = planned_net bytes l s w p e in
      record {
        n = v.n;
        next = v.next;
        read_is = v.read_is;
        head_is = v.head_is;
        count_is = v.count_is;
        built_is = built_as_stated v.n (length v.n.segments) most_posts (le_refl (length v.n.segments)) l s w v.leaves (says_answer _ ∙ v.says);
      }

-- MARGINS
module _ (n : Net) (m k : ℕ) (fits : length n.segments ≤ m) (t : Tree) (post : ℕ) {a : MarginAnswer} {z : ℤ} (is : a ≡ margin_answer_of (margin_of every n m k t post)) (says : margin_says_of a ≡ B.MarginAnswer.margin z) where
  given : a ≡ Ok z
  given = sym (margin_answer_says a) ∙ ap margin_answer_of says

  held : (o : Option Refusal) → margin_answer every n o t post ≡ B.MarginAnswer.margin z → z ≡ the_margin_in every n t post
  unfolding margin_answer
  held none e = cc
  held (some r) e = absurd (let k : ◌≡◌ {A = ℕ} 0 1 = cc in omega arith)

  is_difference : z ≡ the_margin_in every n t post
  unfolding margin_of
  is_difference = held (margin_refusal every n m k post) (sym (margin_says n m k t post is) ∙ says)

  pub margin_as_stated : MarginAsStated n t post z
  unfolding the_margin_in the_margin_by
  margin_as_stated =
      let a = given_accepted n m k t post is given in
      record {
        as_stated = trees_as_stated n m fits a.0 a.2;
        difference = is_difference;
        below_zero = given_below n m k t post is given;
        zero_at_limit = given_zero n m k t post is given;
        source_zero = given_source n m k t post is given fits;
        between_within = given_between n m k t post is given fits;
        shortest_within = given_shortest n m k t post is given fits;
      }

-- of a record: the margin of the net that was read
pub record_margin_as_stated : (bytes : List ℕ) (t : Tree) (post : ℕ) {a : MarginAnswer} {z : ℤ} → a ≡ margin_read bytes t post → margin_says_of a ≡ B.MarginAnswer.margin z
    → {n : Net} {next : ℕ} → record_read bytes ≡ got n next → MarginAsStated n t post z
record_margin_as_stated bytes t post is says {n} i =
    margin_as_stated n (length n.segments) most_posts (le_refl (length n.segments)) t post (is ∙ ap (λ g. margin_answer_of (margin_said g t post)) i) says

-- DRAWN RUNS
pub drawn_as_stated : DrawnAsStated
drawn_as_stated =
    record {
      straight = λ x {a} e k. (λ f. straight_length x k (is_length a e f), λ f. ap drawn_says (e ∙ length_straight x k f));
      corner = λ x y {a} e k. (λ f. corner_length x y k (is_length a e f), λ f. ap drawn_says (e ∙ length_corner x y k f));
      straight_within = λ s m e {a} h k f. straight_within s m e k (is_length a h f);
      corner_within = λ s t m n e f {a} h k i. corner_within s t m n e f k (is_length a h i);
      whole_same = λ m e k h q b {a} i. ap drawn_says (i ∙ whole_same m e k h q b);
    }
  where
    -- an outcome that says a length is that length
    is_length : {k : ℕ} (a : Result ℕ Refusal) {b : Result ℕ Refusal} → a ≡ b → drawn_says a ≡ sixteenths k → b ≡ Ok k
    is_length {k} a e f = sym e ∙ same_says a (Ok k) f

-- THE PROGRAMS
pub program_as_stated : ProgramAsStated
program_as_stated =
    record {
      printed_is = λ w κs x g r e. fact_mono w.𝓤 _ _ (λ p el es ew. sym (answer_lines _ _ _ el es ew _ r p));
      whole_input = λ w κs x g r e. fact_mono w.𝓤 _ _ (λ p bytes all k. whole_text bytes all p k);
      reads_enough = λ w κs x g r e. fact_mono w.𝓤 _ _ (λ p. p.enough);
    }

pub move_program_as_stated : MoveProgramAsStated
move_program_as_stated =
    record {
      to_second = λ w κs x g r e. fact_mono w.𝓤 _ _ (λ p long. answer_handing_law _ _ _ long r p);
      to_first = λ w κs x g r e. fact_mono w.𝓤 _ _ (λ p long. answer_handing_law _ _ _ long r p);
      whole_input = λ w κs x g r e. fact_mono w.𝓤 _ _ (λ p bytes all k. whole_hands bytes all p k);
      reads_enough = λ w κs x g r e. fact_mono w.𝓤 _ _ (λ p. p.enough);
      room_enough = λ f bytes _ _ e. room_enough f bytes e;
      no_eighteen = λ f bytes _ _ e. no_eighteen f bytes e;
    }

-- EVERY ENTRY
pub demand_2 : Demand2
demand_2 =
    record {
      build = λ w κs x g r e. fact_mono w.𝓤 _ _ (λ p _ _ _ _ f. built_as_stated _ _ _ (le_refl _) _ _ _ p f);
      margin = λ w κs x g r e. fact_mono w.𝓤 _ _ (λ p _ f. margin_as_stated _ _ _ (le_refl _) _ _ p f);
      build_lists = λ w κs x g r e. fact_mono w.𝓤 _ _ (λ p _ _ _ _ f. built_as_stated _ _ _ (le_refl _) _ _ _ p f);
      margin_lists = λ w κs x g r e. fact_mono w.𝓤 _ _ (λ p _ f. margin_as_stated _ _ _ (le_refl _) _ _ p f);
      plan = λ w κs x g r e. fact_mono w.𝓤 _ _ (λ p _ f. planned_as_stated _ _ _ _ p f);
      record_margin = λ w κs x g r e. fact_mono w.𝓤 _ _ (λ p _ f _ _ i. record_margin_as_stated _ _ _ p f i);
      to_second = λ w κs x g r e. fact_mono w.𝓤 _ _ (λ p _ f. moved_as_stated _ _ _ p f);
      to_first = λ w κs x g r e. fact_mono w.𝓤 _ _ (λ p _ f. moved_as_stated _ _ _ p f);
      moves = moves_both_ways;
      ratios = ratios_as_stated;
      ratio = scaled_as_stated;
      own_ratio = own_scaled_as_stated;
      records = records_both_ways;
      longest = longest_record_law;
      drawn = drawn_as_stated;
      program = program_as_stated;
      move_program = move_program_as_stated;
    }
