-- Demand 2: "Exactly the published rules. Lightest tree, shortest tree and walk as document 01 states them, ties
-- included. Records are read and written both ways without loss, one record for one net." And change request 04's:
-- "Round each drawn value up to the next whole sixteenth." The definitions of net/specs compute the trees;
-- `TreesAsStated` is what they come to in document 01's own words, over chains, routes and the walk's rules. The rest
-- is said of the outcomes that the entries' own contracts allow (`Says`, specs/Contracts): what building leaves in the
-- lent lists, a margin that is given, what is printed and what is handed on. The ratio of a post stands in
-- specs/Ratios, records both ways in specs/Records. Drawn runs are said over `drawn_of`, which is that contract
-- (specs/Tied). What an answer says, its number and values, is `says_of`, `says_planned`, `margin_says_of`, `says_by`,
-- `says_written` and, of a run, `drawn_says`.
use Rattle.std.specs.Prelude.{◌≡◌, ◌↔◌, Bool, false, List, ℕ, ◌+◌, ◌*◌, ◌≤◌, ◌<◌, ltb, ℤ, pos, Float, length, take, drop}
use Rattle.std.proofs.Math.Option.{some}
use Rattle.std.proofs.Math.IntN.{sub_ℕ}
use Rattle.std.specs.Int.Signed.{lt_z}
use Rattle.std.specs.Float.{fin}
use Rattle.net.specs.declared.Form.{Form}
use Rattle.net.specs.declared.Form.TheVariants.{First, Second}
use Rattle.net.specs.declared.Head.{Head}
use Rattle.net.specs.declared.Measured.{Measured}
use Rattle.net.specs.declared.Segment.{Segment}
use Rattle.net.specs.declared.Tree.{Tree}
use Rattle.net.specs.declared.Tree.TheVariants.{Shortest, Between}
use Rattle.net.specs.Net.{Net, house, scaled, every, length_at, set_length, most_posts}
use Rattle.net.specs.Refusals.{refusal}
use Rattle.net.specs.Trees.{at, IsLeast, HangsBy, ExactlyBelonging, Climb, IsTree, entry, used_by, the_path_in}
use Rattle.net.specs.Walk.{Notes, Given}
use Rattle.net.specs.WalkRules.{WalkGives}
use Rattle.net.specs.Building.{p_of, q_of, built, lightest_of, least_lengths_of, shortest_of, between_of, laid_of, tree_of}
use Rattle.net.specs.Building as B
use Rattle.net.specs.Ready.{net_in}
use Rattle.crossings.specs.Lists.{net_on}
use Rattle.building.specs.Answers.{says_of}
use Rattle.margins.specs.Answers.{margin_says_of}
use Rattle.numbers.specs.Numbers.{Bytes, got}
use Rattle.reading.specs.Longest.{LongestRecord}
use Rattle.writing.specs.Writing.{net_written}
use Rattle.writing.specs.Answers.{result, says_written}
use Rattle.on_records.specs.Asked.{record_read}
use Rattle.net.specs.declared.Plan.{Plan}
use Rattle.on_records.specs.Says.{says_planned}
use Rattle.reading.specs.Reading.{longest_record, enough_bytes}
use Rattle.moves.specs.Moves.{in_form, move_refusal}
use Rattle.printing.specs.Printed.{printed, answer_text}
use Rattle.moving.specs.Handing.{the_wanted_by, handing, answer_handing, Hands}
use Rattle.drawn.specs.Drawn.{most, drawn_of}
use Rattle.drawn.specs.Says.{sixteenths, says_of as drawn_says}
use Rattle.drawn.specs.Rules.{AreSixteenths, RoundsTo, WithinTwo, Long, BothLong}
use Rattle.drawn.specs.declared.Run.TheVariants.{Straight, Corner}
use Rattle.promises.specs.Promised.{Says}
use Rattle.promises.specs.Entries as entry
use Rattle.promises.specs.Ratios.{RatiosAsStated, ScaledAsStated, ScaledBy, OwnScaledBy, SomeScaled}
use Rattle.promises.specs.Records.{RecordsBothWays}
use Rattle.promises.specs.Moves.{MovedAsStated, MovesBothWays}
use Rattle.net.specs.declared.Refusal.{Refusal}
use Rattle.std.specs.Prelude.{Result}

-- THE TREES of a net that building takes
-- what its walk is given: "Walk the lightest tree", the shortest tree and D for laying, and each post's own ratio
abbrev pub given : Net → Given
given n =
    record {
      segments = n.segments;
      posts = n.head.posts;
      walked = lightest_of every n;
      shortest = shortest_of every n;
      D = least_lengths_of every n;
      p = p_of n;
      q = q_of n;
    }

-- the list t and the laid posts are those of the notes that the rules of the walk give from the source, and the rules
-- give no other notes
pub record ByTheRules (n : Net) (t laid : List ℕ) : Type 0 where
  pub notes : Notes
  pub gives : WalkGives (given n) n.head.source notes
  pub no_others : (n' : Notes) → WalkGives (given n) n.head.source n' → n' ≡ notes
  pub entries_are : t ≡ notes.entries
  pub laid_are : laid ≡ notes.laid

pub record TreesAsStated (n : Net) : Type 0 where
  -- LIGHTEST: its entries are exactly the segments whose ends no chain of segments before them joins, hung from the
  -- source
  pub lightest_belong : ExactlyBelonging n.segments every n.head.posts n.head.source (lightest_of every n)
  pub lightest_tree : IsTree n.segments every n.head.posts n.head.source (lightest_of every n)
      (the_path_in n.segments n.head.posts (lightest_of every n))
  -- SHORTEST: "D(v) is the least length of a route from the source. Post v hangs by the lowest-numbered segment from
  -- some u with D(u) plus its length equal to D(v)."
  pub d_least : (v : ℕ) → v < n.head.posts → IsLeast n.segments every (length_at n.segments) n.head.source v
      (at (least_lengths_of every n) v)
  pub shortest_hangs : (v : ℕ) → v < n.head.posts → (v ≡ n.head.source → ⊥)
      → HangsBy n.segments every (length_at n.segments) (least_lengths_of every n) v (entry (shortest_of every n) v)
  pub shortest_tree : IsTree n.segments every n.head.posts n.head.source (shortest_of every n)
      (the_path_in n.segments n.head.posts (shortest_of every n))
  -- BETWEEN: the third list and the laid posts are what document 01's rules for the walk give, and the rules give
  -- nothing else
  pub walk_by_the_rules : ByTheRules n (between_of every n) (laid_of every n)
  pub between_tree : IsTree n.segments every n.head.posts n.head.source (between_of every n)
      (the_path_in n.segments n.head.posts (between_of every n))

-- WHAT BUILDING LEAVES
-- the answer's length and radius are those of the tree list t: the length of the set of the segments by which its
-- posts hang; "Radius is the longest path from the source in that tree": no path is longer, and one is as long
pub record Measures (n : Net) (t : List ℕ) (m : Measured) : Type 0 where
  pub length_is : m.length ≡ set_length n.segments (used_by n.head.posts t)
  pub none_longer : (v long : ℕ) → v < n.head.posts → Climb n.segments every t n.head.source v long
      → long ≤ m.radius
  pub one_as_long : (v : ℕ) × (v < n.head.posts) × Climb n.segments every t n.head.source v m.radius

-- a lent list that held `before` now begins with the tree t, and is as it was behind it
pub record Holds (n : Net) (t before now : List ℕ) : Type 0 where
  pub tree : take n.head.posts now ≡ t
  pub rest : drop n.head.posts now ≡ drop n.head.posts before

-- of a net n, of the three lists before and after, and of what the answer says
pub record BuiltAsStated (n : Net) (l s w l' s' w' : List ℕ) (lightest shortest between : Measured) (laid : ℕ) : Type 0
  where
    pub as_stated : TreesAsStated n
    pub holds_lightest : Holds n (lightest_of every n) l l'
    pub holds_shortest : Holds n (shortest_of every n) s s'
    pub holds_between : Holds n (between_of every n) w w'
    pub measures_lightest : Measures n (take n.head.posts l') lightest
    pub measures_shortest : Measures n (take n.head.posts s') shortest
    pub measures_between : Measures n (take n.head.posts w') between
    pub laid_is : laid ≡ length (laid_of every n)

-- A RECORD THAT WAS PLANNED: it reads as a net, of which the same holds, and the plan q has its head and the number of
-- its segments
pub record PlannedAsStated (bytes l s w l' s' w' : List ℕ) (q : Plan) : Type 0 where
  pub n : Net
  pub next : ℕ
  pub read_is : record_read bytes ≡ got n next
  pub head_is : q.head ≡ n.head
  pub count_is : q.count ≡ length n.segments
  pub built_is : BuiltAsStated n l s w l' s' w' q.built.lightest q.built.shortest q.built.between q.built.laid

-- A MARGIN z that is given for a post in the named tree: "It is signed, and below zero exactly when the post breaks the
-- limit. For the source it is 0."
pub record MarginAsStated (n : Net) (t : Tree) (post : ℕ) (z : ℤ) : Type 0 where
  -- the trees and the least lengths that it is worked out from
  pub as_stated : TreesAsStated n
  -- "(p + q) × D minus q × path in the tree", at the post's own ratio
  pub difference : z ≡ sub_ℕ ((p_of n post + q_of n post) * at (least_lengths_of every n) post)
      (q_of n post * the_path_in n.segments n.head.posts (tree_of every n t) post)
  pub below_zero : lt_z z (pos 0)
      ≡ ltb ((p_of n post + q_of n post) * at (least_lengths_of every n) post)
      (q_of n post * the_path_in n.segments n.head.posts (tree_of every n t) post)
  pub zero_at_limit : (z ≡ pos 0)
      ↔ ((p_of n post + q_of n post) * at (least_lengths_of every n) post ≡ q_of n post * the_path_in n.segments
      n.head.posts (tree_of every n t) post)
  pub source_zero : post ≡ n.head.source → z ≡ pos 0
  -- no post breaks its limit in the third tree, nor in the shortest
  pub between_within : t ≡ Between → lt_z z (pos 0) ≡ false
  pub shortest_within : t ≡ Shortest → lt_z z (pos 0) ≡ false

-- DRAWN RUNS: "Round each drawn value up to the next whole sixteenth."
pub record DrawnAsStated : Type 0 where
  pub straight : (x : Float) {a : Result ℕ Refusal} → a ≡ drawn_of (Straight x) → (k : ℕ) → (drawn_says a ≡ sixteenths k) ↔ Long x k
  pub corner : (x y : Float) {a : Result ℕ Refusal} → a ≡ drawn_of (Corner x y) → (k : ℕ) → (drawn_says a ≡ sixteenths k)
      ↔ BothLong x y k
  -- "the answer is at least 16 times the exact length and less than 1 above it, and for a corner less than 2 above it,
  -- over whole numbers from the bits": of the floats ±m * 2 ^ e and ±n * 2 ^ f
  pub straight_within : (s : Bool) (m : ℕ) (e : ℤ) {a : Result ℕ Refusal} → a ≡ drawn_of (Straight (fin s m e)) → (k : ℕ)
      → drawn_says a ≡ sixteenths k → RoundsTo m e k
  pub corner_within : (s t : Bool) (m n : ℕ) (e f : ℤ) {a : Result ℕ Refusal} → a ≡ drawn_of (Corner (fin s m e) (fin t n f))
      → (k : ℕ) → drawn_says a ≡ sixteenths k → WithinTwo m e n f k
  -- a whole number of sixteenths stays what it is
  pub whole_same : (m : ℕ) (e : ℤ) (k : ℕ) → AreSixteenths m e k → 1 ≤ k → k ≤ most
      → {a : Result ℕ Refusal} → a ≡ drawn_of (Straight (fin false m e)) → drawn_says a ≡ sixteenths k

-- THE PROGRAM: "reads one record from standard input and prints the trees, or the one line of a refusal"
pub record ProgramAsStated : Type 2 where
  -- what is printed for a record is the text of its plan's answer, with the lists that planning leaves where each has
  -- an entry for as many posts as a net may have
  pub printed_is : Says entry.plan (λ κs (bytes, (l, (s, (w, _)))) a (_, (l', (s', (w', _)))).
      length l.now ≡ most_posts → length s.now ≡ most_posts → length w.now ≡ most_posts
      → printed bytes.now ≡ answer_text a l' s' w')
  -- "The program reads at most 15,372, .. so its answer is the reader's answer on the whole input": where what was read
  -- is as much of the input as there is room for, the text is what is printed for the whole input
  pub whole_input : Says entry.print (λ κs (input, (n, _)) r (_, (_, (out, _))). (bytes : List ℕ) → Bytes bytes
      → take n input.now ≡ take (length input.now) bytes → take r out ≡ printed bytes)
  pub reads_enough : Says entry.print (λ κs (input, _) r _. length input.now ≡ enough_bytes)

-- THE PROGRAM THAT MOVES: it hands on the record in the form that is wanted, or the one line of a refusal
pub record MoveProgramAsStated : Type 2 where
  -- what is handed on for a record is the move's answer in a room that takes the longest record: the front of the room
  -- where it says a length, the line of the refusal where it is refused
  pub to_second : Says entry.to_second (λ κs (bytes, (room, _)) a (_, (x, _)).
      length room.now ≡ longest_record → handing Second bytes.now ≡ answer_handing a x)
  pub to_first : Says entry.to_first (λ κs (bytes, (room, _)) a (_, (x, _)).
      length room.now ≡ longest_record → handing First bytes.now ≡ answer_handing a x)
  -- where what was read is as much of the input as there is room for, what is handed on is that for the whole input,
  -- and behind it the room is as it was
  pub whole_input : Says entry.hand_on (λ κs (way, (input, (n, (out, _)))) r (_, (_, (_, (out', _)))).
      (bytes : List ℕ) → Bytes bytes → take n input.now ≡ take (length input.now) bytes
      → Hands (handing (the_wanted_by way) bytes) out.now r out')
  pub reads_enough : Says entry.hand_on (λ κs (_, (input, _)) r _. length input.now ≡ enough_bytes)
  -- that room takes every record that a move makes, so 18 is never given for a net that was read
  pub room_enough : (wanted : Form) (bytes : List ℕ) (n : Net) (next : ℕ) → record_read bytes ≡ got n next
      → length (net_written (in_form wanted n)) ≤ longest_record
  pub no_eighteen : (wanted : Form) (bytes : List ℕ) (n : Net) (next : ℕ) → record_read bytes ≡ got n next
      → (place : ℕ) → move_refusal wanted n longest_record ≡ some (refusal 18 place) → ⊥

-- EVERY ENTRY
pub record Demand2 : Type 2 where
  -- over a lent list of segments
  pub build : Says entry.build
      (λ κs (h, (own, (segments, (l, (s, (w, _)))))) a (_, (_, (_, (l', (s', (w', _)))))).
      (x y z : Measured) (k : ℕ) → says_of a ≡ built x y z k
      → BuiltAsStated (net_on h own.p.now own.q.now segments.now) l.now s.now w.now l' s' w' x y z k)
  pub margin : Says entry.margin (λ κs (h, (own, (segments, (t, (post, _))))) a _.
      (z : ℤ) → margin_says_of a ≡ B.MarginAnswer.margin z
      → MarginAsStated (net_on h own.p.now own.q.now segments.now) t post z)
  -- over plain lists
  pub build_lists : Says entry.build_lists
      (λ κs (net, (l, (s, (w, _)))) r (_, (l', (s', (w', _)))).
      (x y z : Measured) (k : ℕ) → says_of r ≡ built x y z k
      → BuiltAsStated (net_in net) l.now s.now w.now l' s' w' x y z k)
  pub margin_lists : Says entry.margin_lists (λ κs (net, (t, (post, _))) r _.
      (z : ℤ) → margin_says_of r ≡ B.MarginAnswer.margin z → MarginAsStated (net_in net) t post z)
  -- on records
  pub plan : Says entry.plan (λ κs (bytes, (l, (s, (w, _)))) a (_, (l', (s', (w', _)))).
      (q : Plan) → says_planned a ≡ result q → PlannedAsStated bytes.now l.now s.now w.now l' s' w' q)
  pub record_margin : Says entry.record_margin (λ κs (bytes, (t, (post, _))) a _.
      (z : ℤ) → margin_says_of a ≡ B.MarginAnswer.margin z
      → (n : Net) (next : ℕ) → record_read bytes.now ≡ got n next → MarginAsStated n t post z)
  pub to_second : Says entry.to_second (λ κs (bytes, (room, _)) a (_, (x, _)).
      (size : ℕ) → says_written a ≡ result size → MovedAsStated Second bytes.now room.now size x)
  pub to_first : Says entry.to_first (λ κs (bytes, (room, _)) a (_, (x, _)).
      (size : ℕ) → says_written a ≡ result size → MovedAsStated First bytes.now room.now size x)
  -- "Forward then back must give the old bytes"
  pub moves : MovesBothWays
  -- of every net that is lent
  pub ratios : (h : Head) (p q : List ℕ) (segments : List Segment) → RatiosAsStated h p q segments
  -- "The ratio isn't reduced": the house ratio, in either form
  pub ratio : (h : Head) (k : ℕ) (p q : List ℕ) (segments : List Segment) → ScaledBy k (house h) (house (scaled k h))
      → ScaledAsStated h (scaled k h) p q p q segments (2 ≤ k)
  -- and the posts' own
  pub own_ratio : (h : Head) (k : ℕ → ℕ) (p q p₂ q₂ : List ℕ) (segments : List Segment) → OwnScaledBy h k p q p₂ q₂
      → ScaledAsStated h h p q p₂ q₂ segments (SomeScaled h k)
  pub records : RecordsBothWays
  -- "The longest record has 15,367 bytes"
  pub longest : LongestRecord
  pub drawn : DrawnAsStated
  pub program : ProgramAsStated
  pub move_program : MoveProgramAsStated
