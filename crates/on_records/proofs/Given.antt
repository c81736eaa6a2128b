-- What a reading into five lists says of the record: a refusal, or that the ratios of two and the first so many segments of three are those of the net that was read
-- (`read_given`). And the contracts of the functions on records, from what they call. Relies on reading's answer.
use mathlib.Core.Path.{◌≡◌, refl, sym, ap, ◌∙◌}
use mathlib.Core.List.{List}
use Prim.Native.Nat.{ℕ}
use native.Mathlib.Omega.{arith}
use lib.ListN.{length, take}
use lib.Seq.{length-take-le}
use Rattle.net.specs.declared.Built.{Built}
use Rattle.net.specs.Net.{Net, every, most_posts, most_segments, own_of, ratios_of, segments_of}
use Rattle.net.specs.Building.{BuildAnswer, built, refused, build_of, margin_of}
use Rattle.net.proofs.Own.{ratios_count}
use Rattle.net.proofs.Ready.{ready_count}
use Rattle.net.specs.declared.Head.{Head}
use Rattle.net.specs.declared.Refusal.{Refusal}
use Rattle.net.specs.declared.Tree.{Tree}
use Rattle.building.specs.Answers.{answer_of, lent_of, Leaves}
use Rattle.margins.specs.Answers.{margin_answer_of}
use Rattle.numbers.specs.Numbers.{Got, got, refused as unread}
use Rattle.reading.specs.Answers.{ReadIn, read_answer}
use Rattle.reading.proofs.Kept.{read_stopped, read_net}
use Rattle.writing.specs.Answers.{Writes}
use Rattle.on_records.specs.Asked.{record_read, front_of, Front, planned_with, planned_as, Plans, PlansNet, Rewrites, margin_read}
use Rattle.building.specs.Answers.{Answer}
use Rattle.net.specs.declared.Plan.{Plan}
use Rattle.net.specs.declared.Counted.{Counted}
use Rattle.margins.specs.Answers.{MarginAnswer}
use Rattle.std.specs.Prelude.{Result, Ok, Err, IfOk}

-- the net of h, of the ratios of two lists and of the first m segments of three was read, and they are all there
pub record NetRead (bytes : List ℕ) (h : Head) (m : ℕ) (p q a b l : List ℕ) : Type 0 where
  pub next : ℕ
  pub is : record_read bytes ≡ got (front_of h m p q a b l) next
  pub count : length (segments_of (take m a) (take m b) (take m l)) ≡ m
  pub front : Front h m p q a b l

-- A NET IN SUCH LISTS has so many segments, and as many ratios are lent as a net may have posts
pub front_count : {h : Head} {m : ℕ} {p q a b l : List ℕ} → Front h m p q a b l → length (segments_of (take m a) (take m b) (take m l)) ≡ m
front_count {m = m} {a = a} f = ready_count f.ready ∙ length-take-le m a f.a_long

pub front_ratios : {h : Head} {m : ℕ} {p q a b l : List ℕ} → Front h m p q a b l → length (ratios_of p q) ≡ most_posts
front_ratios {p = p} {q = q} f = let x = f.p_long in let y = f.q_long in ratios_count p q ∙ rw (x, y)

-- OF A READING into five lists, which have places for as many posts and segments as a net may have
module _ (bytes : List ℕ) {v : Result Counted Refusal} {p q a b l : List ℕ} (e : ReadIn (record_read bytes) v p q a b l) where
  -- a refusal is reading's
  pub read_refused : {r : Refusal} → v ≡ Err r → record_read bytes ≡ unread r
  read_refused f = read_stopped e f

  -- otherwise the net of the first m segments of the lists was read
  pub read_given : {c : Counted} → length p ≡ most_posts → length q ≡ most_posts → length a ≡ most_segments → length b ≡ most_segments → length l ≡ most_segments
      → v ≡ Ok c → NetRead bytes c.head c.count p q a b l
  unfolding record_read
  read_given x y i j k f =
      let z = read_net bytes most_segments most_posts e i j k f in
      record {
        next = z.next;
        is = z.is;
        count = ready_count z.ready ∙ z.long;
        front = record {
          p_long = x;
          q_long = y;
          a_long = omega (arith, z.few);
          b_long = omega (arith, z.few);
          l_long = omega (arith, z.few);
          ready = z.ready;
        };
      }

  -- and so it was where the lists are as `Front` says
  pub read_front : {c : Counted} → v ≡ Ok c → Front c.head c.count p q a b l → NetRead bytes c.head c.count p q a b l
  read_front {c} f g = go (record_read bytes) refl e.answers
    where
      go : (x : Got Net) → record_read bytes ≡ x → v ≡ read_answer x → NetRead bytes c.head c.count p q a b l
      go (got n next) is k =
          let same : ◌≡◌ {A = Counted} (record { head = n.head; count = length n.segments }) c = cc in
          let h : n.head ≡ c.head = ap (λ (k : Counted). k.head) same in
          let m : length n.segments ≡ c.count = ap (λ (k : Counted). k.count) same in
          let w : segments_of (take c.count a) (take c.count b) (take c.count l) ≡ n.segments = rw m at (e.stored n next is) in
          let o : own_of n.head (ratios_of p q) ≡ n.own = e.stored_own n next is in
          let u : n ≡ front_of c.head c.count p q a b l = rw (← h, w, o) in
          record { next = next; is = is ∙ ap (λ (m : Net). got m next) u; count = front_count g; front = g }
      go (unread r) is k = let z : ◌≡◌ {A = ℕ} 0 1 = cc in absurd (omega arith)

  -- so where one was read, they are as `Front` says
  pub front_read : length p ≡ most_posts → length q ≡ most_posts → length a ≡ most_segments → length b ≡ most_segments → length l ≡ most_segments → IfOk v (λ c. Front c.head c.count p q a b l)
  front_read x y i j k = go v refl
    where
      go : (w : Result Counted Refusal) → v ≡ w → IfOk w (λ c. Front c.head c.count p q a b l)
      go (Ok c) f = (read_given x y i j k f).front
      go (Err r) f = tt

-- PLAN
pub plans_refused : (bytes l s w : List ℕ) (r : Refusal) → record_read bytes ≡ unread r → Plans bytes l s w (Err r) l s w
plans_refused bytes l s w r e = record { answer = rw e; lightest = rw e; shortest = rw e; between = rw e }

pub plans_read : (bytes l s w : List ℕ) {h : Head} {m : ℕ} {p q x y z : List ℕ} {r : Result Plan Refusal} {l' s' w' : List ℕ} → NetRead bytes h m p q x y z
    → PlansNet h m (front_of h m p q x y z) l s w r l' s' w' → Plans bytes l s w r l' s' w'
plans_read bytes l s w g j =
    let e = g.is in
    let c = g.count in
    record {
      answer = rw (e, c) j.answer;
      lightest = rw (e, c) j.lightest;
      shortest = rw (e, c) j.shortest;
      between = rw (e, c) j.between;
    }

-- what building answers in the code's enum is what it answers
as_planned : (h : Head) (m : ℕ) (x : BuildAnswer) → planned_as h m (answer_of x) ≡ planned_with h m x
as_planned h m (built l s w j) = refl
as_planned h m (refused r) = refl

-- what building leaves of such a net, where it says that it built one
pub plans_front : {h : Head} {m i k : ℕ} (p q a b c : List ℕ) {n : Net} {l s w : List ℕ} {v : Answer} {l' s' w' : List ℕ} {x : Built} → n ≡ front_of h m p q a b c → i ≡ m → k ≡ most_posts
    → Leaves n i k l s w v l' s' w' → v ≡ Ok x → PlansNet h m (front_of h m p q a b c) l s w (Ok (record { head = h; count = m; built = x })) l' s' w'
plans_front {h} {m} p q a b c {l = l} {s} {w} {v} en ei ek z e =
    let y = rw (en, ei, ek) at z in
    record {
      answer = ap (planned_as h m) (sym e) ∙ ap (planned_as h m) y.answer ∙ as_planned h m (build_of every _ m most_posts (lent_of l s w));
      lightest = y.lightest;
      shortest = y.shortest;
      between = y.between;
    }

-- REWRITE
pub writes_front : {h : Head} {m : ℕ} {p q a b l : List ℕ} {room : List ℕ} {r : Result ℕ Refusal} {room' : List ℕ} → Front h m p q a b l
    → Writes (front_of h m p q a b l) (length (segments_of (take m a) (take m b) (take m l))) (length (ratios_of p q)) room r room' → Writes (front_of h m p q a b l) m most_posts room r room'
writes_front f x = rw (front_count f, front_ratios f) at x

pub rewrites_refused : (bytes room : List ℕ) (r : Refusal) → record_read bytes ≡ unread r → Rewrites bytes room (Err r) room
rewrites_refused bytes room r e = record { answers = rw e; leaves = rw e }

pub rewrites_read : (bytes room : List ℕ) {h : Head} {m : ℕ} {p q x y z : List ℕ} {r : Result ℕ Refusal} {room' : List ℕ} → NetRead bytes h m p q x y z
    → Writes (front_of h m p q x y z) m most_posts room r room' → Rewrites bytes room r room'
rewrites_read bytes room g j = let e = g.is in let c = g.count in record { answers = rw (e, c) j.answers; leaves = rw (e, c) j.leaves }

-- MARGIN
pub margin_front : {h : Head} {m : ℕ} {p q a b l : List ℕ} (t : Tree) (post : ℕ) {r : MarginAnswer} → Front h m p q a b l
    → r ≡ margin_answer_of (margin_of every (front_of h m p q a b l) (length (segments_of (take m a) (take m b) (take m l))) (length (ratios_of p q)) t post)
    → r ≡ margin_answer_of (margin_of every (front_of h m p q a b l) m most_posts t post)
margin_front t post f x = rw (front_count f, front_ratios f) at x

pub margin_refused : (bytes : List ℕ) (t : Tree) (post : ℕ) (r : Refusal) → record_read bytes ≡ unread r → Err r ≡ margin_read bytes t post
margin_refused bytes t post r e = rw e

pub margin_read_law : (bytes : List ℕ) (t : Tree) (post : ℕ) {h : Head} {m : ℕ} {p q x y z : List ℕ} {r : MarginAnswer} → NetRead bytes h m p q x y z
    → r ≡ margin_answer_of (margin_of every (front_of h m p q x y z) m most_posts t post) → r ≡ margin_read bytes t post
margin_read_law bytes t post g j = let e = g.is in let c = g.count in rw (e, c) j
