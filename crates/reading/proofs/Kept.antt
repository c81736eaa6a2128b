-- What reading a record answers and leaves in two lists of ratios and three of segments: through the head, the posts' own ratios, the segments and the end, by the ways out of the code.
-- Relies on OneByOne, Passes, RoundTrip and net's laws of lists side by side.
use Prim.Native.Nat.{ℕ, ◌+◌, ◌*◌, ◌<◌, ◌≤◌}
use mathlib.Core.Path.{◌≡◌, refl, sym, ap, ◌∙◌}
use mathlib.Core.List.{List, [], ◌∷◌, ◌++◌, map}
use mathlib.Core.Bool.{Bool, true, false}
use mathlib.Core.Option.{some, none}
use native.Mathlib.Omega.{arith}
use lib.ListN.{length, take, drop}
use lib.Dec.{eqb}
use lib.Seq.{ext_get_or, length-take-le}
use borrow.Author.Tests.{eqb-true, eqb-false}
use Rattle.std.specs.Prelude.{Result, Ok, Err}
use Rattle.net.specs.Net.{Ratio, Net, no_ratio, ratio_at, ratios_of, own_of, segments_of, most_posts, most_segments}
use Rattle.net.specs.Ready.{net_at, Ready}
use Rattle.net.specs.Refusals.{refusal, first, head_lines}
use Rattle.net.specs.declared.Counted.{Counted}
use Rattle.net.specs.declared.Segment.{Segment}
use Rattle.net.specs.declared.Form.{Form}
use Rattle.net.specs.declared.Form.TheVariants.{First, Second}
use Rattle.net.specs.declared.Head.{Head}
use Rattle.net.specs.declared.Refusal.{Refusal}
use Rattle.net.proofs.Own as N
use Rattle.net.proofs.Own.{ratios_count}
use Rattle.net.proofs.Ready.{ready_count}
use Rattle.numbers.specs.Numbers.{Got, got, refused}
use Rattle.reading.specs.Reading.{Heading, formed, headed, heading, posts, the_own_read, segments, net_read}
use Rattle.reading.specs.Answers.{the_own_posts, OwnStored, SegmentsStored, read_answer, laid_in, ReadIn, ReadsLists}
use Rattle.writing.proofs.Lines.{head_sound}
use Rattle.reading.proofs.Steps.{formed_next, headed_next, heading_by, segment_next}
use Rattle.reading.proofs.OneByOne.{posts_one_by_one, segments_one_by_one, row_count, row_reaches}
use Rattle.reading.proofs.Passes.{post_next, own_first, own_second}
use Rattle.reading.proofs.Passes.{rest_head, rest_room, rest_few, few_ratios, rest_own, rest_segments, rest_more, rest_all, net_stops, net_rest}
use Rattle.reading.proofs.RoundTrip.{OwnIs, own_is, kept_with, sound_of_read}

-- each list is made of one number of each segment
fields : (xs ys ls : List ℕ) → length ys ≡ length xs → length ls ≡ length xs
    → (map (λ s. s.a) (segments_of xs ys ls) ≡ xs) × (map (λ s. s.b) (segments_of xs ys ls) ≡ ys) × (map (λ s. s.length) (segments_of xs ys ls) ≡ ls)
fields [] [] [] p q = (refl, refl, refl)
fields [] [] (z ∷ ls) p q = absurd (omega arith)
fields [] (z ∷ ys) ls p q = absurd (omega arith)
fields (x ∷ xs) [] ls p q = absurd (omega arith)
fields (x ∷ xs) (y ∷ ys) [] p q = absurd (omega arith)
fields (x ∷ xs) (y ∷ ys) (z ∷ ls) p q =
    let f = fields xs ys ls (omega arith) (omega arith) in
    (ap (λ (l : List ℕ). x ∷ l) f.0, ap (λ (l : List ℕ). y ∷ l) f.1, ap (λ (l : List ℕ). z ∷ l) f.2)

-- A REFUSAL OF THE RECORD: nothing is said of the lists
pub read_refused : {g : Got Net} {r : Refusal} (p q a b l : List ℕ) → g ≡ refused r → ReadIn g (Err r) p q a b l
read_refused p q a b l e =
    record {
      answers = rw e;
      stored = λ n next k. (let z : ◌≡◌ {A = ℕ} 0 1 = cc in absurd (omega arith));
      stored_own = λ n next k. (let z : ◌≡◌ {A = ℕ} 0 1 = cc in absurd (omega arith));
    }

-- THE POSTS' OWN RATIOS that were read, as the two lists hold them
module _ (bytes : List ℕ) (h : Head) (at : ℕ) where
  own_posts_law : the_own_read bytes h at ≡ posts bytes h.source 0 (the_own_posts h.form h.posts) at
  own_posts_law = go h.form refl
    where
      go : (f : Form) → h.form ≡ f → the_own_read bytes h at ≡ posts bytes h.source 0 (the_own_posts f h.posts) at
      go First e = own_first bytes h at e ∙ sym ((posts_one_by_one bytes h.source).none_left 0 at)
      go Second e = own_second bytes h at e

  module _ {own : List Ratio} {mid : ℕ} (e : the_own_read bytes h at ≡ got own mid) where
    own_next : mid ≤ at + 8 * h.posts
    own_next = go h.form refl
      where
        go : (f : Form) → h.form ≡ f → mid ≤ at + 8 * h.posts
        go First g = let y = sym (own_first bytes h at g) ∙ e in let z : at ≡ mid = cc in omega arith
        go Second g = row_reaches (posts_one_by_one bytes h.source) 8 (post_next bytes h.source) h.posts (sym (own_second bytes h at g) ∙ e)

    own_stored : (l : List Ratio) → h.posts ≤ length l → ((v : ℕ) → v < the_own_posts h.form h.posts → (v ≡ h.source → ⊥) → ratio_at l v ≡ ratio_at own v) → own_of h l ≡ own
    own_stored l enough same = go h.form refl
      where
        is : OwnIs bytes h at own mid
        is = own_is bytes h at own mid e

        at_post : h.form ≡ Second → (v : ℕ) → v < h.posts → (b : Bool) → eqb v h.source ≡ b → ratio_at (own_of h l) v ≡ ratio_at own v
        at_post g v k true c = let z = eqb-true v h.source c in rw z ((kept_with h l [] enough).source_blank ∙ sym is.blank)
        at_post g v k false c =
            let ne = eqb-false v h.source c in
            let z : the_own_posts h.form h.posts ≡ h.posts = rw g in
            N.own_at h l g v (omega arith) ne ∙ same v (omega arith) ne

        go : (f : Form) → h.form ≡ f → own_of h l ≡ own
        go First g = N.own_first h l g ∙ sym (is.none_first g)
        go Second g = ext_get_or no_ratio (own_of h l) own (omega (arith, N.own_count h l g, is.all_second g)) (λ v k. at_post g v (omega (arith, N.own_count h l g)) (eqb v h.source) refl)

-- FROM STEP TO STEP: the form, the head's five numbers
module _ (bytes : List ℕ) where
  module _ {form : Form} {start : ℕ} (e : formed bytes 0 ≡ got form start) where
    pub head_is : {h : Heading} {at : ℕ} → headed bytes form start ≡ got h at → heading bytes 0 ≡ got h at
    head_is f = rw (heading_by, e) f

    pub start_near : start ≤ 4
    start_near = formed_next bytes 0 form start e

    pub head_near : {h : Heading} {at : ℕ} → headed bytes form start ≡ got h at → at ≤ 24
    head_near {h} {at} f = omega (arith, start_near, headed_next bytes form start h at f)

  module _ (room ratioRoom : ℕ) where
    pub form_refused : {r : Refusal} → formed bytes 0 ≡ refused r → net_read bytes room ratioRoom 0 ≡ refused r
    form_refused e = net_stops bytes room ratioRoom 0 (rw (heading_by, e))

    pub head_refused : {form : Form} {start : ℕ} {r : Refusal} → formed bytes 0 ≡ got form start → headed bytes form start ≡ refused r → net_read bytes room ratioRoom 0 ≡ refused r
    head_refused e f = net_stops bytes room ratioRoom 0 (rw (heading_by, e, f))

    -- then 1 to 4, and 8 of the segments and of the ratios
    module _ {h : Heading} {at : ℕ} (e : heading bytes 0 ≡ got h at) where
      pub lines_refused : {r : Refusal} → first (head_lines h.head h.count) ≡ some r → net_read bytes room ratioRoom 0 ≡ refused r
      lines_refused f = net_rest bytes room ratioRoom 0 e ∙ rest_head bytes room ratioRoom h at f

      module _ (g : first (head_lines h.head h.count) ≡ none) where
        pub few_posts : h.head.posts ≤ most_posts
        few_posts = (head_sound h.head h.count g).0.posts_sound.few_posts

        pub few_own : the_own_posts h.head.form h.head.posts ≤ most_posts
        few_own = go h.head.form
          where
            go : (f : Form) → the_own_posts f h.head.posts ≤ most_posts
            go First = omega arith
            go Second = few_posts

        pub few_segments : h.count ≤ most_segments
        few_segments = (head_sound h.head h.count g).1

        pub room_short : room < h.count → net_read bytes room ratioRoom 0 ≡ refused (refusal 8 0)
        room_short l = net_rest bytes room ratioRoom 0 e ∙ rest_room bytes room ratioRoom h at g l

        pub ratios_short : h.count ≤ room → ratioRoom < h.head.posts → net_read bytes room ratioRoom 0 ≡ refused (refusal 8 0)
        ratios_short k l = net_rest bytes room ratioRoom 0 e ∙ rest_few bytes room ratioRoom h at g k (few_ratios h.head.posts ratioRoom l)

        -- then the posts' own ratios
        module _ (k : h.count ≤ room) (j : h.head.posts ≤ ratioRoom) where
          pub own_refused : {r : Refusal} → posts bytes h.head.source 0 (the_own_posts h.head.form h.head.posts) at ≡ refused r → net_read bytes room ratioRoom 0 ≡ refused r
          own_refused f = net_rest bytes room ratioRoom 0 e ∙ rest_own bytes room ratioRoom h at g k j (own_posts_law bytes h.head at ∙ f)

          module _ {own : List Ratio} {mid : ℕ} (o : posts bytes h.head.source 0 (the_own_posts h.head.form h.head.posts) at ≡ got own mid) where
            own_read : the_own_read bytes h.head at ≡ got own mid
            own_read = own_posts_law bytes h.head at ∙ o

            pub mid_near : mid ≤ at + 8 * most_posts
            mid_near = omega (arith, own_next bytes h.head at own_read, few_posts)

            -- then the segments
            pub segments_refused : {r : Refusal} → segments bytes h.head.posts 0 h.count mid ≡ refused r → net_read bytes room ratioRoom 0 ≡ refused r
            segments_refused f = net_rest bytes room ratioRoom 0 e ∙ rest_segments bytes room ratioRoom h at g k j own_read f

            module _ {ss : List Segment} {next : ℕ} (f : segments bytes h.head.posts 0 h.count mid ≡ got ss next) where
              -- where they end is a place that a refusal can name
              pub end_near : next ≤ mid + 12 * most_segments
              end_near = omega (arith, row_reaches (segments_one_by_one bytes h.head.posts) 12 (segment_next bytes h.head.posts) h.count f, few_segments)

              -- then the end
              pub bytes_left : next < length bytes → net_read bytes room ratioRoom 0 ≡ refused (refusal 12 next)
              bytes_left m = net_rest bytes room ratioRoom 0 e ∙ rest_more bytes room ratioRoom h at g k j own_read f m

              pub all_read : length bytes ≤ next → {p q x y l : List ℕ} → length p ≡ most_posts → length q ≡ most_posts
                  → OwnStored h.head.source (the_own_posts h.head.form h.head.posts) (posts bytes h.head.source 0 (the_own_posts h.head.form h.head.posts) at) p q
                  → SegmentsStored h.count (segments bytes h.head.posts 0 h.count mid) x y l
                  → ReadIn (net_read bytes room ratioRoom 0) (Ok (record { head = h.head; count = h.count })) p q x y l
              all_read m {p} {q} {x} {y} {l} long-p long-q s t =
                  let r = net_rest bytes room ratioRoom 0 e ∙ rest_all bytes room ratioRoom h at g k j own_read f m in
                  let c = row_count (segments_one_by_one bytes h.head.posts) h.count f in
                  let lent : h.head.posts ≤ length (ratios_of p q) = omega (arith, ratios_count p q, few_posts) in
                  let is = own_stored bytes h.head at own_read (ratios_of p q) lent (s.stored own mid o) in
                  record {
                    answers = rw (r, c);
                    stored = λ n next k. (let u : ss ≡ n.segments = cc in let v : length n.segments ≡ h.count = rw (← u) c in rw v (t.stored ss _ f ∙ u));
                    stored_own = λ n next k. (let u : own ≡ n.own = cc in let v : h.head ≡ n.head = cc in rw (← v, ← u) is);
                  }

-- WHAT A READ RECORD IS: its net stands at the fronts of the lists, and is ready
pub record ReadNet (bytes : List ℕ) (room ratioRoom : ℕ) (head : Head) (m : ℕ) (p q a b l : List ℕ) : Type 0 where
  pub next : ℕ
  pub is : net_read bytes room ratioRoom 0 ≡ got (net_at head p q (take m a) (take m b) (take m l)) next
  pub few : m ≤ most_segments
  pub enough : m ≤ room
  pub enough_ratios : head.posts ≤ ratioRoom
  pub long : length (take m a) ≡ m
  pub ready : Ready head p q (take m a) (take m b) (take m l)

pub read_stopped : {g : Got Net} {v : Result Counted Refusal} {p q a b l : List ℕ} → ReadIn g v p q a b l → {r : Refusal} → v ≡ Err r → g ≡ refused r
read_stopped {g} {v} i {r} f = go g i.answers
  where
    go : (g : Got Net) → v ≡ read_answer g → g ≡ refused r
    go (got n next) e = let z : ◌≡◌ {A = ℕ} 0 1 = cc in absurd (omega arith)
    go (refused q) e = cc

module _ (bytes : List ℕ) (room ratioRoom : ℕ) {v : Result Counted Refusal} {p q a b l : List ℕ} (i : ReadIn (net_read bytes room ratioRoom 0) v p q a b l) where
  pub read_net : {k : Counted} → length a ≡ most_segments → length b ≡ most_segments → length l ≡ most_segments → v ≡ Ok k → ReadNet bytes room ratioRoom k.head k.count p q a b l
  read_net {k = counted} x y z f = go (net_read bytes room ratioRoom 0) refl i.answers
    where
      go : (g : Got Net) → net_read bytes room ratioRoom 0 ≡ g → v ≡ read_answer g → ReadNet bytes room ratioRoom counted.head counted.count p q a b l
      go (got n next) e k =
          let same : ◌≡◌ {A = Counted} (record { head = n.head; count = length n.segments }) counted = cc in
          let h : n.head ≡ counted.head = ap (λ (k : Counted). k.head) same in
          let c : length n.segments ≡ counted.count = ap (λ (k : Counted). k.count) same in
          let w : segments_of (take counted.count a) (take counted.count b) (take counted.count l) ≡ n.segments = rw c at (i.stored n next e) in
          let o : own_of n.head (ratios_of p q) ≡ n.own = i.stored_own n next e in
          let u : n ≡ net_at counted.head p q (take counted.count a) (take counted.count b) (take counted.count l) = rw (← h, w, o) in
          let s = sound_of_read bytes room ratioRoom n next e in
          let d₁ = s.sound.few_segments in
          let d₂ = s.room_enough in
          record {
            next = next;
            is = e ∙ ap (λ (x : Net). got x next) u;
            few = omega arith;
            enough = omega arith;
            enough_ratios = rw h at s.ratios_enough;
            long = length-take-le counted.count a (omega arith);
            ready = record {
              b_level = length-take-le counted.count b (omega arith) ∙ sym (length-take-le counted.count a (omega arith));
              lengths_level = length-take-le counted.count l (omega arith) ∙ sym (length-take-le counted.count a (omega arith));
              sound = rw u at s.sound;
            };
          }
      go (refused x) e k = let z : ◌≡◌ {A = ℕ} 0 1 = cc in absurd (omega arith)

-- READING INTO LENT LISTS: what was read into u, v, x, y and z
module _ (bytes p q a b l : List ℕ) {room ratioRoom : ℕ} (e : room ≡ length (segments_of a b l)) (d : ratioRoom ≡ length (ratios_of p q)) {w : Result Counted Refusal} {u v x y z : List ℕ}
    (i : ReadIn (net_read bytes room ratioRoom 0) w u v x y z) where
  pub reads_refused : {r : Refusal} → w ≡ Err r → ReadsLists bytes p q a b l (Err r) p q a b l
  reads_refused {r} f =
      let g : net_read bytes (length (segments_of a b l)) (length (ratios_of p q)) 0 ≡ refused r = rw (e, d) at (read_stopped i f) in
      record { answers = rw g; p_is = rw g; q_is = rw g; a_is = rw g; b_is = rw g; lengths_are = rw g }

  pub reads_got : {head : Head} {m : ℕ} → ReadNet bytes room ratioRoom head m u v x y z → {p' q' a' b' l' : List ℕ}
      → p' ≡ laid_in head.form (λ o. o.p) head.source (own_of head (ratios_of u v)) p → q' ≡ laid_in head.form (λ o. o.q) head.source (own_of head (ratios_of u v)) q
      → a' ≡ take m x ++ drop (length (take m x)) a → b' ≡ take m y ++ drop (length (take m y)) b → l' ≡ take m z ++ drop (length (take m z)) l
      → ReadsLists bytes p q a b l (Ok (record { head = head; count = m })) p' q' a' b' l'
  reads_got {head} {m} n {p'} {q'} {a'} {b'} {l'} s t k o r =
      let g : net_read bytes (length (segments_of a b l)) (length (ratios_of p q)) 0 ≡ got (net_at head u v (take m x) (take m y) (take m z)) n.next = rw (e, d) at n.is in
      let w = n.ready in
      let c = ready_count w in
      let f = fields (take m x) (take m y) (take m z) w.b_level w.lengths_level in
      record {
        answers = rw (g, c, n.long);
        p_is = rw g s;
        q_is = rw g t;
        a_is = rw (g, f.0, c) k;
        b_is = rw (g, f.1, c, ← w.b_level) o;
        lengths_are = rw (g, f.2, c, ← w.lengths_level) r;
      }
