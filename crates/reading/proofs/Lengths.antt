-- How long a record is: the longest good record has 15,367 bytes, and 15,372 bytes of a longer input are enough for the reader's answer on the whole.
-- Relies on RoundTrip, Steps, OneByOne and Passes, and on writing's Lines and Puts.
use Prim.Native.Nat.{ℕ, zero, suc, ◌+◌, ◌*◌, ◌-◌, ◌<◌, ◌≤◌}
use mathlib.Core.Bool.{Bool, true, false}
use mathlib.Core.Path.{◌≡◌, refl, sym, ap, ◌∙◌}
use mathlib.Core.List.{List, [], ◌∷◌, ◌++◌}
use mathlib.Core.Option.{Option, none, some}
use native.Mathlib.Omega.{arith}
use lib.Dec.{eqb, ltb}
use lib.ListN.{length, take, get_or, length-append}
use lib.Seq.{take_all, get_or-take, length-take-le}
use borrow.Author.Tests.{eqb-true, eqb-false, ltb-true, ltb-false, lt-leb, lt-ltb}
use Rattle.net.specs.Net.{Ratio, Net, ratio_at, every, nth_segment, most_segments}
use Rattle.net.specs.Refusals.{first, head_lines, room_of_ratios}
use Rattle.net.specs.Rules.{HeadSound, RatioSound, SegmentSound, NetSound}
use Rattle.net.specs.declared.Segment.{Segment}
use Rattle.net.specs.declared.Form.{Form}
use Rattle.net.specs.declared.Form.TheVariants.{First, Second}
use Rattle.net.specs.declared.Head.{Head}
use Rattle.net.specs.declared.Refusal.{Refusal}
use Rattle.numbers.specs.Numbers.{Bytes, Got, got, refused, groups, written, groups_at, number}
use Rattle.reading.specs.Reading.{longest_record, enough_bytes, Reading, and_then, unless, hold, Heading, room_lines, triple, formed, headed, heading, ratio, post, posts, own_in, the_own_read, segment, segments, ended, last_read, rest_read, net_read}
use Rattle.writing.specs.Writing as W
use Rattle.writing.specs.Writing.{form_written, head_written, ratio_written, post_written, posts_written, own_written, segment_written, segments_written, net_written}
use Rattle.numbers.proofs.Groups.{number_next}
use Rattle.numbers.proofs.Runs.{number_is}
use Rattle.numbers.proofs.Loops.{two_bytes, three_bytes}
use Rattle.writing.proofs.Lines.{head_sound, ratio_sound, segment_sound}
use Rattle.writing.proofs.Puts.{head_length, numbers_length, segment_length}
use Rattle.writing.proofs.Posts.{source_written, post_written_law}
use Rattle.reading.proofs.Steps.{triple_next, segment_by, headed_by, heading_by, formed_next, ratio_is, segment_is}
use Rattle.reading.proofs.OneByOne.{segments_one_by_one, row_count}
use Rattle.reading.proofs.Passes.{at_source, not_source, net_by}
use Rattle.reading.proofs.RoundTrip.{Kept, OwnIs, own_is, heading_run, segment_run, segments_run, segments_sound, written_of_read}

-- a head takes at most 11 bytes, a post 4, a segment 7
form_one : (f : Form) → length (form_written f) ≤ 1
unfolding form_written written groups
form_one First = omega arith
form_one Second = omega arith

head_eleven : (h : Head) (count : ℕ) → HeadSound h → count ≤ most_segments → length (head_written h count) ≤ 11
head_eleven h count s c =
    let f = s.posts_sound.few_posts in
    let g = s.source_in in
    let p = s.small_p in
    let q = s.small_q in
    omega (arith, form_one h.form, head_length h count, numbers_length h count, two_bytes h.posts (omega arith), two_bytes h.source (omega arith), two_bytes h.p (omega arith), two_bytes h.q (omega arith), two_bytes count (omega arith))

ratio_four : (r : Ratio) → RatioSound r → length (ratio_written r) ≤ 4
unfolding ratio_written
ratio_four r t =
    let p = t.small_p in
    let q = t.small_q in
    simp length-append (omega (arith, two_bytes r.p (omega arith), two_bytes r.q (omega arith)))

-- all posts but the source: `below` says how many of them stand before post v
post_four : (source v : ℕ) (own : List Ratio) → ((v ≡ source → ⊥) → RatioSound (ratio_at own v)) → length (post_written source own v) ≤ 4
post_four source v own t = go (eqb v source) refl
  where
    go : (b : Bool) → eqb v source ≡ b → length (post_written source own v) ≤ 4
    go true e = rw (source_written source own v (eqb-true v source e)) (omega arith)
    go false e = let k = eqb-false v source e in rw (post_written_law source own v k) (ratio_four (ratio_at own v) (t k))

-- posts behind the source, or before it
posts_four : (source v k : ℕ) (own : List Ratio) → ((u : ℕ) → v ≤ u → u < v + k → (u ≡ source → ⊥) → RatioSound (ratio_at own u)) → length (posts_written source own v k) ≤ 4 * k
unfolding posts_written
posts_four source v zero own t = omega arith
posts_four source v (suc k) own t =
    let e = posts_four source (v + 1) k own (λ u l m ne. t u (omega arith) (omega arith) ne) in
    simp length-append (omega (arith, post_four source v own (t v (omega arith) (omega arith))))

-- among them is the source
posts_less : (source v k : ℕ) (own : List Ratio) → v ≤ source → source < v + k → ((u : ℕ) → v ≤ u → u < v + k → (u ≡ source → ⊥) → RatioSound (ratio_at own u))
    → length (posts_written source own v k) + 4 ≤ 4 * k
unfolding posts_written
posts_less source v zero own l m t = absurd (omega arith)
posts_less source v (suc k) own l m t = go (eqb v source) refl (λ a b. posts_less source (v + 1) k own a b on)
  where
    on : (u : ℕ) → v + 1 ≤ u → u < v + 1 + k → (u ≡ source → ⊥) → RatioSound (ratio_at own u)
    on u a b ne = t u (omega arith) (omega arith) ne

    go : (b : Bool) → eqb v source ≡ b → (v + 1 ≤ source → source < v + 1 + k → length (posts_written source own (v + 1) k) + 4 ≤ 4 * k)
        → length (post_written source own v ++ posts_written source own (v + 1) k) + 4 ≤ 4 * suc k
    go true e less = rw (source_written source own v (eqb-true v source e)) (omega (arith, posts_four source (v + 1) k own on))
    go false e less =
        let ne = eqb-false v source e in
        let lt : v + 1 ≤ source = omega arith in
        simp length-append (omega (arith, post_four source v own (t v (omega arith) (omega arith)), less lt (omega arith)))

-- the own ratios of a net take 1,020 bytes at most: "255 × 4"
own_most : (n : Net) → NetSound every (length n.segments) n → Kept n → length (own_written n.head n.own) ≤ 1020
unfolding own_written
own_most n s k = go n.head.form refl
  where
    go : (f : Form) → n.head.form ≡ f → length (W.own_in f n.head.source n.own) ≤ 1020
    go First e = omega arith
    go Second e =
        let c = k.second_all e in
        let few = s.head_sound.posts_sound.few_posts in
        let src = s.head_sound.source_in in
        omega (arith, posts_less n.head.source 0 (length n.own) n.own (omega arith) (omega arith) (λ u a b ne. s.ratios_sound u (omega arith) ne))

segment_seven : (posts : ℕ) (s : Segment) → posts ≤ 256 → SegmentSound posts s → length (segment_written s) ≤ 7
segment_seven posts s few t =
    let a = t.ends_sound.a_in in
    let b = t.ends_sound.b_in in
    let l = t.not_too_long in
    omega (arith, segment_length s, two_bytes s.a (omega arith), two_bytes s.b (omega arith), three_bytes s.length (omega arith))

segments_seven : (posts : ℕ) (ss : List Segment) → posts ≤ 256 → ((j : ℕ) → j < length ss → SegmentSound posts (nth_segment ss j))
    → length (segments_written ss) ≤ 7 * length ss
unfolding segments_written
segments_seven posts [] few all = omega arith
segments_seven posts (s ∷ ss) few all =
    let e = segments_seven posts ss few (λ j l. all (suc j) (omega arith)) in
    simp length-append (omega (arith, segment_seven posts s few (all 0 (omega arith))))

-- THE LONGEST RECORD
pub written_longest : (n : Net) → NetSound every (length n.segments) n → Kept n → length (net_written n) ≤ longest_record
unfolding net_written
written_longest n s k =
    let c = s.few_segments in
    simp length-append
    (omega (
      arith,
      head_eleven n.head (length n.segments) s.head_sound s.few_segments,
      own_most n s k,
      segments_seven n.head.posts n.segments s.head_sound.posts_sound.few_posts (λ j l. s.segments_sound j l refl),
    ))

pub record_longest : (bytes : List ℕ) (room ratioRoom : ℕ) (n : Net) (next : ℕ) → Bytes bytes → net_read bytes room ratioRoom 0 ≡ got n next → length bytes ≤ longest_record
record_longest bytes room ratioRoom n next all e =
    let w = written_of_read bytes room ratioRoom n next all e in
    omega (arith, written_longest n w.good.sound w.good.kept, ap (λ (l : List ℕ). length l) w.written_is)

-- the own ratios that a sound head says reach no further than 1,020 bytes
own_near : (bytes : List ℕ) → Bytes bytes → (h : Head) (at : ℕ) (own : List Ratio) (mid : ℕ) → HeadSound h → the_own_read bytes h at ≡ got own mid → mid ≤ at + 1020
unfolding own_written
own_near bytes all h at own mid s e =
    let o = own_is bytes h at own mid e in
    let w = o.stands all in
    let z = w.size in
    go h.form refl o z
  where
    go : (f : Form) → h.form ≡ f → OwnIs bytes h at own mid → mid ≡ at + length (W.own_in f h.source own) → mid ≤ at + 1020
    go First g o z = omega arith
    go Second g o z =
        let c = o.all_second g in
        let few = s.posts_sound.few_posts in
        let src = s.source_in in
        omega (arith, posts_less h.source 0 (length own) own (omega arith) (omega arith) (λ u a b ne. o.sound u (omega arith) ne))

-- THE FRONT OF A LONGER INPUT
-- two ways on from what was read agree where they agree after it
then_same : {X Y : Type 0} (g : Got X) (f f' : X → Reading Y) → ((x : X) (i : ℕ) → g ≡ got x i → f x i ≡ f' x i) → and_then g f ≡ and_then g f'
then_same (got x i) f f' h = h x i refl
then_same (refused r) f f' h = refl

-- where no line refuses, the reading goes on from the same place
passes : (o : Option Refusal) (at i : ℕ) {x : Unit {0}} → unless o at ≡ got x i → (o ≡ none) × (i ≡ at)
passes none at i e = (refl, (let z : at ≡ i = cc in sym z))
passes (some r) at i e = let z : ◌≡◌ {A = ℕ} 0 1 = cc in absurd (omega arith)

module _ (bytes : List ℕ) (l : ℕ) (longer : l ≤ length bytes) where
  abbrev cut : List ℕ
  cut = take l bytes

  cut_length : length cut ≡ l
  cut_length = length-take-le l bytes longer

  groups_cut : (start k unit low at : ℕ) → at + k ≤ l → groups_at cut start k unit low at ≡ groups_at bytes start k unit low at
  unfolding groups_at
  groups_cut start zero unit low at h = refl
  groups_cut start (suc k) unit low at h =
      let a : at < length cut = (let c = cut_length in omega arith) in
      let b : at < length bytes = omega arith in
      rw (lt-leb _ _ a, lt-leb _ _ b, get_or-take l bytes at 0 (omega arith), groups_cut start k (128 * unit) (low + unit * (get_or bytes at 0 - 128)) (at + 1) (omega arith))

  number_cut : (at : ℕ) → at + 4 ≤ l → number cut at ≡ number bytes at
  unfolding number
  number_cut at h = groups_cut at 4 1 0 at h

  triple_cut : (at : ℕ) → at + 12 ≤ l → triple cut at ≡ triple bytes at
  unfolding triple
  triple_cut at h =
      rw (number_cut at (omega arith))
      (then_same (number bytes at) _ _ (λ a i e. (let p = number_next bytes at a i e in
      rw (number_cut i (omega arith))
      (then_same (number bytes i) _ _ (λ b j f. (let q = number_next bytes i b j f in
      rw (number_cut j (omega arith))))))))

  headed_cut : (form : Form) (at : ℕ) → at + 20 ≤ l → headed cut form at ≡ headed bytes form at
  headed_cut form at h =
      rw (headed_by cut form at, headed_by bytes form at, triple_cut at (omega arith))
      (then_same (triple bytes at) _ _ (λ t i e. (let p = triple_next bytes at t i e in
      rw (number_cut i (omega arith))
      (then_same (number bytes i) _ _ (λ b j f. (let q = number_next bytes i b j f in
      rw (number_cut j (omega arith))))))))

  formed_cut : 4 ≤ l → formed cut 0 ≡ formed bytes 0
  unfolding formed
  formed_cut h = rw (number_cut 0 (omega arith))

  heading_cut : 24 ≤ l → heading cut 0 ≡ heading bytes 0
  heading_cut h =
      rw (heading_by cut 0, heading_by bytes 0, formed_cut (omega arith))
      (then_same (formed bytes 0) _ _ (λ f i e. headed_cut f i (omega (arith, formed_next bytes 0 f i e))))

  ratio_cut : (v at : ℕ) → at + 8 ≤ l → ratio cut v at ≡ ratio bytes v at
  unfolding ratio
  ratio_cut v at h =
      rw (number_cut at (omega arith))
      (then_same (number bytes at) _ _ (λ a i e. (let p = number_next bytes at a i e in
      rw (number_cut i (omega arith)))))

  segment_cut : (posts i at : ℕ) → at + 12 ≤ l → segment cut posts i at ≡ segment bytes posts i at
  segment_cut posts i at h = rw (segment_by cut posts i at, segment_by bytes posts i at, triple_cut at h)

  module _ (all : Bytes bytes) (enough : enough_bytes ≤ l) where
    post_cut : (source v at : ℕ) → at + 8 ≤ l → post cut source v at ≡ post bytes source v at
    post_cut source v at h = go (eqb v source) refl
      where
        go : (b : Bool) → eqb v source ≡ b → post cut source v at ≡ post bytes source v at
        go true e = let k = eqb-true v source e in at_source cut source v at k ∙ sym (at_source bytes source v at k)
        go false e = let k = eqb-false v source e in not_source cut source v at k ∙ ratio_cut v at h ∙ sym (not_source bytes source v at k)

    -- a post that was read takes 4 bytes at most
    post_near : (source v at : ℕ) (r : Ratio) (j : ℕ) → post bytes source v at ≡ got r j → j ≤ at + 4
    post_near source v at r j e = go (eqb v source) refl
      where
        go : (b : Bool) → eqb v source ≡ b → j ≤ at + 4
        go true f =
            let x = sym (at_source bytes source v at (eqb-true v source f)) ∙ e in
            let z : at ≡ j = cc in
            omega arith
        go false f =
            let k = sym (not_source bytes source v at (eqb-false v source f)) ∙ e in
            let o = ratio_is bytes v at r j k in
            let t = ratio_sound r v o.not_refused in
            let p = t.small_p in
            let q = t.small_q in
            let a = (number_is all o.first_is).stands.size in
            let b = (number_is all o.second_is).stands.size in
            omega (arith, two_bytes r.p (omega arith), two_bytes r.q (omega arith))

    posts_cut : (source k v at : ℕ) → at ≤ 11 + 4 * v → v + k ≤ 256 → posts cut source v k at ≡ posts bytes source v k at
    unfolding posts
    posts_cut source zero v at near h = refl
    posts_cut source (suc k) v at near h =
        rw (post_cut source v at (omega arith))
        (then_same (post bytes source v at) _ _ (λ r j e. (let n = post_near source v at r j e in rw (posts_cut source k (v + 1) j (omega arith) (omega arith)))))

    segments_cut : (k i posts at : ℕ) → posts ≤ 256 → at ≤ 1031 + 7 * i → i + k ≤ 2048 → segments cut posts i k at ≡ segments bytes posts i k at
    unfolding segments
    segments_cut zero i posts at few near h = refl
    segments_cut (suc k) i posts at few near h =
        rw (segment_cut posts i at (omega arith))
        (then_same (segment bytes posts i at) _ _ (λ s j e.
        (let t = segment_sound posts s i (segment_is bytes posts i at s j e).not_refused in
        let w = segment_run all posts i e in
        let z = w.size in
        rw (segments_cut k (i + 1) posts j few (omega (arith, segment_seven posts s few t)) (omega arith)))))

    ended_cut : (at : ℕ) → at < l → ended cut at ≡ ended bytes at
    unfolding ended
    ended_cut at h =
        let a : at < length cut = (let c = cut_length in omega arith) in
        let b : at < length bytes = omega arith in
        rw (lt-ltb _ _ a, lt-ltb _ _ b)

    segments_reach : (posts k at : ℕ) (ss : List Segment) (next : ℕ) → posts ≤ 256 → segments bytes posts 0 k at ≡ got ss next → next ≤ at + 7 * k
    segments_reach posts k at ss next few e =
        let w = segments_run all posts k 0 e in
        let z = w.size in
        let c = row_count (segments_one_by_one bytes posts) k e in
        omega (arith, segments_seven posts ss few (segments_sound bytes posts k 0 at ss next e))

    own_cut : (h : Head) (at : ℕ) → h.posts ≤ 256 → at ≤ 11 → the_own_read cut h at ≡ the_own_read bytes h at
    unfolding the_own_read
    own_cut h at few near = go h.form
      where
        go : (f : Form) → own_in cut f h at ≡ own_in bytes f h at
        go First = refl
        go Second = posts_cut h.source h.posts 0 at (omega arith) (omega arith)

    last_cut : (h : Heading) (own : List Ratio) (at : ℕ) → h.head.posts ≤ 256 → h.count ≤ 2048 → at ≤ 1031 → last_read cut h own at ≡ last_read bytes h own at
    unfolding last_read
    last_cut h own at few most near =
        rw (segments_cut h.count 0 h.head.posts at few (omega arith) (omega arith))
        (then_same (segments bytes h.head.posts 0 h.count at) _ _ (λ ss k o.
        (let r = segments_reach h.head.posts h.count at ss k few o in
        rw (ended_cut k (omega arith)))))

    -- the own ratios of a sound head reach no further than 1,020 bytes
    own_reach : (h : Head) (at : ℕ) (own : List Ratio) (mid : ℕ) → HeadSound h → the_own_read bytes h at ≡ got own mid → mid ≤ at + 1020
    own_reach h at own mid s e = own_near bytes all h at own mid s e

    rest_cut : (room ratioRoom : ℕ) (h : Heading) (at : ℕ) → heading bytes 0 ≡ got h at → rest_read cut room ratioRoom h at ≡ rest_read bytes room ratioRoom h at
    unfolding rest_read hold
    rest_cut room ratioRoom h at e =
        then_same (unless (first (head_lines h.head h.count)) at) _ _ (λ _ i f.
        (let p = passes (first (head_lines h.head h.count)) at i f in
        let s = head_sound h.head h.count p.0 in
        let w = heading_run all e in
        let z = w.size in
        let t = head_eleven h.head h.count s.0 s.1 in
        let few = s.0.posts_sound.few_posts in
        then_same (unless (first (room_lines room h.count)) i) _ _ (λ _ j g.
        (let q = passes (first (room_lines room h.count)) i j g in
        then_same (unless (first (room_of_ratios h.head.posts ratioRoom)) j) _ _ (λ _ j' g'.
        (let q' = passes (first (room_of_ratios h.head.posts ratioRoom)) j j' g' in
        rw (own_cut h.head j' few (omega (arith, p.1, q.1, q'.1)))
        (then_same (the_own_read bytes h.head j') _ _ (λ own mid o.
        (let r = own_reach h.head j' own mid s.0 o in
        last_cut h own mid few s.1 (omega (arith, p.1, q.1, q'.1)))))))))))

    -- the reader's answer on at least 15,372 bytes is its answer on the whole input
    pub front_enough : (room ratioRoom : ℕ) → net_read cut room ratioRoom 0 ≡ net_read bytes room ratioRoom 0
    front_enough room ratioRoom =
        rw (net_by cut room ratioRoom 0, net_by bytes room ratioRoom 0, heading_cut (omega arith)) (then_same (heading bytes 0) _ _ (λ h i e. rest_cut room ratioRoom h i e))

-- so the program's answer, on at most 15,372 bytes of its input, is the reader's answer on the whole input
pub program_enough : (bytes : List ℕ) (room ratioRoom : ℕ) → Bytes bytes → net_read (take enough_bytes bytes) room ratioRoom 0 ≡ net_read bytes room ratioRoom 0
program_enough bytes room ratioRoom all = go (ltb enough_bytes (length bytes)) refl
  where
    go : (t : Bool) → ltb enough_bytes (length bytes) ≡ t → net_read (take enough_bytes bytes) room ratioRoom 0 ≡ net_read bytes room ratioRoom 0
    go true e = let h = ltb-true enough_bytes (length bytes) e in front_enough bytes enough_bytes (omega arith) all (omega arith) room ratioRoom
    go false e = rw (take_all enough_bytes bytes (ltb-false enough_bytes (length bytes) e))
