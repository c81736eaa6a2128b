-- Records by the rules of specs/Rules: every input has an answer by them, it has no other, and the reader computes it. Relies on numbers' RuledNumbers, on
-- writing's Lines, and on Stands, Passes and OneByOne.
use Prim.Native.Nat.{ℕ, zero, suc, ◌<◌}
use mathlib.Core.Bool.{Bool, true, false}
use mathlib.Core.Path.{◌≡◌, refl, sym, ◌∙◌}
use mathlib.Core.Logic.{◌⊎◌, inl, inr}
use mathlib.Core.List.{List, [], ◌∷◌}
use mathlib.Core.Option.{Option, none, some}
use native.Mathlib.Omega.{arith}
use lib.Dec.{eqb, ltb}
use lib.ListN.{length}
use borrow.Author.Tests.{eqb-true, eqb-false, ltb-true, ltb-false}
use Rattle.net.specs.Net.{Ratio, Net, no_ratio}
use Rattle.net.specs.Refusals.{refusal, first, head_lines, ratio_lines, segment_lines}
use Rattle.net.specs.Rules.{HeadRule, RatioRule, SegmentRule}
use Rattle.net.specs.declared.Segment.{Segment}
use Rattle.net.specs.declared.Form.{Form}
use Rattle.net.specs.declared.Form.TheVariants.{First, Second}
use Rattle.net.specs.declared.Head.{Head}
use Rattle.net.specs.declared.Refusal.{Refusal}
use Rattle.numbers.specs.Numbers.{Bytes, Got, got, refused, number}
use Rattle.numbers.specs.Rules.{NumberRule}
use Rattle.numbers.proofs.RuledNumbers.{number_answers}
use Rattle.writing.proofs.Lines.{head_only, head_rule, ratio_rule, segment_rule}
use Rattle.reading.specs.Reading.{the_own_read, segments, rest_read, net_read}
use Rattle.reading.specs.Rules.{Row, empty, next, BreaksOff, SoundSegments, SoundPosts, HeadStands, first_form, second_form, HeadBreaks, at_first, of_five, of_six, OwnStands, HeadGood}
use Rattle.reading.specs.Rules.{ReadRule, head_ten_eleven, one_to_four, eight, post_ten_eleven, three_of_post, segment_ten_eleven, five_to_seven, twelve, good}
use Rattle.reading.specs.Rules as R
use Rattle.reading.proofs.Steps.{segment_stops}
use Rattle.reading.proofs.Passes.{few_ratios, rest_head, rest_room, rest_few, rest_own, rest_segments, rest_more, rest_all, net_stops, net_rest}
use Rattle.reading.proofs.OneByOne.{Outcome, whole, stops, Next, sound, bad, outcome}
use Rattle.reading.proofs.Stands.{one_more, three_breaks, head_stands, head_breaks, ratio_wrong, ratio_breaks, own_stands, own_stops, segment_wrong, segments_all, segments_stop}

-- k numbers, of which P holds
abbrev Numbers : ℕ → (List ℕ → Type 0) → Type 0
Numbers zero P = P []
Numbers (suc k) P = (n : ℕ) × Numbers k (λ ns. P (n ∷ ns))

of_numbers : (k : ℕ) {P Q : List ℕ → Type 0} → ((ns : List ℕ) → P ns → Q ns) → Numbers k P → Numbers k Q
of_numbers zero f p = f [] p
of_numbers (suc k) f (n, p) = (n, of_numbers k (λ ns. f (n ∷ ns)) p)

module _ (bytes : List ℕ) where
  -- THE RULES GIVE WHAT THE READER GIVES
  -- 8 of the ratios, whether there is room for the segments or not
  eight_only : (room ratioRoom : ℕ) {h : Head} {count at : ℕ} → HeadStands bytes h count at → HeadRule h count none → ratioRoom < h.posts → net_read bytes room ratioRoom 0 ≡ refused (refusal 8 0)
  eight_only room ratioRoom {h} {count} {at} w r l = net_rest bytes room ratioRoom 0 (head_stands bytes w) ∙ go (ltb room count) refl
    where
      go : (b : Bool) → ltb room count ≡ b → rest_read bytes room ratioRoom (record { head = h; count = count }) at ≡ refused (refusal 8 0)
      go true e = rest_room bytes room ratioRoom _ at (head_only h count r) (ltb-true room count e)
      go false e = rest_few bytes room ratioRoom _ at (head_only h count r) (ltb-false room count e) (few_ratios h.posts ratioRoom l)

  module _ {room ratioRoom : ℕ} where
    -- behind a good head
    module _ {h : Head} {count start : ℕ} (g : HeadGood bytes room ratioRoom h count start) where
      good_rest : net_read bytes room ratioRoom 0 ≡ rest_read bytes room ratioRoom (record { head = h; count = count }) start
      good_rest = net_rest bytes room ratioRoom 0 (head_stands bytes g.stands)

      own_refused : {r : Refusal} → the_own_read bytes h start ≡ refused r → net_read bytes room ratioRoom 0 ≡ refused r
      own_refused f = good_rest ∙ rest_own bytes room ratioRoom _ start (head_only h count g.sound) g.enough g.enough_ratios f

      module _ {own : List Ratio} {begin : ℕ} (o : OwnStands bytes h start own begin) where
        segments_refused : {r : Refusal} → segments bytes h.posts 0 count begin ≡ refused r → net_read bytes room ratioRoom 0 ≡ refused r
        segments_refused f = good_rest ∙ rest_segments bytes room ratioRoom _ start (head_only h count g.sound) g.enough g.enough_ratios (own_stands bytes o) f

    pub read_only : {g : Got Net} → ReadRule bytes room ratioRoom g → net_read bytes room ratioRoom 0 ≡ g
    read_only (head_ten_eleven b) = net_stops bytes room ratioRoom 0 (head_breaks bytes b)
    read_only (one_to_four w r) = net_rest bytes room ratioRoom 0 (head_stands bytes w) ∙ rest_head bytes room ratioRoom _ _ (head_only _ _ r)
    read_only (eight w r (inl l)) = net_rest bytes room ratioRoom 0 (head_stands bytes w) ∙ rest_room bytes room ratioRoom _ _ (head_only _ _ r) l
    read_only (eight w r (inr l)) = eight_only room ratioRoom w r l
    read_only (post_ten_eleven g f s l ne b) = own_refused g (own_stops bytes _ f s l ne (ratio_breaks bytes _ _ _ b))
    read_only (three_of_post g f s l ne w q) = own_refused g (own_stops bytes _ f s l ne (ratio_wrong bytes w q))
    read_only (segment_ten_eleven g o s l b) = segments_refused g o (segments_stop bytes s l (segment_stops bytes _ _ _ (three_breaks bytes _ _ b)))
    read_only (five_to_seven g o s l w q) = segments_refused g o (segments_stop bytes s l (segment_wrong bytes w q))
    read_only (twelve g o s m) =
        good_rest g ∙ rest_more bytes room ratioRoom _ _ (head_only _ _ g.sound) g.enough g.enough_ratios (own_stands bytes o) (segments_all bytes s) m
    read_only (good g o s m) =
        good_rest g ∙ rest_all bytes room ratioRoom _ _ (head_only _ _ g.sound) g.enough g.enough_ratios (own_stands bytes o) (segments_all bytes s) m

  -- AND NO OTHER
  pub read_once : {room ratioRoom : ℕ} {g g' : Got Net} → ReadRule bytes room ratioRoom g → ReadRule bytes room ratioRoom g' → g ≡ g'
  read_once r s = sym (read_only r) ∙ read_only s

  -- EVERY INPUT HAS AN ANSWER BY THE RULES
  -- so many numbers in a row, or the first of them that is refused
  abbrev Reads : ℕ → ℕ → Type 0
  Reads k at = Numbers k (λ ns. (last : ℕ) × Row bytes at ns last) ⊎ ((r : Refusal) × BreaksOff bytes k at r)

  -- what is wrong with a post's own ratio, and with a segment
  data PostBad (source : ℕ) (rs : List Ratio) (at : ℕ) : Type 0 where
    breaks : {r : Refusal} → (length rs ≡ source → ⊥) → BreaksOff bytes 2 at r → PostBad source rs at
    wrong : {o : Ratio} {last : ℕ} {r : Refusal} → (length rs ≡ source → ⊥) → Row bytes at (o.p ∷ o.q ∷ []) last → RatioRule o (length rs) (some r) → PostBad source rs at

  data SegmentBad (posts : ℕ) (ss : List Segment) (at : ℕ) : Type 0 where
    breaks : {r : Refusal} → BreaksOff bytes 3 at r → SegmentBad posts ss at
    wrong : {s : Segment} {last : ℕ} {r : Refusal} → Row bytes at (s.a ∷ s.b ∷ s.length ∷ []) last → SegmentRule posts s (length ss) (some r) → SegmentBad posts ss at

  -- what the head is
  data HeadIs : Type 0 where
    stands : {h : Head} {count at : ℕ} → HeadStands bytes h count at → HeadIs
    breaks : {r : Refusal} → HeadBreaks bytes r → HeadIs

  module _ (all : Bytes bytes) where
    numbers : (k at : ℕ) → Reads k at
    numbers zero at = inl (at, empty)
    numbers (suc k) at = go (number bytes at) (number_answers bytes all at) (numbers k)
      where
        more : (n i : ℕ) → NumberRule bytes at (got n i) → Reads k i → Reads (suc k) at
        more n i w (inl t) = inl (n, of_numbers k (λ ns (last, v). (last, next w v)) t)
        more n i w (inr (r, b)) = inr (r, one_more bytes w b)

        go : (g : Got ℕ) → NumberRule bytes at g → ((i : ℕ) → Reads k i) → Reads (suc k) at
        go (got n i) w on = more n i w (on i)
        go (refused r) w on = inr (r, record { ns = []; last = at; row = empty; fewer = omega arith; refuses = w })

    head_is : HeadIs
    head_is = go (number bytes 0) (number_answers bytes all 0)
      where
        five : {i : ℕ} → NumberRule bytes 0 (got 0 i) → Reads 5 i → HeadIs
        five w (inl (n, (source, (p, (q, (count, (last, v))))))) = stands {h = record { posts = n; source = source; p = p; q = q; form = Second }} (second_form refl (next w v))
        five w (inr (r, b)) = breaks (of_six w b)

        four : {n i : ℕ} → NumberRule bytes 0 (got n i) → (n ≡ 0 → ⊥) → Reads 4 i → HeadIs
        four {n} w ne (inl (source, (p, (q, (count, (last, v)))))) = stands {h = record { posts = n; source = source; p = p; q = q; form = First }} (first_form refl ne (next w v))
        four w ne (inr (r, b)) = breaks (of_five w ne b)

        by_first : {n i : ℕ} → NumberRule bytes 0 (got n i) → (b : Bool) → eqb n 0 ≡ b → HeadIs
        by_first {n} {i} w true e = let z = eqb-true n 0 e in five (rw z at w) (numbers 5 i)
        by_first {n} {i} w false e = four w (eqb-false n 0 e) (numbers 4 i)

        go : (g : Got ℕ) → NumberRule bytes 0 g → HeadIs
        go (got n i) w = by_first w (eqb n 0) refl
        go (refused r) w = breaks (at_first w)

    -- the post, and the segment, behind sound ones
    module _ (source start : ℕ) where
      post_next : (rs : List Ratio) (at : ℕ) → SoundPosts bytes source start rs at → Next (SoundPosts bytes source start) (PostBad source) rs at
      post_next rs at s = by_source (eqb (length rs) source) refl
        where
          by_rule : (o : Ratio) (last : ℕ) → (length rs ≡ source → ⊥) → Row bytes at (o.p ∷ o.q ∷ []) last → (x : Option Refusal) → RatioRule o (length rs) x
              → Next (SoundPosts bytes source start) (PostBad source) rs at
          by_rule o last ne w none k = sound o (next s ne w k)
          by_rule o last ne w (some r) k = bad (wrong ne w k)

          two : (length rs ≡ source → ⊥) → Reads 2 at → Next (SoundPosts bytes source start) (PostBad source) rs at
          two ne (inl (p, (q, (last, w)))) =
              let o : Ratio = record { p = p; q = q } in
              by_rule o last ne w (first (ratio_lines (length rs) o)) (ratio_rule o (length rs))
          two ne (inr (r, b)) = bad (breaks ne b)

          by_source : (b : Bool) → eqb (length rs) source ≡ b → Next (SoundPosts bytes source start) (PostBad source) rs at
          by_source true e = sound no_ratio (R.SoundPosts.at_source s (eqb-true (length rs) source e))
          by_source false e = two (eqb-false (length rs) source e) (numbers 2 at)

    module _ (posts start : ℕ) where
      segment_next : (ss : List Segment) (at : ℕ) → SoundSegments bytes posts start ss at → Next (SoundSegments bytes posts start) (SegmentBad posts) ss at
      segment_next ss at s = three (numbers 3 at)
        where
          by_rule : (t : Segment) (last : ℕ) → Row bytes at (t.a ∷ t.b ∷ t.length ∷ []) last → (x : Option Refusal) → SegmentRule posts t (length ss) x
              → Next (SoundSegments bytes posts start) (SegmentBad posts) ss at
          by_rule t last w none k = sound t (next s w k)
          by_rule t last w (some r) k = bad (wrong w k)

          three : Reads 3 at → Next (SoundSegments bytes posts start) (SegmentBad posts) ss at
          three (inl (a, (b, (l, (last, w))))) =
              let t : Segment = record { a = a; b = b; length = l } in
              by_rule t last w (first (segment_lines posts t (length ss))) (segment_rule posts t (length ss))
          three (inr (r, b)) = bad (breaks b)

    pub read_answers : (room ratioRoom : ℕ) → ReadRule bytes room ratioRoom (net_read bytes room ratioRoom 0)
    read_answers room ratioRoom = by_head head_is
      where
        Answered : Type 0
        Answered = ReadRule bytes room ratioRoom (net_read bytes room ratioRoom 0)

        by : {g : Got Net} → ReadRule bytes room ratioRoom g → Answered
        by r = rw (read_only r) r

        by_segments : {h : Head} {count start begin : ℕ} {own : List Ratio} → HeadGood bytes room ratioRoom h count start → OwnStands bytes h start own begin
            → Outcome (SoundSegments bytes h.posts begin) (SegmentBad h.posts) count → Answered
        by_segments g o (stops s l (breaks b)) = by (segment_ten_eleven g o s l b)
        by_segments g o (stops s l (wrong w k)) = by (five_to_seven g o s l w k)
        by_segments g o (whole {xs} {last} s n) = end (ltb last (length bytes)) refl
          where
            end : (b : Bool) → ltb last (length bytes) ≡ b → Answered
            end true e = by (twelve (rw (← n) at g) o s (ltb-true last (length bytes) e))
            end false e = by (good (rw (← n) at g) o s (ltb-false last (length bytes) e))

        behind_own : {h : Head} {count start begin : ℕ} {own : List Ratio} → HeadGood bytes room ratioRoom h count start → OwnStands bytes h start own begin
            → Answered
        behind_own {h} {count} {begin} g o = by_segments g o (outcome _ _ (segment_next h.posts begin) count count (omega arith) empty)

        by_posts : {h : Head} {count start : ℕ} → HeadGood bytes room ratioRoom h count start → h.form ≡ Second
            → Outcome (SoundPosts bytes h.source start) (PostBad h.source) h.posts → Answered
        by_posts g e (stops s l (breaks ne b)) = by (post_ten_eleven g e s l ne b)
        by_posts g e (stops s l (wrong ne w k)) = by (three_of_post g e s l ne w k)
        by_posts g e (whole s n) = behind_own g (second_form e s n)

        by_form : {h : Head} {count start : ℕ} → HeadGood bytes room ratioRoom h count start → (f : Form) → h.form ≡ f → Answered
        by_form g First e = behind_own g (first_form e)
        by_form {h} {start} g Second e = by_posts g e (outcome _ _ (post_next h.source start) h.posts h.posts (omega arith) empty)

        by_room : {h : Head} {count at : ℕ} → HeadStands bytes h count at → HeadRule h count none → (b c : Bool) → ltb room count ≡ b → ltb ratioRoom h.posts ≡ c
            → Answered
        by_room {h} {count} w r true c e f = by (eight w r (inl (ltb-true room count e)))
        by_room {h} {count} w r false true e f = by (eight w r (inr (ltb-true ratioRoom h.posts f)))
        by_room {h} {count} w r false false e f =
            by_form (record { stands = w; sound = r; enough = ltb-false room count e; enough_ratios = ltb-false ratioRoom h.posts f }) h.form refl

        by_rule : {h : Head} {count at : ℕ} → HeadStands bytes h count at → (o : Option Refusal) → HeadRule h count o → Answered
        by_rule {h} {count} w none r = by_room w r (ltb room count) (ltb ratioRoom h.posts) refl refl
        by_rule w (some q) r = by (one_to_four w r)

        by_head : HeadIs → Answered
        by_head (stands {h} {count} w) = by_rule w (first (head_lines h count)) (head_rule h count)
        by_head (breaks b) = by (head_ten_eleven b)
