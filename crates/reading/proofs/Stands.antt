-- What stands by the rules of specs/Rules is what the steps of reading read: numbers in a row, the head, the posts' own ratios, the segments. Relies on numbers'
-- RuledNumbers, on writing's Lines, and on Steps, Passes and OneByOne.
use Prim.Native.Nat.{ℕ, suc, ◌<◌}
use mathlib.Core.Path.{◌≡◌, sym, ap, ◌∙◌}
use mathlib.Core.List.{List, [], ◌∷◌}
use mathlib.Core.Option.{none, some}
use native.Mathlib.Omega.{arith}
use lib.ListN.{length}
use Rattle.net.specs.Net.{Ratio}
use Rattle.net.specs.Rules.{RatioRule, SegmentRule}
use Rattle.net.specs.declared.Segment.{Segment}
use Rattle.net.specs.declared.Form.{Form}
use Rattle.net.specs.declared.Form.TheVariants.{First, Second}
use Rattle.net.specs.declared.Head.{Head}
use Rattle.net.specs.declared.Refusal.{Refusal}
use Rattle.numbers.specs.Numbers.{got, refused}
use Rattle.numbers.specs.Rules.{NumberRule}
use Rattle.numbers.proofs.RuledNumbers.{number_only}
use Rattle.writing.proofs.Lines.{ratio_only, segment_only}
use Rattle.reading.specs.Reading.{triple, headed, heading, ratio, the_own_read, segment, segments}
use Rattle.reading.specs.Rules.{Row, empty, next, BreaksOff, SoundSegments, SoundPosts, HeadStands, first_form, second_form, HeadBreaks, at_first, of_five, of_six, OwnStands}
use Rattle.reading.specs.Rules as R
use Rattle.reading.proofs.Steps.{triple_first, triple_second, triple_third, triple_all, headed_stops, headed_fourth, headed_fifth, headed_all, form_stops, form_first, form_second}
use Rattle.reading.proofs.Steps.{ratio_first, ratio_second, ratio_refused, ratio_all, segment_refused, segment_all}
use Rattle.reading.proofs.Passes.{at_source, not_source, own_first, own_second}
use Rattle.reading.proofs.OneByOne.{posts_one_by_one, segments_one_by_one, GoesOn, goes_first, goes_next, goes_all, goes_stops}

module _ (bytes : List ℕ) where
  -- ROWS OF NUMBERS: two, three, and five
  pub one_more : {k at i n : ℕ} {r : Refusal} → NumberRule bytes at (got n i) → BreaksOff bytes k i r → BreaksOff bytes (suc k) at r
  one_more {n} w b = let f = b.fewer in record { ns = n ∷ b.ns; last = b.last; row = next w b.row; fewer = omega arith; refuses = b.refuses }

  three_row : {at a b c last : ℕ} → Row bytes at (a ∷ b ∷ c ∷ []) last → triple bytes at ≡ got (record { one = a; two = b; three = c }) last
  three_row (next p (next q (next r empty))) = triple_all bytes _ (number_only bytes _ p) (number_only bytes _ q) (number_only bytes _ r)

  pub three_breaks : (at : ℕ) (r : Refusal) → BreaksOff bytes 3 at r → triple bytes at ≡ refused r
  three_breaks at r b = go b.ns b.row b.fewer b.refuses
    where
      go : (ns : List ℕ) {last : ℕ} → Row bytes at ns last → length ns < 3 → NumberRule bytes last (refused r) → triple bytes at ≡ refused r
      go [] empty l s = triple_first bytes at (number_only bytes _ s)
      go (n ∷ []) (next p empty) l s = triple_second bytes at (number_only bytes _ p) (number_only bytes _ s)
      go (n ∷ m ∷ []) (next p (next q empty)) l s = triple_third bytes at (number_only bytes _ p) (number_only bytes _ q) (number_only bytes _ s)
      go (n ∷ m ∷ k ∷ ns) w l s = absurd (omega arith)

  five_row : (form : Form) {at posts source p q count last : ℕ} → Row bytes at (posts ∷ source ∷ p ∷ q ∷ count ∷ []) last
      → headed bytes form at ≡ got (record { head = record { posts = posts; source = source; p = p; q = q; form = form }; count = count }) last
  five_row form (next a (next b (next c (next d (next e empty))))) = headed_all bytes form _ (three_row (next a (next b (next c empty)))) (number_only bytes _ d) (number_only bytes _ e)

  five_breaks : (form : Form) (at : ℕ) (r : Refusal) → BreaksOff bytes 5 at r → headed bytes form at ≡ refused r
  five_breaks form at r b = go b.ns b.row b.fewer b.refuses
    where
      few : (ns : List ℕ) {last : ℕ} → Row bytes at ns last → length ns < 3 → NumberRule bytes last (refused r) → headed bytes form at ≡ refused r
      few ns {last} w l s = headed_stops bytes form at (three_breaks at r (record { ns = ns; last = last; row = w; fewer = l; refuses = s }))

      go : (ns : List ℕ) {last : ℕ} → Row bytes at ns last → length ns < 5 → NumberRule bytes last (refused r) → headed bytes form at ≡ refused r
      go [] w l s = few [] w (omega arith) s
      go (a ∷ []) w l s = few (a ∷ []) w (omega arith) s
      go (a ∷ b ∷ []) w l s = few (a ∷ b ∷ []) w (omega arith) s
      go (a ∷ b ∷ c ∷ []) w l s = headed_fourth bytes form at (three_row w) (number_only bytes _ s)
      go (a ∷ b ∷ c ∷ d ∷ []) (next p (next q (next t (next u empty)))) l s =
          headed_fifth bytes form at (three_row (next p (next q (next t empty)))) (number_only bytes _ u) (number_only bytes _ s)
      go (a ∷ b ∷ c ∷ d ∷ e ∷ ns) w l s = absurd (omega arith)

  -- THE HEAD
  pub head_stands : {h : Head} {count at : ℕ} → HeadStands bytes h count at → heading bytes 0 ≡ got (record { head = h; count = count }) at
  head_stands {h} (first_form e ne (next p w)) = form_first bytes 0 (number_only bytes _ p) ne ∙ ap (λ (f : Form). headed bytes f 0) (sym e) ∙ five_row h.form (next p w)
  head_stands {h} (second_form e (next {i} p w)) = form_second bytes 0 (number_only bytes _ p) ∙ ap (λ (f : Form). headed bytes f i) (sym e) ∙ five_row h.form w

  pub head_breaks : {r : Refusal} → HeadBreaks bytes r → heading bytes 0 ≡ refused r
  head_breaks (at_first w) = form_stops bytes 0 (number_only bytes _ w)
  head_breaks {r} (of_five w ne b) = form_first bytes 0 (number_only bytes _ w) ne ∙ five_breaks First 0 r (one_more w b)
  head_breaks {r} (of_six {i} w b) = form_second bytes 0 (number_only bytes _ w) ∙ five_breaks Second i r b

  -- POSTS
  ratio_row : {v at last : ℕ} {o : Ratio} → Row bytes at (o.p ∷ o.q ∷ []) last → RatioRule o v none → ratio bytes v at ≡ got o last
  ratio_row {v} {at} {o} (next p (next q empty)) r = ratio_all bytes v at (number_only bytes _ p) (number_only bytes _ q) (ratio_only o v r)

  pub ratio_wrong : {v at last : ℕ} {o : Ratio} {r : Refusal} → Row bytes at (o.p ∷ o.q ∷ []) last → RatioRule o v (some r) → ratio bytes v at ≡ refused r
  ratio_wrong {v} {at} {o} (next p (next q empty)) r = ratio_refused bytes v at (number_only bytes _ p) (number_only bytes _ q) (ratio_only o v r)

  pub ratio_breaks : (v at : ℕ) (r : Refusal) → BreaksOff bytes 2 at r → ratio bytes v at ≡ refused r
  ratio_breaks v at r b = go b.ns b.row b.fewer b.refuses
    where
      go : (ns : List ℕ) {last : ℕ} → Row bytes at ns last → length ns < 2 → NumberRule bytes last (refused r) → ratio bytes v at ≡ refused r
      go [] empty l s = ratio_first bytes v at (number_only bytes _ s)
      go (n ∷ []) (next p empty) l s = ratio_second bytes v at (number_only bytes _ p) (number_only bytes _ s)
      go (n ∷ m ∷ ns) w l s = absurd (omega arith)

  module _ {source start : ℕ} where
    posts_on : {rs : List Ratio} {at : ℕ} → SoundPosts bytes source start rs at → GoesOn (posts_one_by_one bytes source) start rs at
    posts_on empty = goes_first (posts_one_by_one bytes source) start
    posts_on (R.SoundPosts.at_source s e) = goes_next (posts_one_by_one bytes source) start (posts_on s) (at_source bytes source _ _ e)
    posts_on (next s ne w r) = goes_next (posts_one_by_one bytes source) start (posts_on s) (not_source bytes source _ _ ne ∙ ratio_row w r)

  pub own_stands : {h : Head} {start at : ℕ} {own : List Ratio} → OwnStands bytes h start own at → the_own_read bytes h start ≡ got own at
  own_stands {h} {start} (first_form e) = own_first bytes h start e
  own_stands {h} {start} {at} {own} (second_form e s n) = own_second bytes h start e ∙ (rw n at (goes_all (posts_one_by_one bytes h.source) start (posts_on s)))

  -- the own ratio of a post that isn't the source is refused
  pub own_stops : (h : Head) {start at : ℕ} {own : List Ratio} {r : Refusal} → h.form ≡ Second → SoundPosts bytes h.source start own at → length own < h.posts
      → (length own ≡ h.source → ⊥) → ratio bytes (length own) at ≡ refused r → the_own_read bytes h start ≡ refused r
  own_stops h {start} e s l ne f = own_second bytes h start e ∙ goes_stops (posts_one_by_one bytes h.source) start (posts_on s) l (not_source bytes h.source _ _ ne ∙ f)

  -- SEGMENTS
  segment_row : {posts i at last : ℕ} {s : Segment} → Row bytes at (s.a ∷ s.b ∷ s.length ∷ []) last → SegmentRule posts s i none → segment bytes posts i at ≡ got s last
  segment_row {posts} {i} {at} {s} w r = segment_all bytes posts i at {t = record { one = s.a; two = s.b; three = s.length }} (three_row w) (segment_only posts s i r)

  pub segment_wrong : {posts i at last : ℕ} {s : Segment} {r : Refusal} → Row bytes at (s.a ∷ s.b ∷ s.length ∷ []) last → SegmentRule posts s i (some r)
      → segment bytes posts i at ≡ refused r
  segment_wrong {posts} {i} {at} {s} w r = segment_refused bytes posts i at {t = record { one = s.a; two = s.b; three = s.length }} (three_row w) (segment_only posts s i r)

  module _ {count start : ℕ} where
    segments_on : {ss : List Segment} {at : ℕ} → SoundSegments bytes count start ss at → GoesOn (segments_one_by_one bytes count) start ss at
    segments_on empty = goes_first (segments_one_by_one bytes count) start
    segments_on (next s w r) = goes_next (segments_one_by_one bytes count) start (segments_on s) (segment_row w r)

    pub segments_all : {ss : List Segment} {at : ℕ} → SoundSegments bytes count start ss at → segments bytes count 0 (length ss) start ≡ got ss at
    segments_all s = goes_all (segments_one_by_one bytes count) start (segments_on s)

    pub segments_stop : {ss : List Segment} {at m : ℕ} {r : Refusal} → SoundSegments bytes count start ss at → length ss < m → segment bytes count (length ss) at ≡ refused r
        → segments bytes count 0 m start ≡ refused r
    segments_stop s l e = goes_stops (segments_one_by_one bytes count) start (segments_on s) l e
