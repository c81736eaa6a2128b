-- The round trips: reading what was written gives the net back; writing what was read gives the bytes back. So two good records of one net are equal,
-- and two nets of one record are. Relies on numbers' Runs, on writing's Lines, and on Steps, OneByOne, Passes and Parsed.
use Prim.Native.Nat.{ℕ, zero, suc, ◌+◌, ◌<◌, ◌≤◌, min}
use mathlib.Core.Path.{◌≡◌, refl, sym, ap, subst, ◌∙◌}
use mathlib.Core.Bool.{Bool, true, false, cond}
use mathlib.Core.List.{List, [], ◌∷◌, ◌++◌, append_assoc, append-nil}
use native.Mathlib.Nat.{zero-add}
use native.Mathlib.Omega.{arith}
use lib.Dec.{eqb, ltb}
use lib.ListN.{length, drop, drop_of_length-le, length-append, get_or-eq_default}
use lib.Seq.{drop-length, get_or-append_seam}
use borrow.Author.Tests.{eqb-true, eqb-false, eq-eqb, ltb-true, ltb-false}
use Rattle.net.specs.Words.{tab}
use Rattle.net.specs.Net.{Ratio, Net, no_ratio, ratio_at, own_of, net_with, every, nth_segment, most_segments}
use Rattle.net.specs.Rules.{HeadSound, RatioSound, SegmentSound, NetSound, nothing}
use Rattle.net.specs.declared.Segment.{Segment}
use Rattle.net.specs.declared.Form.{Form}
use Rattle.net.specs.declared.Form.TheVariants.{First, Second}
use Rattle.net.specs.declared.Head.{Head}
use Rattle.net.proofs.Words.{length_tab, tab_at}
use Rattle.net.proofs.Own.{own_first, own_second, own_count}
use Rattle.numbers.specs.Numbers.{Bytes, most_numbers, written, got}
use Rattle.reading.specs.Reading.{Triple, Heading, triple, headed, heading, ratio, post, posts, the_own_read, segment, segments, net_read}
use Rattle.writing.specs.Writing as W
use Rattle.writing.specs.Writing.{form_written, numbers_written, head_written, ratio_written, post_written, posts_written, own_written, segment_written, segments_written, net_written}
use Rattle.numbers.specs.Rules.{Stand}
use Rattle.writing.proofs.Lines.{head_only, head_sound, ratio_only, ratio_sound, segment_only, segment_sound}
use Rattle.writing.proofs.Posts.{source_written, post_written_law}
use Rattle.numbers.proofs.Runs.{stand_append, stand_first, stand_second, stand_none, number_stands, number_is}
use Rattle.reading.specs.Answers.{segment_from}
use Rattle.reading.proofs.Steps.{triple_is, triple_all, headed_is, headed_all, form_first, form_second, FormIs, first_form, second_form, heading_is, ratio_all, ratio_is, segment_is, segment_all}
use Rattle.reading.proofs.OneByOne.{posts_one_by_one, segments_one_by_one, more_read, FirstOf, first_of, row_count}
use Rattle.reading.proofs.Passes.{at_source, not_source, rest_all, net_rest}
use Rattle.reading.proofs.Passes as P
use Rattle.reading.proofs.Parsed.{net_is}

-- a list at the seam, and a blank place of a table
at_seam : (pre rs : List Ratio) (r : Ratio) → ratio_at (pre ++ (r ∷ rs)) (length pre) ≡ r
at_seam pre rs r = get_or-append_seam pre r rs no_ratio

blank_tab : (source : ℕ) (l : List Ratio) (k : ℕ) → ratio_at (tab k (λ v. cond (eqb v source) no_ratio (ratio_at l v))) source ≡ no_ratio
blank_tab source l k = go (ltb source k) refl
  where
    kept : ℕ → Ratio
    kept v = cond (eqb v source) no_ratio (ratio_at l v)

    go : (b : Bool) → ltb source k ≡ b → ratio_at (tab k kept) source ≡ no_ratio
    go true e = tab_at kept k source no_ratio (ltb-true source k e) ∙ rw (eq-eqb source source refl)
    go false e = get_or-eq_default (tab k kept) no_ratio (let n = length_tab kept k in let h = ltb-false source k e in omega arith)

-- READING WHAT WAS WRITTEN
module _ {bytes : List ℕ} where
  pub triple_stands : {t : Triple} {at next : ℕ} → t.one < most_numbers → t.two < most_numbers → t.three < most_numbers
      → Stand bytes at (written t.one ++ (written t.two ++ written t.three)) next → triple bytes at ≡ got t next
  triple_stands {t} p q r s =
      let u = stand_second (written t.one) _ s in
      triple_all bytes _ (number_stands p (stand_first (written t.one) _ s)) (number_stands q (stand_first (written t.two) _ u))
      (number_stands r (stand_second (written t.two) _ u))

  pub segment_stands : (i : ℕ) {posts : ℕ} {s : Segment} {at next : ℕ} → posts ≤ 256 → SegmentSound posts s → Stand bytes at (segment_written s) next
      → segment bytes posts i at ≡ got s next
  unfolding segment_written
  segment_stands i {posts} {s} few sound w =
      let a = sound.ends_sound.a_in in
      let b = sound.ends_sound.b_in in
      let l = sound.not_too_long in
      segment_all bytes posts i _ {t = record { one = s.a; two = s.b; three = s.length }} (triple_stands (omega arith) (omega arith) (omega arith) w)
      (segment_only posts s i (nothing sound))

  pub headed_stands : {h : Head} {count at next : ℕ} → HeadSound h → count ≤ most_segments → Stand bytes at (numbers_written h count) next
      → headed bytes h.form at ≡ got (record { head = h; count = count }) next
  unfolding numbers_written
  headed_stands {h} {count} sound few w =
      let f = sound.posts_sound.few_posts in
      let g = sound.source_in in
      let p = sound.small_p in
      let q = sound.small_q in
      let w₂ = stand_second (written h.posts) _ w in
      let w₃ = stand_second (written h.source) _ w₂ in
      let w₄ = stand_second (written h.p) _ w₃ in
      let t = stand_append (stand_first (written h.posts) _ w) (stand_append (stand_first (written h.source) _ w₂) (stand_first (written h.p) _ w₃)) in
      headed_all bytes h.form _ {t = record { one = h.posts; two = h.source; three = h.p }} (triple_stands (omega arith) (omega arith) (omega arith) t)
      (number_stands (omega arith) (stand_first (written h.q) _ w₄)) (number_stands (omega arith) (stand_second (written h.q) _ w₄))

  first_posts : (h : Head) (count : ℕ) {at next : ℕ} → Stand bytes at (numbers_written h count) next → Stand bytes at (written h.posts) (at + length (written h.posts))
  unfolding numbers_written
  first_posts h count w = stand_first (written h.posts) _ w

  pub heading_stands : {h : Head} {count next : ℕ} → HeadSound h → count ≤ most_segments → Stand bytes 0 (head_written h count) next
      → heading bytes 0 ≡ got (record { head = h; count = count }) next
  unfolding head_written form_written
  heading_stands {h} {count} {next} sound few w = go h.form refl w
    where
      go : (f : Form) → h.form ≡ f → Stand bytes 0 (form_written f ++ numbers_written h count) next → heading bytes 0 ≡ got (record { head = h; count = count }) next
      go First e w =
          let p = sound.posts_sound.few_posts in
          let q = sound.posts_sound.some_posts in
          let k = headed_stands sound few w in
          form_first bytes 0 (number_stands (omega arith) (first_posts h count w)) (λ z. omega arith) ∙ ap (λ (f : Form). headed bytes f 0) (sym e) ∙ k
      go Second e w =
          let k = headed_stands sound few (stand_second (written 0) (numbers_written h count) w) in
          form_second bytes 0 (number_stands (omega arith) (stand_first (written 0) (numbers_written h count) w)) ∙ ap (λ (f : Form). headed bytes f (0 + length (written 0))) (sym e) ∙ k

  -- posts: those behind `pre`
  pub ratio_stands : (v : ℕ) {r : Ratio} {at next : ℕ} → RatioSound r → Stand bytes at (ratio_written r) next → ratio bytes v at ≡ got r next
  unfolding ratio_written
  ratio_stands v {r} sound w =
      let p = sound.small_p in
      let q = sound.small_q in
      ratio_all bytes v _ (number_stands (omega arith) (stand_first (written r.p) _ w)) (number_stands (omega arith) (stand_second (written r.p) _ w)) (ratio_only r v (nothing sound))

  post_stands : (source v : ℕ) (own : List Ratio) {at next : ℕ} → (v ≡ source → ratio_at own v ≡ no_ratio) → ((v ≡ source → ⊥) → RatioSound (ratio_at own v))
      → Stand bytes at (post_written source own v) next → post bytes source v at ≡ got (ratio_at own v) next
  post_stands source v own {at} {next} blank sound w = go (eqb v source) refl
    where
      go : (b : Bool) → eqb v source ≡ b → post bytes source v at ≡ got (ratio_at own v) next
      go true e =
          let k = eqb-true v source e in
          let u = rw (source_written source own v k) at w in
          let z = u.size in
          let n : at ≡ next = omega arith in
          at_source bytes source v at k ∙ rw (blank k, n)
      go false e =
          let k = eqb-false v source e in
          not_source bytes source v at k ∙ ratio_stands v (sound k) (rw (post_written_law source own v k) at w)

  pub posts_stand : (source : ℕ) (pre rs : List Ratio) {at next : ℕ} → ((v : ℕ) → v ≡ source → ratio_at (pre ++ rs) v ≡ no_ratio)
      → ((v : ℕ) → v < length (pre ++ rs) → (v ≡ source → ⊥) → RatioSound (ratio_at (pre ++ rs) v))
      → Stand bytes at (posts_written source (pre ++ rs) (length pre) (length rs)) next → posts bytes source (length pre) (length rs) at ≡ got rs next
  unfolding posts_written
  posts_stand source pre [] {at} {next} blank sound w =
      let z = w.size in
      let e : at ≡ next = omega arith in
      (posts_one_by_one bytes source).none_left (length pre) at ∙ ap (λ (x : ℕ). got [] x) e
  posts_stand source pre (r ∷ rs) {at} {next} blank sound w =
      let v = length pre in
      let own = pre ++ (r ∷ rs) in
      let a : ratio_at own v ≡ r = at_seam pre rs r in
      let n : length own ≡ length pre + suc (length rs) = length-append pre (r ∷ rs) in
      let one = post_stands source v own (blank v) (sound v (omega arith)) (stand_first (post_written source own v) _ w) in
      let m : length (pre ++ (r ∷ [])) ≡ v + 1 = length-append pre (r ∷ []) in
      let o : pre ++ (r ∷ []) ++ rs ≡ own = append_assoc pre (r ∷ []) rs in
      let w' : Stand bytes (at + length (post_written source own v)) (posts_written source own (v + 1) (length rs)) next = stand_second (post_written source own v) _ w in
      let rest = posts_stand source (pre ++ (r ∷ [])) rs {at = at + length (post_written source own v)} {next = next} (rw o blank) (rw o sound) (rw (o, m) w') in
      more_read (posts_one_by_one bytes source) (rw a at one) (rw m at rest)

  pub segments_stand : (ss : List Segment) (i : ℕ) {posts at next : ℕ} → posts ≤ 256 → ((j : ℕ) → j < length ss → SegmentSound posts (nth_segment ss j))
      → Stand bytes at (segments_written ss) next → segments bytes posts i (length ss) at ≡ got ss next
  unfolding segments_written
  segments_stand [] i {posts} {at} {next} few sound w =
      let z = w.size in
      let e : at ≡ next = omega arith in
      (segments_one_by_one bytes posts).none_left i at ∙ ap (λ (x : ℕ). got [] x) e
  segments_stand (s ∷ ss) i {posts} {at} few sound w =
      let one = segment_stands i few (sound 0 (omega arith)) (stand_first (segment_written s) (segments_written ss) w) in
      let rest = segments_stand ss (i + 1) few (λ j l. sound (suc j) (omega arith)) (stand_second (segment_written s) (segments_written ss) w) in
      more_read (segments_one_by_one bytes posts) one rest

whole_stands : (bytes : List ℕ) → Stand bytes 0 bytes (length bytes)
whole_stands bytes = record { stand = rw (drop-length, append-nil); size = omega arith }

stands_apart : (n : Net)
    → Stand (net_written n) 0 (head_written n.head (length n.segments) ++ (own_written n.head n.own ++ segments_written n.segments)) (length (net_written n))
unfolding net_written
stands_apart n = whole_stands (net_written n)

-- A NET KEEPS no ratio in the first form, and in the second one for each post, blank at the source: so are all nets of what is lent (`kept_with`), and all that are read
pub record Kept (n : Net) : Type 0 where
  pub first_none : n.head.form ≡ First → n.own ≡ []
  pub second_all : n.head.form ≡ Second → length n.own ≡ n.head.posts
  pub source_blank : ratio_at n.own n.head.source ≡ no_ratio

pub kept_with : (h : Head) (l : List Ratio) (ss : List Segment) → h.posts ≤ length l → Kept (net_with h l ss)
kept_with h l ss k = record { first_none = own_first h l; second_all = λ e. omega (arith, own_count h l e); source_blank = by_form h.form refl }
  where
    kept : ℕ → Ratio
    kept v = cond (eqb v h.source) no_ratio (ratio_at l v)

    by_form : (f : Form) → h.form ≡ f → ratio_at (own_of h l) h.source ≡ no_ratio
    by_form First e = ap (λ (o : List Ratio). ratio_at o h.source) (own_first h l e)
    by_form Second e = ap (λ (o : List Ratio). ratio_at o h.source) (own_second h l e) ∙ blank_tab h.source l (min h.posts (length l))

own_stands : (n : Net) (bytes : List ℕ) {at next : ℕ} → NetSound every (length n.segments) n → Kept n → Stand bytes at (own_written n.head n.own) next → the_own_read bytes n.head at ≡ got n.own next
unfolding own_written
own_stands n bytes {at} {next} s k w = go n.head.form refl w
  where
    go : (f : Form) → n.head.form ≡ f → Stand bytes at (W.own_in f n.head.source n.own) next → the_own_read bytes n.head at ≡ got n.own next
    go First e w =
        let z = w.size in
        let m : at ≡ next = omega arith in
        P.own_first bytes n.head at e ∙ rw (k.first_none e, m)
    go Second e w =
        P.own_second bytes n.head at e ∙ rw (← k.second_all e)
        (posts_stand n.head.source [] n.own (λ v x. ap (ratio_at n.own) x ∙ k.source_blank) (λ v l ne. s.ratios_sound v l ne) w)

pub read_of_written : (n : Net) (room ratioRoom : ℕ) → NetSound every (length n.segments) n → Kept n → length n.segments ≤ room → n.head.posts ≤ ratioRoom
    → net_read (net_written n) room ratioRoom 0 ≡ got n (length (net_written n))
read_of_written n room ratioRoom s k few enough =
    let count = length n.segments in
    let bytes = net_written n in
    let h = head_written n.head count in
    let o = own_written n.head n.own in
    let w = stands_apart n in
    let v = stand_second h _ w in
    net_rest bytes room ratioRoom 0 (heading_stands s.head_sound s.few_segments (stand_first h _ w))
    ∙ rest_all bytes room ratioRoom _ _ (head_only n.head count (nothing s.head_sound s.few_segments)) few enough
    (own_stands n bytes s k (stand_first o _ v))
    (segments_stand n.segments 0 s.head_sound.posts_sound.few_posts (λ j l. s.segments_sound j l refl) (stand_second o _ v)) (omega arith)

-- WRITING WHAT WAS READ
as_ratio : {bytes : List ℕ} {at next : ℕ} (o : Ratio) → Stand bytes at (written o.p ++ written o.q) next → Stand bytes at (ratio_written o) next
unfolding ratio_written
as_ratio o w = w

as_segment : {bytes : List ℕ} {at next : ℕ} (t : Triple) → Stand bytes at (written t.one ++ (written t.two ++ written t.three)) next
    → Stand bytes at (segment_written (segment_from t)) next
unfolding segment_written
as_segment t s = s

module _ {bytes : List ℕ} (all : Bytes bytes) where
  pub triple_run : {t : Triple} {at next : ℕ} → triple bytes at ≡ got t next → Stand bytes at (written t.one ++ (written t.two ++ written t.three)) next
  triple_run {t} {at} {next} e =
      let s = triple_is bytes at t next e in
      stand_append (number_is all s.first_is).stands (stand_append (number_is all s.second_is).stands (number_is all s.third_is).stands)

  headed_run : {h : Heading} {at next : ℕ} → headed bytes h.head.form at ≡ got h next → Stand bytes at (numbers_written h.head h.count) next
  unfolding numbers_written
  headed_run {h} {at} {next} e =
      let f = headed_is bytes h.head.form at h next e in
      let s = triple_is bytes at _ f.i f.three_are in
      stand_append (number_is all s.first_is).stands
      (stand_append (number_is all s.second_is).stands
      (stand_append (number_is all s.third_is).stands
      (stand_append (number_is all f.fourth_is).stands (number_is all f.fifth_is).stands)))

  form_run : {f : Form} {at start : ℕ} → FormIs bytes at f start → Stand bytes at (form_written f) start
  unfolding form_written
  form_run {f} {at} (first_form e ne) = stand_none at
  form_run (second_form e) = (number_is all e).stands

  pub heading_run : {h : Heading} {at next : ℕ} → heading bytes at ≡ got h next → Stand bytes at (head_written h.head h.count) next
  unfolding head_written
  heading_run {h} {at} {next} e = let k = heading_is bytes at h next e in stand_append (form_run k.form) (headed_run k.numbers)

  post_run : (source v : ℕ) (own : List Ratio) {r : Ratio} {at next : ℕ} → ratio_at own v ≡ r → post bytes source v at ≡ got r next → Stand bytes at (post_written source own v) next
  post_run source v own {r} {at} {next} a e = go (eqb v source) refl
    where
      go : (b : Bool) → eqb v source ≡ b → Stand bytes at (post_written source own v) next
      go true f =
          let k = eqb-true v source f in
          let x = sym (at_source bytes source v at k) ∙ e in
          let n : at ≡ next = cc in
          rw (source_written source own v k, ← n) (stand_none at)
      go false f =
          let k = eqb-false v source f in
          let o = ratio_is bytes v at r next (sym (not_source bytes source v at k) ∙ e) in
          rw (post_written_law source own v k, a) (as_ratio r (stand_append (number_is all o.first_is).stands (number_is all o.second_is).stands))

  pub posts_run : (source k : ℕ) (pre rs : List Ratio) {at next : ℕ} → posts bytes source (length pre) k at ≡ got rs next → Stand bytes at (posts_written source (pre ++ rs) (length pre) k) next
  unfolding posts_written posts
  posts_run source zero pre rs {at} {next} e = let y : at ≡ next = cc in rw (← y) (stand_none at)
  posts_run source (suc k) pre rs {at} {next} e =
      let f = first_of (posts_one_by_one bytes source) k e in
      let m : length (pre ++ (f.x ∷ [])) ≡ length pre + 1 = length-append pre (f.x ∷ []) in
      let o : pre ++ (f.x ∷ []) ++ f.ts ≡ pre ++ (f.x ∷ f.ts) = append_assoc pre (f.x ∷ []) f.ts in
      let rest = posts_run source k (pre ++ (f.x ∷ [])) f.ts {at = f.j} {next = next} (rw m f.rest) in
      let whole = stand_append (post_run source (length pre) (pre ++ (f.x ∷ f.ts)) (at_seam pre f.ts f.x) f.one_is) (rw (o, m) at rest) in
      subst (λ (ts : List Ratio). Stand bytes at (posts_written source (pre ++ ts) (length pre) (suc k)) next) (sym f.is) whole

  pub segment_run : (posts i : ℕ) {s : Segment} {at next : ℕ} → segment bytes posts i at ≡ got s next → Stand bytes at (segment_written s) next
  segment_run posts i {s} {at} {next} e =
      let o = segment_is bytes posts i at s next e in
      rw o.is at (as_segment o.t (triple_run o.numbers))

  pub segments_run : (posts k i : ℕ) {ss : List Segment} {at next : ℕ} → segments bytes posts i k at ≡ got ss next → Stand bytes at (segments_written ss) next
  unfolding segments segments_written
  segments_run posts zero i {ss} {at} {next} e =
      let x : [] ≡ ss = cc in
      let y : at ≡ next = cc in
      rw (← x, ← y) (stand_none at)
  segments_run posts (suc k) i {ss} {at} {next} e =
      let f = first_of (segments_one_by_one bytes posts) k e in
      rw f.is (stand_append (segment_run posts i f.one_is) (segments_run posts k (i + 1) f.rest))

pub segments_sound : (bytes : List ℕ) (posts k i at : ℕ) (ss : List Segment) (next : ℕ) → segments bytes posts i k at ≡ got ss next
    → (j : ℕ) → j < length ss → SegmentSound posts (nth_segment ss j)
segments_sound bytes posts zero i at ss next e = λ j l. (let c = row_count (segments_one_by_one bytes posts) zero e in absurd (omega arith))
segments_sound bytes posts (suc k) i at ss next e = go f.is (segments_sound bytes posts k (i + 1) f.j f.ts next f.rest)
  where
    f : FirstOf (segments_one_by_one bytes posts) i k at ss next
    f = first_of (segments_one_by_one bytes posts) k e

    one : SegmentSound posts f.x
    one = segment_sound posts f.x i (segment_is bytes posts i at f.x f.j f.one_is).not_refused

    go : ss ≡ f.x ∷ f.ts → ((j : ℕ) → j < length f.ts → SegmentSound posts (nth_segment f.ts j)) → (j : ℕ) → j < length ss → SegmentSound posts (nth_segment ss j)
    go e on zero l = rw e one
    go e on (suc j) l = rw e (on j (let q = ap (λ (x : List Segment). length x) e in omega arith))

-- the posts that were read are sound, but the source, which is blank
posts_sound : (bytes : List ℕ) (source k v at : ℕ) (rs : List Ratio) (next : ℕ) → posts bytes source v k at ≡ got rs next
    → (j : ℕ) → j < length rs → (v + j ≡ source → ⊥) → RatioSound (ratio_at rs j)
posts_sound bytes source zero v at rs next e j l ne = let c = row_count (posts_one_by_one bytes source) zero e in absurd (omega arith)
posts_sound bytes source (suc k) v at rs next e j l ne = go (posts_sound bytes source k (v + 1) f.j f.ts next f.rest) j l ne
  where
    f : FirstOf (posts_one_by_one bytes source) v k at rs next
    f = first_of (posts_one_by_one bytes source) k e

    go : ((j : ℕ) → j < length f.ts → (v + 1 + j ≡ source → ⊥) → RatioSound (ratio_at f.ts j)) → (j : ℕ) → j < length rs → (v + j ≡ source → ⊥) → RatioSound (ratio_at rs j)
    go on zero l ne =
        let n : v ≡ source → ⊥ = λ x. ne (omega arith) in
        let o = ratio_is bytes v at f.x f.j (sym (not_source bytes source v at n) ∙ f.one_is) in
        rw f.is (ratio_sound f.x v o.not_refused)
    go on (suc j) l ne =
        let q = ap (λ (x : List Ratio). length x) f.is in
        rw f.is (on j (omega arith) (λ x. ne (omega arith)))

posts_blank : (bytes : List ℕ) (source k v at : ℕ) (rs : List Ratio) (next : ℕ) → posts bytes source v k at ≡ got rs next → (j : ℕ) → v + j ≡ source → ratio_at rs j ≡ no_ratio
unfolding posts
posts_blank bytes source zero v at rs next e j x = let y : [] ≡ rs = cc in rw (← y)
posts_blank bytes source (suc k) v at rs next e j x = go (posts_blank bytes source k (v + 1) f.j f.ts next f.rest) j x
  where
    f : FirstOf (posts_one_by_one bytes source) v k at rs next
    f = first_of (posts_one_by_one bytes source) k e

    go : ((j : ℕ) → v + 1 + j ≡ source → ratio_at f.ts j ≡ no_ratio) → (j : ℕ) → v + j ≡ source → ratio_at rs j ≡ no_ratio
    go on zero x =
        let n : v ≡ source = omega arith in
        let y = sym (at_source bytes source v at n) ∙ f.one_is in
        let z : no_ratio ≡ f.x = cc in
        rw f.is (sym z)
    go on (suc j) x = rw f.is (on j (omega arith))

-- what the own ratios that were read are
pub record OwnIs (bytes : List ℕ) (h : Head) (at : ℕ) (own : List Ratio) (mid : ℕ) : Type 0 where
  pub none_first : h.form ≡ First → own ≡ []
  pub all_second : h.form ≡ Second → length own ≡ h.posts
  pub blank : ratio_at own h.source ≡ no_ratio
  pub sound : (v : ℕ) → v < length own → (v ≡ h.source → ⊥) → RatioSound (ratio_at own v)
  pub stands : Bytes bytes → Stand bytes at (own_written h own) mid

pub own_is : (bytes : List ℕ) (h : Head) (at : ℕ) (own : List Ratio) (mid : ℕ) → the_own_read bytes h at ≡ got own mid → OwnIs bytes h at own mid
unfolding own_written
own_is bytes h at own mid e = go h.form refl
  where
    go : (f : Form) → h.form ≡ f → OwnIs bytes h at own mid
    go First g =
        let y = sym (P.own_first bytes h at g) ∙ e in
        let x : [] ≡ own = cc in
        let z : at ≡ mid = cc in
        rw (← x, ← z)
        (record {
          none_first = λ _. refl;
          all_second = λ k. (let c : ◌≡◌ {A = Form} First Second = sym g ∙ k in let d : ◌≡◌ {A = ℕ} 0 1 = cc in absurd (omega arith));
          blank = refl;
          sound = λ v l ne. absurd (omega arith);
          stands = λ _. rw g (stand_none at);
        })
    go Second g =
        let y = sym (P.own_second bytes h at g) ∙ e in
        let n = row_count (posts_one_by_one bytes h.source) h.posts y in
        record {
          none_first = λ k. (let c : ◌≡◌ {A = Form} First Second = sym k ∙ g in let d : ◌≡◌ {A = ℕ} 0 1 = cc in absurd (omega arith));
          all_second = λ _. n;
          blank = posts_blank bytes h.source h.posts 0 at own mid y h.source (zero-add _);
          sound = λ v l ne. posts_sound bytes h.source h.posts 0 at own mid y v l (λ x. ne (sym (zero-add v) ∙ x));
          stands = λ all. rw (g, n) (posts_run all h.source h.posts [] own y);
        }

-- a net that was read is sound, it keeps what a net keeps of ratios, and it has no more segments and posts than were lent for
pub record ReadSound (room ratioRoom : ℕ) (n : Net) : Type 0 where
  pub sound : NetSound every (length n.segments) n
  pub kept : Kept n
  pub room_enough : length n.segments ≤ room
  pub ratios_enough : n.head.posts ≤ ratioRoom

pub sound_of_read : (bytes : List ℕ) (room ratioRoom : ℕ) (n : Net) (next : ℕ) → net_read bytes room ratioRoom 0 ≡ got n next → ReadSound room ratioRoom n
sound_of_read bytes room ratioRoom n next e =
    let i = net_is bytes room ratioRoom 0 n next e in
    let h = i.h in
    let r = i.rest in
    let c : length n.segments ≡ h.count = row_count (segments_one_by_one bytes h.head.posts) h.count r.segments_are in
    let q = head_sound h.head h.count r.head_none in
    let o = own_is bytes h.head i.i n.own r.mid r.own_are in
    record {
      sound = record {
        head_sound = rw r.head_is q.0;
        few_segments = rw c q.1;
        ratios_sound = rw r.head_is o.sound;
        segments_sound = λ j l _. rw r.head_is (segments_sound bytes _ _ _ _ _ _ r.segments_are j l);
      };
      kept = record { first_none = rw r.head_is o.none_first; second_all = rw r.head_is o.all_second; source_blank = rw r.head_is o.blank };
      room_enough = rw c r.room_enough;
      ratios_enough = rw r.head_is r.ratios_enough;
    }

-- and its record is what was read
pub record WasRead (bytes : List ℕ) (room ratioRoom : ℕ) (n : Net) (next : ℕ) : Type 0 where
  pub good : ReadSound room ratioRoom n
  pub written_is : net_written n ≡ bytes

pub written_of_read : (bytes : List ℕ) (room ratioRoom : ℕ) (n : Net) (next : ℕ) → Bytes bytes → net_read bytes room ratioRoom 0 ≡ got n next → WasRead bytes room ratioRoom n next
unfolding net_written
written_of_read bytes room ratioRoom n next all e =
    let i = net_is bytes room ratioRoom 0 n next e in
    let h = i.h in
    let r = i.rest in
    let c : length n.segments ≡ h.count = row_count (segments_one_by_one bytes h.head.posts) h.count r.segments_are in
    let o = own_is bytes h.head i.i n.own r.mid r.own_are in
    let w : Stand bytes 0 (head_written h.head h.count ++ (own_written h.head n.own ++ segments_written n.segments)) next =
    stand_append (heading_run all i.heading_is) (stand_append (o.stands all) (segments_run all _ _ _ r.segments_are)) in
    let d : drop next bytes ≡ [] = drop_of_length-le bytes r.no_more in
    let b : bytes ≡ head_written h.head h.count ++ (own_written h.head n.own ++ segments_written n.segments) = w.stand ∙ rw (d, append-nil) in
    record {
      good = sound_of_read bytes room ratioRoom n next e;
      written_is = rw (r.head_is, c) (sym b);
    }

-- ONE RECORD FOR ONE NET, and one net for one record, in both forms
pub records_equal : (b c : List ℕ) (room room' k k' : ℕ) (n : Net) (i j : ℕ) → Bytes b → Bytes c → net_read b room k 0 ≡ got n i → net_read c room' k' 0 ≡ got n j → b ≡ c
records_equal b c room room' k k' n i j p q e f = sym (written_of_read b room k n i p e).written_is ∙ (written_of_read c room' k' n j q f).written_is

pub nets_equal : (n m : Net) → NetSound every (length n.segments) n → NetSound every (length m.segments) m → Kept n → Kept m → net_written n ≡ net_written m → n ≡ m
nets_equal n m s t k l e =
    let room = length n.segments + length m.segments in
    let ratioRoom = n.head.posts + m.head.posts in
    let f = read_of_written n room ratioRoom s k (omega arith) (omega arith) in
    let g = read_of_written m room ratioRoom t l (omega arith) (omega arith) in
    let h = rw e at f in
    cc
