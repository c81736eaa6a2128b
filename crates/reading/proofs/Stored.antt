-- Segments that are read into three lists side by side: the loop of `segments_in`, turn by turn, and what was read and stands there after it. Relies on OneByOne.
use Prim.Native.Nat.{ℕ, ◌+◌, ◌<◌}
use mathlib.Core.Path.{◌≡◌, refl, sym, ap, ◌∙◌}
use mathlib.Core.List.{List, [], ◌∷◌, ◌++◌}
use native.Mathlib.Numerals.{add-one}
use native.Mathlib.Omega.{arith}
use lib.ListN.{length, take, set, length-set, length-append}
use lib.Seq.{take-suc-set, length-take-le}
use Rattle.net.specs.Net.{segments_of, most_segments}
use Rattle.net.specs.declared.Segment.{Segment}
use Rattle.numbers.specs.Numbers.{Got, got, refused}
use Rattle.numbers.specs.declared.reader.Reader.{Reader}
use Rattle.net.specs.declared.Refusal.{Refusal}
use Rattle.reading.specs.Reading.{segment, segments}
use Rattle.reading.specs.Answers.{SegmentsStored}
use Rattle.reading.proofs.Carried.{Step}
use Rattle.reading.proofs.Steps.{segment_next}
use Rattle.reading.proofs.OneByOne as O
use Rattle.reading.proofs.OneByOne.{segments_one_by_one, turn_first, turn_next, turn_stops, turn_all}

-- THREE LISTS SIDE BY SIDE, one place longer
one_longer : (xs ys ls : List ℕ) (x y l : ℕ) → length ys ≡ length xs → length ls ≡ length xs
    → segments_of (xs ++ (x ∷ [])) (ys ++ (y ∷ [])) (ls ++ (l ∷ [])) ≡ segments_of xs ys ls ++ (record { a = x; b = y; length = l } ∷ [])
one_longer [] [] [] x y l p q = refl
one_longer [] [] (z ∷ ls) x y l p q = absurd (omega arith)
one_longer [] (z ∷ ys) ls x y l p q = absurd (omega arith)
one_longer (z ∷ xs) [] ls x y l p q = absurd (omega arith)
one_longer (z ∷ xs) (w ∷ ys) [] x y l p q = absurd (omega arith)
one_longer (z ∷ xs) (w ∷ ys) (u ∷ ls) x y l p q =
    ap (λ (ss : List Segment). record { a = z; b = w; length = u } ∷ ss) (one_longer xs ys ls x y l (omega arith) (omega arith))

-- the first i + 1 segments after a store at i
stored_one : (x y l : List ℕ) (i : ℕ) (s : Segment) → i < length x → i < length y → i < length l
    → segments_of (take (i + 1) (set x i s.a)) (take (i + 1) (set y i s.b)) (take (i + 1) (set l i s.length))
    ≡ segments_of (take i x) (take i y) (take i l) ++ (s ∷ [])
stored_one x y l i s p q r =
    let f = length-take-le i x (omega arith) in
    let g = length-take-le i y (omega arith) in
    let h = length-take-le i l (omega arith) in
    rw (add-one i, take-suc-set x i s.a p, take-suc-set y i s.b q, take-suc-set l i s.length r)
    (one_longer (take i x) (take i y) (take i l) s.a s.b s.length (omega arith) (omega arith))

-- THE LOOP of the segments' reader, which begins at the reader s
module _ (s : Reader) (posts : ℕ) where
  -- three lists at whose fronts the segments stand
  abbrev Holds : List ℕ → List ℕ → List ℕ → List Segment → Type 0
  Holds x y l ss = segments_of (take (length ss) x) (take (length ss) y) (take (length ss) l) ≡ ss

  -- i segments were read, up to the reader r; the lists have 2,048 places
  pub record Turn (r : Reader) (i : ℕ) (x y l : List ℕ) : Type 0 where
    pub same : r.bytes ≡ s.bytes
    pub x_long : length x ≡ most_segments
    pub y_long : length y ≡ most_segments
    pub l_long : length l ≡ most_segments
    pub turn : O.Turn (segments_one_by_one s.bytes.now posts) 12 s.at r.at i (Holds x y l)

  pub begun : {x y l : List ℕ} → length x ≡ most_segments → length y ≡ most_segments → length l ≡ most_segments → Turn s 0 x y l
  begun c₁ c₂ c₃ = record { same = refl; x_long = c₁; y_long = c₂; l_long = c₃; turn = turn_first (segments_one_by_one s.bytes.now posts) 12 s.at refl }

  -- one segment more
  held_more : (x y l : List ℕ) {i : ℕ} (g : Segment) → i < length x → i < length y → i < length l → (ss : List Segment) → length ss ≡ i → Holds x y l ss
      → Holds (set x i g.a) (set y i g.b) (set l i g.length) (ss ++ (g ∷ []))
  held_more x y l {i} g p q r ss n held =
      let m : length (ss ++ (g ∷ [])) ≡ i + 1 = length-append ss (g ∷ []) ∙ rw n in
      rw m (stored_one x y l i g p q r ∙ rw (← n) (ap (λ (ts : List Segment). ts ++ (g ∷ [])) held))

  module _ {r : Reader} {i : ℕ} {x y l : List ℕ} (t : Turn r i x y l) where
    -- a segment that was read and stored
    pub one_more : {g : Segment} {u : Reader} → i < most_segments → Step (λ bytes. segment bytes posts i) s r.at g u → Turn u (i + 1) (set x i g.a) (set y i g.b) (set l i g.length)
    one_more {g} inside k = record {
      same = k.1;
      x_long = length-set x i g.a ∙ t.x_long;
      y_long = length-set y i g.b ∙ t.y_long;
      l_long = length-set l i g.length ∙ t.l_long;
      turn = turn_next (segments_one_by_one s.bytes.now posts) 12 s.at t.turn k.0 (segment_next s.bytes.now posts i r.at _ _ k.0)
          (held_more x y l g (omega (arith, t.x_long)) (omega (arith, t.y_long)) (omega (arith, t.l_long)));
    }

    -- one that was refused
    pub one_stops : (count : ℕ) {q : Refusal} → i < count → segment s.bytes.now posts i r.at ≡ refused q → segments s.bytes.now posts 0 count s.at ≡ refused q
    one_stops count inside e = turn_stops (segments_one_by_one s.bytes.now posts) 12 s.at t.turn inside e

    -- all segments
    module _ {count : ℕ} (e : i ≡ count) where
      pub all_read : segments s.bytes.now posts 0 count s.at ≡ got t.turn.xs r.at
      all_read = turn_all (segments_one_by_one s.bytes.now posts) 12 s.at t.turn e

      pub all_stored : SegmentsStored count (segments s.bytes.now posts 0 count s.at) x y l
      all_stored = record {
        stored = λ ss next g.
            (let same : t.turn.xs ≡ ss = (let k = sym all_read ∙ g in cc) in
            let n : length ss ≡ count = rw (← same) (t.turn.long ∙ e) in
            rw (same, n) at t.turn.held);
      }

-- after a refusal nothing is said of the lists
pub none_stored : {count : ℕ} {g : Got (List Segment)} {r : Refusal} (x y l : List ℕ) → g ≡ refused r → SegmentsStored count g x y l
none_stored x y l e = record { stored = λ ss next k. (let z : ◌≡◌ {A = ℕ} 0 1 = cc in absurd (omega arith)) }
