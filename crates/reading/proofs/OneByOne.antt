-- Things that are read one by one, each beginning where the one before it ends: segments, and the posts' own ratios. What several that were read are (`FirstOf`); behind
-- some the reading of more goes on (`GoesOn`); a loop reads them into lists turn by turn (`Turn`); a row of so many is whole or stops at one (`Outcome`). Relies on Steps
-- and on the definitions of specs/Reading.
use Prim.Native.Nat.{ℕ, zero, suc, ◌+◌, ◌*◌, ◌-◌, ◌<◌, ◌≤◌}
use mathlib.Core.Path.{◌≡◌, refl, sym, ap, ◌∙◌}
use mathlib.Core.List.{List, [], ◌∷◌, ◌++◌, append_assoc, append-nil}
use native.Mathlib.Nat.{zero-add, mul-suc}
use native.Mathlib.Numerals.{add-one}
use native.Mathlib.Omega.{arith}
use lib.ListN.{length, length-append}
use Rattle.net.specs.declared.Refusal.{Refusal}
use Rattle.numbers.specs.Numbers.{Got, got, refused}
use Rattle.reading.specs.Reading.{Reading, and_then, post, posts, segment, segments}
use Rattle.reading.proofs.Steps.{handed}

-- `many i k` reads k of the things that `one` reads, the first of them number i
pub record OneByOne {X : Type 0} (one : ℕ → Reading X) (many : ℕ → ℕ → Reading (List X)) : Type 0 where
  pub none_left : (i at : ℕ) → many i 0 at ≡ got [] at
  pub one_more : (i k at : ℕ) → many i (suc k) at ≡ and_then (one i at) (λ x at. and_then (many (i + 1) k at) (λ xs at. got (x ∷ xs) at))

pub posts_one_by_one : (bytes : List ℕ) (source : ℕ) → OneByOne (post bytes source) (posts bytes source)
unfolding posts
posts_one_by_one bytes source = record { none_left = λ i at. refl; one_more = λ i k at. refl }

pub segments_one_by_one : (bytes : List ℕ) (count : ℕ) → OneByOne (segment bytes count) (segments bytes count)
unfolding segments
segments_one_by_one bytes count = record { none_left = λ i at. refl; one_more = λ i k at. refl }

-- SEVERAL THAT ARE READ
module _ {X : Type 0} {one : ℕ → Reading X} {many : ℕ → ℕ → Reading (List X)} (o : OneByOne one many) where
  -- one, and the others behind it
  pub more_read : {i k at j next : ℕ} {x : X} {xs : List X} → one i at ≡ got x j → many (i + 1) k j ≡ got xs next → many i (suc k) at ≡ got (x ∷ xs) next
  more_read {i} {k} {at} e f = o.one_more i k at ∙ rw (e, f)

  -- the first of several that were read
  pub record FirstOf (i k at : ℕ) (xs : List X) (next : ℕ) : Type 0 where
    pub x : X
    pub j : ℕ
    pub ts : List X
    pub one_is : one i at ≡ got x j
    pub rest : many (i + 1) k j ≡ got ts next
    pub is : xs ≡ x ∷ ts

  pub first_of : (k : ℕ) {i at next : ℕ} {xs : List X} → many i (suc k) at ≡ got xs next → FirstOf i k at xs next
  first_of k {i} {at} {next} {xs} e =
      let a = handed (one i at) (λ x at. and_then (many (i + 1) k at) (λ xs at. got (x ∷ xs) at)) (sym (o.one_more i k at) ∙ e) in
      let b = handed (many (i + 1) k a.i) (λ xs at. got (a.x ∷ xs) at) a.on in
      let l : got (a.x ∷ b.x) b.i ≡ got xs next = b.on in
      let n : b.i ≡ next = cc in
      record { x = a.x; j = a.i; ts = b.x; one_is = a.is; rest = rw n at b.is; is = cc }

  -- how many they are, and how far they reach where each takes at most so many bytes
  pub row_count : (k : ℕ) {i at next : ℕ} {xs : List X} → many i k at ≡ got xs next → length xs ≡ k
  row_count zero {i} {at} {xs = xs} e = let y = sym (o.none_left i at) ∙ e in let x : [] ≡ xs = cc in rw (← x)
  row_count (suc k) e = let f = first_of k e in rw f.is (ap suc (row_count k f.rest))

  pub row_reaches : (wide : ℕ) → ((i at : ℕ) (x : X) (next : ℕ) → one i at ≡ got x next → next ≤ at + wide)
      → (k : ℕ) {i at next : ℕ} {xs : List X} → many i k at ≡ got xs next → next ≤ at + wide * k
  row_reaches wide step zero {i} {at} {next} e = let y = sym (o.none_left i at) ∙ e in let z : at ≡ next = cc in omega arith
  row_reaches wide step (suc k) {i} {at} {next} e =
      let f = first_of k e in
      omega (arith, mul-suc wide k, step i at f.x f.j f.one_is, row_reaches wide step k f.rest)

-- HOW THE READING GOES ON
module _ {X : Type 0} {one : ℕ → Reading X} {many : ℕ → ℕ → Reading (List X)} (o : OneByOne one many) (start : ℕ) where
  -- from `start` on the things xs were read, up to `at`, and the reading of more goes on there
  pub record GoesOn (xs : List X) (at : ℕ) : Type 0 where
    pub on : (k : ℕ) → many 0 (length xs + k) start ≡ and_then (many (length xs) k at) (λ ys next. got (xs ++ ys) next)

  pub goes_first : GoesOn [] start
  goes_first = record { on = λ k. rw zero-add (same (many 0 k start)) }
    where
      same : (g : Got (List X)) → g ≡ and_then g (λ ys next. got ([] ++ ys) next)
      same (got ys next) = refl
      same (refused r) = refl

  module _ {xs : List X} {at : ℕ} (s : GoesOn xs at) where
    pub goes_next : {x : X} {last : ℕ} → one (length xs) at ≡ got x last → GoesOn (xs ++ (x ∷ [])) last
    goes_next {x} {last} e = record { on = on }
      where
        behind : (g : Got (List X)) → and_then (and_then g (λ ys at. got (x ∷ ys) at)) (λ ys next. got (xs ++ ys) next) ≡ and_then g (λ ys next. got ((xs ++ (x ∷ [])) ++ ys) next)
        behind (got ys next) = rw append_assoc
        behind (refused r) = refl

        on : (k : ℕ) → many 0 (length (xs ++ (x ∷ [])) + k) start ≡ and_then (many (length (xs ++ (x ∷ []))) k last) (λ ys next. got ((xs ++ (x ∷ [])) ++ ys) next)
        on k =
            let n : length (xs ++ (x ∷ [])) ≡ length xs + 1 = length-append xs (x ∷ []) in
            let m : length xs + 1 + k ≡ length xs + suc k = omega arith in
            rw (n, m) (s.on (suc k) ∙ rw (o.one_more (length xs) k at, e) (behind (many (length xs + 1) k last)))

    pub goes_all : many 0 (length xs) start ≡ got xs at
    goes_all = let n : length xs + 0 ≡ length xs = omega arith in (rw n at (s.on 0)) ∙ rw (o.none_left (length xs) at) (rw append-nil)

    pub goes_stops : {count : ℕ} {r : Refusal} → length xs < count → one (length xs) at ≡ refused r → many 0 count start ≡ refused r
    goes_stops {count} l e =
        let n : length xs + suc (count - length xs - 1) ≡ count = omega arith in
        (rw n at (s.on (suc (count - length xs - 1)))) ∙ rw (o.one_more (length xs) (count - length xs - 1) at, e)

-- A LOOP reads them from `at` on, one in each turn, into lists: each takes at most `wide` bytes, and `Holds xs` says that xs stand in the lists
module _ {X : Type 0} {one : ℕ → Reading X} {many : ℕ → ℕ → Reading (List X)} (o : OneByOne one many) (wide at : ℕ) where
  -- i were read, up to a place, and stand in the lists
  pub record Turn (place i : ℕ) (Holds : List X → Type 0) : Type 0 where
    pub near : place ≤ at + wide * i
    pub xs : List X
    pub long : length xs ≡ i
    pub goes : GoesOn o at xs place
    pub held : Holds xs

  pub turn_first : {Holds : List X → Type 0} → Holds [] → Turn at 0 Holds
  turn_first h = record { near = omega arith; xs = []; long = refl; goes = goes_first o at; held = h }

  module _ {place i : ℕ} {Holds : List X → Type 0} (t : Turn place i Holds) where
    pub turn_next : {x : X} {next : ℕ} → one i place ≡ got x next → next ≤ place + wide
        → {Holds' : List X → Type 0} → ((xs : List X) → length xs ≡ i → Holds xs → Holds' (xs ++ (x ∷ []))) → Turn next (i + 1) Holds'
    turn_next {x} e reach h =
        let n = t.long in
        record {
          near = rw add-one (omega (arith, mul-suc wide i, t.near));
          xs = t.xs ++ (x ∷ []);
          long = length-append t.xs (x ∷ []) ∙ rw n;
          goes = goes_next o at t.goes (rw n e);
          held = h t.xs n t.held;
        }

    -- where one is refused, that is the row's refusal
    pub turn_stops : {count : ℕ} {r : Refusal} → i < count → one i place ≡ refused r → many 0 count at ≡ refused r
    turn_stops l e = let n = t.long in goes_stops o at t.goes (omega arith) (rw n e)

    -- after the last one, the row was read
    pub turn_all : {count : ℕ} → i ≡ count → many 0 count at ≡ got t.xs place
    turn_all e = rw (t.long ∙ e) at (goes_all o at t.goes)

    -- where none is to be read any more, or one is refused, the answer is the row's; what was read stands in the lists
    pub turns_end : {count : ℕ} → (i ≡ count → (many 0 count at ≡ got t.xs place) × Holds t.xs)
        × ((r : Refusal) → i < count → one i place ≡ refused r → many 0 count at ≡ refused r)
    turns_end = (λ e. (turn_all e, t.held), λ r l e. turn_stops l e)

-- HOW A ROW COMES OUT, of which S says that it is sound so far, and B that the next isn't
module _ {X : Type 0} (S B : List X → ℕ → Type 0) where
  pub data Outcome (count : ℕ) : Type 0 where
    whole : {xs : List X} {last : ℕ} → S xs last → length xs ≡ count → Outcome count
    stops : {xs : List X} {at : ℕ} → S xs at → length xs < count → B xs at → Outcome count

  pub data Next (xs : List X) (at : ℕ) : Type 0 where
    sound : (x : X) {last : ℕ} → S (xs ++ (x ∷ [])) last → Next xs at
    bad : B xs at → Next xs at

  pub outcome : ((xs : List X) (at : ℕ) → S xs at → Next xs at) → (k count : ℕ) {xs : List X} {at : ℕ} → length xs + k ≡ count → S xs at → Outcome count
  outcome step zero count n s = whole s (omega arith)
  outcome step (suc k) count {xs} {at} n s = go (step xs at s) (λ x last t. outcome step k count (longer x) t)
    where
      longer : (x : X) → length (xs ++ (x ∷ [])) + k ≡ count
      longer x = simp length-append (omega arith)

      go : Next xs at → ((x : X) (last : ℕ) → S (xs ++ (x ∷ [])) last → Outcome count) → Outcome count
      go (sound x {last} t) on = on x last t
      go (bad b) on = stops s (omega arith) b
