-- The loops of the code over one number: what holds at each turn, and what each way out answers. Relies on Groups.
use Prim.Native.Nat.{ℕ, zero, suc, ◌+◌, ◌*◌, ◌-◌, ◌/◌, ◌%◌, ◌<◌, ◌≤◌}
use mathlib.Core.Path.{◌≡◌, refl, sym, ap, ◌∙◌}
use mathlib.Core.List.{List, [], ◌∷◌, ◌++◌, append_assoc}
use mathlib.Core.Bool.{Bool, true, false}
use native.Mathlib.Nat.{mul-le-mul, mul-le-mul_left}
use native.Mathlib.Numerals.{add-one}
use native.Mathlib.Omega.{arith}
use lib.Dec.{ltb}
use lib.ListN.{length, get_or, drop, take, set, length-append, length-set}
use lib.Seq.{length-take-le, take-suc-set, drop-set-lt, drop-drop, set_split}
use borrow.Author.Tests.{ltb-true, ltb-false}
use Rattle.std.specs.Prelude.{Result, Ok, Err}
use Rattle.net.specs.Refusals.{refusal}
use Rattle.numbers.specs.Numbers.{most_numbers, groups, written, refused, groups_at, number}
use Rattle.numbers.specs.Putting.{onto}
use Rattle.numbers.specs.Answers.{numbered_of}
use Rattle.numbers.specs.declared.Number.{Number}
use Rattle.numbers.specs.declared.Misread.{Misread}
use Rattle.numbers.proofs.Groups.{unit_of, at_end, at_more, at_zero, at_last, groups_last, groups_more}

-- READING A NUMBER. k groups were read, which make up `low`; the next stands at at + k, where 1 counts for `unit`
pub record SoFar (bytes : List ℕ) (at low unit k : ℕ) : Type 0 where
  pub few : k ≤ 4
  pub scale : unit ≡ unit_of k
  pub under : low < unit
  pub place : at + k < 18446744073709551616
  pub same : number bytes at ≡ groups_at bytes at (4 - k) unit low (at + k)

pub begin : (bytes : List ℕ) (at : ℕ) → at < 18446744073709551616 → SoFar bytes at 0 1 0
unfolding number
begin bytes at h =
    let z : at ≡ at + 0 = omega arith in
    record { few = omega arith; scale = refl; under = omega arith; place = omega arith; same = ap (λ (i : ℕ). groups_at bytes at 4 1 0 i) z }

unit_most : (k : ℕ) → k < 4 → unit_of k ≤ 2097152
unit_most zero h = omega arith
unit_most (suc zero) h = omega arith
unit_most (suc (suc zero)) h = omega arith
unit_most (suc (suc (suc zero))) h = omega arith
unit_most (suc (suc (suc (suc k)))) h = absurd (omega arith)

full' : (bytes : List ℕ) (at unit low i : ℕ) → groups_at bytes at 0 unit low i ≡ refused (refusal 11 at)
unfolding groups_at
full' bytes at unit low i = refl

module _ {bytes : List ℕ} {at low unit k : ℕ} (s : SoFar bytes at low unit k) where
  -- an answer of the code is what the definitions read
  abbrev Right : Result Number Misread → Type 0
  Right r = r ≡ numbered_of (number bytes at)

  -- four groups, and the last says that more follow
  pub full : 4 ≤ k → Right (Err (record { number = 11; place = at }))
  full h = let z : 4 - k ≡ 0 = omega arith in let e = s.same in ap numbered_of (sym (rw z at e ∙ full' bytes at unit low (at + k)))

  module _ (h : k < 4) where
    same' : number bytes at ≡ groups_at bytes at (suc (4 - (k + 1))) unit low (at + k)
    same' = let left : 4 - k ≡ suc (4 - (k + 1)) = omega arith in s.same ∙ rw left

    -- what a group adds fits
    pub unit_few : unit ≤ 2097152
    unit_few = let e = s.scale in omega (arith, unit_most k h)

    pub adds : (x : ℕ) → x < 128 → unit * x ≤ 2097152 * 127
    adds x l = mul-le-mul {n₂ = 2097152} {m₂ = 127} unit_few (omega arith)

    pub ten : length bytes ≤ at + k → Right (Err (record { number = 10; place = at }))
    ten l = ap numbered_of (sym (same' ∙ at_end bytes at _ unit low (at + k) l))

    module _ (b : ℕ) (is : b ≡ get_or bytes (at + k) 0) (there : at + k < length bytes) where
      pub nought : b ≡ 0 → at < at + k → Right (Err (record { number = 11; place = at }))
      nought z l = ap numbered_of (sym (same' ∙ at_zero bytes at _ unit low (at + k) there (sym is ∙ z) l))

      pub found : b < 128 → (at < at + k → 1 ≤ b) → Right (Ok (record { value = low + unit * b; next = at + k + 1 }))
      found l some = rw is (ap numbered_of (sym (same' ∙ at_last bytes at _ unit low (at + k) there (rw is at l) (rw is at some))))

      pub more : 128 ≤ b → b < 256 → at + k < 18446744073709551615 → SoFar bytes at (low + unit * (b - 128)) (unit * 128) (k + 1)
      more l m p =
          let u = mul-le-mul_left {m = b - 128} {n = 127} unit (omega arith) in
          let e = s.scale in let v = s.under in
          let w : unit * 128 ≡ 128 * unit = omega arith in
          let z : at + k + 1 ≡ at + (k + 1) = omega arith in
          record {
            few = omega arith;
            scale = rw (w, add-one) (ap (λ (x : ℕ). 128 * x) e);
            under = omega arith;
            place = omega arith;
            same = rw (is, w, ← z) (same' ∙ at_more bytes at _ unit low (at + k) there (rw is at l));
          }

-- HOW MANY BYTES A NUMBER TAKES
size_more : (k n : ℕ) → 128 ≤ n → length (groups (suc k) n) ≡ suc (length (groups k (n / 128)))
size_more k n h = rw (groups_more k n h)

size_last : (k n : ℕ) → n < 128 → length (groups k n) ≡ 1
size_last k n h = rw (groups_last k n h)

pub size_one : (n : ℕ) → n < 128 → length (written n) ≡ 1
unfolding written
size_one n h = size_last 3 n h

pub size_two : (n : ℕ) → 128 ≤ n → n < 16384 → length (written n) ≡ 2
unfolding written
size_two n h l = size_more 2 n h ∙ ap suc (size_last 2 (n / 128) (omega arith))

pub size_three : (n : ℕ) → 16384 ≤ n → n < 2097152 → length (written n) ≡ 3
unfolding written
size_three n h l = size_more 2 n (omega arith) ∙ ap suc (size_more 1 (n / 128) (omega arith) ∙ ap suc (size_last 1 (n / 128 / 128) (omega arith)))

pub size_four : (n : ℕ) → 2097152 ≤ n → length (written n) ≡ 4
unfolding written groups
size_four n h = size_more 2 n (omega arith) ∙ ap suc (size_more 1 (n / 128) (omega arith) ∙ ap suc (size_more 0 (n / 128 / 128) (omega arith)))

-- small numbers, and all
pub two_bytes : (n : ℕ) → n < 16384 → length (written n) ≤ 2
two_bytes n h = go (ltb n 128) refl
  where
    go : (t : Bool) → ltb n 128 ≡ t → length (written n) ≤ 2
    go true e = omega (arith, size_one n (ltb-true _ _ e))
    go false e = omega (arith, size_two n (ltb-false n 128 e) h)

pub three_bytes : (n : ℕ) → n < 2097152 → length (written n) ≤ 3
three_bytes n h = go (ltb n 16384) refl
  where
    go : (t : Bool) → ltb n 16384 ≡ t → length (written n) ≤ 3
    go true e = omega (arith, two_bytes n (ltb-true _ _ e))
    go false e = omega (arith, size_three n (ltb-false n 16384 e) h)

pub size_most : (n : ℕ) → length (written n) ≤ 4
size_most n = go (ltb n 128) (ltb n 16384) (ltb n 2097152) refl refl refl
  where
    go : (t u v : Bool) → ltb n 128 ≡ t → ltb n 16384 ≡ u → ltb n 2097152 ≡ v → length (written n) ≤ 4
    go true u v e f g = omega (arith, size_one n (ltb-true _ _ e))
    go false true v e f g = omega (arith, size_two n (ltb-false n 128 e) (ltb-true _ _ f))
    go false false true e f g = omega (arith, size_three n (ltb-false n 16384 f) (ltb-true _ _ g))
    go false false false e f g = omega (arith, size_four n (ltb-false n 2097152 g))

-- WRITING A NUMBER. k groups of n stand in the room, and the number `rest` is left to write; behind them the room is as it was
pub record Filling (room₀ room : List ℕ) (n rest k : ℕ) : Type 0 where
  pub few : k ≤ 3
  pub small : rest < unit_of (suc (3 - k))
  pub same : length room ≡ length room₀
  pub fits : k + length (groups (3 - k) rest) ≤ length room₀
  pub front : take k room ++ groups (3 - k) rest ≡ written n
  pub back : drop k room ≡ drop k room₀

pub begin_filling : (room : List ℕ) (n : ℕ) → n < most_numbers → length (written n) ≤ length room → Filling room room n n 0
unfolding written
begin_filling room n h l = record { few = omega arith; small = h; same = refl; fits = omega arith; front = refl; back = refl }

one_group : (n : ℕ) → 1 ≤ length (groups 0 n)
unfolding groups
one_group n = omega arith

some_groups : (k n : ℕ) → 1 ≤ length (groups k n)
some_groups k n = go k (ltb n 128) refl
  where
    go : (k : ℕ) (t : Bool) → ltb n 128 ≡ t → 1 ≤ length (groups k n)
    go k true e = let l = size_last k n (ltb-true _ _ e) in omega arith
    go zero false e = one_group n
    go (suc k) false e = let l = size_more k n (ltb-false n 128 e) in omega arith

drop_next : (k : ℕ) (a b : List ℕ) → drop k a ≡ drop k b → drop (k + 1) a ≡ drop (k + 1) b
drop_next k a b e = sym (drop-drop 1 k a) ∙ ap (λ (l : List ℕ). drop 1 l) e ∙ drop-drop 1 k b

module _ {room₀ room : List ℕ} {n rest k : ℕ} (f : Filling room₀ room n rest k) where
  -- there is room for a group
  pub has_room : k < length room
  has_room = let a = f.fits in let b = f.same in omega (arith, some_groups (3 - k) rest)

  not_last : 128 ≤ rest → k < 3
  not_last h = go (ltb k 3) refl
    where
      go : (t : Bool) → ltb k 3 ≡ t → k < 3
      go true e = ltb-true _ _ e
      go false e =
          let z : 3 - k ≡ 0 = (let l = ltb-false k 3 e in omega arith) in
          let s = f.small in
          absurd (omega (arith, rw z at s))

  -- a group that others follow
  pub fill_more : 128 ≤ rest → (v : ℕ) → v ≡ 128 + rest % 128 → Filling room₀ (set room k v) n (rest / 128) (k + 1)
  fill_more h v is =
      let l = not_last h in
      let z : 3 - k ≡ suc (3 - (k + 1)) = omega arith in
      let t : take (k + 1) (set room k v) ≡ take k room ++ (v ∷ []) = ap (λ (x : ℕ). take x (set room k v)) (add-one k) ∙ take-suc-set room k v has_room in
      let g : groups (3 - k) rest ≡ v ∷ groups (3 - (k + 1)) (rest / 128) = rw (z, is) (groups_more _ rest h) in
      record {
        few = omega arith;
        small = let s = rw z at f.small in omega arith;
        same = length-set room k v ∙ f.same;
        fits = let a = rw g at f.fits in omega arith;
        front = rw (t, append_assoc) (rw g at f.front);
        back = drop-set-lt (k + 1) room k v (omega arith) ∙ drop_next k room room₀ f.back;
      }

  -- the last group
  module _ (h : rest < 128) where
    last_front : written n ≡ take k room ++ (rest ∷ [])
    last_front = sym (rw (groups_last (3 - k) rest h) at f.front)

    pub fill_size : k + 1 ≡ length (written n)
    fill_size = let l = has_room in let e : k ≤ length room = omega arith in rw (last_front, length-append, length-take-le k room e)

    pub fill_last : set room k rest ≡ onto (written n) room₀
    fill_last =
        rw (← fill_size, last_front, append_assoc)
        (set_split room k rest has_room ∙ ap (λ (l : List ℕ). take k room ++ (rest ∷ l)) (ap (λ (x : ℕ). drop x room) (sym (add-one k)) ∙ drop_next k room room₀ f.back))
