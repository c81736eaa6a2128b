-- Numbers by the rules of specs/Rules: every place of a record has an answer by them, it has no other, and the reader computes it. Relies on Groups and Runs.
use Prim.Native.Nat.{ℕ, zero, suc, ◌+◌, ◌*◌, ◌-◌, ◌<◌, ◌≤◌}
use mathlib.Core.Bool.{Bool, true, false}
use mathlib.Core.Path.{◌≡◌, refl, ap, ◌∙◌}
use mathlib.Core.List.{List}
use native.Mathlib.Omega.{arith}
use lib.Dec.{ltb}
use lib.ListN.{length, get_or}
use borrow.Author.Tests.{ltb-true, ltb-false}
use Rattle.net.specs.Refusals.{refusal}
use Rattle.net.specs.declared.Refusal.{Refusal}
use Rattle.numbers.specs.Numbers.{Bytes, Got, got, refused, groups_at, number}
use Rattle.numbers.specs.Rules.{MoreFollow, NumberRule, stands, ten, eleven_zero, eleven_more}
use Rattle.numbers.proofs.Groups.{at_end, at_more, at_zero, Step, ends, more, nought, last, step}
use Rattle.numbers.proofs.Runs.{number_stands, number_is}

-- after four groups
four : (bytes : List ℕ) (at unit low i : ℕ) → groups_at bytes at 0 unit low i ≡ refused (refusal 11 at)
unfolding groups_at
four bytes at unit low i = refl

module _ (bytes : List ℕ) where
  -- THE RULES GIVE WHAT THE READER GIVES. Behind j groups that say that more follow
  record OnTo (at j : ℕ) : Type 0 where
    unit : ℕ
    low : ℕ
    same : number bytes at ≡ groups_at bytes at (4 - j) unit low (at + j)

  on_to : (at j : ℕ) → j ≤ 4 → MoreFollow bytes at j → OnTo at j
  unfolding number
  on_to at zero h m = record { unit = 1; low = 0; same = ap (λ (x : ℕ). groups_at bytes at 4 1 0 x) (omega arith) }
  on_to at (suc j) h m =
      let o = on_to at j (omega arith) (λ i l. m i (omega arith)) in
      let b = m j (omega arith) in
      let z : 4 - j ≡ suc (4 - suc j) = omega arith in
      let y : at + j + 1 ≡ at + suc j = omega arith in
      record {
        unit = 128 * o.unit;
        low = o.low + o.unit * (get_or bytes (at + j) 0 - 128);
        same = o.same ∙ rw (z, ← y) (at_more bytes at (4 - suc j) o.unit o.low (at + j) b.0 b.1);
      }

  left : (j : ℕ) → j < 4 → 4 - j ≡ suc (4 - (j + 1))
  left j h = omega arith

  pub number_only : (at : ℕ) {g : Got ℕ} → NumberRule bytes at g → number bytes at ≡ g
  number_only at (stands small s) = number_stands small s
  number_only at (ten {k} l m e) =
      let o = on_to at k (omega arith) m in
      o.same ∙ rw (left k l) (at_end bytes at _ o.unit o.low (at + k) e)
  number_only at (eleven_zero {k} s l m e z) =
      let o = on_to at k (omega arith) m in
      o.same ∙ rw (left k l) (at_zero bytes at _ o.unit o.low (at + k) e z (omega arith))
  number_only at (eleven_more m) =
      let o = on_to at 4 (omega arith) m in
      o.same ∙ four bytes at o.unit o.low (at + 4)

  -- AND EVERY PLACE HAS AN ANSWER BY THE RULES
  module _ (start : ℕ) where
    more_follow : (j : ℕ) → MoreFollow bytes start j → start + j < length bytes → 128 ≤ get_or bytes (start + j) 0 → MoreFollow bytes start (suc j)
    more_follow j m h b i l = go (ltb i j) refl
      where
        go : (t : Bool) → ltb i j ≡ t → (start + i < length bytes) × (128 ≤ get_or bytes (start + i) 0)
        go true e = m i (ltb-true _ _ e)
        go false e = let z : i ≡ j = (let f = ltb-false i j e in omega arith) in rw z (h, b)

    step_rule : (k j unit low : ℕ) (r : Refusal) {g : Got ℕ} → j + suc k ≡ 4 → MoreFollow bytes start j
        → (start + j < length bytes → 128 ≤ get_or bytes (start + j) 0
        → groups_at bytes start k (128 * unit) (low + unit * (get_or bytes (start + j) 0 - 128)) (start + j + 1) ≡ refused r → NumberRule bytes start (refused r))
        → Step bytes start k unit low (start + j) g → g ≡ refused r → NumberRule bytes start (refused r)
    step_rule k j unit low r q m on (ends h) e = let z : refusal 10 start ≡ r = cc in rw (← z) (ten {k = j} (omega arith) m h)
    step_rule k j unit low r q m on (nought h₁ h₂ h₃) e = let z : refusal 11 start ≡ r = cc in rw (← z) (eleven_zero {k = j} (omega arith) (omega arith) m h₁ h₂)
    step_rule k j unit low r q m on (last h₁ h₂ h₃) e = let z : ◌≡◌ {A = ℕ} 0 1 = cc in absurd (omega arith)
    step_rule k j unit low r q m on (more h₁ h₂) e = on h₁ h₂ e

    groups_rule : (k j unit low : ℕ) (r : Refusal) → j + k ≡ 4 → MoreFollow bytes start j → groups_at bytes start k unit low (start + j) ≡ refused r
        → NumberRule bytes start (refused r)
    groups_rule zero j unit low r q m e =
        let y : j ≡ 4 = omega arith in
        let z : refusal 11 start ≡ r = (let f = four bytes start unit low (start + j) in cc) in
        rw (← z) (eleven_more (rw y at m))
    groups_rule (suc k) j unit low r q m e =
        step_rule k j unit low r q m
        (λ h b f. (let y : start + j + 1 ≡ start + suc j = omega arith in
        groups_rule k (suc j) (128 * unit) (low + unit * (get_or bytes (start + j) 0 - 128)) r (omega arith) (more_follow j m h b) (rw y at f)))
        (step bytes start k unit low (start + j)) e

  refused_rule : (at : ℕ) (r : Refusal) → number bytes at ≡ refused r → NumberRule bytes at (refused r)
  unfolding number
  refused_rule at r e =
      let y : at + 0 ≡ at = omega arith in
      groups_rule at 4 0 1 0 r refl (λ i l. absurd (omega arith)) (rw y e)

  pub number_answers : Bytes bytes → (at : ℕ) → NumberRule bytes at (number bytes at)
  number_answers all at = go (number bytes at) refl
    where
      go : (g : Got ℕ) → number bytes at ≡ g → NumberRule bytes at g
      go (got n next) e = let s = number_is all e in stands s.small s.stands
      go (refused r) e = refused_rule at r e
