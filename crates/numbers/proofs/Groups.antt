-- A number's bytes read as that number, and no others do; how far a number reaches. Relies on the definitions of specs/Numbers and on Lists.
use Prim.Native.Nat.{ℕ, zero, suc, ◌+◌, ◌*◌, ◌-◌, ◌/◌, ◌%◌, ◌<◌, ◌≤◌}
use mathlib.Core.Bool.{Bool, true, false, ◌&&◌}
use mathlib.Core.Path.{◌≡◌, refl, sym, ap, ◌∙◌}
use mathlib.Core.List.{List, [], ◌∷◌, ◌++◌}
use native.Mathlib.Nat.{mul-add, mul_assoc, mul_comm}
use native.Mathlib.Omega.{arith}
use native.Mathlib.Numerals.{add-one}
use lib.Dec.{eqb, ltb, leb}
use lib.ListN.{length, get_or, drop}
use lib.Seq.{drop-cons}
use borrow.Author.Tests.{ltb-true, ltb-false, leb-true, leb-false, eqb-true, eqb-false, lt-ltb, le-ltb, le-leb, lt-leb}
use Rattle.net.specs.Refusals.{refusal}
use Rattle.net.specs.declared.Refusal.{Refusal}
use Rattle.numbers.specs.Numbers.{Bytes, most_numbers, groups, written, Got, got, refused, groups_at, number}
use Rattle.numbers.proofs.Lists.{nonzero, begins}

-- what 1 counts for in group k
abbrev pub unit_of : ℕ → ℕ
unit_of zero = 1
unit_of (suc k) = 128 * unit_of k

-- the low seven bits and the rest make up a number, in any unit
pub split : (unit low m : ℕ) → low + unit * (128 + m % 128 - 128) + 128 * unit * (m / 128) ≡ low + unit * m
split unit low m =
    let e : m ≡ 128 * (m / 128) + m % 128 = omega arith in
    let f : unit * m ≡ unit * (128 * (m / 128)) + unit * (m % 128) = ap (λ (x : ℕ). unit * x) e ∙ mul-add unit _ _ in
    let g : unit * (128 * (m / 128)) ≡ 128 * unit * (m / 128) = sym (mul_assoc unit 128 (m / 128)) ∙ ap (λ (x : ℕ). x * (m / 128)) (mul_comm unit 128) in
    let h : unit * (128 + m % 128 - 128) ≡ unit * (m % 128) = ap (λ (x : ℕ). unit * x) (omega arith) in
    omega arith

-- the clauses of `groups`
pub groups_last : (k n : ℕ) → n < 128 → groups k n ≡ n ∷ []
unfolding groups
groups_last zero n h = refl
groups_last (suc k) n h = rw (lt-ltb _ _ h)

pub groups_more : (k n : ℕ) → 128 ≤ n → groups (suc k) n ≡ (128 + n % 128) ∷ groups k (n / 128)
unfolding groups
groups_more k n h = rw (le-ltb _ _ h)

-- a last group that is no zero behind others
no_zero : (b start at : ℕ) → (start < at → 1 ≤ b) → (eqb b 0 && ltb start at) ≡ false
no_zero b start at h = go (eqb b 0) (ltb start at) refl refl
  where
    go : (t u : Bool) → eqb b 0 ≡ t → ltb start at ≡ u → (t && u) ≡ false
    go false u e f = refl
    go true false e f = refl
    go true true e f = absurd (omega (arith, h (ltb-true start at f), eqb-true b 0 e))

-- a group is below 128, and so below every unit but the first
last_small : (k m : ℕ) → m < 128 → m < unit_of (suc k)
last_small zero m h = h
last_small (suc k) m h = let i = last_small k m h in omega arith

module _ (bytes : List ℕ) (start : ℕ) where
  -- the clauses of `groups_at`
  pub at_end : (k unit low at : ℕ) → length bytes ≤ at → groups_at bytes start (suc k) unit low at ≡ refused (refusal 10 start)
  unfolding groups_at
  at_end k unit low at h = rw (le-leb _ _ h)

  pub at_more : (k unit low at : ℕ) → at < length bytes → 128 ≤ get_or bytes at 0
      → groups_at bytes start (suc k) unit low at ≡ groups_at bytes start k (128 * unit) (low + unit * (get_or bytes at 0 - 128)) (at + 1)
  unfolding groups_at
  at_more k unit low at h₁ h₂ = rw (lt-leb _ _ h₁, le-leb _ _ h₂)

  pub at_zero : (k unit low at : ℕ) → at < length bytes → get_or bytes at 0 ≡ 0 → start < at → groups_at bytes start (suc k) unit low at ≡ refused (refusal 11 start)
  unfolding groups_at
  at_zero k unit low at h₁ h₂ h₃ = rw (lt-leb _ _ h₁, h₂, lt-ltb _ _ h₃)

  pub at_last : (k unit low at : ℕ) → at < length bytes → get_or bytes at 0 < 128 → (start < at → 1 ≤ get_or bytes at 0)
      → groups_at bytes start (suc k) unit low at ≡ got (low + unit * get_or bytes at 0) (at + 1)
  unfolding groups_at
  at_last k unit low at h₁ h₂ h₃ = rw (lt-leb _ _ h₁, lt-leb _ _ h₂, no_zero _ start at h₃)

  -- THE BYTES OF A NUMBER READ AS IT: a last group
  last_read : (k m unit low at : ℕ) (rest : List ℕ) → m < 128 → (start < at → 1 ≤ m) → drop at bytes ≡ groups k m ++ rest
      → groups_at bytes start (suc k) unit low at ≡ got (low + unit * m) (at + length (groups k m))
  last_read k m unit low at rest h some e =
      let b = begins bytes at m rest (rw groups_last at e) in
      rw (groups_last k m h, ← b.is) (at_last k unit low at b.there (omega (arith, b.is)) (λ s. rw b.is (some s)))

  -- a group that others follow
  more_read : (k m unit low at : ℕ) (rest : List ℕ)
      → (m / 128 < unit_of (suc k) → (start < at + 1 → 1 ≤ m / 128) → start ≤ at + 1 → drop (at + 1) bytes ≡ groups k (m / 128) ++ rest
      → groups_at bytes start (suc k) (128 * unit) (low + unit * (128 + m % 128 - 128)) (at + 1)
      ≡ got (low + unit * (128 + m % 128 - 128) + 128 * unit * (m / 128)) (at + 1 + length (groups k (m / 128))))
      → m < unit_of (suc (suc k)) → (start < at → 1 ≤ m) → start ≤ at → drop at bytes ≡ groups (suc k) m ++ rest → (t : Bool) → ltb m 128 ≡ t
      → groups_at bytes start (suc (suc k)) unit low at ≡ got (low + unit * m) (at + length (groups (suc k) m))
  more_read k m unit low at rest rest_read small some behind e true f = last_read (suc k) m unit low at rest (ltb-true _ _ f) some e
  more_read k m unit low at rest rest_read small some behind e false f =
      let h = ltb-false m 128 f in
      let b = begins bytes at (128 + m % 128) (groups k (m / 128) ++ rest) (rw groups_more at e) in
      let r = rest_read (omega arith) (λ s. omega arith) (omega arith) b.behind in
      let j : at + 1 + length (groups k (m / 128)) ≡ at + (suc (length (groups k (m / 128)))) = omega arith in
      at_more (suc k) unit low at b.there (omega (arith, b.is))
      ∙ rw (b.is, groups_more k m h) (r ∙ rw (split unit low m, j))

  pub groups_read : (k m unit low at : ℕ) (rest : List ℕ) → m < unit_of (suc k) → (start < at → 1 ≤ m) → start ≤ at
      → drop at bytes ≡ groups k m ++ rest
      → groups_at bytes start (suc k) unit low at ≡ got (low + unit * m) (at + length (groups k m))
  groups_read zero m unit low at rest small some behind e = last_read zero m unit low at rest small some e
  groups_read (suc k) m unit low at rest small some behind e =
      more_read k m unit low at rest (groups_read k (m / 128) (128 * unit) (low + unit * (128 + m % 128 - 128)) (at + 1) rest) small some behind e (ltb m 128) refl

  -- the ways on from a group: the bytes end, others follow, it is a zero behind others, or it is the last
  pub data Step (k unit low at : ℕ) : Got ℕ → Type 0 where
    ends : length bytes ≤ at → Step k unit low at (refused (refusal 10 start))
    more : at < length bytes → 128 ≤ get_or bytes at 0
        → Step k unit low at (groups_at bytes start k (128 * unit) (low + unit * (get_or bytes at 0 - 128)) (at + 1))
    nought : at < length bytes → get_or bytes at 0 ≡ 0 → start < at → Step k unit low at (refused (refusal 11 start))
    last : at < length bytes → get_or bytes at 0 < 128 → (start < at → 1 ≤ get_or bytes at 0) → Step k unit low at (got (low + unit * get_or bytes at 0) (at + 1))

  pub step : (k unit low at : ℕ) → Step k unit low at (groups_at bytes start (suc k) unit low at)
  step k unit low at = go (leb (length bytes) at) (leb 128 (get_or bytes at 0)) (eqb (get_or bytes at 0) 0) (ltb start at) refl refl refl refl
    where
      go : (t u v w : Bool) → leb (length bytes) at ≡ t → leb 128 (get_or bytes at 0) ≡ u → eqb (get_or bytes at 0) 0 ≡ v → ltb start at ≡ w
          → Step k unit low at (groups_at bytes start (suc k) unit low at)
      go true u v w e f g h = rw (at_end k unit low at (leb-true _ _ e)) (ends (leb-true _ _ e))
      go false true v w e f g h =
          rw (at_more k unit low at (leb-false _ _ e) (leb-true _ _ f)) (more (leb-false _ _ e) (leb-true _ _ f))
      go false false true true e f g h =
          rw (at_zero k unit low at (leb-false _ _ e) (eqb-true _ _ g) (ltb-true _ _ h)) (nought (leb-false _ _ e) (eqb-true _ _ g) (ltb-true _ _ h))
      go false false true false e f g h =
          let z : start < at → 1 ≤ get_or bytes at 0 = λ s. absurd (omega (arith, ltb-false start at h)) in
          rw (at_last k unit low at (leb-false _ _ e) (leb-false _ _ f) z) (last (leb-false _ _ e) (leb-false _ _ f) z)
      go false false false w e f g h =
          let z : start < at → 1 ≤ get_or bytes at 0 = λ s. nonzero (get_or bytes at 0) (eqb-false _ _ g) in
          rw (at_last k unit low at (leb-false _ _ e) (leb-false _ _ f) z) (last (leb-false _ _ e) (leb-false _ _ f) z)

  -- after a fourth group that says that more follow no number is read
  too_many : (unit low at n next : ℕ) → groups_at bytes start 0 unit low at ≡ got n next → ⊥
  unfolding groups_at
  too_many unit low at n next e = let z : ◌≡◌ {A = ℕ} 0 1 = cc in omega arith

  -- NO OTHER BYTES READ AS A NUMBER: what was read, n, is made of `low` and of a number m whose groups stand there
  pub record FromGroups (k unit low at n next : ℕ) : Type 0 where
    pub m : ℕ
    pub value : n ≡ low + unit * m
    pub small : m < unit_of (suc k)
    pub some : start < at → 1 ≤ m
    pub stands : drop at bytes ≡ groups k m ++ drop next bytes
    pub size : next ≡ at + length (groups k m)
    pub within : next ≤ length bytes

  module _ (all : Bytes bytes) where
    from_last : (k unit low at n next : ℕ) → at < length bytes → get_or bytes at 0 < 128 → (start < at → 1 ≤ get_or bytes at 0)
        → ◌≡◌ {A = Got ℕ} (got (low + unit * get_or bytes at 0) (at + 1)) (got n next) → FromGroups k unit low at n next
    from_last k unit low at n next h₁ h₂ h₃ e =
        let v : low + unit * get_or bytes at 0 ≡ n = cc in
        let x : at + 1 ≡ next = cc in
        let l = groups_last k (get_or bytes at 0) h₂ in
        let d = drop-cons bytes at 0 h₁ in
        record {
          m = get_or bytes at 0;
          value = sym v;
          small = last_small k (get_or bytes at 0) h₂;
          some = h₃;
          stands = rw (l, ← x, add-one) d;
          size = rw l (sym x);
          within = omega arith;
        }

    from_more : (k unit low at n next : ℕ) → at < length bytes → 128 ≤ get_or bytes at 0 → start ≤ at
        → FromGroups k (128 * unit) (low + unit * (get_or bytes at 0 - 128)) (at + 1) n next → FromGroups (suc k) unit low at n next
    from_more k unit low at n next h₁ h₂ behind r =
        let b = get_or bytes at 0 in
        let byte = all at in
        let m' = r.m in
        let some' = r.some (omega arith) in
        let m = 128 * m' + (b - 128) in
        let d : m / 128 ≡ m' = omega arith in
        let c : 128 + m % 128 ≡ b = omega arith in
        let g : groups (suc k) m ≡ b ∷ groups k m' = groups_more k m (omega arith) ∙ rw (c, d) in
        let x = drop-cons bytes at 0 h₁ in
        let v = split unit low m in
        record {
          m = m;
          value = r.value ∙ (rw (c, d) at v);
          small = let s = r.small in omega arith;
          some = λ s. omega arith;
          stands = rw g (x ∙ ap (λ (l : List ℕ). b ∷ l) (rw add-one at r.stands));
          size = rw g (let s = r.size in omega arith);
          within = r.within;
        }

    from_step : (k unit low at n next : ℕ) {g : Got ℕ}
        → (groups_at bytes start k (128 * unit) (low + unit * (get_or bytes at 0 - 128)) (at + 1) ≡ got n next → at < length bytes → 128 ≤ get_or bytes at 0
        → FromGroups k unit low at n next)
        → Step k unit low at g → g ≡ got n next → FromGroups k unit low at n next
    from_step k unit low at n next on (ends h) e = let z : ◌≡◌ {A = ℕ} 0 1 = cc in absurd (omega arith)
    from_step k unit low at n next on (nought h₁ h₂ h₃) e = let z : ◌≡◌ {A = ℕ} 0 1 = cc in absurd (omega arith)
    from_step k unit low at n next on (last h₁ h₂ h₃) e = from_last k unit low at n next h₁ h₂ h₃ e
    from_step k unit low at n next on (more h₁ h₂) e = on e h₁ h₂

    pub read_groups : (k unit low at n next : ℕ) → start ≤ at → groups_at bytes start (suc k) unit low at ≡ got n next → FromGroups k unit low at n next
    read_groups zero unit low at n next behind e = from_step zero unit low at n next (λ f h₁ h₂. absurd (too_many _ _ _ n next f)) (step zero unit low at) e
    read_groups (suc k) unit low at n next behind e =
        from_step (suc k) unit low at n next
        (λ f h₁ h₂. from_more k unit low at n next h₁ h₂ behind
        (read_groups k (128 * unit) (low + unit * (get_or bytes at 0 - 128)) (at + 1) n next (omega arith) f))
        (step (suc k) unit low at) e

-- THE NUMBER LAWS
-- a number's bytes read as that number
pub number_of_written : (bytes : List ℕ) (at n : ℕ) (rest : List ℕ) → n < most_numbers → drop at bytes ≡ written n ++ rest
    → number bytes at ≡ got n (at + length (written n))
unfolding number written
number_of_written bytes at n rest small e =
    groups_read bytes at 3 n 1 0 at rest small (λ s. absurd (omega arith)) (omega arith) e ∙ ap (λ (x : ℕ). got x (at + length (groups 3 n))) (omega arith)

-- what was read of a number: its bytes stand there
pub record Stands (bytes : List ℕ) (at n next : ℕ) : Type 0 where
  pub small : n < most_numbers
  pub stands : drop at bytes ≡ written n ++ drop next bytes
  pub size : next ≡ at + length (written n)
  pub within : next ≤ length bytes

-- and no others do
pub written_of_number : (bytes : List ℕ) (at n next : ℕ) → Bytes bytes → number bytes at ≡ got n next → Stands bytes at n next
unfolding number written
written_of_number bytes at n next all e =
    let r = read_groups bytes at all 3 1 0 at n next (omega arith) e in
    let v : n ≡ r.m = (let q = r.value in omega arith) in
    record {
      small = let s = r.small in omega arith;
      stands = rw v r.stands;
      size = rw v r.size;
      within = r.within;
    }

-- HOW FAR A NUMBER REACHES, AND THE PLACE OF A REFUSAL
module _ (bytes : List ℕ) (start : ℕ) where
  step_next : (k unit low at n next : ℕ) {g : Got ℕ}
      → (groups_at bytes start k (128 * unit) (low + unit * (get_or bytes at 0 - 128)) (at + 1) ≡ got n next → next ≤ at + 1 + k)
      → Step bytes start k unit low at g → g ≡ got n next → next ≤ at + suc k
  step_next k unit low at n next on (ends h) e = let z : ◌≡◌ {A = ℕ} 0 1 = cc in absurd (omega arith)
  step_next k unit low at n next on (nought h₁ h₂ h₃) e = let z : ◌≡◌ {A = ℕ} 0 1 = cc in absurd (omega arith)
  step_next k unit low at n next on (last h₁ h₂ h₃) e = let z : at + 1 ≡ next = cc in omega arith
  step_next k unit low at n next on (more h₁ h₂) e = omega (arith, on e)

  groups_next : (k unit low at n next : ℕ) → groups_at bytes start k unit low at ≡ got n next → next ≤ at + k
  groups_next zero unit low at n next e = absurd (too_many bytes start unit low at n next e)
  groups_next (suc k) unit low at n next e = step_next k unit low at n next (groups_next k _ _ (at + 1) n next) (step bytes start k unit low at) e

  step_place : (k unit low at : ℕ) (r : Refusal) {g : Got ℕ}
      → (groups_at bytes start k (128 * unit) (low + unit * (get_or bytes at 0 - 128)) (at + 1) ≡ refused r → r.place ≡ start)
      → Step bytes start k unit low at g → g ≡ refused r → r.place ≡ start
  step_place k unit low at r on (ends h) e = let z : refusal 10 start ≡ r = cc in ap (λ (q : Refusal). q.place) (sym z)
  step_place k unit low at r on (nought h₁ h₂ h₃) e = let z : refusal 11 start ≡ r = cc in ap (λ (q : Refusal). q.place) (sym z)
  step_place k unit low at r on (last h₁ h₂ h₃) e = let z : ◌≡◌ {A = ℕ} 0 1 = cc in absurd (omega arith)
  step_place k unit low at r on (more h₁ h₂) e = on e

  groups_place : (k unit low at : ℕ) (r : Refusal) → groups_at bytes start k unit low at ≡ refused r → r.place ≡ start
  unfolding groups_at
  groups_place zero unit low at r e = let z : refusal 11 start ≡ r = cc in ap (λ (q : Refusal). q.place) (sym z)
  groups_place (suc k) unit low at r e = step_place k unit low at r (groups_place k _ _ (at + 1) r) (step bytes start k unit low at) e

pub number_next : (bytes : List ℕ) (at n next : ℕ) → number bytes at ≡ got n next → next ≤ at + 4
unfolding number
number_next bytes at n next e = groups_next bytes at 4 1 0 at n next e

pub number_place : (bytes : List ℕ) (at : ℕ) (r : Refusal) → number bytes at ≡ refused r → r.place ≡ at
unfolding number
number_place bytes at r e = groups_place bytes at 4 1 0 at r e
