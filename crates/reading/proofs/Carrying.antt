-- Numbers that a reader reads one behind the other, whatever was refused before: what two, three and five of them come to is what `ratio`, `segment` and `headed` say
-- (`ratio_carried`, `segment_carried`, `heading_carried`): so `ratio_at`, `segment_at` and `head_at` meet their contracts. Relies on Steps.
use Prim.Native.Nat.{ℕ}
use mathlib.Core.Path.{◌≡◌, refl, sym, ◌∙◌}
use mathlib.Core.List.{List}
use native.Mathlib.Omega.{arith}
use Rattle.std.specs.Prelude.{Ok, Err}
use Rattle.net.specs.Refusals.{first, ratio_lines}
use Rattle.net.specs.declared.Form.{Form}
use Rattle.numbers.specs.Numbers.{Got, got, refused, number}
use Rattle.numbers.specs.Answers.{numbered_of, says_numbered, behind_of}
use Rattle.reading.specs.Reading.{Reading, and_then, unless, hold, Triple, Heading, triple, headed, ratio, segment}
use Rattle.reading.specs.Answers.{the_segment_of}
use Rattle.reading.specs.Carrying.{Numbered, triple_of, head_from, heading_of, pair_of, ratio_of}
use Rattle.reading.proofs.Steps.{headed_by, segment_by}

-- after three numbers the place is the one behind the third
triple_behind : (a b c : Numbered) (t : Triple) (k : ℕ) → triple_of a b c ≡ got t k → behind_of c ≡ k
unfolding triple_of
triple_behind (Ok x) (Ok y) (Ok z) t k e = cc
triple_behind (Ok x) (Ok y) (Err m) t k e = let z : ◌≡◌ {A = ℕ} 0 1 = cc in absurd (omega arith)
triple_behind (Ok x) (Err m) c t k e = let z : ◌≡◌ {A = ℕ} 0 1 = cc in absurd (omega arith)
triple_behind (Err m) b c t k e = let z : ◌≡◌ {A = ℕ} 0 1 = cc in absurd (omega arith)

module _ (bytes : List ℕ) where
  -- what a reader reads at a place, and where it goes on
  abbrev pub read : ℕ → Numbered
  read at = numbered_of (number bytes at)

  abbrev pub on : ℕ → ℕ
  on at = behind_of (read at)

  -- a last number
  last_carried : {X : Type 0} (f : ℕ → Reading X) (at : ℕ) → and_then (says_numbered (read at)) f ≡ and_then (number bytes at) f
  last_carried f at = go (number bytes at)
    where
      go : (g : Got ℕ) → and_then (says_numbered (numbered_of g)) f ≡ and_then g f
      go (got n i) = refl
      go (refused r) = refl

  -- a number, and what is read behind it
  carried : {X : Type 0} (f g : ℕ → Reading X) (at : ℕ) → ((n i : ℕ) → f n i ≡ g n i) → and_then (says_numbered (read at)) (λ n _. f n (on at)) ≡ and_then (number bytes at) g
  carried {X} f g at e = go (number bytes at)
    where
      go : (h : Got ℕ) → and_then (says_numbered (numbered_of h)) (λ n _. f n (behind_of (numbered_of h))) ≡ and_then h g
      go (got n i) = e n i
      go (refused r) = refl

  pub triple_carried : (at : ℕ) → triple_of (read at) (read (on at)) (read (on (on at))) ≡ triple bytes at
  unfolding triple triple_of
  triple_carried at =
      carried (λ a i. and_then (says_numbered (read i)) (λ b _. and_then (says_numbered (read (on i))) (λ c k. got (record { one = a; two = b; three = c }) k))) _ at (λ a i.
      carried (λ b j. and_then (says_numbered (read j)) (λ c k. got (record { one = a; two = b; three = c }) k)) _ i (λ b j. last_carried (λ c k. got (record { one = a; two = b; three = c }) k) j))

  pub segment_carried : (posts i at : ℕ) → the_segment_of (triple_of (read at) (read (on at)) (read (on (on at)))) posts i ≡ segment bytes posts i at
  segment_carried posts i at = rw (triple_carried at) (sym (segment_by bytes posts i at))

  pub ratio_carried : (v at : ℕ) → ratio_of (pair_of (read at) (read (on at))) v ≡ ratio bytes v at
  unfolding ratio hold ratio_of pair_of
  ratio_carried v at = go₁ (number bytes at)
    where
      go₂ : (a i : ℕ) (g : Got ℕ) → ratio_of (pair_of (Ok (record { value = a; next = i })) (numbered_of g)) v
          ≡ and_then g (λ b at. and_then (unless (first (ratio_lines v (record { p = a; q = b }))) at) (λ _ at. got (record { p = a; q = b }) at))
      go₂ a i (got b j) = refl
      go₂ a i (refused r) = refl

      go₁ : (g : Got ℕ) → ratio_of (pair_of (numbered_of g) (read (behind_of (numbered_of g)))) v
          ≡ and_then g (λ a at. and_then (number bytes at) (λ b at. and_then (unless (first (ratio_lines v (record { p = a; q = b }))) at) (λ _ at. got (record { p = a; q = b }) at)))
      go₁ (got a i) = go₂ a i (number bytes i)
      go₁ (refused r) = refl

  pub heading_carried : (form : Form) (at : ℕ) → heading_of form (read at) (read (on at)) (read (on (on at))) (read (on (on (on at)))) (read (on (on (on (on at))))) ≡ headed bytes form at
  unfolding heading_of
  heading_carried form at = go (triple bytes at) (triple_carried at) ∙ sym (headed_by bytes form at)
    where
      with_two : Triple → ℕ → Got Heading
      with_two t i = and_then (number bytes i) (λ q j. and_then (number bytes j) (λ m k. got (record { head = head_from form t q; count = m }) k))

      two_carried : (t : Triple) (i : ℕ) → and_then (says_numbered (read i)) (λ q _. and_then (says_numbered (read (on i))) (λ m k. got (record { head = head_from form t q; count = m }) k)) ≡ with_two t i
      two_carried t i = carried (λ q j. and_then (says_numbered (read j)) (λ m k. got (record { head = head_from form t q; count = m }) k)) _ i
          (λ q j. last_carried (λ m k. got (record { head = head_from form t q; count = m }) k) j)

      go : (g : Got Triple) → triple_of (read at) (read (on at)) (read (on (on at))) ≡ g → heading_of form (read at) (read (on at)) (read (on (on at))) (read (on (on (on at)))) (read (on (on (on (on at))))) ≡ and_then g with_two
      go (got t i) e = let b = triple_behind _ _ _ t i e in rw (e, b) (two_carried t i)
      go (refused r) e = rw e
