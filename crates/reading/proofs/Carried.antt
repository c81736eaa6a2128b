-- What a step of the reader hands on, and the refusals that it hands on: each step begins where the one before it ended, in the same record. Relies on numbers' Groups, on
-- Carrying and on what the steps answer (`read_of`, of a number also `carried_on`).
use Prim.Native.Nat.{ℕ}
use mathlib.Core.Path.{◌≡◌, refl, sym, ap, ◌∙◌}
use mathlib.Core.List.{List}
use native.Mathlib.Omega.{arith}
use Rattle.std.specs.Prelude.{Result, Ok, Err}
use Rattle.net.specs.Net.{Ratio}
use Rattle.net.specs.declared.Counted.{Counted}
use Rattle.net.specs.declared.Refusal.{Refusal}
use Rattle.numbers.specs.Numbers.{Got, got, refused, number}
use Rattle.numbers.specs.Answers.{numbered_of, says_numbered}
use Rattle.numbers.specs.declared.Number.{Number}
use Rattle.numbers.specs.declared.Misread.{Misread}
use Rattle.numbers.proofs.Groups.{number_place}
use Rattle.numbers.specs.declared.reader.Reader.{Reader}
use Rattle.reading.specs.Reading.{Reading, Heading}
use Rattle.reading.specs.Answers.{read_of, counted}
use Rattle.reading.specs.Carrying.{Numbered, carried_on}
use Rattle.reading.proofs.Carrying.{read}

-- a number that was misread, where it begins
pub misread_near : (bytes : List ℕ) (at : ℕ) {v : Result Number Misread} {m : Misread} → v ≡ numbered_of (number bytes at) → v ≡ Err m → m.place ≡ at
misread_near bytes at {v} {m} e k = go (number bytes at) refl e
  where
    go : (g : Got ℕ) → number bytes at ≡ g → v ≡ numbered_of g → m.place ≡ at
    go (got n next) f e = let z : ◌≡◌ {A = ℕ} 0 1 = cc in absurd (omega arith)
    go (refused r) f e = let z : ◌≡◌ {A = Misread} (record { number = r.number; place = r.place }) m = cc in ap (λ (m : Misread). m.place) (sym z) ∙ number_place bytes at r f

module _ {X Y : Type 0} (f : X → ℕ → Y) where
  -- a refusal that was handed on
  pub stopped : {g : Got X} {v : Result Y Refusal} {r : Refusal} → v ≡ read_of f g → v ≡ Err r → g ≡ refused r
  stopped {g} {v} {r} e k = go g e
    where
      go : (g : Got X) → v ≡ read_of f g → g ≡ refused r
      go (got x at) e = let z : ◌≡◌ {A = ℕ} 0 1 = cc in absurd (omega arith)
      go (refused q) e = cc

  -- what was handed on
  pub record Came (g : Got X) (y : Y) : Type 0 where
    pub x : X
    pub at : ℕ
    pub is : g ≡ got x at
    pub says : f x at ≡ y

  pub came : {g : Got X} {v : Result Y Refusal} {y : Y} → v ≡ read_of f g → v ≡ Ok y → Came g y
  came {g} {v} {y} e k = go g e
    where
      go : (g : Got X) → v ≡ read_of f g → Came g y
      go (got x at) e = record { x = x; at = at; is = refl; says = cc }
      go (refused q) e = let z : ◌≡◌ {A = ℕ} 0 1 = cc in absurd (omega arith)

-- what a step hands on, with a reader of the same record
pub hands_on : {X Y : Type 0} (k : X → Reader → Y) (s : Reader) {g : Got X} {x : X} {t : Reader} → g ≡ got x t.at → t.bytes ≡ s.bytes
    → ◌≡◌ {A = Result Y Refusal} (Ok (k x t)) (read_of (λ x at. k x (record { bytes = s.bytes; at = at })) g)
hands_on k s {x} {t} e f = rw e (ap (λ b. Ok (k x (record { bytes = b; at = t.at }))) f)

-- A STEP in the record of the reader s, by a reader r of the same record
module _ {X : Type 0} (f : List ℕ → Reading X) (s r : Reader) (same : r.bytes ≡ s.bytes) {Y : Type 0} (k : X → ℕ → Y) {v : Result Y Refusal} where
  pub stops : {q : Refusal} → v ≡ read_of k (f r.bytes.now r.at) → v ≡ Err q → f s.bytes.now r.at ≡ refused q
  stops e g = stopped k (rw same at e) g

-- A NUMBER that the reader r hands on, in the record of the reader s
module _ (s r : Reader) (same : r.bytes ≡ s.bytes) {v : Result (ℕ × Reader) Refusal} (e : v ≡ carried_on r (read r.bytes.now r.at)) where
  pub carried_stops : {q : Refusal} → v ≡ Err q → says_numbered (read s.bytes.now r.at) ≡ refused q
  carried_stops g = rw same at (stopped _ e g)

  -- what was read, and the reader that goes on behind it
  pub carried_steps : {n : ℕ} {t : Reader} → v ≡ Ok (n, t) → (read s.bytes.now r.at ≡ Ok (record { value = n; next = t.at })) × (t.bytes ≡ s.bytes)
  carried_steps {n} {t} g = go (read s.bytes.now r.at) (rw same at e)
    where
      go : (w : Numbered) → v ≡ carried_on s w → (w ≡ Ok (record { value = n; next = t.at })) × (t.bytes ≡ s.bytes)
      go (Ok x) k =
          let l : ◌≡◌ {A = ℕ × Reader} (x.value, record { bytes = s.bytes; at = x.next }) (n, t) = cc in
          (ap (λ (p : ℕ × Reader). Ok (record { value = p.0; next = p.1.at })) l, sym (ap (λ (p : ℕ × Reader). p.1.bytes) l))
      go (Err m) k = let z : ◌≡◌ {A = ℕ} 0 1 = cc in absurd (omega arith)

-- what it read, and the reader behind it
abbrev pub Step : {X : Type 0} → (List ℕ → Reading X) → Reader → ℕ → X → Reader → Type 0
Step f s at x t = (f s.bytes.now at ≡ got x t.at) × (t.bytes ≡ s.bytes)

-- a row that was read up to a place
pub record Row {X : Type 0} (g : Got X) (at : ℕ) : Type 0 where
  pub xs : X
  pub is : g ≡ got xs at

module _ (s r : Reader) (same : r.bytes ≡ s.bytes) where
  pub steps : {X : Type 0} (f : List ℕ → Reading X) {x : X} {t : Reader} {v : Result (X × Reader) Refusal}
      → v ≡ read_of (λ x at. (x, record { bytes = r.bytes; at = at })) (f r.bytes.now r.at) → v ≡ Ok (x, t) → Step f s r.at x t
  steps {X} f e g =
      let c = came _ (rw same at e) g in
      (c.is ∙ ap (λ (p : X × Reader). got p.0 p.1.at) c.says, sym (ap (λ (p : X × Reader). p.1.bytes) c.says))

  pub heading_steps : (f : List ℕ → Reading Heading) {h : Counted} {t : Reader} {v : Result (Counted × Reader) Refusal}
      → v ≡ read_of (λ h at. (counted h, record { bytes = r.bytes; at = at })) (f r.bytes.now r.at) → v ≡ Ok (h, t)
      → Step f s r.at (record { head = h.head; count = h.count }) t
  heading_steps f e g =
      let c = came _ (rw same at e) g in
      (c.is ∙ ap (λ (p : Counted × Reader). got (record { head = p.0.head; count = p.0.count }) p.1.at) c.says, sym (ap (λ (p : Counted × Reader). p.1.bytes) c.says))

  pub ratio_steps : (f : List ℕ → Reading Ratio) {p q : ℕ} {t : Reader} {v : Result (ℕ × ℕ × Reader) Refusal}
      → v ≡ read_of (λ o at. (o.p, o.q, record { bytes = r.bytes; at = at })) (f r.bytes.now r.at) → v ≡ Ok (p, q, t)
      → Step f s r.at (record { p = p; q = q }) t
  ratio_steps f e g =
      let c = came _ (rw same at e) g in
      (c.is ∙ ap (λ (k : ℕ × ℕ × Reader). got (record { p = k.0; q = k.1 }) k.2.at) c.says, sym (ap (λ (k : ℕ × ℕ × Reader). k.2.bytes) c.says))

  -- a row, of which only the reader behind it is handed on
  pub row_steps : {X : Type 0} (f : List ℕ → Reading X) {t : Reader} {v : Result Reader Refusal}
      → v ≡ read_of (λ _ at. record { bytes = r.bytes; at = at }) (f r.bytes.now r.at) → v ≡ Ok t → Row (f s.bytes.now r.at) t.at × (t.bytes ≡ s.bytes)
  row_steps f e g =
      let c = came _ (rw same at e) g in
      (record { xs = c.x; is = c.is ∙ ap (λ (k : Reader). got c.x k.at) c.says }, sym (ap (λ (k : Reader). k.bytes) c.says))
