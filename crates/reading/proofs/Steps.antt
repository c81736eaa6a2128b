-- The steps of reading, by the ways out of the code: three numbers, a head of either form, a post, a segment. Relies on numbers' Groups and on the definitions of specs/Reading.
use Prim.Native.Nat.{ℕ, ◌+◌, ◌≤◌}
use mathlib.Core.Path.{◌≡◌, refl, sym, ap, subst, ◌∙◌}
use mathlib.Core.Bool.{Bool, true, false, cond}
use mathlib.Core.List.{List}
use mathlib.Core.Option.{Option, none, some}
use native.Mathlib.Omega.{arith}
use lib.Dec.{eqb}
use borrow.Author.Tests.{eqb-true, eqb-false, ne_eqb}
use Rattle.net.specs.Net.{Ratio}
use Rattle.net.specs.Refusals.{first, ratio_lines, segment_lines}
use Rattle.net.specs.declared.Segment.{Segment}
use Rattle.net.specs.declared.Form.{Form}
use Rattle.net.specs.declared.Form.TheVariants.{First, Second}
use Rattle.net.specs.declared.Refusal.{Refusal}
use Rattle.numbers.specs.Numbers.{Got, got, refused, number}
use Rattle.reading.specs.Reading.{Reading, and_then, unless, hold, Triple, Heading, triple, formed, headed, heading, ratio, segment}
use Rattle.reading.specs.Answers.{segment_from, the_segment_of}
use Rattle.numbers.proofs.Groups.{number_next}

-- what was handed on
pub record Handed {X Y : Type 0} (g : Got X) (f : X → Reading Y) (y : Y) (next : ℕ) : Type 0 where
  pub x : X
  pub i : ℕ
  pub is : g ≡ got x i
  pub on : f x i ≡ got y next

pub handed : {X Y : Type 0} (g : Got X) (f : X → Reading Y) {y : Y} {next : ℕ} → and_then g f ≡ got y next → Handed g f y next
handed (got x i) f e = record { x = x; i = i; is = refl; on = e }
handed (refused r) f e = let z : ◌≡◌ {A = ℕ} 0 1 = cc in absurd (omega arith)

-- where no line refuses, the reading goes on from the same place
pub unless_passes : {Y : Type 0} (o : Option Refusal) (at : ℕ) (f : Unit {0} → Reading Y) {y : Y} {next : ℕ} → and_then (unless o at) f ≡ got y next → (o ≡ none) × (f tt at ≡ got y next)
unless_passes none at f e = (refl, e)
unless_passes (some r) at f e = let z : ◌≡◌ {A = ℕ} 0 1 = cc in absurd (omega arith)

module _ (bytes : List ℕ) where
  -- THREE NUMBERS
  module _ (at : ℕ) where
    pub triple_first : {r : Refusal} → number bytes at ≡ refused r → triple bytes at ≡ refused r
    unfolding triple
    triple_first e = rw e

    module _ {a i : ℕ} (e : number bytes at ≡ got a i) where
      pub triple_second : {r : Refusal} → number bytes i ≡ refused r → triple bytes at ≡ refused r
      unfolding triple
      triple_second f = rw (e, f)

      module _ {b j : ℕ} (f : number bytes i ≡ got b j) where
        pub triple_third : {r : Refusal} → number bytes j ≡ refused r → triple bytes at ≡ refused r
        unfolding triple
        triple_third g = rw (e, f, g)

        pub triple_all : {c k : ℕ} → number bytes j ≡ got c k → triple bytes at ≡ got (record { one = a; two = b; three = c }) k
        unfolding triple
        triple_all g = rw (e, f, g)

  -- what three numbers are
  pub record Threes (at : ℕ) (t : Triple) (next : ℕ) : Type 0 where
    pub i : ℕ
    pub j : ℕ
    pub first_is : number bytes at ≡ got t.one i
    pub second_is : number bytes i ≡ got t.two j
    pub third_is : number bytes j ≡ got t.three next

  pub triple_is : (at : ℕ) (t : Triple) (next : ℕ) → triple bytes at ≡ got t next → Threes at t next
  unfolding triple
  triple_is at t next e =
      let a = handed (number bytes at) _ e in
      let b = handed (number bytes a.i) _ a.on in
      let c = handed (number bytes b.i) _ b.on in
      let l : got (record { one = a.x; two = b.x; three = c.x }) c.i ≡ got t next = c.on in
      let x : ◌≡◌ {A = Triple} (record { one = a.x; two = b.x; three = c.x }) t = cc in
      let y : c.i ≡ next = cc in
      record {
        i = a.i;
        j = b.i;
        first_is = a.is ∙ ap (λ (s : Triple). got s.one a.i) x;
        second_is = b.is ∙ ap (λ (s : Triple). got s.two b.i) x;
        third_is = c.is ∙ ap (λ (s : Triple). got s.three c.i) x ∙ ap (λ (n : ℕ). got t.three n) y;
      }

  pub triple_next : (at : ℕ) (t : Triple) (next : ℕ) → triple bytes at ≡ got t next → next ≤ at + 12
  triple_next at t next e =
      let s = triple_is at t next e in
      omega (arith, number_next bytes at _ s.i s.first_is, number_next bytes s.i _ s.j s.second_is, number_next bytes s.j _ next s.third_is)

  -- three numbers and what is done with them
  three_then : {X : Type 0} (at : ℕ) (f : Triple → Reading X) → and_then (triple bytes at) f
      ≡ and_then (number bytes at) (λ a at. and_then (number bytes at) (λ b at. and_then (number bytes at) (λ c at. f (record { one = a; two = b; three = c }) at)))
  unfolding triple
  three_then at f = go₁ (number bytes at)
    where
      go₃ : (a b : ℕ) (g : Got ℕ) → and_then (and_then g (λ c at. got (record { one = a; two = b; three = c }) at)) f ≡ and_then g (λ c at. f (record { one = a; two = b; three = c }) at)
      go₃ a b (got c k) = refl
      go₃ a b (refused r) = refl

      go₂ : (a : ℕ) (g : Got ℕ) → and_then (and_then g (λ b at. and_then (number bytes at) (λ c at. got (record { one = a; two = b; three = c }) at))) f
          ≡ and_then g (λ b at. and_then (number bytes at) (λ c at. f (record { one = a; two = b; three = c }) at))
      go₂ a (got b j) = go₃ a b (number bytes j)
      go₂ a (refused r) = refl

      go₁ : (g : Got ℕ)
          → and_then (and_then g (λ a at. and_then (number bytes at) (λ b at. and_then (number bytes at) (λ c at. got (record { one = a; two = b; three = c }) at)))) f
          ≡ and_then g (λ a at. and_then (number bytes at) (λ b at. and_then (number bytes at) (λ c at. f (record { one = a; two = b; three = c }) at)))
      go₁ (got a i) = go₂ a (number bytes i)
      go₁ (refused r) = refl

  -- A HEAD: three numbers, and two more
  module _ (form : Form) where
    pub headed_by : (at : ℕ) → headed bytes form at
        ≡ and_then (triple bytes at) (λ t at. and_then (number bytes at) (λ q at. and_then (number bytes at) (λ m at.
        got (record { head = record { posts = t.one; source = t.two; p = t.three; q = q; form = form }; count = m }) at)))
    unfolding headed
    headed_by at = sym (three_then at (λ t at. and_then (number bytes at) (λ q at. and_then (number bytes at) (λ m at.
        got (record { head = record { posts = t.one; source = t.two; p = t.three; q = q; form = form }; count = m }) at))))

    module _ (at : ℕ) where
      pub headed_stops : {r : Refusal} → triple bytes at ≡ refused r → headed bytes form at ≡ refused r
      headed_stops e = rw (headed_by, e)

      module _ {t : Triple} {i : ℕ} (e : triple bytes at ≡ got t i) where
        pub headed_fourth : {r : Refusal} → number bytes i ≡ refused r → headed bytes form at ≡ refused r
        headed_fourth f = rw (headed_by, e, f)

        module _ {q j : ℕ} (f : number bytes i ≡ got q j) where
          pub headed_fifth : {r : Refusal} → number bytes j ≡ refused r → headed bytes form at ≡ refused r
          headed_fifth g = rw (headed_by, e, f, g)

          pub headed_all : {m k : ℕ} → number bytes j ≡ got m k
              → headed bytes form at ≡ got (record { head = record { posts = t.one; source = t.two; p = t.three; q = q; form = form }; count = m }) k
          headed_all g = rw (headed_by, e, f, g)

    -- what a head that was read is
    pub record Fives (at : ℕ) (h : Heading) (next : ℕ) : Type 0 where
      pub i : ℕ
      pub j : ℕ
      pub three_are : triple bytes at ≡ got (record { one = h.head.posts; two = h.head.source; three = h.head.p }) i
      pub fourth_is : number bytes i ≡ got h.head.q j
      pub fifth_is : number bytes j ≡ got h.count next
      pub form_is : h.head.form ≡ form

    pub headed_is : (at : ℕ) (h : Heading) (next : ℕ) → headed bytes form at ≡ got h next → Fives at h next
    headed_is at h next e =
        let a = handed (triple bytes at) _ (rw headed_by at e) in
        let b = handed (number bytes a.i) _ a.on in
        let c = handed (number bytes b.i) _ b.on in
        let g : Heading = record { head = record { posts = a.x.one; source = a.x.two; p = a.x.three; q = b.x; form = form }; count = c.x } in
        let l : got g c.i ≡ got h next = c.on in
        let x : g ≡ h = cc in
        let y : c.i ≡ next = cc in
        let three : Heading → Triple = λ k. record { one = k.head.posts; two = k.head.source; three = k.head.p } in
        record {
          i = a.i;
          j = b.i;
          three_are = a.is ∙ ap (λ (k : Heading). got (three k) a.i) x;
          fourth_is = b.is ∙ ap (λ (k : Heading). got k.head.q b.i) x;
          fifth_is = c.is ∙ ap (λ (k : Heading). got k.count c.i) x ∙ ap (λ (n : ℕ). got h.count n) y;
          form_is = ap (λ (k : Heading). k.head.form) (sym x);
        }

    pub headed_next : (at : ℕ) (h : Heading) (next : ℕ) → headed bytes form at ≡ got h next → next ≤ at + 20
    headed_next at h next e =
        let f = headed_is at h next e in
        omega (arith, triple_next at _ f.i f.three_are, number_next bytes f.i _ f.j f.fourth_is, number_next bytes f.j _ next f.fifth_is)

  -- THE FORM
  pub formed_stops : (at : ℕ) {r : Refusal} → number bytes at ≡ refused r → formed bytes at ≡ refused r
  unfolding formed
  formed_stops at e = rw e

  pub formed_second : (at : ℕ) {i : ℕ} → number bytes at ≡ got 0 i → formed bytes at ≡ got Second i
  unfolding formed
  formed_second at e = rw e

  pub formed_first : (at : ℕ) {n i : ℕ} → number bytes at ≡ got n i → (n ≡ 0 → ⊥) → formed bytes at ≡ got First at
  unfolding formed
  formed_first at {n} e ne = rw (e, ne_eqb n 0 ne)

  -- the first number says where the head begins, and of which form it is
  pub heading_by : (at : ℕ) → heading bytes at ≡ and_then (formed bytes at) (headed bytes)
  unfolding heading
  heading_by at = refl

  pub form_stops : (at : ℕ) {r : Refusal} → number bytes at ≡ refused r → heading bytes at ≡ refused r
  form_stops at e = rw (heading_by, formed_stops at e)

  pub form_second : (at : ℕ) {i : ℕ} → number bytes at ≡ got 0 i → heading bytes at ≡ headed bytes Second i
  form_second at e = rw (heading_by, formed_second at e)

  pub form_first : (at : ℕ) {n i : ℕ} → number bytes at ≡ got n i → (n ≡ 0 → ⊥) → heading bytes at ≡ headed bytes First at
  form_first at e ne = rw (heading_by, formed_first at e ne)

  pub formed_next : (at : ℕ) (f : Form) (next : ℕ) → formed bytes at ≡ got f next → next ≤ at + 4
  unfolding formed
  formed_next at f next e = let a = handed (number bytes at) _ e in go (eqb a.x 0) a.on (number_next bytes at a.x a.i a.is)
    where
      go : (b : Bool) {i : ℕ} → cond b (got Second i) (got First at) ≡ got f next → i ≤ at + 4 → next ≤ at + 4
      go true {i} g l = let z : i ≡ next = cc in omega arith
      go false g l = let z : at ≡ next = cc in omega arith

  -- what the form of a head that was read is, and where its five numbers begin
  pub data FormIs (at : ℕ) : Form → ℕ → Type 0 where
    first_form : {n i : ℕ} → number bytes at ≡ got n i → (n ≡ 0 → ⊥) → FormIs at First at
    second_form : {i : ℕ} → number bytes at ≡ got 0 i → FormIs at Second i

  pub record HeadIs (at : ℕ) (h : Heading) (next : ℕ) : Type 0 where
    pub start : ℕ
    pub form : FormIs at h.head.form start
    pub numbers : headed bytes h.head.form start ≡ got h next

  pub heading_is : (at : ℕ) (h : Heading) (next : ℕ) → heading bytes at ≡ got h next → HeadIs at h next
  unfolding heading formed
  heading_is at h next e = go₁ (number bytes at) refl e
    where
      made : (f : Form) (i : ℕ) → FormIs at f i → headed bytes f i ≡ got h next → HeadIs at h next
      made f i k e = let x = (headed_is f i h next e).form_is in record { start = i; form = subst (λ (g : Form). FormIs at g i) (sym x) k; numbers = subst (λ (g : Form). headed bytes g i ≡ got h next) (sym x) e }

      go₂ : (n i : ℕ) → number bytes at ≡ got n i → (b : Bool) → eqb n 0 ≡ b → and_then (cond b (got Second i) (got First at)) (headed bytes) ≡ got h next → HeadIs at h next
      go₂ n i p true q e = let z = eqb-true n 0 q in made Second i (second_form (rw z at p)) e
      go₂ n i p false q e = made First at (first_form p (eqb-false n 0 q)) e

      go₁ : (g : Got ℕ) → number bytes at ≡ g → and_then (and_then g (λ n next. cond (eqb n 0) (got Second next) (got First at))) (headed bytes) ≡ got h next → HeadIs at h next
      go₁ (got n i) p e = go₂ n i p (eqb n 0) refl e
      go₁ (refused r) p e = let z : ◌≡◌ {A = ℕ} 0 1 = cc in absurd (omega arith)

  -- A POST: two numbers, then 3
  module _ (v at : ℕ) where
    pub ratio_first : {r : Refusal} → number bytes at ≡ refused r → ratio bytes v at ≡ refused r
    unfolding ratio
    ratio_first e = rw e

    module _ {a i : ℕ} (e : number bytes at ≡ got a i) where
      pub ratio_second : {r : Refusal} → number bytes i ≡ refused r → ratio bytes v at ≡ refused r
      unfolding ratio
      ratio_second f = rw (e, f)

      module _ {b j : ℕ} (f : number bytes i ≡ got b j) where
        pub ratio_refused : {r : Refusal} → first (ratio_lines v (record { p = a; q = b })) ≡ some r → ratio bytes v at ≡ refused r
        unfolding ratio hold
        ratio_refused g = rw (e, f, g)

        pub ratio_all : first (ratio_lines v (record { p = a; q = b })) ≡ none → ratio bytes v at ≡ got (record { p = a; q = b }) j
        unfolding ratio hold
        ratio_all g = rw (e, f, g)

  -- what a ratio that was read is
  pub record OneRatio (v at : ℕ) (r : Ratio) (next : ℕ) : Type 0 where
    pub i : ℕ
    pub first_is : number bytes at ≡ got r.p i
    pub second_is : number bytes i ≡ got r.q next
    pub not_refused : first (ratio_lines v r) ≡ none

  pub ratio_is : (v at : ℕ) (r : Ratio) (next : ℕ) → ratio bytes v at ≡ got r next → OneRatio v at r next
  unfolding ratio hold
  ratio_is v at r next e =
      let a = handed (number bytes at) _ e in
      let b = handed (number bytes a.i) _ a.on in
      let o : Ratio = record { p = a.x; q = b.x } in
      let c = unless_passes (first (ratio_lines v o)) b.i _ b.on in
      let l : got o b.i ≡ got r next = c.1 in
      let x : o ≡ r = cc in
      let y : b.i ≡ next = cc in
      record {
        i = a.i;
        first_is = a.is ∙ ap (λ (k : Ratio). got k.p a.i) x;
        second_is = b.is ∙ ap (λ (k : Ratio). got k.q b.i) x ∙ ap (λ (n : ℕ). got r.q n) y;
        not_refused = ap (λ (k : Ratio). first (ratio_lines v k)) (sym x) ∙ c.0;
      }

  pub ratio_next : (v at : ℕ) (r : Ratio) (next : ℕ) → ratio bytes v at ≡ got r next → next ≤ at + 8
  ratio_next v at r next e = let o = ratio_is v at r next e in omega (arith, number_next bytes at _ o.i o.first_is, number_next bytes o.i _ next o.second_is)

  -- A SEGMENT: three numbers, then 5, 6, 7
  pub segment_by : (posts i at : ℕ) → segment bytes posts i at ≡ the_segment_of (triple bytes at) posts i
  unfolding segment hold the_segment_of
  segment_by posts i at = sym (three_then at (λ t at. and_then (unless (first (segment_lines posts (segment_from t) i)) at) (λ _ at. got (segment_from t) at)))

  module _ (posts i at : ℕ) where
    pub segment_stops : {r : Refusal} → triple bytes at ≡ refused r → segment bytes posts i at ≡ refused r
    unfolding the_segment_of
    segment_stops e = rw (segment_by, e)

    module _ {t : Triple} {next : ℕ} (e : triple bytes at ≡ got t next) where
      pub segment_refused : {r : Refusal} → first (segment_lines posts (segment_from t) i) ≡ some r → segment bytes posts i at ≡ refused r
      unfolding the_segment_of
      segment_refused f = rw (segment_by, e, f)

      pub segment_all : first (segment_lines posts (segment_from t) i) ≡ none → segment bytes posts i at ≡ got (segment_from t) next
      unfolding the_segment_of
      segment_all f = rw (segment_by, e, f)

  -- what a segment that was read is
  pub record OneSegment (posts i at : ℕ) (s : Segment) (next : ℕ) : Type 0 where
    pub t : Triple
    pub numbers : triple bytes at ≡ got t next
    pub is : segment_from t ≡ s
    pub not_refused : first (segment_lines posts s i) ≡ none

  pub segment_is : (posts i at : ℕ) (s : Segment) (next : ℕ) → segment bytes posts i at ≡ got s next → OneSegment posts i at s next
  unfolding the_segment_of
  segment_is posts i at s next e =
      let a = handed (triple bytes at) _ (rw segment_by at e) in
      let c = unless_passes (first (segment_lines posts (segment_from a.x) i)) a.i _ a.on in
      let l : got (segment_from a.x) a.i ≡ got s next = c.1 in
      let x : segment_from a.x ≡ s = cc in
      let y : a.i ≡ next = cc in
      record { t = a.x; numbers = a.is ∙ ap (λ (n : ℕ). got a.x n) y; is = x; not_refused = rw x at c.0 }

  pub segment_next : (posts i at : ℕ) (s : Segment) (next : ℕ) → segment bytes posts i at ≡ got s next → next ≤ at + 12
  segment_next posts i at s next e = let g = segment_is posts i at s next e in triple_next at g.t next g.numbers
