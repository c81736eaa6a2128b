-- What a record that was read is: nothing refuses its head, the lent lists are long enough, and its posts' own ratios and its segments reach to the end. Relies on Steps and Passes.
use Prim.Native.Nat.{ℕ, ◌≤◌}
use mathlib.Core.Bool.{Bool, true, false}
use mathlib.Core.Path.{◌≡◌, refl, sym, ap, ◌∙◌}
use mathlib.Core.List.{List}
use mathlib.Core.Option.{none}
use native.Mathlib.Omega.{arith}
use lib.Dec.{ltb}
use lib.ListN.{length}
use borrow.Author.Tests.{ltb-true, ltb-false}
use Rattle.net.specs.Net.{Ratio, Net}
use Rattle.net.specs.Refusals.{refusal, first, head_lines, room_of_ratios}
use Rattle.net.specs.declared.Segment.{Segment}
use Rattle.numbers.specs.Numbers.{got, refused}
use Rattle.reading.specs.Reading.{and_then, hold, Heading, room_lines, heading, the_own_read, segments, ended, last_read, rest_read, net_read}
use Rattle.reading.proofs.Steps.{handed, unless_passes}
use Rattle.reading.proofs.Passes.{room_enough, ratios_enough, bytes_left, no_bytes_left, net_by}

module _ (bytes : List ℕ) where
  -- what the segments and the end were
  pub record LastIs (h : Heading) (own : List Ratio) (at : ℕ) (n : Net) (next : ℕ) : Type 0 where
    pub segments_are : segments bytes h.head.posts 0 h.count at ≡ got n.segments next
    pub head_is : n.head ≡ h.head
    pub own_is : n.own ≡ own
    pub no_more : length bytes ≤ next

  last_is : (h : Heading) (own : List Ratio) (at : ℕ) (n : Net) (next : ℕ) → last_read bytes h own at ≡ got n next → LastIs h own at n next
  unfolding last_read
  last_is h own at n next e =
      let s = handed (segments bytes h.head.posts 0 h.count at) (λ ss at. and_then (ended bytes at) (λ _ at. got (record { head = h.head; own = own; segments = ss }) at)) e in
      go s.x s.i s.is (ltb s.i (length bytes)) refl s.on
    where
      go : (ss : List Segment) (i : ℕ) → segments bytes h.head.posts 0 h.count at ≡ got ss i
          → (t : Bool) → ltb i (length bytes) ≡ t → and_then (ended bytes i) (λ _ at. got (record { head = h.head; own = own; segments = ss }) at) ≡ got n next → LastIs h own at n next
      go ss i q true f e =
          let y : ended bytes i ≡ refused (refusal 12 i) = bytes_left bytes i (ltb-true _ _ f) in
          let x = rw y at e in
          let z : ◌≡◌ {A = ℕ} 0 1 = cc in absurd (omega arith)
      go ss i q false f e =
          let m = ltb-false i (length bytes) f in
          let y : ended bytes i ≡ got tt i = no_bytes_left bytes i m in
          let x = rw y at e in
          let a : ◌≡◌ {A = Net} (record { head = h.head; own = own; segments = ss }) n = cc in
          let b : i ≡ next = cc in
          record { segments_are = rw (← a, ← b) q; head_is = rw (← a); own_is = rw (← a); no_more = omega arith }

  module _ (room ratioRoom : ℕ) where
    pub record RestIs (h : Heading) (at : ℕ) (n : Net) (next : ℕ) : Type 0 where
      pub head_none : first (head_lines h.head h.count) ≡ none
      pub room_enough : h.count ≤ room
      pub ratios_enough : h.head.posts ≤ ratioRoom
      pub mid : ℕ
      pub own_are : the_own_read bytes h.head at ≡ got n.own mid
      pub segments_are : segments bytes h.head.posts 0 h.count mid ≡ got n.segments next
      pub head_is : n.head ≡ h.head
      pub no_more : length bytes ≤ next

    pub rest_is : (h : Heading) (at : ℕ) (n : Net) (next : ℕ) → rest_read bytes room ratioRoom h at ≡ got n next → RestIs h at n next
    unfolding rest_read hold
    rest_is h at n next e =
        let a = unless_passes (first (head_lines h.head h.count)) at _ e in
        let b = unless_passes (first (room_lines room h.count)) at _ a.1 in
        let c = unless_passes (first (room_of_ratios h.head.posts ratioRoom)) at _ b.1 in
        let d = handed (the_own_read bytes h.head at) (last_read bytes h) c.1 in
        let l = last_is h d.x d.i n next d.on in
        record {
          head_none = a.0;
          room_enough = room_enough room h.count b.0;
          ratios_enough = ratios_enough h.head.posts ratioRoom c.0;
          mid = d.i;
          own_are = d.is ∙ ap (λ (o : List Ratio). got o d.i) (sym l.own_is);
          segments_are = l.segments_are;
          head_is = l.head_is;
          no_more = l.no_more;
        }

    pub record NetIs (at : ℕ) (n : Net) (next : ℕ) : Type 0 where
      pub h : Heading
      pub i : ℕ
      pub heading_is : heading bytes at ≡ got h i
      pub rest : RestIs h i n next

    pub net_is : (at : ℕ) (n : Net) (next : ℕ) → net_read bytes room ratioRoom at ≡ got n next → NetIs at n next
    net_is at n next e =
        let d = handed (heading bytes at) (rest_read bytes room ratioRoom) (rw net_by at e) in
        record { h = d.x; i = d.i; heading_is = d.is; rest = rest_is d.x d.i n next d.on }
