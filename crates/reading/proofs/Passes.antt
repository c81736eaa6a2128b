-- A post that is the source and one that isn't, the posts' own ratios by the form, and what stands behind a head, by the ways out of the code. Relies on Steps.
use Prim.Native.Nat.{ℕ, ◌+◌, ◌<◌, ◌≤◌}
use mathlib.Core.Path.{◌≡◌, refl, sym, ap, ◌∙◌}
use mathlib.Core.Bool.{Bool, true, false}
use mathlib.Core.List.{List, []}
use mathlib.Core.Option.{none, some}
use native.Mathlib.Omega.{arith}
use lib.ListN.{length}
use lib.Dec.{eqb, ltb}
use borrow.Author.Tests.{lt-ltb, le-ltb, ltb-false, eqb-true, eqb-false, eq-eqb, ne_eqb}
use Rattle.net.specs.Net.{Ratio, no_ratio}
use Rattle.net.specs.Refusals.{refusal, first, head_lines, room_of_ratios}
use Rattle.net.specs.declared.Segment.{Segment}
use Rattle.net.specs.declared.Form.{Form}
use Rattle.net.specs.declared.Form.TheVariants.{First, Second}
use Rattle.net.specs.declared.Head.{Head}
use Rattle.net.specs.declared.Refusal.{Refusal}
use Rattle.numbers.specs.Numbers.{got, refused}
use Rattle.reading.specs.Reading.{and_then, hold, Heading, room_lines, heading, ratio, post, posts, own_in, the_own_read, segments, ended, last_read, rest_read, net_read}
use Rattle.reading.proofs.Steps.{ratio_next}

-- WHAT STANDS BEHIND A HEAD
pub room_short : (room count : ℕ) → room < count → first (room_lines room count) ≡ some (refusal 8 0)
unfolding room_lines first
room_short room count l = rw (lt-ltb _ _ l)

pub room_enough : (room count : ℕ) → first (room_lines room count) ≡ none → count ≤ room
unfolding room_lines first
room_enough room count e = go (ltb room count) refl
  where
    go : (b : Bool) → ltb room count ≡ b → count ≤ room
    go true f = let z : ◌≡◌ {A = ℕ} 0 1 = cc in absurd (omega arith)
    go false f = ltb-false room count f

pub room_long : (room count : ℕ) → count ≤ room → first (room_lines room count) ≡ none
unfolding room_lines first
room_long room count l = rw (le-ltb room count l)

pub bytes_left : (bytes : List ℕ) (at : ℕ) → at < length bytes → ended bytes at ≡ refused (refusal 12 at)
unfolding ended
bytes_left bytes at l = rw (lt-ltb _ _ l)

pub no_bytes_left : (bytes : List ℕ) (at : ℕ) → length bytes ≤ at → ended bytes at ≡ got tt at
unfolding ended
no_bytes_left bytes at l = rw (le-ltb at (length bytes) l)

-- 8 of the ratios, which is that of a room of k for the posts
ratios_room : (posts k : ℕ) → room_of_ratios posts k ≡ room_lines k posts
unfolding room_of_ratios room_lines
ratios_room posts k = refl

pub few_ratios : (posts k : ℕ) → k < posts → first (room_of_ratios posts k) ≡ some (refusal 8 0)
few_ratios posts k l = rw ratios_room (room_short k posts l)

pub enough_ratios : (posts k : ℕ) → posts ≤ k → first (room_of_ratios posts k) ≡ none
enough_ratios posts k l = rw ratios_room (room_long k posts l)

pub ratios_enough : (posts k : ℕ) → first (room_of_ratios posts k) ≡ none → posts ≤ k
ratios_enough posts k e = room_enough k posts (rw ratios_room at e)

-- A POST
module _ (bytes : List ℕ) (source : ℕ) where
  pub at_source : (v at : ℕ) → v ≡ source → post bytes source v at ≡ got no_ratio at
  unfolding post
  at_source v at e = rw (eq-eqb v source e)

  pub not_source : (v at : ℕ) → (v ≡ source → ⊥) → post bytes source v at ≡ ratio bytes v at
  unfolding post
  not_source v at ne = rw (ne_eqb v source ne)

  -- how far a post reaches
  pub post_next : (v at : ℕ) (r : Ratio) (next : ℕ) → post bytes source v at ≡ got r next → next ≤ at + 8
  post_next v at r next e = go (eqb v source) refl
    where
      go : (b : Bool) → eqb v source ≡ b → next ≤ at + 8
      go true f = let y = sym (at_source v at (eqb-true v source f)) ∙ e in let z : at ≡ next = cc in omega arith
      go false f = ratio_next bytes v at r next (sym (not_source v at (eqb-false v source f)) ∙ e)

-- THE OWN RATIOS by the form
module _ (bytes : List ℕ) (h : Head) (at : ℕ) where
  pub own_first : h.form ≡ First → the_own_read bytes h at ≡ got [] at
  unfolding the_own_read
  own_first e = ap (λ (f : Form). own_in bytes f h at) e

  pub own_second : h.form ≡ Second → the_own_read bytes h at ≡ posts bytes h.source 0 h.posts at
  unfolding the_own_read
  own_second e = ap (λ (f : Form). own_in bytes f h at) e

module _ (bytes : List ℕ) (room ratioRoom : ℕ) (h : Heading) (at : ℕ) where
  pub rest_head : {r : Refusal} → first (head_lines h.head h.count) ≡ some r → rest_read bytes room ratioRoom h at ≡ refused r
  unfolding rest_read hold
  rest_head e = rw e

  module _ (e : first (head_lines h.head h.count) ≡ none) where
    pub rest_room : room < h.count → rest_read bytes room ratioRoom h at ≡ refused (refusal 8 0)
    unfolding rest_read hold
    rest_room l = rw (e, room_short room h.count l)

    module _ (l : h.count ≤ room) where
      pub rest_few : {r : Refusal} → first (room_of_ratios h.head.posts ratioRoom) ≡ some r → rest_read bytes room ratioRoom h at ≡ refused r
      unfolding rest_read hold
      rest_few f = rw (e, room_long room h.count l, f)

      module _ (k : h.head.posts ≤ ratioRoom) where
        pub rest_by : rest_read bytes room ratioRoom h at ≡ and_then (the_own_read bytes h.head at) (last_read bytes h)
        unfolding rest_read hold
        rest_by = rw (e, room_long room h.count l, enough_ratios h.head.posts ratioRoom k)

        pub rest_own : {r : Refusal} → the_own_read bytes h.head at ≡ refused r → rest_read bytes room ratioRoom h at ≡ refused r
        rest_own f = rest_by ∙ rw f

        module _ {own : List Ratio} {mid : ℕ} (o : the_own_read bytes h.head at ≡ got own mid) where
          rest_last : rest_read bytes room ratioRoom h at ≡ last_read bytes h own mid
          rest_last = rest_by ∙ rw o

          pub rest_segments : {r : Refusal} → segments bytes h.head.posts 0 h.count mid ≡ refused r → rest_read bytes room ratioRoom h at ≡ refused r
          unfolding last_read
          rest_segments f = rest_last ∙ rw f

          module _ {ss : List Segment} {next : ℕ} (f : segments bytes h.head.posts 0 h.count mid ≡ got ss next) where
            pub rest_more : next < length bytes → rest_read bytes room ratioRoom h at ≡ refused (refusal 12 next)
            unfolding last_read
            rest_more m = rest_last ∙ rw (f, bytes_left bytes next m)

            pub rest_all : length bytes ≤ next → rest_read bytes room ratioRoom h at ≡ got (record { head = h.head; own = own; segments = ss }) next
            unfolding last_read
            rest_all m = rest_last ∙ rw (f, no_bytes_left bytes next m)

pub net_by : (bytes : List ℕ) (room ratioRoom at : ℕ) → net_read bytes room ratioRoom at ≡ and_then (heading bytes at) (rest_read bytes room ratioRoom)
unfolding net_read
net_by bytes room ratioRoom at = refl

module _ (bytes : List ℕ) (room ratioRoom at : ℕ) where
  pub net_stops : {r : Refusal} → heading bytes at ≡ refused r → net_read bytes room ratioRoom at ≡ refused r
  net_stops e = rw (net_by, e)

  pub net_rest : {h : Heading} {next : ℕ} → heading bytes at ≡ got h next → net_read bytes room ratioRoom at ≡ rest_read bytes room ratioRoom h next
  net_rest e = rw (net_by, e)
