-- Places for 2,048 segments and for the ratios of 256 posts are enough for every record: 8 is never given for them, since 4 and 1 come before it (`room_enough`,
-- `ratios_enough`). And a record that is written again is the record that was read, byte for byte (`rewrite_same`). Relies on reading's laws of reading and of the round trip.
use mathlib.Core.Path.{◌≡◌, refl, sym, ap, ◌∙◌}
use mathlib.Core.List.{List}
use mathlib.Core.Option.{Option, none, some}
use Prim.Native.Nat.{ℕ, ◌≤◌}
use native.Mathlib.Omega.{arith}
use lib.ListN.{length}
use Rattle.net.specs.Net.{Net, most_posts, most_segments}
use Rattle.net.specs.Refusals.{first, head_lines}
use Rattle.net.specs.declared.Refusal.{Refusal}
use Rattle.numbers.specs.Numbers.{Bytes, Got, got, refused}
use Rattle.reading.specs.Reading.{Heading, heading, rest_read, net_read}
use Rattle.numbers.specs.Putting.{onto}
use Rattle.writing.proofs.Lines.{head_sound}
use Rattle.reading.proofs.Passes.{rest_head, rest_by, net_stops, net_rest}
use Rattle.reading.proofs.RoundTrip.{sound_of_read}
use Rattle.reading.proofs.Outcomes.{read_writes}
use Rattle.on_records.specs.Asked.{record_read, rewrite_of, room_of, Rewrites}
use Rattle.std.specs.Prelude.{Result, Ok}

-- more places than a net may have segments, and for more ratios than it may have posts, change nothing
module _ (bytes : List ℕ) (room ratioRoom : ℕ) (long : most_segments ≤ room) (many : most_posts ≤ ratioRoom) where
  rest_enough : (h : Heading) (at : ℕ) → rest_read bytes room ratioRoom h at ≡ rest_read bytes most_segments most_posts h at
  rest_enough h at = go (first (head_lines h.head h.count)) refl
    where
      go : (o : Option Refusal) → first (head_lines h.head h.count) ≡ o → rest_read bytes room ratioRoom h at ≡ rest_read bytes most_segments most_posts h at
      go (some r) e = rest_head bytes room ratioRoom h at e ∙ sym (rest_head bytes most_segments most_posts h at e)
      go none e =
          let s = head_sound h.head h.count e in
          let few = s.1 in
          let posts = s.0.posts_sound.few_posts in
          rest_by bytes room ratioRoom h at e (omega arith) (omega arith) ∙ sym (rest_by bytes most_segments most_posts h at e few posts)

  pub room_enough : net_read bytes room ratioRoom 0 ≡ record_read bytes
  unfolding record_read
  room_enough = go (heading bytes 0) refl
    where
      go : (g : Got Heading) → heading bytes 0 ≡ g → net_read bytes room ratioRoom 0 ≡ net_read bytes most_segments most_posts 0
      go (refused r) e = net_stops bytes room ratioRoom 0 e ∙ sym (net_stops bytes most_segments most_posts 0 e)
      go (got h i) e = net_rest bytes room ratioRoom 0 e ∙ rest_enough h i ∙ sym (net_rest bytes most_segments most_posts 0 e)

-- a net that was read has no more posts than ratios are handed on with it: building, margin and writing give it no 8 for them
pub ratios_enough : (bytes : List ℕ) {n : Net} {next : ℕ} → record_read bytes ≡ got n next → n.head.posts ≤ most_posts
unfolding record_read
ratios_enough bytes {n} {next} e = (sound_of_read bytes most_segments most_posts n next e).ratios_enough

-- a good record that is written again into a room that is long enough
pub rewrite_same : (bytes room : List ℕ) {n : Net} {next : ℕ} {r : Result ℕ Refusal} {x : List ℕ} → Bytes bytes → record_read bytes ≡ got n next → length bytes ≤ length room
    → Rewrites bytes room r x → (r ≡ Ok (length bytes)) × (x ≡ onto bytes room)
unfolding record_read
rewrite_same bytes room {n} {next} all e long w =
    let q = read_writes bytes most_segments most_posts n next most_posts room all e (ratios_enough bytes e) long in
    (w.answers ∙ ap (λ g. rewrite_of g (length room)) e ∙ q.0, w.leaves ∙ ap (λ g. room_of g room) e ∙ q.1)
