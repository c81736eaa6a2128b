-- What writing answers and what the room holds afterwards, by the ways out of the code. Relies on Lines, Puts, Posts and
-- RuledWriting, and on net's Ready.
use Prim.Native.Nat.{ℕ, ◌+◌, ◌<◌, ◌≤◌}
use mathlib.Core.Path.{◌≡◌, refl, sym, ap, ◌∙◌}
use mathlib.Core.List.{List, ◌++◌, append_assoc}
use mathlib.Core.Option.{some}
use native.Mathlib.Omega.{arith}
use lib.ListN.{length, get_or, length-append}
use Rattle.net.specs.Net.{Ratio, Net, net_with, nth_segment, ratio_at, ratios_of, own_of, segments_of}
use Rattle.net.specs.Ready.{net_at, Ready}
use Rattle.net.specs.Refusals.{Checked, refusal, first, room_of_ratios, checked_of, check_of}
use Rattle.net.specs.Rules.{RatioSound}
use Rattle.net.specs.declared.Segment.{Segment}
use Rattle.net.specs.declared.Head.{Head}
use Rattle.net.specs.declared.Form.TheVariants.{Second}
use Rattle.net.specs.declared.Refusal.{Refusal}
use Rattle.std.specs.Prelude.{Result, Ok, Err}
use Rattle.numbers.specs.Numbers.{most_numbers, written}
use Rattle.numbers.specs.Putting.{onto}
use Rattle.writing.specs.Writing.{form_written, numbers_written, head_written, post_written, own_written, segments_written, net_written, the_room_after}
use Rattle.writing.specs.Putting.{Wrote}
use Rattle.writing.specs.declared.Page.{Page}
use Rattle.writing.specs.Answers.{write_answer_of, Writes}
use Rattle.writing.specs.Rules.{WriteRule}
use Rattle.writing.specs.Rules as R
use Rattle.net.proofs.Own.{ratios_count, own_count, own_at}
use Rattle.net.proofs.Checks.{said_refused, check_faulty}
use Rattle.net.proofs.Ready.{ready_count, ready_few}
use Rattle.writing.proofs.Puts.{wrote_then, put_onto}
use Rattle.writing.proofs.Posts.{p_at, q_at, two_length}
use Rattle.writing.proofs.RuledWriting.{few_ratios, write_only}
use Rattle.writing.proofs.Outcomes.{sound_writes}

-- A REFUSAL leaves the room as it was
refused_writes : (n : Net) (m k : ℕ) {r : Refusal} (l : List ℕ) → WriteRule m n k (length l) (some r) → Writes n m k l (Err r) l
unfolding write_answer_of the_room_after
refused_writes n m k l w = let e = write_only m n k (length l) w in record { answers = rw (← e); leaves = rw (← e) }

-- ANY NET: where the check refuses
pub check_refuses : (head : Head) (ratios : List Ratio) (segs : List Segment) {v : Checked} {r : Refusal} {x : Result ℕ Refusal} (room : List ℕ)
    → v ≡ check_of head ratios segs → v ≡ Err r → x ≡ Err r → Writes (net_with head ratios segs) (length segs) (length ratios) room x room
check_refuses head ratios segs room k f e = rw e (refused_writes (net_with head ratios segs) _ _ room (R.WriteRule.one_to_seven ((check_faulty head ratios segs).0 (sym k ∙ f))))

-- A NET THAT IS READY
module _ {head : Head} {p q a b l : List ℕ} (z : Ready head p q a b l) where
  abbrev ss : List Segment
  ss = segments_of a b l

  abbrev net : Net
  net = net_at head p q a b l

  abbrev own : List Ratio
  own = own_of head (ratios_of p q)

  -- each number of the record has at most four groups
  pub head_small : (head.posts < most_numbers) × (head.source < most_numbers) × (head.p < most_numbers) × (head.q < most_numbers) × (length a < most_numbers)
  head_small =
      let s = z.sound.head_sound in
      let f = s.posts_sound.few_posts in
      let g = s.source_in in
      let x = s.small_p in
      let y = s.small_q in
      let m = ready_few z in
      (omega arith, omega arith, omega arith, omega arith, omega arith)

  pub segment_small : (i : ℕ) → i < length ss → {s : Segment} → s ≡ nth_segment ss i → s.length < most_numbers
  segment_small i h e = rw e (let t = (z.sound.segments_sound i h refl).not_too_long in omega arith)

  -- 8
  pub few_writes : (lent : List ℕ) {v : Checked} {r : Refusal} {x : Result ℕ Refusal} → v ≡ checked_of (first (room_of_ratios head.posts (length (ratios_of p q)))) → v ≡ Err r → x ≡ Err r
      → Writes net (length ss) (length (ratios_of p q)) lent x lent
  few_writes lent e f g = rw g (refused_writes net _ _ lent (few_ratios (length ss) net (length (ratios_of p q)) (length lent) (said_refused e f) z.sound))

  -- AS MANY RATIOS AS POSTS
  module _ (enough : head.posts ≤ length (ratios_of p q)) where
    own_sound : head.form ≡ Second → (v : ℕ) → v < head.posts → (v ≡ head.source → ⊥) → RatioSound (ratio_at (ratios_of p q) v)
    own_sound e v h ne =
        let s : RatioSound (ratio_at own v) = z.sound.ratios_sound v (omega (arith, own_count head (ratios_of p q) e)) ne in
        rw (own_at head (ratios_of p q) e v (omega arith) ne) at s

    module _ (v : ℕ) (h : v < head.posts) where
      pub post_in : (v < length p) × (v < length q)
      post_in = let n = ratios_count p q in (omega arith, omega arith)

      pub post_length : (v ≡ head.source → ⊥) → length (post_written head.source (ratios_of p q) v) ≡ length (written (get_or p v 0)) + length (written (get_or q v 0))
      post_length = two_length head.source p q v post_in.0 post_in.1

      pub post_small : head.form ≡ Second → (v ≡ head.source → ⊥) → (get_or p v 0 < most_numbers) × (get_or q v 0 < most_numbers)
      post_small e ne =
          let s = own_sound e v h ne in
          let x = s.small_p in
          let y = s.small_q in
          (omega (arith, p_at head.source p q v post_in.0 post_in.1), omega (arith, q_at head.source p q v post_in.0 post_in.1))

    -- the record, by what is put
    abbrev parts : List ℕ
    parts = form_written head.form ++ numbers_written head (length a) ++ own_written head own ++ segments_written ss

    pub parts_are : parts ≡ net_written net
    unfolding net_written head_written
    parts_are = append_assoc (form_written head.form ++ numbers_written head (length a)) (own_written head own) (segments_written ss)
        ∙ ap (λ (m : ℕ). form_written head.form ++ numbers_written head m ++ (own_written head own ++ segments_written ss)) (sym (ready_count z))

    pub parts_length : length (net_written net) ≡ length (form_written head.form) + length (numbers_written head (length a)) + length (own_written head own) + length (segments_written ss)
    parts_length = rw (← parts_are) (simp length-append (omega arith))

    pub whole_length : length (net_written net) ≡ length (head_written head (length a)) + length (own_written head own) + length (segments_written ss)
    unfolding head_written
    whole_length = parts_length ∙ simp length-append (omega arith)

    -- the record has `whole` bytes
    module _ (lent : List ℕ) {whole : ℕ} (e : whole ≡ length (net_written net)) where
      pub short_writes : length lent < whole → {r : Result ℕ Refusal} → r ≡ Err (refusal 18 0) → Writes net (length ss) (length (ratios_of p q)) lent r lent
      short_writes h f = rw f (refused_writes net _ _ lent (R.WriteRule.eighteen z.sound enough (omega arith)))

      pub long_writes : whole ≤ length lent → {y : List ℕ} → y ≡ onto (net_written net) lent → Writes net (length ss) (length (ratios_of p q)) lent (Ok whole) y
      long_writes h f =
          let s = sound_writes net (length ss) (length (ratios_of p q)) lent z.sound enough (omega arith) in
          record { answers = ap Ok e ∙ sym s.0; leaves = f ∙ sym s.1 }

    -- four runs, one behind the other, from the front of the room on
    pub four_put : {w x y u t : Page} → w.at ≡ 0 → Wrote (form_written head.form) w x → Wrote (numbers_written head (length a)) x y → Wrote (own_written head own) y u
        → Wrote (segments_written ss) u t → (t.room.now ≡ onto (net_written net) w.room.now) × (t.room.ghost_name ≡ w.room.ghost_name)
    four_put {w} e f g h k =
        let r = wrote_then (wrote_then (wrote_then f g) h) k in
        (r.holds ∙ rw (e, parts_are) (put_onto (net_written net) w.room.now), r.room)
