-- The longest good record has 15,367 bytes (`longest_record_law`): none is longer by Lengths, and that of 2,048 segments whose numbers are all as long as they
-- may be, in the second form, is as long. Said for any count of segments and posts first, so that none of the 15,367 bytes is worked out.
use Prim.Native.Nat.{ℕ, zero, suc, ◌+◌, ◌*◌, ◌≤◌, ◌<◌}
use mathlib.Core.Path.{◌≡◌, refl, ap, ◌∙◌}
use mathlib.Core.List.{List}
use native.Mathlib.Omega.{arith}
use lib.ListN.{length, replicate, length-append, length-replicate, get_or-replicate}
use Rattle.net.specs.Net.{Ratio, every, beyond, most_posts, most_segments, no_ratio, ratio_at, own_of}
use Rattle.net.specs.Rules.{RatioSound, SegmentSound, NetSound}
use Rattle.net.proofs.Own.{own_count, own_at}
use Rattle.numbers.specs.Numbers.{got, groups, written}
use Rattle.writing.specs.Writing.{form_written, numbers_written, head_written, ratio_written, post_written, posts_written, own_written, segment_written, segments_written, net_written}
use Rattle.writing.proofs.Posts.{source_written, post_written_law, posts_more, own_second_is}
use Rattle.reading.specs.Reading.{longest_record, net_read}
use Rattle.reading.specs.Longest.{longest_segment, largest_head, largest_ratio, largest_net, longest_net, LongestRecord}
use Rattle.reading.proofs.RoundTrip.{kept_with, read_of_written}
use Rattle.reading.proofs.Lengths.{record_longest}

-- THE LENGTH: 7 bytes for each segment, 4 for each post but the source, which is the last, and 11 for the head
abbrev lent : List Ratio
lent = replicate most_posts largest_ratio

ratio_bytes : length (ratio_written largest_ratio) ≡ 4
unfolding ratio_written written groups
ratio_bytes = refl

post_bytes : (v : ℕ) → v < 255 → length (post_written 255 lent v) ≡ 4
post_bytes v h = rw (post_written_law 255 lent v (λ e. omega arith), get_or-replicate most_posts v largest_ratio no_ratio (omega arith)) ratio_bytes

no_posts : length (posts_written 255 lent 0 0) ≡ 0
unfolding posts_written
no_posts = refl

posts_bytes : (k : ℕ) → k ≤ 255 → length (posts_written 255 lent 0 k) ≡ 4 * k
posts_bytes zero h = no_posts
posts_bytes (suc k) h =
    let e : suc k ≡ k + 1 = omega arith in
    let p : length (posts_written 255 lent 0 (suc k)) ≡ length (posts_written 255 lent 0 k) + length (post_written 255 lent k) =
    ap (λ (i : ℕ). length (posts_written 255 lent 0 i)) e ∙ ap (λ (w : List ℕ). length w) (posts_more 255 lent k) ∙ length-append (posts_written 255 lent 0 k) (post_written 255 lent k) in
    omega (arith, posts_bytes k (omega arith), post_bytes k (omega arith))

all_posts : length (posts_written 255 lent 0 256) ≡ 1020
all_posts =
    ap (λ (w : List ℕ). length w) (posts_more 255 lent 255) ∙ length-append (posts_written 255 lent 0 255) (post_written 255 lent 255)
    ∙ rw (source_written 255 lent 255 refl) (omega (arith, posts_bytes 255 (omega arith)))

own_bytes : length (own_written largest_head (own_of largest_head lent)) ≡ 1020
own_bytes = ap (λ (w : List ℕ). length w) (own_second_is largest_head lent refl (omega (arith, length-replicate most_posts largest_ratio))) ∙ all_posts

segment_bytes : length (segment_written longest_segment) ≡ 7
unfolding segment_written written groups
segment_bytes = refl

segments_bytes : (k : ℕ) → length (segments_written (replicate k longest_segment)) ≡ 7 * k
unfolding segments_written
segments_bytes zero = refl
segments_bytes (suc k) = simp length-append (omega (arith, segments_bytes k, segment_bytes))

head_bytes : length (head_written largest_head most_segments) ≡ 11
unfolding head_written form_written numbers_written written groups
head_bytes = refl

net_bytes : (k : ℕ) → k ≡ most_segments → length (net_written (largest_net k)) ≡ 1031 + 7 * k
unfolding net_written
net_bytes k e = simp length-append (omega (arith, own_bytes, segments_bytes k, ap (λ (c : ℕ). length (head_written largest_head c)) (length-replicate k longest_segment ∙ e), head_bytes))

-- 1 TO 7 let it pass
segment_fits : SegmentSound 256 longest_segment
segment_fits = record { ends_sound = record { a_in = omega arith; b_in = omega arith }; apart = λ e. omega arith; some_length = omega arith; not_too_long = omega arith }

ratio_fits : (v : ℕ) → v < length (own_of largest_head lent) → (v ≡ 255 → ⊥) → RatioSound (ratio_at (own_of largest_head lent) v)
ratio_fits v l ne =
    let n = own_count largest_head lent refl in
    rw (own_at largest_head lent refl v (omega arith) ne, get_or-replicate most_posts v largest_ratio no_ratio (omega arith)) (record { some_q = omega arith; small_p = omega arith; small_q = omega arith })

net_fits : (k : ℕ) → k ≤ most_segments → NetSound every (length (largest_net k).segments) (largest_net k)
net_fits k h =
    record {
      head_sound = record { posts_sound = record { some_posts = omega arith; few_posts = omega arith }; source_in = omega arith; some_q = omega arith; small_p = omega arith; small_q = omega arith };
      few_segments = omega (arith, length-replicate k longest_segment);
      ratios_sound = ratio_fits;
      segments_sound = λ j l o. rw (get_or-replicate k j longest_segment beyond (omega (arith, length-replicate k longest_segment))) segment_fits;
    }

reads : (k : ℕ) → k ≤ most_segments → net_read (net_written (largest_net k)) most_segments most_posts 0 ≡ got (largest_net k) (length (net_written (largest_net k)))
reads k h = read_of_written (largest_net k) most_segments most_posts (net_fits k h) (kept_with largest_head lent (replicate k longest_segment) (omega (arith, length-replicate most_posts largest_ratio)))
    (omega (arith, length-replicate k longest_segment)) (omega arith)

as_long : length (net_written longest_net) ≡ longest_record
unfolding longest_net
as_long = omega (arith, net_bytes most_segments refl)

pub longest_record_law : LongestRecord
unfolding longest_net
longest_record_law =
    record {
      none_longer = record_longest;
      one_as_long = as_long;
      is_sound = net_fits most_segments (omega arith);
      reads_back = reads most_segments (omega arith) ∙ ap (λ i. got (largest_net most_segments) i) as_long;
    }
