-- The longest good record has 15,367 bytes: none is longer, and that of one net is as long. Good is a record that
-- reading gives a net for. Relies on `Reading` and on writing's record of a net.
use Rattle.std.specs.Prelude.{ℕ, ◌≤◌, ◌≡◌, List, length, replicate}
use Rattle.net.specs.Net.{Ratio, Net, net_with, most_posts, most_segments, most_ratio, longest, every}
use Rattle.net.specs.Rules.{NetSound}
use Rattle.net.specs.declared.Segment.{Segment}
use Rattle.net.specs.declared.Form.TheVariants.{Second}
use Rattle.net.specs.declared.Head.{Head}
use Rattle.numbers.specs.Numbers.{Bytes, got}
use Rattle.reading.specs.Reading.{longest_record, net_read}
use Rattle.writing.specs.Writing.{net_written}

-- every number as large as it may be: the second form, 256 posts, source 255, p and q of every ratio 10,000, and k
-- segments 254–255 of 1,048,575
abbrev pub longest_segment : Segment
longest_segment = record { a = 254; b = 255; length = longest }

abbrev pub largest_head : Head
largest_head = record { posts = most_posts; source = 255; p = most_ratio; q = most_ratio; form = Second }

abbrev pub largest_ratio : Ratio
largest_ratio = record { p = most_ratio; q = most_ratio }

abbrev pub largest_net : ℕ → Net
largest_net k = net_with largest_head (replicate most_posts largest_ratio) (replicate k longest_segment)

-- with 2,048 of them
unfoldable pub longest_net : Net
longest_net = largest_net most_segments

pub record LongestRecord : Type 0 where
  pub none_longer : (bytes : List ℕ) (room ratioRoom : ℕ) (n : Net) (next : ℕ) → Bytes bytes
      → net_read bytes room ratioRoom 0 ≡ got n next → length bytes ≤ longest_record
  pub one_as_long : length (net_written longest_net) ≡ longest_record
  -- nothing from 1 to 7 refuses that net, and its record reads as it
  pub is_sound : NetSound every (length longest_net.segments) longest_net
  pub reads_back : net_read (net_written longest_net) most_segments most_posts 0 ≡ got longest_net longest_record
