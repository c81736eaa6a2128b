-- What numbers come to that a reader reads one behind the other: each begins where the one before it ends, and where one
-- is refused the reader stays, so the first refusal stands whatever is read after it. The code's `next` hands on each
-- number so (`carried_on`). proofs/Carrying joins what they come to to what `Reading` says of the bytes.
use Rattle.std.specs.Prelude.{ℕ, Result}
use Rattle.net.specs.Net.{Ratio}
use Rattle.net.specs.Refusals.{first, ratio_lines}
use Rattle.net.specs.declared.Form.{Form}
use Rattle.net.specs.declared.Head.{Head}
use Rattle.net.specs.declared.Refusal.{Refusal}
use Rattle.numbers.specs.Numbers.{Got, got}
use Rattle.numbers.specs.Answers.{says_numbered, behind_of}
use Rattle.numbers.specs.declared.Number.{Number}
use Rattle.numbers.specs.declared.Misread.{Misread}
use Rattle.numbers.specs.declared.reader.Reader.{Reader}
use Rattle.reading.specs.Reading.{and_then, unless, Triple, Heading}
use Rattle.reading.specs.Answers.{read_of}

-- what is read at a place
abbrev pub Numbered : Type 0
Numbered = Result Number Misread

-- what a reader hands on of what it read: the number and the reader at the place behind it, or the refusal
abbrev pub carried_on : Reader → Numbered → Result (ℕ × Reader) Refusal
carried_on r read = read_of (λ n _. (n, record { bytes = r.bytes; at = behind_of read })) (says_numbered read)

-- the answers of three numbers in a row, or the first refusal among them
unfoldable pub triple_of : Numbered → Numbered → Numbered → Got Triple
triple_of first second third =
    and_then (says_numbered first) (λ a _. and_then (says_numbered second) (λ b _. and_then (says_numbered third) (λ c next.
    got (record { one = a; two = b; three = c }) next)))

-- a head of its form and five numbers
abbrev pub head_from : Form → Triple → ℕ → Head
head_from form t q = record { posts = t.one; source = t.two; p = t.three; q = q; form = form }

-- the answers of a head's five numbers, or the first refusal among them
unfoldable pub heading_of : Form → Numbered → Numbered → Numbered → Numbered → Numbered → Got Heading
heading_of form posts source p q count =
    and_then (triple_of posts source p) (λ t _. and_then (says_numbered q) (λ d _. and_then (says_numbered count) (λ m next.
    got (record { head = head_from form t d; count = m }) next)))

-- the answers of a post's two numbers, or the first refusal among them; then its 3, or the ratio
unfoldable pub pair_of : Numbered → Numbered → Got Ratio
pair_of first second =
    and_then (says_numbered first) (λ a _. and_then (says_numbered second) (λ b next. got (record { p = a; q = b }) next))

unfoldable pub ratio_of : Got Ratio → ℕ → Got Ratio
ratio_of g v = and_then g (λ r at. and_then (unless (first (ratio_lines v r)) at) (λ _ at. got r at))
