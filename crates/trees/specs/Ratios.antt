-- The ratio of each post as the code finds it, from the house ratio and two lists of the posts' own; and the net of a
-- head and of segments with no own ratio, of which what depends on no ratio is said. Relies on net's definitions; the
-- contracts of this crate, of building and of margin cite it.
use Rattle.std.specs.Prelude.{cond, List, [], ℕ, eqb, get_or}
use Rattle.std.specs.Borrow.{Bor}
use Rattle.net.specs.Words.{tab}
use Rattle.net.specs.Net.{Net}
use Rattle.net.specs.Ready.{net_at, Ready}
use Rattle.net.specs.declared.Form.{Form}
use Rattle.net.specs.declared.Form.TheVariants.{First, Second}
use Rattle.net.specs.declared.Head.{Head}
use Rattle.net.specs.declared.SegmentLists.{SegmentLists}

-- one number of the ratio of post v, p or q: x is that of the house ratio, which rules every post in the first form and
-- stands for the source's in the second; the others have their own
abbrev pub number_in : Form → (source x : ℕ) → List ℕ → ℕ → ℕ
number_in First source x own v = x
number_in Second source x own v = cond (eqb v source) x (get_or own v 0)

unfoldable pub the_number_for : Head → ℕ → List ℕ → ℕ → ℕ
the_number_for h x own v = number_in h.form h.source x own v

-- that of each post
abbrev pub numbers_for : Head → ℕ → List ℕ → List ℕ
numbers_for h x own = tab h.posts (the_number_for h x own)

-- NO OWN RATIO. The net of a head and of three slices of segments
abbrev pub plain_by : Head → Bor (List ℕ) → Bor (List ℕ) → Bor (List ℕ) → Net
plain_by head a b lengths = net_at head [] [] a.now b.now lengths.now

abbrev pub plain_in : Head → SegmentLists → Net
plain_in head s = plain_by head s.a s.b s.lengths

-- nothing from 1 to 7 refuses it
abbrev pub Plain : Head → (a b lengths : List ℕ) → Type 0
Plain head a b lengths = Ready head [] [] a b lengths
