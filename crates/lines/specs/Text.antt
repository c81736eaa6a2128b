-- What the program prints: a number as text, the lines, and all of it for a built net and for a refusal. A text is the
-- list of its bytes, in ASCII. "Every line ends with one newline." Assumes nothing.
use Rattle.std.specs.Prelude.{cond, List, [], ◌∷◌, ◌++◌, ℕ, zero, suc, ◌+◌, ◌/◌, ◌%◌, eqb, leb, get_or}
use Rattle.net.specs.Words.{only}
use Rattle.net.specs.Building.{BuildAnswer, built, refused}
use Rattle.net.specs.declared.Head.{Head}

-- A NUMBER: the digits of n in base ten, the highest first, at most k of them
unfoldable pub spelled : ℕ → ℕ → List ℕ
spelled zero n = []
spelled (suc k) n = only (leb 10 n) (λ _. spelled k (n / 10)) [] ++ ((48 + n % 10) ∷ [])

-- all of them: n has no more than n + 1 digits
unfoldable pub decimal : ℕ → List ℕ
decimal n = spelled (suc n) n

-- a number parted by a space from what stands before it
unfoldable pub spaced : ℕ → List ℕ
spaced n = 32 ∷ decimal n

-- WORDS
abbrev pub newline : List ℕ
newline = 10 ∷ []

-- net
abbrev pub net_word : List ℕ
net_word = 110 ∷ 101 ∷ 116 ∷ []

-- mst, the lightest tree
abbrev pub mst : List ℕ
mst = 109 ∷ 115 ∷ 116 ∷ []

-- spt, the shortest tree
abbrev pub spt : List ℕ
spt = 115 ∷ 112 ∷ 116 ∷ []

-- last, the tree between
abbrev pub last : List ℕ
last = 108 ∷ 97 ∷ 115 ∷ 116 ∷ []

-- laid
abbrev pub laid_word : List ℕ
laid_word = 108 ∷ 97 ∷ 105 ∷ 100 ∷ []

-- refused
abbrev pub refused_word : List ℕ
refused_word = 114 ∷ 101 ∷ 102 ∷ 117 ∷ 115 ∷ 101 ∷ 100 ∷ []

-- LINES. the ratio, p/q
unfoldable pub ratio_text : ℕ → ℕ → List ℕ
ratio_text p q = spaced p ++ (47 ∷ []) ++ decimal q

-- "First line: posts, segments, source, ratio.": the house ratio, in both forms
unfoldable pub net_line : ℕ → ℕ → ℕ → ℕ → ℕ → List ℕ
net_line posts segments source p q = net_word ++ spaced posts ++ spaced segments ++ spaced source ++ ratio_text p q
    ++ newline

-- the entry of post v, and nothing for the source
unfoldable pub entry_text : ℕ → ℕ → ℕ → List ℕ
entry_text source v entry = cond (eqb v source) [] (spaced entry)

-- "the entries of all posts but the source in rising order": of all posts below n
unfoldable pub entries_text : ℕ → List ℕ → ℕ → List ℕ
entries_text source entries zero = []
entries_text source entries (suc v) = entries_text source entries v ++ entry_text source v (get_or entries v 0)

-- "Tree lines: length, radius, then the entries of all posts but the source in rising order." What stands behind the
-- posts' entries is not printed.
unfoldable pub tree_line : List ℕ → ℕ → ℕ → ℕ → ℕ → List ℕ → List ℕ
tree_line name length radius posts source entries = name ++ spaced length ++ spaced radius
    ++ entries_text source entries posts ++ newline

-- "Last line: count of laid paths."
unfoldable pub laid_line : ℕ → List ℕ
laid_line count = laid_word ++ spaced count ++ newline

-- "A refusal prints the single line `refused`, number and place, parted by spaces"
unfoldable pub refused_line : ℕ → ℕ → List ℕ
refused_line number place = refused_word ++ spaced number ++ spaced place ++ newline

-- THE PROGRAM'S TEXT for what building a net of that many segments answers and for the three lists afterwards
unfoldable pub program_text : Head → ℕ → BuildAnswer → (lightest shortest between : List ℕ) → List ℕ
program_text head segments (built l s b laid) lightest shortest between =
    net_line head.posts segments head.source head.p head.q
    ++ tree_line mst l.length l.radius head.posts head.source lightest
    ++ tree_line spt s.length s.radius head.posts head.source shortest
    ++ tree_line last b.length b.radius head.posts head.source between
    ++ laid_line laid
program_text head segments (refused r) lightest shortest between = refused_line r.number r.place
