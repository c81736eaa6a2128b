-- Records, of demand 2: "Records are read and written both ways without loss, one record for one net." Of both forms in
-- one statement: over every head, every two lists of ratios and every list of segments that are lent, whatever they
-- hold. Said over `Reads` and `Writes`, which are the contracts of reading and writing (specs/Tied); what is read are
-- bytes, each below 256 (`Bytes`).
use Rattle.std.specs.Prelude.{◌≡◌, List, ◌++◌, ℕ, ◌≤◌, ◌<◌, length, take, drop}
use Rattle.net.specs.Net.{Net, ratios_of}
use Rattle.net.specs.Building.{p_of, q_of}
use Rattle.net.specs.declared.Form.TheVariants.{First, Second}
use Rattle.net.specs.declared.Head.{Head}
use Rattle.net.specs.declared.Segment.{Segment}
use Rattle.crossings.specs.Lists.{net_on}
use Rattle.numbers.specs.Numbers.{Bytes}
use Rattle.numbers.specs.Putting.{onto}
use Rattle.reading.specs.Answers.{says_by}
use Rattle.writing.specs.Answers.{result, says_written, Writes}
use Rattle.on_segments.specs.Reading.{Reads}
use Rattle.promises.specs.Ratios.{number_at}
use Rattle.net.specs.declared.Counted.{Counted}
use Rattle.net.specs.declared.Refusal.{Refusal}
use Rattle.std.specs.Prelude.{Result}

-- a lent list of the posts' numbers that held `before`, once a record of the net n was read into it: in the second form
-- each post but the source has its `number` there; the source's place, all places beyond the posts, and in the first
-- form the whole list are as they were
pub record LaidAs (n : Net) (number : ℕ → ℕ) (before now : List ℕ) : Type 0 where
  pub as_long : length now ≡ length before
  pub posts_own : n.head.form ≡ Second → (v : ℕ) → v < n.head.posts → (v ≡ n.head.source → ⊥)
      → number_at now v ≡ number v
  pub source_kept : number_at now n.head.source ≡ number_at before n.head.source
  pub beyond_kept : (v : ℕ) → n.head.posts ≤ v → v < length before → number_at now v ≡ number_at before v
  pub first_kept : n.head.form ≡ First → now ≡ before

-- a net n was read into lists that held p, q and l: the answer b, with what the lists hold then, says it; its segments
-- stand at the front of one list, and the numbers ps and qs of its posts in the other two
pub record ReadAs (n : Net) (ps qs : ℕ → ℕ) (p q : List ℕ) (l : List Segment) (b : Result Counted Refusal)
    (p' q' : List ℕ) (l' : List Segment) : Type 0 where
  pub says : says_by b (ratios_of p' q') l' ≡ result n
  pub segments_laid : l' ≡ n.segments ++ drop (length n.segments) l
  pub p_laid : LaidAs n ps p p'
  pub q_laid : LaidAs n qs q q'

pub record RecordsBothWays : Type 0 where
  -- what was written reads as the same net, with the numbers of the lists that it was written from, laid into any lists
  -- that are long enough
  pub written_then_read : (h : Head) (p q : List ℕ) (segments : List Segment) (room : List ℕ) {a : Result ℕ Refusal}
      {size : ℕ} {x : List ℕ} → Writes (net_on h p q segments) (length segments) (length (ratios_of p q)) room a x
      → says_written a ≡ result size
      → (p₂ q₂ : List ℕ) (l : List Segment) {b : Result Counted Refusal} {p' q' : List ℕ} {l' : List Segment}
      → h.posts ≤ length p₂ → h.posts ≤ length q₂ → length segments ≤ length l
      → Reads (take size x) p₂ q₂ l b p' q' l'
      → ReadAs (net_on h p q segments) (number_at p) (number_at q) p₂ q₂ l b p' q' l'
  -- what was read stands in the lists
  pub read_stands : (bytes p q : List ℕ) (l : List Segment) {a : Result Counted Refusal} {p' q' : List ℕ} {l' : List Segment}
      {n : Net} → Reads bytes p q l a p' q' l' → says_by a (ratios_of p' q') l' ≡ result n
      → ReadAs n (p_of n) (q_of n) p q l a p' q' l'
  -- and is written again byte for byte, where k ratios are lent, one for each post, into any room that is long enough
  pub read_then_written : (bytes p q : List ℕ) (l : List Segment) {a : Result Counted Refusal} {p' q' : List ℕ}
      {l' : List Segment} {n : Net} → Bytes bytes → Reads bytes p q l a p' q' l'
      → says_by a (ratios_of p' q') l' ≡ result n
      → (k : ℕ) (room : List ℕ) {b : Result ℕ Refusal} {x : List ℕ} → n.head.posts ≤ k → length bytes ≤ length room
      → Writes n (length n.segments) k room b x
      → (says_written b ≡ result (length bytes)) × (x ≡ onto bytes room)
  -- two records of one net are equal
  pub one_record : (b c p q p₂ q₂ : List ℕ) (l m : List Segment) {a a₂ : Result Counted Refusal} {p' q' p₃ q₃ : List ℕ}
      {l' m' : List Segment} {n : Net} → Bytes b → Bytes c
      → Reads b p q l a p' q' l' → says_by a (ratios_of p' q') l' ≡ result n
      → Reads c p₂ q₂ m a₂ p₃ q₃ m' → says_by a₂ (ratios_of p₃ q₃) m' ≡ result n → b ≡ c
  -- and two nets of one record are
  pub one_net : (h h₂ : Head) (p q p₂ q₂ : List ℕ) (ss ss₂ : List Segment) (room room₂ : List ℕ) {a b : Result ℕ Refusal}
      {size size₂ : ℕ} {x y : List ℕ}
      → Writes (net_on h p q ss) (length ss) (length (ratios_of p q)) room a x → says_written a ≡ result size
      → Writes (net_on h₂ p₂ q₂ ss₂) (length ss₂) (length (ratios_of p₂ q₂)) room₂ b y → says_written b ≡ result size₂
      → take size x ≡ take size₂ y → net_on h p q ss ≡ net_on h₂ p₂ q₂ ss₂
  -- a record of the first form leaves both lists of ratios as they were
  pub first_form : (bytes p q : List ℕ) (l : List Segment) {a : Result Counted Refusal} {p' q' : List ℕ} {l' : List Segment}
      {n : Net} → Reads bytes p q l a p' q' l' → says_by a (ratios_of p' q') l' ≡ result n → n.head.form ≡ First
      → (p' ≡ p) × (q' ≡ q)
