-- Reading a record as rules, one constructor for each refusal with its place, without tests and without an order of
-- work: each says that nothing before it holds. proofs/Ruled proves that every record has an answer by these rules,
-- that it has no other, and that `Reading` computes it. A single number's rules are those of the crate `numbers`, and
-- writing's those of the crate `writing`.
use Rattle.std.specs.Prelude.{ℕ, ◌<◌, ◌≤◌, ◌≡◌, ◌⊎◌, List, [], ◌∷◌, ◌++◌, length}
use Rattle.std.proofs.Math.Option.{none, some}
use Rattle.net.specs.Net.{Ratio, Net, no_ratio}
use Rattle.net.specs.Refusals.{refusal}
use Rattle.net.specs.Rules.{HeadRule, RatioRule, SegmentRule}
use Rattle.net.specs.declared.Segment.{Segment}
use Rattle.net.specs.declared.Form.TheVariants.{First, Second}
use Rattle.net.specs.declared.Head.{Head}
use Rattle.net.specs.declared.Refusal.{Refusal}
use Rattle.numbers.specs.Numbers.{Got, got, refused}
use Rattle.numbers.specs.Rules.{NumberRule}

module _ (bytes : List ℕ) where
  -- numbers in a row, from one offset to another
  pub data Row : ℕ → List ℕ → ℕ → Type 0 where
    empty : {at : ℕ} → Row at [] at
    next : {at i last n : ℕ} {ns : List ℕ} → NumberRule bytes at (got n i) → Row i ns last → Row at (n ∷ ns) last

  -- fewer than k numbers are there before one that is refused
  pub record BreaksOff (k at : ℕ) (r : Refusal) : Type 0 where
    pub ns : List ℕ
    pub last : ℕ
    pub row : Row at ns last
    pub fewer : length ns < k
    pub refuses : NumberRule bytes last (refused r)

  -- sound segments from the offset `start` on, and the offset after them
  pub data SoundSegments (posts start : ℕ) : List Segment → ℕ → Type 0 where
    empty : SoundSegments posts start [] start
    next : {ss : List Segment} {s : Segment} {at last : ℕ} → SoundSegments posts start ss at
        → Row at (s.a ∷ s.b ∷ s.length ∷ []) last
        → SegmentRule posts s (length ss) none → SoundSegments posts start (ss ++ (s ∷ [])) last

  -- the own ratios of the posts 0, 1, .. in turn, from the offset `start` on, and the offset after them: "p and q for
  -- each post but the source", each sound; of the source nothing stands there
  pub data SoundPosts (source start : ℕ) : List Ratio → ℕ → Type 0 where
    empty : SoundPosts source start [] start
    at_source : {rs : List Ratio} {at : ℕ} → SoundPosts source start rs at → length rs ≡ source
        → SoundPosts source start (rs ++ (no_ratio ∷ [])) at
    next : {rs : List Ratio} {r : Ratio} {at last : ℕ} → SoundPosts source start rs at → (length rs ≡ source → ⊥)
        → Row at (r.p ∷ r.q ∷ []) last → RatioRule r (length rs) none
        → SoundPosts source start (rs ++ (r ∷ [])) last

  -- the head's five numbers, and before them in the second form "a first number 0"; in the first form the first of them
  -- isn't 0
  pub data HeadStands (h : Head) (count : ℕ) : ℕ → Type 0 where
    first_form : {at : ℕ} → h.form ≡ First → (h.posts ≡ 0 → ⊥)
        → Row 0 (h.posts ∷ h.source ∷ h.p ∷ h.q ∷ count ∷ []) at → HeadStands h count at
    second_form : {at : ℕ} → h.form ≡ Second
        → Row 0 (0 ∷ h.posts ∷ h.source ∷ h.p ∷ h.q ∷ count ∷ []) at → HeadStands h count at

  -- a head of five or six numbers breaks off: before its first number, or behind one that says how many there are
  pub data HeadBreaks (r : Refusal) : Type 0 where
    at_first : NumberRule bytes 0 (refused r) → HeadBreaks r
    of_five : {n i : ℕ} → NumberRule bytes 0 (got n i) → (n ≡ 0 → ⊥) → BreaksOff 4 i r → HeadBreaks r
    of_six : {i : ℕ} → NumberRule bytes 0 (got 0 i) → BreaksOff 5 i r → HeadBreaks r

  -- the own ratios of a net: none in the first form, one for each post in the second
  pub data OwnStands (h : Head) (start : ℕ) : List Ratio → ℕ → Type 0 where
    first_form : h.form ≡ First → OwnStands h start [] start
    second_form : {own : List Ratio} {at : ℕ} → h.form ≡ Second → SoundPosts h.source start own at
        → length own ≡ h.posts → OwnStands h start own at

  -- a head that stands, of which 1 to 4 do not hold, and lent lists that are long enough for it
  pub record HeadGood (room ratioRoom : ℕ) (h : Head) (count at : ℕ) : Type 0 where
    pub stands : HeadStands h count at
    pub sound : HeadRule h count none
    pub enough : count ≤ room
    pub enough_ratios : h.posts ≤ ratioRoom

  -- A RECORD, read into a lent list of `room` segments and into `ratioRoom` lent ratios
  pub data ReadRule (room ratioRoom : ℕ) : Got Net → Type 0 where
    head_ten_eleven : {r : Refusal} → HeadBreaks r → ReadRule room ratioRoom (refused r)
    one_to_four : {h : Head} {count at : ℕ} {r : Refusal} → HeadStands h count at → HeadRule h count (some r)
        → ReadRule room ratioRoom (refused r)
    eight : {h : Head} {count at : ℕ} → HeadStands h count at → HeadRule h count none
        → (room < count) ⊎ (ratioRoom < h.posts) → ReadRule room ratioRoom (refused (refusal 8 0))
    post_ten_eleven : {h : Head} {count start at : ℕ} {own : List Ratio} {r : Refusal}
        → HeadGood room ratioRoom h count start → h.form ≡ Second → SoundPosts h.source start own at
        → length own < h.posts → (length own ≡ h.source → ⊥) → BreaksOff 2 at r → ReadRule room ratioRoom (refused r)
    three_of_post : {h : Head} {count start at last : ℕ} {own : List Ratio} {o : Ratio} {r : Refusal}
        → HeadGood room ratioRoom h count start → h.form ≡ Second → SoundPosts h.source start own at
        → length own < h.posts → (length own ≡ h.source → ⊥) → Row at (o.p ∷ o.q ∷ []) last
        → RatioRule o (length own) (some r) → ReadRule room ratioRoom (refused r)
    segment_ten_eleven : {h : Head} {count start begin at : ℕ} {own : List Ratio} {ss : List Segment} {r : Refusal}
        → HeadGood room ratioRoom h count start → OwnStands h start own begin
        → SoundSegments h.posts begin ss at → length ss < count → BreaksOff 3 at r
        → ReadRule room ratioRoom (refused r)
    five_to_seven : {h : Head} {count start begin at last : ℕ} {own : List Ratio} {ss : List Segment} {s : Segment}
        {r : Refusal} → HeadGood room ratioRoom h count start → OwnStands h start own begin
        → SoundSegments h.posts begin ss at → length ss < count → Row at (s.a ∷ s.b ∷ s.length ∷ []) last
        → SegmentRule h.posts s (length ss) (some r) → ReadRule room ratioRoom (refused r)
    twelve : {h : Head} {start begin at : ℕ} {own : List Ratio} {ss : List Segment}
        → HeadGood room ratioRoom h (length ss) start → OwnStands h start own begin
        → SoundSegments h.posts begin ss at → at < length bytes → ReadRule room ratioRoom (refused (refusal 12 at))
    good : {h : Head} {start begin at : ℕ} {own : List Ratio} {ss : List Segment}
        → HeadGood room ratioRoom h (length ss) start → OwnStands h start own begin
        → SoundSegments h.posts begin ss at → length bytes ≤ at
        → ReadRule room ratioRoom (got (record { head = h; own = own; segments = ss }) at)
