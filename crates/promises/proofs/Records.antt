-- Records both ways, of both forms. What reading leaves in the lists (`laid_as`, `read_as`), and that an answer says a net only where it was read (`was_read`). Rests on
-- reading's RoundTrip, Laid and Outcomes, and on writing's Outcomes.
use mathlib.Core.Path.{◌≡◌, refl, sym, ap, ◌∙◌}
use mathlib.Core.List.{List}
use Prim.Native.Nat.{ℕ, ◌≤◌, ◌<◌}
use native.Mathlib.Omega.{arith}
use lib.ListN.{length, get_or, take}
use lib.Seq.{take-append_seam}
use Rattle.net.specs.Net.{Ratio, Net, ratio_at, ratios_of, every}
use Rattle.net.specs.Rules.{NetSound}
use Rattle.net.specs.Building.{p_of, q_of}
use Rattle.net.specs.declared.Form.{Form}
use Rattle.net.specs.declared.Form.TheVariants.{First, Second}
use Rattle.net.specs.declared.Head.{Head}
use Rattle.net.specs.declared.Segment.{Segment}
use Rattle.net.proofs.Own.{ratios_count, ratio_own, ratio_lent}
use Rattle.crossings.specs.Lists.{net_on}
use Rattle.numbers.specs.Numbers.{Bytes, Got, got, refused}
use Rattle.numbers.specs.Putting.{onto}
use Rattle.reading.specs.Answers.{said_of, laid_in, ratios_read, says_by}
use Rattle.reading.proofs.Laid.{laid_length, laid_post, laid_source, laid_beyond}
use Rattle.reading.proofs.RoundTrip.{Kept, kept_with, read_of_written, sound_of_read, records_equal, nets_equal}
use Rattle.reading.proofs.Outcomes.{says_laid, read_writes}
use Rattle.writing.specs.Writing.{net_written}
use Rattle.writing.specs.Answers.{result, says_written, Writes}
use Rattle.writing.proofs.Outcomes.{was_written}
use Rattle.on_segments.specs.Reading.{list_read, read_into, Reads}
use Rattle.promises.specs.Records.{LaidAs, ReadAs, RecordsBothWays}
use Rattle.net.specs.declared.Counted.{Counted}
use Rattle.net.specs.declared.Refusal.{Refusal}
use Rattle.std.specs.Prelude.{Result, Ok, Err}

-- THE LISTS OF RATIOS
not_both : {f : Form} → f ≡ First → f ≡ Second → ⊥
not_both a b = let c : ◌≡◌ {A = Form} First Second = sym a ∙ b in let d : ◌≡◌ {A = ℕ} 0 1 = cc in omega arith

-- what reading leaves in a list that is long enough
laid_as : (n : Net) (f : Ratio → ℕ) (l : List ℕ) → Kept n → n.head.source < n.head.posts → n.head.posts ≤ length l
    → LaidAs n (λ v. f (ratio_at n.own v)) l (laid_in n.head.form f n.head.source n.own l)
laid_as n f l k below long = go n.head.form refl
  where
    go : (form : Form) → n.head.form ≡ form → LaidAs n (λ v. f (ratio_at n.own v)) l (laid_in form f n.head.source n.own l)
    go First e = record { as_long = refl; posts_own = λ z. absurd (not_both e z); source_kept = refl; beyond_kept = λ v h i. refl; first_kept = λ _. refl }
    go Second e =
        let c = k.second_all e in
        let s = n.head.source in
        record {
          as_long = laid_length f s n.own l;
          posts_own = λ _ v h ne. laid_post f s n.own l v (omega arith) (omega arith) ne;
          source_kept = laid_source f s n.own l s (omega arith) refl;
          beyond_kept = λ v h i. laid_beyond f s n.own l v i (omega arith);
          first_kept = λ z. absurd (not_both z e);
        }

-- the same by other names of the posts' numbers
named : {n : Net} {f g : ℕ → ℕ} {l l' : List ℕ} → (n.head.form ≡ Second → (v : ℕ) → v < n.head.posts → (v ≡ n.head.source → ⊥) → f v ≡ g v) → LaidAs n f l l' → LaidAs n g l l'
named same a =
    record {
      as_long = a.as_long;
      posts_own = λ e v h ne. a.posts_own e v h ne ∙ same e v h ne;
      source_kept = a.source_kept;
      beyond_kept = a.beyond_kept;
      first_kept = a.first_kept;
    }

-- WHAT WAS READ
module _ (bytes p q : List ℕ) (l : List Segment) {a : Result Counted Refusal} {p' q' : List ℕ} {l' : List Segment} (r : Reads bytes p q l a p' q' l') where
  begins : (g : Got Net) (n : Net) (next : ℕ) → g ≡ got n next → take (length n.segments) (list_read g l) ≡ n.segments
  begins g n next e = rw e (take-append_seam n.segments _)

  -- the answer, with what the lists hold then, says what reading gives
  said : says_by a (ratios_of p' q') l' ≡ said_of (read_into bytes p q l)
  said = rw (r.answers, r.p_is, r.q_is, r.list_is) (says_laid bytes p q (length l) (list_read (read_into bytes p q l) l) (read_into bytes p q l) refl (begins (read_into bytes p q l)))

  read_as : {n : Net} {next : ℕ} → read_into bytes p q l ≡ got n next → ReadAs n (p_of n) (q_of n) p q l a p' q' l'
  read_as {n} {next} e =
      let good = sound_of_read bytes (length l) (length (ratios_of p q)) n next e in
      let k = good.kept in
      let below = good.sound.head_sound.source_in in
      let long = good.ratios_enough in
      let c = ratios_count p q in
      let x : LaidAs n (λ v. (ratio_at n.own v).p) p p' = rw (r.p_is ∙ ap (λ g. ratios_read (λ o. o.p) g p) e) (laid_as n (λ o. o.p) p k below (omega arith)) in
      let y : LaidAs n (λ v. (ratio_at n.own v).q) q q' = rw (r.q_is ∙ ap (λ g. ratios_read (λ o. o.q) g q) e) (laid_as n (λ o. o.q) q k below (omega arith)) in
      record {
        says = said ∙ ap said_of e;
        segments_laid = r.list_is ∙ ap (λ g. list_read g l) e;
        p_laid = named (λ f v h ne. sym (ap (λ u. u.p) (ratio_own n f v ne))) x;
        q_laid = named (λ f v h ne. sym (ap (λ u. u.q) (ratio_own n f v ne))) y;
      }

  -- a net of which the answer says so was read
  was_read : {n : Net} → says_by a (ratios_of p' q') l' ≡ result n → (next : ℕ) × (read_into bytes p q l ≡ got n next)
  was_read {n} s = go (read_into bytes p q l) (sym said ∙ s)
    where
      go : (g : Got Net) → said_of g ≡ result n → (next : ℕ) × (g ≡ got n next)
      go (got m next) f = (next, (let j : m ≡ n = cc in ap (λ x. got x next) j))
      go (refused x) f = absurd (let z : ◌≡◌ {A = ℕ} 0 1 = cc in omega arith)

  stands : {n : Net} → says_by a (ratios_of p' q') l' ≡ result n → ReadAs n (p_of n) (q_of n) p q l a p' q' l'
  stands s = read_as (was_read s).1

-- WHAT WAS WRITTEN: a net of which writing says a size was written, and the front of the room is its record
pub record Recorded (n : Net) (k size : ℕ) (x : List ℕ) : Type 0 where
  pub sound : NetSound every (length n.segments) n
  pub enough : n.head.posts ≤ k
  pub front : take size x ≡ net_written n

said_written : (a : Result ℕ Refusal) {size : ℕ} → says_written a ≡ result size → a ≡ Ok size
said_written (Ok k) e = cc
said_written (Err r) e = absurd (let z : ◌≡◌ {A = ℕ} 0 1 = cc in omega arith)

pub recorded : (n : Net) (k : ℕ) (room : List ℕ) {a : Result ℕ Refusal} {size : ℕ} {x : List ℕ} → Writes n (length n.segments) k room a x → says_written a ≡ result size → Recorded n k size x
recorded n k room {a} w e =
    let v = was_written n (length n.segments) k room _ _ _ w (said_written a e) in
    record { sound = v.sound; enough = v.enough; front = rw (v.room_is, v.size_is) (take-append_seam (net_written n) _) }

-- BOTH WAYS
back : (h : Head) (p q : List ℕ) (segments : List Segment) (room : List ℕ) {a : Result ℕ Refusal} {size : ℕ} {x : List ℕ} → Writes (net_on h p q segments) (length segments) (length (ratios_of p q)) room a x
    → says_written a ≡ result size → (p₂ q₂ : List ℕ) (l : List Segment) {b : Result Counted Refusal} {p' q' : List ℕ} {l' : List Segment} → h.posts ≤ length p₂ → h.posts ≤ length q₂ → length segments ≤ length l
    → Reads (take size x) p₂ q₂ l b p' q' l' → ReadAs (net_on h p q segments) (λ v. get_or p v 0) (λ v. get_or q v 0) p₂ q₂ l b p' q' l'
back h p q segments room {a} {size} {x} w s p₂ q₂ l long-p long-q few r =
    let n = net_on h p q segments in
    let v = recorded n (length (ratios_of p q)) room w s in
    let c = ratios_count p q in
    let d = v.enough in
    let e : read_into (take size x) p₂ q₂ l ≡ got n (length (net_written n)) =
    rw v.front (read_of_written n (length l) (length (ratios_of p₂ q₂)) v.sound (kept_with h (ratios_of p q) segments d) few (omega (arith, ratios_count p₂ q₂))) in
    let k = read_as (take size x) p₂ q₂ l r e in
    record {
      says = k.says;
      segments_laid = k.segments_laid;
      p_laid = named (λ f u i ne. ap (λ o. o.p) (ratio_lent h p q segments f u i (omega arith) (omega arith) ne)) k.p_laid;
      q_laid = named (λ f u i ne. ap (λ o. o.q) (ratio_lent h p q segments f u i (omega arith) (omega arith) ne)) k.q_laid;
    }

again : (bytes p q : List ℕ) (l : List Segment) {a : Result Counted Refusal} {p' q' : List ℕ} {l' : List Segment} {n : Net} → Bytes bytes → Reads bytes p q l a p' q' l' → says_by a (ratios_of p' q') l' ≡ result n
    → (k : ℕ) (room : List ℕ) {b : Result ℕ Refusal} {x : List ℕ} → n.head.posts ≤ k → length bytes ≤ length room → Writes n (length n.segments) k room b x
    → (says_written b ≡ result (length bytes)) × (x ≡ onto bytes room)
again bytes p q l {n = n} all r s k room enough long w =
    let b = was_read bytes p q l r s in
    let z = read_writes bytes (length l) (length (ratios_of p q)) n b.0 k room all b.1 enough long in
    (ap says_written (w.answers ∙ z.0), w.leaves ∙ z.1)

alike : (b c p q p₂ q₂ : List ℕ) (l m : List Segment) {a a₂ : Result Counted Refusal} {p' q' p₃ q₃ : List ℕ} {l' m' : List Segment} {n : Net} → Bytes b → Bytes c
    → Reads b p q l a p' q' l' → says_by a (ratios_of p' q') l' ≡ result n → Reads c p₂ q₂ m a₂ p₃ q₃ m' → says_by a₂ (ratios_of p₃ q₃) m' ≡ result n → b ≡ c
alike b c p q p₂ q₂ l m {n = n} x y r s t u =
    let i = was_read b p q l r s in
    let j = was_read c p₂ q₂ m t u in
    records_equal b c (length l) (length m) (length (ratios_of p q)) (length (ratios_of p₂ q₂)) n i.0 j.0 x y i.1 j.1

pub same_net : (h h₂ : Head) (p q p₂ q₂ : List ℕ) (ss ss₂ : List Segment) (room room₂ : List ℕ) {a b : Result ℕ Refusal} {size size₂ : ℕ} {x y : List ℕ}
    → Writes (net_on h p q ss) (length ss) (length (ratios_of p q)) room a x → says_written a ≡ result size
    → Writes (net_on h₂ p₂ q₂ ss₂) (length ss₂) (length (ratios_of p₂ q₂)) room₂ b y → says_written b ≡ result size₂ → take size x ≡ take size₂ y → net_on h p q ss ≡ net_on h₂ p₂ q₂ ss₂
same_net h h₂ p q p₂ q₂ ss ss₂ room room₂ w s v t e =
    let i = recorded (net_on h p q ss) (length (ratios_of p q)) room w s in
    let j = recorded (net_on h₂ p₂ q₂ ss₂) (length (ratios_of p₂ q₂)) room₂ v t in
    nets_equal (net_on h p q ss) (net_on h₂ p₂ q₂ ss₂) i.sound j.sound (kept_with h (ratios_of p q) ss i.enough) (kept_with h₂ (ratios_of p₂ q₂) ss₂ j.enough) (sym i.front ∙ e ∙ j.front)

pub records_both_ways : RecordsBothWays
records_both_ways =
    record {
      written_then_read = back;
      read_stands = λ bytes p q l r s. stands bytes p q l r s;
      read_then_written = again;
      one_record = alike;
      one_net = same_net;
      first_form = λ bytes p q l r s f. (let z = stands bytes p q l r s in (z.p_laid.first_kept f, z.q_laid.first_kept f));
    }
