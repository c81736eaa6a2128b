-- From what the moves read and call to what their contracts say: of a net in five lists, 30 (`gives_thirty`), 20 (`gives_twenty`), and where neither is given what writing leaves of the net in the form
-- that is wanted (`gives_written`), which is sound (`moved_ready`); of a record (`moves_refused`, `moves_read`). Relies on Forms, Ruled and on the lists of `on_records`.
use mathlib.Core.Path.{◌≡◌, refl, sym, ap, ◌∙◌}
use mathlib.Core.List.{List}
use mathlib.Core.Option.{none}
use Prim.Native.Nat.{ℕ, ◌<◌, ◌≤◌, min}
use native.Mathlib.Omega.{arith}
use lib.ListN.{length, replicate, length-replicate, get_or-replicate}
use Rattle.net.specs.Net.{house, Net, every, most_posts, ratio_at, ratios_of, own_of, segments_of}
use Rattle.net.specs.Ready.{net_at, Ready}
use Rattle.net.specs.Refusals.{refusal, room_of_ratios}
use Rattle.net.specs.declared.Form.{Form}
use Rattle.net.specs.declared.Form.TheVariants.{First, Second}
use Rattle.net.specs.declared.Head.{Head}
use Rattle.net.specs.declared.Refusal.{Refusal}
use Rattle.net.proofs.Own.{ratios_count, ratio_fields, own_first, own_count}
use Rattle.net.proofs.Faults.{sound_first}
use Rattle.net.proofs.Tables.{FirstOf, end, below, first_of, first_only, none_append}
use Rattle.numbers.specs.Numbers.{refused as unread}
use Rattle.writing.specs.Writing.{net_written, short_lines, write_refusal, the_room_after}
use Rattle.writing.specs.Answers.{write_answer_of, Writes}
use Rattle.on_records.specs.Asked.{record_read, front_of}
use Rattle.on_records.proofs.Given.{NetRead}
use borrow.Author.Tests.{le-ltb}
use Rattle.reading.specs.Answers.{the_own_posts}
use Rattle.moves.specs.Moves.{the_head_in, in_form, the_other_at, NoneOther, LowestAt, move_refusal, MovesNet, Moves}
use Rattle.moves.specs.Rules.{AllHouse}
use Rattle.moves.proofs.Forms.{moved_kept, moved_house, moved_sound, kept_from}
use Rattle.moves.proofs.Tests.{other_told, other_kept}
use Rattle.moves.proofs.Ruled.{no_other, lowest_other, by_thirty, by_twenty, by_last}
use Rattle.std.specs.Prelude.{Result, Err}

-- a list of places for every post, all of them x
abbrev pub alike : ℕ → List ℕ
alike x = replicate most_posts x

-- the house ratio in two such lists
house_at : (h : Head) (v : ℕ) → v < most_posts → ratio_at (ratios_of (alike h.p) (alike h.q)) v ≡ house h
house_at h v k =
    let a = length-replicate most_posts h.p in
    let b = length-replicate most_posts h.q in
    let c = get_or-replicate most_posts v h.p 0 k in
    let d = get_or-replicate most_posts v h.q 0 k in
    sym (ratio_fields (alike h.p) (alike h.q) v (omega arith) (omega arith)) ∙ (λ i. record { p = c i; q = d i })

house_many : (h : Head) → length (ratios_of (alike h.p) (alike h.q)) ≡ most_posts
house_many h = omega (arith, ratios_count (alike h.p) (alike h.q), length-replicate most_posts h.p, length-replicate most_posts h.q)

-- a net that nothing from 1 to 7 refuses, with a ratio for each post
pub record Lent (h : Head) (p q a b l : List ℕ) : Type 0 where
  pub ready : Ready h p q a b l
  pub rated : h.posts ≤ length (ratios_of p q)

-- every post that has a place for an own ratio has one in the lists
pub own_fits : {h : Head} {p q a b l : List ℕ} → Lent h p q a b l → {k : ℕ} → k ≡ the_own_posts h.form h.posts → (k ≤ length p) × (k ≤ length q)
own_fits {h} {p} {q} f {k} e =
    let z = at_most h.form in
    (omega (arith, f.rated, ratios_count p q), omega (arith, f.rated, ratios_count p q))
  where
    at_most : (g : Form) → the_own_posts g h.posts ≤ h.posts
    at_most First = omega arith
    at_most Second = omega arith

-- A NET IN SUCH LISTS
module _ (wanted : Form) {h : Head} {p q a b l : List ℕ} (f : Lent h p q a b l) (room : List ℕ) where
  abbrev net : Net
  net = net_at h p q a b l

  few : h.posts ≤ most_posts
  few = f.ready.sound.head_sound.posts_sound.few_posts

  -- as many posts have a place for an own ratio as are looked at
  many : min h.posts (length (ratios_of p q)) ≡ h.posts
  many = omega (arith, f.rated)

  count_own : length (own_of h (ratios_of p q)) ≡ the_own_posts h.form h.posts
  count_own = by_form h.form refl
    where
      by_form : (g : Form) → h.form ≡ g → length (own_of h (ratios_of p q)) ≡ the_own_posts h.form h.posts
      by_form First e = ap length (own_first h (ratios_of p q) e) ∙ sym (ap (λ f. the_own_posts f h.posts) e)
      by_form Second e = own_count h (ratios_of p q) e ∙ many ∙ sym (ap (λ f. the_own_posts f h.posts) e)

  -- and they are tested alike in the lists and in the net
  tested : (v : ℕ) → v < length (own_of h (ratios_of p q)) → the_other_at h (own_of h (ratios_of p q)) v ≡ the_other_at h (ratios_of p q) v
  tested v k = by_form h.form refl
    where
      by_form : (g : Form) → h.form ≡ g → the_other_at h (own_of h (ratios_of p q)) v ≡ the_other_at h (ratios_of p q) v
      by_form First e = absurd (omega (arith, ap length (own_first h (ratios_of p q) e)))
      by_form Second e = other_kept h (ratios_of p q) e v (omega (arith, own_count h (ratios_of p q) e))

  -- 30
  pub gives_thirty : h.form ≡ wanted → {v : Result ℕ Refusal} → v ≡ Err (refusal 30 0) → MovesNet wanted net room v room
  gives_thirty e x = let z = by_thirty wanted net (length room) e in record { answers = rw z x; leaves = rw z }

  module _ (ne : h.form ≡ wanted → ⊥) {k : ℕ} (c : k ≡ the_own_posts h.form h.posts) where
    below_house : {r : ℕ} → r ≤ k → NoneOther h (ratios_of p q) r → (v : ℕ) → v < r → (v ≡ h.source → ⊥) → ratio_at (own_of h (ratios_of p q)) v ≡ house h
    below_house few none_other v i = (other_told h (own_of h (ratios_of p q)) v).fails (tested v (omega (arith, count_own, few)) ∙ none_other v i)

    -- 20
    pub gives_twenty : {r : ℕ} → LowestAt h (ratios_of p q) k r → {v : Result ℕ Refusal} → v ≡ Err (refusal 20 r) → MovesNet wanted net room v room
    gives_twenty {r} o x =
        let j : r < length (own_of h (ratios_of p q)) = omega (arith, count_own, o.is_post) in
        let y = (other_told h (own_of h (ratios_of p q)) r).passes (tested r j ∙ o.is_other) in
        let z = by_twenty wanted net (length room) ne (lowest_other net (record { is_post = j; not_source = y.0; another = y.1; lower_house = below_house (omega (arith, o.is_post)) o.none_below })) in
        record { answers = rw z x; leaves = rw z }

    -- neither
    pub all_house : NoneOther h (ratios_of p q) k → AllHouse net
    all_house o v j = below_house (omega arith) o v (omega (arith, count_own))

  -- THE NET TO BE WRITTEN: that of the same segments and of the house ratio in two lists
  abbrev moved : Net
  moved = net_at (the_head_in wanted h) (alike h.p) (alike h.q) a b l

  at_most : (v : ℕ) → v < length (in_form wanted net).own → v < most_posts
  unfolding in_form
  at_most v k = by_form wanted refl
    where
      by_form : (g : Form) → wanted ≡ g → v < most_posts
      by_form First e = absurd (omega (arith, ap length ((moved_kept wanted net).first_none e)))
      by_form Second e = omega (arith, (moved_kept wanted net).second_all e, few)

  is_moved : moved ≡ in_form wanted net
  unfolding in_form
  is_moved =
      let e = kept_from (in_form wanted net) (moved_kept wanted net) (ratios_of (alike h.p) (alike h.q)) (omega (arith, house_many h, few))
      (λ v k ne. house_at h v (at_most v k) ∙ sym (moved_house wanted net v k ne)) in
      λ i. record { head = the_head_in wanted h; own = e i; segments = segments_of a b l }

  pub moved_ready : {g : Head} → g ≡ the_head_in wanted h → Ready g (alike h.p) (alike h.q) a b l
  unfolding in_form
  moved_ready e =
      rw e
      (record {
        b_level = f.ready.b_level;
        lengths_level = f.ready.lengths_level;
        sound = rw is_moved (moved_sound wanted net (length (segments_of a b l)) f.ready.sound);
      })

  -- what writing refuses of it is what refuses the move, where 30 and 20 don't
  module _ (ne : h.form ≡ wanted → ⊥) (all : AllHouse net) where
    abbrev count : ℕ
    count = length (segments_of a b l)

    enough : FirstOf (room_of_ratios (in_form wanted net).head.posts most_posts) none
    unfolding room_of_ratios in_form
    enough = below (le-ltb most_posts h.posts few) end

    same_refusal : write_refusal (in_form wanted net) count most_posts (length room) ≡ move_refusal wanted net (length room)
    unfolding write_refusal
    same_refusal =
        let last = first_of (short_lines (length room) (length (net_written (in_form wanted net)))) in
        sym (first_only (none_append (sound_first every count (in_form wanted net) (moved_sound wanted net count f.ready.sound)) (none_append enough last)))
        ∙ sym (by_last wanted net (length room) ne (no_other net all) last)

    pub gives_written : {g : Head} → g ≡ the_head_in wanted h → {r : Result ℕ Refusal} {room' : List ℕ}
        → Writes (net_at g (alike h.p) (alike h.q) a b l) count (length (ratios_of (alike h.p) (alike h.q))) room r room' → MovesNet wanted net room r room'
    unfolding write_answer_of the_room_after
    gives_written e w =
        let v = rw (e, is_moved, house_many h) at w in
        let z = same_refusal in
        record { answers = rw (← z) v.answers; leaves = rw (← z) v.leaves }

-- A RECORD
pub moves_refused : (wanted : Form) (bytes room : List ℕ) (r : Refusal) → record_read bytes ≡ unread r → Moves wanted bytes room (Err r) room
moves_refused wanted bytes room r e = record { answers = rw e; leaves = rw e }

pub moves_read : (wanted : Form) (bytes room : List ℕ) {h : Head} {m : ℕ} {p q x y z : List ℕ} {n : Net} {r : Result ℕ Refusal} {room' : List ℕ} → NetRead bytes h m p q x y z → n ≡ front_of h m p q x y z
    → MovesNet wanted n room r room' → Moves wanted bytes room r room'
moves_read wanted bytes room g is j = let e = g.is in record { answers = rw (e, ← is) j.answers; leaves = rw (e, ← is) j.leaves }
