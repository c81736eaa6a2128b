-- What the contract of `read` comes to: two outcomes that it allows are equal; what the answer says in document 01's words, with the ratios and the segments that
-- stand in the lists then; and that a net that was read is written as it was read. Relies on RoundTrip, on Laid and on writing's Outcomes.
use Prim.Native.Nat.{ℕ, ◌<◌, ◌≤◌}
use mathlib.Core.Path.{◌≡◌, refl, sym, ap, ◌∙◌}
use mathlib.Core.Bool.{Bool, true, false}
use mathlib.Core.List.{List, [], ◌∷◌, ◌++◌, map}
use native.Mathlib.Omega.{arith}
use lib.Dec.{eqb}
use lib.ListN.{length, take, drop}
use lib.Seq.{take-append_seam, ext_get_or}
use borrow.Author.Tests.{eqb-true, eqb-false}
use Rattle.net.specs.Net.{Ratio, Net, no_ratio, ratio_at, ratios_of, own_of, segments_of}
use Rattle.net.specs.declared.Form.{Form}
use Rattle.net.specs.declared.Form.TheVariants.{First, Second}
use Rattle.net.specs.declared.Segment.{Segment}
use Rattle.net.proofs.Own.{ratios_count, ratio_fields, own_first, own_at}
use Rattle.numbers.specs.Numbers.{Bytes, Got, got, refused}
use Rattle.numbers.specs.Putting.{onto}
use Rattle.writing.specs.Writing.{the_room_after}
use Rattle.writing.specs.Answers.{write_answer_of}
use Rattle.std.specs.Prelude.{Result, Ok}
use Rattle.net.specs.declared.Counted.{Counted}
use Rattle.net.specs.declared.Refusal.{Refusal}
use Rattle.writing.proofs.Outcomes.{sound_writes}
use Rattle.reading.specs.Reading.{net_read}
use Rattle.reading.specs.Answers.{said_of, says_by, read_answer, list_read, laid_in, ratios_read, read_into, ReadsLists}
use Rattle.reading.proofs.RoundTrip.{Kept, kept_with, sound_of_read, written_of_read}
use Rattle.reading.proofs.Laid.{laid_length, laid_post}

-- TWO OUTCOMES ARE EQUAL
pub read_unique : (bytes p q a b l : List ℕ) (r r' : Result Counted Refusal) (u u' v v' x x' y y' z z' : List ℕ) → ReadsLists bytes p q a b l r u v x y z → ReadsLists bytes p q a b l r' u' v' x' y' z'
    → (r ≡ r') × (u ≡ u') × (v ≡ v') × (x ≡ x') × (y ≡ y') × (z ≡ z')
read_unique bytes p q a b l r r' u u' v v' x x' y y' z z' i j =
    (i.answers ∙ sym j.answers, i.p_is ∙ sym j.p_is, i.q_is ∙ sym j.q_is, i.a_is ∙ sym j.a_is, i.b_is ∙ sym j.b_is, i.lengths_are ∙ sym j.lengths_are)

-- WHAT THE ANSWER SAYS, with the ratios and the segments that stand in the lists: the definition's result or refusal
-- own ratios that were laid over lent lists are what a net keeps of these lists
pub own_laid : (n : Net) (p q : List ℕ) → Kept n → n.head.posts ≤ length (ratios_of p q)
    → own_of n.head (ratios_of (laid_in n.head.form (λ o. o.p) n.head.source n.own p) (laid_in n.head.form (λ o. o.q) n.head.source n.own q)) ≡ n.own
own_laid n p q k enough = by_form n.head.form refl
  where
    over : Form → (Ratio → ℕ) → List ℕ → List ℕ
    over f c l = laid_in f c n.head.source n.own l

    both : List Ratio
    both = ratios_of (over Second (λ o. o.p) p) (over Second (λ o. o.q) q)

    as_many : length both ≡ length (ratios_of p q)
    as_many =
        let x = laid_length (λ o. o.p) n.head.source n.own p in
        let y = laid_length (λ o. o.q) n.head.source n.own q in
        ratios_count (over Second (λ o. o.p) p) (over Second (λ o. o.q) q) ∙ rw (x, y) (sym (ratios_count p q))

    of_post : (v : ℕ) → v < length n.own → v < length (ratios_of p q) → (v ≡ n.head.source → ⊥) → ratio_at both v ≡ ratio_at n.own v
    of_post v i j ne =
        let c = ratios_count p q in
        let x = laid_length (λ o. o.p) n.head.source n.own p in
        let y = laid_length (λ o. o.q) n.head.source n.own q in
        let f = laid_post (λ o. o.p) n.head.source n.own p v (omega arith) i ne in
        let g = laid_post (λ o. o.q) n.head.source n.own q v (omega arith) i ne in
        sym (ratio_fields (over Second (λ o. o.p) p) (over Second (λ o. o.q) q) v (omega arith) (omega arith)) ∙ rw (f, g)

    second : n.head.form ≡ Second → own_of n.head both ≡ n.own
    second e =
        let m = as_many in
        let w = kept_with n.head both [] (omega arith) in
        let a = w.second_all e in
        let b = k.second_all e in
        ext_get_or no_ratio (own_of n.head both) n.own (a ∙ sym b) (λ v i. at v (omega arith) (omega arith) (eqb v n.head.source) refl)
      where
        at : (v : ℕ) → v < n.head.posts → v < length n.own → (c : Bool) → eqb v n.head.source ≡ c → ratio_at (own_of n.head both) v ≡ ratio_at n.own v
        at v i j true f =
            let m = as_many in
            let z = eqb-true v n.head.source f in
            rw z ((kept_with n.head both [] (omega arith)).source_blank ∙ sym k.source_blank)
        at v i j false f =
            let m = as_many in
            let ne = eqb-false v n.head.source f in
            own_at n.head both e v (omega arith) ne ∙ of_post v j (omega arith) ne

    by_form : (f : Form) → n.head.form ≡ f → own_of n.head (ratios_of (over f (λ o. o.p) p) (over f (λ o. o.q) q)) ≡ n.own
    by_form First e = own_first n.head (ratios_of p q) e ∙ sym (k.first_none e)
    by_form Second e = second e

-- where the segments ss begin with those of the net that was read, and the ratios are what reading leaves in p and q
pub says_laid : (bytes p q : List ℕ) (room : ℕ) (ss : List Segment) (g : Got Net) → net_read bytes room (length (ratios_of p q)) 0 ≡ g
    → ((n : Net) (next : ℕ) → g ≡ got n next → take (length n.segments) ss ≡ n.segments)
    → says_by (read_answer g) (ratios_of (ratios_read (λ o. o.p) g p) (ratios_read (λ o. o.q) g q)) ss ≡ said_of g
says_laid bytes p q room ss (got n next) e begin =
    let s = sound_of_read bytes room (length (ratios_of p q)) n next e in
    rw (own_laid n p q s.kept s.ratios_enough, begin n next refl)
says_laid bytes p q room ss (refused r) e begin = refl

fronts : (ss : List Segment) (a b l : List ℕ) → segments_of (map (λ s. s.a) ss ++ a) (map (λ s. s.b) ss ++ b) (map (λ s. s.length) ss ++ l) ≡ ss ++ segments_of a b l
fronts [] a b l = refl
fronts (s ∷ ss) a b l = ap (λ (t : List Segment). s ∷ t) (fronts ss a b l)

pub says_read : {bytes p q a b l : List ℕ} {r : Result Counted Refusal} {u v x y z : List ℕ} → ReadsLists bytes p q a b l r u v x y z
    → says_by r (ratios_of u v) (segments_of x y z) ≡ said_of (read_into bytes p q a b l)
says_read {bytes} {p} {q} {a} {b} {l} i =
    rw (i.answers, i.p_is, i.q_is, i.a_is, i.b_is, i.lengths_are) (says_laid bytes p q (length (segments_of a b l)) _ (read_into bytes p q a b l) refl (begins (read_into bytes p q a b l)))
  where
    begins : (g : Got Net) (n : Net) (next : ℕ) → g ≡ got n next
        → take (length n.segments) (segments_of (list_read (λ s. s.a) g a) (list_read (λ s. s.b) g b) (list_read (λ s. s.length) g l)) ≡ n.segments
    begins g n next e = rw (e, fronts) (take-append_seam n.segments (segments_of (drop (length n.segments) a) (drop (length n.segments) b) (drop (length n.segments) l)))

-- a net that was read is written again as the bytes that were read, where as many ratios are lent as it has posts and the room is long enough
pub read_writes : (bytes : List ℕ) (lent ratioRoom : ℕ) (n : Net) (next k : ℕ) (room : List ℕ) → Bytes bytes → net_read bytes lent ratioRoom 0 ≡ got n next → n.head.posts ≤ k
    → length bytes ≤ length room
    → (write_answer_of n (length n.segments) k (length room) ≡ Ok (length bytes)) × (the_room_after n (length n.segments) k room ≡ onto bytes room)
read_writes bytes lent ratioRoom n next k room all e enough long =
    let v = written_of_read bytes lent ratioRoom n next all e in
    let d = v.written_is in
    let q = sound_writes n (length n.segments) k room v.good.sound enough (rw d long) in
    (q.0 ∙ rw d, q.1 ∙ rw d)
