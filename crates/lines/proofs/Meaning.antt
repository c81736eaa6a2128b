-- What the text means: the entries are those of all posts but the source, in rising order, and what stands behind them is not printed;
-- what the two exported functions answer and leave is determined, and the bytes in front of the answer are the text.
use mathlib.Core.Path.{◌≡◌, refl, sym, ap, ◌∙◌}
use mathlib.Core.List.{List, [], ◌∷◌, ◌++◌, append-nil, append_assoc}
use Prim.Native.Nat.{ℕ, zero, suc, ◌≤◌, ◌<◌}
use native.Mathlib.Decide.{dec_lt}
use native.Mathlib.Omega.{arith}
use lib.ListN.{length, get_or, take, drop, length-append, get_or-append, drop_of_length-le}
use lib.Seq.{take_all, take_at, take-suc, take-append-le, drop-append-le, length-take-le}
use lib.Dec.{eqb}
use mathlib.Core.Bool.{Bool, true, false}
use borrow.Author.Tests.{eqb-true, eqb-false}
use Rattle.net.specs.Building.{BuildAnswer, built, refused}
use Rattle.net.specs.declared.Head.{Head}
use Rattle.lines.specs.Text.{spaced, mst, spt, last, entry_text, entries_text, tree_line, refused_line, program_text}
use Rattle.lines.specs.Reading.{others, spaced_all}
use Rattle.lines.specs.Putting.{Put}
use Rattle.lines.proofs.Placing.{put_unique}
use Rattle.lines.proofs.Entries.{source_text, other_text}

-- ALL BUT ONE of a list that gets one more
others_before : (s : ℕ) (l : List ℕ) → length l ≤ s → others s l ≡ l
unfolding others
others_before s l h = let k : length l ≤ suc s = omega arith in rw (take_all s l h, drop_of_length-le l k) (append-nil l)

others_behind : (s : ℕ) (l : List ℕ) (x : ℕ) → s < length l → others s (l ++ (x ∷ [])) ≡ others s l ++ (x ∷ [])
unfolding others
others_behind s l x h =
    let k : s ≤ length l = omega arith in
    rw (take-append-le s l (x ∷ []) k, drop-append-le (suc s) l (x ∷ []) h) (sym (append_assoc (take s l) (drop (suc s) l) (x ∷ [])))

others_more : (s : ℕ) (l : List ℕ) (x : ℕ) → (length l ≡ s → ⊥) → others s (l ++ (x ∷ [])) ≡ others s l ++ (x ∷ [])
others_more s l x h =
    elim (dec_lt s (length l)) [
      | yes k ↦ others_behind s l x k
      | no k ↦ others_before s (l ++ (x ∷ [])) (simp length-append (omega arith)) ∙ sym (ap (λ m. m ++ (x ∷ [])) (others_before s l (omega arith)))
    ]

others_here : (s : ℕ) (l : List ℕ) (x : ℕ) → length l ≡ s → others s (l ++ (x ∷ [])) ≡ l
unfolding others
others_here s l x h =
    let k : length (l ++ (x ∷ [])) ≤ suc s = simp length-append (omega arith) in
    rw (take_at l (x ∷ []) s h, drop_of_length-le (l ++ (x ∷ [])) k) (append-nil l)

others_same : (s : ℕ) (l : List ℕ) (x : ℕ) → length l ≡ s → others s (l ++ (x ∷ [])) ≡ others s l
others_same s l x h = others_here s l x h ∙ sym (others_before s l (omega arith))

spaced_more : (l : List ℕ) (x : ℕ) → spaced_all (l ++ (x ∷ [])) ≡ spaced_all l ++ spaced x
unfolding spaced_all
spaced_more [] x = append-nil (spaced x)
spaced_more (n ∷ l) x = rw (spaced_more l x) (sym (append_assoc (spaced n) (spaced_all l) (spaced x)))

spaced_none : spaced_all [] ≡ []
unfolding spaced_all
spaced_none = refl

-- THE ENTRIES of all posts but the source, in rising order
one_entry : (source n x : ℕ) (l : List ℕ) → length l ≡ n → spaced_all (others source l) ++ entry_text source n x ≡ spaced_all (others source (l ++ (x ∷ [])))
one_entry source n x l e = go (eqb n source) refl
  where
    go : (b : Bool) → eqb n source ≡ b → spaced_all (others source l) ++ entry_text source n x ≡ spaced_all (others source (l ++ (x ∷ [])))
    go true k =
        let i : n ≡ source = eqb-true n source k in
        rw (source_text source n x i, others_same source l x (e ∙ i)) (append-nil (spaced_all (others source l)))
    go false k =
        let i = eqb-false n source k in
        rw (other_text source n x i, others_more source l x (λ z. i (sym e ∙ z))) (sym (spaced_more (others source l) x))

entries_of : (source : ℕ) (l : List ℕ) (n : ℕ) → n ≤ length l → entries_text source l n ≡ spaced_all (others source (take n l))
unfolding entries_text
entries_of source l zero h = sym (ap spaced_all (others_before source [] (omega arith)) ∙ spaced_none)
entries_of source l (suc n) h =
    rw (take-suc l n 0 h, entries_of source l n (omega arith)) (one_entry source n (get_or l n 0) (take n l) (length-take-le n l (omega arith)))

pub entries_others : (source : ℕ) (l : List ℕ) → entries_text source l (length l) ≡ spaced_all (others source l)
entries_others source l = entries_of source l (length l) (omega arith) ∙ ap (λ m. spaced_all (others source m)) (take_all (length l) l (omega arith))

-- WHAT STANDS BEHIND them is not printed
pub entries_front : (source : ℕ) (l r : List ℕ) (n : ℕ) → n ≤ length l → entries_text source (l ++ r) n ≡ entries_text source l n
unfolding entries_text
entries_front source l r zero h = refl
entries_front source l r (suc v) h = rw (entries_front source l r v (omega arith), get_or-append l r 0 v h)

pub tree_front : (name : List ℕ) (long wide posts source : ℕ) (l r : List ℕ) → posts ≤ length l →
    tree_line name long wide posts source (l ++ r) ≡ tree_line name long wide posts source l
unfolding tree_line
tree_front name long wide posts source l r h = rw (entries_front source l r posts h)

pub text_front : (head : Head) (segments : ℕ) (a : BuildAnswer) (x y z u v w : List ℕ) → head.posts ≤ length x → head.posts ≤ length y → head.posts ≤ length z →
    program_text head segments a (x ++ u) (y ++ v) (z ++ w) ≡ program_text head segments a x y z
unfolding program_text
text_front head segments (built l s b laid) x y z u v w hx hy hz =
    rw (
      tree_front mst l.length l.radius head.posts head.source x u hx,
      tree_front spt s.length s.radius head.posts head.source y v hy,
      tree_front last b.length b.radius head.posts head.source z w hz,
    )
text_front head segments (refused r) x y z u v w hx hy hz = refl

-- two outcomes that `put_built` allows are equal
pub built_unique : (head : Head) (segments : ℕ) (a : BuildAnswer) (lightest shortest between : List ℕ) {l x y : List ℕ} {r z : ℕ} →
    Put (program_text head segments a lightest shortest between) 0 l x r → Put (program_text head segments a lightest shortest between) 0 l y z → (r ≡ z) × (x ≡ y)
built_unique head segments a lightest shortest between p q = put_unique p q

-- two outcomes that `put_refused` allows are equal
pub refused_unique : (number place : ℕ) {l x y : List ℕ} {r z : ℕ} → Put (refused_line number place) 0 l x r → Put (refused_line number place) 0 l y z → (r ≡ z) × (x ≡ y)
refused_unique number place p q = put_unique p q
