-- Laws of the index (specs/Rows), and of relaxing along a row. Rests on `hanging`'s `Lists`.
use mathlib.Core.Path.{◌≡◌, refl, sym, ap, ◌∙◌}
use mathlib.Core.Bool.{Bool, true}
use mathlib.Core.List.{List}
use mathlib.Core.Logic.{◌⊎◌, inl, inr, ⊎_elim}
use Prim.Native.Nat.{ℕ, ◌+◌, ◌-◌, ◌*◌, ◌/◌, ◌<◌, ◌≤◌}
use native.Mathlib.Nat.{le_trans, le_of_eq, not-suc-le-zero}
use native.Mathlib.Omega.{arith}
use native.Mathlib.Numerals.{add-one}
use lib.ListN.{length, set}
use borrow.Author.Tests.{lt-ltb, le-ltb}
use Rattle.hanging.specs.Lists.{flag, note, Filled}
use Rattle.shortest.specs.Notes.{Joins, Offered, Relaxed}
use Rattle.shortest.specs.Rows.{On, Index, Rows, push_of, rows_of}
use Rattle.hanging.proofs.Lists.{same?, below?, last?, stored}

-- code c was put before the row of x, if x is a post
pub record Pushed (posts x c : ℕ) (head next head' next' : List ℕ) : Type 0 where
  pub top : x < posts → note head' x ≡ c
  pub tops : (v : ℕ) → v < posts → (v ≡ x → ⊥) → note head' v ≡ note head v
  pub link : x < posts → note next' c ≡ note head x
  pub no_link : posts ≤ x → note next' c ≡ 0
  pub links : (k : ℕ) → (k ≡ c → ⊥) → note next' k ≡ note next k

-- the stores of a push
pushed : {posts x c : ℕ} (h n : List ℕ) → x < posts → x < length h → c < length n → Pushed posts x c h n (set h x c) (set n c (note h x))
pushed {posts} {x} {c} h n l i j =
    record {
      top = λ _. ⊎_elim (λ p. p.1) (λ p. absurd (p.0 refl)) (stored h x x c 0 i);
      tops = λ v k ne. ⊎_elim (λ p. absurd (ne p.0)) (λ p. p.1) (stored h x v c 0 i);
      link = λ _. ⊎_elim (λ p. p.1) (λ p. absurd (p.0 refl)) (stored n c c (note h x) 0 j);
      no_link = λ k. absurd (omega arith);
      links = λ k ne. ⊎_elim (λ p. absurd (ne p.0)) (λ p. p.1) (stored n c k (note h x) 0 j);
    }

-- the store where x is no post
pushed_not : {posts x c : ℕ} {h : List ℕ} (n : List ℕ) → posts ≤ x → c < length n → Pushed posts x c h n h (set n c 0)
pushed_not {posts} {x} {c} n l j =
    record {
      top = λ k. absurd (omega arith);
      tops = λ v k ne. refl;
      link = λ k. absurd (omega arith);
      no_link = λ _. ⊎_elim (λ p. p.1) (λ p. absurd (p.0 refl)) (stored n c c 0 0 j);
      links = λ k ne. ⊎_elim (λ p. absurd (ne p.0)) (λ p. p.1) (stored n c k 0 0 j);
    }

-- they are those of `push_of`
pub push_post : (posts x c : ℕ) (r : Rows) → x < posts → (set r.0 x c, set r.1 c (note r.0 x)) ≡ push_of posts x c r
unfolding push_of
push_post posts x c r h = rw (lt-ltb x posts h)

pub push_none : (posts x c : ℕ) (r : Rows) → posts ≤ x → (r.0, set r.1 c 0) ≡ push_of posts x c r
unfolding push_of
push_none posts x c r h = rw (le-ltb x posts h)

push_pushed : {posts x c : ℕ} {h n h' n' : List ℕ} → posts ≤ length h → c < length n → (h', n') ≡ push_of posts x c (h, n) → Pushed posts x c h n h' n'
push_pushed {posts} {x} {c} {h} {n} i j e = ⊎_elim
    (λ l. let s = e ∙ sym (push_post posts x c (h, n) l) in rw (ap (λ r. r.0) s, ap (λ r. r.1) s) (pushed h n l (omega arith) j))
    (λ l. let s = e ∙ sym (push_none posts x c (h, n) l) in rw (ap (λ r. r.0) s, ap (λ r. r.1) s) (pushed_not n l j))
    (below? x posts)

-- one segment more
rows_more : (posts : ℕ) (a b : List ℕ) (i : ℕ) (r : Rows) → push_of posts (note b i) (2 * i + 2) (push_of posts (note a i) (2 * i + 1) (rows_of posts a b i r)) ≡ rows_of posts a b (i + 1) r
unfolding rows_of
rows_more posts a b i r = rw (add-one i)

pub on_pos : {next : ℕ → ℕ} {k c : ℕ} → On next k c → 0 < c
on_pos (On.first h) = h
on_pos (On.later h o) = h

pub split : {next : ℕ → ℕ} {k c : ℕ} → On next k c → (k ≡ c) ⊎ On next k (next c)
split (On.first h) = inl refl
split (On.later h o) = inr o

module _ {a b : ℕ → ℕ} {posts t na nb x : ℕ} {h₁ n₁ h₂ n₂ : List ℕ} (I : Index a b posts t na nb (note h₁) (note n₁)) (p : Pushed posts x (t + 1) h₁ n₁ h₂ n₂) where
  -- a row that lies below the new code stays
  stays : {k s : ℕ} → On (note n₁) k s → s ≤ t → On (note n₂) k s
  stays (On.first h) l = On.first h
  stays (On.later {c = s} h o) l = On.later h (rw (p.links s (λ e. omega arith)) (stays o (omega (arith, I.falls s h l))))

  lifted : {k v : ℕ} → v < posts → On (note n₁) k (note h₁ v) → On (note n₂) k (note h₂ v)
  lifted {k} {v} h o = ⊎_elim (λ e. onto e) (λ ne. rw (p.tops v h ne) (stays o (I.tops v h))) (same? v x)
    where
      onto : v ≡ x → On (note n₂) k (note h₂ v)
      onto e =
          let hx : x < posts = rw e at h in
          rw (e, p.top hx) (On.later {c = t + 1} (omega arith) (rw (p.link hx, ← e) (stays o (I.tops v h))))

  tops' : (u : ℕ) → u < posts → note h₂ u ≤ t + 1
  tops' u h = ⊎_elim (λ e. le_of_eq (ap (note h₂) e ∙ p.top (rw e at h))) (λ ne. omega (arith, I.tops u h, p.tops u h ne)) (same? u x)

  link_low : note n₂ (t + 1) ≤ t
  link_low = ⊎_elim (λ h. omega (arith, p.link h, I.tops x h)) (λ h. omega (arith, p.no_link h)) (below? x posts)

  falls' : (c : ℕ) → 0 < c → c ≤ t + 1 → note n₂ c < c
  falls' c h l = ⊎_elim (λ e. omega (arith, ap (note n₂) e, link_low)) (λ ne. omega (arith, p.links c ne, I.falls c h (omega arith))) (same? c (t + 1))

  new_top : x < posts → On (note n₂) (t + 1) (note h₂ x)
  new_top h = rw (p.top h) (On.first (omega arith))

module _ {a b : ℕ → ℕ} {posts n : ℕ} {h₁ n₁ : List ℕ} where
  -- the first end of segment n
  pub index_a : {h₂ n₂ : List ℕ} → Index a b posts (2 * n) n n (note h₁) (note n₁) → Pushed posts (a n) (2 * n + 1) h₁ n₁ h₂ n₂ → Index a b posts (2 * n + 1) (n + 1) n (note h₂) (note n₂)
  index_a I p =
      record {
        tops = tops' I p;
        falls = falls' I p;
        on_a = λ i l h. ⊎_elim (λ e. rw e (new_top I p (rw e at h))) (λ l'. lifted I p h (I.on_a i l' h)) (last? i n l);
        on_b = λ i l h. lifted I p h (I.on_b i l h);
      }

  -- and the second
  pub index_b : {h₂ n₂ : List ℕ} → Index a b posts (2 * n + 1) (n + 1) n (note h₁) (note n₁) → Pushed posts (b n) (2 * n + 2) h₁ n₁ h₂ n₂ → Index a b posts (2 * (n + 1)) (n + 1) (n + 1) (note h₂) (note n₂)
  index_b {h₂} {n₂} I q =
      let e : 2 * n + 2 ≡ 2 * n + 1 + 1 = omega arith in
      let p : Pushed posts (b n) (2 * n + 1 + 1) h₁ n₁ h₂ n₂ = rw e at q in
      let top : b n < posts → On (note n₂) (2 * n + 2) (note h₂ (b n)) = λ h. rw e (new_top I p h) in
      let f : 2 * (n + 1) ≡ 2 * n + 1 + 1 = omega arith in
      record {
        tops = rw f (tops' I p);
        falls = rw f (falls' I p);
        on_a = λ i l h. lifted I p h (I.on_a i l h);
        on_b = λ i l h. ⊎_elim (λ g. rw g (top (rw g at h))) (λ l'. lifted I p h (I.on_b i l' h)) (last? i n l);
      }

pub index_none : {a b : ℕ → ℕ} {posts : ℕ} {head next : ℕ → ℕ} → ((u : ℕ) → u < posts → head u ≡ 0) → Index a b posts (2 * 0) 0 0 head next
index_none z = record { tops = λ u h. le_of_eq (z u h); falls = λ c h l. absurd (omega arith); on_a = λ i l. absurd (not-suc-le-zero l); on_b = λ i l. absurd (not-suc-le-zero l) }

-- the index of the first i segments, at the head of its loop; h₀ and n₀ are the lists where the loop begins
pub record Indexing (posts : ℕ) (a b h₀ n₀ h n : List ℕ) (i : ℕ) : Type 0 where
  pub up_to : i ≤ length a
  pub few_posts : posts ≤ length h₀
  pub few_codes : 2 * length a < length n₀
  pub heads : length h ≡ length h₀
  pub nexts : length n ≡ length n₀
  pub index : Index (note a) (note b) posts (2 * i) i i (note h) (note n)
  pub rows : (h, n) ≡ rows_of posts a b i (h₀, n₀)

pub indexing_none : {posts : ℕ} {a b h n : List ℕ} {l : ℕ → ℕ} → posts ≤ length h → 2 * length a < length n → Filled posts 0 l (note h) → Indexing posts a b h n h n 0
unfolding rows_of
indexing_none few codes f =
    record { up_to = omega arith; few_posts = few; few_codes = codes; heads = refl; nexts = refl; index = index_none f.gone; rows = refl }

pub indexing_more : {posts : ℕ} {a b h₀ n₀ h n h' n' h'' n'' : List ℕ} {i x y : ℕ} → Indexing posts a b h₀ n₀ h n i → i < length a
    → x ≡ note a i → (h', n') ≡ push_of posts x (2 * i + 1) (h, n) → length h' ≡ length h → length n' ≡ length n
    → y ≡ note b i → (h'', n'') ≡ push_of posts y (2 * i + 2) (h', n') → length h'' ≡ length h' → length n'' ≡ length n' → Indexing posts a b h₀ n₀ h'' n'' (i + 1)
indexing_more {posts} {a} {b} {h₀} {n₀} {h} {n} {h'} {n'} {h''} {n''} {i} r less ex p eh en ey q eh' en' =
    let fh = r.few_posts in
    let fn = r.few_codes in
    let gh = r.heads in
    let gn = r.nexts in
    let first : (h', n') ≡ push_of posts (note a i) (2 * i + 1) (h, n) = rw ex at p in
    let second : (h'', n'') ≡ push_of posts (note b i) (2 * i + 2) (h', n') = rw ey at q in
    record {
      up_to = omega arith;
      few_posts = fh;
      few_codes = fn;
      heads = eh' ∙ eh ∙ gh;
      nexts = en' ∙ en ∙ gn;
      index = index_b (index_a r.index (push_pushed (omega arith) (omega arith) first)) (push_pushed (omega arith) (omega arith) second);
      rows = second ∙ ap (push_of posts (note b i) (2 * i + 2)) (first ∙ ap (push_of posts (note a i) (2 * i + 1)) r.rows) ∙ rows_more posts a b i (h₀, n₀);
    }

-- relaxing along u's row, at code c: what is not offered yet is still on it
pub record Walking (a b weights : List ℕ) (present : List Bool) (next : List ℕ) (u du c : ℕ) (l₀ l : List ℕ) : Type 0 where
  pub low : c ≤ 2 * length a
  pub same : length l ≡ length l₀
  pub falls : (v : ℕ) → note l v ≤ note l₀ v
  pub most : (i v : ℕ) → i < length a → flag present i ≡ true → Joins (note a i) (note b i) u v → (note l v ≤ du + note weights i) ⊎ ((k : ℕ) × On (note next) k c × ((k - 1) / 2 ≡ i))
  pub from : (v : ℕ) → (note l v ≡ note l₀ v) ⊎ ((i : ℕ) × (i < length a) × (flag present i ≡ true) × Joins (note a i) (note b i) u v × (note l v ≡ du + note weights i))

-- every segment that leads from u is on u's row
pub joins_on : {a b : ℕ → ℕ} {posts t n u : ℕ} {head next : ℕ → ℕ} → u < posts → Index a b posts t n n head next
    → (i v : ℕ) → i < n → Joins (a i) (b i) u v → (k : ℕ) × On next k (head u) × ((k - 1) / 2 ≡ i)
joins_on hu I i v h (Joins.forth f g) = (2 * i + 1, rw (← f) (I.on_a i h (rw f hu)), omega arith)
joins_on hu I i v h (Joins.back f g) = (2 * i + 2, rw (← f) (I.on_b i h (rw f hu)), omega arith)

module _ {a b weights : List ℕ} {present : List Bool} {next : List ℕ} {u du : ℕ} where
  -- the segment at c is present, and was offered
  pub walking_more : {c c' i x y o : ℕ} {l₀ l l' : List ℕ} → Walking a b weights present next u du c l₀ l → (c - 1) / 2 ≡ i → i < length a → flag present i ≡ true
      → x ≡ note a i → y ≡ note b i → o ≡ du + note weights i → Offered u x y o (note l) (note l') → length l' ≡ length l → c' ≡ note next c → c' < c → Walking a b weights present next u du c' l₀ l'
  walking_more {c} {c'} {i} {x} {y} {o} {l₀} {l} {l'} W ei h p ex ey eo f k ec less =
      record {
        low = omega (arith, W.low);
        same = k ∙ W.same;
        falls = λ v. le_trans (f.falls v) (W.falls v);
        most = λ j v b q e. ⊎_elim (λ m. inl (le_trans (f.falls v) m)) (λ t. ⊎_elim (λ z. inl (now_offered j v e (sym t.2 ∙ ap (λ g. (g - 1) / 2) z ∙ ei))) (λ on. inr (t.0, rw ec on, t.2)) (split t.1)) (W.most j v b q e);
        from = λ v. ⊎_elim (λ e. ⊎_elim (λ g. inl (e ∙ g)) (λ t. inr (t.0, t.1, t.2, t.3, e ∙ t.4)) (W.from v)) (λ t. inr (i, h, p, rw (← ex, ← ey) t.0, t.1 ∙ eo)) (f.from v);
      }
    where
      now_offered : (j v : ℕ) → Joins (note a j) (note b j) u v → j ≡ i → note l' v ≤ du + note weights j
      now_offered j v e z = rw z (rw (← eo) (f.most v (rw (ex, ey) (rw z at e))))

  -- it is not present
  pub walking_skip : {c c' i : ℕ} {l₀ l : List ℕ} → Walking a b weights present next u du c l₀ l → (c - 1) / 2 ≡ i → (flag present i ≡ true → ⊥) → c' ≡ note next c → c' < c → Walking a b weights present next u du c' l₀ l
  walking_skip {c} {c'} {i} W ei n ec less =
      record {
        low = omega (arith, W.low);
        same = W.same;
        falls = W.falls;
        most = λ j v b q e. ⊎_elim inl (λ t. ⊎_elim (λ z. let g : j ≡ i = sym t.2 ∙ ap (λ y. (y - 1) / 2) z ∙ ei in absurd (n (rw g at q))) (λ on. inr (t.0, rw ec on, t.2)) (split t.1)) (W.most j v b q e);
        from = W.from;
      }

  -- at the row's end
  pub walked : {l₀ l : List ℕ} → Walking a b weights present next u du 0 l₀ l → Relaxed a b weights present u du (note l₀) (note l)
  walked W = record { falls = W.falls; most = λ j v b q e. ⊎_elim (λ m. m) (λ t. absurd (omega (arith, on_pos t.1))) (W.most j v b q e); from = W.from }
