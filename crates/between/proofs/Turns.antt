-- The loop over the children of a post: its invariant (`Along`), where it begins (`along_start`), one turn of it, which is one leg (`along_turn`),
-- and where it ends (`along_end`). Relies on Legs and Trying; the proof of `walk_from` cites it.
use mathlib.Core.Path.{◌≡◌, sym, ap, ◌∙◌}
use mathlib.Core.Bool.{true, false, cond}
use mathlib.Core.List.{List}
use Prim.Native.Nat.{ℕ, suc, ◌+◌, ◌-◌, ◌≤◌, ◌<◌}
use native.Mathlib.Omega.{arith}
use lib.Dec.{eqb}
use lib.ListN.{length, get_or}
use borrow.Author.Tests.{eq-eqb, ne_eqb}
use Rattle.net.specs.Words.{no_segment}
use Rattle.net.specs.Net.{length_at, other}
use Rattle.net.specs.Trees.{entry}
use Rattle.net.specs.Walk.{Notes, Given, try, enter, child, walk}
use Rattle.net.proofs.Steps.{try_laid}
use Rattle.between.specs.Given.{notes_of, Shows}
use Rattle.between.specs.Laying.{Layable}
use Rattle.between.specs.Children.{Next, found, nothing}
use Rattle.between.specs.Asked.{Shown, Turned}
use Rattle.between.proofs.Trying.{layable_try, layable_enter, layable_walk}
use Rattle.between.proofs.Legs.{legs, leg, walk_legs, walk_none, shows_self, shows_try, shows_walk, shows_legs, walk_count, legs_count, legs_gap, legs_child, legs_grow}

-- ONE TURN. The next child w of v and its segment i
pub record Step (g : Given) (n v j i w : ℕ) : Type 0 where
  pub from : j ≤ i
  pub is_segment : i < length g.segments
  pub is_child : child g v i ≡ true
  pub leads : other g.segments i v ≡ w
  pub is_post : w < n
  pub none_between : (x : ℕ) → j ≤ x → x < i → child g v x ≡ false

pub step_of : {g : Given} {n v j c : ℕ} → Next g n v j c → (c ≡ no_segment → ⊥) → (i w : ℕ) → w ≡ c → i ≡ entry g.walked w → Step g n v j i w
step_of {g} {n} {v} {j} {c} (found f) ne i w ew ei =
    let e : i ≡ entry g.walked c = ei ∙ ap (entry g.walked) ew in
    record {
      from = omega (arith, e, f.from);
      is_segment = omega (arith, e, f.is_segment);
      is_child = rw e f.is_child;
      leads = rw (e, ew) f.leads;
      is_post = rw ew f.is_post;
      none_between = λ x a b. f.none_between x a (omega (arith, e));
    }
step_of (nothing e f) ne i w ew ei = absurd (ne e)

pub next_end : {g : Given} {n v j c : ℕ} → n ≤ no_segment → Next g n v j c → c ≡ no_segment → (x : ℕ) → j ≤ x → x < length g.segments → child g v x ≡ false
next_end h (found f) e = absurd (omega (arith, f.is_post))
next_end h (nothing _ f) e = f

module _ (g : Given) (k v : ℕ) (n₀ : Notes) {n j i w : ℕ} (st : Step g n v j i w) {d e : List ℕ} {r : ℕ} (s : Shows (legs g k v j n₀) d e r) where
  leg_is : (n : Notes) → leg g k v i n ≡ try g w i v (walk g k w (try g v i w n))
  unfolding leg
  leg_is n = rw st.leads

  shows_here : Shows (legs g k v i n₀) d e r
  shows_here = rw (legs_gap g k v n₀ j i st.from st.none_between) s

  next_legs : legs g k v (suc i) n₀ ≡ try g w i v (walk g k w (try g v i w (legs g k v i n₀)))
  next_legs = legs_child g k v n₀ i st.is_child ∙ leg_is (legs g k v i n₀)

  module _ (d₁ e₁ : List ℕ) (t₁ : notes_of d₁ e₁ ≡ try g v i w (notes_of d e)) where
    tried : Shows (try g v i w (legs g k v i n₀)) d₁ e₁ r
    tried = shows_try g shows_here v i w d₁ e₁ t₁

    -- the paths laid below w are counted with the others
    turn_count : r + length (walk g k w (notes_of d₁ e₁)).laid ≤ length (legs g k v (length g.segments) n₀).laid
    turn_count =
        omega (
          arith,
          ap (λ (m : Notes). length m.laid) next_legs,
          ap length (try_laid g w i v (walk g k w (try g v i w (legs g k v i n₀)))),
          walk_count g tried k w,
          legs_grow g k v n₀ (suc i) (length g.segments) st.is_segment,
        )

    turn_shows : (d₂ e₂ d₃ e₃ : List ℕ) (x : ℕ) → Shows (walk g k w (notes_of d₁ e₁)) d₂ e₂ x → notes_of d₃ e₃ ≡ try g w i v (notes_of d₂ e₂) → Shows (legs g k v (suc i) n₀) d₃ e₃ (r + x)
    turn_shows d₂ e₂ d₃ e₃ x sw t₃ = rw next_legs (shows_try g (shows_walk g tried k w d₂ e₂ x sw) w i v d₃ e₃ t₃)

-- THE LOOP. What its turns rest on: d₀ and e₀ are the notes behind the entering of v, and laid₀ the paths laid there
pub record Looping (g : Given) (k v : ℕ) (walked first after limits lengths shortest up dist d₀ e₀ : List ℕ) (laid₀ : ℕ) : Type 0 where
  pub shown : Shown g walked first after limits lengths shortest up dist
  pub is_post : v < g.posts
  pub layable : Layable shortest up dist d₀
  pub countable : laid₀ + length (legs g k v (length g.segments) (notes_of d₀ e₀)).laid < 4294967296

-- the notes are those of the legs below some j, and c is the next child from there on
pub record Along (g : Given) (n k v : ℕ) (shortest up dist d₀ e₀ : List ℕ) (laid₀ c : ℕ) (d e : List ℕ) (laid : ℕ) : Type 0 where
  pub j : ℕ
  pub r : ℕ
  pub within : j ≤ length g.segments
  pub next : Next g n v j c
  pub shows : Shows (legs g k v j (notes_of d₀ e₀)) d e r
  pub sum : laid ≡ laid₀ + r
  pub layable : Layable shortest up dist d

-- how far the loop has to go after c
abbrev pub ahead : (m : ℕ) → List ℕ → ℕ → ℕ
ahead m walked c = cond (eqb c no_segment) 0 (m - entry walked c)

module _ {g : Given} {left v : ℕ} {walked first after limits lengths shortest up dist d e : List ℕ} (w : Turned g left v walked first after limits lengths shortest up dist d e) where
  -- nothing is walked
  pub walk_end : left ≡ 0 → Shows (walk g left v (notes_of d e)) d e 0
  walk_end h = rw (h, walk_none g v (notes_of d e)) (shows_self (notes_of d e))

  module _ (ne : left ≡ 0 → ⊥) {d₀ e₀ : List ℕ} {laid₀ : ℕ} (en : Shows (enter g v (notes_of d e)) d₀ e₀ laid₀) where
    whole_walk : walk g left v (notes_of d e) ≡ legs g (left - 1) v (length g.segments) (enter g v (notes_of d e))
    whole_walk = let z : left ≡ suc (left - 1) = omega arith in ap (λ (k : ℕ). walk g k v (notes_of d e)) z ∙ walk_legs g (left - 1) v (notes_of d e)

    pub looping : Looping g (left - 1) v walked first after limits lengths shortest up dist d₀ e₀ laid₀
    looping =
        record {
          shown = w.shown;
          is_post = w.is_post;
          layable = layable_enter g (notes_of d e) w.layable v laid₀ d₀ e₀ en;
          countable = omega (arith, w.countable, ap (λ (m : Notes). length m.laid) whole_walk, legs_count g en (left - 1) v (length g.segments));
        }

    -- where the loop ends
    pub along_end : {c : ℕ} {d' e' : List ℕ} {laid : ℕ} → Along g (length first) (left - 1) v shortest up dist d₀ e₀ laid₀ c d' e' laid → c ≡ no_segment → Shows (walk g left v (notes_of d e)) d' e' laid
    along_end {c} {d'} {e'} {laid} al ec =
        let f = next_end (omega (arith, w.shown.few_links)) al.next ec in
        let s = rw (← legs_gap g (left - 1) v (notes_of d₀ e₀) al.j (length g.segments) al.within f) at al.shows in
        rw (whole_walk, al.sum) (shows_legs g en (left - 1) v (length g.segments) d' e' al.r s)

module _ {g : Given} {k v : ℕ} {walked first after limits lengths shortest up dist d₀ e₀ : List ℕ} {laid₀ : ℕ} (w : Looping g k v walked first after limits lengths shortest up dist d₀ e₀ laid₀) where
  -- where the loop begins
  pub along_start : (c : ℕ) → c ≡ entry first v → Along g (length first) k v shortest up dist d₀ e₀ laid₀ c d₀ e₀ laid₀
  along_start c ec =
      record {
        j = 0;
        r = 0;
        within = omega arith;
        next = rw ec (w.shown.links.firsts v (omega (arith, w.is_post, w.shown.room)));
        shows = shows_self (notes_of d₀ e₀);
        sum = omega arith;
        layable = w.layable;
      }

  -- a turn: x is the next child and i its segment, of the length read
  module _ {c : ℕ} {dᵢ eᵢ : List ℕ} {laid : ℕ} (al : Along g (length first) k v shortest up dist d₀ e₀ laid₀ c dᵢ eᵢ laid) (nc : c ≡ no_segment → ⊥) (x i : ℕ) (ex : x ≡ c) (ei : i ≡ entry walked x) where
    step : Step g (length first) v al.j i x
    step = step_of al.next nc i x ex (ei ∙ ap (λ (l : List ℕ). entry l x) (sym w.shown.walked_is))

    next_link : (c' : ℕ) → c' ≡ entry after x → Next g (length first) v (suc i) c'
    next_link c' ec = rw (ec, ← step.leads) (w.shown.links.afters v i (omega (arith, w.is_post, w.shown.room)) (omega arith) step.is_segment step.is_child)

    -- the loop comes nearer to its end
    pub ahead_less : (c' : ℕ) → c' ≡ entry after x → ahead (length lengths) walked c' < ahead (length lengths) walked c
    ahead_less c' ec = rw (ne_eqb c no_segment nc) (go (next_link c' ec))
      where
        here : entry walked c < length lengths
        here = let f = step.is_segment in omega (arith, w.shown.count, ei, ap (entry walked) ex)

        go : Next g (length first) v (suc i) c' → ahead (length lengths) walked c' < length lengths - entry walked c
        go (nothing e f) = rw (eq-eqb c' no_segment e) (omega (arith, here))
        go (found f) = rw (ne_eqb c' no_segment (λ z. omega (arith, f.is_post, w.shown.few_links))) (omega (arith, here, f.from, ei, ap (entry walked) ex, ap (λ (l : List ℕ). entry l c') w.shown.walked_is))

    module _ (j far : ℕ) (ej : j ≡ i) (ef : far ≡ get_or lengths j 0) (d₁ e₁ : List ℕ) (t : length_at g.segments i ≡ far → notes_of d₁ e₁ ≡ try g v i x (notes_of dᵢ eᵢ)) where
      lengths_read : length_at g.segments i ≡ far
      lengths_read = (w.shown.enters v w.is_post).direct.lengths_are i ∙ ap (λ (z : ℕ). get_or lengths z 0) (sym ej) ∙ sym ef

      turn_most : laid + length (walk g k x (notes_of d₁ e₁)).laid < 4294967296
      turn_most = omega (arith, al.sum, w.countable, turn_count g k v (notes_of d₀ e₀) step al.shows d₁ e₁ (t lengths_read))

      -- the child may be walked
      pub turn_asks : Turned g k x walked first after limits lengths shortest up dist d₁ e₁
      turn_asks =
          record {
            shown = w.shown;
            is_post = rw step.leads at (w.shown.inside v i step.is_segment step.is_child);
            layable = layable_try g (notes_of dᵢ eᵢ) al.layable v i x d₁ e₁ (t lengths_read);
            countable = let z = turn_most in omega arith;
          }

      module _ (d₂ e₂ : List ℕ) (r : ℕ) (sw : Shows (walk g k x (notes_of d₁ e₁)) d₂ e₂ r) where
        pub turn_fits : laid + r < 4294967296
        turn_fits = omega (arith, turn_most, sw.counted)

        -- THE NEXT TURN
        pub along_turn : (d₃ e₃ : List ℕ) → (length_at g.segments i ≡ far → notes_of d₃ e₃ ≡ try g x i v (notes_of d₂ e₂)) → (c' : ℕ) → c' ≡ entry after x
            → Along g (length first) k v shortest up dist d₀ e₀ laid₀ c' d₃ e₃ (laid + r)
        along_turn d₃ e₃ t₃ c' ec =
            let l₁ = layable_try g (notes_of dᵢ eᵢ) al.layable v i x d₁ e₁ (t lengths_read) in
            let l₂ = layable_walk g (notes_of d₁ e₁) l₁ k x r d₂ e₂ sw in
            record {
              j = suc i;
              r = al.r + r;
              within = step.is_segment;
              next = next_link c' ec;
              shows = turn_shows g k v (notes_of d₀ e₀) step al.shows d₁ e₁ (t lengths_read) d₂ e₂ d₃ e₃ r sw (t₃ lengths_read);
              sum = omega (arith, al.sum);
              layable = layable_try g (notes_of d₂ e₂) l₂ x i v d₃ e₃ (t₃ lengths_read);
            }
