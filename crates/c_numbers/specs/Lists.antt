-- What the functions for C put into a lent list: a list that is lent for some numbers takes as many of them as it has
-- entries, and its entries beyond them stay as they were. And the twelve numbers of a plan. Relies on the structs of
-- `net`.
use Rattle.std.specs.Prelude.{List, [], ◌∷◌, ◌++◌, ℕ, length, take, drop}
use Rattle.net.specs.declared.Plan.{Plan}

-- some numbers at the front of a list, as far as it goes
unfoldable pub front : {X : Type 0} → List X → List X → List X
front v l = take (length l) v ++ drop (length v) l

-- PLAN: "posts, segments, source, ratio", then "length and radius of each tree and the count of laid paths"
abbrev pub twelve : Plan → List ℕ
twelve plan =
    plan.head.posts ∷ plan.count ∷ plan.head.source ∷ plan.head.p ∷ plan.head.q ∷
    plan.built.lightest.length ∷ plan.built.lightest.radius ∷
    plan.built.shortest.length ∷ plan.built.shortest.radius ∷
    plan.built.between.length ∷ plan.built.between.radius ∷ plan.built.laid ∷ []
