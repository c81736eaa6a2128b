-- `hanging::largest_of` meets its contract: the library's largest of the list (`largest_is`).
use mathlib.Core.Path.{ap, ◌∙◌}
use Rattle.std.specs.Option.{unwrap_or}
use Rattle.std.specs.declared.option.Option.{Option}
use Prim.Native.Nat.{ℕ}
use Rattle.std.proofs.lemmas.Iterator.Adapters.{option_map_id}
use Rattle.std.proofs.lemmas.Iterator.{YieldsList-from_slice}
use Rattle.std.proofs.lemmas.Iterator.Consumers.{YieldsList-from_copied, YieldsList-at, max_from_yields_List}
use Rattle.hanging.proofs.Measures.{largest_is}
use Rattle.hanging.proofs.largest_of.Goals as goal

pub returns : goal.returns
returns c =
    let h = max_from_yields_List c.copied.result c.max.result c.max.ensures.ran (YieldsList-from_copied (YieldsList-at c.copied.ensures.source (YieldsList-from_slice c.args.list.now cc))) in
    let k = rw option_map_id at h in
    c.unwrap_or.ensures ∙ ap (λ (r : Option ℕ). unwrap_or r 0) k ∙ largest_is c.args.list.now
