-- `Lists::net` meets its contract: the fronts of the three lists are the segments of the list. Assumes nothing.
use borrow.Author.Rules.{rules}
use Rattle.on_segments.proofs.Taking.{few, front_ready, front_net}
use Rattle.on_segments.proofs.Lists.net.Goals as goal

pub shared_ref_as_front-segments : goal.shared_ref_as_front-segments
shared_ref_as_front-segments c = few c.requires

pub slice_bounds-segments-end : goal.slice_bounds-segments-end
slice_bounds-segments-end c = let m = few c.requires in search rules

pub slice_bounds-segments-end-2 : goal.slice_bounds-segments-end-2
slice_bounds-segments-end-2 c = let m = few c.requires in search rules

pub slice_bounds-segments-end-3 : goal.slice_bounds-segments-end-3
slice_bounds-segments-end-3 c = let m = few c.requires in search rules

pub invariant_of-result : goal.invariant_of-result
invariant_of-result c = record { sound = front_ready c.requires (record { a_places = search rules; b_places = search rules; lengths_places = search rules }) }

pub returns-clause-net : goal.returns-clause-net
returns-clause-net c = front_net c.requires
