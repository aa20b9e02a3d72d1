use Rattle.name_maps.proofs.Maps.{listing_begin, listing_few, listing_long, listing_done, listing_fault, listing_again}
use borrow.Author.Rules.{rules}
use Rattle.name_maps.proofs.map.put_list.Goals as goal

pub loop-init : goal.loop-init
loop-init c = search (listing_begin, rules)

pub put_next-x-requires : goal.put_next-x-requires
put_next-x-requires c = search listing_few

pub loop-preserved : goal.loop-preserved
loop-preserved c = search (listing_again, rules)

pub shape_of-out-in-Err : goal.shape_of-out-in-Err
shape_of-out-in-Err c = search listing_long

pub returns-in-Err : goal.returns-in-Err
returns-in-Err c = search (listing_fault, rules)

pub shape_of-out : goal.shape_of-out
shape_of-out c = search listing_long

pub returns : goal.returns
returns c = search (listing_done, rules)
