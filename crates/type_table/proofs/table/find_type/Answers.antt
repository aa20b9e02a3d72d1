use borrow.Author.Rules.{rules}
use Prim.Native.Nat.{◌-◌}
use Rattle.type_table.proofs.Known.{known-begin, known_again, type-readable}
use Rattle.type_table.proofs.Lists.{in_step_less}
use Rattle.type_table.proofs.Indexed.{seek_begin, seek_inside, seek_few, seek_count, seek_entry, seek_less, seek_hash, seek_params, seek_results, seek_found, seek_none}
use Rattle.type_table.proofs.table.find_type.Goals as goal

pub types-init : goal.types-init
types-init c = search seek_begin

pub link_at-link-requires : goal.link_at-link-requires
link_at-link-requires c = search (seek_inside, rules)

pub returns-then-link-eq0 : goal.returns-then-link-eq0
returns-then-link-eq0 c = search seek_none

pub has_hash-requires : goal.has_hash-requires
has_hash-requires c = search (seek_few, rules)

pub types-smaller-then-not-has_hash : goal.types-smaller-then-not-has_hash
types-smaller-then-not-has_hash c = search seek_less

pub types-preserved-then-not-has_hash : goal.types-preserved-then-not-has_hash
types-preserved-then-not-has_hash c = search seek_hash

pub type_at-y-requires : goal.type_at-y-requires
type_at-y-requires c = search (seek_entry, rules)

pub loop-p-init : goal.loop-p-init
loop-p-init c = search (known-begin, type-readable, seek_count)

pub loop-p-smaller : goal.loop-p-smaller
loop-p-smaller c = search in_step_less

pub loop-p-preserved : goal.loop-p-preserved
loop-p-preserved c = search known_again

pub types-smaller-in-Differ : goal.types-smaller-in-Differ
types-smaller-in-Differ c = search seek_less

pub types-preserved-in-Differ : goal.types-preserved-in-Differ
types-preserved-in-Differ c = search seek_params

pub returns-then-same_list : goal.returns-then-same_list
returns-then-same_list c = search seek_found

pub types-smaller : goal.types-smaller
types-smaller c = search seek_less

pub types-preserved : goal.types-preserved
types-preserved c = search seek_results
