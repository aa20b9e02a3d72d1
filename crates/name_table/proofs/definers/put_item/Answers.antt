use Rattle.name_table.proofs.Holders.{item-place, item-entry, item_definer, item_word, item_room, item_words_lem}
use borrow.Author.Rules.{rules}
use Rattle.name_table.proofs.definers.put_item.Goals as goal

pub overflow_add-table_base : goal.overflow_add-table_base
overflow_add-table_base c = search item-place

pub put_name-requires : goal.put_name-requires
put_name-requires c = search (item-entry, rules)

pub overflow_add-work : goal.overflow_add-work
overflow_add-work c = search item_definer

pub offset_bounds-work-definers_base : goal.offset_bounds-work-definers_base
offset_bounds-work-definers_base c = search item_word

pub bounds-work-definers_base : goal.bounds-work-definers_base
bounds-work-definers_base c = search item_room

pub returns : goal.returns
returns c = search item_words_lem
