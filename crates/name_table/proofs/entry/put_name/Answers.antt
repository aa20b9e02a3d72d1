use Rattle.name_table.proofs.Walk.{second_word, third_word, entry_words_lem}
use Rattle.name_table.proofs.entry.put_name.Goals as goal

pub bounds-work-at-2 : goal.bounds-work-at-2
bounds-work-at-2 c = search second_word

pub bounds-work-at-3 : goal.bounds-work-at-3
bounds-work-at-3 c = search third_word

pub returns : goal.returns
returns c = search entry_words_lem
