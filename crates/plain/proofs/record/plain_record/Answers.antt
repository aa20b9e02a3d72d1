use Rattle.plain.proofs.Plains.{kinds, index-known, told-index, told_bare}
use borrow.Author.Rules.{rules}
use Rattle.plain.proofs.record.plain_record.Goals as goal

pub index_record-requires : goal.index_record-requires
index_record-requires c = search (index-known, rules)

pub returns-in-Index : goal.returns-in-Index
returns-in-Index c = search (kinds, told-index, told_bare) depth 12

pub returns-in-Nothing : goal.returns-in-Nothing
returns-in-Nothing c = search (kinds, told-index, told_bare) depth 12
