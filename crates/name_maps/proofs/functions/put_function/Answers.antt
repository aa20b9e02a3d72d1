use Rattle.name_maps.proofs.Walking.{function_none, function_imported, function_own, function_uses}
use borrow.Author.Rules.{rules}
use Rattle.name_maps.proofs.functions.put_function.Goals as goal

pub put_entry-requires : goal.put_entry-requires
put_entry-requires c = (search rules, search function_uses, search rules)

pub returns-in-Nothing : goal.returns-in-Nothing
returns-in-Nothing c = search function_none

pub returns-in-Imported : goal.returns-in-Imported
returns-in-Imported c = search function_imported

pub returns-in-Own : goal.returns-in-Own
returns-in-Own c = search function_own
