use Rattle.name_maps.proofs.Walking.{is_field}
use Rattle.name_maps.proofs.functions.field_function.Goals as goal

pub returns-in-Import : goal.returns-in-Import
returns-in-Import c = search is_field

pub returns-in-Item : goal.returns-in-Item
returns-in-Item c = search is_field
