use Rattle.next_record.proofs.Naming.{plain_data, plain_on}
use Rattle.next_record.proofs.skim.plain_inside.Goals as goal

pub returns-then-names_data : goal.returns-then-names_data
returns-then-names_data c = search (plain_data, plain_on)

pub returns : goal.returns
returns c = search (plain_data, plain_on)
