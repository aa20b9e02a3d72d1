use Rattle.next_record.proofs.Frequent.{often_past}
use Rattle.next_record.proofs.often.pass_often.Goals as goal

pub returns-in-Nothing : goal.returns-in-Nothing
returns-in-Nothing c = search often_past

pub returns-in-Index : goal.returns-in-Index
returns-in-Index c = search often_past

pub returns-in-Access : goal.returns-in-Access
returns-in-Access c = search often_past

pub returns-in-Number : goal.returns-in-Number
returns-in-Number c = search often_past
