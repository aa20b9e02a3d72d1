use Rattle.walk.proofs.Cursors.{visit_head, visit-ways}
use Rattle.walk.proofs.Steps.{visit_sound}
use borrow.Author.Rules.{rules}
use Rattle.walk.proofs.visit.Goals as goal

pub returns-then-c-lt1 : goal.returns-then-c-lt1
returns-then-c-lt1 c = search visit-ways

pub returns-then-c-ge4096 : goal.returns-then-c-ge4096
returns-then-c-ge4096 c = search visit-ways

pub returns-then-s-c : goal.returns-then-s-c
returns-then-s-c c = search visit-ways

pub known_field-requires : goal.known_field-requires
known_field-requires c = search (visit_sound, rules)

pub returns-in-Ok : goal.returns-in-Ok
returns-in-Ok c = (search visit-ways, search visit_head)

pub returns-in-Err : goal.returns-in-Err
returns-in-Err c = search visit-ways
