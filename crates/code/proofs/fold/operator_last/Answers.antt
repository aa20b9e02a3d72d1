use borrow.Author.Rules.{rules}
use Rattle.code.proofs.Folds.{last_on, last_done, last_refused, last_cut, last_stops}
use Rattle.code.proofs.fold.operator_last.Goals as goal

pub returns-in-Ok-Some-operator_record : goal.returns-in-Ok-Some-operator_record
returns-in-Ok-Some-operator_record c = last_on _ _ _ _ _ _ _ _ c.in-Ok-Some.is c.in-Ok-Some.at c.in-Ok-Some.end (let z = c.in-Ok-Some.field-0-is in rw c.in-Ok-Some.is at z) _ _ _ _ c.in-Ok-Some-operator_record.ensures c.in-Ok-Some-operator_record.field-0-is

pub returns-in-Ok-None-operator_record : goal.returns-in-Ok-None-operator_record
returns-in-Ok-None-operator_record c = last_done _ _ _ _ _ _ _ _ c.in-Ok-Some.is c.in-Ok-Some.at c.in-Ok-Some.end (let z = c.in-Ok-Some.field-0-is in rw c.in-Ok-Some.is at z) _ _ c.in-Ok-None-operator_record.ensures c.in-Ok-None-operator_record.field-0-is

pub returns-in-Err-operator_record : goal.returns-in-Err-operator_record
returns-in-Err-operator_record c = last_refused _ _ _ _ _ _ _ _ c.in-Ok-Some.is c.in-Ok-Some.at c.in-Ok-Some.end (let z = c.in-Ok-Some.field-0-is in rw c.in-Ok-Some.is at z) _ _ c.in-Err-operator_record.ensures

pub returns-in-Ok-None : goal.returns-in-Ok-None
returns-in-Ok-None c = search (last_cut, last_stops, rules) depth 12

pub returns-in-Err : goal.returns-in-Err
returns-in-Err c = search (last_cut, last_stops, rules) depth 12
