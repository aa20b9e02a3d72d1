use Rattle.interning.proofs.Bodies.{nested_is, opens_nest, ends_nest}
use borrow.Author.Rules.{rules}
use Rattle.interning.proofs.body.depth_after.Goals as goal

pub overflow_add-result : goal.overflow_add-result
overflow_add-result c = search (opens_nest, rules)

pub overflow_sub-result : goal.overflow_sub-result
overflow_sub-result c = search (ends_nest, rules)

pub returns-in-Opens : goal.returns-in-Opens
returns-in-Opens c = search nested_is

pub returns-in-Ends : goal.returns-in-Ends
returns-in-Ends c = search nested_is
