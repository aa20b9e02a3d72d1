use Rattle.definition.specs.Instructions.{spaces_of, spaces_in, bulks}
use borrow.Author.Tests.{eq-eqb, ne_eqb}
use Rattle.syntax.proofs.bulk_spaces.Goals as goal

pub returns-then-b-eq8 : goal.returns-then-b-eq8
unfolding spaces_of spaces_in bulks
returns-then-b-eq8 c = search (eq-eqb, ne_eqb) depth 6

pub returns-then-b-eq9 : goal.returns-then-b-eq9
unfolding spaces_of spaces_in bulks
returns-then-b-eq9 c = search (eq-eqb, ne_eqb) depth 6

pub returns-then-b-eq10 : goal.returns-then-b-eq10
unfolding spaces_of spaces_in bulks
returns-then-b-eq10 c = search (eq-eqb, ne_eqb) depth 6

pub returns-then-b-eq11 : goal.returns-then-b-eq11
unfolding spaces_of spaces_in bulks
returns-then-b-eq11 c = search (eq-eqb, ne_eqb) depth 6

pub returns : goal.returns
unfolding spaces_of spaces_in bulks
returns c = search (eq-eqb, ne_eqb) depth 6
