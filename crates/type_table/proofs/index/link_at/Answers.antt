use Rattle.laws.proofs.Exits.{exits}
use Rattle.type_table.specs.Table.{link_at}
use Rattle.type_table.proofs.index.link_at.Goals as goal

pub returns-then-link-gt256 : goal.returns-then-link-gt256
unfolding link_at
returns-then-link-gt256 c = search (exits) depth 12

pub returns-then-place-link : goal.returns-then-place-link
unfolding link_at
returns-then-place-link c = search (exits) depth 12

pub returns : goal.returns
unfolding link_at
returns c = search (exits) depth 12
