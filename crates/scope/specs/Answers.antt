-- What the answers mean.
use Rattle.definition.specs.Basic.{Answer}
use Rattle.definition.specs.Syntax as Syntax
use Rattle.syntax.specs.Reads.{same}
use Rattle.syntax.specs.Refusals.{Resolved, answer}
use Rattle.syntax.specs.Resolved.{local_no_of, type_no_of, depth_of, block_type_of}
use Rattle.syntax.specs.declared.LocalNo.{LocalNo}
use Rattle.syntax.specs.declared.TypeNo.{TypeNo}
use Rattle.syntax.specs.declared.Depth.{Depth}
use Rattle.syntax.specs.declared.BlockType.{BlockType}

abbrev pub local_answer : Resolved LocalNo → Answer Syntax.LocalNo
local_answer = answer local_no_of

abbrev pub depth_answer : Resolved Depth → Answer Syntax.Depth
depth_answer = answer depth_of

abbrev pub closed_answer : Resolved (Unit {0}) → Answer (Unit {0})
closed_answer = answer same

abbrev pub type_answer : Resolved TypeNo → Answer Syntax.TypeNo
type_answer = answer type_no_of

abbrev pub block_answer : Resolved BlockType → Answer Syntax.BlockType
block_answer = answer block_type_of
