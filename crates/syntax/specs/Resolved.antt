-- What the code's resolved things mean.
use Rattle.definition.specs.Syntax as Syntax
use Rattle.definition.specs.Syntax.{empty, single, typed}
use Rattle.syntax.specs.declared.LocalNo.{LocalNo}
use Rattle.syntax.specs.declared.TypeNo.{TypeNo}
use Rattle.syntax.specs.declared.Depth.{Depth}
use Rattle.syntax.specs.declared.BlockType.{BlockType}
use Rattle.syntax.specs.declared.BlockType.TheVariants as B

abbrev pub local_no_of : LocalNo → Syntax.LocalNo
local_no_of n = record { local_no = n.0 }

abbrev pub type_no_of : TypeNo → Syntax.TypeNo
type_no_of n = record { type_no = n.0 }

abbrev pub depth_of : Depth → Syntax.Depth
depth_of d = record { depth = d.0 }

abbrev pub block_type_of : BlockType → Syntax.BlockType
block_type_of B.Empty = empty
block_type_of (B.Single t) = single t
block_type_of (B.Typed n) = typed (type_no_of n)
