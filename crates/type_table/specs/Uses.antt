-- The uses of a block.
use Rattle.std.specs.Prelude.{List, [], if◌then◌else◌}
use Rattle.definition.specs.Syntax as Syntax
use Rattle.definition.specs.Syntax.{FuncType}
use Rattle.definition.specs.Types.{is_short, use_of}

-- the uses of a block: one that has a short form takes no type
abbrev pub block_uses : {I : Type 0} → Syntax.TypeUse I → List FuncType
block_uses t = if is_short t then [] else use_of t
