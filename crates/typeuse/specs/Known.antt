-- What is known of the lists of a function's head once they were read: what their readers promise, and what those who read them again require.
use Rattle.std.specs.Prelude.{Ok, Err}
use Rattle.syntax.specs.Reads.{Read}
use Rattle.definition.specs.Syntax.{Bytes}
use Rattle.definition.specs.Reader.{many}
use Rattle.definition.specs.Token.{param}
use Rattle.token.specs.Known.{Gets}
use Rattle.syntax.specs.declared.List as Code
use Rattle.syntax.specs.declared.TypeUse.{TypeUse}

-- all parameters or locals of a list can be read
abbrev pub Readable : Bytes → Code.List → Type 0
Readable s l = Gets (many l.count param s l.at)

-- those of a list that was read
abbrev pub ReadableList : Bytes → Read Code.List → Type 0
ReadableList s (Ok (l, next)) = Readable s l
ReadableList s (Err n) = Unit {0}

-- the parameters of a type use that was read
abbrev pub ReadableUse : Bytes → Read TypeUse → Type 0
ReadableUse s (Ok (t, next)) = Readable s t.params
ReadableUse s (Err n) = Unit {0}
