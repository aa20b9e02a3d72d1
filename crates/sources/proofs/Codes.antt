-- A space's code is an index of the counts.
use mathlib.Core.Path.{◌≡◌}
use Prim.Native.Nat.{ℕ, ◌*◌, ◌<◌}
use native.Mathlib.Omega.{arith}
use mir.Syntax.{w64}
use mir.Val.{Fits}
use Rattle.definition.specs.Syntax.{code}
use Rattle.syntax.specs.Tokens.{space_of}
use Rattle.syntax.specs.declared.Space.{Space}
use Rattle.syntax.specs.declared.Space.TheVariants as K

code_small : (k : Space) → code (space_of k) < 7
code_small K.Funcs = omega arith
code_small K.Tables = omega arith
code_small K.Mems = omega arith
code_small K.Globals = omega arith
code_small K.Types = omega arith
code_small K.Elems = omega arith
code_small K.Datas = omega arith

pub space_small : (k : Space) (i : ℕ) → i ≡ code (space_of k) → i < 7
space_small k i e = omega (arith, code_small k)

pub space-fits : (k : Space) (i : ℕ) → i ≡ code (space_of k) → Fits w64 (i * 4)
space-fits k i e = record { fits = omega (arith, code_small k) }

pub ruleset codes = (space_small, space-fits)
