-- How `search` follows the definition past an answer of this crate.
use Rattle.syntax.proofs.Ways.{reads}
use mathlib.Core.Path.{◌≡◌, refl, sym}
use Prim.Native.Nat.{ℕ, ◌-◌, ◌<◌}
use native.Mathlib.Omega.{arith}
use Rattle.definition.specs.Syntax.{Bytes}
use Rattle.definition.specs.Instructions.{naturals, exponent}
use Rattle.laws.proofs.Readers.{get_or_out}
use Rattle.syntax.specs.Tokens.{index_of}
use Rattle.syntax.specs.declared.Index.{Index}
use Rattle.syntax.specs.Plain.{operand_of}
use Rattle.expr.specs.Readers.{operand_to, refer}
use Rattle.syntax.specs.declared.Operand.{Operand}
use Rattle.expr.specs.declared.Refers.{Refers}
use Rattle.expr.specs.declared.Refers.TheVariants as R

pub ruleset plain-answers = (reads)

-- what an index refers to was matched
pub to_is : (to v : Refers) (x : Index) (o : Operand) → to ≡ v → o ≡ operand_to v x → o ≡ operand_to to x
to_is to v x o e d = rw e d

referred : (s : Bytes) (to : Refers) (x : Index) → refer to (index_of s x) ≡ operand_of s (operand_to to x)
referred s R.Label x = refl
referred s R.Local x = refl
referred s R.Func x = refl
referred s R.Global x = refl

-- the operand that was made of an index
pub index_operand : (s : Bytes) (to : Refers) (x : Index) (o : Operand) → o ≡ operand_to to x → refer to (index_of s x) ≡ operand_of s o
index_operand s to x o e = rw (e, referred s to x)

-- ## Exponents

-- opcodes below and above the table
pub natural_low : (op : ℕ) → op < 0x28 → 2 ≡ exponent op 0
unfolding exponent naturals
natural_low op h = let d : op - 0x28 ≡ 0 = omega arith in rw d

pub natural_high : (op : ℕ) → 0x3E < op → 0 ≡ exponent op 0
unfolding exponent naturals
natural_high op h = sym (get_or_out naturals (op - 0x28) (omega arith))
