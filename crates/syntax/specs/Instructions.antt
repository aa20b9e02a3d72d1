-- What the answers of the readers mean.
use Rattle.std.specs.Prelude.{ℕ}
use Rattle.syntax.specs.Reads.{Read, step}
use Rattle.std.proofs.Math.Option.{Option, none, some}
use Rattle.definition.specs.Syntax as Syntax
use Rattle.definition.specs.Syntax.{Bytes, Identifier}
use Rattle.definition.specs.Reader.{Step, got, fault}
use Rattle.definition.specs.Instructions as Instructions
use Rattle.definition.specs.Instructions.{opening, elsing, ending, calling, operands}
use Rattle.syntax.specs.Tokens.{id_of, index_of}
use Rattle.syntax.specs.TypeUses.{use_of}
use Rattle.syntax.specs.Plain.{plain_is, operands_is}
use Rattle.syntax.specs.declared.Form.{Form}
use Rattle.syntax.specs.declared.Form.TheVariants as F
use Rattle.syntax.specs.declared.Instr.{Instr}
use Rattle.syntax.specs.declared.Instr.TheVariants as I

abbrev pub form_is : Form → Option Instructions.Form
form_is F.NoOpcode = none
form_is F.Opening = some opening
form_is F.Elsing = some elsing
form_is F.Ending = some ending
form_is F.Calling = some calling
form_is (F.Operands w) = some (operands (operands_is w))

abbrev pub instr_is : Bytes → Instr → Syntax.Instr Identifier
instr_is s (I.Opens op l t) = Syntax.opens op (id_of s l) (use_of s t)
instr_is s (I.Elses l) = Syntax.elses (id_of s l)
instr_is s (I.Ends l) = Syntax.ends (id_of s l)
instr_is s (I.Indirect x t) = Syntax.indirect (index_of s x) (use_of s t)
instr_is s (I.Plain p) = Syntax.plain (plain_is s p)

abbrev pub instr_at : Bytes → Read Instr → Step (Syntax.Instr Identifier)
instr_at s = step (instr_is s)

abbrev pub fold_at : Bytes → Read (Instr × ℕ) → Step (Syntax.Rec Identifier)
fold_at s = step (λ x. Syntax.folded (instr_is s x.0) x.1)
