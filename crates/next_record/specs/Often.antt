-- What stands after an opcode, as far as it is met often.
use Rattle.std.specs.Prelude.{◌≡◌, ℕ, Option as Optional, Some, None}
use Rattle.std.proofs.Math.Option.{Option, none, some}
use Rattle.definition.specs.Syntax.{Bytes}
use Rattle.definition.specs.Reader.{Step, got, fault}
use Rattle.definition.specs.Token.{u32, present}
use Rattle.definition.specs.Instructions as Instructions
use Rattle.definition.specs.Instructions.{Form, Operands, opening, elsing, ending, calling, operands, form_of, plain_of}
use Rattle.laws.specs.Steps.{stops}
use Rattle.next_record.specs.declared.often.Often.{Often}
use Rattle.next_record.specs.declared.often.Often.TheVariants as O

abbrev pub sort_of : Operands → Optional Often
sort_of Instructions.bare = Some O.Nothing
sort_of Instructions.labelidx = Some O.Index
sort_of Instructions.labelidxs = None
sort_of Instructions.localidx = Some O.Index
sort_of Instructions.funcidx = Some O.Index
sort_of Instructions.globalidx = Some O.Index
sort_of Instructions.memidx = None
sort_of Instructions.memarg = Some O.Access
sort_of Instructions.i32 = Some O.Number
sort_of Instructions.i64 = None
sort_of Instructions.f32 = None
sort_of Instructions.f64 = None
sort_of Instructions.heaptype = None
sort_of Instructions.bulk = None

abbrev pub form_sort : Option Form → Optional Often
form_sort none = None
form_sort (some opening) = None
form_sort (some elsing) = None
form_sort (some ending) = None
form_sort (some calling) = None
form_sort (some (operands w)) = sort_of w

abbrev pub sort : ℕ → Optional Often
sort b = form_sort (form_of b)

-- what is told of an opcode is so; of some nothing is told
unfoldable pub OftenIs : ℕ → Optional Often → Type 0
OftenIs b (Some w) = sort b ≡ Some w
OftenIs b None = Unit {0}

-- where it ends
abbrev pub often_stops : Often → Bytes → ℕ → Step (Unit {0})
often_stops O.Nothing s at = got tt at
often_stops O.Index s at = stops (present s at)
often_stops O.Access s at = stops (plain_of 0 Instructions.memarg s at)
often_stops O.Number s at = stops (u32 s at)
