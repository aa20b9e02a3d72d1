-- What the answers of the readers mean.
use Rattle.std.specs.Prelude.{Option as Optional}
use Rattle.syntax.specs.Reads.{Read, step, same, maybe}
use Rattle.std.specs.Prelude.{ℕ, Bool}
use Rattle.std.proofs.Math.Option.{Option, none, some}
use Rattle.definition.specs.Syntax as Syntax
use Rattle.definition.specs.Reader.{Step, got, fault}
use Rattle.syntax.specs.declared.Limits.{Limits}
use Rattle.syntax.specs.declared.TableType.{TableType}
use Rattle.syntax.specs.declared.GlobalType.{GlobalType}

abbrev pub bool_at : Read Bool → Step Bool
bool_at = step same

abbrev pub maximum_of : Optional ℕ → Option ℕ
maximum_of = maybe same

abbrev pub maximum_at : Read (Optional ℕ) → Step (Option ℕ)
maximum_at = step maximum_of

abbrev pub limits_is : Limits → Syntax.Limits
limits_is l = record { is64 = l.is64; minimum = l.minimum; maximum = maximum_of l.maximum }

abbrev pub limits_at : Read Limits → Step Syntax.Limits
limits_at = step limits_is

abbrev pub table_type_is : TableType → Syntax.TableType
table_type_is t = record { element = t.element; limits = limits_is t.limits }

abbrev pub table_type_at : Read TableType → Step Syntax.TableType
table_type_at = step table_type_is

abbrev pub global_type_is : GlobalType → Syntax.GlobalType
global_type_is t = record { value = t.value; mutable = t.mutable }

abbrev pub global_type_at : Read GlobalType → Step Syntax.GlobalType
global_type_at = step global_type_is
