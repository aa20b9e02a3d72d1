-- What is known of a body's records once they were read: what later readers require, and what they promise of the answer.
use Rattle.std.specs.Prelude.{ℕ, ◌≡◌, Ok, Err, Option, Some, None}
use Rattle.definition.specs.Syntax.{Bytes}
use Rattle.typeuse.specs.Known.{Readable}
use Rattle.syntax.specs.Reads.{Read}
use Rattle.syntax.specs.declared.Instr.{Instr}
use Rattle.syntax.specs.declared.Instr.TheVariants as I
use Rattle.syntax.specs.declared.BodyRec.{BodyRec}
use Rattle.syntax.specs.declared.BodyRec.TheVariants as B
use Rattle.instr.specs.Bodies.{Head, unread}

-- what stands at a place can be read
pub record IsRead (h : Head) : Type 0 where
  pub read : h ≡ unread → ⊥

-- the parameters of an instruction's type use can be read again
abbrev pub ReadableInstr : Bytes → Instr → Type 0
ReadableInstr s (I.Opens op l t) = Readable s t.params
ReadableInstr s (I.Elses l) = Unit {0}
ReadableInstr s (I.Ends l) = Unit {0}
ReadableInstr s (I.Indirect x t) = Readable s t.params
ReadableInstr s (I.Plain p) = Unit {0}

-- those of an instruction that was read, on its own, in a body, and as the operator of a folded record
abbrev pub ReadableAt : Bytes → Read Instr → Type 0
ReadableAt s (Ok (i, next)) = ReadableInstr s i
ReadableAt s (Err n) = Unit {0}

abbrev pub ReadableBody : Bytes → Option BodyRec → Type 0
ReadableBody s (Some (B.Instr i next)) = ReadableInstr s i
ReadableBody s (Some B.Folded) = Unit {0}
ReadableBody s (Some (B.End next)) = Unit {0}
ReadableBody s None = Unit {0}

abbrev pub ReadableFold : Bytes → Read (Instr × ℕ) → Type 0
ReadableFold s (Ok ((i, n), next)) = ReadableInstr s i
ReadableFold s (Err n) = Unit {0}
