-- Laws of constants.
use Rattle.std.specs.Prelude.{Ok, Err}
use Rattle.syntax.specs.Refusals.{Resolved}
use Prim.Native.Nat.{ℕ}
use mathlib.Core.Path.{◌≡◌, sym, ◌∙◌}
use mathlib.Core.Bool.{Bool, true, false}
use mathlib.Core.List.{List, [], ◌∷◌}
use Rattle.definition.specs.Syntax as Syntax
use Rattle.definition.specs.Names.{plain_op, const_op}
use Rattle.definition.specs.Binary as Binary
use Rattle.definition.specs.Binary.{imm, instruction}
use Rattle.syntax.specs.declared.Refusal.{Refusal}
use Rattle.emit.specs.Put.{Put}
use Rattle.emit.proofs.Laws.{put_cons}
use Rattle.syntax.specs.Plain.{plain_is, constant_at}
use Rattle.syntax.specs.declared.Plain.{Plain}
use Rattle.name_table.specs.Area as Area
use Rattle.scope.specs.Scope.{scope_in, locals_in, labels_in}
use Rattle.scope.specs.declared.Locals.{Locals}
use Rattle.binary.specs.Emits.{Emits}
use Rattle.binary.proofs.Emitting.{wrote, halts, was_wrote, has_halted}
use Rattle.binary.proofs.Immediates.{put-expr}
use Rattle.operands.specs.Operands.{const_bytes, zero_op}

-- ## `emit_const`

-- no parameters and no locals
abbrev no_locals : Locals
no_locals = record { nameless = 0; count = 0 }

module _ (s w : List ℕ) (rec : ℕ) (c : ℕ) (p : Plain) (is : plain_is s p ≡ constant_at s c) (old : List ℕ) (at : ℕ) (q : Resolved ℕ) (mid : List ℕ)
    (told : Emits instruction (plain_op (scope_in s w) (locals_in s w no_locals) (labels_in s w 0) rec (plain_is s p)) old at q mid) where
  same : plain_op (scope_in s w) (locals_in s w no_locals) (labels_in s w 0) rec (plain_is s p) ≡ const_op (scope_in s w) rec (constant_at s c)
  unfolding const_op locals_in labels_in Area.names Area.labels
  same = rw is

  pub const_to : (o r : ℕ) (new : List ℕ) → q ≡ Ok o → Put mid o (0x0B ∷ []) r new → Emits const_bytes (const_op (scope_in s w) rec (constant_at s c)) old at (Ok r) new
  unfolding const_bytes
  const_to o r new d e =
      let v = was_wrote instruction (plain_op (scope_in s w) (locals_in s w no_locals) (labels_in s w 0) rec (plain_is s p)) old at mid q o told d in
      wrote const_bytes (const_op (scope_in s w) rec (constant_at s c)) old at new v.value r (put-expr v.value v.put e) (sym same ∙ v.is)

  pub const_not : (r : Refusal) → q ≡ Err r → Emits const_bytes (const_op (scope_in s w) rec (constant_at s c)) old at (Err r) mid
  const_not r d =
      halts const_bytes (const_op (scope_in s w) rec (constant_at s c)) old at mid r
      (sym same ∙ has_halted instruction (plain_op (scope_in s w) (locals_in s w no_locals) (labels_in s w 0) rec (plain_is s p)) old at mid q r told d)

-- ## Offset 0

module _ (wide : Bool) (old : List ℕ) (at a : ℕ) (x : List ℕ) (b : ℕ) (y : List ℕ) (r : ℕ) (new : List ℕ) where
  pub zero_64 : wide ≡ true → Put old at (0x42 ∷ []) a x → Put x a (Binary.s (Binary.integer 64 0)) b y → Put y b (0x0B ∷ []) r new → Put old at (const_bytes (zero_op wide)) r new
  unfolding const_bytes zero_op instruction imm
  zero_64 d p i e = rw d (put-expr (record { opcode = 0x42; imm = Syntax.int64_imm 0 }) (put_cons p i) e)

  pub zero_32 : wide ≡ false → Put old at (0x41 ∷ []) a x → Put x a (Binary.s (Binary.integer 32 0)) b y → Put y b (0x0B ∷ []) r new → Put old at (const_bytes (zero_op wide)) r new
  unfolding const_bytes zero_op instruction imm
  zero_32 d p i e = rw d (put-expr (record { opcode = 0x41; imm = Syntax.int32_imm 0 }) (put_cons p i) e)
