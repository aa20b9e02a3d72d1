-- Whether an instruction names a data segment: the sort of its operands and the byte after its opcode say it.
use Rattle.std.specs.Prelude.{if◌then◌else◌}
use mathlib.Core.Path.{◌≡◌, refl}
use Prim.Native.Nat.{ℕ, ◌+◌}
use mathlib.Core.Bool.{Bool, true, false}
use mathlib.Core.List.{List, [], ◌∷◌}
use mathlib.Core.Option.{Option, none, some}
use lib.Dec.{ltb}
use lib.ListN.{length, get_or}
use borrow.Author.Tests.{ne_eqb}
use native.Mathlib.Omega.{arith}
use Rattle.definition.specs.Syntax as Syntax
use Rattle.definition.specs.Syntax.{Bytes, Identifier, Space, Operand, items, Plain}
use Rattle.definition.specs.Reader.{Step, got, fault, onward, byte}
use Rattle.definition.specs.Instructions.{Operands, bare, labelidx, labelidxs, localidx, funcidx, globalidx, memidx, memarg, i32, i64, f32, f64, heaptype, bulk}
use Rattle.definition.specs.Instructions.{spaces_of, indices, bulk_of, plain_of}
use Rattle.laws.proofs.Backwards.{came}
use Rattle.syntax.specs.Plain.{operands_is}
use Rattle.syntax.specs.declared.Operands as Code
use Rattle.syntax.specs.declared.Operands.TheVariants as W
use Rattle.next_record.specs.Uses.{byte_names, operand_names, sort_names}
use Rattle.next_record.specs.Answers.{plain_inside}
use Rattle.next_record.specs.declared.record.Inside.TheVariants as N

-- whatever is read names a data segment, or does not
record Names (t : Bool) (m : Step (Plain Identifier)) : Type 0 where
  holds : (p : Plain Identifier) (next : ℕ) → m ≡ got p next → operand_names p.operand ≡ t

named : (t : Bool) (op : ℕ) (x : Operand Identifier) (n : ℕ) → operand_names x ≡ t → Names t (got (record { opcode = op; operand = x }) n)
named t op x n e = record { holds = λ p next d. let i : ◌≡◌ {A = Plain Identifier} (record { opcode = op; operand = x }) p = cc in rw (← i) e }

named_then : {A : Type 0} (t : Bool) (m : Step A) (k : A → ℕ → Step (Plain Identifier)) → ((a : A) (n : ℕ) → Names t (k a n)) → Names t (onward k m)
named_then t m k f = record { holds = λ p next e. let c = came m e in (f c.value c.next).holds p next c.rest }

ruleset namings = (refl, named, named_then)

-- after FC the operand has the second byte
bulk_names : (op b : ℕ) (o : Option (List Space)) (s : Bytes) (at : ℕ) → Names (byte_names b) (onward (λ x n. got (record { opcode = op; operand = x }) n) (bulk_of b o s at))
bulk_names op b none s at = record { holds = λ p next e. let z : ◌≡◌ {A = ℕ} 0 1 = cc in absurd (omega arith) }
bulk_names op b (some ks) s at = go (indices ks s at)
  where
    go : (m : Step (List (Space × Syntax.Index Identifier))) → Names (byte_names b) (onward (λ x n. got (record { opcode = op; operand = x }) n) (onward (λ xs n. got (items b xs) n) m))
    go (got xs n) = named (byte_names b) op (items b xs) n refl
    go (fault n) = record { holds = λ p next e. let z : ◌≡◌ {A = ℕ} 0 1 = cc in absurd (omega arith) }

plain-names : (op : ℕ) (w : Operands) (s : Bytes) (at : ℕ) → Names (sort_names w (get_or s at 0)) (plain_of op w s at)
unfolding plain_of
plain-names op bare s at = search namings depth 8
plain-names op labelidx s at = search namings depth 8
plain-names op labelidxs s at = search namings depth 8
plain-names op localidx s at = search namings depth 8
plain-names op funcidx s at = search namings depth 8
plain-names op globalidx s at = search namings depth 8
plain-names op memidx s at = search namings depth 8
plain-names op memarg s at = search namings depth 8
plain-names op i32 s at = search namings depth 8
plain-names op i64 s at = search namings depth 8
plain-names op f32 s at = search namings depth 8
plain-names op f64 s at = search namings depth 8
plain-names op heaptype s at = search namings depth 8
plain-names op bulk s at = unfold byte in go (ltb at (length s))
  where
    go : (t : Bool) → Names (byte_names (get_or s at 0)) (onward (λ b n. onward (λ x n. got (record { opcode = op; operand = x }) n) (bulk_of b (spaces_of b) s n)) (if t then got (get_or s at 0) (at + 1) else fault 2))
    go true = bulk_names op (get_or s at 0) (spaces_of (get_or s at 0)) s (at + 1)
    go false = record { holds = λ p next e. let z : ◌≡◌ {A = ℕ} 0 1 = cc in absurd (omega arith) }

pub read_names : (op : ℕ) (w : Operands) (s : Bytes) (at : ℕ) (p : Plain Identifier) (next : ℕ) → plain_of op w s at ≡ got p next → operand_names p.operand ≡ sort_names w (get_or s at 0)
read_names op w s at p next e = (plain-names op w s at).holds p next e

-- ## The code

module _ (w : Code.Operands) (s : Bytes) (at b : ℕ) (is : w ≡ W.Bulk) (e : b ≡ get_or s at 0) where
  pub bulk_init : b ≡ 0x08 → true ≡ sort_names (operands_is w) (get_or s at 0)
  bulk_init h = rw (is, ← e, h)

  pub bulk_drop : b ≡ 0x09 → true ≡ sort_names (operands_is w) (get_or s at 0)
  bulk_drop h = rw (is, ← e, h)

  pub bulk_not : (b ≡ 0x08 → ⊥) → (b ≡ 0x09 → ⊥) → false ≡ sort_names (operands_is w) (get_or s at 0)
  bulk_not h g = rw (is, ← e, ne_eqb b 0x08 h, ne_eqb b 0x09 g)

-- no other operands name a data segment
pub others_not : (w : Code.Operands) (n : ℕ) → (w ≡ W.Bulk → ⊥) → false ≡ sort_names (operands_is w) n
others_not W.Bare n h = refl
others_not W.LabelIdx n h = refl
others_not W.LabelIdxs n h = refl
others_not W.LocalIdx n h = refl
others_not W.FuncIdx n h = refl
others_not W.GlobalIdx n h = refl
others_not W.MemIdx n h = refl
others_not W.MemArg n h = refl
others_not W.I32 n h = refl
others_not W.I64 n h = refl
others_not W.F32 n h = refl
others_not W.F64 n h = refl
others_not W.HeapType n h = refl
others_not W.Bulk n h = absurd (h refl)

pub ruleset names-told = (bulk_init, bulk_drop, bulk_not, others_not)

module _ (w : Code.Operands) (n : ℕ) (b : Bool) (told : b ≡ sort_names (operands_is w) n) where
  pub plain_data : b ≡ true → N.Data ≡ plain_inside (operands_is w) n
  plain_data d = rw (← told, d)

  pub plain_on : b ≡ false → N.On false ≡ plain_inside (operands_is w) n
  plain_on d = rw (← told, d)
