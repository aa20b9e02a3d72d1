-- The records of a body that are known to be readable: the parts of each, and what is known of the answers.
use Rattle.std.specs.Prelude.{Ok, Option as Optional, Some}
use Rattle.syntax.specs.Reads.{Read}
use mathlib.Core.Path.{◌≡◌, refl, sym, ◌∙◌, ap, subst}
use mathlib.Core.Option.{Option}
use Prim.Native.Nat.{ℕ}
use lib.Dec.{ltb}
use borrow.Author.Tests.{ne_eqb}
use native.Mathlib.Omega.{arith}
use Rattle.definition.specs.Syntax as Syntax
use Rattle.definition.specs.Syntax.{Bytes, Identifier}
use Rattle.definition.specs.Reader.{Step, got, fault, Reader, byte}
use Rattle.definition.specs.Token.{identifier, present, optional, type_use}
use Rattle.definition.specs.Instructions.{Form, opening, elsing, ending, calling, form_of, admits, plain_of, instruction, formed, may_fold, operator_of, operator, fold}
use Rattle.laws.specs.Depths.{deep}
use Rattle.laws.specs.Steps.{stops}
use Rattle.token.specs.Known.{Gets}
use Rattle.token.proofs.Gets.{gets_first, gets_rest, gets_after}
use Rattle.typeuse.specs.Known.{Readable}
use Rattle.syntax.specs.declared.Part.{Part}
use Rattle.syntax.specs.declared.Index.{Index}
use Rattle.syntax.specs.declared.TypeUse.{TypeUse}
use Rattle.syntax.specs.Plain.{operands_is}
use Rattle.syntax.specs.declared.Operands.{Operands}
use Rattle.syntax.specs.declared.Operands.TheVariants as W
use Rattle.expr.proofs.Skips.{any-opcode}
use Rattle.syntax.specs.Instructions.{form_is}
use Rattle.syntax.specs.declared.Form.TheVariants as F
use Rattle.syntax.specs.declared.Instr.{Instr}
use Rattle.syntax.specs.declared.Instr.TheVariants as I
use Rattle.syntax.specs.declared.BodyRec.{BodyRec}
use Rattle.syntax.specs.declared.BodyRec.TheVariants as B
use Rattle.instr.specs.Bodies.{deep_instr, one_of, head_at, fold_here}
use Rattle.instr.specs.Known.{IsRead, ReadableInstr, ReadableBody, ReadableFold}
use Rattle.instr.proofs.Ways.{deep_opening, deep_elsing, deep_ending, form_is_lem}

-- two readers that stop at one place get something together
gets_alike : {A : Type 0} (m n : Step A) → stops m ≡ stops n → Gets m → Gets n
gets_alike m (got x q) e g = record { value = x; next = q; is = refl }
gets_alike m (fault k) e g = let z : stops (got g.value g.next) ≡ fault k = ap stops (sym g.is) ∙ e in let o : ◌≡◌ {A = ℕ} 0 1 = cc in absurd (omega arith)

-- ## Instructions

module _ (s : Bytes) (k op here : ℕ) where
  -- the label of a block, and after it a type use
  opening_gets : Gets (deep_instr k op opening s here) → Gets (instruction op opening s here)
  opening_gets g = gets_after (λ _ q. instruction op opening s q) 7 (ltb k 128) s here (rw (ap (λ (m : Reader (Syntax.Instr Identifier)). m s here) (deep_opening k op)) at g)

  pub opens-known : Gets (deep_instr k op opening s here) → Gets (identifier s here)
  unfolding instruction
  opens-known g = gets_first _ (identifier s here) (opening_gets g)

  pub opens_use : (label : Option Identifier) (a : ℕ) → identifier s here ≡ got label a → Gets (deep_instr k op opening s here) → Gets (type_use s a)
  unfolding instruction
  opens_use label a e g = gets_first _ (type_use s a) (gets_rest _ (identifier s here) (opening_gets g) label a e)

  -- that of an else or an end
  pub elses-known : Gets (deep_instr k op elsing s here) → Gets (identifier s here)
  unfolding instruction
  elses-known g =
      gets_first _ (identifier s here)
      (gets_after (λ _ q. instruction op elsing s q) 8 (ltb 0 k) s here (rw (ap (λ (m : Reader (Syntax.Instr Identifier)). m s here) (deep_elsing k op)) at g))

  pub ends-known : Gets (deep_instr k op ending s here) → Gets (identifier s here)
  unfolding instruction
  ends-known g =
      gets_first _ (identifier s here)
      (gets_after (λ _ q. instruction op ending s q) 8 (ltb 0 k) s here (rw (ap (λ (m : Reader (Syntax.Instr Identifier)). m s here) (deep_ending k op)) at g))

  -- a call_indirect may stand anywhere
  pub calling_anywhere : Gets (deep_instr k op calling s here) → Gets (instruction op calling s here)
  unfolding deep_instr admits
  calling_anywhere g = g

-- its table, and after it a type use
module _ (s : Bytes) (op here : ℕ) where
  pub indirect-known : Gets (instruction op calling s here) → Gets (optional s here)
  unfolding instruction
  indirect-known g = gets_first _ (optional s here) g

  pub indirect_use : (x : Syntax.Index Identifier) (a : ℕ) → optional s here ≡ got x a → Gets (instruction op calling s here) → Gets (type_use s a)
  unfolding instruction
  indirect_use x a e g = gets_first _ (type_use s a) (gets_rest _ (optional s here) g x a e)

pub ruleset opened = (opens-known, opens_use)

pub ruleset elsed = (elses-known)

pub ruleset ended = (ends-known)

pub ruleset called = (indirect-known, indirect_use)

-- ## By the form of an opcode

module _ (s : Bytes) (k op here : ℕ) (o : Option Form) (g : Gets (formed (deep k) op o s here)) where
  pub formed_opening : o ≡ form_is F.Opening → Gets (deep_instr k op opening s here)
  unfolding deep_instr
  formed_opening e = rw e at g

  pub formed_elsing : o ≡ form_is F.Elsing → Gets (deep_instr k op elsing s here)
  unfolding deep_instr
  formed_elsing e = rw e at g

  pub formed_ending : o ≡ form_is F.Ending → Gets (deep_instr k op ending s here)
  unfolding deep_instr
  formed_ending e = rw e at g

  pub formed_calling : o ≡ form_is F.Calling → Gets (instruction op calling s here)
  unfolding admits
  formed_calling e = rw e at g

pub ruleset of_form = (formed_opening, formed_elsing, formed_ending, formed_calling, form_is_lem)

-- ## What stands in a body

pub one_gets : (m : Step (Syntax.Instr Identifier)) → IsRead (one_of m) → Gets m
one_gets (got x next) h = record { value = x; next = next; is = refl }
one_gets (fault n) h = absurd (h.read refl)

module _ (k : ℕ) (s : Bytes) (here b a : ℕ) (told : byte s here ≡ got b a) where
  pub body_formed : (b ≡ 0xF0 → ⊥) → (b ≡ 0xFF → ⊥) → IsRead (head_at k s here) → Gets (formed (deep k) b (form_of b) s a)
  unfolding head_at
  body_formed n m h = one_gets (formed (deep k) b (form_of b) s a) (rw (told, ne_eqb b 0xF0 n, ne_eqb b 0xFF m) at h)

-- ## Folded records

module _ (s : Bytes) (here b a : ℕ) (told : byte s here ≡ got b a) where
  pub folded_operator : Gets (fold_here s here) → Gets (operator s a)
  unfolding fold_here fold
  folded_operator g = gets_first _ (operator s a) (gets_rest _ (byte s here) g b a told)

  pub operator_calling : form_of b ≡ form_is F.Calling → Gets (operator s here) → Gets (instruction b calling s a)
  unfolding operator may_fold
  operator_calling says g = rw says at (gets_rest _ (byte s here) g b a told)

-- what stands after the opcode of an operator, by its form
module _ (s : Bytes) (op at : ℕ) (o : Option Form) (g : Gets (operator_of op o s at)) where
  pub form_calling : o ≡ form_is F.Calling → Gets (instruction op calling s at)
  unfolding may_fold
  form_calling e = rw e at g

  pub form_operands : (w : Operands) → o ≡ form_is (F.Operands w) → Gets (plain_of 0 (operands_is w) s at)
  unfolding may_fold instruction
  form_operands w e =
      gets_alike (plain_of op (operands_is w) s at) (plain_of 0 (operands_is w) s at) (any-opcode op (operands_is w) s at)
      (gets_first _ (plain_of op (operands_is w) s at) (rw e at g))

pub ruleset of_operator = (form_calling, form_operands)

-- ## Indices

-- operands that are one index: it is there
module _ (s : Bytes) (at : ℕ) (w : Operands) (g : Gets (plain_of 0 (operands_is w) s at)) where
  pub label_gets : w ≡ W.LabelIdx → Gets (present s at)
  unfolding plain_of
  label_gets d = gets_first _ (present s at) (rw d at g)

  pub local_gets : w ≡ W.LocalIdx → Gets (present s at)
  unfolding plain_of
  local_gets d = gets_first _ (present s at) (rw d at g)

  pub func_gets : w ≡ W.FuncIdx → Gets (present s at)
  unfolding plain_of
  func_gets d = gets_first _ (present s at) (rw d at g)

  pub global_gets : w ≡ W.GlobalIdx → Gets (present s at)
  unfolding plain_of
  global_gets d = gets_first _ (present s at) (rw d at g)

pub ruleset indices = (label_gets, local_gets, func_gets, global_gets)

-- ## What is known of the answers

pub body-readable : (s : Bytes) (r : Optional BodyRec) (i : Instr) (a : ℕ) → r ≡ Some (B.Instr i a) → ReadableBody s r → ReadableInstr s i
body-readable s r i a d v = subst (ReadableBody s) d v

pub fold-readable : (s : Bytes) (r : Read (Instr × ℕ)) (i : Instr) (n a : ℕ) → r ≡ Ok ((i, n), a) → ReadableFold s r → ReadableInstr s i
fold-readable s r i n a d v = subst (ReadableFold s) d v

pub opens-readable : (s : Bytes) (i : Instr) (op : ℕ) (l : Part) (t : TypeUse) → i ≡ I.Opens op l t → ReadableInstr s i → Readable s t.params
opens-readable s i op l t d v = subst (ReadableInstr s) d v

pub indirect-readable : (s : Bytes) (i : Instr) (x : Index) (t : TypeUse) → i ≡ I.Indirect x t → ReadableInstr s i → Readable s t.params
indirect-readable s i x t d v = subst (ReadableInstr s) d v
