-- Folded records that are passed over, along what the calls of the code answered.
use Rattle.std.specs.Prelude.{Some, None}
use mathlib.Core.Path.{◌≡◌, refl, sym, ◌∙◌}
use Prim.Native.Nat.{ℕ}
use mathlib.Core.Option.{Option}
use native.Mathlib.Omega.{arith}
use Rattle.definition.specs.Syntax.{Bytes, Identifier, TypeUse, Instr, folded}
use Rattle.definition.specs.Reader.{Step, got, fault, onward, byte}
use Rattle.definition.specs.Token.{up_to, optional, type_use}
use Rattle.definition.specs.Instructions.{Form, calling, form_of, plain_of, instruction, may_fold, operator_of, operator, fold}
use Rattle.laws.specs.Steps.{stops}
use Rattle.syntax.proofs.Ways.{fault_handed, skip_handed}
use Rattle.syntax.specs.Plain.{operands_is}
use Rattle.syntax.specs.declared.Operands.{Operands}
use Rattle.syntax.specs.Instructions.{form_is}
use Rattle.syntax.specs.declared.Form as Code
use Rattle.syntax.specs.declared.Form.TheVariants as F
use Rattle.token.proofs.Skips.{Gave, gave_at, stopped_at, stops-made, stops_then}
use Rattle.token.specs.Known.{Gets}
use Rattle.token.proofs.Gets.{gets_first, gets_rest}
use Rattle.expr.proofs.Skips.{any-opcode}
use Rattle.instr.specs.Bodies.{fold_here}
use Rattle.instr.specs.Readers.{count_of, Parted}

-- ## The operator

module _ (s : Bytes) (at : ℕ) where
  pub operator_none : (n : ℕ) → byte s at ≡ fault n → stops (operator s at) ≡ fault n
  unfolding operator
  operator_none n told = rw told

  module _ (b a : ℕ) (told : byte s at ≡ got b a) where
    -- no opcode, and those that are barred
    pub no_opcode : form_of b ≡ form_is F.NoOpcode → stops (operator s at) ≡ fault 4
    unfolding operator
    no_opcode says = rw (told, says)

    pub barred_opening : form_of b ≡ form_is F.Opening → stops (operator s at) ≡ fault 4
    unfolding operator may_fold
    barred_opening says = rw (told, says)

    pub barred_elsing : form_of b ≡ form_is F.Elsing → stops (operator s at) ≡ fault 4
    unfolding operator may_fold
    barred_elsing says = rw (told, says)

    pub barred_ending : form_of b ≡ form_is F.Ending → stops (operator s at) ≡ fault 4
    unfolding operator may_fold
    barred_ending says = rw (told, says)

    pub operator_plain : (w : Operands) → form_of b ≡ form_is (F.Operands w) → stops (operator s at) ≡ stops (plain_of 0 (operands_is w) s a)
    unfolding operator may_fold instruction
    operator_plain w says = rw (told, says) (stops-made _ (plain_of b (operands_is w) s a) ∙ any-opcode b (operands_is w) s a)

    -- a call_indirect: its table, and its type
    module _ (says : form_of b ≡ form_is F.Calling) where
      pub table_not : (n : ℕ) → stops (optional s a) ≡ fault n → stops (operator s at) ≡ fault n
      unfolding operator may_fold instruction
      table_not n e = rw (told, says, stopped_at (optional s a) n e)

      module _ (c : ℕ) (table : stops (optional s a) ≡ got tt c) where
        pub type_past : (t : TypeUse Identifier) (n : ℕ) → type_use s c ≡ got t n → stops (operator s at) ≡ got tt n
        unfolding operator may_fold instruction
        type_past t n e = rw (told, says) (stops_then _ _ (optional s a) c table (λ y. rw e))

        pub type_not : (n : ℕ) → type_use s c ≡ fault n → stops (operator s at) ≡ fault n
        unfolding operator may_fold instruction
        type_not n e = rw (told, says) (stops_then _ _ (optional s a) c table (λ y. rw e))

pub ruleset operators = (operator_none, no_opcode, barred_opening, barred_elsing, barred_ending, operator_plain, table_not, type_past, type_not, skip_handed)

-- ## Its count

count-made : (m : Step ℕ) (x : Instr Identifier) → count_of (onward (λ n next. got (folded x n) next) m) ≡ m
count-made (got n next) x = refl
count-made (fault n) x = refl

module _ (s : Bytes) (at : ℕ) where
  pub fold_counts : (a : ℕ) → stops (operator s at) ≡ got tt a → count_of (fold s at) ≡ up_to 7 16 s a
  unfolding fold
  fold_counts a told = let g = gave_at (operator s at) a told in rw g.is (count-made (up_to 7 16 s a) g.value)

  pub fold_not : (n : ℕ) → stops (operator s at) ≡ fault n → count_of (fold s at) ≡ fault n
  unfolding fold
  fold_not n told = rw (stopped_at (operator s at) n told)

pub ruleset counts = (fold_counts, fold_not, fault_handed)

-- ## One that was read before

gets_not : {A : Type 0} {m : Step A} → Gets m → (n : ℕ) → m ≡ fault n → ⊥
gets_not g n e = let z : got g.value g.next ≡ fault n = sym g.is ∙ e in let o : ◌≡◌ {A = ℕ} 0 1 = cc in absurd (omega arith)

-- what stands after the opcode of its operator, by the form
module _ (s : Bytes) (op at : ℕ) (o : Option Form) where
  pub form_plain : (w : Operands) → o ≡ form_is (F.Operands w) → stops (operator_of op o s at) ≡ stops (plain_of 0 (operands_is w) s at)
  unfolding may_fold instruction
  form_plain w e = rw e (stops-made _ (plain_of op (operands_is w) s at) ∙ any-opcode op (operands_is w) s at)

  pub form_calls : o ≡ form_is F.Calling → stops (operator_of op o s at) ≡ stops (instruction op calling s at)
  unfolding may_fold
  form_calls e = rw e

  -- none other can be folded
  pub form_barred : (f : Code.Form) → o ≡ form_is f → ((w : Operands) → f ≡ F.Operands w → ⊥) → (f ≡ F.Calling → ⊥) → stops (operator_of op o s at) ≡ fault 4
  unfolding may_fold
  form_barred F.NoOpcode e h k = rw e
  form_barred F.Opening e h k = rw e
  form_barred F.Elsing e h k = rw e
  form_barred F.Ending e h k = rw e
  form_barred F.Calling e h k = absurd (k refl)
  form_barred (F.Operands w) e h k = absurd (h w refl)

pub ruleset skipped = (form_plain, form_calls)

-- all of it, where each part is there
fold-made : (s : Bytes) (here b a op c at : ℕ) (x : Instr Identifier) (y : Step ℕ) → byte s here ≡ got b a → byte s a ≡ got op c → operator_of op (form_of op) s c ≡ got x at → up_to 7 16 s at ≡ y
    → fold_here s here ≡ onward (λ n next. got (folded x n) next) y
unfolding fold_here fold operator
fold-made s here b a op c at x y first opcode reads count = rw (first, opcode, reads, count) refl

module _ (s : Bytes) (here : ℕ) (g : Gets (fold_here s here)) where
  pub no_fold : (n : ℕ) → byte s here ≡ fault n → Parted s here None
  unfolding Parted fold_here
  no_fold n e = gets_not (gets_first _ (byte s here) g) n e

  module _ (b a : ℕ) (e : byte s here ≡ got b a) where
    after_fold : Gets (fold s a)
    unfolding fold_here
    after_fold = gets_rest _ (byte s here) g b a e

    is_operator : Gets (operator s a)
    unfolding fold
    is_operator = gets_first _ (operator s a) after_fold

    pub no_operator : (n : ℕ) → byte s a ≡ fault n → Parted s here None
    unfolding Parted operator
    no_operator n d = gets_not (gets_first _ (byte s a) is_operator) n d

    module _ (op c : ℕ) (d : byte s a ≡ got op c) where
      pub after_opcode : Gets (operator_of op (form_of op) s c)
      unfolding operator
      after_opcode = gets_rest _ (byte s a) is_operator op c d

      pub no_count : (n : ℕ) → stops (operator_of op (form_of op) s c) ≡ fault n → Parted s here None
      unfolding Parted
      no_count n h = gets_not after_opcode n (stopped_at (operator_of op (form_of op) s c) n h)

      module _ (at : ℕ) (h : stops (operator_of op (form_of op) s c) ≡ got tt at) where
        abbrev Here : Gave (operator_of op (form_of op) s c) at
        Here = gave_at (operator_of op (form_of op) s c) at h

        fold_is : (y : Step ℕ) → up_to 7 16 s at ≡ y → fold_here s here ≡ onward (λ n next. got (folded Here.value n) next) y
        fold_is y k = fold-made s here b a op c at Here.value y e d Here.is k

        pub count_not : (n : ℕ) → up_to 7 16 s at ≡ fault n → Parted s here None
        unfolding Parted
        count_not n k = gets_not g n (fold_is (fault n) k)

        pub all_parts : (n next : ℕ) (f : Code.Form) → up_to 7 16 s at ≡ got n next → form_of op ≡ form_is f → Parted s here (Some (record { opcode = op; form = f; at = c; count = n; next = next }))
        unfolding Parted
        all_parts n next f k says = record {
          says = says;
          operator = Here.value;
          past = at;
          reads = Here.is;
          whole = fold_is (got n next) k;
        }

pub ruleset parted = (no_fold, no_operator, after_opcode, no_count, count_not, all_parts)
