-- How `search` follows the definition past an answer of this crate.
use mathlib.Core.Path.{◌≡◌, refl}
use mathlib.Core.Bool.{true, false, not}
use mathlib.Core.Option.{Option}
use Prim.Native.Nat.{ℕ, zero, suc}
use lib.Dec.{ltb}
use borrow.Author.Tests.{lt-ltb}
use native.Mathlib.Omega.{arith}
use Rattle.definition.specs.Syntax as Syntax
use Rattle.definition.specs.Syntax.{Bytes, Identifier}
use Rattle.definition.specs.Reader.{Step, got, fault, require, ◌>>◌}
use Rattle.definition.specs.Instructions.{Form, opening, elsing, ending, instruction, is_open, admits, formed, operator_of}
use Rattle.laws.specs.Depths.{deep}
use Rattle.laws.proofs.Bodies.{deep-length, deep_open, deep_else}
use Rattle.instr.specs.Bodies.{deep_instr, Head, one, unread, on_byte, one_of}

-- ## The forms

module _ (k op : ℕ) where
  pub deep_opening : deep_instr k op opening ≡ (require 7 (ltb k 128) >> instruction op opening)
  unfolding deep_instr admits
  deep_opening = rw (deep-length k)

  pub deep_elsing : deep_instr k op elsing ≡ (require 8 (ltb 0 k) >> instruction op elsing)
  unfolding deep_instr admits
  deep_elsing = rw (deep_else k)

  pub deep_ending : deep_instr k op ending ≡ (require 8 (ltb 0 k) >> instruction op ending)
  unfolding deep_instr admits
  deep_ending = rw (deep_open k)

  -- what is tested before an instruction is read
  module _ (s : Bytes) (at : ℕ) (x : Step (Syntax.Instr Identifier)) where
    pub opening_tests : (require 7 (ltb k 128) >> instruction op opening) s at ≡ x → deep_instr k op opening s at ≡ x
    opening_tests p = rw deep_opening p

    pub elsing_tests : (require 8 (ltb 0 k) >> instruction op elsing) s at ≡ x → deep_instr k op elsing s at ≡ x
    elsing_tests p = rw deep_elsing p

    pub ending_tests : (require 8 (ltb 0 k) >> instruction op ending) s at ≡ x → deep_instr k op ending s at ≡ x
    ending_tests p = rw deep_ending p

pub ruleset tested = (opening_tests, elsing_tests, ending_tests)

-- the form of an opcode is known
pub form_is_lem : (o f : Option Form) (k op : ℕ) (s : Bytes) (at : ℕ) (x : Step (Syntax.Instr Identifier)) → o ≡ f → formed (deep k) op f s at ≡ x → formed (deep k) op o s at ≡ x
form_is_lem o f k op s at x e p = rw e p

-- ## The end of a body

pub deep_shut : (k : ℕ) → k ≡ 0 → not (is_open (deep k).blocks) ≡ true
deep_shut k e = rw (deep_open k, e)

pub deep_not_shut : (k : ℕ) → (k ≡ 0 → ⊥) → not (is_open (deep k).blocks) ≡ false
deep_not_shut zero n = absurd (n refl)
deep_not_shut (suc k) n = rw (deep_open (suc k), lt-ltb 0 (suc k) (omega arith))

-- ## What stands in a body

module _ {C : Type 0} (x : C) (m : Step ℕ) where
  pub byte_is : (b n : ℕ) (f : ℕ → ℕ → C) (z : C) → m ≡ got b n → x ≡ f b n → x ≡ on_byte m f z
  byte_is b n f z e p = rw e p

  pub byte_none : (n : ℕ) (f : ℕ → ℕ → C) (z : C) → m ≡ fault n → x ≡ z → x ≡ on_byte m f z
  byte_none n f z e p = rw e p

module _ (x : Head) (m : Step (Syntax.Instr Identifier)) where
  pub one_is : (i : Syntax.Instr Identifier) (n : ℕ) → m ≡ got i n → x ≡ one i n → x ≡ one_of m
  one_is i n e p = rw e p

  pub one_none : (n : ℕ) → m ≡ fault n → x ≡ unread → x ≡ one_of m
  one_none n e p = rw e p

pub ruleset heads = (refl, byte_is, byte_none, one_is, one_none)

-- ## Folded records

-- the form of an operator is known
pub operator_is : (o f : Option Form) (op : ℕ) (s : Bytes) (at : ℕ) (x : Step (Syntax.Instr Identifier)) → o ≡ f → operator_of op f s at ≡ x → operator_of op o s at ≡ x
operator_is o f op s at x e p = rw e p
