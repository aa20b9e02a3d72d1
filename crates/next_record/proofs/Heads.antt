-- What stands after F0, read quickly; and that a record has few operands.
use Rattle.std.specs.Prelude.{Option as Optional, Some}
use mathlib.Core.Path.{◌≡◌, refl, ◌∙◌}
use Prim.Native.Nat.{ℕ, ◌≤◌}
use mathlib.Core.Bool.{Bool, true, false}
use lib.Dec.{leb}
use lib.ListN.{get_or}
use borrow.Author.Tests.{leb-true}
use native.Mathlib.Omega.{arith}
use Rattle.definition.specs.Syntax as Syntax
use Rattle.definition.specs.Syntax.{Bytes, Identifier, folded}
use Rattle.definition.specs.Reader.{Step, got, fault, onward, require, byte}
use Rattle.definition.specs.Token.{u32, up_to}
use Rattle.definition.specs.Instructions.{plain_of, instruction, may_fold, operator, fold}
use Rattle.laws.specs.Steps.{stops}
use Rattle.token.proofs.Skips.{stops-made, gave_at, stopped_at}
use Rattle.expr.proofs.Skips.{any-opcode}
use Rattle.syntax.specs.Plain.{operands_is}
use Rattle.syntax.specs.declared.Form.TheVariants as FM
use Rattle.instr.specs.Readers.{count_of}
use Rattle.next_record.specs.Often.{OftenIs, often_stops}
use Rattle.next_record.specs.Folds.{Head, head_of, head_at, head_with}
use Rattle.next_record.specs.declared.record.Does.{Does}
use Rattle.next_record.specs.Folds as L
use Rattle.next_record.specs.declared.often.Often.{Often}
use Rattle.next_record.proofs.Frequent.{Met, met_often}
use Rattle.next_record.proofs.Folding.{does_plain, head-got, head_not}

-- what stands after an operator that was read is its count
count-made : (m : Step ℕ) (x : Syntax.Instr Identifier) → count_of (onward (λ n next. got (folded x n) next) m) ≡ m
count-made (got n next) x = refl
count-made (fault n) x = refl

module _ (s : Bytes) (at : ℕ) (does : Does) (x : Head) where
  -- nothing stands there
  pub no_operator : (n : ℕ) → byte s at ≡ fault n → x ≡ L.no_head n → x ≡ head_with does (head_at s at)
  unfolding fold operator
  no_operator n d a = head_not s at does x n (rw d) a

  -- operands that are met often: the operator does nothing
  module _ (b a : ℕ) (d : byte s at ≡ got b a) (r : Optional Often) (is : OftenIs b r) (v : Often) (h : r ≡ Some v) where
    met : (y : Step (Unit {0})) → often_stops v s a ≡ y → Met b s a y
    met y p = met_often b r v is h s a y p

    operands-past : (y : Step (Unit {0})) → often_stops v s a ≡ y → stops (operator s at) ≡ y
    unfolding operator may_fold instruction
    operands-past y p = let m = met y p in rw (d, m.says) (stops-made _ (plain_of b (operands_is m.what) s a) ∙ any-opcode b (operands_is m.what) s a ∙ m.past)

    pub no_operands : (n : ℕ) → often_stops v s a ≡ fault n → x ≡ L.no_head n → x ≡ head_with does (head_at s at)
    unfolding fold
    no_operands n g i = head_not s at does x n (rw (stopped_at (operator s at) n (operands-past (fault n) g))) i

    module _ (c : ℕ) (g : often_stops v s a ≡ got tt c) where
      counted-at : count_of (fold s at) ≡ up_to 7 16 s c
      unfolding fold
      counted-at = let z = gave_at (operator s at) c (operands-past (got tt c) g) in rw z.is (count-made (up_to 7 16 s c) z.value)

      pub no_count : (n : ℕ) → up_to 7 16 s c ≡ fault n → x ≡ L.no_head n → x ≡ head_with does (head_at s at)
      no_count n i j = head_not s at does x n (counted-at ∙ i) j

      pub with_count : (n next : ℕ) → up_to 7 16 s c ≡ got n next → x ≡ L.head does n next → x ≡ head_with does (head_at s at)
      with_count n next i j =
          let m = met (got tt c) g in
          head-got s at does x n next does (counted-at ∙ i) (does_plain s at does b a d (FM.Operands m.what) m.says m.what false refl (m.calm (get_or s a 0)) refl) j

-- it has at most 16 operands: so its count was read
up_to-few : (s : Bytes) (at n next : ℕ) → up_to 7 16 s at ≡ got n next → n ≤ 16
unfolding up_to
up_to-few s at n next e = go (u32 s at) e
  where
    tested : (k a : ℕ) (t : Bool) → leb k 16 ≡ t → onward (λ _ b. got k b) (require 7 t s a) ≡ got n next → n ≤ 16
    tested k a true d e = let z : k ≡ n = cc in rw (← z) (leb-true k 16 d)
    tested k a false d e = let z : ◌≡◌ {A = ℕ} 0 1 = cc in absurd (omega arith)

    go : (m : Step ℕ) → onward (λ k a. onward (λ _ b. got k b) (require 7 (leb k 16) s a)) m ≡ got n next → n ≤ 16
    go (got k a) e = tested k a (leb k 16) refl e
    go (fault k) e = let z : ◌≡◌ {A = ℕ} 0 1 = cc in absurd (omega arith)

-- and so it was given
pub head_few : (s : Bytes) (at : ℕ) (does e : Does) (n next : ℕ) → head_with does (head_at s at) ≡ L.head e n next → n ≤ 16
unfolding head_at fold
head_few s at does e n next h = go (operator s at) h
  where
    count : (y : Syntax.Instr Identifier) (a : ℕ) (m : Step ℕ) → up_to 7 16 s a ≡ m → head_with does (head_of (onward (λ k b. got (folded y k) b) m)) ≡ L.head e n next → n ≤ 16
    count y a (got k b) d h = let z : k ≡ n = cc in rw (← z) (up_to-few s a k b d)
    count y a (fault k) d h = let z : ◌≡◌ {A = ℕ} 0 1 = cc in absurd (omega arith)

    go : (m : Step (Syntax.Instr Identifier)) → head_with does (head_of (onward (λ y a. onward (λ k b. got (folded y k) b) (up_to 7 16 s a)) m)) ≡ L.head e n next → n ≤ 16
    go (got y a) h = count y a (up_to 7 16 s a) refl h
    go (fault k) h = let z : ◌≡◌ {A = ℕ} 0 1 = cc in absurd (omega arith)
