-- Instructions that are passed over: where their operands end, along what the calls of the code answered.
use mathlib.Core.Path.{◌≡◌, refl, ◌∙◌}
use Prim.Native.Nat.{ℕ}
use Rattle.definition.specs.Syntax.{Bytes}
use Rattle.definition.specs.Reader.{Step, got, fault, onward, byte, many}
use Rattle.definition.specs.Token.{u32, u64, counted, ref_type, present, optional}
use Rattle.definition.specs.Instructions as Instructions
use Rattle.definition.specs.Instructions.{plain_of, alignment, bare, labelidx, labelidxs, localidx, funcidx, globalidx, memidx, memarg, i32, i64, f32, f64, heaptype, bulk, bulk_of, spaces_of}
use Rattle.laws.specs.Steps.{stops}
use Rattle.syntax.proofs.Ways.{skip_handed}
use Rattle.token.proofs.Skips.{stops-made, stops_then, stops_not}
use Rattle.syntax.specs.Plain.{operands_is}
use Rattle.syntax.specs.declared.Operands.{Operands}

-- what stands after an opcode was matched
pub passed_is : (w v : Operands) (op : ℕ) (s : Bytes) (at : ℕ) (x : Step (Unit {0})) → w ≡ v → stops (plain_of op (operands_is v) s at) ≡ x → stops (plain_of op (operands_is w) s at) ≡ x
passed_is w v op s at x d p = rw d p

module _ (op : ℕ) (s : Bytes) (at : ℕ) (x : Step (Unit {0})) where
  -- operands that one call passes
  pub bare_past : got tt at ≡ x → stops (plain_of op bare s at) ≡ x
  unfolding plain_of
  bare_past p = p

  pub label-past : stops (present s at) ≡ x → stops (plain_of op labelidx s at) ≡ x
  unfolding plain_of
  label-past p = stops-made _ (present s at) ∙ p

  pub local-past : stops (present s at) ≡ x → stops (plain_of op localidx s at) ≡ x
  unfolding plain_of
  local-past p = stops-made _ (present s at) ∙ p

  pub func-past : stops (present s at) ≡ x → stops (plain_of op funcidx s at) ≡ x
  unfolding plain_of
  func-past p = stops-made _ (present s at) ∙ p

  pub global-past : stops (present s at) ≡ x → stops (plain_of op globalidx s at) ≡ x
  unfolding plain_of
  global-past p = stops-made _ (present s at) ∙ p

  pub mem-past : stops (optional s at) ≡ x → stops (plain_of op memidx s at) ≡ x
  unfolding plain_of
  mem-past p = stops-made _ (optional s at) ∙ p

  pub i32_past : stops (u32 s at) ≡ x → stops (plain_of op i32 s at) ≡ x
  unfolding plain_of
  i32_past p = stops-made _ (u32 s at) ∙ p

  pub i64_past : stops (u64 s at) ≡ x → stops (plain_of op i64 s at) ≡ x
  unfolding plain_of
  i64_past p = stops-made _ (u64 s at) ∙ p

  pub f32_past : stops (many 4 byte s at) ≡ x → stops (plain_of op f32 s at) ≡ x
  unfolding plain_of
  f32_past p = stops-made _ (many 4 byte s at) ∙ p

  pub f64_past : stops (many 8 byte s at) ≡ x → stops (plain_of op f64 s at) ≡ x
  unfolding plain_of
  f64_past p = stops-made _ (many 8 byte s at) ∙ p

  pub heap_past : stops (ref_type s at) ≡ x → stops (plain_of op heaptype s at) ≡ x
  unfolding plain_of
  heap_past p = stops-made _ (ref_type s at) ∙ p

pub ruleset operands-passed = (bare_past, label-past, local-past, func-past, global-past, mem-past, i32_past, i64_past, f32_past, f64_past, heap_past, refl)

-- the alignment, the offset, the memory
module _ (op : ℕ) (s : Bytes) (at : ℕ) where
  pub access_past : (b a c : ℕ) → alignment s at ≡ got b a → stops (u32 s a) ≡ got tt c → stops (plain_of op memarg s at) ≡ stops (optional s c)
  unfolding plain_of
  access_past b a c d e = rw d (stops_then (stops (optional s c)) _ (u32 s a) c e (λ o. stops-made _ (optional s c)))

  pub access_no_offset : (b a k : ℕ) → alignment s at ≡ got b a → stops (u32 s a) ≡ fault k → stops (plain_of op memarg s at) ≡ fault k
  unfolding plain_of
  access_no_offset b a k d e = rw d (stops_not (fault k) _ (u32 s a) k e refl)

  pub access_not : (k : ℕ) → alignment s at ≡ fault k → stops (plain_of op memarg s at) ≡ fault k
  unfolding plain_of
  access_not k d = rw d

pub ruleset accesses = (access_past, access_no_offset, access_not, skip_handed)

-- ## Where the operands end is the same for every opcode

stops_under : {A B C : Type 0} (k : A → ℕ → Step B) (l : A → ℕ → Step C) (m : Step A) → ((a : A) (n : ℕ) → stops (k a n) ≡ stops (l a n)) → stops (onward k m) ≡ stops (onward l m)
stops_under k l (got a n) f = f a n
stops_under k l (fault n) f = refl

pub any-opcode : (op : ℕ) (w : Instructions.Operands) (s : Bytes) (at : ℕ) → stops (plain_of op w s at) ≡ stops (plain_of 0 w s at)
unfolding plain_of
any-opcode op bare s at = refl
any-opcode op labelidx s at = stops_under _ _ (present s at) (λ x n. refl)
any-opcode op labelidxs s at = stops_under _ _ (counted 1024 present s at) (λ xs a. stops_under _ _ (present s a) (λ x n. refl))
any-opcode op localidx s at = stops_under _ _ (present s at) (λ x n. refl)
any-opcode op funcidx s at = stops_under _ _ (present s at) (λ x n. refl)
any-opcode op globalidx s at = stops_under _ _ (present s at) (λ x n. refl)
any-opcode op memidx s at = stops_under _ _ (optional s at) (λ x n. refl)
any-opcode op memarg s at = stops_under _ _ (alignment s at) (λ b a. stops_under _ _ (u32 s a) (λ o c. stops_under _ _ (optional s c) (λ x n. refl)))
any-opcode op i32 s at = stops_under _ _ (u32 s at) (λ x n. refl)
any-opcode op i64 s at = stops_under _ _ (u64 s at) (λ x n. refl)
any-opcode op f32 s at = stops_under _ _ (many 4 byte s at) (λ x n. refl)
any-opcode op f64 s at = stops_under _ _ (many 8 byte s at) (λ x n. refl)
any-opcode op heaptype s at = stops_under _ _ (ref_type s at) (λ x n. refl)
any-opcode op bulk s at = stops_under _ _ (byte s at) (λ b a. stops_under _ _ (bulk_of b (spaces_of b) s a) (λ x n. refl))
