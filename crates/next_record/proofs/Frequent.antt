-- What is met often after an opcode: the code's table says what the definition's forms say, and it is passed over as they are.
use Rattle.std.specs.Prelude.{Option as Optional, Some, None}
use mathlib.Core.Path.{◌≡◌, refl, sym, ◌∙◌}
use mathlib.Core.Bool.{Bool, true, false, ◌||◌, false≢true}
use mathlib.Core.List.{List, [], ◌∷◌}
use mathlib.Core.Option.{Option, none, some}
use Prim.Native.Nat.{ℕ, ◌<◌}
use lib.Dec.{ltb}
use borrow.Author.Tests.{le-ltb}
use native.Mathlib.Omega.{arith}
use Rattle.definition.specs.Basic.{between}
use Rattle.definition.specs.Syntax.{Bytes}
use Rattle.definition.specs.Reader.{Step}
use Rattle.definition.specs.Token.{u32, present}
use Rattle.definition.specs.Instructions as Instructions
use Rattle.definition.specs.Instructions.{opening, elsing, ending, calling, operands, form_of, form_in, opcodes, plain_of}
use Rattle.laws.specs.Steps.{stops}
use Rattle.laws.proofs.Table.{everywhere}
use Rattle.syntax.specs.Plain.{operands_is}
use Rattle.syntax.specs.declared.Operands.{Operands}
use Rattle.syntax.specs.declared.Operands.TheVariants as W
use Rattle.syntax.specs.Instructions.{form_is}
use Rattle.syntax.specs.declared.Form.TheVariants as FM
use Rattle.token.proofs.Skips.{stops-made}
use Rattle.next_record.specs.Uses.{sort_names}
use Rattle.next_record.specs.Often.{form_sort, sort, OftenIs, often_stops}
use Rattle.next_record.specs.declared.often.Often.{Often}
use Rattle.next_record.specs.declared.often.Often.TheVariants as O

-- ## What is told of an opcode

pub told-nothing : (b : ℕ) → OftenIs b None
unfolding OftenIs
told-nothing b = tt

abbrev is_nothing : Optional Often → Bool
is_nothing (Some O.Nothing) = true
is_nothing (Some O.Index) = false
is_nothing (Some O.Access) = false
is_nothing (Some O.Number) = false
is_nothing None = false

is-nothing : (r : Optional Often) → is_nothing r ≡ true → r ≡ Some O.Nothing
is-nothing (Some O.Nothing) e = refl
is-nothing (Some O.Index) e = absurd (false≢true e)
is-nothing (Some O.Access) e = absurd (false≢true e)
is-nothing (Some O.Number) e = absurd (false≢true e)
is-nothing None e = absurd (false≢true e)

-- nothing stands after those from 45 to C4: computed at each
pub numeric : (b : ℕ) → 0x44 < b → b < 0xC5 → OftenIs b (Some O.Nothing)
unfolding OftenIs form_of form_in opcodes between
numeric b g h = is-nothing (sort b) (go (ltb b 0x45) (le-ltb b 0x45 g) (everywhere (λ k. ltb k 0x45 || is_nothing (sort k)) 0xC5 tt b h))
  where
    go : (u : Bool) → u ≡ false → (u || is_nothing (sort b)) ≡ true → is_nothing (sort b) ≡ true
    go true z e = absurd (false≢true (sym z))
    go false z e = e

-- ## What it means

-- an operator whose operands are met often: where they end, and that none of them names a data segment
pub record Met (b : ℕ) (s : Bytes) (at : ℕ) (x : Step (Unit {0})) : Type 0 where
  pub what : Operands
  pub says : form_of b ≡ form_is (FM.Operands what)
  pub past : stops (plain_of 0 (operands_is what) s at) ≡ x
  pub calm : (n : ℕ) → false ≡ sort_names (operands_is what) n

is-sort : (b : ℕ) (r : Optional Often) (v : Often) → OftenIs b r → r ≡ Some v → sort b ≡ Some v
unfolding OftenIs
is-sort b r v e h = rw h at e

pub met_often : (b : ℕ) (r : Optional Often) (v : Often) → OftenIs b r → r ≡ Some v → (s : Bytes) (at : ℕ) (x : Step (Unit {0})) → often_stops v s at ≡ x → Met b s at x
unfolding plain_of
met_often b r v e h s at x p = go (form_of b) refl (is-sort b r v e h)
  where
    by : (w : Operands) → form_of b ≡ form_is (FM.Operands w) → stops (plain_of 0 (operands_is w) s at) ≡ x → ((n : ℕ) → false ≡ sort_names (operands_is w) n) → Met b s at x
    by w f q c = record { what = w; says = f; past = q; calm = c }

    none_said : ◌≡◌ {A = Optional Often} None (Some v) → Met b s at x
    none_said i = let z : ◌≡◌ {A = ℕ} 0 1 = cc in absurd (omega arith)

    go : (m : Option Instructions.Form) → form_of b ≡ m → form_sort m ≡ Some v → Met b s at x
    go none f i = none_said i
    go (some opening) f i = none_said i
    go (some elsing) f i = none_said i
    go (some ending) f i = none_said i
    go (some calling) f i = none_said i
    go (some (operands Instructions.bare)) f i = let q : O.Nothing ≡ v = cc in by W.Bare f (rw (← q) at p) (λ n. refl)
    go (some (operands Instructions.labelidx)) f i = let q : O.Index ≡ v = cc in by W.LabelIdx f (stops-made _ (present s at) ∙ (rw (← q) at p)) (λ n. refl)
    go (some (operands Instructions.labelidxs)) f i = none_said i
    go (some (operands Instructions.localidx)) f i = let q : O.Index ≡ v = cc in by W.LocalIdx f (stops-made _ (present s at) ∙ (rw (← q) at p)) (λ n. refl)
    go (some (operands Instructions.funcidx)) f i = let q : O.Index ≡ v = cc in by W.FuncIdx f (stops-made _ (present s at) ∙ (rw (← q) at p)) (λ n. refl)
    go (some (operands Instructions.globalidx)) f i = let q : O.Index ≡ v = cc in by W.GlobalIdx f (stops-made _ (present s at) ∙ (rw (← q) at p)) (λ n. refl)
    go (some (operands Instructions.memidx)) f i = none_said i
    go (some (operands Instructions.memarg)) f i = let q : O.Access ≡ v = cc in by W.MemArg f (rw (← q) at p) (λ n. refl)
    go (some (operands Instructions.i32)) f i = let q : O.Number ≡ v = cc in by W.I32 f (stops-made _ (u32 s at) ∙ (rw (← q) at p)) (λ n. refl)
    go (some (operands Instructions.i64)) f i = none_said i
    go (some (operands Instructions.f32)) f i = none_said i
    go (some (operands Instructions.f64)) f i = none_said i
    go (some (operands Instructions.heaptype)) f i = none_said i
    go (some (operands Instructions.bulk)) f i = none_said i

-- ## Passed over

module _ (r v : Often) (d : r ≡ v) (s : Bytes) (at : ℕ) (x : Step (Unit {0})) where
  pub often_past : often_stops v s at ≡ x → often_stops r s at ≡ x
  often_past p = rw d p
