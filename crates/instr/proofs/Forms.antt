-- The code's tests of an opcode say what the definition's ranges say: compared at every byte, by computing.
use Rattle.std.specs.Prelude.{if◌then◌else◌}
use mathlib.Core.Path.{◌≡◌, refl, ap, sym, ◌∙◌}
use mathlib.Core.Bool.{Bool, true, false, ◌||◌, false≢true}
use mathlib.Core.List.{List, [], ◌∷◌}
use mathlib.Core.Option.{Option, none, some}
use Prim.Native.Nat.{ℕ, ◌≤◌, ◌<◌}
use lib.Dec.{eqb, ltb}
use borrow.Author.Tests.{eqb-true, ne_eqb, le-ltb}
use Rattle.definition.specs.Basic.{between}
use Rattle.definition.specs.Instructions as Instructions
use Rattle.definition.specs.Instructions.{opening, elsing, ending, calling, operands, form_of, form_in, opcodes}
use Rattle.laws.proofs.Table.{everywhere}
use Rattle.syntax.specs.Instructions.{form_is}
use Rattle.instr.specs.Readers.{high_form}
use Rattle.syntax.specs.declared.Form.{Form}

-- ## Forms are told apart by numbers

abbrev operands_number : Instructions.Operands → ℕ
operands_number Instructions.bare = 5
operands_number Instructions.labelidx = 6
operands_number Instructions.labelidxs = 7
operands_number Instructions.localidx = 8
operands_number Instructions.funcidx = 9
operands_number Instructions.globalidx = 10
operands_number Instructions.memidx = 11
operands_number Instructions.memarg = 12
operands_number Instructions.i32 = 13
operands_number Instructions.i64 = 14
operands_number Instructions.f32 = 15
operands_number Instructions.f64 = 16
operands_number Instructions.heaptype = 17
operands_number Instructions.bulk = 18

abbrev number : Option Instructions.Form → ℕ
number none = 0
number (some opening) = 1
number (some elsing) = 2
number (some ending) = 3
number (some calling) = 4
number (some (operands w)) = operands_number w

abbrev numbered : ℕ → Option Instructions.Form
numbered n =
    if eqb n 1 then some opening else
    if eqb n 2 then some elsing else
    if eqb n 3 then some ending else
    if eqb n 4 then some calling else
    if eqb n 5 then some (operands Instructions.bare) else
    if eqb n 6 then some (operands Instructions.labelidx) else
    if eqb n 7 then some (operands Instructions.labelidxs) else
    if eqb n 8 then some (operands Instructions.localidx) else
    if eqb n 9 then some (operands Instructions.funcidx) else
    if eqb n 10 then some (operands Instructions.globalidx) else
    if eqb n 11 then some (operands Instructions.memidx) else
    if eqb n 12 then some (operands Instructions.memarg) else
    if eqb n 13 then some (operands Instructions.i32) else
    if eqb n 14 then some (operands Instructions.i64) else
    if eqb n 15 then some (operands Instructions.f32) else
    if eqb n 16 then some (operands Instructions.f64) else
    if eqb n 17 then some (operands Instructions.heaptype) else
    if eqb n 18 then some (operands Instructions.bulk) else
    none

operands_back : (w : Instructions.Operands) → numbered (operands_number w) ≡ some (operands w)
operands_back Instructions.bare = refl
operands_back Instructions.labelidx = refl
operands_back Instructions.labelidxs = refl
operands_back Instructions.localidx = refl
operands_back Instructions.funcidx = refl
operands_back Instructions.globalidx = refl
operands_back Instructions.memidx = refl
operands_back Instructions.memarg = refl
operands_back Instructions.i32 = refl
operands_back Instructions.i64 = refl
operands_back Instructions.f32 = refl
operands_back Instructions.f64 = refl
operands_back Instructions.heaptype = refl
operands_back Instructions.bulk = refl

back : (f : Option Instructions.Form) → numbered (number f) ≡ f
back none = refl
back (some opening) = refl
back (some elsing) = refl
back (some ending) = refl
back (some calling) = refl
back (some (operands w)) = operands_back w

same_form : (f g : Option Instructions.Form) → number f ≡ number g → f ≡ g
same_form f g e = sym (back f) ∙ ap numbered e ∙ back g

-- ## The table below 45

-- the opcodes there, the last first
abbrev pub early : List ℕ
early =
    0x44 ∷ 0x43 ∷ 0x42 ∷ 0x41 ∷ 0x40 ∷ 0x3F ∷ 0x3E ∷ 0x3D ∷ 0x3C ∷ 0x3B ∷ 0x3A ∷ 0x39 ∷ 0x38 ∷ 0x37 ∷ 0x36 ∷ 0x35 ∷ 0x34 ∷
    0x33 ∷ 0x32 ∷ 0x31 ∷ 0x30 ∷ 0x2F ∷ 0x2E ∷ 0x2D ∷ 0x2C ∷ 0x2B ∷ 0x2A ∷ 0x29 ∷ 0x28 ∷ 0x24 ∷ 0x23 ∷ 0x22 ∷ 0x21 ∷ 0x20 ∷
    0x1B ∷ 0x1A ∷ 0x11 ∷ 0x10 ∷ 0x0F ∷ 0x0E ∷ 0x0D ∷ 0x0C ∷ 0x0B ∷ 0x05 ∷ 0x04 ∷ 0x03 ∷ 0x02 ∷ 0x01 ∷ 0x00 ∷ []

-- a number is none of these, as the last arm of a `match` has it, and by tests
abbrev pub NoneOf : ℕ → List ℕ → Type 0
NoneOf b [] = Unit {0}
NoneOf b (k ∷ ks) = NoneOf b ks × (b ≡ k → ⊥)

abbrev is_of : ℕ → List ℕ → Bool
is_of b [] = false
is_of b (k ∷ ks) = eqb b k || is_of b ks

none_of : (b : ℕ) (ks : List ℕ) → NoneOf b ks → is_of b ks ≡ false
none_of b [] r = refl
none_of b (k ∷ ks) r = rw (ne_eqb b k r.1) (none_of b ks r.0)

-- a number below 45 that is none of them is no opcode: compared at each, by computing
pub no_early : (b : ℕ) → b < 0x45 → NoneOf b early → form_of b ≡ none
unfolding form_of form_in opcodes between
no_early b h r =
    let e : (is_of b early || eqb (number (form_of b)) 0) ≡ true = everywhere (λ k. is_of k early || eqb (number (form_of k)) 0) 0x45 tt b h in
    same_form (form_of b) none (eqb-true _ _ (rw (none_of b early r) at e))

-- ## The rest, compared at every byte

forms_right : (b : ℕ) → b < 256 → 0x45 ≤ b → form_of b ≡ high_form b
unfolding form_of form_in opcodes between high_form
forms_right b h g = same_form (form_of b) (high_form b) (eqb-true _ _ (go (ltb b 0x45) (le-ltb _ _ g) (everywhere (λ k. ltb k 0x45 || eqb (number (form_of k)) (number (high_form k))) 256 tt b h)))
  where
    go : (u : Bool) → u ≡ false → (u || eqb (number (form_of b)) (number (high_form b))) ≡ true → eqb (number (form_of b)) (number (high_form b)) ≡ true
    go true z e = absurd (false≢true (sym z))
    go false z e = e

pub high_is : (b : ℕ) → b < 256 → (r : Form) → 0x45 ≤ b → form_is r ≡ high_form b → form_of b ≡ form_is r
high_is b h r g e = forms_right b h g ∙ sym e
