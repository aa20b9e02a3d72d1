-- How the definition is followed past an answer of this crate.
use mathlib.Core.Path.{◌≡◌, refl}
use mathlib.Core.Bool.{true, false}
use mathlib.Core.List.{List}
use mathlib.Core.Option.{Option}
use Prim.Native.Nat.{ℕ}
use Rattle.definition.specs.Syntax as Syntax
use Rattle.definition.specs.Syntax.{Bytes, Identifier, item_r}
use Rattle.definition.specs.Reader.{Step, got, fault, onward, byte, choose}
use Rattle.definition.specs.Records.{Forms}
use Rattle.syntax.specs.Items.{room_of}
use Rattle.sources.specs.Readers.{source}
use Rattle.syntax.specs.declared.Seen.{Seen}
use Rattle.item_records.specs.Readers.{item_of}

-- whether there was a start
pub start_gone : (seen : Seen) → seen.started ≡ true → (room_of seen).start ≡ false
unfolding room_of
start_gone seen e = rw e

pub start_left : (seen : Seen) → seen.started ≡ false → (room_of seen).start ≡ true
unfolding room_of
start_left seen e = rw e

pub ruleset starts = (start_gone, start_left)

-- ## An item's form byte is read with its form

onward-onward : {A B C : Type 0} (k : B → ℕ → Step C) (j : A → ℕ → Step B) (m : Step A) → onward (λ a n. onward k (j a n)) m ≡ onward k (onward j m)
onward-onward k j (got a n) = refl
onward-onward k j (fault n) = refl

module _ (forms : Forms) (i : Option Identifier) (es : List Bytes) (s : Bytes) (at : ℕ) where
  parted : item_of forms i es s at ≡ onward (λ y n. got (item_r i es y) n) (source forms s at)
  unfolding item_of source
  parted = onward-onward (λ y n. got (item_r i es y) n) (λ b next. choose b forms s next) (byte s at)

  pub form_read : (y : Syntax.Source Identifier) (n : ℕ) → source forms s at ≡ got y n → item_of forms i es s at ≡ got (item_r i es y) n
  form_read y n e = rw parted (rw e refl)

  pub form_not : (n : ℕ) → source forms s at ≡ fault n → item_of forms i es s at ≡ fault n
  form_not n e = rw parted (rw e refl)
