-- Laws of limits with a maximum and without, and of their flags.
use Rattle.std.specs.Prelude.{Some, None}
use Rattle.std.specs.Prelude.{if◌then◌else◌}
use Prim.Native.Nat.{ℕ, ◌+◌}
use mathlib.Core.Bool.{Bool, true, false}
use mathlib.Core.Path.{◌≡◌}
use mathlib.Core.List.{List}
use mathlib.Core.Option.{none, some}
use Rattle.definition.specs.Binary.{limits, limits_of}
use Rattle.emit.specs.Put.{Put}
use Rattle.syntax.specs.CoreTypes.{limits_is}
use Rattle.syntax.specs.declared.Limits.{Limits}

module _ (x a b : ℕ) (t : Bool) where
  -- one more than a choice
  pub more_true : t ≡ true → x ≡ a + 1 → x ≡ (if t then a else b) + 1
  more_true e d = rw e d

  pub more_false : t ≡ false → x ≡ b + 1 → x ≡ (if t then a else b) + 1
  more_false e d = rw e d

module _ (l : Limits) (old : List ℕ) (at r : ℕ) (new : List ℕ) where
  pub without_maximum : l.maximum ≡ None → Put old at (limits_of (if l.is64 then 4 else 0) l.minimum none) r new → Put old at (limits (limits_is l)) r new
  unfolding limits
  without_maximum d p = rw d p

  pub with_maximum : (high : ℕ) → l.maximum ≡ Some high → Put old at (limits_of (if l.is64 then 4 else 0) l.minimum (some high)) r new → Put old at (limits (limits_is l)) r new
  unfolding limits
  with_maximum high d p = rw d p
