-- How the definition is followed past a test of room, and what the test tells.
use mathlib.Core.Path.{◌≡◌, sym, ◌∙◌}
use mathlib.Core.Bool.{Bool, true, false, not}
use Prim.Native.Nat.{ℕ}
use Rattle.definition.specs.Syntax.{Bytes}
use Rattle.definition.specs.Reader.{Step, fault, onward, require}

-- ## Room

-- a test that did not pass, before two more readers
pub stop_both : {A C : Type 0} (x : Step C) (k : A → ℕ → Step C) (j : Unit {0} → ℕ → Step A) (n : ℕ) (t : Bool) (s : Bytes) (here : ℕ) → t ≡ false → fault n ≡ x → onward k (onward j (require n t s here)) ≡ x
stop_both x k j n t s here e p = rw e p

-- a call told whether there is room, and there was none, or was
pub no_room : (q r : Bool) → q ≡ r → not q ≡ true → r ≡ false
no_room false r e d = sym e
no_room true r e d = sym e ∙ sym d

pub room-left : (q r : Bool) → q ≡ r → not q ≡ false → r ≡ true
room-left true r e d = sym e
room-left false r e d = sym e ∙ sym d

pub ruleset rooms = (stop_both, no_room, room-left)
