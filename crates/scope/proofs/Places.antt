-- The number of a local: the nameless places come first.
use Rattle.std.specs.Prelude.{if◌then◌else◌}
use Prim.Native.Nat.{ℕ, zero, suc, ◌+◌, ◌*◌, ◌≤◌, ◌<◌}
use mathlib.Core.Path.{◌≡◌, refl}
use mathlib.Core.Bool.{Bool, true, false}
use mathlib.Core.List.{List, ◌++◌}
use mathlib.Core.Option.{Option, none, some}
use mir.Syntax.{w32}
use mir.Val.{Fits}
use lib.ListN.{length, replicate, length-append, length-replicate}
use native.Mathlib.Omega.{arith}
use Rattle.definition.specs.Basic.{ok, ◌>>=◌, same_bytes, first_at, later, Answer}
use Rattle.definition.specs.Syntax.{Identifier, LocalNo}
use Rattle.definition.specs.Names.{Namespace, carries, find, number_in, local_no, below}
use Rattle.area.specs.Flags.{strict_in}
use Rattle.area.specs.Layout.{LOCALS, WORDS}
use Rattle.syntax.specs.Refusals.{refusal, refused_by}
use Rattle.syntax.specs.Tokens.{part_of, index_of}
use Rattle.syntax.specs.declared.Refusal.{Refusal}
use Rattle.syntax.specs.declared.Fault.TheVariants as F
use Rattle.syntax.specs.declared.Part.{Part}
use Rattle.syntax.specs.declared.Index.{Index}
use Rattle.syntax.specs.declared.Index.TheVariants as X
use Rattle.name_table.specs.Area.{entry, names}
use Rattle.name_table.proofs.Walk.{shifted, names-length}
use Rattle.scope.specs.Scope.{scope_in, locals_in, FewLocals, told_local}
use Rattle.scope.specs.declared.Locals.{Locals}

-- ## Nameless places carry no name

later_shifted : (k : ℕ) (o : Option ℕ) → later (shifted k o) ≡ shifted (suc k) o
unfolding shifted
later_shifted k none = refl
later_shifted k (some n) = (let d : k + n + 1 ≡ suc k + n = omega arith in rw d)

none_shifted : (o : Option ℕ) → o ≡ shifted 0 o
unfolding shifted
none_shifted none = refl
none_shifted (some n) = (let d : 0 + n ≡ n = omega arith in rw d)

-- a name after them is found so many places on
pub find-after : (k : ℕ) (name : Identifier) (ns : Namespace Identifier) → find same_bytes name (replicate k none ++ ns) ≡ shifted k (find same_bytes name ns)
unfolding find first_at
find-after zero name ns = none_shifted (first_at (carries same_bytes name) ns)
find-after (suc k) name ns = rw (find-after k name ns) (later_shifted k (first_at (carries same_bytes name) ns))

-- a place among the entries is below their count
abbrev within : ℕ → Option ℕ → Type 0
within n none = Unit {0}
within n (some k) = k < n

entries-low : (name : Identifier) (s w : List ℕ) (n b : ℕ) → within n (find same_bytes name (names n s w b))
unfolding find first_at names
entries-low name s w zero b = tt
entries-low name s w (suc n) b = go (carries same_bytes name (entry s w b)) (find same_bytes name (names n s w (b + 3))) (entries-low name s w n (b + 3))
  where
    go : (t : Bool) (o : Option ℕ) → within n o → within (suc n) (if t then some 0 else later o)
    go true o h = omega arith
    go false none h = tt
    go false (some k) h = omega arith

-- ## The answers

module _ (s w : List ℕ) (l : Locals) (few : FewLocals l) where
  -- the entries lie in the area
  pub local-table : WORDS ≤ length w → LOCALS + 3 * l.count ≤ length w
  local-table h = omega (arith, few.named)

  module _ (name : List ℕ) (k : ℕ) (told : find same_bytes name (names l.count s w LOCALS) ≡ some k) where
    entry-low : k < l.count
    entry-low = rw told at (entries-low name s w l.count LOCALS)

    -- a place among the entries is a u32
    pub local-entry : Fits w32 k
    local-entry = record { fits = omega (arith, few.named, entry-low) }

    -- and so is the place among all locals
    pub local-place : Fits w32 (l.nameless + k)
    local-place = record { fits = omega (arith, few.nameless, few.named, entry-low) }

module _ (s w : List ℕ) (l : Locals) (r : ℕ) (x : Index) where
  -- how many there are
  limit_is : length (locals_in s w l) ≡ l.nameless + l.count
  unfolding locals_in
  limit_is = rw (length-append (replicate l.nameless none) (names l.count s w LOCALS), length-replicate {A = Option Identifier} l.nameless none, names-length l.count s w LOCALS)

  -- an absent index is 0
  pub local-absent : (a : Answer LocalNo) → x ≡ X.Absent → told_local w l r 0 ≡ a
      → local_no (scope_in s w) (locals_in s w l) r (index_of s x) ≡ a
  unfolding local_no number_in scope_in told_local
  local-absent a d h = rw (limit_is, d) h

  -- a number is itself
  pub local-number : (n : ℕ) (a : Answer LocalNo) → x ≡ X.Number n → told_local w l r n ≡ a
      → local_no (scope_in s w) (locals_in s w l) r (index_of s x) ≡ a
  unfolding local_no number_in scope_in told_local
  local-number n a d h = rw (limit_is, d) h

  module _ (p : Part) (d : x ≡ X.Named p) (name : List ℕ) (b : name ≡ part_of s p) where
    -- a name that is there
    pub local-found : (k : ℕ) → find same_bytes name (names l.count s w LOCALS) ≡ some k → local_no (scope_in s w) (locals_in s w l) r (index_of s x) ≡ ok (record { local_no = l.nameless + k })
    unfolding local_no scope_in locals_in number_in ◌>>=◌ shifted
    local-found k e = rw (d, ← b, find-after l.nameless name (names l.count s w LOCALS), e)

    -- a name that is not
    pub local-none : (z : Refusal) → find same_bytes name (names l.count s w LOCALS) ≡ none → z ≡ refusal F.NoSuchName r → local_no (scope_in s w) (locals_in s w l) r (index_of s x) ≡ refused_by z
    unfolding local_no scope_in locals_in number_in ◌>>=◌ shifted
    local-none z e f = rw (d, ← b, find-after l.nameless name (names l.count s w LOCALS), e, f)

pub ruleset locals = (local-absent, local-number, local-found, local-none)

-- a number that was told
pub told_to : (w : List ℕ) (l : Locals) (r n m : ℕ) → below (strict_in w) (l.nameless + l.count) r n ≡ ok m → told_local w l r n ≡ ok (record { local_no = m })
unfolding told_local ◌>>=◌
told_to w l r n m e = rw e

-- how many locals there are goes into a word
pub limit-fits : (l : Locals) → FewLocals l → Fits w32 (l.nameless + l.count)
limit-fits l few = record { fits = omega (arith, few.nameless, few.named) }
