-- Plain mathematics of lists that are known to be readable: what is left of them is, and so are those of the table.
use Rattle.std.specs.Prelude.{Ok, Option, Some, None}
use Rattle.syntax.specs.Reads.{Read}
use Rattle.std.specs.Prelude.{if◌then◌else◌}
use Prim.Native.Nat.{ℕ, zero, suc, ◌+◌, ◌-◌, ◌*◌, ◌≤◌, ◌<◌, min}
use mathlib.Core.Path.{◌≡◌, refl, sym, ap, ◌∙◌}
use mathlib.Core.Bool.{Bool, true, false}
use mathlib.Core.List.{List, []}
use lib.ListN.{length}
use lib.Dec.{eqb}
use native.Mathlib.Decide.{dec_le}
use native.Mathlib.Omega.{arith}
use Rattle.definition.specs.Syntax.{Bytes}
use Rattle.definition.specs.Reader.{got, fault, many}
use Rattle.definition.specs.Token.{param}
use Rattle.laws.specs.Steps.{stops}
use Rattle.token.specs.Known.{Gets}
use Rattle.typeuse.specs.Known.{Readable}
use Rattle.typeuse.proofs.Gets.{know_begin, know_local, know_again}
use Rattle.area.specs.Layout.{TYPES}
use Rattle.syntax.specs.TypeUses.{local_at, elements}
use Rattle.syntax.specs.declared.Local.{Local}
use Rattle.syntax.specs.declared.List as Code
use Rattle.syntax.specs.declared.TypeUse.{TypeUse}
use Rattle.type_table.specs.Known.{Passable, Rest, BothPassable, ReadableSignature}
use Rattle.type_table.specs.Table.{typed, types_next, both_next, KnownBoth, of_use, entry_in, type_words, Indexed}
use Rattle.type_table.specs.declared.list.NextBoth.{NextBoth}
use Rattle.type_table.specs.declared.list.NextBoth.TheVariants as B
use Rattle.type_table.specs.declared.entry.Signature.{Signature}
use Rattle.type_table.proofs.Entries.{clip, typed_out, entry-written}
use Rattle.type_table.proofs.Lists.{both_told, InStep, in_step_begin, in_step_again}

-- ## The next type

-- the place after a type that was read
abbrev place_of : Option (ℕ × ℕ) → ℕ
place_of (Some x) = x.1
place_of None = 0

module _ (named : Bool) (s : Bytes) (at left : ℕ) (k : Passable named s at left) where
  module _ (is : named ≡ true) (h : left ≡ 0 → ⊥) where
    all_get : Gets (many left param s at)
    all_get = (rw is at k).reads

    -- a parameter that is left can be read
    pub next_gets : Gets (param s at)
    next_gets = know_local left s at left at (know_begin param left s at all_get) (omega arith)

    -- and those after it
    pub rest-param : (r : Read Local) (l : Local) (q : ℕ) → param s at ≡ local_at s r → r ≡ Ok (l, q) → Rest named left s (Some (l.value, q))
    rest-param r l q e d = record {
      rest = λ t p f.
          let z : q ≡ p = ap place_of f in
          rw (is, ← z) (record { reads = (know_again left s at left at param (know_begin param left s at all_get) (omega arith) q (ap stops (e ∙ ap (local_at s) d))).gets });
    }

-- nothing is left
pub rest_end : (named : Bool) (left : ℕ) (s : Bytes) → Rest named left s None
rest_end named left s = record { rest = λ t q d. let z : ◌≡◌ {A = ℕ} 0 1 = cc in absurd (omega arith) }

-- of types alone nothing need be known
plain_passable : (named : Bool) (s : Bytes) (at left : ℕ) → named ≡ false → Passable named s at left
plain_passable named s at left e = rw e (record { reads = tt })

pub rest_plain : (named : Bool) (left : ℕ) (s : Bytes) (r : Option (ℕ × ℕ)) → named ≡ false → Rest named left s r
rest_plain named left s r e = record { rest = λ t q d. plain_passable named s q (left - 1) e }

pub ruleset rests = (rest_end, rest-param, rest_plain)

-- ## Two lists

module _ (s : Bytes) (named : Bool) (a : Code.List) (other : Bool) (b : Code.List) where
  both_rest : (m n : Option (ℕ × ℕ)) → Rest named a.count s m → Rest other b.count s n → BothPassable s named other (both_next a m b n)
  unfolding both_next
  both_rest (Some (x, k)) (Some (y, h)) u v = go (eqb x y)
    where
      go : (t : Bool) → BothPassable s named other (if t then B.Same (record { at = k; count = a.count - 1 }) (record { at = h; count = b.count - 1 }) else B.Differ)
      go true = (u.rest x k refl, v.rest y h refl)
      go false = tt
  both_rest (Some (x, k)) None u v = tt
  both_rest None (Some (y, h)) u v = tt
  both_rest None None u v = tt

  pub both-known : (m n : Option (ℕ × ℕ)) (r : NextBoth) → elements (typed named) s a.at a.count ≡ types_next named a.count s m → Rest named a.count s m
      → elements (typed other) s b.at b.count ≡ types_next other b.count s n → Rest other b.count s n → r ≡ both_next a m b n → KnownBoth s named a other b r
  both-known m n r p u q v e = record { both = both_told s named a other b m n r p q e; rest = rw e (both_rest m n u v) }

-- two lists are walked in step, and what is left of them can be read
pub record KnownStep (s : Bytes) (named : Bool) (a : Code.List) (other : Bool) (b x y : Code.List) : Type 0 where
  pub step : InStep s named a other b x y
  pub first : Passable named s x.at x.count
  pub second : Passable other s y.at y.count

pub known-begin : (s : Bytes) (named : Bool) (a : Code.List) (other : Bool) (b : Code.List) → Passable named s a.at a.count → Passable other s b.at b.count
    → KnownStep s named a other b a b
known-begin s named a other b p q = record { step = in_step_begin s named a other b; first = p; second = q }

pub known_again : (s : Bytes) (named : Bool) (a : Code.List) (other : Bool) (b x y : Code.List) → KnownStep s named a other b x y → (r : NextBoth) → KnownBoth s named x other y r
    → (p q : Code.List) → r ≡ B.Same p q → KnownStep s named a other b p q
known_again s named a other b x y v r e p q d =
    let k : BothPassable s named other (B.Same p q) = rw d at e.rest in
    record { step = in_step_again s named a other b x y v.step r e.both p q d; first = k.0; second = k.1 }

-- ## Signatures

-- the parameters of a use
pub use_readable : (s : Bytes) (t : TypeUse) (x : Signature) → x ≡ of_use t → Readable s t.params → ReadableSignature s x
use_readable s t x e g = rw e (record { reads = g })

-- the types of the table
pub type-readable : (s w : List ℕ) (count n : ℕ) (y : Signature) → Indexed s w count → y ≡ entry_in w (TYPES + 5 * n) → n < count → ReadableSignature s y
type-readable s w count n y v e h = rw e (v.readable n h)

-- what can be read stands within the stream
clip_passable : (named : Bool) (s : Bytes) (l : Code.List) → Passable named s l.at l.count → Passable named s (clip s l).at (clip s l).count
unfolding many
clip_passable false s l k = record { reads = tt }
clip_passable true s l k = record { reads = go l.count (dec_le (length s) l.at) k.reads }
  where
    go : (n : ℕ) → Dec (length s ≤ l.at) → Gets (many n param s l.at) → Gets (many n param s (min l.at (length s)))
    go n (no h) g = let m : min l.at (length s) ≡ l.at = omega arith in rw m g
    go zero (yes h) g = record { value = []; next = min l.at (length s); is = refl }
    go (suc n) (yes h) g =
        let p = know_local (suc n) s l.at (suc n) l.at (know_begin param (suc n) s l.at g) (omega arith) in
        let e : got p.value.type p.next ≡ fault 2 = sym (rw p.is) ∙ typed_out true s l.at h in
        let z : ◌≡◌ {A = ℕ} 0 1 = cc in
        absurd (omega arith)

-- a signature that was written can be read there
pub entry-readable : (s w : List ℕ) (at : ℕ) (x : Signature) → at + 4 < length w → ReadableSignature s x → ReadableSignature s (entry_in (type_words s w at x) at)
entry-readable s w at x h k = rw (entry-written s w at x h) (clip_passable x.named s x.params k)
