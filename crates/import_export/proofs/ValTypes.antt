-- Laws of lists of value types.
use Rattle.std.specs.Prelude.{Ok, Err}
use Rattle.syntax.specs.Reads.{Read}
use Prim.Native.Nat.{ℕ, ◌+◌, ◌-◌, ◌*◌, ◌^◌, ◌≤◌, ◌<◌}
use native.Mathlib.Omega.{arith}
use mathlib.Core.Path.{◌≡◌, refl, sym, ◌∙◌, ap}
use mathlib.Core.Bool.{Bool, false}
use mathlib.Core.List.{List, [], ◌∷◌}
use lib.ListN.{length}
use Rattle.definition.specs.Basic.{concat_map}
use Rattle.definition.specs.Syntax.{Bytes}
use Rattle.definition.specs.Binary.{u, byte, vec, func_type}
use Rattle.emit.specs.Put.{Put}
use Rattle.emit.proofs.Laws.{put_then, put_cons, put_is}
use Rattle.syntax.specs.Tokens.{byte_at}
use Rattle.syntax.specs.Refusals.{number}
use Rattle.syntax.specs.TypeUses.{elements}
use Rattle.syntax.specs.declared.List as Code
use Rattle.syntax.specs.declared.Fault.{Fault}
use Rattle.type_table.specs.Table.{typed, types_of, signature_of}
use Rattle.type_table.specs.declared.entry.Signature.{Signature}
use Rattle.type_table.proofs.Lists.{types_are}
use Rattle.binary.proofs.Putting.{Putting, putting_begin, putting_more, putting_done}
use Rattle.operands.proofs.Elements.{elements-none, elements-more, elements-fault}

-- ## `put_each_type`

module _ (s : Bytes) (named : Bool) (place n : ℕ) where
  pub types_begin : (old : List ℕ) (at : ℕ) → length old * 1 < 2 ^ 63 → Putting old at (elements (typed named) s place n) (elements (typed named) s place (n - 0)) at old
  types_begin old at h =
      let e : n - 0 ≡ n = omega arith in
      putting_begin old at (elements (typed named) s place n) (elements (typed named) s place (n - 0)) h (ap (elements (typed named) s place) e)

-- `i` of them are put
module _ (s : Bytes) (named : Bool) (n i here : ℕ) {old : List ℕ} {at : ℕ} {all : List ℕ} {o : ℕ} {out : List ℕ} (v : Putting old at all (elements (typed named) s here (n - i)) o out) where
  pub types_again : (q : Read ℕ) → typed named s here ≡ byte_at q → (t next r : ℕ) (new : List ℕ) → i < n → q ≡ Ok (t, next) → Put out o (t ∷ []) r new
      → Putting old at all (elements (typed named) s next (n - (i + 1))) r new
  types_again q told t next r new h d p =
      let m : n - (i + 1) ≡ n - i - 1 = omega arith in
      putting_more v (t ∷ []) (elements (typed named) s next (n - (i + 1))) r new
      (rw m (elements-more (typed named) s here (n - i) t next (omega arith) (told ∙ ap byte_at d))) p

module _ (s : Bytes) (named : Bool) (l : Code.List) (here i : ℕ) {old : List ℕ} {at o : ℕ} {out : List ℕ} (v : Putting old at (elements (typed named) s l.at l.count) (elements (typed named) s here (l.count - i)) o out) where
  none_left : elements (typed named) s here (l.count - i) ≡ [] → Put old at (types_of named s l) o out
  none_left e = put_is (putting_done v e) (sym (types_are named s l))

  pub types_done : l.count ≤ i → Put old at (types_of named s l) o out
  types_done h = none_left (elements-none (typed named) s here (l.count - i) (omega arith))

  pub types_fault : (q : Read ℕ) (k : Fault) → typed named s here ≡ byte_at q → q ≡ Err k → Put old at (types_of named s l) o out
  types_fault q k told d = none_left (elements-fault (typed named) s here (l.count - i) (number k) (told ∙ ap byte_at d))

-- ## After their count

-- a value type is one byte
bytes_are : (ts : List ℕ) → concat_map byte ts ≡ ts
unfolding concat_map byte
bytes_are [] = refl
bytes_are (t ∷ ts) = ap (λ xs. t ∷ xs) (bytes_are ts)

pub put-counted : {a b c : List ℕ} {n at r q : ℕ} (ts : List ℕ) → n ≡ length ts → Put a at (u n) r b → Put b r ts q c → Put a at (vec byte ts) q c
unfolding vec
put-counted ts e x y = put_then (put_is x (ap u e)) (put_is y (sym (bytes_are ts)))

-- ## Function types

pub put-func : {a b c d : List ℕ} {at p q r : ℕ} (s : Bytes) (x : Signature) → Put a at (0x60 ∷ []) p b → Put b p (vec byte (types_of x.named s x.params)) q c → Put c q (vec byte (types_of false s x.results)) r d
    → Put a at (func_type (signature_of s x)) r d
unfolding func_type signature_of
put-func s x f g h = put_then (put_cons f g) h
