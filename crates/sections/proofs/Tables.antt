-- The types of section 1: the loop over the table.
use Prim.Native.Nat.{ℕ, zero, suc, ◌+◌, ◌-◌, ◌*◌, ◌^◌, ◌≤◌, ◌<◌, min}
use mathlib.Core.Path.{◌≡◌, refl, ap}
use mathlib.Core.List.{List, map}
use lib.ListN.{length, get_or}
use native.Mathlib.Omega.{arith}
use mir.Syntax.{w64}
use mir.Val.{Fits}
use Rattle.area.specs.Layout.{TOTAL, TYPES, USES, WORDS}
use Rattle.definition.specs.Basic.{concat_map}
use Rattle.definition.specs.Syntax.{Bytes, FuncType}
use Rattle.definition.specs.Binary.{func_type, joined}
use Rattle.emit.specs.Put.{Put}
use Rattle.binary.proofs.Putting.{Putting, putting_begin, putting_more, putting_done, putting_long}
use Rattle.type_table.specs.Table.{signature_of, entry_in, type_table, types_in}
use Rattle.type_table.specs.declared.entry.Signature.{Signature}

pub type_put : (s : Bytes) (w : List ℕ) (place : ℕ) {old new : Bytes} {at r : ℕ} (x : Signature) → x ≡ entry_in w place → Put old at (func_type (signature_of s x)) r new
    → Put old at (func_type (signature_of s (entry_in w place))) r new
type_put s w place x e p = rw (← e) p

-- types as the bytes of their entries
abbrev type_bytes : List FuncType → Bytes
type_bytes ts = joined (map func_type ts)

-- the types before a place are put
pub record Typing (s : Bytes) (w : List ℕ) (old : Bytes) (at left place o : ℕ) (out : Bytes) : Type 0 where
  pub low : place + 5 * left ≤ USES
  pub put : Putting old at (joined (map func_type (types_in s w))) (joined (map func_type (type_table left s w place))) o out

low-begin : (m n : ℕ) → n ≡ min m 256 → TYPES + 5 * n ≤ USES
low-begin m n e = omega arith

pub typing_begin : {s : Bytes} {w : List ℕ} {old : Bytes} {at n : ℕ} → n ≡ min (get_or w TOTAL 0) 256 → length old * 1 < 2 ^ 63 → Typing s w old at n TYPES at old
unfolding types_in
typing_begin {s} {w} {old} {at} {n} e h = record {
  low = low-begin (get_or w TOTAL 0) n e;
  put = putting_begin old at (type_bytes (types_in s w)) (type_bytes (type_table n s w TYPES)) h (ap (λ m. type_bytes (type_table m s w TYPES)) e);
}

pub typing_long : {s : Bytes} {w : List ℕ} {old : Bytes} {at left place o : ℕ} {out : Bytes} → Typing s w old at left place o out → length out ≡ length old
typing_long v = putting_long v.put

module _ {s : Bytes} {w : List ℕ} {old : Bytes} {at n i place o : ℕ} {out : Bytes} (v : Typing s w old at (n - i) place o out) where
  pub typing_again : {r : ℕ} {new : Bytes} → i < n → Put out o (func_type (signature_of s (entry_in w place))) r new → Typing s w old at (n - (i + 1)) (place + 5) r new
  unfolding type_table joined concat_map
  typing_again {r} {new} h p = go (n - i) (n - (i + 1)) (omega arith) v.low v.put
    where
      go : (m k : ℕ) → m ≡ suc k → place + 5 * m ≤ USES → Putting old at (type_bytes (types_in s w)) (type_bytes (type_table m s w place)) o out → Typing s w old at k (place + 5) r new
      go zero k e l q = absurd (omega arith)
      go (suc m) k e l q =
          let z : m ≡ k = omega arith in
          rw (← z) (record { low = omega arith; put = putting_more q (func_type (signature_of s (entry_in w place))) (type_bytes (type_table m s w (place + 5))) r new refl p })

  pub typing_done : n ≤ i → Put old at (joined (map func_type (types_in s w))) o out
  unfolding type_table joined concat_map
  typing_done h = go (n - i) (omega arith) v.put
    where
      go : (m : ℕ) → m ≤ 0 → Putting old at (type_bytes (types_in s w)) (type_bytes (type_table m s w place)) o out → Put old at (type_bytes (types_in s w)) o out
      go zero h q = putting_done q refl
      go (suc m) h q = absurd (omega arith)

  pub typing_room : i < n → WORDS ≤ length w → place + 4 < length w
  typing_room h g = omega (arith, v.low)

  pub typing_next : i < n → Fits w64 (place + 5)
  typing_next h = let l = v.low in record { fits = omega arith }
