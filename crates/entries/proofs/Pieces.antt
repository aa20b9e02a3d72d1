-- Laws of the emitters of entries whose bytes no other crate has.
use Rattle.std.specs.Prelude.{Ok, Err, IsErrAnd}
use Rattle.std.specs.Result.{IsErr}
use Rattle.syntax.specs.Refusals.{Resolved, refused_by}
use Rattle.syntax.proofs.Ways.{handed}
use Prim.Native.Nat.{ℕ, zero, suc, ◌≤◌, ◌<◌, ◌^◌}
use mathlib.Core.Path.{◌≡◌, ap}
use mathlib.Core.Bool.{Bool}
use mathlib.Core.List.{List, [], ◌∷◌}
use lib.ListN.{length, take, drop}
use native.Mathlib.Omega.{arith}
use mir.Syntax.{w32}
use mir.Val.{Fits}
use Rattle.definition.specs.Basic.{Answer, ok}
use Rattle.definition.specs.Syntax as Syntax
use Rattle.definition.specs.Syntax.{Bytes}
use Rattle.definition.specs.Binary.{u, table_type, limits}
use Rattle.definition.specs.Deinline.{exactly, pages}
use Rattle.syntax.specs.declared.Refusal.{Refusal}
use Rattle.emit.specs.Put.{Put}
use Rattle.syntax.specs.Tokens.{part, part_of}
use Rattle.syntax.specs.declared.Part.{Part}
use Rattle.syntax.specs.Resolved.{type_no_of}
use Rattle.binary.specs.Emits.{Emits}
use Rattle.syntax.specs.declared.TypeNo.{TypeNo}
use Rattle.import_export.specs.declared.export.Ends.{Ends}
use Rattle.deinline.specs.Entry.{type_bytes}
use Rattle.entries.specs.Listed.{one_end}

-- ## One entry

pub end_not : (q : Resolved Ends) (r : Resolved ℕ) (n : Refusal) → r ≡ Err n → IsErr q → IsErrAnd q (λ e. e ≡ n) → q ≡ one_end r
end_not q r n e i z = rw e (handed q n i z)

-- ## A function's type

module _ (a : Answer Syntax.TypeNo) (old : List ℕ) (at : ℕ) where
  pub type_to : (n : TypeNo) (o : ℕ) (new : List ℕ) → a ≡ ok (type_no_of n) → Put old at (u (type_no_of n).type_no) o new → Emits type_bytes a old at (Ok o) new
  unfolding Emits type_bytes
  type_to n o new d p = record { value = type_no_of n; is = d; put = p }

  pub type_not : (q : Resolved ℕ) (r : Refusal) → a ≡ refused_by r → IsErr q → IsErrAnd q (λ e. e ≡ r) → Emits type_bytes a old at q old
  unfolding Emits
  type_not q r d i z = rw (handed q r i z) d

-- ## Inline tables and memories

take_short : (n : ℕ) (l : List ℕ) → length (take n l) ≤ n
take_short zero l = omega arith
take_short (suc n) [] = omega arith
take_short (suc n) (x ∷ l) = let h = take_short n l in omega arith

-- a part is no longer than it says
pub part_fits : (s : Bytes) (p : Part) (b : List ℕ) → b ≡ part_of s p → p.len < 2 ^ 32 → Fits w32 (length b)
unfolding part
part_fits s p b e h = let k : length (take p.len (drop p.at s)) ≤ p.len = take_short p.len (drop p.at s) in rw e (omega arith)

pub part_length : (s : Bytes) (p : Part) (b : List ℕ) → b ≡ part_of s p → length b ≡ length (part_of s p)
part_length s p b e = ap length e

pub table_put : (old : List ℕ) (at : ℕ) (w : Bool) (n k r : ℕ) (new : List ℕ) → n ≡ k → Put old at (table_type (record { element = 0x70; limits = exactly w n })) r new
    → Put old at (table_type (record { element = 0x70; limits = exactly w k })) r new
table_put old at w n k r new e p = rw e at p

pub mem_put : (old : List ℕ) (at : ℕ) (w : Bool) (n m k r : ℕ) (new : List ℕ) → n ≡ pages m → m ≡ k → Put old at (limits (exactly w n)) r new → Put old at (limits (exactly w (pages k))) r new
mem_put old at w n m k r new e d p = rw (e, d) at p
