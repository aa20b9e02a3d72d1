-- What a strict call writes is in range (document 02, §8). Said once over what makes the bytes of a call.
use Rattle.std.specs.Prelude.{if◌then◌else◌}
use mathlib.Core.Path.{◌≡◌, ap, ◌∙◌, sym}
use Prim.Native.Nat.{ℕ}
use mathlib.Core.Bool.{Bool, true, false}
use mathlib.Core.List.{List, ◌++◌, append-nil}
use lib.Dec.{leb}
use lib.ListN.{length, drop}
use lib.Seq.{take-append_seam}
use native.Mathlib.Omega.{arith}
use Rattle.definition.specs.Basic.{ok, refused, ◌>>=◌, same_bytes}
use Rattle.definition.specs.Syntax.{Bytes, Identifier, Rec}
use Rattle.definition.specs.Deinline.{deinline}
use Rattle.definition.specs.Binary.{module'}
use Rattle.definition.specs.NameSection.{name_section}
use Rattle.definition.specs.Assemble.{scope, items_in, items, resolved, fitting, module_in, named_module_in, Maker, assemble_by, output_after, outcome, call_by, call_strict, call_strict_names}
use Rattle.in_range.specs.InRange.{After, no_names, NamesOf, WritesInRange, CallInRange}
use Rattle.laws.proofs.Interning.{came}
use Rattle.in_range.proofs.InRange.{strict_in_range}
use Rattle.in_range.proofs.RefusalNumbers.{Positive}
use Rattle.in_range.proofs.ModuleNumbers.{module_refusals, named_refusals}
use Rattle.in_range.proofs.Accepted.{accepted}

-- ## The two makers

-- what fits is written as it is
fits : (room count : ℕ) (bs m : Bytes) → fitting room count bs ≡ ok m → bs ≡ m
unfolding fitting
fits room count bs m e = go (leb (length bs) room) e
  where
    go : (t : Bool) → (if t then ok bs else refused 18 count) ≡ ok m → bs ≡ m
    go true e = cc
    go false e = let z : ◌≡◌ {A = ℕ} 0 1 = cc in absurd (omega arith)

pub module_in_range : WritesInRange no_names (module_in true same_bytes)
unfolding module_in
module_in_range s rs e room m h =
    let c = came (resolved true same_bytes rs) _ m h in
    record {
      items = c.0;
      resolves = c.1;
      bytes = sym (fits room (length rs) (module' c.0) m c.2) ∙ sym (append-nil (module' c.0));
      in_range = strict_in_range s rs e c.0 c.1;
    }

pub names_in_range : (names : After) → NamesOf names → WritesInRange names (named_module_in true)
unfolding named_module_in resolved items ◌>>=◌
names_in_range names is s rs e room m h =
    let c = came (scope true same_bytes (deinline rs)) _ m h in
    let d = came (items_in c.0 (deinline rs)) _ m c.2 in
    let f : resolved true same_bytes rs ≡ ok d.0 = ap (λ a. a >>= λ Γ. items_in Γ (deinline rs)) c.1 ∙ d.1 in
    record {
      items = d.0;
      resolves = f;
      bytes = sym (fits room (length rs) (module' d.0 ++ name_section c.0 (deinline rs)) m d.2) ∙ ap (λ bs. module' d.0 ++ bs) (is rs c.0 c.1);
      in_range = strict_in_range s rs e d.0 f;
    }

-- ## Calls

module _ (names : After) (make : Maker) (writes : WritesInRange names make) (numbers : (room : ℕ) (rs : List (Rec Identifier)) → Positive (make room rs)) where
  pub call_in_range : (s : Bytes) (work : List ℕ) (old : Bytes) → (call_by make s work old).number ≡ 0 → CallInRange names s (call_by make s work old)
  unfolding call_by outcome output_after
  call_in_range s work old n =
      let room = length old in
      let a = accepted make room (numbers room) s (length work) n in
      let bs = (assemble_by make s (length work) room).bytes in
      record {
        records = a.records;
        reads = a.reads;
        written = rw (take-append_seam bs (drop (length bs) old)) (writes s a.records a.reads room bs a.makes);
      }

module _ (s : Bytes) (work : List ℕ) (old : Bytes) where
  pub strict-call_in_range : (call_strict s work old).number ≡ 0 → CallInRange no_names s (call_strict s work old)
  unfolding call_strict
  strict-call_in_range = call_in_range no_names (module_in true same_bytes) module_in_range (module_refusals true same_bytes) s work old

  pub strict-names_in_range : (names : After) → NamesOf names → (call_strict_names s work old).number ≡ 0 → CallInRange names s (call_strict_names s work old)
  unfolding call_strict_names
  strict-names_in_range names is = call_in_range names (named_module_in true) (names_in_range names is) (named_refusals true) s work old
