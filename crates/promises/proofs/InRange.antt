-- In what a strict call writes every index lies below its space's count (document 02, §8), of any answer that keeps the promise and says 0. Said
-- once over what makes the bytes of a call.
use Prim.Native.Nat.{ℕ, ◌≤◌}
use mathlib.Core.Path.{◌≡◌, sym, ◌∙◌, ap}
use mathlib.Core.Bool.{true}
use mathlib.Core.List.{List}
use lib.ListN.{length, take}
use lib.Seq.{take-append-le}
use Rattle.definition.specs.Basic.{same_bytes}
use Rattle.definition.specs.Syntax.{Bytes}
use Rattle.definition.specs.Deinline.{deinline}
use Rattle.definition.specs.Assemble.{Maker, module_in, named_module_in, Outcome, call_by, call_strict, call_strict_names}
use Rattle.renaming.specs.Renamed.{names_by, names_of}
use Rattle.in_range.specs.InRange.{After, no_names, NamesOf, CallInRange}
use Rattle.in_range.proofs.ModuleNumbers.{module_refusals, named_refusals}
use Rattle.in_range.proofs.StrictCalls.{module_in_range, names_in_range, call_in_range}
use Rattle.assembler.specs.Run.{outcome_of, AssemblesBy, AssemblesStrict, AssemblesStrictNames}
use Rattle.assembler.specs.Export.{lent, ExportsBy, ExportsStrict, ExportsStrictNames}
use Rattle.assembler.proofs.Exported.{written-within}
use Rattle.writers.specs.declared.Said.{Said}
use Rattle.promises.specs.Promise.{outcome_in, ModuleInRange, NamedInRange}
use Rattle.promises.proofs.Exported.{going_on, export_says}

-- ## By the definition

-- calls in range, where they say 0
abbrev CallsInRange : After → Maker → Type 0
CallsInRange names make = (s : Bytes) (work : List ℕ) (old : Bytes) → (call_by make s work old).number ≡ 0 → CallInRange names s (call_by make s work old)

modules : CallsInRange no_names (module_in true same_bytes)
modules = call_in_range no_names (module_in true same_bytes) module_in_range (module_refusals true same_bytes)

-- the name section of a strict call's records
strict-names : NamesOf (names_of true)
unfolding names_of
strict-names rs Γ e = ap (names_by (deinline rs)) (sym e)

named_modules : CallsInRange (names_of true) (named_module_in true)
named_modules = call_in_range (names_of true) (named_module_in true) (names_in_range (names_of true) strict-names) (named_refusals true)

-- beyond what is lent nothing is written
range_beyond : (names : After) (s : Bytes) (o : Outcome) (beyond : Bytes) → o.written ≤ length o.output
    → CallInRange names s o → CallInRange names s (going_on o beyond)
range_beyond names s o beyond h x = record { records = x.records; reads = x.reads; written = rw (take-append-le _ _ beyond h) x.written }

-- ## Any call that says 0

module _ (names : After) (make : Maker) (calls : CallsInRange names make) (s : Bytes) (work : List ℕ) (old : Bytes) where
  in_range_by : (r : Said) (out : Bytes) (w : List ℕ) → AssemblesBy (call_by make) s work old r out w → r.number ≡ 0 → CallInRange names s (outcome_of r out w)
  in_range_by r out w k n = rw k (calls s work old (sym (ap (λ o. o.number) k) ∙ n))

  export_in_range_by : (r : ℕ) (a : List ℕ) (out : Bytes) (w : List ℕ) → ExportsBy (call_by make) s work old r a out w → r ≡ 0
      → CallInRange names s (outcome_in r a out w)
  export_in_range_by r a out w k n =
      let x = export_says (call_by make) s work old r a out w k in
      rw x (range_beyond names s _ _ (written-within make s work _) (calls s work (take (lent old) old) (sym (ap (λ o. o.number) x) ∙ n)))

-- ## The strict calls

module _ (s : Bytes) (work : List ℕ) (old : Bytes) (r : Said) (out : Bytes) (w : List ℕ) where
  pub in_range_assemble_strict : AssemblesStrict s work old r out w → r.number ≡ 0 → ModuleInRange s (outcome_of r out w)
  unfolding call_strict
  in_range_assemble_strict = in_range_by no_names (module_in true same_bytes) modules s work old r out w

  pub in_range_assemble_strict_names : AssemblesStrictNames s work old r out w → r.number ≡ 0 → NamedInRange s (outcome_of r out w)
  unfolding call_strict_names
  in_range_assemble_strict_names = in_range_by (names_of true) (named_module_in true) named_modules s work old r out w

-- the exported calls
module _ (s : Bytes) (work : List ℕ) (old : Bytes) (r : ℕ) (a : List ℕ) (out : Bytes) (w : List ℕ) where
  pub in_range_export_strict : ExportsStrict s work old r a out w → r ≡ 0 → ModuleInRange s (outcome_in r a out w)
  unfolding call_strict
  in_range_export_strict = export_in_range_by no_names (module_in true same_bytes) modules s work old r a out w

  pub in_range_export_strict_names : ExportsStrictNames s work old r a out w → r ≡ 0 → NamedInRange s (outcome_in r a out w)
  unfolding call_strict_names
  in_range_export_strict_names = export_in_range_by (names_of true) (named_module_in true) named_modules s work old r a out w
