-- A folded stream gives the bytes of its flat one (document 02, §4), of any answer that keeps the promise and says 0: it keeps the promise on the flat
-- stream too. Said once over what makes the bytes of a call.
use Prim.Native.Nat.{ℕ}
use mathlib.Core.Path.{◌≡◌, sym, ◌∙◌, ap}
use mathlib.Core.Bool.{true, false}
use mathlib.Core.List.{List}
use lib.ListN.{take, drop}
use Rattle.definition.specs.Basic.{same_bytes}
use Rattle.definition.specs.Syntax.{Bytes}
use Rattle.definition.specs.Assemble.{Maker, module_in, named_module_in, call_by, call, call_names, call_strict, call_strict_names}
use Rattle.unfolding.specs.FlatStream.{flat_stream}
use Rattle.unfolding.proofs.Unfolding.{Unfolds, unfolds_module, unfolds_names, same-call}
use Rattle.assembler.specs.Run.{AssemblesBy, Assembles, AssemblesNames, AssemblesStrict, AssemblesStrictNames}
use Rattle.assembler.specs.Export.{lent, handed_on, exported_by, ExportsBy, Exports, ExportsNames, ExportsStrict, ExportsStrictNames}
use Rattle.writers.specs.declared.Said.{Said}
use Rattle.promises.proofs.Exported.{export_says}

-- ## Any call that says 0

module _ (make : Maker) (unfolds : Unfolds make) (s : Bytes) (work : List ℕ) (old : Bytes) where
  flat_by_lem : (r : Said) (out : Bytes) (w : List ℕ) → AssemblesBy (call_by make) s work old r out w → r.number ≡ 0 → AssemblesBy (call_by make) (flat_stream s) work old r out w
  flat_by_lem r out w k n = k ∙ sym (same-call make unfolds s work old (sym (ap (λ o. o.number) k) ∙ n))

  export_flat_by : (r : ℕ) (a : List ℕ) (out : Bytes) (w : List ℕ) → ExportsBy (call_by make) s work old r a out w → r ≡ 0 → ExportsBy (call_by make) (flat_stream s) work old r a out w
  unfolding exported_by
  export_flat_by r a out w k n =
      let x = export_says (call_by make) s work old r a out w k in
      k ∙ ap (λ o. handed_on o (drop (lent old) old)) (sym (same-call make unfolds s work (take (lent old) old) (sym (ap (λ o. o.number) x) ∙ n)))

-- ## The calls

module _ (s : Bytes) (work : List ℕ) (old : Bytes) (r : Said) (out : Bytes) (w : List ℕ) where
  pub flat_assemble : Assembles s work old r out w → r.number ≡ 0 → Assembles (flat_stream s) work old r out w
  unfolding call
  flat_assemble = flat_by_lem (module_in false same_bytes) (unfolds_module false) s work old r out w

  pub flat_assemble_names : AssemblesNames s work old r out w → r.number ≡ 0 → AssemblesNames (flat_stream s) work old r out w
  unfolding call_names
  flat_assemble_names = flat_by_lem (named_module_in false) (unfolds_names false) s work old r out w

  pub flat_assemble_strict : AssemblesStrict s work old r out w → r.number ≡ 0 → AssemblesStrict (flat_stream s) work old r out w
  unfolding call_strict
  flat_assemble_strict = flat_by_lem (module_in true same_bytes) (unfolds_module true) s work old r out w

  pub flat_assemble_strict_names : AssemblesStrictNames s work old r out w → r.number ≡ 0 → AssemblesStrictNames (flat_stream s) work old r out w
  unfolding call_strict_names
  flat_assemble_strict_names = flat_by_lem (named_module_in true) (unfolds_names true) s work old r out w

-- the exported calls
module _ (s : Bytes) (work : List ℕ) (old : Bytes) (r : ℕ) (a : List ℕ) (out : Bytes) (w : List ℕ) where
  pub flat_export : Exports s work old r a out w → r ≡ 0 → Exports (flat_stream s) work old r a out w
  unfolding call
  flat_export = export_flat_by (module_in false same_bytes) (unfolds_module false) s work old r a out w

  pub flat_export_names : ExportsNames s work old r a out w → r ≡ 0 → ExportsNames (flat_stream s) work old r a out w
  unfolding call_names
  flat_export_names = export_flat_by (named_module_in false) (unfolds_names false) s work old r a out w

  pub flat_export_strict : ExportsStrict s work old r a out w → r ≡ 0 → ExportsStrict (flat_stream s) work old r a out w
  unfolding call_strict
  flat_export_strict = export_flat_by (module_in true same_bytes) (unfolds_module true) s work old r a out w

  pub flat_export_strict_names : ExportsStrictNames s work old r a out w → r ≡ 0 → ExportsStrictNames (flat_stream s) work old r a out w
  unfolding call_strict_names
  flat_export_strict_names = export_flat_by (named_module_in true) (unfolds_names true) s work old r a out w
