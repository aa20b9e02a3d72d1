-- The strict calls beside the plain ones (document 02, §8), of any answers that keep the promise: a strict call that is not refused by 20 says and
-- leaves what the plain call says and leaves. So what it accepts the plain call accepts, with the same bytes, and what it refuses by another
-- number the plain call refuses by that number, at the same record.
use Prim.Native.Nat.{ℕ}
use mathlib.Core.Path.{◌≡◌, ◌∙◌, ap}
use mathlib.Core.Bool.{true, false}
use mathlib.Core.List.{List}
use lib.ListN.{take, drop}
use Rattle.definition.specs.Basic.{same_bytes}
use Rattle.definition.specs.Syntax.{Bytes}
use Rattle.definition.specs.Assemble.{Maker, module_in, named_module_in, call_by, call, call_names, call_strict, call_strict_names}
use Rattle.laws.proofs.Strict.{MakesOr20, strict-makes, strict-names_make, strict-call}
use Rattle.assembler.specs.Run.{AssemblesBy, Assembles, AssemblesNames, AssemblesStrict, AssemblesStrictNames}
use Rattle.assembler.specs.Export.{lent, handed_on, exported_by, ExportsBy, Exports, ExportsNames, ExportsStrict, ExportsStrictNames}
use Rattle.writers.specs.declared.Said.{Said}
use Rattle.promises.proofs.Exported.{export_says}

module _ (strict lax : Maker) (h : MakesOr20 strict lax) (s : Bytes) (work : List ℕ) (old : Bytes) where
  strict_by : (r : Said) (out : Bytes) (w : List ℕ) → AssemblesBy (call_by strict) s work old r out w → (r.number ≡ 20 → ⊥) → AssemblesBy (call_by lax) s work old r out w
  strict_by r out w k n = k ∙ strict-call strict lax h s work old (λ e. n (ap (λ o. o.number) k ∙ e))

  export_strict_by : (r : ℕ) (a : List ℕ) (out : Bytes) (w : List ℕ) → ExportsBy (call_by strict) s work old r a out w → (r ≡ 20 → ⊥) → ExportsBy (call_by lax) s work old r a out w
  unfolding exported_by
  export_strict_by r a out w k n =
      k ∙ ap (λ o. handed_on o (drop (lent old) old)) (strict-call strict lax h s work (take (lent old) old) (λ e. n (ap (λ o. o.number) (export_says (call_by strict) s work old r a out w k) ∙ e)))

module _ (s : Bytes) (work : List ℕ) (old : Bytes) (r : Said) (out : Bytes) (w : List ℕ) where
  pub strict-is-plain : AssemblesStrict s work old r out w → (r.number ≡ 20 → ⊥) → Assembles s work old r out w
  unfolding call_strict call
  strict-is-plain = strict_by (module_in true same_bytes) (module_in false same_bytes) strict-makes s work old r out w

  pub strict-names-is-plain : AssemblesStrictNames s work old r out w → (r.number ≡ 20 → ⊥) → AssemblesNames s work old r out w
  unfolding call_strict_names call_names
  strict-names-is-plain = strict_by (named_module_in true) (named_module_in false) strict-names_make s work old r out w

-- the exported calls
module _ (s : Bytes) (work : List ℕ) (old : Bytes) (r : ℕ) (a : List ℕ) (out : Bytes) (w : List ℕ) where
  pub export_strict_is_plain : ExportsStrict s work old r a out w → (r ≡ 20 → ⊥) → Exports s work old r a out w
  unfolding call_strict call
  export_strict_is_plain = export_strict_by (module_in true same_bytes) (module_in false same_bytes) strict-makes s work old r a out w

  pub export_strict_names_is_plain : ExportsStrictNames s work old r a out w → (r ≡ 20 → ⊥) → ExportsNames s work old r a out w
  unfolding call_strict_names call_names
  export_strict_names_is_plain = export_strict_by (named_module_in true) (named_module_in false) strict-names_make s work old r a out w
