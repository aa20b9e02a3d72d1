-- Demand 1 of the assembler: a refusal reports length 0 and keeps the output, and the work area is all zeros after every call.
use Rattle.std.specs.Prelude.{if◌then◌else◌}
use Prim.Native.Nat.{ℕ, ◌<◌}
use mathlib.Core.Path.{◌≡◌, refl, ◌∙◌, ap}
use mathlib.Core.Bool.{Bool, true, false}
use mathlib.Core.List.{List, [], ◌++◌}
use lib.Dec.{ltb}
use lib.ListN.{length, take, drop, take-append-drop}
use native.Mathlib.Omega.{arith}
use Rattle.definition.specs.Assemble.{longest_stream, least_work, call_strict, call_strict_names}
use Rattle.definition.specs.Basic.{refusal, Answer, ok, fails, same_bytes}
use Rattle.definition.specs.Syntax.{Bytes, Identifier, Rec}
use Rattle.definition.specs.Read.{read}
use Rattle.definition.specs.Assemble.{refusing, Maker, module_in, named_module_in, say, say_read, assemble_by, output_after, work_after, outcome, call_by, call, call_names}
use Rattle.assembler.specs.Run.{outcome_of, Assembles, AssemblesNames, AssemblesStrict, AssemblesStrictNames}
use Rattle.assembler.specs.Export.{lent, ExportsBy, Exports, ExportsNames, ExportsStrict, ExportsStrictNames}
use Rattle.writers.specs.declared.Said.{Said}
use Rattle.promises.specs.Promise.{outcome_in, Demand1}
use Rattle.promises.proofs.Exported.{export_says}

-- ## By the definition: `make` makes the bytes of a call

-- what has a number other than 0 writes nothing
say-refused : (count : ℕ) (a : Answer Bytes) → 0 < (say count a).number → (say count a).bytes ≡ []
unfolding say
say-refused count (ok bs) h = absurd (omega arith)
say-refused count (fails q) h = refl

refused-writes : (make : Maker) (s : Bytes) (work room : ℕ) → 0 < (assemble_by make s work room).number → (assemble_by make s work room).bytes ≡ []
unfolding assemble_by say_read
refused-writes make s work room h = go (ltb longest_stream (length s)) (ltb work least_work) (read s) h
  where
    go : (x y : Bool) (c : Answer (List (Rec Identifier))) → 0 < (if x then refusing (refusal 1 0) else if y then refusing (refusal 10 0) else say_read make room c).number
        → (if x then refusing (refusal 1 0) else if y then refusing (refusal 10 0) else say_read make room c).bytes ≡ []
    go true y c h = refl
    go false true c h = refl
    go false false (ok rs) h = say-refused (length rs) (make room rs) h
    go false false (fails q) h = refl

pub demand_1_by : (make : Maker) (s : Bytes) (work : List ℕ) (old : Bytes) → Demand1 work old (call_by make s work old)
unfolding call_by outcome output_after work_after
demand_1_by make s work old = record {
  refused_keeps = λ h. let e = refused-writes make s (length work) (length old) h in (ap length e, ap (λ bs. bs ++ drop (length bs) old) e);
  work_cleared = refl;
}

-- of what is lent, and the bytes beyond it stay
pub export_1_by : (make : Maker) (s : Bytes) (work : List ℕ) (old : Bytes) (r : ℕ) (a : List ℕ) (out : Bytes) (w : List ℕ)
    → ExportsBy (call_by make) s work old r a out w → Demand1 work old (outcome_in r a out w)
export_1_by make s work old r a out w k =
    let d = demand_1_by make s work (take (lent old) old) in
    rw (export_says (call_by make) s work old r a out w k) (record {
      refused_keeps = λ h. ((d.refused_keeps h).0, ap (λ bs. bs ++ drop (lent old) old) (d.refused_keeps h).1 ∙ take-append-drop (lent old) old);
      work_cleared = d.work_cleared;
    })

-- ## The calls

module _ (s : Bytes) (work : List ℕ) (old : Bytes) (r : Said) (out : Bytes) (w : List ℕ) where
  pub demand_1_assemble : Assembles s work old r out w → Demand1 work old (outcome_of r out w)
  unfolding call
  demand_1_assemble k = rw k (demand_1_by (module_in false same_bytes) s work old)

  pub demand_1_assemble_names : AssemblesNames s work old r out w → Demand1 work old (outcome_of r out w)
  unfolding call_names
  demand_1_assemble_names k = rw k (demand_1_by (named_module_in false) s work old)

  pub demand_1_assemble_strict : AssemblesStrict s work old r out w → Demand1 work old (outcome_of r out w)
  unfolding call_strict
  demand_1_assemble_strict k = rw k (demand_1_by (module_in true same_bytes) s work old)

  pub demand_1_assemble_strict_names : AssemblesStrictNames s work old r out w → Demand1 work old (outcome_of r out w)
  unfolding call_strict_names
  demand_1_assemble_strict_names k = rw k (demand_1_by (named_module_in true) s work old)

-- the exported calls
module _ (s : Bytes) (work : List ℕ) (old : Bytes) (r : ℕ) (a : List ℕ) (out : Bytes) (w : List ℕ) where
  pub demand_1_export : Exports s work old r a out w → Demand1 work old (outcome_in r a out w)
  unfolding call
  demand_1_export k = export_1_by (module_in false same_bytes) s work old r a out w k

  pub demand_1_export_names : ExportsNames s work old r a out w → Demand1 work old (outcome_in r a out w)
  unfolding call_names
  demand_1_export_names k = export_1_by (named_module_in false) s work old r a out w k

  pub demand_1_export_strict : ExportsStrict s work old r a out w → Demand1 work old (outcome_in r a out w)
  unfolding call_strict
  demand_1_export_strict k = export_1_by (module_in true same_bytes) s work old r a out w k

  pub demand_1_export_strict_names : ExportsStrictNames s work old r a out w → Demand1 work old (outcome_in r a out w)
  unfolding call_strict_names
  demand_1_export_strict_names k = export_1_by (named_module_in true) s work old r a out w k
