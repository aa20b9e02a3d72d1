-- No type too many in what the assembler writes (document 02, §14). Said once over what makes the bytes of a call: of a further call only
-- `WritesSmallest` is to be shown.
use Rattle.std.specs.Prelude.{if◌then◌else◌}
use Prim.Native.Nat.{ℕ, ◌≤◌, ◌<◌}
use mathlib.Core.Path.{◌≡◌, refl, ap}
use mathlib.Core.Bool.{Bool, true, false}
use mathlib.Core.List.{List}
use lib.Dec.{ltb}
use lib.ListN.{length, take, drop}
use lib.Seq.{take-append_seam, take-append-le}
use native.Mathlib.Omega.{arith}
use Rattle.definition.specs.Basic.{refusal, Answer, ok, fails, same_bytes}
use Rattle.definition.specs.Syntax.{Bytes, Identifier, Rec}
use Rattle.definition.specs.Read.{read}
use Rattle.definition.specs.Assemble as Assemble
use Rattle.definition.specs.Assemble.{longest_stream, least_work, Maker, module_in, named_module_in, refusing, say, say_read, assemble_by, Outcome, output_after, outcome, call_by, call, call_names, call_strict, call_strict_names}
use Rattle.laws.specs.TypeLists.{NoTypeTooMany, WritesSmallest}
use Rattle.laws.proofs.NoTypeTooMany.{module_writes, names_write}
use Rattle.assembler.specs.Run.{outcome_of, AssemblesBy, Assembles, AssemblesNames, AssemblesStrict, AssemblesStrictNames}
use Rattle.assembler.specs.Export.{lent, ExportsBy, Exports, ExportsNames, ExportsStrict, ExportsStrictNames}
use Rattle.assembler.proofs.Exported.{written-within}
use Rattle.writers.specs.declared.Said.{Said}
use Rattle.promises.specs.Promise.{outcome_in, FewestTypes}
use Rattle.promises.proofs.Exported.{going_on, export_says}

-- ## By the definition

record Fewest (s : Bytes) (a : Assemble.Said) : Type 0 where
  number : a.number ≡ 0
  records : List (Rec Identifier)
  reads : read s ≡ ok records
  types : NoTypeTooMany records a.bytes

module _ (make : Maker) (writes : WritesSmallest make) (s : Bytes) where
  -- a refusal writes nothing
  made : (count room : ℕ) (rs : List (Rec Identifier)) → read s ≡ ok rs → (a : Answer Bytes) → make room rs ≡ a → 0 < length (say count a).bytes → Fewest s (say count a)
  unfolding say
  made count room rs e (ok bs) d p = record { number = refl; records = rs; reads = e; types = writes s rs e room bs d }
  made count room rs e (fails q) d p = absurd (omega arith)

  said : (work room : ℕ) → 0 < length (assemble_by make s work room).bytes → Fewest s (assemble_by make s work room)
  unfolding assemble_by say_read
  said work room p = go (ltb longest_stream (length s)) (ltb work least_work) (read s) refl p
    where
      go : (x y : Bool) (c : Answer (List (Rec Identifier))) → read s ≡ c
          → 0 < length (if x then refusing (refusal 1 0) else if y then refusing (refusal 10 0) else say_read make room c).bytes
          → Fewest s (if x then refusing (refusal 1 0) else if y then refusing (refusal 10 0) else say_read make room c)
      go true y c e p = absurd (omega arith)
      go false true c e p = absurd (omega arith)
      go false false (ok rs) e p = made (length rs) room rs e (make room rs) refl p
      go false false (fails q) e p = absurd (omega arith)

  called : (work : List ℕ) (old : Bytes) → 0 < (call_by make s work old).written → FewestTypes s (call_by make s work old)
  unfolding call_by outcome output_after
  called work old p =
      let x = said (length work) (length old) p in
      let bs = (assemble_by make s (length work) (length old)).bytes in
      record { number = x.number; records = x.records; reads = x.reads; types = rw (take-append_seam bs (drop (length bs) old)) x.types }

-- beyond what is lent nothing is written
fewest_beyond : (s : Bytes) (o : Outcome) (beyond : Bytes) → o.written ≤ length o.output → FewestTypes s o → FewestTypes s (going_on o beyond)
fewest_beyond s o beyond h x = record { number = x.number; records = x.records; reads = x.reads; types = rw (take-append-le _ _ beyond h) x.types }

-- ## Any call, where it has written a module

module _ (make : Maker) (writes : WritesSmallest make) (s : Bytes) (work : List ℕ) (old : Bytes) where
  pub fewest_by : (r : Said) (out : Bytes) (w : List ℕ) → AssemblesBy (call_by make) s work old r out w → 0 < r.len → FewestTypes s (outcome_of r out w)
  fewest_by r out w k p = rw k (called make writes s work old (rw (ap (λ o. o.written) k) at p))

  pub export_fewest_by : (r : ℕ) (a : List ℕ) (out : Bytes) (w : List ℕ) → ExportsBy (call_by make) s work old r a out w
      → 0 < (outcome_in r a out w).written → FewestTypes s (outcome_in r a out w)
  export_fewest_by r a out w k p =
      let x = export_says (call_by make) s work old r a out w k in
      rw x (fewest_beyond s _ _ (written-within make s work _) (called make writes s work (take (lent old) old) (rw (ap (λ o. o.written) x) at p)))

-- ## The calls

module _ (s : Bytes) (work : List ℕ) (old : Bytes) (r : Said) (out : Bytes) (w : List ℕ) where
  pub fewest_assemble : Assembles s work old r out w → 0 < r.len → FewestTypes s (outcome_of r out w)
  unfolding call
  fewest_assemble = fewest_by (module_in false same_bytes) (module_writes false) s work old r out w

  pub fewest_assemble_names : AssemblesNames s work old r out w → 0 < r.len → FewestTypes s (outcome_of r out w)
  unfolding call_names
  fewest_assemble_names = fewest_by (named_module_in false) (names_write false) s work old r out w

  pub fewest_assemble_strict : AssemblesStrict s work old r out w → 0 < r.len → FewestTypes s (outcome_of r out w)
  unfolding call_strict
  fewest_assemble_strict = fewest_by (module_in true same_bytes) (module_writes true) s work old r out w

  pub fewest_assemble_strict_names : AssemblesStrictNames s work old r out w → 0 < r.len → FewestTypes s (outcome_of r out w)
  unfolding call_strict_names
  fewest_assemble_strict_names = fewest_by (named_module_in true) (names_write true) s work old r out w

-- the exported calls: the written length is the answer's third word
module _ (s : Bytes) (work : List ℕ) (old : Bytes) (r : ℕ) (a : List ℕ) (out : Bytes) (w : List ℕ) where
  pub fewest_export : Exports s work old r a out w → 0 < (outcome_in r a out w).written → FewestTypes s (outcome_in r a out w)
  unfolding call
  fewest_export = export_fewest_by (module_in false same_bytes) (module_writes false) s work old r a out w

  pub fewest_export_names : ExportsNames s work old r a out w → 0 < (outcome_in r a out w).written → FewestTypes s (outcome_in r a out w)
  unfolding call_names
  fewest_export_names = export_fewest_by (named_module_in false) (names_write false) s work old r a out w

  pub fewest_export_strict : ExportsStrict s work old r a out w → 0 < (outcome_in r a out w).written → FewestTypes s (outcome_in r a out w)
  unfolding call_strict
  fewest_export_strict = export_fewest_by (module_in true same_bytes) (module_writes true) s work old r a out w

  pub fewest_export_strict_names : ExportsStrictNames s work old r a out w → 0 < (outcome_in r a out w).written → FewestTypes s (outcome_in r a out w)
  unfolding call_strict_names
  fewest_export_strict_names = export_fewest_by (named_module_in true) (names_write true) s work old r a out w
