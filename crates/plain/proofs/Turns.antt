-- One record: what was read, and what came of it.
use Rattle.std.specs.Prelude.{Ok, Err, Option, Some, None}
use Rattle.syntax.specs.Refusals.{Resolved}
use Prim.Native.Nat.{ℕ, ◌+◌, ◌-◌, ◌≤◌}
use mathlib.Core.Path.{◌≡◌, refl}
use mathlib.Core.List.{List}
use native.Mathlib.Omega.{arith}
use Rattle.definition.specs.Syntax as Syntax
use Rattle.definition.specs.Syntax.{Identifier, Rec, instr, plain}
use Rattle.definition.specs.Reader.{Step, got, fault}
use Rattle.laws.specs.Depths.{depth_after}
use Rattle.definition.specs.Names.{Namespace, blocks_after, plain_op, instr_op}
use Rattle.definition.specs.Binary.{instruction}
use Rattle.syntax.specs.Refusals.{refused_by}
use Rattle.syntax.specs.declared.Place.{Place}
use Rattle.syntax.specs.declared.Refusal.{Refusal}
use Rattle.area.specs.Layout.{LABELS}
use Rattle.area.specs.Kept.{Kept}
use Rattle.area.proofs.Kept.{kept_same}
use Rattle.scope.specs.Scope.{scope_in, labels_in}
use Rattle.binary.specs.Emits.{Wrote, Emits}
use Rattle.plain.specs.Turns.{InBody, past, turn_of, plain_record, Turned}

-- ## `go_on`

module _ (e : Resolved ℕ) (p : Place) where
  pub goes_to : (o : ℕ) → e ≡ Ok o → Ok (Some (o, p)) ≡ turn_of e p
  goes_to o d = rw d

  pub goes_not : (q : Refusal) → e ≡ Err q → Err q ≡ turn_of e p
  goes_not q d = rw d

-- ## Any record

module _ (s w : List ℕ) (ls : Namespace Identifier) (k rec : ℕ) (m : Step (Rec Identifier)) (old : List ℕ) (at : ℕ) where
  pub turned-fault : (n : ℕ) → m ≡ fault n → Turned s w ls k rec m old at (Ok None) w old
  unfolding Turned
  turned-fault n d = record { none = λ x next e. let z : ◌≡◌ {A = ℕ} 0 1 = cc in omega arith; area = refl; bytes = refl }

  pub turned-refused : (x : Syntax.Instr Identifier) (next : ℕ) (q : Refusal) (new : List ℕ) → m ≡ got (instr x) next
      → instr_op (scope_in s w) ls (labels_in s w k) rec x ≡ refused_by q → Turned s w ls k rec m old at (Err q) w new
  unfolding Turned
  turned-refused x next q new reads e = record { read = x; next = next; reads = reads; says = e; area = refl }

  -- an instruction was read and emitted
  module _ (x : Syntax.Instr Identifier) (p : Place) (reads : m ≡ got (instr x) p.at) (d : p.depth ≡ depth_after x k + 1) (f : p.depth ≤ 129) (n : p.rec ≡ rec + 1) (new : List ℕ) where
    pub turned_on : (o : ℕ) (w' : List ℕ) → Wrote instruction (instr_op (scope_in s w) ls (labels_in s w k) rec x) old at o new
        → labels_in s w' (p.depth - 1) ≡ blocks_after (labels_in s w k) x → Kept LABELS w w' → Turned s w ls k rec m old at (Ok (Some (o, p))) w' new
    unfolding Turned
    turned_on o w' v b kept = record { read = x; op = v.value; reads = reads; is = v.is; put = v.put; blocks = b; depth = d; few = f; next = n; kept = kept }

    -- it opened no block
    pub turned_same : (y : Resolved ℕ) → labels_in s w (p.depth - 1) ≡ blocks_after (labels_in s w k) x
        → Emits instruction (instr_op (scope_in s w) ls (labels_in s w k) rec x) old at y new → Turned s w ls k rec m old at (turn_of y p) w new
    unfolding Emits
    turned_same (Ok o) b v = turned_on o w v b (kept_same LABELS w)
    turned_same (Err q) b v = turned-refused x p.at q new reads v

-- ## Plain ones

module _ (s w : List ℕ) (ls : Namespace Identifier) (p : Place) (m : Step (Syntax.Plain Identifier)) (old : List ℕ) (at : ℕ) where
  pub plain-fault : (n : ℕ) → m ≡ fault n → Turned s w ls (p.depth - 1) p.rec (plain_record m) old at (Ok None) w old
  plain-fault n d = turned-fault s w ls (p.depth - 1) p.rec (plain_record m) old at n (rw d)

  pub plain-got : (x : Syntax.Plain Identifier) (next : ℕ) (y : Resolved ℕ) (r : Resolved (Option (ℕ × Place))) (new : List ℕ) → m ≡ got x next → InBody p
      → Emits instruction (plain_op (scope_in s w) ls (labels_in s w (p.depth - 1)) p.rec x) old at y new → r ≡ turn_of y (past p next p.depth)
      → Turned s w ls (p.depth - 1) p.rec (plain_record m) old at r w new
  unfolding blocks_after depth_after instr_op
  plain-got x next y r new d f e t =
      let g : 1 ≤ p.depth = f.deep in
      rw t (turned_same s w ls (p.depth - 1) p.rec (plain_record m) old at (plain x) (past p next p.depth) (rw d) (omega arith) f.few refl new y refl e)
