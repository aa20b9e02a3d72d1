-- Operands: what is resolved is what was put.
use Rattle.std.specs.Prelude.{Ok, Err}
use Rattle.syntax.specs.Refusals.{Resolved}
use Prim.Native.Nat.{ℕ, ◌*◌, ◌<◌, ◌^◌}
use mathlib.Core.Path.{◌≡◌, refl}
use mathlib.Core.List.{List, [], ◌∷◌}
use lib.ListN.{length}
use Rattle.definition.specs.Basic.{ok, ◌>>=◌}
use Rattle.definition.specs.Syntax as Syntax
use Rattle.definition.specs.Syntax.{Identifier}
use Rattle.definition.specs.Names.{Namespace, item_no, local_no, depth_of, immediate, plain_op}
use Rattle.definition.specs.Binary as Binary
use Rattle.definition.specs.Binary.{imm, instruction}
use Rattle.syntax.specs.declared.Refusal.{Refusal}
use Rattle.emit.specs.Put.{Put}
use Rattle.emit.proofs.Laws.{put-skip}
use Rattle.syntax.specs.Tokens.{part_of, space_of, index_of}
use Rattle.syntax.specs.declared.Part.{Part}
use Rattle.syntax.specs.declared.Index.{Index}
use Rattle.syntax.specs.declared.Space.{Space}
use Rattle.syntax.specs.Plain.{operand_of}
use Rattle.syntax.specs.declared.Operand.{Operand}
use Rattle.syntax.specs.declared.Operand.TheVariants as O
use Rattle.name_table.specs.Area.{resolved}
use Rattle.scope.specs.Scope.{scope_in, locals_in, labels_in}
use Rattle.scope.specs.Answers.{local_answer}
use Rattle.scope.specs.declared.Locals.{Locals}
use Rattle.syntax.specs.Resolved as View
use Rattle.syntax.specs.declared.LocalNo.{LocalNo}
use Rattle.binary.specs.Emits.{Emits}
use Rattle.binary.proofs.Emitting.{wrote, halts, emits-map, put-emits}
use Rattle.operands.specs.Operands.{depth_bytes}

-- ## One index

module _ (s w : List ℕ) (ls bs : Namespace Identifier) (rec : ℕ) (x : Syntax.Index Identifier) (old : List ℕ) (at : ℕ) (new : List ℕ) where
  abbrev Says : Syntax.Operand Identifier → Resolved ℕ → Type 0
  Says p r = Emits imm (immediate (scope_in s w) ls bs rec p) old at r new

  pub label_is : (q : Resolved ℕ) → Emits depth_bytes (depth_of (scope_in s w) bs rec x) old at q new → Says (Syntax.label x) q
  unfolding immediate imm depth_bytes
  label_is q e = emits-map depth_bytes imm (λ d. Syntax.label_imm d) (depth_of (scope_in s w) bs rec x) old at q new (λ d. refl) e

  module _ (y : Resolved LocalNo) (told : local_no (scope_in s w) ls rec x ≡ local_answer y) where
    pub local_to : (n : LocalNo) (r : ℕ) → y ≡ Ok n → Put old at (Binary.u (View.local_no_of n).local_no) r new → Says (Syntax.local x) (Ok r)
    unfolding immediate ◌>>=◌ imm
    local_to n r e p = wrote imm (immediate (scope_in s w) ls bs rec (Syntax.local x)) old at new (Syntax.local_imm (View.local_no_of n)) r p (rw (told, e))

    pub local_not : (q : Refusal) → y ≡ Err q → Says (Syntax.local x) (Err q)
    unfolding immediate ◌>>=◌
    local_not q e = halts imm (immediate (scope_in s w) ls bs rec (Syntax.local x)) old at new q (rw (told, e))

  pub item-is : (q : Resolved ℕ) (j : Syntax.Space) → Emits Binary.u (item_no (scope_in s w) j rec x) old at q new → Says (Syntax.item j x) q
  unfolding immediate imm
  item-is q j e = emits-map Binary.u imm (λ n. Syntax.item_imm n) (item_no (scope_in s w) j rec x) old at q new (λ n. refl) e

  module _ (y : Resolved ℕ) (a o : ℕ) (told : item_no (scope_in s w) Syntax.mems rec x ≡ resolved y) where
    pub access_to : (m r : ℕ) → y ≡ Ok m → Put old at (Binary.memarg a o m) r new → Says (Syntax.access a o x) (Ok r)
    unfolding immediate ◌>>=◌ imm
    access_to m r e p = wrote imm (immediate (scope_in s w) ls bs rec (Syntax.access a o x)) old at new (Syntax.access_imm a o m) r p (rw (told, e))

    pub access_not : (q : Refusal) → y ≡ Err q → Says (Syntax.access a o x) (Err q)
    unfolding immediate ◌>>=◌
    access_not q e = halts imm (immediate (scope_in s w) ls bs rec (Syntax.access a o x)) old at new q (rw (told, e))

-- ## `emit_operand`

module _ (s w : List ℕ) (l : Locals) (k rec : ℕ) (p : Operand) (old : List ℕ) (at : ℕ) where
  abbrev Operates : Resolved ℕ → List ℕ → Type 0
  Operates r new = Emits imm (immediate (scope_in s w) (locals_in s w l) (labels_in s w k) rec (operand_of s p)) old at r new

  -- it has no index
  module _ (i : Syntax.Imm) (means : immediate (scope_in s w) (locals_in s w l) (labels_in s w k) rec (operand_of s p) ≡ ok i) where
    put-imm : (r : ℕ) (new : List ℕ) → Put old at (imm i) r new → Operates (Ok r) new
    put-imm r new e = wrote imm (immediate (scope_in s w) (locals_in s w l) (labels_in s w k) rec (operand_of s p)) old at new i r e means

  pub operand-nothing : length old * 1 < 2 ^ 63 → p ≡ O.Nothing → Operates (Ok at) old
  unfolding immediate imm
  operand-nothing h d = put-imm Syntax.no_imm (rw d) at old (put-skip h refl)

  pub operand-int32 : (n r : ℕ) (new : List ℕ) → p ≡ O.Int32 n → Put old at (Binary.s (Binary.integer 32 n)) r new → Operates (Ok r) new
  unfolding immediate imm
  operand-int32 n r new d e = put-imm (Syntax.int32_imm n) (rw d) r new e

  pub operand-int64 : (n r : ℕ) (new : List ℕ) → p ≡ O.Int64 n → Put old at (Binary.s (Binary.integer 64 n)) r new → Operates (Ok r) new
  unfolding immediate imm
  operand-int64 n r new d e = put-imm (Syntax.int64_imm n) (rw d) r new e

  pub operand-raw : (q : Part) (r : ℕ) (new : List ℕ) → p ≡ O.Raw q → Put old at (part_of s q) r new → Operates (Ok r) new
  unfolding immediate imm
  operand-raw q r new d e = put-imm (Syntax.raw_imm (part_of s q)) (rw d) r new e

  pub operand_heap : (t r : ℕ) (new : List ℕ) → p ≡ O.Heap t → Put old at (t ∷ []) r new → Operates (Ok r) new
  unfolding immediate imm
  operand_heap t r new d e = put-imm (Syntax.raw_imm (t ∷ [])) (rw d) r new e

  -- it has some: the others say nothing of locals, or nothing of blocks
  module _ (r : Resolved ℕ) (new : List ℕ) where
    pub operand-label : (x : Index) → p ≡ O.Label x → Emits imm (immediate (scope_in s w) [] (labels_in s w k) rec (Syntax.label (index_of s x))) old at r new → Operates r new
    unfolding immediate
    operand-label x d e = rw d e

    pub operand-labels : (xs : _) (x : Index) → p ≡ O.Labels xs x → Emits imm (immediate (scope_in s w) [] (labels_in s w k) rec (operand_of s (O.Labels xs x))) old at r new → Operates r new
    unfolding immediate
    operand-labels xs x d e = rw d e

    pub operand-local : (x : Index) → p ≡ O.Local x → Emits imm (immediate (scope_in s w) (locals_in s w l) [] rec (Syntax.local (index_of s x))) old at r new → Operates r new
    unfolding immediate
    operand-local x d e = rw d e

    pub operand-item : (j : Space) (x : Index) → p ≡ O.Item j x → Emits imm (immediate (scope_in s w) [] [] rec (Syntax.item (space_of j) (index_of s x))) old at r new → Operates r new
    unfolding immediate
    operand-item j x d e = rw d e

    pub operand-items : (b here : ℕ) → p ≡ O.Items b here → Emits imm (immediate (scope_in s w) [] [] rec (operand_of s (O.Items b here))) old at r new → Operates r new
    unfolding immediate
    operand-items b here d e = rw d e

    pub operand-access : (a o : ℕ) (x : Index) → p ≡ O.Access a o x → Emits imm (immediate (scope_in s w) [] [] rec (Syntax.access a o (index_of s x))) old at r new → Operates r new
    unfolding immediate
    operand-access a o x d e = rw d e

pub ruleset operands = (operand-nothing, operand-int32, operand-int64, operand-raw, operand_heap, operand-label, operand-labels, operand-local, operand-item, operand-items, operand-access)

-- ## The opcode before it

pub opcode_then : (s w : List ℕ) (ls bs : Namespace Identifier) (rec opcode : ℕ) (p : Syntax.Operand Identifier) (old : List ℕ) (at o : ℕ) (mid : List ℕ) (q : Resolved ℕ) (new : List ℕ)
    → Put old at (opcode ∷ []) o mid → Emits imm (immediate (scope_in s w) ls bs rec p) mid o q new
    → Emits instruction (plain_op (scope_in s w) ls bs rec (record { opcode = opcode; operand = p })) old at q new
unfolding plain_op instruction
opcode_then s w ls bs rec opcode p old at o mid q new e f =
    put-emits imm instruction (λ i. record { opcode = opcode; imm = i }) (immediate (scope_in s w) ls bs rec p) old at (opcode ∷ []) o mid q new (λ i. refl) e f
