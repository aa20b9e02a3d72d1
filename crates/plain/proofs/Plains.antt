-- Instructions that open and close no block and have no type use: what is read is resolved and written.
use Rattle.std.specs.Prelude.{Ok, Err, Option, None}
use Rattle.syntax.specs.Reads.{Read}
use Rattle.syntax.specs.Refusals.{number, Resolved}
use Rattle.syntax.specs.declared.Fault.{Fault}
use Prim.Native.Nat.{ℕ, ◌-◌}
use mathlib.Core.Path.{◌≡◌, refl}
use mathlib.Core.List.{List, [], ◌∷◌}
use Rattle.definition.specs.Basic.{◌>>=◌}
use Rattle.definition.specs.Syntax as Syntax
use Rattle.definition.specs.Token as Token
use Rattle.definition.specs.Instructions as Instructions
use Rattle.definition.specs.Names.{immediate, plain_op}
use Rattle.definition.specs.Binary.{imm, instruction}
use Rattle.emit.specs.Put.{Put}
use Rattle.syntax.specs.Tokens.{space_of, index_of, index_at}
use Rattle.token.specs.Known.{Gets}
use Rattle.syntax.specs.declared.Place.{Place}
use Rattle.syntax.specs.declared.Space.{Space}
use Rattle.syntax.specs.declared.Space.TheVariants as S
use Rattle.syntax.specs.declared.Index.{Index}
use Rattle.token.proofs.Gets.{gets_first}
use Rattle.syntax.specs.Plain.{plain_is, plain_at, operands_is}
use Rattle.syntax.specs.declared.Plain.{Plain}
use Rattle.syntax.specs.declared.Operands.{Operands}
use Rattle.syntax.specs.declared.Operands.TheVariants as W
use Rattle.scope.specs.Scope.{scope_in, locals_in, labels_in}
use Rattle.scope.specs.declared.Locals.{Locals}
use Rattle.binary.specs.Emits.{Emits}
use Rattle.binary.proofs.Emitting.{wrote}
use Rattle.plain.specs.Turns.{InBody, past, turn_of, plain_record, operand_to, indexed, IsIndex, StandsAfter, Turned}
use Rattle.plain.specs.declared.record.After.{After}
use Rattle.plain.specs.declared.record.After.TheVariants as A
use Rattle.plain.specs.declared.record.Target.{Target}
use Rattle.plain.specs.declared.record.Target.TheVariants as G
use Rattle.plain.proofs.Turns.{plain-fault, plain-got}
use Rattle.operands.proofs.Operands.{opcode_then}

-- ## An index

-- `emit_index`: a label says nothing of locals, a local nothing of blocks, an item nothing of either
module _ (s w : List ℕ) (l : Locals) (k rec : ℕ) (to : Target) (x : Index) (old : List ℕ) (at : ℕ) (r : Resolved ℕ) (new : List ℕ) where
  abbrev Refers : Type 0
  Refers = Emits imm (immediate (scope_in s w) (locals_in s w l) (labels_in s w k) rec (operand_to to (index_of s x))) old at r new

  pub to_label : to ≡ G.Label → Emits imm (immediate (scope_in s w) [] (labels_in s w k) rec (Syntax.label (index_of s x))) old at r new → Refers
  unfolding immediate
  to_label d e = rw d e

  pub to_local : to ≡ G.Local → Emits imm (immediate (scope_in s w) (locals_in s w l) [] rec (Syntax.local (index_of s x))) old at r new → Refers
  unfolding immediate
  to_local d e = rw d e

  pub to_item : (j : Space) → to ≡ G.Item j → Emits imm (immediate (scope_in s w) [] [] rec (Syntax.item (space_of j) (index_of s x))) old at r new → Refers
  unfolding immediate
  to_item j d e = rw d e

pub ruleset targets = (to_label, to_local, to_item)

-- `index_record`
module _ (s w : List ℕ) (l : Locals) (p : Place) (op : ℕ) (to : Target) (here : ℕ) (q : Read Index) (told : Token.present s here ≡ index_at s q) (old : List ℕ) (at : ℕ) where
  pub index-unread : (n : Fault) → q ≡ Err n → Turned s w (locals_in s w l) (p.depth - 1) p.rec (plain_record (indexed op (operand_to to) s here)) old at (Ok None) w old
  index-unread n d = plain-fault s w (locals_in s w l) p (indexed op (operand_to to) s here) old at (number n) (unfold indexed in rw (told, d))

  pub index_read : (x : Index) (next a : ℕ) (mid : List ℕ) (y : Resolved ℕ) (new : List ℕ) (r : Resolved (Option (ℕ × Place))) → q ≡ Ok (x, next) → InBody p → Put old at (op ∷ []) a mid
      → Emits imm (immediate (scope_in s w) (locals_in s w l) (labels_in s w (p.depth - 1)) p.rec (operand_to to (index_of s x))) mid a y new → r ≡ turn_of y (past p next p.depth)
      → Turned s w (locals_in s w l) (p.depth - 1) p.rec (plain_record (indexed op (operand_to to) s here)) old at r w new
  index_read x next a mid y new r d few u e t =
      plain-got s w (locals_in s w l) p (indexed op (operand_to to) s here) old at (record { opcode = op; operand = operand_to to (index_of s x) }) next y r new (unfold indexed in rw (told, d)) few
      (opcode_then s w (locals_in s w l) (labels_in s w (p.depth - 1)) p.rec op (operand_to to (index_of s x)) old at a mid y new u e) t

-- ## Any operand

module _ (s w : List ℕ) (l : Locals) (p : Place) (op here : ℕ) (v : Operands) (q : Read Plain) (told : Instructions.plain_of op (operands_is v) s here ≡ plain_at s q) (old : List ℕ) (at : ℕ) where
  pub other-unread : (n : Fault) → q ≡ Err n → Turned s w (locals_in s w l) (p.depth - 1) p.rec (plain_record (Instructions.plain_of op (operands_is v) s here)) old at (Ok None) w old
  other-unread n d = plain-fault s w (locals_in s w l) p (Instructions.plain_of op (operands_is v) s here) old at (number n) (rw (told, d))

  pub other-read : (x : Plain) (next : ℕ) (y : Resolved ℕ) (r : Resolved (Option (ℕ × Place))) (new : List ℕ) → q ≡ Ok (x, next) → InBody p
      → Emits instruction (plain_op (scope_in s w) (locals_in s w l) (labels_in s w (p.depth - 1)) p.rec (plain_is s x)) old at y new → r ≡ turn_of y (past p next p.depth)
      → Turned s w (locals_in s w l) (p.depth - 1) p.rec (plain_record (Instructions.plain_of op (operands_is v) s here)) old at r w new
  other-read x next y r new d f e t = plain-got s w (locals_in s w l) p (Instructions.plain_of op (operands_is v) s here) old at (plain_is s x) next y r new (rw (told, d)) f e t

-- ## `plain_record`

module _ (s w : List ℕ) (l : Locals) (k rec op here : ℕ) (v : Operands) (old : List ℕ) (at : ℕ) (r : Resolved (Option (ℕ × Place))) (new : List ℕ) where
  abbrev Plainly : Type 0
  Plainly = Turned s w (locals_in s w l) k rec (plain_record (Instructions.plain_of op (operands_is v) s here)) old at r w new

  -- where the operand is an index
  abbrev Indexed : Target → Type 0
  Indexed to = Turned s w (locals_in s w l) k rec (plain_record (indexed op (operand_to to) s here)) old at r w new

  pub is-index : (to : Target) → IsIndex v to → Indexed to → Plainly
  is-index to u e = rw (u.is op) e

-- nothing stands after the opcode
pub is_bare : (s w : List ℕ) (l : Locals) (p : Place) (op : ℕ) (v : Operands) (old : List ℕ) (at o : ℕ) (r : Resolved (Option (ℕ × Place))) (new : List ℕ) → v ≡ W.Bare → InBody p → Put old at (op ∷ []) o new
    → r ≡ turn_of (Ok o) (past p p.at p.depth)
    → Turned s w (locals_in s w l) (p.depth - 1) p.rec (plain_record (Instructions.plain_of op (operands_is v) s p.at)) old at r w new
unfolding Instructions.plain_of plain_op immediate ◌>>=◌ instruction imm
is_bare s w l p op v old at o r new d f e t =
    rw d
    (plain-got s w (locals_in s w l) p (Instructions.plain_of op Instructions.bare s p.at) old at (record { opcode = op; operand = Syntax.nothing }) p.at (Ok o) r new refl f
    (wrote instruction (plain_op (scope_in s w) (locals_in s w l) (labels_in s w (p.depth - 1)) p.rec (record { opcode = op; operand = Syntax.nothing })) old at new (record { opcode = op; imm = Syntax.no_imm }) o e refl) t)

pub ruleset kinds = (is_bare, is-index)

-- ## What stands after an opcode

module _ (v : Operands) where
  pub after-label : v ≡ W.LabelIdx → StandsAfter v (A.Index G.Label)
  unfolding StandsAfter Instructions.plain_of indexed
  after-label d = record { is = λ op. rw d refl }

  pub after-local : v ≡ W.LocalIdx → StandsAfter v (A.Index G.Local)
  unfolding StandsAfter Instructions.plain_of indexed
  after-local d = record { is = λ op. rw d refl }

  pub after-func : v ≡ W.FuncIdx → StandsAfter v (A.Index (G.Item S.Funcs))
  unfolding StandsAfter Instructions.plain_of indexed
  after-func d = record { is = λ op. rw d refl }

  pub after-global : v ≡ W.GlobalIdx → StandsAfter v (A.Index (G.Item S.Globals))
  unfolding StandsAfter Instructions.plain_of indexed
  after-global d = record { is = λ op. rw d refl }

  pub after_bare : v ≡ W.Bare → StandsAfter v A.Nothing
  unfolding StandsAfter
  after_bare d = d

  pub after-other : StandsAfter v A.Other
  unfolding StandsAfter
  after-other = tt

  -- what was told
  module _ (a : After) (told : StandsAfter v a) where
    pub told-index : (to : Target) → a ≡ A.Index to → IsIndex v to
    unfolding StandsAfter
    told-index to d = rw d at told

    pub told_bare : a ≡ A.Nothing → v ≡ W.Bare
    unfolding StandsAfter
    told_bare d = rw d at told

-- the index after an opcode can be read where the whole can
pub index-known : (s : List ℕ) (op here : ℕ) (v : Operands) → Gets (Instructions.plain_of op (operands_is v) s here) → (a : After) → StandsAfter v a → (to : Target) → a ≡ A.Index to → Gets (Token.present s here)
unfolding indexed
index-known s op here v g a told to d = gets_first _ (Token.present s here) (rw ((told-index v a told to d).is op) at g)

pub ruleset afters = (after-label, after-local, after-func, after-global, after_bare, after-other)
