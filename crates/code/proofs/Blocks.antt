-- Instructions that open or close a block or have a type use: what is resolved is what was written.
use Rattle.std.specs.Prelude.{Option as Optional, Ok, Err, None, IsErrAnd}
use Rattle.std.specs.Result.{IsErr}
use Rattle.syntax.specs.Refusals.{Resolved, refused_by}
use Rattle.syntax.proofs.Ways.{handed}
use Prim.Native.Nat.{ℕ, zero, suc, ◌+◌, ◌-◌, ◌≤◌, ◌<◌}
use mathlib.Core.Path.{◌≡◌, refl, sym, ap}
use mathlib.Core.List.{List, [], ◌∷◌}
use mathlib.Core.Option.{Option, none}
use lib.Dec.{ltb}
use borrow.Author.Tests.{lt-ltb, le-ltb}
use native.Mathlib.Omega.{arith}
use Rattle.definition.specs.Basic.{ok, ◌>>=◌}
use Rattle.definition.specs.Syntax as Syntax
use Rattle.definition.specs.Syntax.{Identifier, instr}
use Rattle.definition.specs.Reader.{Step, got, fault, onward, Reader, require, ◌>>◌}
use Rattle.definition.specs.Token as Token
use Rattle.definition.specs.Instructions as Instructions
use Rattle.definition.specs.Instructions.{opening, calling}
use Rattle.laws.specs.Depths.{depth_after}
use Rattle.definition.specs.Types as Types
use Rattle.definition.specs.Types.{used_at, instr_uses}
use Rattle.definition.specs.Names.{Namespace, item_no, type_no, block_type, closes, blocks_after, instr_op}
use Rattle.definition.specs.Binary as Binary
use Rattle.definition.specs.Binary.{instruction, imm}
use Rattle.syntax.specs.declared.Place.{Place}
use Rattle.syntax.specs.declared.Refusal.{Refusal}
use Rattle.emit.specs.Put.{Put}
use Rattle.emit.proofs.Laws.{put_cons}
use Rattle.syntax.specs.Tokens.{id_of, index_of}
use Rattle.token.specs.Known.{Gets}
use Rattle.syntax.specs.declared.Part.{Part}
use Rattle.syntax.specs.declared.Index.{Index}
use Rattle.syntax.specs.TypeUses.{use_of}
use Rattle.syntax.specs.declared.TypeUse.{TypeUse}
use Rattle.instr.specs.Bodies.{deep_instr}
use Rattle.instr.proofs.Known.{elses-known, ends-known}
use Rattle.instr.proofs.Ways.{deep_opening, deep_elsing, deep_ending}
use Rattle.type_table.specs.Table.{types_in, Recalled}
use Rattle.scope.specs.Scope.{scope_in, labels_in}
use Rattle.type_table.specs.Uses.{block_uses}
use Rattle.scope.proofs.Frames.{labels_close}
use Rattle.frames.specs.Blocks.{Opened}
use Rattle.syntax.specs.Resolved.{block_type_of, type_no_of}
use Rattle.syntax.specs.declared.BlockType.{BlockType}
use Rattle.syntax.specs.declared.TypeNo.{TypeNo}
use Rattle.binary.specs.Emits.{Wrote, Emits}
use Rattle.binary.proofs.Emitting.{wrote, halts}
use Rattle.code.specs.Code.{closing_code, closing_form, closing_op}
use Rattle.plain.specs.Turns.{InBody, past, turn_of, record_of, read_uses, AnyLocals}
use Rattle.plain.proofs.Turns.{turned-fault, turned_on, turned-refused, turned_same}

-- ## `emit_opens`

module _ (s w : List ℕ) (rec opcode : ℕ) (t : Syntax.TypeUse Identifier) (old : List ℕ) (at : ℕ) (new : List ℕ) where
  abbrev Opens : Resolved ℕ → Type 0
  Opens r = Emits instruction (instr_op (scope_in s w) [] [] rec (Syntax.opens opcode none t)) old at r new

  pub opens_to : (b : BlockType) (a r : ℕ) (mid : List ℕ) → block_type (scope_in s w) rec t ≡ ok (block_type_of b) → Put old at (opcode ∷ []) a mid → Put mid a (Binary.block_type (block_type_of b)) r new → Opens (Ok r)
  unfolding instr_op ◌>>=◌ instruction imm
  opens_to b a r mid d p q = wrote instruction (instr_op (scope_in s w) [] [] rec (Syntax.opens opcode none t)) old at new (record { opcode = opcode; imm = Syntax.block_imm (block_type_of b) }) r (put_cons p q) (rw d)

  pub opens_not : (r : Resolved ℕ) (q : Refusal) → block_type (scope_in s w) rec t ≡ refused_by q → IsErr r → IsErrAnd r (λ e. e ≡ q) → Opens r
  unfolding instr_op ◌>>=◌
  opens_not r q d i z = rw (handed r q i z) (halts instruction (instr_op (scope_in s w) [] [] rec (Syntax.opens opcode none t)) old at new q (rw d))

-- ## `opened`

module _ (s w : List ℕ) (p : Place) (op : ℕ) (l : Part) (t : TypeUse) (next : ℕ) (old : List ℕ) (at : ℕ) (new : List ℕ) where
  abbrev Opening : Resolved (Optional (ℕ × Place)) → List ℕ → Type 0
  Opening r w' = AnyLocals s w (p.depth - 1) p.rec (got (instr (Syntax.opens op (id_of s l) (use_of s t))) next) old at r w' new

  pub opened_on : (o : ℕ) (r : Resolved (Optional (ℕ × Place))) (w' : List ℕ) → Wrote instruction (instr_op (scope_in s w) [] [] p.rec (Syntax.opens op none (use_of s t))) old at o new
      → InBody p → p.depth ≤ 128 → Opened s w (p.depth - 1) l w' → r ≡ turn_of (Ok o) (past p next (p.depth + 1)) → Opening r w'
  unfolding instr_op blocks_after depth_after
  opened_on o r w' e v h g u =
      let f : 1 ≤ p.depth = v.deep in
      let m : (p.depth + 1) - 1 ≡ (p.depth - 1) + 1 = omega arith in
      record {
        each = λ ls.
            rw u
            (turned_on s w ls (p.depth - 1) p.rec (got (instr (Syntax.opens op (id_of s l) (use_of s t))) next) old at (Syntax.opens op (id_of s l) (use_of s t)) (past p next (p.depth + 1))
            refl (omega arith) (omega arith) refl new o w' e (rw m g.labels) g.kept);
      }

  pub opened_not : (r : Resolved (Optional (ℕ × Place))) (q : Refusal) → instr_op (scope_in s w) [] [] p.rec (Syntax.opens op none (use_of s t)) ≡ refused_by q → IsErr r → IsErrAnd r (λ e. e ≡ q) → Opening r w
  unfolding instr_op
  opened_not r q e i z = rw (handed r q i z) record {
    each = λ ls. turned-refused s w ls (p.depth - 1) p.rec (got (instr (Syntax.opens op (id_of s l) (use_of s t))) next) old at (Syntax.opens op (id_of s l) (use_of s t)) next q new refl e;
  }

-- ## The records

-- nothing was read
fault-done : (s w : List ℕ) (k rec : ℕ) (m : Step (Syntax.Instr Identifier)) (old : List ℕ) (at n : ℕ) → m ≡ fault n → AnyLocals s w k rec (record_of m) old at (Ok None) w old
fault-done s w k rec m old at n d = record { each = λ ls. turned-fault s w ls k rec (record_of m) old at n (rw d) }

-- an instruction that opens no block
same-done : (s w : List ℕ) (p : Place) (m : Step (Syntax.Instr Identifier)) (x : Syntax.Instr Identifier) (next d : ℕ) (old : List ℕ) (at : ℕ) (y : Resolved ℕ) (r : Resolved (Optional (ℕ × Place))) (new : List ℕ)
    → m ≡ got x next → labels_in s w (d - 1) ≡ blocks_after (labels_in s w (p.depth - 1)) x → d ≡ depth_after x (p.depth - 1) + 1 → d ≤ 129 → r ≡ turn_of y (past p next d)
    → ((ls : _) → Emits instruction (instr_op (scope_in s w) ls (labels_in s w (p.depth - 1)) p.rec x) old at y new) → AnyLocals s w (p.depth - 1) p.rec (record_of m) old at r w new
same-done s w p m x next d old at y r new g b o f t e = record {
  each = λ ls. rw t (turned_same s w ls (p.depth - 1) p.rec (record_of m) old at x (past p next d) (rw g) o f refl new y b (e ls));
}

-- an else or an end, by how many blocks it closes
abbrev closer : ℕ → Option Identifier → Syntax.Instr Identifier
closer zero l = Syntax.elses l
closer (suc c) l = Syntax.ends l

module _ (s : List ℕ) (k op here : ℕ) where
  opening_reads : deep_instr k op opening s here ≡ (require 7 (ltb k 128) >> Instructions.instruction op opening) s here
  opening_reads = ap (λ (m : Reader (Syntax.Instr Identifier)). m s here) (deep_opening k op)

  -- an else or an end is read in the same way
  closing_reads : (c : ℕ) → deep_instr k op (closing_form c) s here
      ≡ onward (λ _ q. onward (λ l next. got (closer c l) next) (Token.identifier s q)) (require 8 (ltb 0 k) s here)
  unfolding Instructions.instruction
  closing_reads zero = ap (λ (m : Reader (Syntax.Instr Identifier)). m s here) (deep_elsing k op)
  closing_reads (suc c) = ap (λ (m : Reader (Syntax.Instr Identifier)). m s here) (deep_ending k op)

  pub closing_known : (c : ℕ) → Gets (deep_instr k op (closing_form c) s here) → Gets (Token.identifier s here)
  closing_known zero g = elses-known s k op here g
  closing_known (suc c) g = ends-known s k op here g

module _ (s w : List ℕ) (p : Place) (op here : ℕ) where
  -- a block
  pub opens_full : (old : List ℕ) (at : ℕ) → 128 < p.depth → AnyLocals s w (p.depth - 1) p.rec (record_of (deep_instr (p.depth - 1) op opening s here)) old at (Ok None) w old
  opens_full old at h =
      let g : 128 ≤ p.depth - 1 = omega arith in
      fault-done s w (p.depth - 1) p.rec (deep_instr (p.depth - 1) op opening s here) old at 7 (rw (opening_reads s (p.depth - 1) op here, le-ltb _ _ g))

  module _ (low : p.depth ≤ 128) where
    few : p.depth - 1 < 128
    few = omega arith

    pub opens_unnamed : (old : List ℕ) (at n : ℕ) → Token.identifier s here ≡ fault n → AnyLocals s w (p.depth - 1) p.rec (record_of (deep_instr (p.depth - 1) op opening s here)) old at (Ok None) w old
    opens_unnamed old at n d = fault-done s w (p.depth - 1) p.rec (deep_instr (p.depth - 1) op opening s here) old at n (unfold Instructions.instruction in rw (opening_reads s (p.depth - 1) op here, lt-ltb _ _ few, d))

    module _ (l : Part) (a : ℕ) (d : Token.identifier s here ≡ got (id_of s l) a) where
      pub opens-untyped : (old : List ℕ) (at n : ℕ) → Token.type_use s a ≡ fault n → AnyLocals s w (p.depth - 1) p.rec (record_of (deep_instr (p.depth - 1) op opening s here)) old at (Ok None) w old
      opens-untyped old at n e = fault-done s w (p.depth - 1) p.rec (deep_instr (p.depth - 1) op opening s here) old at n (unfold Instructions.instruction in rw (opening_reads s (p.depth - 1) op here, lt-ltb _ _ few, d, e))

      module _ (t : TypeUse) (next : ℕ) (e : Token.type_use s a ≡ got (use_of s t) next) where
        opens-reads : deep_instr (p.depth - 1) op opening s here ≡ got (Syntax.opens op (id_of s l) (use_of s t)) next
        unfolding Instructions.instruction
        opens-reads = rw (opening_reads s (p.depth - 1) op here, lt-ltb _ _ few, d, e)

        -- what its type use needs
        pub opens-uses : Recalled w (types_in s w) (read_uses p.rec (deep_instr (p.depth - 1) op opening s here)) → Recalled w (types_in s w) (used_at p.rec (block_uses (use_of s t)))
        unfolding instr_uses
        opens-uses h = rw opens-reads at h

        pub opens-got : (old : List ℕ) (at : ℕ) (r : Resolved (Optional (ℕ × Place))) (w' new : List ℕ) → AnyLocals s w (p.depth - 1) p.rec (got (instr (Syntax.opens op (id_of s l) (use_of s t))) next) old at r w' new
            → AnyLocals s w (p.depth - 1) p.rec (record_of (deep_instr (p.depth - 1) op opening s here)) old at r w' new
        opens-got old at r w' new v = rw opens-reads v

pub ruleset openings = (opens_full, opens_unnamed, opens-untyped, opens-got)

-- an else or an end
closer_op : (s w : List ℕ) (k rec c : ℕ) (ls : Namespace Identifier) (l : Option Identifier) → instr_op (scope_in s w) ls (labels_in s w k) rec (closer c l) ≡ closing_op s w k rec (closing_code c) l
unfolding instr_op closing_op
closer_op s w k rec zero ls l = refl
closer_op s w k rec (suc c) ls l = refl

closer_labels : (s w : List ℕ) (k c : ℕ) (l : Option Identifier) → c ≤ 1 → labels_in s w (k - c) ≡ blocks_after (labels_in s w k) (closer c l)
unfolding blocks_after
closer_labels s w k zero l h = (let e : k - 0 ≡ k = omega arith in rw e)
closer_labels s w k (suc c) l h = (let e : suc c ≡ 1 = omega arith in rw e (sym (labels_close s w k)))

closer_open : (k c : ℕ) (l : Option Identifier) → c ≤ 1 → k - c ≡ depth_after (closer c l) k
unfolding depth_after
closer_open k zero l h = omega arith
closer_open k (suc c) l h = omega arith

module _ (s w : List ℕ) (p : Place) (op c here : ℕ) where
  abbrev Closing : List ℕ → ℕ → Resolved (Optional (ℕ × Place)) → List ℕ → Type 0
  Closing old at r new = AnyLocals s w (p.depth - 1) p.rec (record_of (deep_instr (p.depth - 1) op (closing_form c) s here)) old at r w new

  pub closing_outside : (old : List ℕ) (at : ℕ) → p.depth < 2 → Closing old at (Ok None) old
  closing_outside old at h =
      let g : p.depth - 1 ≤ 0 = omega arith in
      fault-done s w (p.depth - 1) p.rec (deep_instr (p.depth - 1) op (closing_form c) s here) old at 8 (rw (closing_reads s (p.depth - 1) op here c, le-ltb _ _ g))

  module _ (low : 2 ≤ p.depth) where
    some : 0 < p.depth - 1
    some = omega arith

    pub closing_unnamed : (old : List ℕ) (at n : ℕ) → Token.identifier s here ≡ fault n → Closing old at (Ok None) old
    closing_unnamed old at n d =
        fault-done s w (p.depth - 1) p.rec (deep_instr (p.depth - 1) op (closing_form c) s here) old at n (rw (closing_reads s (p.depth - 1) op here c, lt-ltb _ _ some, d))

    pub closing_got : (l : Part) (next : ℕ) (old : List ℕ) (at : ℕ) (y : Resolved ℕ) (r : Resolved (Optional (ℕ × Place))) (new : List ℕ) → Token.identifier s here ≡ got (id_of s l) next → InBody p → c ≤ 1 → op ≡ closing_code c
        → Emits instruction (closing_op s w (p.depth - 1) p.rec op (id_of s l)) old at y new → r ≡ turn_of y (past p next (p.depth - c)) → Closing old at r new
    closing_got l next old at y r new d f h o e t =
        let v : Emits instruction (closing_op s w (p.depth - 1) p.rec (closing_code c) (id_of s l)) old at y new = rw o at e in
        let m : (p.depth - c) - 1 ≡ (p.depth - 1) - c = omega arith in
        let few : p.depth ≤ 129 = f.few in
        same-done s w p (deep_instr (p.depth - 1) op (closing_form c) s here) (closer c (id_of s l)) next (p.depth - c) old at y r new
        (rw (closing_reads s (p.depth - 1) op here c, lt-ltb _ _ some, d)) (rw m (closer_labels s w (p.depth - 1) c (id_of s l) h))
        (omega (arith, closer_open (p.depth - 1) c (id_of s l) h)) (omega arith) t (λ ls. rw (closer_op s w (p.depth - 1) p.rec c ls (id_of s l)) v)

pub ruleset closings = (closing_outside, closing_unnamed, closing_got)

-- a call_indirect
module _ (s w : List ℕ) (p : Place) (here : ℕ) where
  pub indirect-fault : (old : List ℕ) (at n : ℕ) → Token.optional s here ≡ fault n → AnyLocals s w (p.depth - 1) p.rec (record_of (deep_instr (p.depth - 1) 0x11 calling s here)) old at (Ok None) w old
  indirect-fault old at n d = fault-done s w (p.depth - 1) p.rec (deep_instr (p.depth - 1) 0x11 calling s here) old at n (unfold deep_instr Instructions.admits Instructions.instruction in rw d)

  module _ (x : Index) (a : ℕ) (d : Token.optional s here ≡ got (index_of s x) a) where
    pub indirect-untyped : (old : List ℕ) (at n : ℕ) → Token.type_use s a ≡ fault n → AnyLocals s w (p.depth - 1) p.rec (record_of (deep_instr (p.depth - 1) 0x11 calling s here)) old at (Ok None) w old
    indirect-untyped old at n e = fault-done s w (p.depth - 1) p.rec (deep_instr (p.depth - 1) 0x11 calling s here) old at n (unfold deep_instr Instructions.admits Instructions.instruction in rw (d, e))

    module _ (t : TypeUse) (next : ℕ) (e : Token.type_use s a ≡ got (use_of s t) next) where
      indirect-reads : deep_instr (p.depth - 1) 0x11 calling s here ≡ got (Syntax.indirect (index_of s x) (use_of s t)) next
      unfolding deep_instr Instructions.admits Instructions.instruction
      indirect-reads = rw (d, e)

      pub indirect-uses : Recalled w (types_in s w) (read_uses p.rec (deep_instr (p.depth - 1) 0x11 calling s here)) → Recalled w (types_in s w) (used_at p.rec (Types.use_of (use_of s t)))
      unfolding instr_uses
      indirect-uses h = rw indirect-reads at h

      pub indirect-got : (old : List ℕ) (at : ℕ) (y : Resolved ℕ) (r : Resolved (Optional (ℕ × Place))) (new : List ℕ) → InBody p → Emits instruction (instr_op (scope_in s w) [] [] p.rec (Syntax.indirect (index_of s x) (use_of s t))) old at y new
          → r ≡ turn_of y (past p next p.depth) → AnyLocals s w (p.depth - 1) p.rec (record_of (deep_instr (p.depth - 1) 0x11 calling s here)) old at r w new
      unfolding instr_op blocks_after depth_after
      indirect-got old at y r new f v z =
          let g : 1 ≤ p.depth = f.deep in
          same-done s w p (deep_instr (p.depth - 1) 0x11 calling s here) (Syntax.indirect (index_of s x) (use_of s t)) next p.depth old at y r new indirect-reads refl (omega arith) f.few z (λ ls. v)

pub ruleset calls = (indirect-fault, indirect-untyped, indirect-got)

-- ## `emit_closing`

module _ (s w : List ℕ) (k rec opcode : ℕ) (l : Option Identifier) (old : List ℕ) (at : ℕ) (new : List ℕ) where
  pub closing_to : (r : ℕ) → closes (scope_in s w) rec l (labels_in s w k) ≡ ok tt → Put old at (opcode ∷ []) r new → Emits instruction (closing_op s w k rec opcode l) old at (Ok r) new
  unfolding closing_op ◌>>=◌ instruction imm
  closing_to r d p = wrote instruction (closing_op s w k rec opcode l) old at new (record { opcode = opcode; imm = Syntax.no_imm }) r p (rw d)

  pub closing_not : (r : Resolved ℕ) (q : Refusal) → closes (scope_in s w) rec l (labels_in s w k) ≡ refused_by q → IsErr r → IsErrAnd r (λ e. e ≡ q) → Emits instruction (closing_op s w k rec opcode l) old at r new
  unfolding closing_op ◌>>=◌
  closing_not r q d i z = rw (handed r q i z) (halts instruction (closing_op s w k rec opcode l) old at new q (rw d))

-- ## `emit_indirect`

module _ (s w : List ℕ) (rec : ℕ) (x : Syntax.Index Identifier) (t : Syntax.TypeUse Identifier) (old : List ℕ) (at : ℕ) (new : List ℕ) where
  abbrev Indirect : Resolved ℕ → Type 0
  Indirect r = Emits instruction (instr_op (scope_in s w) [] [] rec (Syntax.indirect x t)) old at r new

  pub indirect_stops : (r : Resolved ℕ) (q : Refusal) → item_no (scope_in s w) Syntax.tables rec x ≡ refused_by q → IsErr r → IsErrAnd r (λ e. e ≡ q) → Indirect r
  unfolding instr_op ◌>>=◌
  indirect_stops r q d i z = rw (handed r q i z) (halts instruction (instr_op (scope_in s w) [] [] rec (Syntax.indirect x t)) old at new q (rw d))

  module _ (table : ℕ) (d : item_no (scope_in s w) Syntax.tables rec x ≡ ok table) where
    pub indirect_to : (n : TypeNo) (a r : ℕ) (mid : List ℕ) → type_no (scope_in s w) rec t ≡ ok (type_no_of n) → Put old at (0x11 ∷ []) a mid → Put mid a (imm (Syntax.indirect_imm (type_no_of n) table)) r new → Indirect (Ok r)
    unfolding instr_op ◌>>=◌ instruction
    indirect_to n a r mid e p q =
        wrote instruction (instr_op (scope_in s w) [] [] rec (Syntax.indirect x t)) old at new (record { opcode = 0x11; imm = Syntax.indirect_imm (type_no_of n) table }) r (put_cons p q) (rw (d, e))

    pub indirect_not : (r : Resolved ℕ) (q : Refusal) → type_no (scope_in s w) rec t ≡ refused_by q → IsErr r → IsErrAnd r (λ e. e ≡ q) → Indirect r
    unfolding instr_op ◌>>=◌
    indirect_not r q e i z = rw (handed r q i z) (halts instruction (instr_op (scope_in s w) [] [] rec (Syntax.indirect x t)) old at new q (rw (d, e)))
