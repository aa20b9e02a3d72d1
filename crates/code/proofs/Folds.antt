-- Folded records: the operator of one, its operands from left to right, and both.
use Rattle.std.specs.Prelude.{Option, Ok, Err, Some, None, IsErrAnd}
use Rattle.std.specs.Result.{IsErr}
use Rattle.syntax.specs.Refusals.{Resolved}
use Rattle.syntax.proofs.Ways.{handed}
use Prim.Native.Nat.{ℕ, zero, suc, ◌+◌, ◌-◌, ◌*◌, ◌≤◌, ◌<◌, ◌^◌}
use mathlib.Core.Path.{◌≡◌, refl, sym, ◌∙◌, ap}
use mathlib.Core.Bool.{false}
use mathlib.Core.List.{List, [], ◌∷◌, ◌++◌, append-nil}
use lib.ListN.{length}
use borrow.Author.Tests.{le-leb}
use native.Mathlib.Omega.{arith}
use Rattle.definition.specs.Basic.{Answer, ok, ◌>>=◌, concat_map}
use Rattle.definition.specs.Syntax as Syntax
use Rattle.definition.specs.Syntax.{Identifier, Op, instr}
use Rattle.definition.specs.Reader.{Step, got, fault, onward}
use Rattle.definition.specs.Instructions.{calling, form_of, plain_of, instruction, admits, may_fold, operator_of}
use Rattle.definition.specs.Names.{instr_op, body}
use Rattle.definition.specs.Binary as Binary
use Rattle.syntax.specs.Refusals.{refused_by}
use Rattle.syntax.specs.Plain.{operands_is}
use Rattle.syntax.specs.Instructions.{form_is}
use Rattle.syntax.specs.declared.Place.{Place}
use Rattle.syntax.specs.declared.Refusal.{Refusal}
use Rattle.syntax.specs.declared.Operands.{Operands}
use Rattle.syntax.specs.declared.Form as Code
use Rattle.syntax.specs.declared.Form.TheVariants as F
use Rattle.syntax.specs.declared.Folding.{Folding}
use Rattle.emit.specs.Put.{Put}
use Rattle.emit.proofs.Laws.{put-none, put_then, put_is, put-length}
use Rattle.token.specs.Known.{Gets}
use Rattle.token.proofs.Gets.{gets_first}
use Rattle.type_table.specs.Table.{types_in, Recalled}
use Rattle.instr.specs.Bodies.{deep_instr, Stretch, nothing, stopped, joined, operator_last, on_fold, fold_here, operands_by, tree_at}
use Rattle.instr.specs.Readers.{Parts, Parted}
use Rattle.instr.proofs.Stretches.{tree_reach, tree_is, operands-none, operands-more}
use Rattle.scope.specs.Scope.{scope_in, locals_in, labels_in}
use Rattle.scope.specs.declared.Locals.{Locals}
use Rattle.binary.specs.Emits.{Wrote, Emits}
use Rattle.binary.proofs.Emitting.{bind_ok, bind_not, wrote}
use Rattle.operands.proofs.Elements.{after, concat_snoc}
use Rattle.plain.specs.Turns.{record_of, plain_record, read_uses, Turned, AnyLocals}
use Rattle.plain.proofs.Turns.{turned-fault}
use Rattle.code.specs.Body.{Resolvable, Within, stretch_answer, Unfolded, StretchTurned, last_turn, OperatorTurned}
use Rattle.code.proofs.Stretches.{concat_append, all_after, after-after, resolvable-first, resolvable-rest, resolvable-operands, resolvable-operator, never_cut, operands-level, tree_level, body-append}

-- ## `operator_record`

module _ (s w : List ℕ) (l : Locals) (k rec here op : ℕ) (f : Code.Form) (says : form_of op ≡ form_is f) where
  abbrev Operator : Step (Syntax.Instr Identifier)
  Operator = operator_of op (form_of op) s here

  -- no opcode, or one that is barred
  pub operator_barred : (old : List ℕ) (at : ℕ) → (f ≡ F.Calling → ⊥) → ((v : Operands) → f ≡ F.Operands v → ⊥) → Turned s w (locals_in s w l) k rec (record_of (operator_of op (form_of op) s here)) old at (Ok None) w old
  operator_barred old at h i = turned-fault s w (locals_in s w l) k rec (record_of Operator) old at 4 (ap (λ (m : Step (Syntax.Instr Identifier)). record_of m) (go f refl))
    where
      go : (g : Code.Form) → f ≡ g → operator_of op (form_of op) s here ≡ fault 4
      go F.NoOpcode e = rw (says, e)
      go F.Opening e = unfold may_fold in rw (says, e)
      go F.Elsing e = unfold may_fold in rw (says, e)
      go F.Ending e = unfold may_fold in rw (says, e)
      go F.Calling e = absurd (h e)
      go (F.Operands v) e = absurd (i v e)

  -- a call_indirect
  calling_is : (j : ℕ) → f ≡ F.Calling → Operator ≡ deep_instr j 0x11 calling s here
  unfolding may_fold deep_instr admits instruction
  calling_is j e = rw (says, e)

  pub operator_calling_uses : (j : ℕ) → f ≡ F.Calling → Recalled w (types_in s w) (read_uses rec (operator_of op (form_of op) s here)) → Recalled w (types_in s w) (read_uses rec (deep_instr j 0x11 calling s here))
  operator_calling_uses j e r = rw (calling_is j e) at r

  pub operator_calling_gets : (j : ℕ) → f ≡ F.Calling → Gets (operator_of op (form_of op) s here) → Gets (deep_instr j 0x11 calling s here)
  operator_calling_gets j e g = rw (calling_is j e) at g

  pub operator_calling : (j : ℕ) (old : List ℕ) (at : ℕ) (r : Resolved (Option (ℕ × Place))) (w' new : List ℕ) → f ≡ F.Calling → AnyLocals s w k rec (record_of (deep_instr j 0x11 calling s here)) old at r w' new
      → Turned s w (locals_in s w l) k rec (record_of (operator_of op (form_of op) s here)) old at r w' new
  operator_calling j old at r w' new e t = rw (calling_is j e) (t.each (locals_in s w l))

  -- any other
  module _ (v : Operands) (e : f ≡ F.Operands v) where
    plain-is : Operator ≡ onward (λ p next. got (Syntax.plain p) next) (plain_of op (operands_is v) s here)
    unfolding may_fold instruction
    plain-is = rw (says, e)

    pub operator-plain_gets : Gets (operator_of op (form_of op) s here) → Gets (plain_of op (operands_is v) s here)
    operator-plain_gets g = gets_first _ (plain_of op (operands_is v) s here) (rw plain-is at g)

    pub operator-plain : (old : List ℕ) (at : ℕ) (r : Resolved (Option (ℕ × Place))) (w' new : List ℕ) → Turned s w (locals_in s w l) k rec (plain_record (plain_of op (operands_is v) s here)) old at r w' new
        → Turned s w (locals_in s w l) k rec (record_of (operator_of op (form_of op) s here)) old at r w' new
    operator-plain old at r w' new t = rw plain-is t

pub ruleset operators = (operator_barred, operator_calling, operator-plain)

-- ## `emit_folded`

-- its parts were passed over
module _ (s : List ℕ) (left r here : ℕ) (deep : 1 ≤ left) (low : r < 4096) where
  abbrev Held : ℕ → ℕ → Stretch
  Held n next = operands_by (tree_at (left - 1) s) n (r + 1) next

  tree_reads : tree_at left s r here ≡ on_fold (fold_here s here) (λ x n next. operator_last r x (Held n next)) (stopped (r + 1) here)
  tree_reads = go left deep
    where
      go : (k : ℕ) → 1 ≤ k → tree_at k s r here ≡ on_fold (fold_here s here) (λ x n next. operator_last r x (operands_by (tree_at (k - 1) s) n (r + 1) next)) (stopped (r + 1) here)
      go zero h = absurd (omega arith)
      go (suc k) h = let m : suc k - 1 ≡ k = omega arith in rw m (tree_is k s r here low)

  module _ (b : ℕ) (f : Code.Form) (a n next : ℕ) (x : Parts s here b f a n next) where
    -- it is its operands and then its operator
    tree_parts : tree_at left s r here ≡ operator_last r x.operator (Held n next)
    tree_parts = tree_reads ∙ rw x.whole refl

    -- what is read there is the operator
    read-op : (y : Syntax.Instr Identifier) (k : ℕ) → record_of (operator_of b (form_of b) s a) ≡ got (instr y) k → y ≡ x.operator
    read-op y k e = let f : got (instr x.operator) x.past ≡ got (instr y) k = rw x.reads at e in cc

known : (s : List ℕ) (here : ℕ) (f : Folding) → Parted s here (Some f) → Parts s here f.opcode f.form f.at f.count f.next
unfolding Parted
known s here f told = told

-- what its operands and its operator need; the stream that is passed on has a name of its own, since `search` then finds the parts with less computing
module _ (s : List ℕ) (here : ℕ) (f : Folding) (told : Parted s here (Some f)) where
  abbrev Known : Parts s here f.opcode f.form f.at f.count f.next
  Known = known s here f told

  pub folded-says : form_of f.opcode ≡ form_is f.form
  folded-says = Known.says

  pub folded_gets : (t : List ℕ) → t ≡ s → Gets (operator_of f.opcode (form_of f.opcode) t f.at)
  folded_gets t e = rw e (record { value = Known.operator; next = Known.past; is = Known.reads })

  module _ (w : List ℕ) (left r : ℕ) (v : Resolvable s w (tree_at left s r here)) (deep : 1 ≤ left) (low : r < 4096) where
    parted_resolvable : Resolvable s w (operator_last r Known.operator (operands_by (tree_at (left - 1) s) f.count (r + 1) f.next))
    parted_resolvable = rw (tree_parts s left r here deep low f.opcode f.form f.at f.count f.next Known) at v

    pub folded-operands : (t : List ℕ) → t ≡ s → Resolvable t w (operands_by (tree_at (left - 1) t) f.count (r + 1) f.next)
    folded-operands t e = rw e (resolvable-operands s w r Known.operator (operands_by (tree_at (left - 1) s) f.count (r + 1) f.next) parted_resolvable)

    pub folded-uses : (t : List ℕ) → t ≡ s → Recalled w (types_in t w) (read_uses r (operator_of f.opcode (form_of f.opcode) t f.at))
    folded-uses t e = rw e (rw Known.reads (resolvable-operator s w r Known.operator (operands_by (tree_at (left - 1) s) f.count (r + 1) f.next) parted_resolvable))

-- nothing that is folded stands there
module _ (s w : List ℕ) (l : Locals) (depth left r here : ℕ) (old : List ℕ) (at : ℕ) where
  pub folded-deep : left < 1 → StretchTurned s w l depth (tree_at left s r here) old at (Ok None) old
  unfolding StretchTurned tree_at
  folded-deep h = let m : left ≡ 0 = omega arith in rw m refl

  pub folded_full : 4096 ≤ r → StretchTurned s w l depth (tree_at left s r here) old at (Ok None) old
  unfolding StretchTurned
  folded_full h = go left
    where
      go : (k : ℕ) → (tree_at k s r here).whole ≡ false
      go zero = unfold tree_at in refl
      go (suc k) = unfold tree_at in rw (le-leb 4096 r h) refl

  pub folded-unread : Parted s here None → StretchTurned s w l depth (tree_at left s r here) old at (Ok None) old
  unfolding Parted
  folded-unread told = absurd told

-- its operands are put, and then its operator
module _ (s w : List ℕ) (l : Locals) (p : Place) (left : ℕ) (f : Folding) (told : Parted s p.at (Some f)) (deep : 1 ≤ left) (low : p.rec < 4096) where
  abbrev depth : ℕ
  depth = p.depth

  abbrev r : ℕ
  r = p.rec

  abbrev here : ℕ
  here = p.at

  abbrev is_known : Parts s here f.opcode f.form f.at f.count f.next
  is_known = known s here f told

  abbrev op : Syntax.Instr Identifier
  op = is_known.operator

  abbrev Operands' : Stretch
  Operands' = operands_by (tree_at (left - 1) s) f.count (r + 1) f.next

  is-parts : tree_at left s r here ≡ operator_last r op Operands'
  is-parts = tree_parts s left r here deep low f.opcode f.form f.at f.count f.next is_known

  answer-parts : stretch_answer s w l depth (tree_at left s r here)
      ≡ (stretch_answer s w l depth Operands' >>= λ os. body (scope_in s w) (locals_in s w l) (labels_in s w (depth - 1)) ((r, op) ∷ []) >>= after os)
  unfolding stretch_answer
  answer-parts =
      rw is-parts
      (body-append (scope_in s w) (locals_in s w l) (labels_in s w (depth - 1)) Operands'.body ((r, op) ∷ []) (operands-level (tree_at (left - 1) s) (tree_level (left - 1) s) f.count (r + 1) f.next))

  -- the operator comes last
  last_ok : (o : Op) → instr_op (scope_in s w) (locals_in s w l) (labels_in s w (depth - 1)) r op ≡ ok o → (os : List Op)
      → (body (scope_in s w) (locals_in s w l) (labels_in s w (depth - 1)) ((r, op) ∷ []) >>= after os) ≡ ok (os ++ (o ∷ []))
  unfolding body ◌>>=◌ after
  last_ok o e os = rw e refl

  last_not : (z : Refusal) → instr_op (scope_in s w) (locals_in s w l) (labels_in s w (depth - 1)) r op ≡ refused_by z → (os : List Op)
      → (body (scope_in s w) (locals_in s w l) (labels_in s w (depth - 1)) ((r, op) ∷ []) >>= after os) ≡ refused_by z
  unfolding body ◌>>=◌
  last_not z e os = rw e refl

  module _ (old : List ℕ) (at : ℕ) (new : List ℕ) where
    module _ (o : ℕ) (end : Place) (mid : List ℕ) (held : Unfolded s w l depth Operands' old at o end mid) where
      wrote_operands : Wrote (concat_map Binary.instruction) (stretch_answer s w l depth Operands') old at o mid
      unfolding Emits
      wrote_operands = held.emits

      -- what came of the operator is what came of the whole
      pub folded_last : (z : Resolved (Option (ℕ × Place))) → Turned s w (locals_in s w l) (depth - 1) r (record_of (operator_of f.opcode (form_of f.opcode) s f.at)) mid o z w new → StretchTurned s w l depth (tree_at left s r here) old at (last_turn end z) new
      unfolding StretchTurned Turned Emits
      folded_last (Ok (Some (e, g))) x =
          let v = wrote_operands in
          let i : instr_op (scope_in s w) (locals_in s w l) (labels_in s w (depth - 1)) r op ≡ ok x.op = ap (instr_op (scope_in s w) (locals_in s w l) (labels_in s w (depth - 1)) r) (sym (read-op s left r here deep low f.opcode f.form f.at f.count f.next is_known x.read g.at x.reads)) ∙ x.is in
          record {
            emits = record {
              value = v.value ++ (x.op ∷ []);
              is = answer-parts ∙ bind_ok (stretch_answer s w l depth Operands') v.value _ _ v.is (last_ok x.op i v.value);
              put = put_is (put_then v.put x.put) (sym (concat_snoc Binary.instruction v.value x.op));
            };
            ends = held.ends ∙ ap (λ (t : Stretch). t.at) (sym is-parts);
            next = held.next ∙ ap (λ (t : Stretch). t.rec) (sym is-parts);
            level = held.level;
          }
      folded_last (Ok None) x =
          absurd (x.none op is_known.past (rw is_known.reads refl))
      folded_last (Err g) x =
          let v = wrote_operands in
          let i : instr_op (scope_in s w) (locals_in s w l) (labels_in s w (depth - 1)) r op ≡ refused_by g = ap (instr_op (scope_in s w) (locals_in s w l) (labels_in s w (depth - 1)) r) (sym (read-op s left r here deep low f.opcode f.form f.at f.count f.next is_known x.read x.next x.reads)) ∙ x.says in
          answer-parts ∙ bind_ok (stretch_answer s w l depth Operands') v.value _ _ v.is (last_not g i v.value)

    pub folded-all : (y z : Resolved (Option (ℕ × Place))) (mid : List ℕ) → StretchTurned s w l depth Operands' old at y mid → OperatorTurned s w l (record { at = f.at; rec = p.rec; depth = p.depth }) f.opcode y mid z new
        → StretchTurned s w l depth (tree_at left s r here) old at z new
    unfolding StretchTurned OperatorTurned Emits
    folded-all (Ok (Some (o, end))) z mid t u = rw u.is (folded_last o end mid t u.turn u.turned)
    folded-all (Ok None) z mid t u = rw u (rw is-parts t)
    folded-all (Err g) z mid t u = rw u (answer-parts ∙ bind_not (stretch_answer s w l depth Operands') g _ t)

pub ruleset foldings = (folded-deep, folded_full, folded-unread, folded-all)

-- ## `operator_last`

module _ (s w : List ℕ) (l : Locals) (p : Place) (op : ℕ) (held : Resolved (Option (ℕ × Place))) (old : List ℕ) where
  module _ (f : Option (ℕ × Place)) (d : held ≡ Ok f) where
    module _ (o : ℕ) (end : Place) (i : f ≡ Some (o, end)) (new : List ℕ) where
      last_put : (y : Resolved (Option (ℕ × Place))) → Turned s w (locals_in s w l) (p.depth - 1) p.rec (record_of (operator_of op (form_of op) s p.at)) old o y w new
          → OperatorTurned s w l p op held old (last_turn end y) new
      unfolding OperatorTurned
      last_put y t = rw (d, i) (record { turn = y; turned = t; is = refl })

      pub last_on : (g : Option (ℕ × Place)) (b : ℕ) (q : Place) → Turned s w (locals_in s w l) (p.depth - 1) p.rec (record_of (operator_of op (form_of op) s p.at)) old o (Ok g) w new
          → g ≡ Some (b, q) → OperatorTurned s w l p op held old (Ok (Some (b, (record { at = end.at; rec = end.rec; depth = end.depth })))) new
      last_on g b q t e = last_put (Ok (Some (b, q))) (rw e at t)

      pub last_done : (g : Option (ℕ × Place)) → Turned s w (locals_in s w l) (p.depth - 1) p.rec (record_of (operator_of op (form_of op) s p.at)) old o (Ok g) w new
          → g ≡ None → OperatorTurned s w l p op held old (Ok None) new
      last_done g t e = last_put (Ok None) (rw e at t)

      pub last_refused : (q : Refusal) → Turned s w (locals_in s w l) (p.depth - 1) p.rec (record_of (operator_of op (form_of op) s p.at)) old o (Err q) w new → OperatorTurned s w l p op held old (Err q) new
      last_refused q t = last_put (Err q) t

    pub last_cut : f ≡ None → OperatorTurned s w l p op held old (Ok None) old
    unfolding OperatorTurned
    last_cut i = rw (d, i) refl

  pub last_stops : (q : Refusal) → held ≡ Err q → OperatorTurned s w l p op held old (Err q) old
  unfolding OperatorTurned
  last_stops q d = rw d refl

-- ## `emit_operands`

-- so many are done, and the others decide
pub record Operating (s w : List ℕ) (l : Locals) (depth left n r here : ℕ) (old : List ℕ) (at : ℕ) (out : List ℕ) (o : ℕ) (p : Place) (due : ℕ) : Type 0 where
  pub done : List Op
  pub so_far : Put old at (concat_map Binary.instruction done) o out
  pub same : stretch_answer s w l depth (operands_by (tree_at left s) n r here) ≡ (stretch_answer s w l depth (operands_by (tree_at left s) due p.rec p.at) >>= after done)
  pub ends : (operands_by (tree_at left s) due p.rec p.at).at ≡ (operands_by (tree_at left s) n r here).at
  pub next : (operands_by (tree_at left s) due p.rec p.at).rec ≡ (operands_by (tree_at left s) n r here).rec
  pub resolvable : Resolvable s w (operands_by (tree_at left s) due p.rec p.at)
  pub within : Within p
  pub level : p.depth ≡ depth
  pub room : length out ≡ length old

-- none is done yet
pub operating_begin : (s w : List ℕ) (l : Locals) (left n : ℕ) (old : List ℕ) (at : ℕ) (p : Place) (due : ℕ) → length old * 1 < 2 ^ 63 → Within p
    → Resolvable s w (operands_by (tree_at left s) n p.rec p.at) → due ≡ n → Operating s w l p.depth left n p.rec p.at old at old at p due
unfolding concat_map
operating_begin s w l left n old at p due h v r e = rw e (record {
  done = [];
  so_far = put-none at (omega arith);
  same = all_after (stretch_answer s w l p.depth (operands_by (tree_at left s) n p.rec p.at));
  ends = refl;
  next = refl;
  resolvable = r;
  within = v;
  level = refl;
  room = refl;
})

module _ {s w : List ℕ} {l : Locals} {depth left n r here : ℕ} {old : List ℕ} {at : ℕ} {out : List ℕ} {o : ℕ} {p : Place} {due : ℕ} (v : Operating s w l depth left n r here old at out o p due) where
  pub operating_within : Within p
  operating_within = v.within

  pub operating_out : length out ≡ length old
  operating_out = v.room

  abbrev Tree : Stretch
  Tree = tree_at left s p.rec p.at

  abbrev Rest : Stretch
  Rest = operands_by (tree_at left s) (due - 1) Tree.rec Tree.at

  -- all of them are done
  pub operating_done : due ≤ 0 → StretchTurned s w l depth (operands_by (tree_at left s) n r here) old at (Ok (Some (o, p))) out
  unfolding StretchTurned
  operating_done h =
      let e : operands_by (tree_at left s) due p.rec p.at ≡ nothing p.rec p.at = operands-none (tree_at left s) due p.rec p.at h in
      record {
        emits = wrote (concat_map Binary.instruction) (stretch_answer s w l depth (operands_by (tree_at left s) n r here)) old at out v.done o v.so_far
            (v.same ∙ rw e (nothing-after v.done));
        ends = ap (λ (t : Stretch). t.at) (sym e) ∙ v.ends;
        next = ap (λ (t : Stretch). t.rec) (sym e) ∙ v.next;
        level = v.level;
      }
    where
      nothing-after : (done : List Op) → (stretch_answer s w l depth (nothing p.rec p.at) >>= after done) ≡ ok done
      nothing-after done = unfold stretch_answer body ◌>>=◌ after in ap ok (append-nil done)

  module _ (h : 0 < due) where
    more : operands_by (tree_at left s) due p.rec p.at ≡ joined Tree Rest
    more = operands-more (tree_at left s) due p.rec p.at h

    pub operating_resolvable : Resolvable s w (tree_at left s p.rec p.at)
    operating_resolvable = resolvable-first s w Tree Rest (rw more at v.resolvable)

    -- the next is its instructions before the others
    answer-more : stretch_answer s w l depth (operands_by (tree_at left s) due p.rec p.at) ≡ (stretch_answer s w l depth Tree >>= λ os. stretch_answer s w l depth Rest >>= after os)
    unfolding stretch_answer
    answer-more = rw more (body-append (scope_in s w) (locals_in s w l) (labels_in s w (depth - 1)) Tree.body Rest.body (tree_level left s p.rec p.at))

    module _ (y : Resolved (Option (ℕ × Place))) (new : List ℕ) (t : StretchTurned s w l p.depth (tree_at left s p.rec p.at) out o y new) where
      pub operating_cut : y ≡ Ok None → StretchTurned s w l depth (operands_by (tree_at left s) n r here) old at (Ok None) new
      unfolding StretchTurned
      operating_cut e = let c : Tree.whole ≡ false = rw e at t in absurd (never_cut operating_resolvable c)

      operating_refused : (q : Refusal) → y ≡ Err q → StretchTurned s w l depth (operands_by (tree_at left s) n r here) old at (Err q) new
      unfolding StretchTurned Emits
      operating_refused q e =
          let f : stretch_answer s w l p.depth Tree ≡ refused_by q = rw e at t in
          let g : stretch_answer s w l depth Tree ≡ refused_by q = rw v.level at f in
          v.same ∙ bind_not _ q _ (answer-more ∙ bind_not (stretch_answer s w l depth Tree) q _ g)

      -- a refusal is handed on
      pub operating_stops : (z : Resolved (Option (ℕ × Place))) (q : Refusal) → y ≡ Err q → IsErr z → IsErrAnd z (λ e. e ≡ q) → StretchTurned s w l depth (operands_by (tree_at left s) n r here) old at z new
      operating_stops z q e i g = rw (handed z q i g) (operating_refused q e)

      pub operating_again : (b : ℕ) (q : Place) (left-due : ℕ) → y ≡ Ok (Some (b, q)) → left-due ≡ due - 1 → Operating s w l depth left n r here old at new b q left-due
      unfolding StretchTurned Emits
      operating_again b q k e d =
          let x : Unfolded s w l p.depth Tree out o b q new = rw e at t in
          let z : Wrote (concat_map Binary.instruction) (stretch_answer s w l p.depth Tree) out o b new = x.emits in
          let i : stretch_answer s w l depth Tree ≡ ok z.value = ap (λ (d : ℕ). stretch_answer s w l d Tree) (sym v.level) ∙ z.is in
          let g : Rest ≡ operands_by (tree_at left s) k q.rec q.at = rw (d, x.next, x.ends) refl in
          record {
            done = v.done ++ z.value;
            so_far = put_is (put_then v.so_far z.put) (sym (concat_append Binary.instruction v.done z.value));
            same = v.same
                ∙ ap (λ (m : Answer (List Op)). m >>= after v.done) (answer-more ∙ bind_ok (stretch_answer s w l depth Tree) z.value _ _ i refl)
                ∙ after-after (stretch_answer s w l depth Rest) v.done z.value
                ∙ ap (λ (u : Stretch). stretch_answer s w l depth u >>= after (v.done ++ z.value)) g;
            ends = ap (λ (u : Stretch). u.at) (sym g) ∙ ap (λ (u : Stretch). u.at) (sym more) ∙ v.ends;
            next = ap (λ (u : Stretch). u.rec) (sym g) ∙ ap (λ (u : Stretch). u.rec) (sym more) ∙ v.next;
            resolvable = rw g at (resolvable-rest s w Tree Rest (rw more at v.resolvable));
            within = record {
              deep = omega (arith, x.level, v.within.deep);
              few = omega (arith, x.level, v.within.few);
              low = omega (arith, x.next, (tree_reach left s p.rec p.at).most v.within.low);
            };
            level = x.level ∙ v.level;
            room = put-length z.put ∙ v.room;
          }

-- ## `operands_or_none`

-- none, and so nothing is written
pub operands-absent : (s w : List ℕ) (l : Locals) (left n : ℕ) (old : List ℕ) (at : ℕ) (p : Place) → length old * 1 < 2 ^ 63 → Within p
    → Resolvable s w (operands_by (tree_at left s) n p.rec p.at) → n ≡ 0
    → StretchTurned s w l p.depth (operands_by (tree_at left s) n p.rec p.at) old at (Ok (Some (at, (record { at = p.at; rec = p.rec; depth = p.depth })))) old
operands-absent s w l left n old at p h v r e = operating_done (operating_begin s w l left n old at p n h v r refl) (omega arith)
