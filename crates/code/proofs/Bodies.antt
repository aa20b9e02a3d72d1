-- The loop over a body: what has been written and what is still to come are the whole.
use Rattle.std.specs.Prelude.{Option, Ok, Err, Some, None, IsErrAnd}
use Rattle.std.specs.Result.{IsErr}
use Rattle.syntax.specs.Refusals.{Resolved}
use Rattle.syntax.proofs.Ways.{handed}
use Rattle.std.specs.Prelude.{if◌then◌else◌}
use Prim.Native.Nat.{ℕ, ◌+◌, ◌-◌, ◌*◌, ◌≤◌, ◌<◌, ◌^◌}
use mathlib.Core.Path.{◌≡◌, refl, sym, ◌∙◌, ap}
use mathlib.Core.Bool.{Bool, true, false}
use mathlib.Core.Option.{none, some, none-ne-some}
use mathlib.Core.List.{List, [], ◌∷◌, ◌++◌, append-nil}
use lib.Dec.{eqb}
use lib.ListN.{length}
use borrow.Author.Tests.{eqb-true, eq-eqb, ne_eqb}
use native.Mathlib.Omega.{arith}
use Rattle.definition.specs.Basic.{Answer, ok, ◌>>=◌, concat_map, between}
use Rattle.definition.specs.Syntax as Syntax
use Rattle.definition.specs.Syntax.{Identifier, Op, instr}
use Rattle.definition.specs.Reader.{Step, got, fault, byte}
use Rattle.definition.specs.Instructions.{Form, opening, elsing, ending, calling, operands, opcodes, form_in, form_of, plain_of, instruction, admits}
use Rattle.laws.specs.Depths.{deep, depth_after}
use Rattle.definition.specs.Types.{used_at, instr_uses, body_uses}
use Rattle.definition.specs.Names.{blocks_after, instr_op, body}
use Rattle.definition.specs.Binary as Binary
use Rattle.syntax.specs.declared.Place.{Place}
use Rattle.syntax.specs.declared.Refusal.{Refusal}
use Rattle.emit.specs.Put.{Put}
use Rattle.emit.proofs.Laws.{put-none, put_then, put_is, put-length}
use Rattle.area.specs.Layout.{LABELS, LOCALS, WORDS}
use Rattle.token.specs.Known.{Gets}
use Rattle.token.proofs.Gets.{gets_first}
use Rattle.syntax.specs.Plain.{operands_is}
use Rattle.syntax.specs.declared.Operands.{Operands}
use Rattle.syntax.specs.Instructions.{form_is}
use Rattle.syntax.specs.declared.Form as Code
use Rattle.syntax.specs.declared.Form.TheVariants as F
use Rattle.name_table.specs.Area.{labels}
use Rattle.area.specs.Kept.{Kept}
use Rattle.area.proofs.Kept.{kept_same, kept_then, kept_less}
use Rattle.type_table.specs.Table.{types_in, Recalled}
use Rattle.instr.specs.Bodies.{deep_instr, Head, one, folding, ended, unread, one_of, on_head, head_at, Stretch, nothing, stopped, joined, before, operands_by, tree_at, body_from}
use Rattle.instr.proofs.Known.{one_gets}
use Rattle.instr.proofs.Stretches.{tree_later, body-turn, body_full, body-one, body-folded, operands-one, whole-head}
use Rattle.scope.specs.Scope.{scope_in, locals_in, FewLocals, labels_in}
use Rattle.scope.specs.declared.Locals.{Locals}
use Rattle.scope.proofs.Frames.{scope_kept, locals-kept, recalled-left, recalled_right, recalled-scope}
use Rattle.binary.specs.Emits.{Wrote, Emits}
use Rattle.binary.proofs.Emitting.{bind_ok, bind_not, wrote, halts}
use Rattle.operands.proofs.Elements.{after}
use Rattle.plain.specs.Turns.{InBody, record_of, plain_record, read_uses, Stepped, Halted, Turned, AnyLocals}
use Rattle.code.specs.Code.{closing_form}
use Rattle.code.specs.Body.{Resolvable, Within, stretch_answer, Unfolded, StretchTurned, body_answer, Advanced, Over, Halts, BodyTurned, EmitsBody}
use Rattle.code.proofs.Stretches.{concat_append, all_after, after-after, resolvable-first, resolvable-rest, never_cut, tree_level, body-append}

-- ## What stands at a place

-- neither F0 nor the body's end is an opcode
fold_formless : form_of 0xF0 ≡ none
unfolding form_of form_in opcodes between
fold_formless = refl

end_formless : form_of 0xFF ≡ none
unfolding form_of form_in opcodes between
end_formless = refl

no_opcode : (n : ℕ) → form_of n ≡ none → (b : ℕ) (f : Form) (t : Bool) → eqb b n ≡ t → form_of b ≡ some f → t ≡ false
no_opcode n h b f false e d = refl
no_opcode n h b f true e d = absurd (none-ne-some f (sym h ∙ sym (ap form_of (eqb-true b n e)) ∙ d))

-- nothing more to resolve: the end, or what cannot be read
abbrev Bare : Head → Type 0
Bare (one x next) = ⊥
Bare folding = ⊥
Bare (ended next) = Unit {0}
Bare unread = Unit {0}

module _ (s : List ℕ) (k here : ℕ) where
  head_byteless : (n : ℕ) → byte s here ≡ fault n → Bare (head_at k s here)
  unfolding head_at
  head_byteless n d = rw d tt

  module _ (b a : ℕ) (d : byte s here ≡ got b a) where
    head-folding : b ≡ 0xF0 → head_at k s here ≡ folding
    unfolding head_at
    head-folding e = rw (d, eq-eqb b 0xF0 e) refl

    head_formless : form_of b ≡ none → (b ≡ 0xF0 → ⊥) → Bare (head_at k s here)
    unfolding head_at
    head_formless says n = rw (d, ne_eqb b 0xF0 n, says) (go (eqb b 0xFF) (eqb k 0))
      where
        go : (t u : Bool) → Bare (if t then (if u then ended a else unread) else unread)
        go true true = tt
        go true false = tt
        go false u = tt

    head-formed : (g : Form) → form_of b ≡ some g → head_at k s here ≡ one_of (deep_instr k b g s a)
    unfolding head_at deep_instr
    head-formed g says = rw (d, no_opcode 0xF0 fold_formless b g (eqb b 0xF0) refl says, no_opcode 0xFF end_formless b g (eqb b 0xFF) refl says, says) refl

-- ## What comes of it

module _ (s : List ℕ) (k r here : ℕ) (low : r < 4096) where
  bare_empty : Bare (head_at k s here) → (body_from k r s here).body ≡ []
  bare_empty h = ap (λ (t : Stretch). t.body) (body-turn s k r here low) ∙ go (head_at k s here) h
    where
      go : (v : Head) → Bare v
          → (on_head v
          (λ x next. before r x (body_from (depth_after x k) (r + 1) s next))
          (joined (tree_at 32 s r here) (body_from k (tree_at 32 s r here).rec s (tree_at 32 s r here).at))
          (λ next. nothing (r + 1) next)
          (stopped r here)
          ).body
          ≡ []
      go (one x next) h = absurd h
      go folding h = absurd h
      go (ended next) h = refl
      go unread h = refl

  module _ (w : List ℕ) (v : Resolvable s w (body_from k r s here)) where
    one-uses : (x : Syntax.Instr Identifier) (next : ℕ) → head_at k s here ≡ one x next
        → Recalled w (types_in s w) (used_at r (instr_uses x) ++ body_uses (body_from (depth_after x k) (r + 1) s next).body)
    unfolding body_uses
    one-uses x next e = let u = v.recalled in rw (body-one s k r here low x next e) at u

    -- an instruction stands there: it can be read, and its type use has its number
    head_gets : (m : Step (Syntax.Instr Identifier)) → head_at k s here ≡ one_of m → Gets m
    head_gets m e = one_gets m (rw e at (whole-head s k r here low v.whole))

    head-uses : (m : Step (Syntax.Instr Identifier)) → head_at k s here ≡ one_of m → Recalled w (types_in s w) (read_uses r m)
    head-uses (got x next) e = recalled-left w (types_in s w) (used_at r (instr_uses x)) (body_uses (body_from (depth_after x k) (r + 1) s next).body) (one-uses x next e)
    head-uses (fault n) e = unfold Recalled in tt

    -- a folded record stands there
    head_tree : head_at k s here ≡ folding → Resolvable s w (tree_at 32 s r here)
    head_tree e = resolvable-first s w (tree_at 32 s r here) (body_from k (tree_at 32 s r here).rec s (tree_at 32 s r here).at) (rw (body-folded s k r here low e) at v)

-- an instruction that was read as a record
instr-read : (m : Step (Syntax.Instr Identifier)) (x : Syntax.Instr Identifier) (q : ℕ) → record_of m ≡ got (instr x) q → one_of m ≡ one x q
instr-read (got y n) x q e = let f : y ≡ x = cc in let g : n ≡ q = cc in rw (f, g) refl
instr-read (fault n) x q e = let z : ◌≡◌ {A = ℕ} 0 1 = cc in absurd (omega arith)

module _ (s w : List ℕ) (l : Locals) (p : Place) (i : InBody p) where
  low : p.rec < 4096
  low = i.low

  over : (old : List ℕ) → Bare (head_at (p.depth - 1) s p.at) → Over s w l p old w old
  unfolding body_answer body
  over old h = record { none = rw (bare_empty s (p.depth - 1) p.rec p.at low h) refl; area = refl; bytes = refl }

  module _ (m : Step (Syntax.Instr Identifier)) (e : head_at (p.depth - 1) s p.at ≡ one_of m) (v : Resolvable s w (body_from (p.depth - 1) p.rec s p.at)) (old : List ℕ) (at : ℕ) (w' new : List ℕ) where
    -- an instruction: it comes first, and the rest may still be resolved
    one_same : (o : Op) (q : Place) (y : Syntax.Instr Identifier) → body_from (p.depth - 1) p.rec s p.at ≡ before p.rec y (body_from (q.depth - 1) q.rec s q.at)
        → labels_in s w' (q.depth - 1) ≡ blocks_after (labels_in s w (p.depth - 1)) y → instr_op (scope_in s w) (locals_in s w l) (labels_in s w (p.depth - 1)) p.rec y ≡ ok o
        → body_answer s w l w p ≡ (body_answer s w l w' q >>= λ os. ok ((o ∷ []) ++ os))
    unfolding body_answer body ◌>>=◌
    one_same o q y c b h = rw (c, b, h) refl

    one-rest : (y : Syntax.Instr Identifier) (t : Stretch) → body_from (p.depth - 1) p.rec s p.at ≡ before p.rec y t → Resolvable s w t
    unfolding body_uses
    one-rest y t c =
        let u : Resolvable s w (before p.rec y t) = rw c at v in
        record { recalled = recalled_right w (types_in s w) (used_at p.rec (instr_uses y)) (body_uses t.body) u.recalled; whole = u.whole }

    one-put : (o b : ℕ) (x : Op) → Put old at (Binary.instruction x) b new → Put old at (concat_map Binary.instruction (x ∷ [])) b new
    unfolding concat_map
    one-put o b x u = put_is u (sym (append-nil (Binary.instruction x)))

    stepped : (o : ℕ) (q : Place) → Stepped s w (locals_in s w l) (p.depth - 1) p.rec (record_of m) old at o q w' new → Advanced s w l p old at o q w' new
    stepped o q x =
        let d : q.depth ≡ depth_after x.read (p.depth - 1) + 1 = x.depth in
        let j : depth_after x.read (p.depth - 1) ≡ q.depth - 1 = omega arith in
        let h : head_at (p.depth - 1) s p.at ≡ one x.read q.at = e ∙ instr-read m x.read q.at x.reads in
        let c : body_from (p.depth - 1) p.rec s p.at ≡ before p.rec x.read (body_from (q.depth - 1) q.rec s q.at) =
        body-one s (p.depth - 1) p.rec p.at low x.read q.at h ∙ rw (j, sym x.next) refl in
        record {
          ops = x.op ∷ [];
          put = one-put at o x.op x.put;
          same = one_same x.op q x.read c x.blocks x.is;
          resolvable = one-rest x.read (body_from (q.depth - 1) q.rec s q.at) c;
          within = record { deep = omega arith; few = x.few; low = omega (arith, x.next) };
          later = omega (arith, x.next);
          kept = x.kept;
        }

    halted : (q : Refusal) → Halted s w (locals_in s w l) (p.depth - 1) p.rec (record_of m) q w' → Halts s w l p q w'
    unfolding body_answer body ◌>>=◌
    halted q x =
        let c = body-one s (p.depth - 1) p.rec p.at low x.read x.next (e ∙ instr-read m x.read x.next x.reads) in
        record { says = rw (c, x.says) refl; area = x.area }

    pub turned-one : (r : Resolved (Option (ℕ × Place))) → Turned s w (locals_in s w l) (p.depth - 1) p.rec (record_of m) old at r w' new → BodyTurned s w l p old at r w' new
    unfolding Turned BodyTurned
    turned-one (Ok (Some (o, q))) x = stepped o q x
    turned-one (Ok None) x = absurd (let g = head_gets s (p.depth - 1) p.rec p.at low w v m e in x.none g.value g.next (ap (λ (y : Step (Syntax.Instr Identifier)). record_of y) g.is))
    turned-one (Err q) x = halted q x

  -- a folded record with its operands
  module _ (e : head_at (p.depth - 1) s p.at ≡ folding) (v : Resolvable s w (body_from (p.depth - 1) p.rec s p.at)) where
    abbrev Tree : Stretch
    Tree = tree_at 32 s p.rec p.at

    abbrev Rest : Stretch
    Rest = body_from (p.depth - 1) Tree.rec s Tree.at

    is-folded : body_from (p.depth - 1) p.rec s p.at ≡ joined Tree Rest
    is-folded = body-folded s (p.depth - 1) p.rec p.at low e

    answer-folded : body_answer s w l w p ≡ (stretch_answer s w l p.depth Tree >>= λ os. body (scope_in s w) (locals_in s w l) (labels_in s w (p.depth - 1)) Rest.body >>= after os)
    unfolding body_answer stretch_answer
    answer-folded = rw is-folded (body-append (scope_in s w) (locals_in s w l) (labels_in s w (p.depth - 1)) Tree.body Rest.body (tree_level 32 s p.rec p.at))

    -- what follows, by the place after it
    rest-same : (q : Place) (os : List Op) → q.depth ≡ p.depth → Rest ≡ body_from (q.depth - 1) q.rec s q.at
        → (body (scope_in s w) (locals_in s w l) (labels_in s w (p.depth - 1)) Rest.body >>= after os) ≡ (body_answer s w l w q >>= λ ps. ok (os ++ ps))
    unfolding body_answer after
    rest-same q os d c = rw (c, d) refl

    module _ (old : List ℕ) (at : ℕ) (new : List ℕ) where
      unfolded : (o : ℕ) (q : Place) → Unfolded s w l p.depth Tree old at o q new → Advanced s w l p old at o q w new
      unfolding Emits
      unfolded o q x =
          let z : Wrote (concat_map Binary.instruction) (stretch_answer s w l p.depth Tree) old at o new = x.emits in
          let c : Rest ≡ body_from (q.depth - 1) q.rec s q.at = rw (x.level, x.next, x.ends) refl in
          let h = tree_later 31 s p.rec p.at low in
          record {
            ops = z.value;
            put = z.put;
            same = answer-folded ∙ bind_ok (stretch_answer s w l p.depth Tree) z.value _ _ z.is (rest-same q z.value x.level c);
            resolvable = rw c at (resolvable-rest s w Tree Rest (rw is-folded at v));
            within = record { deep = omega (arith, i.deep, x.level); few = omega (arith, i.few, x.level); low = omega (arith, h.most, x.next) };
            later = omega (arith, h.later, x.next);
            kept = kept_same LABELS w;
          }

      pub turned-folded : (r : Resolved (Option (ℕ × Place))) → StretchTurned s w l p.depth (tree_at 32 s p.rec p.at) old at r new → BodyTurned s w l p old at r w new
      unfolding StretchTurned BodyTurned Emits
      turned-folded (Ok (Some (o, q))) x = unfolded o q x
      turned-folded (Ok None) x = absurd (never_cut (head_tree s (p.depth - 1) p.rec p.at low w v e) x)
      turned-folded (Err q) x = record { says = answer-folded ∙ bind_not (stretch_answer s w l p.depth Tree) q _ x; area = refl }

-- ## `one_record`

-- what each of its calls needs
module _ (s w : List ℕ) (k r here : ℕ) (v : Resolvable s w (body_from k r s here)) (low : r < 4096) (b a : ℕ) (d : byte s here ≡ got b a) where
  pub folding-resolvable : b ≡ 0xF0 → Resolvable s w (operands_by (tree_at 32 s) 1 r here)
  folding-resolvable e = rw (operands-one (tree_at 32 s) r here) (head_tree s k r here low w v (head-folding s k here b a d e))

  module _ (f : Code.Form) (says : form_of b ≡ form_is f) where
    module _ (g : Form) (e : form_is f ≡ some g) where
      formed-uses : Recalled w (types_in s w) (read_uses r (deep_instr k b g s a))
      formed-uses = head-uses s k r here low w v (deep_instr k b g s a) (head-formed s k here b a d g (says ∙ e))

      formed_gets : Gets (deep_instr k b g s a)
      formed_gets = head_gets s k r here low w v (deep_instr k b g s a) (head-formed s k here b a d g (says ∙ e))

    pub opening_uses : f ≡ F.Opening → Recalled w (types_in s w) (read_uses r (deep_instr k b opening s a))
    opening_uses e = formed-uses opening (ap form_is e)

    pub opening_gets : f ≡ F.Opening → Gets (deep_instr k b opening s a)
    opening_gets e = formed_gets opening (ap form_is e)

    pub elsing_gets : f ≡ F.Elsing → Gets (deep_instr k 0x05 (closing_form 0) s a)
    unfolding deep_instr admits instruction
    elsing_gets e = formed_gets elsing (ap form_is e)

    pub ending_gets : f ≡ F.Ending → Gets (deep_instr k 0x0B (closing_form 1) s a)
    unfolding deep_instr admits instruction
    ending_gets e = formed_gets ending (ap form_is e)

    pub calling_uses : f ≡ F.Calling → Recalled w (types_in s w) (read_uses r (deep_instr k 0x11 calling s a))
    unfolding deep_instr admits instruction
    calling_uses e = formed-uses calling (ap form_is e)

    pub calling_gets : f ≡ F.Calling → Gets (deep_instr k 0x11 calling s a)
    unfolding deep_instr admits instruction
    calling_gets e = formed_gets calling (ap form_is e)

    pub plain_gets : (o : Operands) → f ≡ F.Operands o → Gets (plain_of b (operands_is o) s a)
    unfolding deep_instr admits instruction
    plain_gets o e = gets_first _ (plain_of b (operands_is o) s a) (formed_gets (operands (operands_is o)) (ap form_is e))

-- what comes of it, by the byte and its form
module _ (s w : List ℕ) (l : Locals) (p : Place) (i : InBody p) where
  pub byte-fault : (n : ℕ) (old : List ℕ) (at : ℕ) → byte s p.at ≡ fault n → BodyTurned s w l p old at (Ok None) w old
  unfolding BodyTurned
  byte-fault n old at d = over s w l p i old (head_byteless s (p.depth - 1) p.at n d)

  pub byte-folding : (b a : ℕ) → byte s p.at ≡ got b a → Resolvable s w (body_from (p.depth - 1) p.rec s p.at) → (old : List ℕ) (at : ℕ) (r : Resolved (Option (ℕ × Place))) (new : List ℕ) → b ≡ 0xF0
      → StretchTurned s w l p.depth (operands_by (tree_at 32 s) 1 p.rec p.at) old at r new → BodyTurned s w l p old at r w new
  byte-folding b a d v old at r new e t = turned-folded s w l p i (head-folding s (p.depth - 1) p.at b a d e) v old at new r (rw (operands-one (tree_at 32 s) p.rec p.at) at t)

  module _ (b a : ℕ) (d : byte s p.at ≡ got b a) (f : Code.Form) (says : form_of b ≡ form_is f) where
    pub form_none : (old : List ℕ) (at : ℕ) → f ≡ F.NoOpcode → (b ≡ 0xF0 → ⊥) → BodyTurned s w l p old at (Ok None) w old
    unfolding BodyTurned
    form_none old at e n = over s w l p i old (head_formless s (p.depth - 1) p.at b a d (says ∙ ap form_is e) n)

    module _ (v : Resolvable s w (body_from (p.depth - 1) p.rec s p.at)) (old : List ℕ) (at : ℕ) (r : Resolved (Option (ℕ × Place))) (w' new : List ℕ) where
      formed-turn : (g : Form) → form_is f ≡ some g → Turned s w (locals_in s w l) (p.depth - 1) p.rec (record_of (deep_instr (p.depth - 1) b g s a)) old at r w' new
          → BodyTurned s w l p old at r w' new
      formed-turn g e t = turned-one s w l p i (deep_instr (p.depth - 1) b g s a) (head-formed s (p.depth - 1) p.at b a d g (says ∙ e)) v old at w' new r t

      pub form_opening : f ≡ F.Opening → AnyLocals s w (p.depth - 1) p.rec (record_of (deep_instr (p.depth - 1) b opening s a)) old at r w' new → BodyTurned s w l p old at r w' new
      form_opening e t = formed-turn opening (ap form_is e) (t.each (locals_in s w l))

      pub form_elsing : f ≡ F.Elsing → AnyLocals s w (p.depth - 1) p.rec (record_of (deep_instr (p.depth - 1) 0x05 (closing_form 0) s a)) old at r w' new → BodyTurned s w l p old at r w' new
      unfolding deep_instr admits instruction
      form_elsing e t = formed-turn elsing (ap form_is e) (t.each (locals_in s w l))

      pub form_ending : f ≡ F.Ending → AnyLocals s w (p.depth - 1) p.rec (record_of (deep_instr (p.depth - 1) 0x0B (closing_form 1) s a)) old at r w' new → BodyTurned s w l p old at r w' new
      unfolding deep_instr admits instruction
      form_ending e t = formed-turn ending (ap form_is e) (t.each (locals_in s w l))

      pub form_calling : f ≡ F.Calling → AnyLocals s w (p.depth - 1) p.rec (record_of (deep_instr (p.depth - 1) 0x11 calling s a)) old at r w' new → BodyTurned s w l p old at r w' new
      unfolding deep_instr admits instruction
      form_calling e t = formed-turn calling (ap form_is e) (t.each (locals_in s w l))

      pub form_plain : (o : Operands) → f ≡ F.Operands o → Turned s w (locals_in s w l) (p.depth - 1) p.rec (plain_record (plain_of b (operands_is o) s a)) old at r w' new → BodyTurned s w l p old at r w' new
      unfolding deep_instr admits instruction
      form_plain o e t = formed-turn (operands (operands_is o)) (ap form_is e) t

pub ruleset forms = (byte-fault, byte-folding, form_none, form_opening, form_elsing, form_ending, form_calling, form_plain)

-- ## The whole

-- what resolving needs stays where types and type uses stay
pub resolvable-kept : (s w w' : List ℕ) (t : Stretch) → Kept LOCALS w w' → Resolvable s w t → Resolvable s w' t
resolvable-kept s w w' t h r = record { recalled = recalled-scope s w w' (body_uses t.body) h r.recalled; whole = r.whole }

-- so much is done, and the rest decides
pub record Going (s w₀ : List ℕ) (l : Locals) (rec here : ℕ) (old : List ℕ) (at : ℕ) (w out : List ℕ) (o : ℕ) (p : Place) : Type 0 where
  pub done : List Op
  pub so_far : Put old at (concat_map Binary.instruction done) o out
  pub same : body (scope_in s w₀) (locals_in s w₀ l) [] (body_from 0 rec s here).body ≡ (body_answer s w₀ l w p >>= after done)
  pub resolvable : Resolvable s w (body_from (p.depth - 1) p.rec s p.at)
  pub within : Within p
  pub kept : Kept LABELS w₀ w
  pub long : length w ≡ length w₀
  pub room : length out ≡ length old

pub going_begin : (s w : List ℕ) (l : Locals) (rec here : ℕ) (old : List ℕ) (at : ℕ) → length old * 1 < 2 ^ 63 → rec ≤ 4096
    → Resolvable s w (body_from 0 rec s here) → Going s w l rec here old at w old at (record { at = here; rec = rec; depth = 1 })
unfolding concat_map body_answer labels_in labels
going_begin s w l rec here old at h g r = record {
  done = [];
  so_far = put-none at (omega arith);
  same = all_after (body (scope_in s w) (locals_in s w l) [] (body_from 0 rec s here).body);
  resolvable = r;
  within = record { deep = omega arith; few = omega arith; low = g };
  kept = kept_same LABELS w;
  long = refl;
  room = refl;
}

module _ {s w₀ : List ℕ} {l : Locals} {rec here : ℕ} {old : List ℕ} {at : ℕ} {w out : List ℕ} {o : ℕ} {p : Place} (v : Going s w₀ l rec here old at w out o p) where
  pub going_area : WORDS ≤ length w₀ → WORDS ≤ length w
  going_area h = omega (arith, v.long)

  pub going_work : length w ≡ length w₀
  going_work = v.long

  pub going_out : length out ≡ length old
  going_out = v.room

  -- a record is left
  pub going_inside : p.rec < 4096 → InBody p
  going_inside h = record { deep = v.within.deep; few = v.within.few; low = h }

  pub going_resolvable : Resolvable s w (body_from (p.depth - 1) p.rec s p.at)
  going_resolvable = v.resolvable

  -- no instruction is left
  empty : body_answer s w₀ l w p ≡ ok [] → EmitsBody s w₀ l rec here old at (Ok o) w out
  empty e = record {
    emits = wrote (concat_map Binary.instruction) (body (scope_in s w₀) (locals_in s w₀ l) [] (body_from 0 rec s here).body) old at out v.done o v.so_far
        (v.same ∙ bind_ok (body_answer s w₀ l w p) [] (after v.done) (ok v.done) e (unfold after in ap ok (append-nil v.done)));
    kept = v.kept;
  }

  pub going_full : 4096 ≤ p.rec → EmitsBody s w₀ l rec here old at (Ok o) w out
  going_full h = empty (no_more (body_full s (p.depth - 1) p.rec p.at h))
    where
      no_more : body_from (p.depth - 1) p.rec s p.at ≡ stopped p.rec p.at → body_answer s w₀ l w p ≡ ok []
      no_more e = unfold body_answer body in rw e refl

  module _ (few : FewLocals l) where
    -- the answer in the first area, whatever the labels are
    first : (w' : List ℕ) (q : Place) → body_answer s w₀ l w' q ≡ body_answer s w l w' q
    unfolding body_answer
    first w' q = rw (scope_kept s w₀ w (kept_less LOCALS LABELS (omega arith) v.kept), locals-kept s w₀ w l v.kept few.named) refl

    module _ (res : Resolved (Option (ℕ × Place))) (w' new : List ℕ) (t : BodyTurned s w l p out o res w' new) where
      advanced : (a : ℕ) (q : Place) → res ≡ Ok (Some (a, q)) → Advanced s w l p out o a q w' new
      unfolding BodyTurned
      advanced a q d = rw d at t

      pub going_less : (a : ℕ) (q : Place) → res ≡ Ok (Some (a, q)) → p.rec < 4096 → 4096 - q.rec < 4096 - p.rec
      going_less a q d h = let e : p.rec < q.rec = (advanced a q d).later in omega arith

      pub going_again : (a : ℕ) (q : Place) → res ≡ Ok (Some (a, q)) → Going s w₀ l rec here old at w' new a q
      going_again a q d =
          let x : Advanced s w l p out o a q w' new = advanced a q d in
          record {
            done = v.done ++ x.ops;
            so_far = put_is (put_then v.so_far x.put) (sym (concat_append Binary.instruction v.done x.ops));
            same = v.same
                ∙ ap (λ (m : Answer (List Op)). m >>= after v.done) (first w p ∙ x.same ∙ as_after x.ops (body_answer s w l w' q))
                ∙ after-after (body_answer s w l w' q) v.done x.ops
                ∙ ap (λ (m : Answer (List Op)). m >>= after (v.done ++ x.ops)) (sym (first w' q));
            resolvable = resolvable-kept s w w' (body_from (q.depth - 1) q.rec s q.at) (kept_less LOCALS LABELS (omega arith) x.kept) x.resolvable;
            within = x.within;
            kept = kept_then v.kept x.kept;
            long = x.kept.long ∙ v.long;
            room = put-length x.put ∙ v.room;
          }
        where
          as_after : (ops : List Op) (m : Answer (List Op)) → (m >>= λ os. ok (ops ++ os)) ≡ (m >>= after ops)
          as_after ops m = unfold after in refl

      going_refused : (q : Refusal) → res ≡ Err q → EmitsBody s w₀ l rec here old at (Err q) w' new
      unfolding BodyTurned
      going_refused q d =
          let x : Halts s w l p q w' = rw d at t in
          record {
            emits = halts (concat_map Binary.instruction) (body (scope_in s w₀) (locals_in s w₀ l) [] (body_from 0 rec s here).body) old at new q
                (v.same ∙ bind_not (body_answer s w₀ l w p) q (after v.done) (first w p ∙ x.says));
            kept = rw x.area v.kept;
          }

      -- a refusal is handed on
      pub going_stops : (r : Resolved ℕ) (q : Refusal) → res ≡ Err q → IsErr r → IsErrAnd r (λ e. e ≡ q) → EmitsBody s w₀ l rec here old at r w' new
      going_stops r q d i z = rw (handed r q i z) (going_refused q d)

      pub going_done : res ≡ Ok None → EmitsBody s w₀ l rec here old at (Ok o) w' new
      unfolding BodyTurned
      going_done d =
          let x : Over s w l p out w' new = rw d at t in
          rw (x.area, x.bytes) (empty (first w p ∙ x.none))

pub ruleset goings = (going_again, going_done, going_stops, going_full)
