-- A function's entry: its parts in a row, measured first, after its type and its locals.
use Rattle.std.specs.Prelude.{Ok, Err, IsErrAnd}
use Rattle.std.specs.Result.{IsErr}
use Rattle.syntax.specs.Refusals.{Resolved, refused_by}
use Rattle.syntax.proofs.Ways.{handed}
use Prim.Native.Nat.{ℕ, ◌+◌, ◌-◌, ◌*◌, ◌≤◌, ◌<◌, ◌^◌}
use mathlib.Core.Path.{◌≡◌, refl, sym, ◌∙◌, ap}
use mathlib.Core.List.{List, [], ◌∷◌, ◌++◌}
use lib.ListN.{length, take, drop}
use native.Mathlib.Omega.{arith}
use Rattle.definition.specs.Basic.{Answer, ok, ◌>>=◌}
use Rattle.definition.specs.Syntax as Syntax
use Rattle.definition.specs.Syntax.{Bytes, Op, TypeNo}
use Rattle.definition.specs.Token as Token
use Rattle.definition.specs.Names.{type_no, locals_of, body, own_item, resolve}
use Rattle.definition.specs.Binary.{u, vec, run, runs, expr, func_code}
use Rattle.syntax.specs.declared.Refusal.{Refusal}
use Rattle.area.specs.Layout.{LABELS, LOCALS, WORDS}
use Rattle.syntax.specs.TypeUses.{list_of, use_of}
use Rattle.syntax.specs.declared.List as Code
use Rattle.syntax.specs.declared.TypeUse.{TypeUse}
use Rattle.emit.specs.Put.{Put, past}
use Rattle.emit.proofs.Laws.{put_then}
use Rattle.area.specs.Kept.{Kept}
use Rattle.area.proofs.Kept.{kept_then, kept_less}
use Rattle.runs.specs.Locals.{local_types}
use Rattle.syntax.specs.Resolved.{type_no_of}
use Rattle.binary.specs.Emits.{Emits, Wrote}
use Rattle.type_table.specs.Table.{types_in}
use Rattle.instr.specs.Bodies.{Stretch, body_from}
use Rattle.scope.specs.Scope.{scope_in, locals_in, FewLocals}
use Rattle.scope.specs.declared.Locals.{Locals}
use Rattle.scope.proofs.Frames.{scope_kept, locals-kept}
use Rattle.frames.specs.Locals.{SetsLocals, Sets, Unset}
use Rattle.code.specs.Body.{Resolvable, EmitsBody}
use Rattle.code.proofs.Bodies.{resolvable-kept}
use Rattle.instr.specs.Functions.{func_field}
use Rattle.function.specs.Function.{body_answer, code_bytes, sized_bytes, EmitsCode, Measured, MeasuresCode, MeasuresSized, EmitsAgain, typed_answer, EmitsTyped, EmitsFunc}
use Rattle.syntax.specs.declared.TypeNo as Number
use Rattle.function.proofs.Sized.{sized-place, put-beyond, put-short, put_again_lem, put_moved, moved_room}

-- ## The locals and the body

module _ (s w : List ℕ) (ls : Code.List) (r here : ℕ) (l : Locals) (old mid : List ℕ) (at a : ℕ) (p : Put old at (vec run (runs (local_types s ls.at ls.count))) a mid) (w' mid' : List ℕ) where
  pub code_to : (b o : ℕ) (new : List ℕ) → EmitsBody s w l (r + 1) here mid a (Ok b) w' mid' → Put mid' b (0x0B ∷ []) o new → EmitsCode (code_bytes s ls) (body_answer s w r here l) w old at (Ok o) w' new
  unfolding body_answer code_bytes expr Emits
  code_to b o new h y = record { emits = record { value = h.emits.value; is = h.emits.is; put = put_then p (put_then h.emits.put y) }; kept = h.kept }

  pub code_not : (q : Resolved ℕ) (z : Refusal) → EmitsBody s w l (r + 1) here mid a (Err z) w' mid' → IsErr q → IsErrAnd q (λ e. e ≡ z) → EmitsCode (code_bytes s ls) (body_answer s w r here l) w old at q w' mid'
  unfolding body_answer Emits
  code_not q z h i j = rw (handed q z i j) record { emits = h.emits; kept = h.kept }

-- ## Measured

pub code_measured : (bytes : List Op → Bytes) (a : Answer (List Op)) (w old : List ℕ) (r : Resolved ℕ) (w' new : List ℕ) → EmitsCode bytes a w old 0 r w' new → MeasuresCode bytes a w r w'
unfolding Emits
code_measured bytes a w old (Ok o) w' new h = record { says = record { value = h.emits.value; is = h.emits.is; long = h.emits.put.place }; kept = h.kept }
code_measured bytes a w old (Err z) w' new h = record { says = h.emits; kept = h.kept }

-- the body means the same after labels were written
body_kept : (s w w' : List ℕ) (r here : ℕ) (l : Locals) → Kept LABELS w w' → FewLocals l → body_answer s w' r here l ≡ body_answer s w r here l
unfolding body_answer
body_kept s w w' r here l k f =
    let a : scope_in s w' ≡ scope_in s w = scope_kept s w w' (kept_less LOCALS LABELS (omega arith) k) in
    let b : locals_in s w' l ≡ locals_in s w l = locals-kept s w w' l k f.named in
    rw (a, b)

-- ## After their length

-- where nothing can be stored it is measured
module _ (bytes : List Op → Bytes) (a : Answer (List Op)) (w w₁ : List ℕ) (at : ℕ) where
  pub measured_to : (n k c r : ℕ) → MeasuresCode bytes a w (Ok n) w₁ → k ≡ length (u n) → c ≡ past at k → r ≡ past c n → MeasuresSized bytes a w at (Ok r) w₁
  measured_to n k c r m i e g =
      let x : Measured bytes a n = m.says in
      record { says = record { value = x.value; is = x.is; place = sized-place at n c r (bytes x.value) x.long (e ∙ ap (past at) i) g }; kept = m.kept }

  pub measured_not : (r : Resolved ℕ) (z : Refusal) → MeasuresCode bytes a w (Err z) w₁ → IsErr r → IsErrAnd r (λ e. e ≡ z) → MeasuresSized bytes a w at r w₁
  measured_not r z m i j = rw (handed r z i j) record { says = m.says; kept = m.kept }

pub sized-beyond : (s w : List ℕ) (ls : Code.List) (a : Answer (List Op)) (old : List ℕ) (at : ℕ) (q : Resolved ℕ) (w₁ : List ℕ) → MeasuresSized (code_bytes s ls) a w at q w₁ → length old ≤ at
    → length old * 1 < 2 ^ 63 → EmitsCode (sized_bytes s ls) a w old at q w₁ old
unfolding Emits sized_bytes
sized-beyond s w ls a old at (Ok r) w₁ m h k =
    record { emits = record { value = m.says.value; is = m.says.is; put = put-beyond h (omega arith) m.says.place }; kept = m.kept }
sized-beyond s w ls a old at (Err z) w₁ m h k = record { emits = m.says; kept = m.kept }

-- elsewhere it is written, after a place for one group
module _ (s w : List ℕ) (ls : Code.List) (r here : ℕ) (l : Locals) (old : List ℕ) (at : ℕ) (w₁ mid : List ℕ) where
  pub sized_not : (q : Resolved ℕ) (z : Refusal) → EmitsCode (code_bytes s ls) (body_answer s w r here l) w old (at + 1) (Err z) w₁ mid → IsErr q → IsErrAnd q (λ e. e ≡ z)
      → EmitsCode (sized_bytes s ls) (body_answer s w r here l) w old at q w₁ mid
  unfolding Emits
  sized_not q z m i j = rw (handed q z i j) record { emits = m.emits; kept = m.kept }

  module _ (b : ℕ) (m : EmitsCode (code_bytes s ls) (body_answer s w r here l) w old (at + 1) (Ok b) w₁ mid) where
    pub sized-long : WORDS ≤ length w → WORDS ≤ length w₁
    sized-long h = rw m.kept.long h

    pub sized-resolvable : (t : Stretch) → Resolvable s w t → Resolvable s w₁ t
    sized-resolvable t h = resolvable-kept s w w₁ t (kept_less LOCALS LABELS (omega arith) m.kept) h

    x : Wrote (code_bytes s ls) (body_answer s w r here l) old (at + 1) b mid
    unfolding Emits
    x = m.emits

    -- the place after them is not before them
    pub sized-after : at + 1 ≤ b
    unfolding past
    sized-after = omega (arith, x.put.place)

    module _ (n : ℕ) (e : n ≡ b - (at + 1)) (h : at < length old) where
      pub sized-short : (o : ℕ) (new : List ℕ) → n < 128 → Put mid at (n ∷ []) o new → EmitsCode (sized_bytes s ls) (body_answer s w r here l) w old at (Ok b) w₁ new
      unfolding Emits sized_bytes
      sized-short o new k y = record { emits = record { value = x.value; is = x.is; put = put-short h x.put e k y }; kept = m.kept }

      module _ (k : ℕ) (i : k ≡ past b (length (u n) - 1)) (g : k ≤ length mid) where
        pub sized-room : at + length (u n) + n ≤ length mid
        sized-room = moved_room h x.put e i g

        pub sized_moved : (o : ℕ) (new : List ℕ) → Put mid at (u n ++ take n (drop (at + 1) mid)) o new → EmitsCode (sized_bytes s ls) (body_answer s w r here l) w old at (Ok o) w₁ new
        unfolding Emits sized_bytes
        sized_moved o new y = record { emits = record { value = x.value; is = x.is; put = put_moved h x.put e i g y }; kept = m.kept }

      pub sized_again : FewLocals l → (z : Resolved ℕ) (w₂ new : List ℕ) → EmitsAgain (code_bytes s ls) (body_answer s w₁ r here l) w₁ mid at n z w₂ new
          → EmitsCode (sized_bytes s ls) (body_answer s w r here l) w old at z w₂ new
      unfolding Emits sized_bytes
      sized_again f (Ok o) w₂ new y =
          let g : ◌≡◌ {A = List Op} y.emits.value x.value = (let i : ok y.emits.value ≡ ok x.value = sym y.emits.is ∙ body_kept s w w₁ r here l m.kept f ∙ x.is in cc) in
          let k = y.emits.put in
          record { emits = record { value = x.value; is = x.is; put = put_again_lem h x.put e (rw g at k) }; kept = kept_then m.kept y.kept }
      sized_again f (Err z) w₂ new y = record { emits = sym (body_kept s w w₁ r here l m.kept f) ∙ y.emits; kept = kept_then m.kept y.kept }

-- a number, and then the code
pub again_to : (bytes : List Op → Bytes) (a : Answer (List Op)) (w old mid : List ℕ) (at n c : ℕ) (q : Resolved ℕ) (w' new : List ℕ) → Put old at (u n) c mid → EmitsCode bytes a w mid c q w' new
    → EmitsAgain bytes a w old at n q w' new
unfolding Emits
again_to bytes a w old mid at n c (Ok o) w' new p y = record { emits = record { value = y.emits.value; is = y.emits.is; put = put_then p y.emits.put }; kept = y.kept }
again_to bytes a w old mid at n c (Err z) w' new p y = record { emits = y.emits; kept = y.kept }

-- ## The whole entry

module _ (s w : List ℕ) (r : ℕ) (n : TypeNo) (t : TypeUse) (ls : Code.List) (here : ℕ) (w₁ : List ℕ) where
  unset : (z : Refusal) → SetsLocals s w r (locals_of (types_in s w) n (use_of s t) (list_of Token.param s ls)) (Err z) w₁
      → Unset s w r (locals_of (types_in s w) n (use_of s t) (list_of Token.param s ls)) z w₁
  unfolding SetsLocals
  unset z h = h

  -- an identifier comes twice
  pub typed_not : (old : List ℕ) (at : ℕ) (q : Resolved ℕ) (z : Refusal) → SetsLocals s w r (locals_of (types_in s w) n (use_of s t) (list_of Token.param s ls)) (Err z) w₁
      → IsErr q → IsErrAnd q (λ e. e ≡ z) → EmitsTyped s w r n t ls here old at q w₁ old
  unfolding Emits typed_answer ◌>>=◌
  typed_not old at q z h i j = rw (handed q z i j) (let y = unset z h in let g = y.says in record { emits = rw g refl; area = y.long })

  module _ (l : Locals) (h : SetsLocals s w r (locals_of (types_in s w) n (use_of s t) (list_of Token.param s ls)) (Ok l) w₁) where
    set : Sets s w r (locals_of (types_in s w) n (use_of s t) (list_of Token.param s ls)) l w₁
    unfolding SetsLocals
    set = h

    pub typed-few : FewLocals l
    typed-few = set.few

    pub typed_long : WORDS ≤ length w → WORDS ≤ length w₁
    typed_long g = rw set.kept.long g

    pub typed-resolvable : (v : Stretch) → Resolvable s w v → Resolvable s w₁ v
    typed-resolvable v g = resolvable-kept s w w₁ v set.kept g

    body-set : body (scope_in s w) (locals_of (types_in s w) n (use_of s t) (list_of Token.param s ls)) [] (body_from 0 (r + 1) s here).body ≡ body_answer s w₁ r here l
    unfolding body_answer
    body-set =
        let a : scope_in s w₁ ≡ scope_in s w = scope_kept s w w₁ set.kept in
        let b = set.locals in
        rw (a, b)

    -- the locals are set, and the code is emitted
    pub typed_to : (old : List ℕ) (at : ℕ) (z : Resolved ℕ) (w₂ new : List ℕ) → EmitsCode (sized_bytes s ls) (body_answer s w₁ r here l) w₁ old at z w₂ new → EmitsTyped s w r n t ls here old at z w₂ new
    unfolding Emits typed_answer ◌>>=◌ func_code sized_bytes code_bytes
    typed_to old at (Ok o) w₂ new y =
        let g = set.distinct in
        let e = body-set ∙ y.emits.is in
        record {
          emits = record { value = Syntax.func_i n (local_types s ls.at ls.count) y.emits.value; is = rw (g, e) refl; put = y.emits.put };
          area = kept_then set.kept (kept_less LOCALS LABELS (omega arith) y.kept);
        }
    typed_to old at (Err z) w₂ new y =
        let g = set.distinct in
        let i = body-set ∙ y.emits in
        record { emits = rw (g, i) refl; area = y.kept.long ∙ set.kept.long }

module _ (s w : List ℕ) (r : ℕ) (t : TypeUse) (ls : Code.List) (here : ℕ) where
  pub func_not : (old : List ℕ) (at : ℕ) (q : Resolved ℕ) (z : Refusal) → type_no (scope_in s w) r (use_of s t) ≡ refused_by z → IsErr q → IsErrAnd q (λ e. e ≡ z) → EmitsFunc s w r t ls here old at q w old
  unfolding Emits resolve own_item func_field ◌>>=◌
  func_not old at q z d i j = rw (handed q z i j) record { emits = rw d refl; area = refl }

  pub func_to : (n : Number.TypeNo) (old : List ℕ) (at : ℕ) (z : Resolved ℕ) (w' new : List ℕ) → type_no (scope_in s w) r (use_of s t) ≡ ok (type_no_of n) → EmitsTyped s w r (type_no_of n) t ls here old at z w' new
      → EmitsFunc s w r t ls here old at z w' new
  func_to n old at z w' new d y = record { emits = rw same y.emits; area = y.area }
    where
      same : resolve (scope_in s w) r (func_field s r t ls here) ≡ typed_answer s w r (type_no_of n) t ls here
      same = unfold resolve own_item func_field typed_answer ◌>>=◌ scope_in in rw d refl
