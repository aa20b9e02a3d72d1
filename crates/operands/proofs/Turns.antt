-- Lists of indices: each is resolved in its turn, and put.
use Rattle.std.specs.Prelude.{Ok, Err}
use Rattle.syntax.specs.Reads.{Read}
use Rattle.syntax.specs.Refusals.{Resolved}
use Prim.Native.Nat.{ℕ, ◌+◌, ◌-◌, ◌*◌, ◌^◌, ◌≤◌, ◌<◌}
use mathlib.Core.Path.{◌≡◌, refl, sym, ◌∙◌, ap}
use mathlib.Core.List.{List, [], ◌∷◌, ◌++◌}
use lib.ListN.{length}
use native.Mathlib.Omega.{arith}
use Rattle.definition.specs.Basic.{Answer, ok, ◌>>=◌, each, concat_map}
use Rattle.definition.specs.Syntax as Syntax
use Rattle.definition.specs.Syntax.{Bytes, Identifier, Depth}
use Rattle.definition.specs.Token.{present}
use Rattle.definition.specs.Names.{Scope, Namespace, item_no, depth_of, immediate}
use Rattle.definition.specs.Binary.{u, vec, imm}
use Rattle.syntax.specs.Refusals.{number, refused_by}
use Rattle.syntax.specs.declared.Fault.{Fault}
use Rattle.syntax.specs.declared.Refusal.{Refusal}
use Rattle.emit.specs.Put.{Put}
use Rattle.emit.proofs.Laws.{put-none, put_then, put_is}
use Rattle.syntax.specs.Tokens.{index_of, index_at}
use Rattle.syntax.specs.declared.Index.{Index}
use Rattle.syntax.specs.TypeUses.{elements}
use Rattle.name_table.specs.Area.{resolved}
use Rattle.syntax.specs.Resolved as View
use Rattle.syntax.specs.declared.Depth as Code
use Rattle.scope.specs.Answers.{depth_answer}
use Rattle.binary.specs.Emits.{Wrote, Emits}
use Rattle.binary.proofs.Emitting.{wrote, halts, was_wrote, has_halted, emits_not, emits_then}
use Rattle.scope.specs.Scope.{scope_in, labels_in}
use Rattle.operands.specs.Operands.{depth_bytes, FewBlocks, bytes_of, target_of}
use Rattle.operands.specs.declared.indices.Target.{Target}
use Rattle.operands.specs.declared.indices.Target.TheVariants as T
use Rattle.operands.proofs.Elements.{elements-none, elements-more, elements-fault, concat_snoc, after, each_more, each_not, each_none, each_all, each-length}

-- ## `count_indices`

-- n are counted, and the others are left
pub record Counting (s : Bytes) (at count n here : ℕ) : Type 0 where
  pub few : n ≤ count
  pub same : length (elements present s at count) ≡ n + length (elements present s here (count - n))

pub count-begin : (s : Bytes) (at count : ℕ) → Counting s at count 0 at
count-begin s at count = let m : count - 0 ≡ count = omega arith in record { few = omega arith; same = rw m (omega arith) }

module _ {s : Bytes} {at count n here : ℕ} (v : Counting s at count n here) where
  module _ (q : Read Index) (told : present s here ≡ index_at s q) where
    pub count_again : (x : Index) (next : ℕ) → n < count → q ≡ Ok (x, next) → Counting s at count (n + 1) next
    count_again x next h d = record {
      few = omega arith;
      same = v.same ∙ (
          let e : elements present s here (count - n) ≡ index_of s x ∷ elements present s next (count - n - 1) = elements-more present s here (count - n) (index_of s x) next (omega arith) (told ∙ ap (index_at s) d) in
          let m : count - n - 1 ≡ count - (n + 1) = omega arith in
          rw (e, m) (omega arith));
    }

    pub count-fault : (k : Fault) → q ≡ Err k → n ≡ length (elements present s at count)
    count-fault k d = (let e : elements present s here (count - n) ≡ [] = elements-fault present s here (count - n) (number k) (told ∙ ap (index_at s) d) in omega (arith, rw e at v.same))

  pub count-done : count ≤ n → count ≡ length (elements present s at count)
  count-done h = (let e : elements present s here (count - n) ≡ [] = elements-none present s here (count - n) (omega arith) in omega (arith, v.few, rw e at v.same))

-- ## Each in its turn: f resolves an index, and g is the bytes of what it means

-- some are put, and so many are left
pub record Resolving {A : Type 0} (f : Syntax.Index Identifier → Answer A) (g : A → Bytes) (s : Bytes) (at count : ℕ) (old : Bytes) (place here left o : ℕ) (out : Bytes) : Type 0 where
  pub done : List A
  pub so_far : Put old place (concat_map g done) o out
  pub same : each f (elements present s at count) ≡ (each f (elements present s here left) >>= after done)

module _ {A : Type 0} (f : Syntax.Index Identifier → Answer A) (g : A → Bytes) (s : Bytes) (at count : ℕ) (old : Bytes) (place : ℕ) where
  pub each-begin : length old * 1 < 2 ^ 63 → Resolving f g s at count old place at (count - 0) place old
  unfolding concat_map
  each-begin h = let m : count - 0 ≡ count = omega arith in rw m (record { done = []; so_far = put-none place (omega arith); same = each_all f (elements present s at count) })

module _ {A : Type 0} {f : Syntax.Index Identifier → Answer A} {g : A → Bytes} {s : Bytes} {at count : ℕ} {old : Bytes} {place here left o : ℕ} {out : Bytes} (v : Resolving f g s at count old place here left o out) where
  abbrev Ended : ℕ → Bytes → Type 0
  Ended r new = Emits (concat_map g) (each f (elements present s at count)) old place (Ok r) new

  none_left : elements present s here left ≡ [] → Ended o out
  none_left e = wrote (concat_map g) (each f (elements present s at count)) old place out v.done o v.so_far (v.same ∙ rw e (each_none f v.done))

  pub each-done : left ≤ 0 → Ended o out
  each-done h = none_left (elements-none present s here left h)

  -- the buffer keeps its length
  pub each_long : length out ≡ length old
  each_long = v.so_far.long

  module _ (q : Read Index) (told : present s here ≡ index_at s q) where
    pub each-fault : (k : Fault) → q ≡ Err k → Ended o out
    each-fault k d = none_left (elements-fault present s here left (number k) (told ∙ ap (index_at s) d))

    module _ (x : Index) (next : ℕ) (h : 0 < left) (d : q ≡ Ok (x, next)) where
      more : elements present s here left ≡ index_of s x ∷ elements present s next (left - 1)
      more = elements-more present s here left (index_of s x) next h (told ∙ ap (index_at s) d)

      turn : (a : A) (r : ℕ) (new : Bytes) → f (index_of s x) ≡ ok a → Put out o (g a) r new → Resolving f g s at count old place next (left - 1) r new
      turn a r new e p = record {
        done = v.done ++ (a ∷ []);
        so_far = put_is (put_then v.so_far p) (sym (concat_snoc g v.done a));
        same = v.same ∙ rw more (each_more f (index_of s x) (elements present s next (left - 1)) a v.done e);
      }

      stop : (new : Bytes) (r : Refusal) → f (index_of s x) ≡ refused_by r → Emits (concat_map g) (each f (elements present s at count)) old place (Err r) new
      stop new r e = halts (concat_map g) (each f (elements present s at count)) old place new r (v.same ∙ rw more (each_not f (index_of s x) (elements present s next (left - 1)) v.done r e))

      pub each_again : (y : Resolved ℕ) (r : ℕ) (new : Bytes) (k : ℕ) → Emits g (f (index_of s x)) out o y new → y ≡ Ok r → k ≡ left - 1 → Resolving f g s at count old place next k r new
      each_again y r new k w e m = let z : Wrote g (f (index_of s x)) out o r new = was_wrote g (f (index_of s x)) out o new y r w e in rw m (turn z.value r new z.is z.put)

      pub each_halts : (y : Resolved ℕ) (r : Refusal) (new : Bytes) → Emits g (f (index_of s x)) out o y new → y ≡ Err r → Emits (concat_map g) (each f (elements present s at count)) old place (Err r) new
      each_halts y r new w e = stop new r (has_halted g (f (index_of s x)) out o new y r w e)

-- ## After their count

module _ {A : Type 0} (f : Syntax.Index Identifier → Answer A) (g : A → Bytes) (xs : List (Syntax.Index Identifier)) where
  pub emits-vec : (old : List ℕ) (at n r : ℕ) (mid : List ℕ) (q : Resolved ℕ) (new : List ℕ) → n ≡ length xs → Put old at (u n) r mid → Emits (concat_map g) (each f xs) mid r q new → Emits (vec g) (each f xs) old at q new
  unfolding Emits vec
  emits-vec old at n r mid (Ok o) new e p w = record {
    value = w.value;
    is = w.is;
    put = put_then (put_is p (ap u (e ∙ sym (each-length f xs w.value w.is)))) w.put;
  }
  emits-vec old at n r mid (Err q) new e p w = w

-- ## One index

module _ (a : Answer ℕ) (y : Resolved ℕ) (told : a ≡ resolved y) where
  pub number_to : (old : List ℕ) (at n r : ℕ) (new : List ℕ) → y ≡ Ok n → Put old at (u n) r new → Emits u a old at (Ok r) new
  number_to old at n r new d p = wrote u a old at new n r p (told ∙ ap resolved d)

  pub number_not : (old : List ℕ) (at : ℕ) (r : Refusal) (new : List ℕ) → y ≡ Err r → Emits u a old at (Err r) new
  number_not old at r new d = halts u a old at new r (told ∙ ap resolved d)

module _ (a : Answer Depth) (y : Resolved Code.Depth) (told : a ≡ depth_answer y) where
  pub depth_to : (old : List ℕ) (at : ℕ) (d : Code.Depth) (r : ℕ) (new : List ℕ) → y ≡ Ok d → Put old at (u (View.depth_of d).depth) r new → Emits depth_bytes a old at (Ok r) new
  unfolding depth_bytes
  depth_to old at d r new e p = wrote depth_bytes a old at new (View.depth_of d) r p (told ∙ ap depth_answer e)

  pub depth_not : (old : List ℕ) (at : ℕ) (r : Refusal) (new : List ℕ) → y ≡ Err r → Emits depth_bytes a old at (Err r) new
  depth_not old at r new e = halts depth_bytes a old at new r (told ∙ ap depth_answer e)

-- ## Functions or labels

pub few-func : FewBlocks T.Func
unfolding FewBlocks
few-func = tt

pub few-label : (k : ℕ) → k ≤ 128 → FewBlocks (T.Label k)
unfolding FewBlocks
few-label k h = h

pub few-blocks : (to : Target) (k : ℕ) → FewBlocks to → to ≡ T.Label k → k ≤ 128
unfolding FewBlocks
few-blocks to k h d = rw d at h

module _ (s w : List ℕ) (rec : ℕ) (x : Syntax.Index Identifier) (old : List ℕ) (at : ℕ) (r : Resolved ℕ) (new : List ℕ) where
  pub index-func : (to : Target) → to ≡ T.Func → Emits u (item_no (scope_in s w) Syntax.funcs rec x) old at r new → Emits (bytes_of to) (target_of s w to rec x) old at r new
  unfolding bytes_of target_of
  index-func to d e = rw d e

  pub index-label : (to : Target) (k : ℕ) → to ≡ T.Label k → Emits depth_bytes (depth_of (scope_in s w) (labels_in s w k) rec x) old at r new → Emits (bytes_of to) (target_of s w to rec x) old at r new
  unfolding bytes_of target_of
  index-label to k d e = rw d e

module _ (s w : List ℕ) (rec : ℕ) (xs : List (Syntax.Index Identifier)) (old : List ℕ) (at : ℕ) (r : Resolved ℕ) (new : List ℕ) where
  pub funcs_are : Emits (vec (bytes_of T.Func)) (each (target_of s w T.Func rec) xs) old at r new → Emits (vec u) (each (item_no (scope_in s w) Syntax.funcs rec) xs) old at r new
  unfolding bytes_of target_of
  funcs_are e = e

  pub labels_are : (k : ℕ) → Emits (vec (bytes_of (T.Label k))) (each (target_of s w (T.Label k) rec) xs) old at r new → Emits (vec depth_bytes) (each (depth_of (scope_in s w) (labels_in s w k) rec) xs) old at r new
  unfolding bytes_of target_of
  labels_are k e = e

-- ## `emit_labels`

module _ (Γ : Scope Identifier) (locals blocks : Namespace Identifier) (rec : ℕ) (xs : List (Syntax.Index Identifier)) (x : Syntax.Index Identifier) (old : List ℕ) (at : ℕ) (q : Resolved ℕ) (mid : List ℕ) where
  abbrev Listed : Type 0
  Listed = Emits (vec depth_bytes) (each (depth_of Γ blocks rec) xs) old at q mid

  pub labels_to : (o : ℕ) (r : Resolved ℕ) (new : List ℕ) → Listed → q ≡ Ok o → Emits depth_bytes (depth_of Γ blocks rec x) mid o r new → Emits imm (immediate Γ locals blocks rec (Syntax.labels xs x)) old at r new
  unfolding immediate imm depth_bytes
  labels_to o r new w d z = emits_then (vec depth_bytes) depth_bytes imm (λ ds e. Syntax.labels_imm ds e) (each (depth_of Γ blocks rec) xs) (depth_of Γ blocks rec x) old at q o mid r new (λ ds e. refl) w d z

  pub labels_not : (r : Refusal) → Listed → q ≡ Err r → Emits imm (immediate Γ locals blocks rec (Syntax.labels xs x)) old at (Err r) mid
  unfolding immediate
  labels_not r w d = emits_not (vec depth_bytes) imm (λ ds. depth_of Γ blocks rec x >>= λ e. ok (Syntax.labels_imm ds e)) (each (depth_of Γ blocks rec) xs) old at q r mid w d
