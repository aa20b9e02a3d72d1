-- What resolving makes of a stretch of a body: of one and then another, and of folded records.
use Rattle.std.specs.Prelude.{if◌then◌else◌}
use Prim.Native.Nat.{ℕ, zero, suc, ◌+◌, ◌-◌}
use mathlib.Core.Path.{◌≡◌, refl, sym, ◌∙◌, ap}
use mathlib.Core.Bool.{Bool, true, false, false≢true}
use mathlib.Core.List.{List, [], ◌∷◌, ◌++◌, append_assoc}
use lib.Dec.{leb}
use Rattle.definition.specs.Basic.{Answer, ok, fails, ◌>>=◌, concat_map}
use Rattle.definition.specs.Syntax as Syntax
use Rattle.definition.specs.Syntax.{Bytes, Identifier, Body, Op, Rec, field, instr, folded, body_end}
use Rattle.definition.specs.Reader.{Step, got, fault, byte}
use Rattle.definition.specs.Types.{used_at, instr_uses, body_uses}
use Rattle.definition.specs.Names.{Scope, Namespace, blocks_after, instr_op, body}
use Rattle.laws.proofs.Backwards.{came}
use Rattle.laws.proofs.Bodies.{Foldable, folds}
use Rattle.type_table.specs.Table.{types_in, Recalled}
use Rattle.instr.specs.Bodies.{Stretch, stopped, joined, operator_last, on_fold, fold_here, operands_by, tree_at}
use Rattle.instr.proofs.Stretches.{whole-first, whole-rest}
use Rattle.scope.proofs.Frames.{recalled-left, recalled_right}
use Rattle.operands.proofs.Elements.{after}
use Rattle.code.specs.Body.{Resolvable}

-- ## Lists

pub concat_append : {A B : Type 0} (f : A → List B) (xs ys : List A) → concat_map f (xs ++ ys) ≡ concat_map f xs ++ concat_map f ys
unfolding concat_map
concat_append f [] ys = refl
concat_append f (x ∷ xs) ys = rw (concat_append f xs ys) (sym (append_assoc (f x) (concat_map f xs) (concat_map f ys)))

-- the type uses of one and then another
uses-append : (xs ys : Body Identifier) → body_uses (xs ++ ys) ≡ body_uses xs ++ body_uses ys
unfolding body_uses
uses-append [] ys = refl
uses-append ((r, x) ∷ xs) ys = rw (uses-append xs ys) (sym (append_assoc (used_at r (instr_uses x)) (body_uses xs) (body_uses ys)))

-- ## What is done

pub all_after : (m : Answer (List Op)) → m ≡ (m >>= after [])
unfolding ◌>>=◌ after
all_after (ok ys) = refl
all_after (fails q) = refl

pub after-after : (m : Answer (List Op)) (done more : List Op) → ((m >>= after more) >>= after done) ≡ (m >>= after (done ++ more))
unfolding ◌>>=◌ after
after-after (ok ys) done more = ap ok (sym (append_assoc done more ys))
after-after (fails q) done more = refl

-- ## What may be resolved

module _ (s w : List ℕ) (t u : Stretch) (v : Resolvable s w (joined t u)) where
  joined-uses : Recalled w (types_in s w) (body_uses t.body ++ body_uses u.body)
  joined-uses = rw (uses-append t.body u.body) at v.recalled

  pub resolvable-first : Resolvable s w t
  resolvable-first = record { recalled = recalled-left w (types_in s w) (body_uses t.body) (body_uses u.body) joined-uses; whole = whole-first t u v.whole }

  pub resolvable-rest : Resolvable s w u
  resolvable-rest = record { recalled = recalled_right w (types_in s w) (body_uses t.body) (body_uses u.body) joined-uses; whole = whole-rest t u v.whole }

module _ (s w : List ℕ) (r : ℕ) (x : Syntax.Instr Identifier) (t : Stretch) (v : Resolvable s w (operator_last r x t)) where
  operator-recalled : Recalled w (types_in s w) (body_uses t.body ++ body_uses ((r, x) ∷ []))
  operator-recalled = rw (uses-append t.body ((r, x) ∷ [])) at v.recalled

  pub resolvable-operands : Resolvable s w t
  resolvable-operands = record { recalled = recalled-left w (types_in s w) (body_uses t.body) (body_uses ((r, x) ∷ [])) operator-recalled; whole = v.whole }

  pub resolvable-operator : Recalled w (types_in s w) (used_at r (instr_uses x))
  unfolding body_uses
  resolvable-operator = recalled-left w (types_in s w) (used_at r (instr_uses x)) [] (recalled_right w (types_in s w) (body_uses t.body) (body_uses ((r, x) ∷ [])) operator-recalled)

-- what cannot be read is not resolved
pub never_cut : {s w : List ℕ} {t : Stretch} → Resolvable s w t → t.whole ≡ false → ⊥
never_cut v e = false≢true (sym e ∙ v.whole)

-- ## Instructions that open and close no block

-- all that is folded
unfoldable pub Level : Body Identifier → Type 0
Level [] = Unit {0}
Level ((r, x) ∷ xs) = Foldable x × Level xs

level-append : (xs ys : Body Identifier) → Level xs → Level ys → Level (xs ++ ys)
unfolding Level
level-append [] ys h g = g
level-append ((r, x) ∷ xs) ys h g = (h.0, level-append xs ys h.1 g)

pub operands-level : (f : ℕ → ℕ → Stretch) → ((r here : ℕ) → Level (f r here).body) → (n r here : ℕ) → Level (operands_by f n r here).body
unfolding operands_by Level
operands-level f each zero r here = tt
operands-level f each (suc n) r here =
    level-append (f r here).body (operands_by f n (f r here).rec (f r here).at).body (each r here) (operands-level f each n (f r here).rec (f r here).at)

-- the operator of a folded record
fold_foldable : (s : Bytes) (here : ℕ) (x : Syntax.Instr Identifier) (n next : ℕ) → fold_here s here ≡ got (folded x n) next → Foldable x
unfolding fold_here
fold_foldable s here x n next e =
    let c = came (byte s here) e in
    let f = folds s c.next (folded x n) next c.rest in
    let d = f.is in
    let z : f.read ≡ x = cc in
    rw z at f.foldable

pub tree_level : (left : ℕ) (s : Bytes) (r here : ℕ) → Level (tree_at left s r here).body
unfolding tree_at Level
tree_level zero s r here = tt
tree_level (suc left) s r here = by_count (leb 4096 r) (tree_level left s)
  where
    by_fold : (m : Step (Rec Identifier)) → fold_here s here ≡ m → ((q next : ℕ) → Level (tree_at left s q next).body)
        → Level (on_fold m (λ x n next. operator_last r x (operands_by (tree_at left s) n (r + 1) next)) (stopped (r + 1) here)).body
    by_fold (got (folded x n) next) e h =
        level-append (operands_by (tree_at left s) n (r + 1) next).body ((r, x) ∷ []) (operands-level (tree_at left s) h n (r + 1) next) (fold_foldable s here x n next e, tt)
    by_fold (got (field f) next) e h = tt
    by_fold (got (instr x) next) e h = tt
    by_fold (got body_end next) e h = tt
    by_fold (fault n) e h = tt

    by_count : (t : Bool) → ((q next : ℕ) → Level (tree_at left s q next).body)
        → Level (if t then stopped r here else on_fold (fold_here s here) (λ x n next. operator_last r x (operands_by (tree_at left s) n (r + 1) next)) (stopped (r + 1) here)).body
    by_count true h = tt
    by_count false h = by_fold (fold_here s here) refl h

-- ## Answers

module _ (Γ : Scope Identifier) (locals blocks : Namespace Identifier) where
  level-blocks : (x : Syntax.Instr Identifier) → Foldable x → blocks_after blocks x ≡ blocks
  unfolding blocks_after
  level-blocks (Syntax.opens op l t) h = absurd h
  level-blocks (Syntax.elses l) h = absurd h
  level-blocks (Syntax.ends l) h = absurd h
  level-blocks (Syntax.indirect x t) h = refl
  level-blocks (Syntax.plain p) h = refl

  -- an instruction is put before what follows it, and so is all of a stretch
  put-before : (m : Answer Op) (a b : Answer (List Op)) → ((m >>= λ o. (a >>= λ os. b >>= after os) >>= λ os. ok (o ∷ os))) ≡ ((m >>= λ o. a >>= λ os. ok (o ∷ os)) >>= λ os. b >>= after os)
  unfolding ◌>>=◌ after
  put-before (ok o) (ok os) (ok ps) = refl
  put-before (ok o) (ok os) (fails q) = refl
  put-before (ok o) (fails q) b = refl
  put-before (fails q) a b = refl

  pub body-append : (xs ys : Body Identifier) → Level xs → body Γ locals blocks (xs ++ ys) ≡ (body Γ locals blocks xs >>= λ os. body Γ locals blocks ys >>= after os)
  unfolding body Level
  body-append [] ys h = nothing-before (body Γ locals blocks ys)
    where
      nothing-before : (b : Answer (List Op)) → b ≡ (ok [] >>= λ os. b >>= after os)
      nothing-before (ok ps) = unfold ◌>>=◌ after in refl
      nothing-before (fails q) = unfold ◌>>=◌ in refl
  body-append ((r, x) ∷ xs) ys h =
      rw (level-blocks x h.0, body-append xs ys h.1) (put-before (instr_op Γ locals blocks r x) (body Γ locals blocks xs) (body Γ locals blocks ys))
