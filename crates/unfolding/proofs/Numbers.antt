-- The numbers of a body's records change no result: a refusal's number and what is written stay, and of a refusal only its record differs.
use Rattle.std.specs.Prelude.{if◌then◌else◌}
use mathlib.Core.Path.{◌≡◌, refl}
use Prim.Native.Nat.{ℕ}
use mathlib.Core.Bool.{Bool, true, false}
use mathlib.Core.List.{List, [], ◌∷◌, ◌++◌}
use mathlib.Core.Option.{Option, none, some}
use lib.Dec.{ltb}
use Rattle.definition.specs.Basic.{Answer, ok, fails, refused, ◌>>=◌, each}
use Rattle.definition.specs.Syntax.{Space, FuncType, Index, absent, number, named, own_index, TypeUse, Body}
use Rattle.definition.specs.Syntax.{Operand, nothing, label, labels, local, item, items, access, int32, int64, raw, Instr, opens, elses, ends, indirect, plain}
use Rattle.definition.specs.Types.{Uses, used_at, instr_uses, body_uses, type_at, take_or_add, intern}
use Rattle.definition.specs.Names.{Namespace, Scope, find, found_at, below, number_in, agrees, item_no, checked, type_no_of, type_no, block_type, local_no, depth_of, immediate, plain_op, closes, instr_op, blocks_after, body}

-- ## Answers that differ at most in a refusal's record

-- two answers are the same, or refusals by one number, which is not 0
pub data Alike {A : Type 0} : Answer A → Answer A → Type 0 where
  same : (a : Answer A) → Alike a a
  both : (n r q : ℕ) → ltb 0 n ≡ true → Alike (refused n r) (refused n q)

pub alike_then : {A B : Type 0} {m n : Answer A} {k l : A → Answer B} → Alike m n → ((a : A) → Alike (k a) (l a)) → Alike (m >>= k) (n >>= l)
unfolding ◌>>=◌
alike_then (same (ok a)) f = f a
alike_then (same (fails q)) f = same (fails q)
alike_then (both n r q p) f = both n r q p

alike_if : {A : Type 0} (t : Bool) {a b c d : Answer A} → Alike a b → Alike c d → Alike (if t then a else c) (if t then b else d)
alike_if true e f = e
alike_if false e f = f

alike-each : {A B : Type 0} (f g : A → Answer B) → ((x : A) → Alike (f x) (g x)) → (xs : List A) → Alike (each f xs) (each g xs)
unfolding each
alike-each f g h [] = same (ok [])
alike-each f g h (x ∷ xs) = alike_then (h x) λ y. alike_then (alike-each f g h xs) λ ys. same (ok (y ∷ ys))

ruleset alikes = (refl, same, both, alike_then, alike_if, alike-each)

-- ## An instruction at one record and at another

alike-found : (r q : ℕ) (o : Option ℕ) → Alike (found_at r o) (found_at q o)
alike-found r q none = search alikes
alike-found r q (some n) = search alikes

alike-agrees : (r q : ℕ) (s : FuncType) (n : ℕ) (o : Option FuncType) → Alike (agrees r s n o) (agrees q s n o)
alike-agrees r q s n none = search alikes
alike-agrees r q s n (some t) = search alikes

module _ {I : Type 0} (Γ : Scope I) (r q : ℕ) where
  alike-number : (ns : Namespace I) (limit : ℕ) (x : Index I) → Alike (number_in Γ.strict Γ.eq ns limit r x) (number_in Γ.strict Γ.eq ns limit q x)
  unfolding number_in below
  alike-number ns limit absent = search alikes
  alike-number ns limit (number n) = search alikes
  alike-number ns limit (named i) = alike-found r q (find Γ.eq i ns)
  alike-number ns limit (own_index n) = search alikes

  alike-item : (k : Space) (x : Index I) → Alike (item_no Γ k r x) (item_no Γ k q x)
  unfolding item_no
  alike-item k x = alike-number _ _ x

  alike-type_no_of : (t : Bool) (s : FuncType) (x : Index I) → Alike (type_no_of Γ r t s x) (type_no_of Γ q t s x)
  unfolding type_no_of checked
  alike-type_no_of t s absent = search alikes
  alike-type_no_of t s (number n) = search (alikes, alike-item, alike-agrees)
  alike-type_no_of t s (named i) = search (alikes, alike-item, alike-agrees)
  alike-type_no_of t s (own_index n) = search (alikes, alike-item, alike-agrees)

  alike-type : (t : TypeUse I) → Alike (type_no Γ r t) (type_no Γ q t)
  unfolding type_no
  alike-type t = alike-type_no_of _ _ t.index

  alike_block : (t : TypeUse I) → Alike (block_type Γ r t) (block_type Γ q t)
  unfolding block_type
  alike_block t = search (alikes, alike-type)

  module _ (locals blocks : Namespace I) where
    alike-depth : (x : Index I) → Alike (depth_of Γ blocks r x) (depth_of Γ blocks q x)
    unfolding depth_of
    alike-depth x = search (alikes, alike-number)

    alike-immediate : (o : Operand I) → Alike (immediate Γ locals blocks r o) (immediate Γ locals blocks q o)
    unfolding immediate local_no
    alike-immediate nothing = search alikes
    alike-immediate (label x) = search (alikes, alike-depth)
    alike-immediate (labels xs x) = search (alikes, alike-depth)
    alike-immediate (local x) = search (alikes, alike-number)
    alike-immediate (item k x) = search (alikes, alike-item)
    alike-immediate (items b xs) = search (alikes, alike-item)
    alike-immediate (access e o x) = search (alikes, alike-item)
    alike-immediate (int32 n) = search alikes
    alike-immediate (int64 n) = search alikes
    alike-immediate (raw bs) = search alikes

    alike-closes : (l : Option I) → Alike (closes Γ r l blocks) (closes Γ q l blocks)
    unfolding closes
    alike-closes none = search alikes
    alike-closes (some i) = go blocks
      where
        go : (ns : Namespace I) → Alike (closes Γ r (some i) ns) (closes Γ q (some i) ns)
        go [] = search alikes
        go (n ∷ ns) = search alikes

    alike-instr : (x : Instr I) → Alike (instr_op Γ locals blocks r x) (instr_op Γ locals blocks q x)
    unfolding instr_op plain_op
    alike-instr (opens op l t) = search (alikes, alike_block)
    alike-instr (elses l) = search (alikes, alike-closes)
    alike-instr (ends l) = search (alikes, alike-closes)
    alike-instr (indirect x t) = search (alikes, alike-item, alike-type)
    alike-instr (plain p) = search (alikes, alike-immediate)

-- ## Bodies and uses that differ in numbers alone

pub data Paired {X : Type 0} : List (ℕ × X) → List (ℕ × X) → Type 0 where
  none_paired : Paired [] []
  one_paired : {r q : ℕ} {x : X} {xs ys : List (ℕ × X)} → Paired xs ys → Paired ((r, x) ∷ xs) ((q, x) ∷ ys)

module _ {X : Type 0} where
  pub paired_itself : (xs : List (ℕ × X)) → Paired xs xs
  paired_itself [] = none_paired
  paired_itself ((r, x) ∷ xs) = one_paired (paired_itself xs)

  pub paired_append : {xs ys us vs : List (ℕ × X)} → Paired xs ys → Paired us vs → Paired (xs ++ us) (ys ++ vs)
  paired_append none_paired w = w
  paired_append (one_paired h) w = one_paired (paired_append h w)

paired_used : (r q : ℕ) (ts : List FuncType) → Paired (used_at r ts) (used_at q ts)
paired_used r q [] = none_paired
paired_used r q (t ∷ ts) = one_paired (paired_used r q ts)

pub alike-intern : {us vs : Uses} → Paired us vs → (ts : List FuncType) → Alike (intern ts us) (intern ts vs)
unfolding intern
alike-intern none_paired ts = same _
alike-intern (one_paired {r = r} {q = q} {x = t} h) ts = alike_then (added (type_at t ts)) λ all. alike-intern h all
  where
    added : (o : Option ℕ) → Alike (take_or_add r t ts o) (take_or_add q t ts o)
    added none = search alikes
    added (some n) = search alikes

module _ {I : Type 0} where
  pub paired_uses : {xs ys : Body I} → Paired xs ys → Paired (body_uses xs) (body_uses ys)
  unfolding body_uses
  paired_uses none_paired = none_paired
  paired_uses (one_paired {r = r} {q = q} {x = x} h) = paired_append (paired_used r q (instr_uses x)) (paired_uses h)

  pub alike-body : (Γ : Scope I) (locals : Namespace I) {xs ys : Body I} → Paired xs ys → (blocks : Namespace I) → Alike (body Γ locals blocks xs) (body Γ locals blocks ys)
  unfolding body
  alike-body Γ locals none_paired blocks = same _
  alike-body Γ locals (one_paired {r = r} {q = q} {x = x} h) blocks =
      alike_then (alike-instr Γ r q locals blocks x) λ o. alike_then (alike-body Γ locals h (blocks_after blocks x)) λ os. same _
