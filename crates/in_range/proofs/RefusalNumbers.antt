-- No refusal has the number 0: of answers, of reading, and of the passes before resolution.
use Rattle.std.specs.Prelude.{if◌then◌else◌}
use mathlib.Core.Path.{◌≡◌, refl, ap}
use Prim.Native.Nat.{ℕ, zero, suc, ◌+◌, ◌<◌}
use mathlib.Core.Bool.{Bool, true, false}
use mathlib.Core.List.{List, [], ◌∷◌, ◌++◌}
use mathlib.Core.Option.{Option, none, some}
use lib.Dec.{ltb, leb}
use lib.ListN.{length}
use borrow.Author.Tests.{ltb-true}
use native.Mathlib.Omega.{arith}
use Rattle.definition.specs.Basic.{Refusal, Answer, ok, fails, ◌>>=◌, each}
use Rattle.definition.specs.Syntax.{Bytes, Space, FuncType}
use Rattle.definition.specs.Syntax.{type_f, import_f, own_f, export_f, start_f, elem_f, data_f}
use Rattle.definition.specs.Reader.{Step, got, fault}
use Rattle.definition.specs.Instructions.{Inside}
use Rattle.definition.specs.Read.{Seen, seen_after, nothing_seen, at_end, before, with_record, begins_in, one_record, records, read}
use Rattle.definition.specs.Deinline.{Numbered, imports_from}
use Rattle.definition.specs.Types.{take_or_add, type_at, intern, Uses}
use Rattle.definition.specs.Names.{Items, holder, unheld, register_one, register, item_of}
use Rattle.in_range.proofs.FaultNumbers.{NotZero, record_faults}

-- ## Answers

pub record Positive {A : Type 0} (a : Answer A) : Type 0 where
  pub number : (q : Refusal) → a ≡ fails q → 0 < q.number

module _ {A : Type 0} where
  pub by_ok : (x : A) → Positive (ok x)
  by_ok x = record { number = λ q e. let z : ◌≡◌ {A = ℕ} 0 1 = cc in absurd (omega arith) }

  pub by_fails : (q : Refusal) → ltb 0 q.number ≡ true → Positive {A = A} (fails q)
  by_fails q h = record { number = λ p e. let z : q ≡ p = cc in rw (← z) (ltb-true 0 q.number h) }

  pub by_either : (t : Bool) (a b : Answer A) → Positive a → Positive b → Positive (if t then a else b)
  by_either true a b f g = f
  by_either false a b f g = g

pub by_next : {A B : Type 0} (m : Answer A) (k : A → Answer B) → Positive m → ((a : A) → Positive (k a)) → Positive (m >>= k)
unfolding ◌>>=◌
by_next (ok a) k f g = g a
by_next (fails q) k f g = record { number = λ p e. let z : q ≡ p = cc in rw (← z) (f.number q refl) }

pub ruleset answers = (refl, by_ok, by_fails, by_either, by_next)

pub by_each : {A B : Type 0} (f : A → Answer B) → ((x : A) → Positive (f x)) → (xs : List A) → Positive (each f xs)
unfolding each
by_each f h [] = search answers
by_each f h (x ∷ xs) = by_next (f x) _ (h x) λ y. by_next (each f xs) _ (by_each f h xs) λ ys. by_ok _

-- ## Reading

by_end : (r : ℕ) (body : Option Inside) → Positive (at_end r body)
by_end r none = search answers
by_end r (some i) = search answers

by_before : {A : Type 0} (x : A) (a : Answer (List A)) → Positive a → Positive (before x a)
by_before x (ok xs) h = search answers
by_before x (fails q) h = record { number = λ p e. let z : q ≡ p = cc in rw (← z) (h.number q refl) }

by_with : {A B : Type 0} (r : ℕ) (k : A → ℕ → Answer B) (st : Step A) → NotZero st → ((x : A) (n : ℕ) → Positive (k x n)) → Positive (with_record r k st)
by_with r k (got x n) f g = g x n
by_with r k (fault n) f g = record { number = λ q e. let z : n ≡ q.number = ap (λ a. number_of a) e in rw (← z) (f.number n refl) }
  where
    number_of : {C : Type 0} → Answer C → ℕ
    number_of (ok c) = 0
    number_of (fails q) = q.number

by_records : (left r : ℕ) (seen : Seen) (s : Bytes) (here : ℕ) → Positive (records left r seen s here)
unfolding records
by_records zero r seen s here = by_either (leb (length s) here) _ _ (by_end r seen.body) (by_fails _ (full (begins_in _ seen.body)))
  where
    full : (t : Bool) → ltb 0 (if t then 7 else 4) ≡ true
    full true = refl
    full false = refl
by_records (suc left) r seen s here =
    by_either (leb (length s) here) _ _ (by_end r seen.body)
    (by_with r _ (one_record seen s here) (record_faults seen s here) (λ x n. by_before x _ (by_records left (r + 1) (seen_after seen x) s n)))

pub read_refusals : (s : Bytes) → Positive (read s)
unfolding read
read_refusals s = by_records 4096 0 nothing_seen s 0

-- ## The passes over fields

module _ {I : Type 0} where
  pub by_imports : (late : Bool) (fs : Numbered I) → Positive (imports_from late fs)
  unfolding imports_from
  by_imports late [] = search answers
  by_imports late ((r, import_f n i d) ∷ fs) = by_either late _ _ (by_fails _ refl) (by_imports late fs)
  by_imports late ((r, own_f i o b) ∷ fs) = by_imports true fs
  by_imports late ((r, type_f i t) ∷ fs) = by_imports late fs
  by_imports late ((r, export_f n k x) ∷ fs) = by_imports late fs
  by_imports late ((r, start_f x) ∷ fs) = by_imports late fs
  by_imports late ((r, elem_f i m xs) ∷ fs) = by_imports late fs
  by_imports late ((r, data_f i m d) ∷ fs) = by_imports late fs

by_take : (r : ℕ) (t : FuncType) (ts : List FuncType) (o : Option ℕ) → Positive (take_or_add r t ts o)
by_take r t ts none = search answers
by_take r t ts (some n) = search answers

pub by_intern : (ts : List FuncType) (us : Uses) → Positive (intern ts us)
unfolding intern
by_intern ts [] = search answers
by_intern ts ((r, t) ∷ us) = by_next _ _ (by_take r t ts (type_at t ts)) λ all. by_intern all us

module _ {I : Type 0} (eq : I → I → Bool) where
  by_one : (r : ℕ) (xs : Items I) (o : Option (Space × Option I)) → Positive (register_one eq r xs o)
  by_one r xs none = search answers
  by_one r xs (some (k, i)) = go (holder eq i _ _)
    where
      go : (o : Option ℕ) → Positive (unheld r o (xs ++ ((r, k, i) ∷ [])))
      go none = search answers
      go (some q) = search answers

  pub by_register : (xs : Items I) (fs : Numbered I) → Positive (register eq xs fs)
  unfolding register
  by_register xs [] = search answers
  by_register xs ((r, f) ∷ fs) = by_next _ _ (by_one r xs (item_of f)) λ ys. by_register ys fs
