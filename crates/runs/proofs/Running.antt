-- Runs of equal locals. The definition joins them from the right; the loops go from the left, with a run that is pending.
use Rattle.std.specs.Prelude.{Ok, Err, Option, Some, None}
use Rattle.syntax.specs.Reads.{Read}
use Rattle.std.specs.Prelude.{if◌then◌else◌}
use Prim.Native.Nat.{ℕ, zero, suc, ◌+◌, ◌-◌, ◌≤◌, ◌<◌}
use mathlib.Core.Path.{◌≡◌, refl, sym, ◌∙◌, ap}
use mathlib.Core.Bool.{Bool, true, false}
use mathlib.Core.List.{[], ◌∷◌}
use lib.Dec.{eqb}
use lib.ListN.{length}
use native.Mathlib.Omega.{arith}
use borrow.Author.Tests.{eqb-true, eq-eqb, ne_eqb}
use Rattle.definition.specs.Basic.{concat_map}
use Rattle.definition.specs.Syntax.{Bytes, ValType}
use Rattle.definition.specs.Reader.{many}
use Rattle.definition.specs.Token.{param}
use Rattle.definition.specs.Binary.{Runs, join, runs, run}
use Rattle.emit.specs.Put.{Put}
use Rattle.laws.specs.Steps.{stops}
use Rattle.token.specs.Known.{Gets}
use Rattle.syntax.specs.TypeUses.{local_at, elements}
use Rattle.syntax.specs.declared.Fault.{Fault}
use Rattle.syntax.specs.declared.Local.{Local}
use Rattle.typeuse.proofs.Gets.{know_begin, know_local, know_again}
use Rattle.binary.proofs.Putting.{Putting, putting_more, putting_done}
use Rattle.runs.specs.Locals.{local_types, RunIs, FirstRun, RunAtIs}
use Rattle.runs.specs.declared.Run.{Run}

-- ## A run that is pending

-- so many of a type, before some runs
unfoldable pub pending : ℕ → ValType → Runs → Runs
pending n t [] = (n, t) ∷ []
pending n t ((m, x) ∷ rs) = if eqb t x then (m + n, x) ∷ rs else (n, t) ∷ (m, x) ∷ rs

pending_one : (t : ValType) (rs : Runs) → pending 1 t rs ≡ join t rs
unfolding pending
pending_one t [] = refl
pending_one t ((m, x) ∷ rs) = refl

-- one more of its type
pending_more : (n : ℕ) (t : ValType) (rs : Runs) → pending n t (join t rs) ≡ pending (n + 1) t rs
unfolding pending
pending_more n t [] = let c : 1 + n ≡ n + 1 = omega arith in rw (eq-eqb t t refl, c)
pending_more n t ((m, x) ∷ rs) = go (eqb t x) refl
  where
    go : (b : Bool) → eqb t x ≡ b → pending n t (if b then (m + 1, x) ∷ rs else (1, t) ∷ (m, x) ∷ rs) ≡ (if b then (m + (n + 1), x) ∷ rs else (n + 1, t) ∷ (m, x) ∷ rs)
    go true e = let c : m + 1 + n ≡ m + (n + 1) = omega arith in rw (e, c)
    go false e = let c : 1 + n ≡ n + 1 = omega arith in rw (eq-eqb t t refl, c)

-- another type ends it
pending_ends : (n : ℕ) (t x : ValType) (rs : Runs) → (x ≡ t → ⊥) → pending n t (join x rs) ≡ (n, t) ∷ join x rs
unfolding pending
pending_ends n t x [] h = rw (ne_eqb t x (λ e. h (sym e)))
pending_ends n t x ((m, y) ∷ rs) h = go (eqb x y) refl
  where
    go : (b : Bool) → eqb x y ≡ b → pending n t (if b then (m + 1, y) ∷ rs else (1, x) ∷ (m, y) ∷ rs) ≡ (n, t) ∷ (if b then (m + 1, y) ∷ rs else (1, x) ∷ (m, y) ∷ rs)
    go true e = rw (ne_eqb t y (λ d. h (eqb-true x y e ∙ sym d)))
    go false e = rw (ne_eqb t x (λ d. h (sym d)))

-- ## The locals here

types-none : (s : Bytes) (at n : ℕ) → n ≡ 0 → local_types s at n ≡ []
unfolding elements
types-none s at n e = rw e

module _ (s : Bytes) (at n : ℕ) (q : Read Local) (told : param s at ≡ local_at s q) where
  -- one, and the others
  types_cons : (l : Local) (next : ℕ) → 0 < n → q ≡ Ok (l, next) → local_types s at n ≡ l.value ∷ local_types s next (n - 1)
  unfolding elements
  types_cons l next h d = go n h
    where
      go : (k : ℕ) → 0 < k → local_types s at k ≡ l.value ∷ local_types s next (k - 1)
      go zero h = absurd (omega arith)
      go (suc k) h = let e : suc k - 1 ≡ k = omega arith in rw (e, told, d)

  -- none where none is read
  types-fault : (k : Fault) → q ≡ Err k → local_types s at n ≡ []
  unfolding elements
  types-fault k d = go n
    where
      go : (m : ℕ) → local_types s at m ≡ []
      go zero = refl
      go (suc m) = rw (told, d)

-- of locals that can be read, the first
pub first-readable : (s : Bytes) (at n : ℕ) → Gets (many n param s at) → 0 < n → Gets (param s at)
first-readable s at n g h = know_local n s at n at (know_begin param n s at g) h

-- and those after it
pub rest-readable : (s : Bytes) (at n : ℕ) → Gets (many n param s at) → (q : Read Local) → param s at ≡ local_at s q → (l : Local) (next : ℕ) → 0 < n → q ≡ Ok (l, next)
    → Gets (many (n - 1) param s next)
rest-readable s at n g q told l next h d = (know_again n s at n at param (know_begin param n s at g) h next (ap stops (told ∙ ap (local_at s) d))).gets

-- ## `run_from`

-- after `i` of the locals: `i + 1` of the type are counted, and the other locals can be read
pub record Running (s : Bytes) (at count value i here : ℕ) : Type 0 where
  pub some : i ≤ count
  pub same : runs (value ∷ local_types s at count) ≡ pending (i + 1) value (runs (local_types s here (count - i)))
  pub readable : Gets (many (count - i) param s here)

pub run-begin : (s : Bytes) (at count value : ℕ) → Gets (many count param s at) → Running s at count value 0 at
unfolding runs
run-begin s at count value g = (let m : count - 0 ≡ count = omega arith in
    record { some = omega arith; same = rw m (sym (pending_one value (runs (local_types s at count)))); readable = rw m g })

module _ {s : Bytes} {at count value i here : ℕ} (v : Running s at count value i here) where
  abbrev Ended : Type 0
  Ended = RunIs s at count value (record { count = i + 1; value = value; next = here; left = count - i })

  -- the next local can be read
  pub run-readable : i < count → Gets (param s here)
  run-readable h = first-readable s here (count - i) v.readable (omega (arith, h))

  -- no local is left
  pub run-done : count ≤ i → RunIs s at count value (record { count = count + 1; value = value; next = here; left = 0 })
  unfolding runs pending
  run-done h = (let k : i ≡ count = omega (arith, v.some, h) in let m : count - count ≡ 0 = omega arith in let e : local_types s here (count - i) ≡ [] = types-none s here (count - i) (omega (arith, h)) in
      record { first = v.same ∙ rw (e, k, types-none s here 0 refl); fewer = omega arith; readable = rw (k, m) at v.readable })

  module _ (q : Read Local) (told : param s here ≡ local_at s q) where
    pub run-fault : (k : Fault) → q ≡ Err k → Ended
    unfolding runs pending
    run-fault k d = (let e : local_types s here (count - i) ≡ [] = types-fault s here (count - i) q told k d in
        record { first = v.same ∙ rw e; fewer = omega arith; readable = v.readable })

    module _ (l : Local) (next : ℕ) (h : i < count) (d : q ≡ Ok (l, next)) where
      others : local_types s here (count - i) ≡ l.value ∷ local_types s next (count - (i + 1))
      others = let m : count - (i + 1) ≡ count - i - 1 = omega arith in rw m (types_cons s here (count - i) q told l next (omega (arith, h)) d)

      -- a local of another type
      pub run-other : (l.value ≡ value → ⊥) → Ended
      unfolding runs
      run-other g = record { first = v.same ∙ rw others (pending_ends (i + 1) value l.value (runs (local_types s next (count - (i + 1)))) g); fewer = omega arith; readable = v.readable }

      -- one more of the same
      pub run_again : l.value ≡ value → Running s at count value (i + 1) next
      unfolding runs
      run_again g = (let m : count - (i + 1) ≡ count - i - 1 = omega arith in
          record { some = omega (arith, h); same = v.same ∙ rw (others, g) (pending_more (i + 1) value (runs (local_types s next (count - (i + 1))))); readable = rw m (rest-readable s here (count - i) v.readable q told l next (omega (arith, h)) d) })

-- ## `run_at`

pub no_locals_lem : (s : Bytes) (at count : ℕ) → count ≡ 0 → RunAtIs s at count None
unfolding RunAtIs runs
no_locals_lem s at count e = ap runs (types-none s at count e)

-- the locals here can be read: so the first of them
pub run-one : (s : Bytes) (at count : ℕ) → (count ≡ 0 → ⊥) → Gets (many count param s at) → Gets (param s at)
run-one s at count h g = first-readable s at count g (omega arith)

module _ (s : Bytes) (at count : ℕ) (q : Read Local) (told : param s at ≡ local_at s q) where
  pub no_local : (k : Fault) → q ≡ Err k → RunAtIs s at count None
  unfolding RunAtIs runs
  no_local k d = ap runs (types-fault s at count q told k d)

  -- and the others
  pub run-after : (l : Local) (next : ℕ) → (count ≡ 0 → ⊥) → q ≡ Ok (l, next) → Gets (many count param s at) → Gets (many (count - 1) param s next)
  run-after l next h d g = rest-readable s at count g q told l next (omega arith) d

  pub first_run : (l : Local) (next : ℕ) (r : Run) → (count ≡ 0 → ⊥) → q ≡ Ok (l, next) → RunIs s next (count - 1) l.value r → RunAtIs s at count (Some r)
  unfolding RunAtIs
  first_run l next r h d v = record { first = ap runs (types_cons s at count q told l next (omega arith) d) ∙ v.first; fewer = omega (arith, v.fewer); readable = v.readable }

pub ruleset run-ats = (no_locals_lem, no_local, first_run)

-- fewer locals are left
run-fewer : (s : Bytes) (at count : ℕ) (q : Option Run) (r : Run) → RunAtIs s at count q → q ≡ Some r → r.left < count
unfolding RunAtIs
run-fewer s at count q r w d = (let v : FirstRun s at count r = rw d at w in v.fewer)

-- what is left can be read
run-left : (s : Bytes) (at count : ℕ) (q : Option Run) (r : Run) → RunAtIs s at count q → q ≡ Some r → Gets (many r.left param s r.next)
unfolding RunAtIs
run-left s at count q r w d = (let v : FirstRun s at count r = rw d at w in v.readable)

run-first : (s : Bytes) (at count : ℕ) (q : Option Run) (r : Run) → RunAtIs s at count q → q ≡ Some r → runs (local_types s at count) ≡ (r.count, r.value) ∷ runs (local_types s r.next r.left)
unfolding RunAtIs
run-first s at count q r w d = (let v : FirstRun s at count r = rw d at w in v.first)

run-nothing : (s : Bytes) (at count : ℕ) (q : Option Run) → RunAtIs s at count q → q ≡ None → runs (local_types s at count) ≡ []
unfolding RunAtIs
run-nothing s at count q w d = rw d at w

runs_none : (s : Bytes) (at n : ℕ) → n ≤ 0 → runs (local_types s at n) ≡ []
unfolding runs
runs_none s at n h = ap runs (types-none s at n (omega arith))

-- ## `count_runs`

-- n runs are counted, and those of the locals that are left are not; they can be read
pub record Counting (s : Bytes) (at count n here left : ℕ) : Type 0 where
  pub few : n + left ≤ count
  pub same : length (runs (local_types s at count)) ≡ n + length (runs (local_types s here left))
  pub readable : Gets (many left param s here)

pub count-begin : (s : Bytes) (at count : ℕ) → Gets (many count param s at) → Counting s at count 0 at count
count-begin s at count g = record { few = omega arith; same = omega arith; readable = g }

module _ {s : Bytes} {at count n here left : ℕ} (v : Counting s at count n here left) where
  pub count_again : (q : Option Run) (r : Run) → RunAtIs s here left q → q ≡ Some r → Counting s at count (n + 1) r.next r.left
  count_again q r w d = record {
    few = omega (arith, v.few, run-fewer s here left q r w d);
    same = v.same ∙ (let e : runs (local_types s here left) ≡ (r.count, r.value) ∷ runs (local_types s r.next r.left) = run-first s here left q r w d in rw e (omega arith));
    readable = run-left s here left q r w d;
  }

  pub count-readable : Gets (many left param s here)
  count-readable = v.readable

  pub count-few : n ≤ count
  count-few = omega (arith, v.few)

  pub count-nothing : (q : Option Run) → RunAtIs s here left q → q ≡ None → n ≡ length (runs (local_types s at count))
  count-nothing q w d = (let e : runs (local_types s here left) ≡ [] = run-nothing s here left q w d in omega (arith, rw e at v.same))

  -- as many runs as locals
  pub count-done : count ≤ n → count ≡ length (runs (local_types s at count))
  count-done h = (let e : runs (local_types s here left) ≡ [] = runs_none s here left (omega (arith, v.few, h)) in omega (arith, v.few, h, rw e at v.same))

-- ## `put_each_run`

-- some runs are put, and those of the locals that are left are not
module _ (s : Bytes) (here left : ℕ) {old : Bytes} {place : ℕ} {all : Bytes} {o : ℕ} {out : Bytes} (v : Putting old place all (concat_map run (runs (local_types s here left))) o out) where
  pub put_again_lem : (q : Option Run) (r : Run) (p : ℕ) (new : Bytes) → RunAtIs s here left q → q ≡ Some r → Put out o (run (r.count, r.value)) p new → Putting old place all (concat_map run (runs (local_types s r.next r.left))) p new
  unfolding concat_map
  put_again_lem q r p new w d x = putting_more v (run (r.count, r.value)) (concat_map run (runs (local_types s r.next r.left))) p new (ap (λ z. concat_map run z) (run-first s here left q r w d)) x

  none_to_put : runs (local_types s here left) ≡ [] → Put old place all o out
  unfolding concat_map
  none_to_put e = putting_done v (ap (λ z. concat_map run z) e)

  pub put-nothing : (q : Option Run) → RunAtIs s here left q → q ≡ None → Put old place all o out
  put-nothing q w d = none_to_put (run-nothing s here left q w d)

  pub put-done : {at count n : ℕ} → Counting s at count n here left → count ≤ n → Put old place all o out
  put-done c h = none_to_put (runs_none s here left (omega (arith, c.few, h)))
