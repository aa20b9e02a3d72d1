-- Demand 3: two streams that differ only in identifiers, equal in the one where they are equal in the other, are assembled to the same answer.
use mathlib.Core.Path.{◌≡◌, ap, ◌∙◌, sym}
use Prim.Native.Nat.{ℕ, zero, suc, ◌≤◌}
use mathlib.Core.Bool.{Bool, true, false}
use mathlib.Core.List.{List, [], ◌∷◌, map, Memᴰ}
use mathlib.Core.Option.{some}
use lib.Dec.{lit≤}
use lib.ListN.{length, length-map}
use lib.Seq.{take-append_seam}
use borrow.Author.Tests.{le-ltb}
use Rattle.definition.specs.Assemble.{longest_stream, least_work}
use Rattle.definition.specs.Basic.{at, same_bytes}
use Rattle.definition.specs.Syntax.{Bytes, Identifier, Rec}
use Rattle.definition.specs.Assemble.{resolved, module_in, say_read, assemble_by, assemble, output_after, outcome, call_by, call, call_strict}
use Rattle.renaming.specs.Shape.{shape, map_rec}
use Rattle.renaming.specs.Kinds.{Kind, names}
use Rattle.renaming.specs.Renamed.{Alike, Renamed, SaysTheSame}
use Rattle.renaming.proofs.Examples.{first, second, renamed}
use Rattle.laws.proofs.Equal.{same-eq, eq-same, both_ways}
use Rattle.renaming.proofs.Whole.{resolved-same}
use Rattle.renaming.proofs.Listed.{names-map}
use Rattle.renaming.proofs.Places.{places, naming, named_back}

-- ## Places

module _ {A : Type 0} where
  mem-at : {x : A} {l : List A} → Memᴰ x l → (i : ℕ) × (at l i ≡ some x)
  unfolding at
  mem-at (Memᴰ.head e) = (0, ap some (sym e))
  mem-at (Memᴰ.tail m) = let h = mem-at m in (suc h.0, h.1)

  at_map : {B : Type 0} (f : A → B) (l : List A) (i : ℕ) {x : A} → at l i ≡ some x → at (map f l) i ≡ some (f x)
  unfolding at
  at_map f [] i e = cc
  at_map f (x ∷ l) zero e = cc
  at_map f (x ∷ l) (suc i) e = at_map f l i e

-- ## Demand 3 on the records that are read

module _ (xs ys : List (Rec Identifier)) (same_shape : shape xs ≡ shape ys) (alike : Alike (names xs) (names ys)) where
  abbrev zs : List (Rec ℕ)
  zs = places (shape xs)

  back_first : map (map_rec (naming [] xs)) zs ≡ xs
  back_first = named_back [] xs

  back_second : map (map_rec (naming [] ys)) zs ≡ ys
  back_second = rw same_shape (named_back [] ys)

  -- a place that is a name of the kind
  abbrev Of : Kind → ℕ → Type 0
  Of k p = (i : ℕ) × (at (names zs) i ≡ some (k, p))

  in_place : (f : ℕ → Identifier) (rs : List (Rec Identifier)) → map (map_rec f) zs ≡ rs → (k : Kind) (p : ℕ) (h : Of k p)
      → at (names rs) h.0 ≡ some (k, f p)
  in_place f rs e k p h = rw (← e, names-map f zs) (at_map (λ x. (x.0, f x.1)) (names zs) h.0 h.1)

  equal_at_once : (k : Kind) (p q : ℕ) → Of k p → Of k q
      → same_bytes (naming [] xs p) (naming [] xs q) ≡ same_bytes (naming [] ys p) (naming [] ys q)
  equal_at_once k p q h w =
      let f = naming [] xs in
      let g = naming [] ys in
      let in-first = in_place f xs back_first k in
      let in-second = in_place g ys back_second k in
      let e = alike.equal_at_once k h.0 w.0 (f p) (f q) (g p) (g q) (in-first p h) (in-first q w) (in-second p h) (in-second q w) in
      both_ways _ _ (λ t. eq-same (g p) (g q) (e.0 (same-eq (f p) (f q) t))) (λ t. eq-same (f p) (f q) (e.1 (same-eq (g p) (g q) t)))

  pub same-items : (strict : Bool) → resolved strict same_bytes xs ≡ resolved strict same_bytes ys
  same-items strict =
      ap (resolved strict same_bytes) (sym back_first)
      ∙ resolved-same same_bytes (naming [] xs) (naming [] ys) Of equal_at_once strict zs (record { holds = λ k p m. mem-at m })
      ∙ ap (resolved strict same_bytes) back_second

  pub same_length : length xs ≡ length ys
  unfolding shape
  same_length = simp length-map at (ap length same_shape)

  same_module : (strict : Bool) (room : ℕ) → module_in strict same_bytes room xs ≡ module_in strict same_bytes room ys
  unfolding module_in
  same_module strict room = rw (same-items strict, same_length)

-- ## Demand 3 on streams, and on calls: the plain one and the strict one

module _ (strict : Bool) where
  demand_3_by : (s t : Bytes) (work room : ℕ) → least_work ≤ work → Renamed s t
      → assemble_by (module_in strict same_bytes) s work room ≡ assemble_by (module_in strict same_bytes) t work room
  unfolding assemble_by say_read
  demand_3_by s t work room enough d =
      let l = same_length d.first d.second d.same_shape d.alike in
      let m = same_module d.first d.second d.same_shape d.alike strict room in
      rw (le-ltb longest_stream (length s) d.short, le-ltb longest_stream (length t) d.short', le-ltb work least_work enough, d.reads, d.reads', l, m)

  -- a work area that is large enough may be any
  any-work : (s : Bytes) (work work' room : ℕ) → least_work ≤ work → least_work ≤ work'
      → assemble_by (module_in strict same_bytes) s work room ≡ assemble_by (module_in strict same_bytes) s work' room
  unfolding assemble_by
  any-work s work work' room h h' = rw (le-ltb work least_work h, le-ltb work' least_work h')

  pub same-said : (s t : Bytes) (work work' room room' : ℕ) → least_work ≤ work → least_work ≤ work' → room ≡ room' → Renamed s t
      → assemble_by (module_in strict same_bytes) s work room ≡ assemble_by (module_in strict same_bytes) t work' room'
  same-said s t work work' room room' h h' e d = rw e (any-work s work work' room' h h' ∙ demand_3_by s t work' room' h' d)

  pub demand_3_call_by : (s t : Bytes) (work work' : List ℕ) (output output' : Bytes)
      → least_work ≤ length work → least_work ≤ length work' → length output ≡ length output' → Renamed s t
      → SaysTheSame (call_by (module_in strict same_bytes) s work output) (call_by (module_in strict same_bytes) t work' output')
  unfolding call_by outcome output_after
  demand_3_call_by s t work work' output output' h h' e d =
      let a = same-said s t (length work) (length work') (length output) (length output') h h' e d in
      record {
        number = ap (λ x. x.number) a;
        rec = ap (λ x. x.rec) a;
        first = ap (λ x. x.first) a;
        written = ap (λ x. length x.bytes) a;
        bytes = take-append_seam _ _ ∙ ap (λ x. x.bytes) a ∙ sym (take-append_seam _ _);
      }

pub demand_3 : (s t : Bytes) (work room : ℕ) → least_work ≤ work → Renamed s t → assemble s work room ≡ assemble t work room
unfolding assemble
demand_3 = demand_3_by false

pub demand_3_call : (s t : Bytes) (work work' : List ℕ) (output output' : Bytes)
    → least_work ≤ length work → least_work ≤ length work' → length output ≡ length output' → Renamed s t
    → SaysTheSame (call s work output) (call t work' output')
unfolding call
demand_3_call = demand_3_call_by false

pub demand_3_strict : (s t : Bytes) (work work' : List ℕ) (output output' : Bytes)
    → least_work ≤ length work → least_work ≤ length work' → length output ≡ length output' → Renamed s t
    → SaysTheSame (call_strict s work output) (call_strict t work' output')
unfolding call_strict
demand_3_strict = demand_3_call_by true

-- two streams of the examples
pub same_answer : assemble first least_work 65536 ≡ assemble second least_work 65536
same_answer = demand_3 first second least_work 65536 (lit≤ tt) renamed
