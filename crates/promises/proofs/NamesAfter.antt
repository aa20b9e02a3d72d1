-- The call with names writes the module of the call without them, and after it the name section.
use Rattle.std.specs.Prelude.{if◌then◌else◌}
use Prim.Native.Nat.{ℕ, ◌≤◌, ◌<◌}
use mathlib.Core.Path.{◌≡◌, refl, ap}
use mathlib.Core.Bool.{Bool, true, false}
use mathlib.Core.List.{List, ◌++◌}
use lib.Dec.{leb, ltb}
use lib.ListN.{length, take, length-append, length-take}
use lib.Seq.{take-append_seam}
use borrow.Author.Tests.{le-ltb, le-leb, leb-true}
use native.Mathlib.Omega.{arith}
use Rattle.definition.specs.Assemble.{longest_stream, least_work}
use Rattle.definition.specs.Basic.{refusal, Answer, ok, fails, refused, ◌>>=◌, same_bytes}
use Rattle.definition.specs.Syntax.{Bytes, Identifier, Rec, Item}
use Rattle.definition.specs.Read.{read}
use Rattle.definition.specs.Deinline.{Numbered, deinline}
use Rattle.definition.specs.Names.{Scope}
use Rattle.definition.specs.Binary.{module'}
use Rattle.definition.specs.NameSection.{name_section}
use Rattle.definition.specs.Assemble as Assemble
use Rattle.definition.specs.Assemble.{scope, items_in, items, resolved, fitting, module_in, named_module_in, refusing, say, say_read, assemble_by, output_after, outcome, call_by, call, call_names}
use Rattle.renaming.specs.Renamed.{names_by, names_of}
use Rattle.assembler.specs.Run.{outcome_of, Assembles, AssemblesNames}
use Rattle.assembler.specs.Export.{lent, Exports, ExportsNames}
use Rattle.writers.specs.declared.Said.{Said}
use Rattle.promises.specs.Promise.{outcome_in, section_of, NamesAfter}
use Rattle.promises.proofs.Exported.{export_says, call-within, names-within, after-beyond}

-- ## By the definition

-- what is said with names, and without them
record Follows (room : ℕ) (section : Bytes) (a b : Assemble.Said) : Type 0 where
  number : a.number ≡ 0
  number' : b.number ≡ 0
  rec : a.rec ≡ b.rec
  first : a.first ≡ b.first
  bytes : a.bytes ≡ b.bytes ++ section
  within : length a.bytes ≤ room

-- a refusal writes nothing; what fits with its names fits without them
module _ (count room room' : ℕ) where
  abbrev Next : Bytes → Assemble.Said → Assemble.Said → Type 0
  Next section a b = 0 < length a.bytes → length a.bytes ≤ room' → Follows room section a b

  with_module : (m section : Bytes) → Next section (say count (fitting room count (m ++ section))) (say count (fitting room' count m))
  unfolding say fitting
  with_module m section = go (leb (length (m ++ section)) room) refl
    where
      go : (t : Bool) → leb (length (m ++ section)) room ≡ t
          → Next section (say count (if t then ok (m ++ section) else refused 18 count)) (say count (if leb (length m) room' then ok m else refused 18 count))
      go false q p h = absurd (omega arith)
      go true q p h =
          let g : length m ≤ room' = omega (arith, length-append m section) in
          rw (le-leb (length m) room' g) (record { number = refl; number' = refl; rec = refl; first = refl; bytes = refl; within = leb-true _ _ q })

  with_items : (section : Bytes) (a : Answer (List Item))
      → Next section (say count (a >>= λ is. fitting room count (module' is ++ section))) (say count (a >>= λ is. fitting room' count (module' is)))
  unfolding say ◌>>=◌
  with_items section (fails q) p h = absurd (omega arith)
  with_items section (ok is) p h = with_module (module' is) section p h

  with_scope : (fs : Numbered Identifier) (a : Answer (Scope Identifier))
      → Next (names_by fs a) (say count (a >>= λ Γ. items_in Γ fs >>= λ is. fitting room count (module' is ++ name_section Γ fs)))
      (say count ((a >>= λ Γ. items_in Γ fs) >>= λ is. fitting room' count (module' is)))
  unfolding say ◌>>=◌
  with_scope fs (fails q) p h = absurd (omega arith)
  with_scope fs (ok Γ) p h = with_items (name_section Γ fs) (items_in Γ fs) p h

module _ (s : Bytes) (work room : ℕ) where
  abbrev named : Assemble.Said
  named = assemble_by (named_module_in false) s work room

  said-after : (work' room' : ℕ) → least_work ≤ work' → 0 < length named.bytes → length named.bytes ≤ room'
      → Follows room (section_of (read s)) named (assemble_by (module_in false same_bytes) s work' room')
  unfolding assemble_by say_read named_module_in module_in resolved items names_of
  said-after work' room' h' p h = rw (le-ltb work' least_work h') (go (ltb longest_stream (length s)) (ltb work least_work) (read s) p h)
    where
      go : (x y : Bool) (c : Answer (List (Rec Identifier)))
          → 0 < length (if x then refusing (refusal 1 0) else if y then refusing (refusal 10 0) else say_read (named_module_in false) room c).bytes
          → length (if x then refusing (refusal 1 0) else if y then refusing (refusal 10 0) else say_read (named_module_in false) room c).bytes ≤ room'
          → Follows room (section_of c) (if x then refusing (refusal 1 0) else if y then refusing (refusal 10 0) else say_read (named_module_in false) room c)
          (if x then refusing (refusal 1 0) else say_read (module_in false same_bytes) room' c)
      go true y c p h = absurd (omega arith)
      go false true c p h = absurd (omega arith)
      go false false (fails q) p h = absurd (omega arith)
      go false false (ok rs) p h = with_scope (length rs) room room' (deinline rs) (scope false same_bytes (deinline rs)) p h

module _ (s : Bytes) (work work' : List ℕ) (h' : least_work ≤ length work') (old old' : Bytes) (p : 0 < (call_names s work old).written) where
  written-fits : (call_names s work old).written ≤ length old
  unfolding call_names call_by outcome
  written-fits =
      let n = length (assemble_by (named_module_in false) s (length work) (length old)).bytes in
      (said-after s (length work) (length old) (length work') n h' p (omega arith)).within

  call-after : (call_names s work old).written ≤ length old' → NamesAfter (section_of (read s)) (call_names s work old) (call s work' old')
  unfolding call_names call call_by outcome output_after
  call-after h =
      let x = said-after s (length work) (length old) (length work') (length old') h' p h in
      record {
        number = x.number;
        number' = x.number';
        rec = x.rec;
        first = x.first;
        bytes = simp take-append_seam x.bytes;
      }

-- ## The calls: where that with names has written a module, and the other has as much room

module _ (s : Bytes) (work work' : List ℕ) (h' : least_work ≤ length work') (old old' : Bytes) where
  pub names-after-assemble : (r r' : Said) (out out' w w' : List ℕ) → AssemblesNames s work old r out w → Assembles s work' old' r' out' w'
      → 0 < r.len → r.len ≤ length old' → NamesAfter (section_of (read s)) (outcome_of r out w) (outcome_of r' out' w')
  names-after-assemble r r' out out' w w' k k' p h =
      let e : r.len ≡ (call_names s work old).written = ap (λ o. o.written) k in
      rw (k, k') (call-after s work work' h' old old' (omega arith) (omega arith))

  pub names-after_export : (r r' : ℕ) (a a' out out' w w' : List ℕ) → ExportsNames s work old r a out w → Exports s work' old' r' a' out' w'
      → 0 < (outcome_in r a out w).written → (outcome_in r a out w).written ≤ length old'
      → NamesAfter (section_of (read s)) (outcome_in r a out w) (outcome_in r' a' out' w')
  names-after_export r r' a a' out out' w w' k k' p h =
      let x = export_says call_names s work old r a out w k in
      let e : (outcome_in r a out w).written ≡ (call_names s work (take (lent old) old)).written = ap (λ o. o.written) x in
      let q : 0 < (call_names s work (take (lent old) old)).written = omega arith in
      let g = written-fits s work work' h' (take (lent old) old) old' q in
      rw (x, export_says call s work' old' r' a' out' w' k')
      (after-beyond _ _ (names-within s work _) (call-within s work' _) _ _ _
      (call-after s work work' h' (take (lent old) old) (take (lent old') old') q (omega (arith, g, length-take (lent old) old, length-take (lent old') old'))))
