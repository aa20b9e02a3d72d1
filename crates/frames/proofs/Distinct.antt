-- The locals of a function: no identifier comes twice among the parameters and the locals, and nameless places change nothing of that.
use Rattle.std.specs.Prelude.{Ok, Err}
use Rattle.syntax.specs.Refusals.{Resolved}
use Prim.Native.Nat.{ℕ, zero, suc, ◌+◌, ◌≤◌}
use mathlib.Core.Path.{◌≡◌, refl, ◌∙◌}
use mathlib.Core.Bool.{Bool, true, false, ◌&&◌, not}
use mathlib.Core.List.{List, [], ◌∷◌, ◌++◌, append_assoc, append-nil}
use mathlib.Core.Option.{Option, none, some}
use lib.ListN.{length, replicate}
use native.Mathlib.Omega.{arith}
use Rattle.definition.specs.Basic.{ok, same_bytes, first_at, later, is_some, at}
use Rattle.definition.specs.Syntax.{Identifier}
use Rattle.definition.specs.Token.{param}
use Rattle.definition.specs.Types.{is_inline}
use Rattle.definition.specs.Names.{Namespace, carries, find, taken, distinct, param_count, param_names, locals_of, distinct_locals}
use Rattle.syntax.specs.Refusals.{refusal, refused_by}
use Rattle.syntax.specs.declared.Fault.TheVariants as F
use Rattle.syntax.specs.declared.Refusal.{Refusal}
use Rattle.area.specs.Layout.{BYTES, LOCALS, WORDS}
use Rattle.syntax.specs.TypeUses.{elements, list_of, use_of}
use Rattle.syntax.specs.declared.List as Code
use Rattle.syntax.specs.declared.TypeUse.{TypeUse}
use Rattle.name_table.specs.Area.{names}
use Rattle.area.proofs.Kept.{kept_then}
use Rattle.type_table.specs.Table.{types_in}
use Rattle.type_table.proofs.Bounds.{params-few}
use Rattle.syntax.specs.Resolved.{type_no_of}
use Rattle.syntax.specs.declared.TypeNo.{TypeNo}
use Rattle.scope.specs.Scope.{scope_in, locals_in}
use Rattle.scope.specs.declared.Locals.{Locals}
use Rattle.frames.specs.Locals.{ids_at, ids_of, nameless, Mores, Clashes, PutsAll, SetsLocals}
use Rattle.frames.proofs.Entries.{ids_length}

-- ## Identifiers that come once

and_assoc : (a b c : Bool) → (a && (b && c)) ≡ ((a && b) && c)
and_assoc true b c = refl
and_assoc false b c = refl

module _ {I : Type 0} (eq : I → I → Bool) where
  -- of two lists the second is also held against the first
  pub distinct_append : (a xs ys : Namespace I) → distinct eq a (xs ++ ys) ≡ (distinct eq a xs && distinct eq (a ++ xs) ys)
  unfolding distinct
  distinct_append a [] ys = rw append-nil
  distinct_append a (x ∷ xs) ys =
      rw (distinct_append (a ++ (x ∷ [])) xs ys, append_assoc a (x ∷ []) xs) (and_assoc (not (taken eq x a)) (distinct eq (a ++ (x ∷ [])) xs) (distinct eq (a ++ (x ∷ xs)) ys))

  some-later : (o : Option ℕ) → is_some (later o) ≡ is_some o
  unfolding is_some
  some-later none = refl
  some-later (some n) = refl

  -- nameless places take no identifier
  taken-nameless : (k : ℕ) (i : Option I) (a : Namespace I) → taken eq i (replicate k none ++ a) ≡ taken eq i a
  unfolding taken find first_at
  taken-nameless k none a = refl
  taken-nameless zero (some i) a = refl
  taken-nameless (suc k) (some i) a = some-later (first_at (carries eq i) (replicate k none ++ a)) ∙ taken-nameless k (some i) a

  distinct-after : (k : ℕ) (a xs : Namespace I) → distinct eq (replicate k none ++ a) xs ≡ distinct eq a xs
  unfolding distinct
  distinct-after k a [] = refl
  distinct-after k a (x ∷ xs) = rw (taken-nameless k x a, append_assoc (replicate k none) a (x ∷ []), distinct-after k (a ++ (x ∷ [])) xs) refl

  distinct-replicate : (k : ℕ) (a : Namespace I) → distinct eq a (replicate k none) ≡ true
  unfolding distinct taken
  distinct-replicate zero a = refl
  distinct-replicate (suc k) a = distinct-replicate k (a ++ (none ∷ []))

  -- nameless places in front change nothing
  pub distinct-nameless : (k : ℕ) (xs : Namespace I) → distinct eq [] (replicate k none ++ xs) ≡ distinct eq [] xs
  distinct-nameless k xs =
      distinct_append [] (replicate k none) xs ∙ rw (distinct-replicate k []) (rw append-nil at (distinct-after k [] xs))

-- ## What the entries say

module _ (s w : List ℕ) (rec : ℕ) (all : Namespace Identifier) where
  are_distinct : distinct same_bytes [] all ≡ true → distinct_locals (scope_in s w) rec all ≡ ok tt
  unfolding distinct_locals scope_in
  are_distinct e = rw e

  are_not : (q : Refusal) → distinct same_bytes [] all ≡ false → q ≡ refusal F.NameTaken rec → distinct_locals (scope_in s w) rec all ≡ refused_by q
  unfolding distinct_locals scope_in
  are_not q e d = rw (e, d)

-- ## With an inline type

module _ (s w : List ℕ) (here k : ℕ) (rec : ℕ) (w' : List ℕ) (there m : ℕ) where
  pub inline_stops : (q : Refusal) → PutsAll s w 0 here k rec (Err q) w' → SetsLocals s w rec (ids_at s here k ++ ids_at s there m) (Err q) w'
  unfolding PutsAll SetsLocals names
  inline_stops q first =
      let o : Clashes s w 0 (ids_at s here k) rec q w' = first in
      let e : distinct same_bytes [] (ids_at s here k ++ ids_at s there m) ≡ false = distinct_append same_bytes [] (ids_at s here k) (ids_at s there m) ∙ rw o.twice refl in
      record { says = are_not s w rec (ids_at s here k ++ ids_at s there m) q e o.is; long = o.long }

  module _ (c : ℕ) (first : PutsAll s w 0 here k rec (Ok c) w') where
    mores : Mores s w 0 (ids_at s here k) c w'
    unfolding PutsAll
    mores = first

    stand : names c s w' LOCALS ≡ ids_at s here k
    unfolding names
    stand = mores.entries

    pub inline_area : WORDS ≤ length w → WORDS ≤ length w'
    inline_area h = omega (arith, mores.kept.long)

    pub inline_room : length (elements param s here k) ≤ 64 → length (elements param s there m) ≤ 64 → c + length (elements param s there m) ≤ 128
    inline_room a b = omega (arith, mores.all, ids_length s here k)

    module _ (w'' : List ℕ) where
      pub inline_refused : (q : Refusal) → PutsAll s w' c there m rec (Err q) w'' → SetsLocals s w rec (ids_at s here k ++ ids_at s there m) (Err q) w''
      unfolding PutsAll SetsLocals names
      inline_refused q second =
          let o : Clashes s w' c (ids_at s there m) rec q w'' = second in
          let e : distinct same_bytes [] (ids_at s here k ++ ids_at s there m) ≡ false =
          distinct_append same_bytes [] (ids_at s here k) (ids_at s there m) ∙ rw mores.free (rw stand at o.twice) in
          record { says = are_not s w rec (ids_at s here k ++ ids_at s there m) q e o.is; long = o.long ∙ mores.kept.long }

      pub inline_set : (count : ℕ) → length (elements param s here k) ≤ 64 → length (elements param s there m) ≤ 64 → PutsAll s w' c there m rec (Ok count) w''
          → SetsLocals s w rec (ids_at s here k ++ ids_at s there m) (Ok (record { nameless = 0; count = count })) w''
      unfolding PutsAll SetsLocals names locals_in
      inline_set count a b second =
          let o : Mores s w' c (ids_at s there m) count w'' = second in
          let e : distinct same_bytes [] (ids_at s here k ++ ids_at s there m) ≡ true =
          distinct_append same_bytes [] (ids_at s here k) (ids_at s there m) ∙ rw mores.free (rw stand at o.free) in
          record {
            distinct = are_distinct s w rec (ids_at s here k ++ ids_at s there m) e;
            locals = o.entries ∙ rw stand refl;
            few = record { nameless = omega arith; named = omega (arith, inline_room a b, o.all, ids_length s there m) };
            kept = kept_then mores.kept o.kept;
          }

pub ruleset inlines = (inline_stops, inline_refused, inline_set)

-- ## Without one

module _ (s w : List ℕ) (t : TypeNo) (here k : ℕ) (rec : ℕ) (w' : List ℕ) where
  pub nameless-stops : (q : Refusal) → PutsAll s w 0 here k rec (Err q) w' → SetsLocals s w rec (nameless s w t ++ ids_at s here k) (Err q) w'
  unfolding PutsAll SetsLocals names nameless
  nameless-stops q put =
      let o : Clashes s w 0 (ids_at s here k) rec q w' = put in
      let e : distinct same_bytes [] (nameless s w t ++ ids_at s here k) ≡ false = distinct-nameless same_bytes (param_count (at (types_in s w) t.0)) (ids_at s here k) ∙ o.twice in
      record { says = are_not s w rec (nameless s w t ++ ids_at s here k) q e o.is; long = o.long }

  pub nameless-set : (p count : ℕ) → p ≡ param_count (at (types_in s w) t.0) → length s ≤ BYTES → length (elements param s here k) ≤ 64 → PutsAll s w 0 here k rec (Ok count) w'
      → SetsLocals s w rec (nameless s w t ++ ids_at s here k) (Ok (record { nameless = p; count = count })) w'
  unfolding PutsAll SetsLocals names nameless locals_in
  nameless-set p count g l h put =
      let o : Mores s w 0 (ids_at s here k) count w' = put in
      let e : distinct same_bytes [] (nameless s w t ++ ids_at s here k) ≡ true = distinct-nameless same_bytes (param_count (at (types_in s w) t.0)) (ids_at s here k) ∙ o.free in
      record {
        distinct = are_distinct s w rec (nameless s w t ++ ids_at s here k) e;
        locals = rw (o.entries, g) refl;
        few = record { nameless = (let f = params-few s w t.0 in omega arith); named = omega (arith, o.all, ids_length s here k) };
        kept = o.kept;
      }

pub ruleset namelesses = (nameless-stops, nameless-set)

-- ## Of a function

module _ (s w : List ℕ) (n : TypeNo) (t : TypeUse) (ls : Code.List) (rec : ℕ) (r : Resolved Locals) (w' : List ℕ) (b : Bool) (e : b ≡ is_inline (use_of s t)) where
  pub locals_inline : b ≡ true → SetsLocals s w rec (ids_of s t.params ++ ids_of s ls) r w' → SetsLocals s w rec (locals_of (types_in s w) (type_no_of n) (use_of s t) (list_of param s ls)) r w'
  unfolding locals_of param_names ids_at
  locals_inline d h = rw (← e, d) h

  pub locals-nameless : b ≡ false → SetsLocals s w rec (nameless s w n ++ ids_of s ls) r w' → SetsLocals s w rec (locals_of (types_in s w) (type_no_of n) (use_of s t) (list_of param s ls)) r w'
  unfolding locals_of param_names ids_at nameless
  locals-nameless d h = rw (← e, d) h

pub ruleset localses = (locals_inline, locals-nameless)
